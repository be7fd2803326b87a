-- A node's lock cell keeps what was granted last after each step and start, and what a step that is cut off owes is such as a start may owe.
use Rattle.std.proofs.Common.{◌≡◌, ℕ, ◌+◌, ◌==◌, ◌≤◌, ◌&&◌, nat_le, nat_lt, Bool, true, false, cond, filter, fold, List, [], ◌∷◌, ◌++◌, map, flat_map, Option, Some, None, refl, sym, ap, subst, ◌∙◌, arith}
use Rattle.std.specs.List.{All}
use Rattle.std.proofs.lemmas.Bool.{false≢true}
use Rattle.std.proofs.lemmas.Bool.Decides.{nat_tests}
use Rattle.std.proofs.lemmas.List.{append_assoc}
use Rattle.std.proofs.lemmas.List.Elements.{All-append, All-cons, All-head, All-nil, All-push, All-tail, All-weaker}
use Rattle.mega_base.specs.declared.names.Epoch.{Epoch}
use Rattle.mega_base.specs.declared.names.GroupId.{GroupId}
use Rattle.mega_cluster.specs.declared.cluster.Cluster.{Cluster}
use Rattle.mega_coordinator.specs.declared.answers.Counted.{Counted}
use Rattle.mega_coordinator.specs.declared.answers.Counted.TheVariants.{No, Yes, Serving}
use Rattle.mega_coordinator.specs.declared.answers.NotValid.{NotValid}
use Rattle.mega_coordinator.specs.History.{epoch_after}
use Rattle.mega_locks.specs.declared.asked.Asked.{Asked}
use Rattle.mega_locks.specs.declared.asked.Asked.TheVariants.{Granted as IsGranted, Renewed, GreaterHeld, Over}
use Rattle.mega_locks.specs.History.{first_term, lapse_for, lock_of, nodes}
use Rattle.mega_wire.specs.declared.message.Body.{Body}
use Rattle.mega_wire.specs.declared.message.Body.TheVariants.{Acquire, Granted, Invalidate}
use Rattle.mega_wire.specs.declared.message.Message.{Message}
use Rattle.mega_rules.specs.Clock.{clock_of, start_of}
use Rattle.mega_rules.specs.Coordinators.{coordinator_calls, counts_notes, forget_notes, grant_notes, is_cell_in, lost_note, tick_notes, tick_told}
use Rattle.mega_rules.specs.Locks.{asked_for, cell_calls, grant_note, lapse_note, lapses_at, last_grant}
use Rattle.mega_rules.specs.Logs.{groups_of, prefix_of}
use Rattle.mega_rules.specs.Members.{cells, has_rows, is_cell, is_full, keep_of}
use Rattle.mega_rules.specs.Met.{Met, Starts, Crashes, Ticks, Begins, Takes, Sends, Unsends, Grants, Lapses, Counts, Forgets, Serves, Loses, Validates, Invalidates, Decides, Applies, Answers}
use Rattle.mega_rules.specs.Operations.{Node, Now, Setting}
use Rattle.mega_rules.specs.Acting.{validated_by}
use Rattle.mega_outcome.specs.declared.request.Request.{Request}
use Rattle.mega_rules.specs.Steps.{Begin, Decision, Event, Heard, Step, Take, Tick, all_act, applied_at, apply_note, apply_notes, at_first, at_open, begin_step, decision_note, first_settled, hears_message, if_new, lapse_notes, lease_notes, new_operation, news, onto, op_of, portion_of, refusal, start, start_items, start_note, start_notes, step, stored_after, take_step, taken, tick_step, ticked, told_decision, told_notes, unless_refused}
use Rattle.mega_rules.specs.Replies.{reply_to}
use Rattle.mega_leases.specs.Opening.{AreOwed}
use Rattle.mega_core.specs.of_node_laws.Acted.{own_item}
use Rattle.mega_core.proofs.of_node_laws.Ending.{all_heard, onto_append, step_met, taken_by}
use Rattle.mega_core.proofs.of_node_laws.Lasting.{IsHeard, Lasts, all_act_it, all_ticked_it, begun_it}
use Rattle.mega_promises.specs.Runs.{is_durable, owes, replies_in}
use Rattle.mega_durable.specs.Granted.{KeepsGrants, grant_in, is_among}
use Rattle.mega_durable.proofs.Granting.{IsStill, is_still, lapses_owed, nodes_apart, opening_keeps, same_keeps, still_cell, stills_same, take_keeps, tick_keeps}

-- neither kept on the log, nor told to the cell
abbrev is_plain : Met → Bool
is_plain (Decides group position entry) = false
is_plain one = is_still one

abbrev IsPlain : Met → Type 0
IsPlain one = is_plain one ≡ true

plain_still : (one : Met) → IsPlain one → IsStill one
plain_still (Decides group position entry) is = absurd (false≢true is)
plain_still _ is = is

plain_passes : (one : Met) → IsPlain one → is_durable one ≡ false
plain_passes (Decides group position entry) is = absurd (false≢true is)
plain_passes (Grants node epoch) is = absurd (false≢true is)
plain_passes (Lapses node epoch) is = absurd (false≢true is)
plain_passes _ is = refl

stills : (items : List Met) → All IsPlain items → All IsStill items
stills items plain = All-weaker IsPlain IsStill plain_still items plain

single : (one : Met) → IsPlain one → All IsPlain (one ∷ [])
single one is = All-cons IsPlain one [] is (All-nil IsPlain)

if_plain : (t : Bool) (items : List Met) → All IsPlain items → All IsPlain (cond t items [])
if_plain true items h = h
if_plain false items h = All-nil IsPlain

-- ---- what operations come to
record Plains (now : Now) : Type 0 where
  valid : All IsPlain now.valid
  answers : All IsPlain now.answers

plains_last : Lasts Plains ⊥
plains_last = record {
  keeps_it = λ now o about h. record { valid = h.valid; answers = h.answers };
  ends_it = λ now op answer h. record { valid = h.valid; answers = All-push IsPlain now.answers (Answers op answer) h.answers refl };
  sends_it = λ now sends more h. record { valid = h.valid; answers = h.answers };
  stores_it = λ now stored h. record { valid = h.valid; answers = h.answers };
  validates_it = λ now group p refusal h. validated now group p refusal h;
}
  where
    validated : (now : Now) (group : GroupId) (p : ℕ) (refusal : Option NotValid) → Plains now → Plains (validated_by now group p refusal)
    validated now group p None h = record { valid = All-push IsPlain now.valid (Validates group p) h.valid refl; answers = h.answers }
    validated now group p (Some refusal) h = h

plains_first : (met : List Met) (stored : GroupId → ℕ) → Plains (at_first met stored)
plains_first met stored = record { valid = All-nil IsPlain; answers = All-nil IsPlain }

applied_plain : (was : List Met) (was_stored : GroupId → ℕ) (met : List Met) (stored : GroupId → ℕ) (groups : List GroupId) → All IsPlain (flat_map (apply_note was was_stored met stored) groups)
applied_plain was was_stored met stored [] = All-nil IsPlain
applied_plain was was_stored met stored (group ∷ groups) =
    All-append IsPlain (apply_note was was_stored met stored group) (flat_map (apply_note was was_stored met stored) groups)
    (if_plain (nat_lt (applied_at was was_stored group) (applied_at met stored group)) (Applies group (applied_at met stored group) ∷ []) (single (Applies group (applied_at met stored group)) refl))
    (applied_plain was was_stored met stored groups)

applies_plain : (s : Setting) (was : List Met) (was_stored : GroupId → ℕ) (met : List Met) (stored : GroupId → ℕ) → All IsPlain (apply_notes s was was_stored met stored)
applies_plain s was was_stored met stored = if_plain (has_rows s.cluster s.me) (flat_map (apply_note was was_stored met stored) (groups_of met)) (applied_plain was was_stored met stored (groups_of met))

-- ---- what a tick tells of the lease
forgotten_plain : (epoch : Epoch) (cells : List ℕ) → All IsPlain (map (λ cell. Forgets cell epoch) cells)
forgotten_plain epoch [] = All-nil IsPlain
forgotten_plain epoch (cell ∷ cells) = All-cons IsPlain (Forgets cell epoch) (map (λ cell. Forgets cell epoch) cells) refl (forgotten_plain epoch cells)

forget_plain : (epoch : Option Epoch) (cells : List ℕ) → All IsPlain (forget_notes epoch cells)
forget_plain None cells = All-nil IsPlain
forget_plain (Some epoch) cells = forgotten_plain epoch cells

lost_plain : (epoch : Option Epoch) → All IsPlain (lost_note epoch)
lost_plain None = All-nil IsPlain
lost_plain (Some epoch) = single (Loses epoch) refl

lease_plain : (s : Setting) (met : List Met) (now : ℕ) → All IsPlain (lease_notes s met now)
lease_plain s met now = if_plain (is_full s.cluster s.me) (tick_notes s.cluster met now) (All-append IsPlain (forget_notes epoch gone) (lost_note lost) (forget_plain epoch gone) (lost_plain lost))
  where
    epoch : Option Epoch
    epoch = epoch_after (start_of met) s.cluster.cells (coordinator_calls s.cluster met)

    gone : List ℕ
    gone = filter (is_cell_in (tick_told s.cluster met now).forgot) (cells s.cluster)

    lost : Option Epoch
    lost = (tick_told s.cluster met now).lost

-- ---- what is owed
unsent_owed : (replies : List Message) (met : List Met) → AreOwed (map Unsends replies) met
unsent_owed [] met = tt
unsent_owed (message ∷ replies) met = (refl, unsent_owed replies (Unsends message ∷ met))

abbrev is_lapse : Met → Bool
is_lapse (Lapses node epoch) = true
is_lapse _ = false

abbrev IsNoLapse : Met → Type 0
IsNoLapse one = is_lapse one ≡ false

plain_no_lapse : (one : Met) → IsStill one → IsNoLapse one
plain_no_lapse (Lapses node epoch) is = absurd (false≢true is)
plain_no_lapse _ is = refl

no_lapse_owed : (notes : List Met) (replies : List Message) (met : List Met) → All IsNoLapse notes → AreOwed (filter is_durable notes ++ map Unsends replies) met
no_lapse_owed [] replies met none = unsent_owed replies met
no_lapse_owed (one ∷ notes) replies met none = by one (All-head IsNoLapse one notes none) (λ met. no_lapse_owed notes replies met (All-tail IsNoLapse one notes none))
  where
    by : (one : Met) → IsNoLapse one → ((met : List Met) → AreOwed (filter is_durable notes ++ map Unsends replies) met) → AreOwed (filter is_durable (one ∷ notes) ++ map Unsends replies) met
    by (Lapses node epoch) is rest = absurd (false≢true (sym is))
    by (Grants node epoch) is rest = (refl, rest (Grants node epoch ∷ met))
    by (Decides group position entry) is rest = (refl, rest (Decides group position entry ∷ met))
    by (Starts number) is rest = rest met
    by Crashes is rest = rest met
    by (Ticks now) is rest = rest met
    by (Begins op text) is rest = rest met
    by (Takes message) is rest = rest met
    by (Sends message) is rest = rest met
    by (Unsends message) is rest = rest met
    by (Counts cell epoch) is rest = rest met
    by (Forgets cell epoch) is rest = rest met
    by (Serves epoch) is rest = rest met
    by (Loses epoch) is rest = rest met
    by (Validates group position) is rest = rest met
    by (Invalidates group position) is rest = rest met
    by (Applies group position) is rest = rest met
    by (Answers op answer) is rest = rest met

-- what is plain owes nothing
plain_none : (notes : List Met) → All IsPlain notes → filter is_durable notes ≡ []
plain_none [] plain = refl
plain_none (one ∷ notes) plain = ap (λ test. cond test (one ∷ filter is_durable notes) (filter is_durable notes)) (plain_passes one (All-head IsPlain one notes plain)) ∙ plain_none notes (All-tail IsPlain one notes plain)

plain_behind : (notes rest : List Met) → All IsPlain rest → filter is_durable (notes ++ rest) ≡ filter is_durable notes
plain_behind [] rest plain = plain_none rest plain
plain_behind (one ∷ notes) rest plain = ap (λ (kept : List Met). cond (is_durable one) (one ∷ kept) kept) (plain_behind notes rest plain)

plain_before : (rest notes : List Met) → All IsPlain rest → filter is_durable (rest ++ notes) ≡ filter is_durable notes
plain_before [] notes plain = refl
plain_before (one ∷ rest) notes plain =
    ap (λ test. cond test (one ∷ filter is_durable (rest ++ notes)) (filter is_durable (rest ++ notes))) (plain_passes one (All-head IsPlain one rest plain)) ∙ plain_before rest notes (All-tail IsPlain one rest plain)

lapses_durable : (gone : ℕ → Option Epoch) (others : List ℕ) → filter is_durable (flat_map (λ node. lapse_note node (gone node)) others) ≡ flat_map (λ node. lapse_note node (gone node)) others
lapses_durable gone [] = refl
lapses_durable gone (node ∷ others) = by (gone node) (lapses_durable gone others)
  where
    by : (one : Option Epoch) → filter is_durable (flat_map (λ node. lapse_note node (gone node)) others) ≡ flat_map (λ node. lapse_note node (gone node)) others
        → filter is_durable (lapse_note node one ++ flat_map (λ node. lapse_note node (gone node)) others) ≡ lapse_note node one ++ flat_map (λ node. lapse_note node (gone node)) others
    by None rest = rest
    by (Some epoch) rest = ap (λ (kept : List Met). Lapses node epoch ∷ kept) rest

-- ---- a step: what its cell notes and decides, and behind it what is plain
record IsParted (s : Setting) (met : List Met) (own : Met) (notes : List Met) (replies : List Message) : Type 0 where
  told : List Met
  rest : List Met
  are : notes ≡ told ++ rest
  plain : All IsPlain rest
  keeps : KeepsGrants s.cluster s.me met → KeepsGrants s.cluster s.me (onto told (own ∷ met))
  owed : KeepsGrants s.cluster s.me met → AreOwed (filter is_durable told ++ map Unsends replies) (Crashes ∷ own ∷ met)

regroup : (told applies valid answers : List Met) → ((told ++ applies) ++ valid) ++ answers ≡ told ++ ((applies ++ valid) ++ answers)
regroup told applies valid answers = ap (λ (items : List Met). items ++ answers) (append_assoc told applies valid) ∙ append_assoc told (applies ++ valid) answers

all_plain : (applies valid answers : List Met) → All IsPlain applies → All IsPlain valid → All IsPlain answers → All IsPlain ((applies ++ valid) ++ answers)
all_plain applies valid answers a v w = All-append IsPlain (applies ++ valid) answers (All-append IsPlain applies valid a v) w

grant_no_lapse : (node : ℕ) (epoch : Epoch) (asked : Asked) → All IsNoLapse (grant_note node epoch asked)
grant_no_lapse node epoch IsGranted = All-cons IsNoLapse (Grants node epoch) [] refl (All-nil IsNoLapse)
grant_no_lapse node epoch Renewed = All-nil IsNoLapse
grant_no_lapse node epoch (GreaterHeld greatest) = All-nil IsNoLapse
grant_no_lapse node epoch (Over greatest) = All-nil IsNoLapse

if_no_lapse : (t : Bool) (items : List Met) → All IsNoLapse items → All IsNoLapse (cond t items [])
if_no_lapse true items h = h
if_no_lapse false items h = All-nil IsNoLapse

told_no_lapse : (s : Setting) (met : List Met) (from : ℕ) (body : Body) → All IsNoLapse (told_notes s met from body)
told_no_lapse s met from (Acquire cell epoch clock) = if_no_lapse _ (grant_note from epoch (asked_for s.cluster s.me met from epoch)) (grant_no_lapse from epoch (asked_for s.cluster s.me met from epoch))
told_no_lapse s met from (Granted cell epoch clock) = if_no_lapse _ (grant_notes s.cluster met cell epoch clock) (All-weaker IsStill IsNoLapse plain_no_lapse (grant_notes s.cluster met cell epoch clock) (still_cell cell epoch _ _))
told_no_lapse s met from (Invalidate op group position) = if_no_lapse _ (Invalidates group position.0 ∷ []) (All-cons IsNoLapse (Invalidates group position.0) [] refl (All-nil IsNoLapse))
told_no_lapse s met from _ = All-nil IsNoLapse

decision_still : (d : Option Decision) → All IsStill (decision_note d)
decision_still None = All-nil IsStill
decision_still (Some d) = All-cons IsStill (Decides d.group d.position d.entry) [] refl (All-nil IsStill)

taken_parts : (s : Setting) (node : Node) (m : Message) (ts : List Heard) (d : Option Decision) (told_news : List Message) → 1 ≤ s.me → All (IsHeard ⊥) ts
    → IsParted s node.met (Takes m) (taken s node m (told_notes s node.met m.from m.body) ts d (reply_to s.cluster s.me node.met m) told_news).notes (reply_to s.cluster s.me node.met m)
taken_parts s node m ts d told_news least heard = record {
  told = told ++ decision_note d;
  rest = (applies ++ now.valid) ++ now.answers;
  are = regroup (told ++ decision_note d) applies now.valid now.answers;
  plain = all_plain applies now.valid now.answers (applies_plain s node.met node.stored now.met now.stored) plains.valid plains.answers;
  keeps = λ keeps. subst (KeepsGrants s.cluster s.me) (sym (onto_append told (decision_note d) (Takes m ∷ node.met)))
      (same_keeps s.cluster s.me (onto told (Takes m ∷ node.met)) (onto (decision_note d) (onto told (Takes m ∷ node.met))) (stills_same s.cluster s.me (decision_note d) (onto told (Takes m ∷ node.met)) (decision_still d))
      (take_keeps s node.met m least keeps));
  owed = λ keeps. no_lapse_owed (told ++ decision_note d) (reply_to s.cluster s.me node.met m) (Crashes ∷ Takes m ∷ node.met)
      (All-append IsNoLapse told (decision_note d) (told_no_lapse s node.met m.from m.body) (All-weaker IsStill IsNoLapse plain_no_lapse (decision_note d) (decision_still d)));
}
  where
    told : List Met
    told = told_notes s node.met m.from m.body

    base : List Met
    base = onto (decision_note d) (onto told (Takes m ∷ node.met))

    now : Now
    now = all_act s (at_first base (stored_after s base node.stored d)) ts

    applies : List Met
    applies = apply_notes s node.met node.stored now.met now.stored

    plains : Plains now
    plains = all_act_it Plains ⊥ plains_last s ts (at_first base (stored_after s base node.stored d)) heard (plains_first base (stored_after s base node.stored d))

taken_by_parts : (s : Setting) (node : Node) (m : Message) (ts : List Heard) (told : Option Decision) → 1 ≤ s.me → All (IsHeard ⊥) ts → IsParted s node.met (Takes m) (taken_by s node m ts told).notes (reply_to s.cluster s.me node.met m)
taken_by_parts s node m ts (Some d) least heard = taken_parts s node m ts (if_new node.met (Some d)) [] least heard
taken_by_parts s node m ts None least heard = taken_parts s node m ts (if_new node.met (first_settled ts)) (news s (if_new node.met (first_settled ts))) least heard

is_cell_by : (c : Cluster) (me : ℕ) → 1 ≤ me → nat_le me c.cells ≡ true → is_cell c me ≡ true
is_cell_by c me least is = grind (arith, nat_tests)

no_cell_by : (c : Cluster) (me : ℕ) → nat_le me c.cells ≡ false → is_cell c me ≡ true → ⊥
no_cell_by c me is cell = grind (arith, nat_tests)

tick_parts : (s : Setting) (node : Node) (now : ℕ) → 1 ≤ s.me → IsParted s node.met (Ticks now) (tick_step s node now).notes []
tick_parts s node now least = record {
  told = lease_notes s node.met now ++ lapse_notes s node.met now;
  rest = (applies ++ acc.valid) ++ acc.answers;
  are = regroup (lease_notes s node.met now ++ lapse_notes s node.met now) applies acc.valid acc.answers;
  plain = all_plain applies acc.valid acc.answers (applies_plain s node.met node.stored acc.met acc.stored) plains.valid plains.answers;
  keeps = λ keeps. subst (KeepsGrants c s.me) (sym (onto_append lease (lapse_notes s node.met now) (Ticks now ∷ node.met))) (kept (nat_le s.me c.cells) refl keeps);
  owed = λ keeps. subst (λ (notes : List Met). AreOwed (notes ++ []) (Crashes ∷ Ticks now ∷ node.met)) (sym (plain_before lease (lapse_notes s node.met now) (lease_plain s node.met now))) (owing (nat_le s.me c.cells) refl keeps);
}
  where
    c : Cluster
    c = s.cluster

    lease : List Met
    lease = lease_notes s node.met now

    base : List Met
    base = onto (lapse_notes s node.met now) (onto lease (Ticks now ∷ node.met))

    acc : Now
    acc = fold (ticked s now) (at_first base (portion_of s node.met node.stored)) node.open_operations

    applies : List Met
    applies = apply_notes s node.met node.stored acc.met acc.stored

    plains : Plains acc
    plains = all_ticked_it Plains ⊥ plains_last s now node.open_operations (at_first base (portion_of s node.met node.stored)) (λ impossible. absurd impossible) (plains_first base (portion_of s node.met node.stored))

    kept : (test : Bool) → nat_le s.me c.cells ≡ test → KeepsGrants c s.me node.met → KeepsGrants c s.me (onto (cond test (lapses_at c s.me node.met now) []) (onto lease (Ticks now ∷ node.met)))
    kept true is keeps = tick_keeps c s.me now lease node.met (stills lease (lease_plain s node.met now)) keeps
    kept false is keeps = λ cell. absurd (no_cell_by c s.me is cell)

    owing : (test : Bool) → nat_le s.me c.cells ≡ test → KeepsGrants c s.me node.met → AreOwed (filter is_durable (cond test (lapses_at c s.me node.met now) []) ++ []) (Crashes ∷ Ticks now ∷ node.met)
    owing true is keeps =
        subst (λ (notes : List Met). AreOwed (notes ++ []) (Crashes ∷ Ticks now ∷ node.met)) (sym (lapses_durable (λ node'. lapse_for (cell_calls c s.me node.met) now (keep_of c) node') nodes))
        (lapses_owed (lock_of (cell_calls c s.me node.met)) (first_term (cell_calls c s.me node.met) now (keep_of c)) now nodes (Crashes ∷ Ticks now ∷ node.met) nodes_apart
        (λ node' among. keeps (is_cell_by c s.me least is) node' among) [] (λ met. tt))
    owing false is keeps = tt

begin_parts : (s : Setting) (node : Node) (request : Request) (text : List ℕ) → IsParted s node.met (Begins (op_of s node.met) text) (begin_step s node request text).notes []
begin_parts s node request text = record {
  told = [];
  rest = (applies ++ now.valid) ++ now.answers;
  are = refl;
  plain = all_plain applies now.valid now.answers (applies_plain s node.met node.stored now.met now.stored) plains.valid plains.answers;
  keeps = λ keeps is. keeps is;
  owed = λ keeps. tt;
}
  where
    base : List Met
    base = Begins (op_of s node.met) text ∷ node.met

    first : Now
    first = at_open (at_first base node.stored) node.open_operations

    now : Now
    now = unless_refused s first (new_operation (op_of s node.met) request (clock_of node.met)) (refusal s node request)

    applies : List Met
    applies = apply_notes s node.met node.stored now.met now.stored

    plains : Plains now
    plains = begun_it Plains ⊥ plains_last s first (new_operation (op_of s node.met) request (clock_of node.met)) (refusal s node request) (record { valid = All-nil IsPlain; answers = All-nil IsPlain })

step_parts : (s : Setting) (node : Node) (event : Event) → 1 ≤ s.me → IsParted s node.met (own_item s node event) (step s node event).notes (replies_in s.cluster s.me node.met event)
step_parts s node (Tick now) least = tick_parts s node now least
step_parts s node (Take m) least = taken_by_parts s node m (map (hears_message s (clock_of node.met) m) node.open_operations) (told_decision m.body) least (all_heard s (clock_of node.met) m node.open_operations)
step_parts s node (Begin request text) least = begin_parts s node request text

sent_still : (sends : List Message) → All IsStill (map Sends sends)
sent_still [] = All-nil IsStill
sent_still (m ∷ sends) = All-cons IsStill (Sends m) (map Sends sends) refl (sent_still sends)

-- ---- what is shown: each step keeps what was granted, a start does, and what a step that is cut off owes may be owed
pub step_keeps : (s : Setting) (node : Node) (event : Event) → 1 ≤ s.me → KeepsGrants s.cluster s.me node.met → KeepsGrants s.cluster s.me (step s node event).node.met
step_keeps s node event least keeps =
    subst (KeepsGrants s.cluster s.me) (sym (step_met s node event))
    (same_keeps s.cluster s.me noted (onto (map Sends made.sends) noted) (stills_same s.cluster s.me (map Sends made.sends) noted (sent_still made.sends))
    (subst (λ (notes : List Met). KeepsGrants s.cluster s.me (onto notes (own_item s node event ∷ node.met))) (sym parts.are)
    (subst (KeepsGrants s.cluster s.me) (sym (onto_append parts.told parts.rest (own_item s node event ∷ node.met)))
    (same_keeps s.cluster s.me (onto parts.told (own_item s node event ∷ node.met)) (onto parts.rest (onto parts.told (own_item s node event ∷ node.met)))
    (stills_same s.cluster s.me parts.rest (onto parts.told (own_item s node event ∷ node.met)) (stills parts.rest parts.plain)) (parts.keeps keeps)))))
  where
    made : Step
    made = step s node event

    noted : List Met
    noted = onto made.notes (own_item s node event ∷ node.met)

    parts : IsParted s node.met (own_item s node event) made.notes (replies_in s.cluster s.me node.met event)
    parts = step_parts s node event least

pub cut_owed : (s : Setting) (node : Node) (event : Event) → 1 ≤ s.me → KeepsGrants s.cluster s.me node.met
    → AreOwed (owes (step s node event) (replies_in s.cluster s.me node.met event)) (Crashes ∷ own_item s node event ∷ node.met)
cut_owed s node event least keeps =
    subst (λ (notes : List Met). AreOwed (notes ++ map Unsends (replies_in s.cluster s.me node.met event)) (Crashes ∷ own_item s node event ∷ node.met))
    (sym (ap (filter is_durable) parts.are ∙ plain_behind parts.told parts.rest parts.plain)) (parts.owed keeps)
  where
    parts : IsParted s node.met (own_item s node event) (step s node event).notes (replies_in s.cluster s.me node.met event)
    parts = step_parts s node event least

shown_plain : (s : Setting) (met : List Met) → All IsPlain (start_notes s met)
shown_plain s met = if_plain (has_rows s.cluster s.me) (flat_map (start_note met) (groups_of met)) (each (groups_of met))
  where
    each : (groups : List GroupId) → All IsPlain (flat_map (start_note met) groups)
    each [] = All-nil IsPlain
    each (group ∷ groups) = All-append IsPlain (start_note met group) (flat_map (start_note met) groups) (if_plain (nat_lt 0 (prefix_of met group)) (Applies group (prefix_of met group) ∷ []) (single (Applies group (prefix_of met group)) refl)) (each groups)

pub start_keeps : (s : Setting) (number : ℕ) (met owed : List Met) → AreOwed owed met → KeepsGrants s.cluster s.me (start s number owed met).met
start_keeps s number met owed are =
    subst (KeepsGrants s.cluster s.me) (sym (onto_append (Starts number ∷ owed) notes met))
    (same_keeps s.cluster s.me opened (onto notes opened) (stills_same s.cluster s.me notes opened (stills notes (shown_plain s opened))) (opening_keeps s.cluster s.me number met owed are))
  where
    opened : List Met
    opened = onto owed (Starts number ∷ met)

    notes : List Met
    notes = start_notes s opened
