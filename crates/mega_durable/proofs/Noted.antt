-- What a step notes, and what it sends behind its replies, by what a voter's logs keep of it.
use Rattle.std.proofs.Common.{◌≡◌, ℕ, ◌+◌, ◌≤◌, nat_le, nat_lt, Bool, true, false, cond, filter, List, [], ◌∷◌, ◌++◌, length, map, flat_map, fold, Option, Some, None, refl, sym, ap, subst, ◌∙◌, arith}
use Rattle.std.specs.List.{All, cons_option}
use Rattle.std.proofs.lemmas.List.{append_assoc}
use Rattle.std.proofs.lemmas.List.Elements.{All-append, All-cons, All-head, All-nil, All-push, All-tail, All-weaker}
use Rattle.mega_base.specs.declared.names.Epoch.{Epoch}
use Rattle.mega_base.specs.declared.names.GroupId.{GroupId}
use Rattle.mega_coordinator.specs.declared.answers.Counted.{Counted}
use Rattle.mega_coordinator.specs.declared.answers.Counted.TheVariants.{No, Yes, Serving}
use Rattle.mega_coordinator.specs.declared.answers.NotValid.{NotValid}
use Rattle.mega_locks.specs.declared.asked.Asked.{Asked}
use Rattle.mega_locks.specs.declared.asked.Asked.TheVariants.{Granted as Grant, Renewed, GreaterHeld, Over}
use Rattle.mega_locks.specs.History.{lapse_for}
use Rattle.mega_wal.specs.declared.item.JournalItem.{JournalItem}
use Rattle.mega_wire.specs.declared.message.Body.{Body}
use Rattle.mega_wire.specs.declared.message.Body.TheVariants.{Acquire, Granted, Invalidate}
use Rattle.mega_wire.specs.declared.message.Message.{Message}
use Rattle.mega_outcome.specs.declared.request.Request.{Request}
use Rattle.mega_rules.specs.Acting.{validated_by}
use Rattle.mega_coordinator.specs.History.{epoch_after}
use Rattle.mega_rules.specs.Clock.{clock_of, start_of}
use Rattle.mega_rules.specs.Coordinators.{acquires_at, coordinator_calls, counts_notes, forget_notes, grant_notes, is_cell_in, lost_note, tick_notes, tick_told}
use Rattle.mega_rules.specs.Locks.{asked_for, cell_calls, grant_note, lapse_note, lapses_at}
use Rattle.mega_rules.specs.Logs.{groups_of}
use Rattle.mega_rules.specs.Members.{cells, has_rows, is_full, keep_of}
use Rattle.mega_rules.specs.Met.{Met, Answers, Applies, Begins, Counts, Crashes, Decides, Forgets, Grants, Invalidates, Lapses, Loses, Sends, Serves, Starts, Takes, Ticks, Unsends, Validates}
use Rattle.mega_rules.specs.Operations.{Node, Now, Operation, Setting}
use Rattle.mega_rules.specs.Replies.{reply_to}
use Rattle.mega_rules.specs.Steps.{Begin, Decision, Event, Heard, Step, Take, Tick, all_act, applied_at, apply_note, apply_notes, at_first, at_open, background, begin_step, decision_note, first_settled, hears_message, if_new, lapse_notes, lease_notes, new_operation, news, onto, op_of, portion_of, refusal, step, stored_after, take_step, taken, tick_step, ticked, told_decision, told_notes, unless_refused}
use Rattle.mega_voter.specs.Journal.{item_of, journal_of}
use Rattle.mega_core.specs.of_node_laws.Asking.{Asks}
use Rattle.mega_core.proofs.of_node_laws.Acting.{acquires_at_asks, background_asks, news_ask}
use Rattle.mega_core.proofs.of_node_laws.Ending.{ActsOn, acting_begins, acting_lasts, all_heard, onto_append, taken_by}
use Rattle.mega_core.proofs.of_node_laws.Lasting.{IsHeard, Lasts, all_act_it, all_ticked_it, begun_it}
use Rattle.mega_promises.specs.Runs.{is_durable, replies_in}

-- neither a start nor a message
abbrev pub is_noted : Met → Bool
is_noted (Starts start) = false
is_noted (Sends message) = false
is_noted (Unsends message) = false
is_noted _ = true

abbrev pub IsNoted : Met → Type 0
IsNoted one = is_noted one ≡ true

-- and not kept
abbrev pub IsPassing : Met → Type 0
IsPassing one = (is_noted one ≡ true) × (is_durable one ≡ false)

pub passing_unkept : (one : Met) → is_noted one ≡ true → is_durable one ≡ false → (met : List Met) → item_of met one ≡ None
passing_unkept (Starts start) noted passes met = absurd (cc)
passing_unkept (Sends message) noted passes met = absurd (cc)
passing_unkept (Unsends message) noted passes met = absurd (cc)
passing_unkept (Grants node epoch) noted passes met = absurd (cc)
passing_unkept (Lapses node epoch) noted passes met = absurd (cc)
passing_unkept (Decides group position entry) noted passes met = absurd (cc)
passing_unkept _ noted passes met = refl

-- ---- things that are noted, of which the logs keep at most so many
pub record AreNotes (most : ℕ) (items : List Met) : Type 0 where
  pub noted : All IsNoted items
  pub few : (met : List Met) → length (journal_of (onto items met)) ≤ most + length (journal_of met)

no_notes : AreNotes 0 []
no_notes = record { noted = All-nil IsNoted; few = λ met. omega arith }

one_option : (found : Option JournalItem) (items : List JournalItem) → length (cons_option found items) ≤ 1 + length items
one_option None items = omega arith
one_option (Some item) items = omega arith

one_note : (one : Met) → IsNoted one → AreNotes 1 (one ∷ [])
one_note one noted = record { noted = All-cons IsNoted one [] noted (All-nil IsNoted); few = λ met. one_option (item_of met one) (journal_of met) }

both_notes : (a b : ℕ) (first second : List Met) → AreNotes a first → AreNotes b second → AreNotes (a + b) (first ++ second)
both_notes a b first second one two = record {
  noted = All-append IsNoted first second one.noted two.noted;
  few = λ met. subst (λ (all : List Met). length (journal_of all) ≤ a + b + length (journal_of met)) (sym (onto_append first second met))
      (sum a b (length (journal_of met)) (length (journal_of (onto first met))) (length (journal_of (onto second (onto first met)))) (one.few met) (two.few (onto first met)));
}
  where
    sum : (a b was mid now : ℕ) → mid ≤ a + was → now ≤ b + mid → now ≤ a + b + was
    sum a b was mid now le more = omega arith

more_notes : (a b : ℕ) (items : List Met) → a ≤ b → AreNotes a items → AreNotes b items
more_notes a b items le notes = record { noted = notes.noted; few = λ met. least a b (length (journal_of met)) (length (journal_of (onto items met))) le (notes.few met) }
  where
    least : (a b was now : ℕ) → a ≤ b → now ≤ a + was → now ≤ b + was
    least a b was now le few = omega arith

more_passing : (one : Met) (items : List Met) → IsPassing one → AreNotes 0 items → AreNotes 0 (one ∷ items)
more_passing one items is rest = record {
  noted = All-cons IsNoted one items is.0 rest.noted;
  few = λ met. subst (λ (n : ℕ). length (journal_of (onto items (one ∷ met))) ≤ 0 + n) (ap (λ found. length (cons_option found (journal_of met))) (passing_unkept one is.0 is.1 met)) (rest.few (one ∷ met));
}

passing_notes : (items : List Met) → All IsPassing items → AreNotes 0 items
passing_notes [] passing = no_notes
passing_notes (one ∷ items) passing = more_passing one items (All-head IsPassing one items passing) (passing_notes items (All-tail IsPassing one items passing))

if_notes : (n : ℕ) (t : Bool) (items : List Met) → AreNotes n items → AreNotes n (cond t items [])
if_notes n true items notes = notes
if_notes n false items notes = more_notes 0 n [] (omega arith) no_notes

if_passing : (t : Bool) (items : List Met) → All IsPassing items → All IsPassing (cond t items [])
if_passing true items h = h
if_passing false items h = All-nil IsPassing

unless_passing : (t : Bool) (items : List Met) → All IsPassing items → All IsPassing (cond t [] items)
unless_passing true items h = All-nil IsPassing
unless_passing false items h = h

single : (one : Met) → IsPassing one → All IsPassing (one ∷ [])
single one passing = All-cons IsPassing one [] passing (All-nil IsPassing)

-- ---- what a message tells
grant_notes_few : (node : ℕ) (epoch : Epoch) (asked : Asked) → AreNotes 1 (grant_note node epoch asked)
grant_notes_few node epoch Grant = one_note (Grants node epoch) refl
grant_notes_few node epoch Renewed = more_notes 0 1 [] (omega arith) no_notes
grant_notes_few node epoch (GreaterHeld greatest) = more_notes 0 1 [] (omega arith) no_notes
grant_notes_few node epoch (Over greatest) = more_notes 0 1 [] (omega arith) no_notes

count_passing : (cell : ℕ) (epoch : Epoch) (was : Bool) → All IsPassing (cond was [] (Counts cell epoch ∷ []))
count_passing cell epoch was = unless_passing was (Counts cell epoch ∷ []) (single (Counts cell epoch) (refl, refl))

counts_passing : (cell : ℕ) (epoch : Epoch) (was : Bool) (counted : Counted) → All IsPassing (counts_notes cell epoch was counted)
counts_passing cell epoch was No = All-nil IsPassing
counts_passing cell epoch was Yes = count_passing cell epoch was
counts_passing cell epoch was Serving = All-append IsPassing (cond was [] (Counts cell epoch ∷ [])) (Serves epoch ∷ []) (count_passing cell epoch was) (single (Serves epoch) (refl, refl))

told_few : (s : Setting) (met : List Met) (from : ℕ) (body : Body) → AreNotes 1 (told_notes s met from body)
told_few s met from (Acquire cell epoch clock) = if_notes 1 _ (grant_note from epoch (asked_for s.cluster s.me met from epoch)) (grant_notes_few from epoch (asked_for s.cluster s.me met from epoch))
told_few s met from (Granted cell epoch clock) =
    if_notes 1 _ (grant_notes s.cluster met cell epoch clock) (more_notes 0 1 (grant_notes s.cluster met cell epoch clock) (omega arith) (passing_notes (grant_notes s.cluster met cell epoch clock) (counts_passing cell epoch _ _)))
told_few s met from (Invalidate op group position) =
    if_notes 1 _ (Invalidates group position.0 ∷ []) (more_notes 0 1 (Invalidates group position.0 ∷ []) (omega arith) (passing_notes (Invalidates group position.0 ∷ []) (single (Invalidates group position.0) (refl, refl))))
told_few s met from _ = more_notes 0 1 [] (omega arith) no_notes

decision_few : (d : Option Decision) → AreNotes 1 (decision_note d)
decision_few None = more_notes 0 1 [] (omega arith) no_notes
decision_few (Some d) = one_note (Decides d.group d.position d.entry) refl

-- ---- what a tick tells
forgotten_passing : (epoch : Epoch) (cells : List ℕ) → All IsPassing (map (λ cell. Forgets cell epoch) cells)
forgotten_passing epoch [] = All-nil IsPassing
forgotten_passing epoch (cell ∷ cells) = All-cons IsPassing (Forgets cell epoch) (map (λ cell. Forgets cell epoch) cells) (refl, refl) (forgotten_passing epoch cells)

forget_passing : (epoch : Option Epoch) (cells : List ℕ) → All IsPassing (forget_notes epoch cells)
forget_passing None cells = All-nil IsPassing
forget_passing (Some epoch) cells = forgotten_passing epoch cells

lost_passing : (epoch : Option Epoch) → All IsPassing (lost_note epoch)
lost_passing None = All-nil IsPassing
lost_passing (Some epoch) = single (Loses epoch) (refl, refl)

lease_passing : (s : Setting) (met : List Met) (now : ℕ) → All IsPassing (lease_notes s met now)
lease_passing s met now = if_passing (is_full s.cluster s.me) (tick_notes s.cluster met now) (All-append IsPassing (forget_notes epoch gone) (lost_note lost) (forget_passing epoch gone) (lost_passing lost))
  where
    epoch : Option Epoch
    epoch = epoch_after (start_of met) s.cluster.cells (coordinator_calls s.cluster met)

    gone : List ℕ
    gone = filter (is_cell_in (tick_told s.cluster met now).forgot) (cells s.cluster)

    lost : Option Epoch
    lost = (tick_told s.cluster met now).lost

lapse_few : (node : ℕ) (epoch : Option Epoch) → AreNotes 1 (lapse_note node epoch)
lapse_few node None = more_notes 0 1 [] (omega arith) no_notes
lapse_few node (Some epoch) = one_note (Lapses node epoch) refl

each_few : (notes : ℕ → List Met) (nodes : List ℕ) → ((node : ℕ) → AreNotes 1 (notes node)) → AreNotes (length nodes) (flat_map notes nodes)
each_few notes [] each = no_notes
each_few notes (node ∷ nodes) each =
    more_notes (1 + length nodes) (length (node ∷ nodes)) (notes node ++ flat_map notes nodes) (omega arith) (both_notes 1 (length nodes) (notes node) (flat_map notes nodes) (each node) (each_few notes nodes each))

lapses_few : (s : Setting) (met : List Met) (now : ℕ) → AreNotes 9 (lapse_notes s met now)
lapses_few s met now = if_notes 9 (nat_le s.me s.cluster.cells) (lapses_at s.cluster s.me met now) (each_few (λ node. lapse_note node (lapsed node)) (1 ∷ 2 ∷ 3 ∷ 4 ∷ 5 ∷ 6 ∷ 7 ∷ 8 ∷ 9 ∷ []) (λ node. lapse_few node (lapsed node)))
  where
    lapsed : ℕ → Option Epoch
    lapsed node = lapse_for (cell_calls s.cluster s.me met) now (keep_of s.cluster) node

-- ---- what is applied, and what operations come to
applied_passing : (was : List Met) (was_stored : GroupId → ℕ) (met : List Met) (stored : GroupId → ℕ) (groups : List GroupId) → All IsPassing (flat_map (apply_note was was_stored met stored) groups)
applied_passing was was_stored met stored [] = All-nil IsPassing
applied_passing was was_stored met stored (group ∷ groups) =
    All-append IsPassing (apply_note was was_stored met stored group) (flat_map (apply_note was was_stored met stored) groups)
    (if_passing (nat_lt (applied_at was was_stored group) (applied_at met stored group)) (Applies group (applied_at met stored group) ∷ []) (single (Applies group (applied_at met stored group)) (refl, refl)))
    (applied_passing was was_stored met stored groups)

applies_passing : (s : Setting) (was : List Met) (was_stored : GroupId → ℕ) (met : List Met) (stored : GroupId → ℕ) → All IsPassing (apply_notes s was was_stored met stored)
applies_passing s was was_stored met stored = if_passing (has_rows s.cluster s.me) (flat_map (apply_note was was_stored met stored) (groups_of met)) (applied_passing was was_stored met stored (groups_of met))

record Passes (now : Now) : Type 0 where
  valid : All IsPassing now.valid
  answers : All IsPassing now.answers

passes_lasts : Lasts Passes ⊥
passes_lasts = record {
  keeps_it = λ now o about h. record { valid = h.valid; answers = h.answers };
  ends_it = λ now op answer h. record { valid = h.valid; answers = All-push IsPassing now.answers (Answers op answer) h.answers (refl, refl) };
  sends_it = λ now sends more h. record { valid = h.valid; answers = h.answers };
  stores_it = λ now stored h. record { valid = h.valid; answers = h.answers };
  validates_it = λ now group p refusal h. validated now group p refusal h;
}
  where
    validated : (now : Now) (group : GroupId) (p : ℕ) (refusal : Option NotValid) → Passes now → Passes (validated_by now group p refusal)
    validated now group p None h = record { valid = All-push IsPassing now.valid (Validates group p) h.valid (refl, refl); answers = h.answers }
    validated now group p (Some refusal) h = h

passes_first : (met : List Met) (stored : GroupId → ℕ) → Passes (at_first met stored)
passes_first met stored = record { valid = All-nil IsPassing; answers = All-nil IsPassing }

-- ---- a step
-- it sends its replies, and then what is neither a promise nor a vote, and its logs keep at most ten of its notes
pub record HasParts (made : Step) (replies : List Message) : Type 0 where
  pub rest : List Message
  pub sends : made.sends ≡ replies ++ rest
  pub asks : All Asks rest
  pub notes : AreNotes 10 made.notes

all_notes : (a b : ℕ) (locks durable applies valid answers : List Met) → AreNotes a locks → AreNotes b durable → All IsPassing applies → All IsPassing valid → All IsPassing answers → a + b ≤ 10
    → AreNotes 10 ((((locks ++ durable) ++ applies) ++ valid) ++ answers)
all_notes a b locks durable applies valid answers one two three four five le =
    more_notes (a + b + 0 + 0 + 0) 10 ((((locks ++ durable) ++ applies) ++ valid) ++ answers) (sum a b le)
    (both_notes (a + b + 0 + 0) 0 (((locks ++ durable) ++ applies) ++ valid) answers
    (both_notes (a + b + 0) 0 ((locks ++ durable) ++ applies) valid
    (both_notes (a + b) 0 (locks ++ durable) applies (both_notes a b locks durable one two) (passing_notes applies three))
    (passing_notes valid four))
    (passing_notes answers five))
  where
    sum : (a b : ℕ) → a + b ≤ 10 → a + b + 0 + 0 + 0 ≤ 10
    sum a b le = omega arith

taken_parts : (s : Setting) (node : Node) (m : Message) (ts : List Heard) (d : Option Decision) (told_news : List Message) → All (IsHeard ⊥) ts → All Asks told_news
    → HasParts (taken s node m (told_notes s node.met m.from m.body) ts d (reply_to s.cluster s.me node.met m) told_news) (reply_to s.cluster s.me node.met m)
taken_parts s node m ts d told_news heard asks = record {
  rest = told_news ++ now.sends;
  sends = append_assoc (reply_to s.cluster s.me node.met m) told_news now.sends;
  asks = All-append Asks told_news now.sends asks acted.sends;
  notes = all_notes 1 1 told (decision_note d) (apply_notes s node.met node.stored now.met now.stored) now.valid now.answers
      (told_few s node.met m.from m.body) (decision_few d) (applies_passing s node.met node.stored now.met now.stored) passes.valid passes.answers (omega arith);
}
  where
    told : List Met
    told = told_notes s node.met m.from m.body

    base : List Met
    base = onto (decision_note d) (onto told (Takes m ∷ node.met))

    now : Now
    now = all_act s (at_first base (stored_after s base node.stored d)) ts

    acted : ActsOn now
    acted = all_act_it ActsOn ⊥ acting_lasts s ts (at_first base (stored_after s base node.stored d)) heard (acting_begins _ refl refl refl)

    passes : Passes now
    passes = all_act_it Passes ⊥ passes_lasts s ts (at_first base (stored_after s base node.stored d)) heard (passes_first base (stored_after s base node.stored d))

taken_by_parts : (s : Setting) (node : Node) (m : Message) (ts : List Heard) (told : Option Decision) → All (IsHeard ⊥) ts → HasParts (taken_by s node m ts told) (reply_to s.cluster s.me node.met m)
taken_by_parts s node m ts (Some d) heard = taken_parts s node m ts (if_new node.met (Some d)) [] heard (All-nil Asks)
taken_by_parts s node m ts None heard = taken_parts s node m ts (if_new node.met (first_settled ts)) (news s (if_new node.met (first_settled ts))) heard (news_ask s (if_new node.met (first_settled ts)))

take_parts : (s : Setting) (node : Node) (m : Message) → HasParts (take_step s node m) (reply_to s.cluster s.me node.met m)
take_parts s node m = taken_by_parts s node m (map (hears_message s (clock_of node.met) m) node.open_operations) (told_decision m.body) (all_heard s (clock_of node.met) m node.open_operations)

tick_parts : (s : Setting) (node : Node) (now : ℕ) → HasParts (tick_step s node now) []
tick_parts s node now = record {
  rest = (acquires_at s.cluster s.me node.met now ++ acc.sends) ++ background s node.met now;
  sends = refl;
  asks = All-append Asks (acquires_at s.cluster s.me node.met now ++ acc.sends) (background s node.met now)
      (All-append Asks (acquires_at s.cluster s.me node.met now) acc.sends (acquires_at_asks s.cluster s.me node.met now)
      (all_ticked_it ActsOn ⊥ acting_lasts s now node.open_operations (at_first base (portion_of s node.met node.stored)) (λ impossible. absurd impossible) (acting_begins _ refl refl refl)).sends)
      (background_asks s node.met now);
  notes = all_notes 0 9 (lease_notes s node.met now) (lapse_notes s node.met now) (apply_notes s node.met node.stored acc.met acc.stored) acc.valid acc.answers
      (passing_notes (lease_notes s node.met now) (lease_passing s node.met now)) (lapses_few s node.met now) (applies_passing s node.met node.stored acc.met acc.stored) passes.valid passes.answers (omega arith);
}
  where
    base : List Met
    base = onto (lapse_notes s node.met now) (onto (lease_notes s node.met now) (Ticks now ∷ node.met))

    acc : Now
    acc = fold (ticked s now) (at_first base (portion_of s node.met node.stored)) node.open_operations

    passes : Passes acc
    passes = all_ticked_it Passes ⊥ passes_lasts s now node.open_operations (at_first base (portion_of s node.met node.stored)) (λ impossible. absurd impossible) (passes_first base (portion_of s node.met node.stored))

begin_parts : (s : Setting) (node : Node) (request : Request) (text : List ℕ) → HasParts (begin_step s node request text) []
begin_parts s node request text = record {
  rest = now.sends;
  sends = refl;
  asks = (begun_it ActsOn ⊥ acting_lasts s first (new_operation (op_of s node.met) request (clock_of node.met)) (refusal s node request) (acting_begins _ refl refl refl)).sends;
  notes = all_notes 0 0 [] [] (apply_notes s node.met node.stored now.met now.stored) now.valid now.answers no_notes no_notes (applies_passing s node.met node.stored now.met now.stored) passes.valid passes.answers (omega arith);
}
  where
    base : List Met
    base = Begins (op_of s node.met) text ∷ node.met

    first : Now
    first = at_open (at_first base node.stored) node.open_operations

    now : Now
    now = unless_refused s first (new_operation (op_of s node.met) request (clock_of node.met)) (refusal s node request)

    passes : Passes now
    passes = begun_it Passes ⊥ passes_lasts s first (new_operation (op_of s node.met) request (clock_of node.met)) (refusal s node request) (record { valid = All-nil IsPassing; answers = All-nil IsPassing })

pub step_parts : (s : Setting) (node : Node) (event : Event) → HasParts (step s node event) (replies_in s.cluster s.me node.met event)
step_parts s node (Tick now) = tick_parts s node now
step_parts s node (Take m) = take_parts s node m
step_parts s node (Begin request text) = begin_parts s node request text
