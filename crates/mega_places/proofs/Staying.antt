-- A node that is up stays so through its steps.
use Rattle.mega_coordinator.specs.History.{epoch_after}
use Rattle.mega_locks.specs.History.{lapse_for, nodes}
use Rattle.std.proofs.Common.{◌≡◌, ℕ, nat_lt, nat_le, ◌&&◌, ◌==◌, Bool, true, false, cond, List, [], ◌∷◌, ◌++◌, map, flat_map, Option, Some, None, refl, fold, filter, ◌∙◌}
use Rattle.std.specs.List.{All}
use Rattle.std.proofs.lemmas.List.Elements.{All-append, All-cons, All-head, All-nil, All-push, All-tail}
use Rattle.mega_base.specs.declared.names.Epoch.{Epoch}
use Rattle.mega_base.specs.declared.names.GroupId.{GroupId}
use Rattle.mega_coordinator.specs.declared.answers.Counted.{Counted}
use Rattle.mega_coordinator.specs.declared.answers.Counted.TheVariants.{No, Yes, Serving}
use Rattle.mega_coordinator.specs.declared.answers.NotValid.{NotValid}
use Rattle.mega_locks.specs.declared.asked.Asked.{Asked}
use Rattle.mega_locks.specs.declared.asked.Asked.TheVariants.{Granted as GrantedAnswer, Renewed, GreaterHeld, Over}
use Rattle.mega_wire.specs.declared.message.Message.{Message}
use Rattle.mega_wire.specs.declared.message.Body.{Body}
use Rattle.mega_wire.specs.declared.message.Body.TheVariants.{Where, Top, Accept, Accepted, Refused, Prepare, Promise, Invalidate, Invalidated, Dead, Held, Unheld, Decide, Fetch, Have, HaveNot, Acquire, Granted, Past, Request as Requested, Reply}
use Rattle.mega_outcome.specs.declared.request.Request.{Request}
use Rattle.mega_rules.specs.Clock.{clock_of, is_up, start_of}
use Rattle.mega_rules.specs.Coordinators.{counts_notes, grant_notes, acquires_at, coordinator_calls, forget_notes, is_cell_in, lost_note, tick_notes, tick_told}
use Rattle.mega_rules.specs.Locks.{asked_for, grant_note, cell_calls, lapse_note, lapses_at}
use Rattle.mega_rules.specs.Logs.{groups_of}
use Rattle.mega_rules.specs.Members.{has_rows, is_full, cells, keep_of}
use Rattle.mega_rules.specs.Met.{Met, Starts, Crashes, Ticks, Begins, Takes, Sends, Unsends, Grants, Lapses, Counts, Forgets, Serves, Loses, Validates, Invalidates, Decides, Applies, Answers}
use Rattle.mega_rules.specs.Operations.{Node, Now, Setting}
use Rattle.mega_rules.specs.Acting.{validated_by}
use Rattle.mega_rules.specs.Replies.{reply_to}
use Rattle.mega_rules.specs.Steps.{Begin, Decision, Event, Heard, Take, all_act, applied_at, apply_note, apply_notes, at_first, at_open, decision_note, first_settled, hears_message, if_new, new_operation, news, onto, op_of, refusal, step, step_of, stored_after, taken, told_decision, told_notes, unless_refused, Tick, background, lapse_notes, lease_notes, portion_of, ticked}
use Rattle.mega_node_laws.proofs.Ending.{all_heard, taken_by}
use Rattle.mega_node_laws.proofs.Lasting.{IsHeard, Lasts, all_act_it, begun_it, all_ticked_it}

-- a start and a crash alone tell whether a node is up
abbrev is_turning : Met → Bool
is_turning (Starts start) = true
is_turning Crashes = true
is_turning _ = false

abbrev IsSteady : Met → Type 0
IsSteady one = is_turning one ≡ false

-- a node that is up stays so, in the same start
pub record Stays (old new : List Met) : Type 0 where
  pub up : is_up old ≡ true → is_up new ≡ true
  pub start : start_of new ≡ start_of old

steady_up : (one : Met) (met : List Met) → IsSteady one → Stays met (one ∷ met)
steady_up (Starts start) met steady = let no : ⊥ = cc in absurd no
steady_up Crashes met steady = let no : ⊥ = cc in absurd no
steady_up (Ticks now) met steady = record { up = λ was. was; start = refl }
steady_up (Begins op text) met steady = record { up = λ was. was; start = refl }
steady_up (Takes message) met steady = record { up = λ was. was; start = refl }
steady_up (Sends message) met steady = record { up = λ was. was; start = refl }
steady_up (Unsends message) met steady = record { up = λ was. was; start = refl }
steady_up (Grants other epoch) met steady = record { up = λ was. was; start = refl }
steady_up (Lapses other epoch) met steady = record { up = λ was. was; start = refl }
steady_up (Counts cell epoch) met steady = record { up = λ was. was; start = refl }
steady_up (Forgets cell epoch) met steady = record { up = λ was. was; start = refl }
steady_up (Serves epoch) met steady = record { up = λ was. was; start = refl }
steady_up (Loses epoch) met steady = record { up = λ was. was; start = refl }
steady_up (Validates group position) met steady = record { up = λ was. was; start = refl }
steady_up (Invalidates group position) met steady = record { up = λ was. was; start = refl }
steady_up (Decides group position entry) met steady = record { up = λ was. was; start = refl }
steady_up (Applies group position) met steady = record { up = λ was. was; start = refl }
steady_up (Answers op answer) met steady = record { up = λ was. was; start = refl }

all_steady_up : (items met : List Met) → All IsSteady items → Stays met (onto items met)
all_steady_up [] met steady = record { up = λ was. was; start = refl }
all_steady_up (one ∷ items) met steady =
    let first = steady_up one met (All-head IsSteady one items steady) in
    let rest = all_steady_up items (one ∷ met) (All-tail IsSteady one items steady) in record { up = λ was. rest.up (first.up was); start = rest.start ∙ first.start }

-- what operations note as they act
record Quiet (now : Now) : Type 0 where
  valid : All IsSteady now.valid
  answers : All IsSteady now.answers

quiet_lasts : Lasts Quiet ⊥
quiet_lasts = record {
  keeps_it = λ now o about h. record { valid = h.valid; answers = h.answers };
  ends_it = λ now op answer h. record { valid = h.valid; answers = All-push IsSteady now.answers (Answers op answer) h.answers refl };
  sends_it = λ now sends more h. record { valid = h.valid; answers = h.answers };
  stores_it = λ now stored h. record { valid = h.valid; answers = h.answers };
  validates_it = λ now group p refusal h. validated now group p refusal h;
}
  where
    validated : (now : Now) (group : GroupId) (p : ℕ) (refusal : Option NotValid) → Quiet now → Quiet (validated_by now group p refusal)
    validated now group p None h = record { valid = All-push IsSteady now.valid (Validates group p) h.valid refl; answers = h.answers }
    validated now group p (Some refusal) h = h

-- what is noted of entries that are applied
applied_steady : (was : List Met) (was_stored : GroupId → ℕ) (met : List Met) (stored : GroupId → ℕ) (groups : List GroupId) → All IsSteady (flat_map (apply_note was was_stored met stored) groups)
applied_steady was was_stored met stored [] = All-nil IsSteady
applied_steady was was_stored met stored (group ∷ groups) =
    All-append IsSteady (apply_note was was_stored met stored group) (flat_map (apply_note was was_stored met stored) groups)
    (by (nat_lt (applied_at was was_stored group) (applied_at met stored group))) (applied_steady was was_stored met stored groups)
  where
    by : (t : Bool) → All IsSteady (cond t (Applies group (applied_at met stored group) ∷ []) [])
    by true = All-cons IsSteady (Applies group (applied_at met stored group)) [] refl (All-nil IsSteady)
    by false = All-nil IsSteady

apply_notes_steady : (s : Setting) (was : List Met) (was_stored : GroupId → ℕ) (met : List Met) (stored : GroupId → ℕ) → All IsSteady (apply_notes s was was_stored met stored)
apply_notes_steady s was was_stored met stored = by (has_rows s.cluster s.me)
  where
    by : (t : Bool) → All IsSteady (cond t (flat_map (apply_note was was_stored met stored) (groups_of met)) [])
    by true = applied_steady was was_stored met stored (groups_of met)
    by false = All-nil IsSteady

-- what is noted of a message at the cell and the coordinator, and of a decision
if_steady : (t : Bool) (notes : List Met) → All IsSteady notes → All IsSteady (cond t notes [])
if_steady true notes steady = steady
if_steady false notes steady = All-nil IsSteady

grant_steady : (node : ℕ) (epoch : Epoch) (asked : Asked) → All IsSteady (grant_note node epoch asked)
grant_steady node epoch GrantedAnswer = All-cons IsSteady (Grants node epoch) [] refl (All-nil IsSteady)
grant_steady node epoch Renewed = All-nil IsSteady
grant_steady node epoch (GreaterHeld greatest) = All-nil IsSteady
grant_steady node epoch (Over greatest) = All-nil IsSteady

first_count_steady : (cell : ℕ) (epoch : Epoch) (was_counted : Bool) → All IsSteady (cond was_counted [] (Counts cell epoch ∷ []))
first_count_steady cell epoch true = All-nil IsSteady
first_count_steady cell epoch false = All-cons IsSteady (Counts cell epoch) [] refl (All-nil IsSteady)

counts_steady : (cell : ℕ) (epoch : Epoch) (was_counted : Bool) (counted : Counted) → All IsSteady (counts_notes cell epoch was_counted counted)
counts_steady cell epoch was_counted No = All-nil IsSteady
counts_steady cell epoch was_counted Yes = first_count_steady cell epoch was_counted
counts_steady cell epoch was_counted Serving =
    All-append IsSteady (cond was_counted [] (Counts cell epoch ∷ [])) (Serves epoch ∷ []) (first_count_steady cell epoch was_counted)
    (All-cons IsSteady (Serves epoch) [] refl (All-nil IsSteady))

told_steady : (s : Setting) (met : List Met) (from : ℕ) (body : Body) → All IsSteady (told_notes s met from body)
told_steady s met from (Acquire cell epoch clock) =
    if_steady ((cell == s.me) && nat_le s.me s.cluster.cells) (grant_note from epoch (asked_for s.cluster s.me met from epoch)) (grant_steady from epoch (asked_for s.cluster s.me met from epoch))
told_steady s met from (Granted cell epoch clock) =
    if_steady (is_full s.cluster s.me && nat_le cell s.cluster.cells) (grant_notes s.cluster met cell epoch clock) (counts_steady cell epoch _ _)
told_steady s met from (Invalidate op group position) =
    if_steady (is_full s.cluster s.me) (Invalidates group position.0 ∷ []) (All-cons IsSteady (Invalidates group position.0) [] refl (All-nil IsSteady))
told_steady s met from (Where op group) = All-nil IsSteady
told_steady s met from (Top op group position) = All-nil IsSteady
told_steady s met from (Accept op group position ballot entry) = All-nil IsSteady
told_steady s met from (Accepted op group position ballot entry) = All-nil IsSteady
told_steady s met from (Refused op group position asked shown entry) = All-nil IsSteady
told_steady s met from (Prepare op group position ballot) = All-nil IsSteady
told_steady s met from (Promise op group position ballot accepted) = All-nil IsSteady
told_steady s met from (Invalidated op group position) = All-nil IsSteady
told_steady s met from (Dead op cell node) = All-nil IsSteady
told_steady s met from (Held op cell node) = All-nil IsSteady
told_steady s met from (Unheld op cell node) = All-nil IsSteady
told_steady s met from (Decide group position entry) = All-nil IsSteady
told_steady s met from (Fetch op group position) = All-nil IsSteady
told_steady s met from (Have op group position entry) = All-nil IsSteady
told_steady s met from (HaveNot op group position) = All-nil IsSteady
told_steady s met from (Past cell asked greatest) = All-nil IsSteady
told_steady s met from (Requested token json) = All-nil IsSteady
told_steady s met from (Reply token text) = All-nil IsSteady

decision_steady : (d : Option Decision) → All IsSteady (decision_note d)
decision_steady None = All-nil IsSteady
decision_steady (Some d) = All-cons IsSteady (Decides d.group d.position d.entry) [] refl (All-nil IsSteady)

sent_steady : (sends : List Message) → All IsSteady (map Sends sends)
sent_steady [] = All-nil IsSteady
sent_steady (m ∷ sends) = All-cons IsSteady (Sends m) (map Sends sends) refl (sent_steady sends)

-- a step as it ends
stays_on : (old mid new : List Met) → Stays old mid → Stays mid new → Stays old new
stays_on old mid new one two = record { up = λ was. two.up (one.up was); start = two.start ∙ one.start }

ends_up : (node : Node) (own : Met) (locks durable applies : List Met) (sends : List Message) (now : Now) → IsSteady own → All IsSteady locks → All IsSteady durable → All IsSteady applies → Quiet now
    → Stays node.met (step_of node own locks durable applies sends now).node.met
ends_up node own locks durable applies sends now first locked lasting applied quiet =
    stays_on node.met (onto notes (own ∷ node.met)) (onto (map Sends sends) (onto notes (own ∷ node.met)))
    (stays_on node.met (own ∷ node.met) (onto notes (own ∷ node.met)) (steady_up own node.met first)
    (all_steady_up notes (own ∷ node.met)
    (All-append IsSteady (((locks ++ durable) ++ applies) ++ now.valid) now.answers
    (All-append IsSteady ((locks ++ durable) ++ applies) now.valid
    (All-append IsSteady (locks ++ durable) applies (All-append IsSteady locks durable locked lasting) applied) quiet.valid) quiet.answers)))
    (all_steady_up (map Sends sends) (onto notes (own ∷ node.met)) (sent_steady sends))
  where
    notes : List Met
    notes = (((locks ++ durable) ++ applies) ++ now.valid) ++ now.answers

taken_up : (s : Setting) (node : Node) (m : Message) (ts : List Heard) (d : Option Decision) (reply told_news : List Message) → All (IsHeard ⊥) ts
    → Stays node.met (taken s node m (told_notes s node.met m.from m.body) ts d reply told_news).node.met
taken_up s node m ts d reply told_news heard =
    ends_up node (Takes m) told (decision_note d) (apply_notes s node.met node.stored now.met now.stored) ((reply ++ told_news) ++ now.sends) now
    refl (told_steady s node.met m.from m.body) (decision_steady d) (apply_notes_steady s node.met node.stored now.met now.stored)
    (all_act_it Quiet ⊥ quiet_lasts s ts (at_first base (stored_after s base node.stored d)) heard (record { valid = All-nil IsSteady; answers = All-nil IsSteady }))
  where
    told : List Met
    told = told_notes s node.met m.from m.body

    base : List Met
    base = onto (decision_note d) (onto told (Takes m ∷ node.met))

    now : Now
    now = all_act s (at_first base (stored_after s base node.stored d)) ts

taken_by_up : (s : Setting) (node : Node) (m : Message) (ts : List Heard) (told : Option Decision) → All (IsHeard ⊥) ts → Stays node.met (taken_by s node m ts told).node.met
taken_by_up s node m ts (Some d) heard = taken_up s node m ts (if_new node.met (Some d)) (reply_to s.cluster s.me node.met m) [] heard
taken_by_up s node m ts None heard =
    taken_up s node m ts (if_new node.met (first_settled ts)) (reply_to s.cluster s.me node.met m) (news s (if_new node.met (first_settled ts))) heard

take_up : (s : Setting) (node : Node) (m : Message) → Stays node.met (step s node (Take m)).node.met
take_up s node m = taken_by_up s node m (map (hears_message s (clock_of node.met) m) node.open_operations) (told_decision m.body) (all_heard s (clock_of node.met) m node.open_operations)

begin_up : (s : Setting) (node : Node) (request : Request) (text : List ℕ) → Stays node.met (step s node (Begin request text)).node.met
begin_up s node request text =
    ends_up node (Begins (op_of s node.met) text) [] [] (apply_notes s node.met node.stored now.met now.stored) now.sends now
    refl (All-nil IsSteady) (All-nil IsSteady) (apply_notes_steady s node.met node.stored now.met now.stored)
    (begun_it Quiet ⊥ quiet_lasts s (at_open (at_first base node.stored) node.open_operations) (new_operation (op_of s node.met) request (clock_of node.met)) (refusal s node request)
    (record { valid = All-nil IsSteady; answers = All-nil IsSteady }))
  where
    base : List Met
    base = Begins (op_of s node.met) text ∷ node.met

    now : Now
    now = unless_refused s (at_open (at_first base node.stored) node.open_operations) (new_operation (op_of s node.met) request (clock_of node.met)) (refusal s node request)

-- what is noted at a tick
lapse_steady : (node : ℕ) (epoch : Option Epoch) → All IsSteady (lapse_note node epoch)
lapse_steady node None = All-nil IsSteady
lapse_steady node (Some epoch) = All-cons IsSteady (Lapses node epoch) [] refl (All-nil IsSteady)

all_lapse_steady : (f : ℕ → Option Epoch) (nodes : List ℕ) → All IsSteady (flat_map (λ node. lapse_note node (f node)) nodes)
all_lapse_steady f [] = All-nil IsSteady
all_lapse_steady f (node ∷ nodes) = All-append IsSteady (lapse_note node (f node)) (flat_map (λ one. lapse_note one (f one)) nodes) (lapse_steady node (f node)) (all_lapse_steady f nodes)

all_forget_steady : (epoch : Epoch) (cells : List ℕ) → All IsSteady (map (λ cell. Forgets cell epoch) cells)
all_forget_steady epoch [] = All-nil IsSteady
all_forget_steady epoch (cell ∷ cells) = All-cons IsSteady (Forgets cell epoch) (map (λ one. Forgets one epoch) cells) refl (all_forget_steady epoch cells)

forget_steady : (epoch : Option Epoch) (cells : List ℕ) → All IsSteady (forget_notes epoch cells)
forget_steady None cells = All-nil IsSteady
forget_steady (Some epoch) cells = all_forget_steady epoch cells

lost_steady : (epoch : Option Epoch) → All IsSteady (lost_note epoch)
lost_steady None = All-nil IsSteady
lost_steady (Some epoch) = All-cons IsSteady (Loses epoch) [] refl (All-nil IsSteady)

lapses_steady : (s : Setting) (met : List Met) (clock : ℕ) → All IsSteady (lapse_notes s met clock)
lapses_steady s met clock = if_steady (nat_le s.me s.cluster.cells) (lapses_at s.cluster s.me met clock) (all_lapse_steady (λ node. lapse_for (cell_calls s.cluster s.me met) clock (keep_of s.cluster) node) nodes)

leases_steady : (s : Setting) (met : List Met) (clock : ℕ) → All IsSteady (lease_notes s met clock)
leases_steady s met clock =
    if_steady (is_full s.cluster s.me) (tick_notes s.cluster met clock)
    (All-append IsSteady (forget_notes (epoch_after (start_of met) s.cluster.cells (coordinator_calls s.cluster met)) (filter (is_cell_in (tick_told s.cluster met clock).forgot) (cells s.cluster)))
    (lost_note (tick_told s.cluster met clock).lost)
    (forget_steady (epoch_after (start_of met) s.cluster.cells (coordinator_calls s.cluster met)) (filter (is_cell_in (tick_told s.cluster met clock).forgot) (cells s.cluster)))
    (lost_steady (tick_told s.cluster met clock).lost))

tick_up : (s : Setting) (node : Node) (clock : ℕ) → Stays node.met (step s node (Tick clock)).node.met
tick_up s node clock =
    ends_up node (Ticks clock) (lease_notes s node.met clock) (lapse_notes s node.met clock) (apply_notes s node.met node.stored acc.met acc.stored)
    ((acquires_at s.cluster s.me node.met clock ++ acc.sends) ++ background s node.met clock) acc
    refl (leases_steady s node.met clock) (lapses_steady s node.met clock) (apply_notes_steady s node.met node.stored acc.met acc.stored)
    (all_ticked_it Quiet ⊥ quiet_lasts s clock node.open_operations (at_first base (portion_of s node.met node.stored)) (λ impossible. absurd impossible) (record { valid = All-nil IsSteady; answers = All-nil IsSteady }))
  where
    base : List Met
    base = onto (lapse_notes s node.met clock) (onto (lease_notes s node.met clock) (Ticks clock ∷ node.met))

    acc : Now
    acc = fold (ticked s clock) (at_first base (portion_of s node.met node.stored)) node.open_operations

pub stays_up : (s : Setting) (node : Node) (event : Event) → Stays node.met (step s node event).node.met
stays_up s node (Tick clock) = tick_up s node clock
stays_up s node (Take message) = take_up s node message
stays_up s node (Begin request text) = begin_up s node request text
