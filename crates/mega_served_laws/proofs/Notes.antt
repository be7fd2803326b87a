-- What a step notes is neither an event nor a message, and all that it sends but its reply asks.
use Rattle.std.proofs.Common.{◌≡◌, ℕ, nat_le, nat_lt, Bool, true, false, cond, List, [], ◌∷◌, ◌++◌, filter, fold, map, flat_map, Option, Some, None, refl, sym, subst}
use Rattle.std.specs.List.{All}
use Rattle.std.proofs.lemmas.List.{append_assoc}
use Rattle.std.proofs.lemmas.List.Elements.{All-append, All-cons, All-nil, All-push}
use Rattle.mega_base.specs.declared.names.Epoch.{Epoch}
use Rattle.mega_base.specs.declared.names.GroupId.{GroupId}
use Rattle.mega_cluster.specs.declared.cluster.Cluster.{Cluster}
use Rattle.mega_coordinator.specs.History.{epoch_after}
use Rattle.mega_coordinator.specs.declared.answers.Counted.{Counted}
use Rattle.mega_coordinator.specs.declared.answers.Counted.TheVariants.{No, Yes, Serving}
use Rattle.mega_coordinator.specs.declared.answers.NotValid.{NotValid}
use Rattle.mega_locks.specs.History.{lapse_for, nodes as lock_nodes}
use Rattle.mega_locks.specs.declared.asked.Asked.{Asked}
use Rattle.mega_locks.specs.declared.asked.Asked.TheVariants.{Granted as Grant, Renewed, GreaterHeld, Over}
use Rattle.mega_wire.specs.declared.message.Message.{Message}
use Rattle.mega_wire.specs.declared.message.Body.{Body}
use Rattle.mega_wire.specs.declared.message.Body.TheVariants.{Acquire, Granted, Invalidate}
use Rattle.mega_outcome.specs.declared.request.Request.{Request}
use Rattle.mega_rules.specs.Met.{Met, Answers, Applies, Begins, Counts, Crashes, Decides, Forgets, Grants, Invalidates, Lapses, Loses, Sends, Serves, Starts, Takes, Ticks, Unsends, Validates}
use Rattle.mega_rules.specs.Acting.{validated_by}
use Rattle.mega_rules.specs.Clock.{clock_of, start_of}
use Rattle.mega_rules.specs.Coordinators.{acquires_at, coordinator_calls, counts_notes, forget_notes, grant_notes, is_cell_in, lost_note, tick_notes, tick_told}
use Rattle.mega_rules.specs.Locks.{asked_for, cell_calls, grant_note, lapse_note, lapses_at}
use Rattle.mega_rules.specs.Logs.{groups_of, prefix_of}
use Rattle.mega_rules.specs.Members.{cells, has_rows, is_full, keep_of}
use Rattle.mega_rules.specs.Operations.{Node, Now, Setting}
use Rattle.mega_rules.specs.Replies.{reply_to}
use Rattle.mega_rules.specs.Steps.{Begin, Decision, Event, Heard, Step, Take, Tick, all_act, applied_at, apply_note, apply_notes, at_first, at_open, background, begin_step, decision_note, first_settled, hears_message, if_new, lapse_notes, lease_notes, new_operation, news, onto, op_of, portion_of, refusal, start_note, start_notes, step, stored_after, take_step, taken, tick_step, ticked, told_decision, told_notes, unless_refused}
use Rattle.mega_promises.specs.Runs.{replies_in}
use Rattle.mega_node_laws.specs.Asking.{Asks}
use Rattle.mega_node_laws.proofs.Acting.{acquires_at_asks, background_asks, news_ask}
use Rattle.mega_node_laws.proofs.Ending.{ActsOn, acting_begins, acting_lasts, all_heard, taken_by}
use Rattle.mega_node_laws.proofs.Lasting.{IsHeard, Lasts, all_act_it, all_ticked_it, begun_it}

-- what a node notes beside what befalls it and what it sends
abbrev pub is_note : Met → Bool
is_note (Starts start) = false
is_note Crashes = false
is_note (Ticks now) = false
is_note (Begins op text) = false
is_note (Takes message) = false
is_note (Sends message) = false
is_note (Unsends message) = false
is_note _ = true

abbrev pub IsNote : Met → Type 0
IsNote one = is_note one ≡ true

nothing : All IsNote []
nothing = All-nil IsNote

single : (one : Met) → IsNote one → All IsNote (one ∷ [])
single one is = All-cons IsNote one [] is nothing

both : (xs ys : List Met) → All IsNote xs → All IsNote ys → All IsNote (xs ++ ys)
both xs ys h k = All-append IsNote xs ys h k

if_noted : (t : Bool) (notes : List Met) → All IsNote notes → All IsNote (cond t notes [])
if_noted true notes h = h
if_noted false notes h = nothing

unless_noted : (t : Bool) (notes : List Met) → All IsNote notes → All IsNote (cond t [] notes)
unless_noted true notes h = nothing
unless_noted false notes h = h

each_noted : {X : Type 0} (f : X → List Met) → ((x : X) → All IsNote (f x)) → (xs : List X) → All IsNote (flat_map f xs)
each_noted f h [] = nothing
each_noted f h (x ∷ xs) = both (f x) (flat_map f xs) (h x) (each_noted f h xs)

-- ---- what operations note as they act

record Noted (now : Now) : Type 0 where
  valid : All IsNote now.valid
  answers : All IsNote now.answers

noted_lasts : Lasts Noted ⊥
noted_lasts = record {
  keeps_it = λ now o about h. record { valid = h.valid; answers = h.answers };
  ends_it = λ now op answer h. record { valid = h.valid; answers = All-push IsNote now.answers (Answers op answer) h.answers refl };
  sends_it = λ now sends more h. record { valid = h.valid; answers = h.answers };
  stores_it = λ now stored h. record { valid = h.valid; answers = h.answers };
  validates_it = λ now group p refusal h. validated now group p refusal h;
}
  where
    validated : (now : Now) (group : GroupId) (p : ℕ) (refusal : Option NotValid) → Noted now → Noted (validated_by now group p refusal)
    validated now group p None h = record { valid = All-push IsNote now.valid (Validates group p) h.valid refl; answers = h.answers }
    validated now group p (Some refusal) h = h

nothing_noted : (now : Now) → now.valid ≡ [] → now.answers ≡ [] → Noted now
nothing_noted now valid answers = record { valid = subst (All IsNote) (sym valid) nothing; answers = subst (All IsNote) (sym answers) nothing }

-- ---- what a node notes

grant_noted : (node : ℕ) (epoch : Epoch) (asked : Asked) → All IsNote (grant_note node epoch asked)
grant_noted node epoch Grant = single (Grants node epoch) refl
grant_noted node epoch Renewed = nothing
grant_noted node epoch (GreaterHeld greatest) = nothing
grant_noted node epoch (Over greatest) = nothing

counts_noted : (cell : ℕ) (epoch : Epoch) (was : Bool) (counted : Counted) → All IsNote (counts_notes cell epoch was counted)
counts_noted cell epoch was No = nothing
counts_noted cell epoch was Yes = unless_noted was (Counts cell epoch ∷ []) (single (Counts cell epoch) refl)
counts_noted cell epoch was Serving =
    both (cond was [] (Counts cell epoch ∷ [])) (Serves epoch ∷ []) (unless_noted was (Counts cell epoch ∷ []) (single (Counts cell epoch) refl)) (single (Serves epoch) refl)

told_noted : (s : Setting) (met : List Met) (from : ℕ) (body : Body) → All IsNote (told_notes s met from body)
told_noted s met from (Acquire cell epoch clock) = if_noted _ (grant_note from epoch (asked_for s.cluster s.me met from epoch)) (grant_noted from epoch (asked_for s.cluster s.me met from epoch))
told_noted s met from (Granted cell epoch clock) = if_noted _ (grant_notes s.cluster met cell epoch clock) (counts_noted cell epoch _ _)
told_noted s met from (Invalidate op group position) = if_noted _ (Invalidates group position.0 ∷ []) (single (Invalidates group position.0) refl)
told_noted s met from _ = nothing

decision_noted : (d : Option Decision) → All IsNote (decision_note d)
decision_noted None = nothing
decision_noted (Some d) = single (Decides d.group d.position d.entry) refl

applies_noted : (s : Setting) (was : List Met) (was_stored : GroupId → ℕ) (met : List Met) (stored : GroupId → ℕ) → All IsNote (apply_notes s was was_stored met stored)
applies_noted s was was_stored met stored =
    if_noted (has_rows s.cluster s.me) (flat_map (apply_note was was_stored met stored) (groups_of met))
    (each_noted (apply_note was was_stored met stored)
    (λ group. if_noted (nat_lt (applied_at was was_stored group) (applied_at met stored group)) (Applies group (applied_at met stored group) ∷ []) (single (Applies group (applied_at met stored group)) refl)) (groups_of met))

forget_noted : (epoch : Option Epoch) (cells : List ℕ) → All IsNote (forget_notes epoch cells)
forget_noted None cells = nothing
forget_noted (Some epoch) [] = nothing
forget_noted (Some epoch) (cell ∷ cells) = All-cons IsNote (Forgets cell epoch) (map (λ cell. Forgets cell epoch) cells) refl (forget_noted (Some epoch) cells)

lost_noted : (epoch : Option Epoch) → All IsNote (lost_note epoch)
lost_noted None = nothing
lost_noted (Some epoch) = single (Loses epoch) refl

leases_noted : (s : Setting) (met : List Met) (now : ℕ) → All IsNote (lease_notes s met now)
leases_noted s met now = if_noted (is_full s.cluster s.me) (tick_notes s.cluster met now)
    (both (forget_notes (epoch_after (start_of met) s.cluster.cells (coordinator_calls s.cluster met)) (filter (is_cell_in (tick_told s.cluster met now).forgot) (cells s.cluster))) (lost_note (tick_told s.cluster met now).lost)
    (forget_noted (epoch_after (start_of met) s.cluster.cells (coordinator_calls s.cluster met)) (filter (is_cell_in (tick_told s.cluster met now).forgot) (cells s.cluster))) (lost_noted (tick_told s.cluster met now).lost))

lapse_noted : (node : ℕ) (epoch : Option Epoch) → All IsNote (lapse_note node epoch)
lapse_noted node None = nothing
lapse_noted node (Some epoch) = single (Lapses node epoch) refl

lapses_noted : (s : Setting) (met : List Met) (now : ℕ) → All IsNote (lapse_notes s met now)
lapses_noted s met now = if_noted (nat_le s.me s.cluster.cells) (lapses_at s.cluster s.me met now)
    (each_noted (λ node. lapse_note node (lapse_for (cell_calls s.cluster s.me met) now (keep_of s.cluster) node)) (λ node. lapse_noted node (lapse_for (cell_calls s.cluster s.me met) now (keep_of s.cluster) node)) lock_nodes)

pub start_noted : (s : Setting) (met : List Met) → All IsNote (start_notes s met)
start_noted s met = if_noted (has_rows s.cluster s.me) (flat_map (start_note met) (groups_of met))
    (each_noted (start_note met) (λ group. if_noted (nat_lt 0 (prefix_of met group)) (Applies group (prefix_of met group) ∷ []) (single (Applies group (prefix_of met group)) refl)) (groups_of met))

-- ---- a step

-- its notes are notes, and behind its reply it sends what asks
pub record IsFair (c : Cluster) (me : ℕ) (met : List Met) (event : Event) (made : Step) : Type 0 where
  pub notes : All IsNote made.notes
  pub rest : List Message
  pub asks : All Asks rest
  pub sends : made.sends ≡ replies_in c me met event ++ rest

all_noted : (locks durable applies valid answers : List Met) → All IsNote locks → All IsNote durable → All IsNote applies → All IsNote valid → All IsNote answers
    → All IsNote ((((locks ++ durable) ++ applies) ++ valid) ++ answers)
all_noted locks durable applies valid answers l d p v a =
    both (((locks ++ durable) ++ applies) ++ valid) answers (both ((locks ++ durable) ++ applies) valid (both (locks ++ durable) applies (both locks durable l d) p) v) a

taken_fair : (s : Setting) (node : Node) (m : Message) (told : List Met) (ts : List Heard) (d : Option Decision) (told_news : List Message) → All IsNote told → All (IsHeard ⊥) ts → All Asks told_news
    → IsFair s.cluster s.me node.met (Take m) (taken s node m told ts d (reply_to s.cluster s.me node.met m) told_news)
taken_fair s node m told ts d told_news noted heard asks = record {
  notes = all_noted told (decision_note d) (apply_notes s node.met node.stored now.met now.stored) now.valid now.answers noted (decision_noted d) (applies_noted s node.met node.stored now.met now.stored) acted.valid acted.answers;
  rest = told_news ++ now.sends;
  asks = All-append Asks told_news now.sends asks (all_act_it ActsOn ⊥ acting_lasts s ts first heard (acting_begins first refl refl refl)).sends;
  sends = append_assoc (reply_to s.cluster s.me node.met m) told_news now.sends;
}
  where
    met : List Met
    met = onto (decision_note d) (onto told (Takes m ∷ node.met))

    first : Now
    first = at_first met (stored_after s met node.stored d)

    now : Now
    now = all_act s first ts

    acted : Noted now
    acted = all_act_it Noted ⊥ noted_lasts s ts first heard (nothing_noted first refl refl)

taken_by_fair : (s : Setting) (node : Node) (m : Message) (ts : List Heard) (told : Option Decision) → All (IsHeard ⊥) ts → IsFair s.cluster s.me node.met (Take m) (taken_by s node m ts told)
taken_by_fair s node m ts (Some d) heard = taken_fair s node m (told_notes s node.met m.from m.body) ts (if_new node.met (Some d)) [] (told_noted s node.met m.from m.body) heard (All-nil Asks)
taken_by_fair s node m ts None heard =
    taken_fair s node m (told_notes s node.met m.from m.body) ts (if_new node.met (first_settled ts)) (news s (if_new node.met (first_settled ts))) (told_noted s node.met m.from m.body) heard (news_ask s (if_new node.met (first_settled ts)))

take_fair : (s : Setting) (node : Node) (m : Message) → IsFair s.cluster s.me node.met (Take m) (take_step s node m)
take_fair s node m = taken_by_fair s node m (map (hears_message s (clock_of node.met) m) node.open_operations) (told_decision m.body) (all_heard s (clock_of node.met) m node.open_operations)

tick_fair : (s : Setting) (node : Node) (now : ℕ) → IsFair s.cluster s.me node.met (Tick now) (tick_step s node now)
tick_fair s node now = record {
  notes = all_noted (lease_notes s node.met now) (lapse_notes s node.met now) (apply_notes s node.met node.stored acc.met acc.stored) acc.valid acc.answers
      (leases_noted s node.met now) (lapses_noted s node.met now) (applies_noted s node.met node.stored acc.met acc.stored) acted.valid acted.answers;
  rest = (acquires_at s.cluster s.me node.met now ++ acc.sends) ++ background s node.met now;
  asks = All-append Asks (acquires_at s.cluster s.me node.met now ++ acc.sends) (background s node.met now)
      (All-append Asks (acquires_at s.cluster s.me node.met now) acc.sends (acquires_at_asks s.cluster s.me node.met now)
      (all_ticked_it ActsOn ⊥ acting_lasts s now node.open_operations first (λ impossible. absurd impossible) (acting_begins first refl refl refl)).sends)
      (background_asks s node.met now);
  sends = refl;
}
  where
    met : List Met
    met = onto (lapse_notes s node.met now) (onto (lease_notes s node.met now) (Ticks now ∷ node.met))

    first : Now
    first = at_first met (portion_of s node.met node.stored)

    acc : Now
    acc = fold (ticked s now) first node.open_operations

    acted : Noted acc
    acted = all_ticked_it Noted ⊥ noted_lasts s now node.open_operations first (λ impossible. absurd impossible) (nothing_noted first refl refl)

begin_fair : (s : Setting) (node : Node) (request : Request) (text : List ℕ) → IsFair s.cluster s.me node.met (Begin request text) (begin_step s node request text)
begin_fair s node request text = record {
  notes = all_noted [] [] (apply_notes s node.met node.stored now.met now.stored) now.valid now.answers nothing nothing (applies_noted s node.met node.stored now.met now.stored) acted.valid acted.answers;
  rest = now.sends;
  asks = (begun_it ActsOn ⊥ acting_lasts s first (new_operation (op_of s node.met) request (clock_of node.met)) (refusal s node request) (acting_begins first refl refl refl)).sends;
  sends = refl;
}
  where
    first : Now
    first = at_open (at_first (Begins (op_of s node.met) text ∷ node.met) node.stored) node.open_operations

    now : Now
    now = unless_refused s first (new_operation (op_of s node.met) request (clock_of node.met)) (refusal s node request)

    acted : Noted now
    acted = begun_it Noted ⊥ noted_lasts s first (new_operation (op_of s node.met) request (clock_of node.met)) (refusal s node request) (nothing_noted first refl refl)

pub step_fair : (s : Setting) (node : Node) (event : Event) → IsFair s.cluster s.me node.met event (step s node event)
step_fair s node (Tick now) = tick_fair s node now
step_fair s node (Take m) = take_fair s node m
step_fair s node (Begin request text) = begin_fair s node request text
