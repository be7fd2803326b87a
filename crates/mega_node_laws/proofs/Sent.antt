-- What a step sends may be sent: its reply is what the voter's rule answers, and the rest asks.
use Rattle.std.proofs.Common.{◌≡◌, ℕ, ◌==◌, ◌&&◌, Bool, true, false, cond, List, [], ◌∷◌, ◌++◌, map, fold, Option, Some, None, refl, sym, ap, ◌∙◌, subst}
use Rattle.std.specs.List.{All, cons_option}
use Rattle.std.proofs.lemmas.List.{append_assoc}
use Rattle.std.proofs.lemmas.List.Elements.{All-append, All-cons, All-head, All-nil, All-tail}
use Rattle.mega_base.specs.declared.names.Epoch.{Epoch}
use Rattle.mega_base.specs.declared.names.GroupId.{GroupId}
use Rattle.mega_base.specs.declared.names.NodeId.{NodeId}
use Rattle.mega_base.specs.declared.names.OpId.{OpId}
use Rattle.mega_base.specs.declared.names.Position.{Position}
use Rattle.mega_cluster.specs.declared.cluster.Cluster.{Cluster}
use Rattle.mega_coordinator.specs.declared.answers.Counted.{Counted}
use Rattle.mega_coordinator.specs.declared.answers.Counted.TheVariants.{No, Yes, Serving}
use Rattle.mega_entry.specs.declared.content.Content.{Content}
use Rattle.mega_locks.specs.declared.asked.Asked.{Asked}
use Rattle.mega_locks.specs.declared.asked.Asked.TheVariants.{Granted as Grant, Renewed, GreaterHeld, Over}
use Rattle.mega_wire.specs.declared.message.Message.{Message}
use Rattle.mega_wire.specs.declared.message.Body.{Body}
use Rattle.mega_wire.specs.declared.message.Body.TheVariants.{Where, Top, Accept, Accepted, Prepare, Promise, Invalidate, Invalidated, Dead, Fetch, Acquire, Granted}
use Rattle.mega_voter.specs.of_rules.Met.{Met, Begins, Counts, Decides, Grants, Invalidates, Sends, Serves, Takes, Ticks}
use Rattle.mega_voter.specs.of_rules.Members.{is_cell, is_full, is_voter}
use Rattle.mega_voter.specs.of_rules.Clock.{clock_of}
use Rattle.mega_voter.specs.of_rules.Coordinators.{acquires_at, counts_notes, grant_notes}
use Rattle.mega_voter.specs.of_rules.Locks.{asked_for, grant_note, held_answer, held_at, lock_answer}
use Rattle.mega_voter.specs.of_rules.Logs.{decided, top_of}
use Rattle.mega_voter.specs.of_rules.Operations.{Node, Now, Setting}
use Rattle.mega_voter.specs.of_rules.Replies.{answer_to, fetched, reply_message, reply_to, where_served}
use Rattle.mega_outcome.specs.declared.request.Request.{Request}
use Rattle.mega_voter.specs.of_rules.Steps.{Begin, Event, Take, Tick, at_open, begin_step, lapse_notes, lease_notes, new_operation, op_of, portion_of, refusal, step, take_step, tick_step, ticked, Decision, Heard, all_act, apply_notes, at_first, background, decision_note, first_settled, hears_message, if_new, news, onto, stored_after, taken, told_decision, told_notes}
use Rattle.mega_voter.specs.of_rules.Voting.{act_made, acts, prepared, voted}
use Rattle.mega_voter.specs.Journal.{item_in}
use Rattle.mega_voter.specs.Telling.{IsAnswer}
use Rattle.mega_voter.proofs.Answered.{prepared_answers, voted_answers}
use Rattle.mega_node_laws.specs.Asking.{Asks}
use Rattle.mega_node_laws.specs.Sending.{IsUnmade, MaySend}
use Rattle.mega_node_laws.specs.Acted.{own_item}
use Rattle.mega_node_laws.proofs.Acting.{acquires_at_asks, background_asks, news_ask}
use Rattle.mega_node_laws.proofs.Ending.{ActsOn, acting_begins, acting_lasts, all_heard, apply_notes_silent, unmade, taken_by}
use Rattle.mega_node_laws.proofs.Lasting.{IsHeard, all_act_it, all_ticked_it, begun_it}

-- ---- what was made stays

acts_stay : (one : Met) (met : List Met) → IsUnmade one → (group : GroupId) (n : ℕ) → acts (one ∷ met) group n ≡ acts met group n
acts_stay one met silent group n = ap (λ (o : Option Message). cons_option (act_made group n o) (acts met group n)) silent

acts_after : (items met : List Met) → All IsUnmade items → (group : GroupId) (n : ℕ) → acts (onto items met) group n ≡ acts met group n
acts_after [] met silent group n = refl
acts_after (one ∷ items) met silent group n = acts_after items (one ∷ met) (All-tail IsUnmade one items silent) group n ∙ acts_stay one met (All-head IsUnmade one items silent) group n

answer_stays : (met more : List Met) → ((group : GroupId) (n : ℕ) → acts more group n ≡ acts met group n) → (body : Body) → IsAnswer met body → IsAnswer more body
answer_stays met more same (Promise op group position ballot report) is = ap (λ made. prepared made op group position ballot) (same group position.0) ∙ is
answer_stays met more same (Accepted op group position ballot entry) is = ap (λ made. voted made op group position ballot entry) (same group position.0) ∙ is
answer_stays met more same _ is = tt

pub answer_after : (items met : List Met) (body : Body) → All IsUnmade items → IsAnswer met body → IsAnswer (onto items met) body
answer_after items met body silent is = answer_stays met (onto items met) (acts_after items met silent) body is

-- ---- what asks may always be sent

asking_answers : (met : List Met) (body : Body) → item_in body ≡ None → IsAnswer met body
asking_answers met (Promise op group position ballot report) none = absurd (cc)
asking_answers met (Accepted op group position ballot entry) none = absurd (cc)
asking_answers met _ none = tt

pub asking_may : (met : List Met) (m : Message) → Asks m → IsAnswer met m.body
asking_may met m asks = asking_answers met m.body asks

pub all_asking_may : (met : List Met) (sends : List Message) → All Asks sends → MaySend met sends
all_asking_may met [] asks = tt
all_asking_may met (m ∷ sends) asks = (asking_may met m (All-head Asks m sends asks), all_asking_may (Sends m ∷ met) sends (All-tail Asks m sends asks))

-- ---- a reply may be sent

abbrev Answers : List Met → Option Body → Type 0
Answers met None = Unit {0}
Answers met (Some body) = IsAnswer met body

served : (met : List Met) (t : Bool) (body : Body) → IsAnswer met body → Answers met (where_served t body)
served met true body is = is
served met false body is = tt

fetched_answers : (met : List Met) (op : OpId) (group : GroupId) (position : Position) (found : Option Content) → IsAnswer met (fetched op group position found)
fetched_answers met op group position None = tt
fetched_answers met op group position (Some entry) = tt

held_answers : (met : List Met) (op : OpId) (cell : ℕ) (node : NodeId) (held : Option Epoch) → IsAnswer met (held_answer op cell node held)
held_answers met op cell node None = tt
held_answers met op cell node (Some epoch) = tt

lock_answers : (met : List Met) (cell : ℕ) (epoch : Epoch) (clock : ℕ) (asked : Asked) → IsAnswer met (lock_answer cell epoch clock asked)
lock_answers met cell epoch clock Grant = tt
lock_answers met cell epoch clock Renewed = tt
lock_answers met cell epoch clock (GreaterHeld greatest) = tt
lock_answers met cell epoch clock (Over greatest) = tt

answer_answers : (c : Cluster) (me : ℕ) (met : List Met) (from : ℕ) (body : Body) → Answers met (answer_to c me met from body)
answer_answers c me met from (Where op group) = served met (is_voter c me) (Top op group (record { 0 = top_of met group })) tt
answer_answers c me met from (Accept op group position ballot entry) = served met (is_voter c me) (voted (acts met group position.0) op group position ballot entry) (voted_answers met op group position ballot entry)
answer_answers c me met from (Prepare op group position ballot) = served met (is_voter c me) (prepared (acts met group position.0) op group position ballot) (prepared_answers met op group position ballot)
answer_answers c me met from (Fetch op group position) = served met (is_voter c me) (fetched op group position (decided met group position.0)) (fetched_answers met op group position (decided met group position.0))
answer_answers c me met from (Invalidate op group position) = served met (is_full c me) (Invalidated op group position) tt
answer_answers c me met from (Dead op cell node) = served met (cell == me && is_cell c me) (held_answer op cell node (held_at c me met node.0)) (held_answers met op cell node (held_at c me met node.0))
answer_answers c me met from (Acquire cell epoch clock) = served met (cell == me && is_cell c me) (lock_answer cell epoch clock (asked_for c me met from epoch)) (lock_answers met cell epoch clock (asked_for c me met from epoch))
answer_answers c me met from _ = tt

-- and then what asks
reply_then : (met more : List Met) → ((group : GroupId) (n : ℕ) → acts more group n ≡ acts met group n) → (me to : ℕ) (reply : Option Body) → Answers met reply → (rest : List Message) → All Asks rest
    → MaySend more (reply_message me to reply ++ rest)
reply_then met more same me to None is rest asks = all_asking_may more rest asks
reply_then met more same me to (Some body) is rest asks =
    (answer_stays met more same body is, all_asking_may (Sends (record { from = me; to = to; body = body }) ∷ more) rest asks)

pub reply_may : (c : Cluster) (me : ℕ) (items met : List Met) (m : Message) (rest : List Message) → All IsUnmade items → All Asks rest → MaySend (onto items met) (reply_to c me met m ++ rest)
reply_may c me items met m rest silent asks = reply_then met (onto items met) (acts_after items met silent) me m.from (answer_to c me met m.from m.body) (answer_answers c me met m.from m.body) rest asks

-- ---- a whole step

nothing : All IsUnmade []
nothing = All-nil IsUnmade

single : (one : Met) → IsUnmade one → All IsUnmade (one ∷ [])
single one silent = All-cons IsUnmade one [] silent nothing

if_noted : (t : Bool) (notes : List Met) → All IsUnmade notes → All IsUnmade (cond t notes [])
if_noted true notes h = h
if_noted false notes h = nothing

unless_noted : (t : Bool) (notes : List Met) → All IsUnmade notes → All IsUnmade (cond t [] notes)
unless_noted true notes h = nothing
unless_noted false notes h = h

grant_unmade : (node : ℕ) (epoch : Epoch) (asked : Asked) → All IsUnmade (grant_note node epoch asked)
grant_unmade node epoch Grant = single (Grants node epoch) refl
grant_unmade node epoch Renewed = nothing
grant_unmade node epoch (GreaterHeld greatest) = nothing
grant_unmade node epoch (Over greatest) = nothing

counts_unmade : (cell : ℕ) (epoch : Epoch) (was : Bool) (counted : Counted) → All IsUnmade (counts_notes cell epoch was counted)
counts_unmade cell epoch was No = nothing
counts_unmade cell epoch was Yes = unless_noted was (Counts cell epoch ∷ []) (single (Counts cell epoch) refl)
counts_unmade cell epoch was Serving =
    All-append IsUnmade (cond was [] (Counts cell epoch ∷ [])) (Serves epoch ∷ []) (unless_noted was (Counts cell epoch ∷ []) (single (Counts cell epoch) refl)) (single (Serves epoch) refl)

told_unmade : (s : Setting) (met : List Met) (from : ℕ) (body : Body) → All IsUnmade (told_notes s met from body)
told_unmade s met from (Acquire cell epoch clock) = if_noted _ (grant_note from epoch (asked_for s.cluster s.me met from epoch)) (grant_unmade from epoch (asked_for s.cluster s.me met from epoch))
told_unmade s met from (Granted cell epoch clock) = if_noted _ (grant_notes s.cluster met cell epoch clock) (counts_unmade cell epoch _ _)
told_unmade s met from (Invalidate op group position) = if_noted _ (Invalidates group position.0 ∷ []) (single (Invalidates group position.0) refl)
told_unmade s met from _ = nothing

decision_unmade : (d : Option Decision) → All IsUnmade (decision_note d)
decision_unmade None = nothing
decision_unmade (Some d) = single (Decides d.group d.position d.entry) refl

taken_may : (s : Setting) (node : Node) (m : Message) (told : List Met) (ts : List Heard) (d : Option Decision) (told_news : List Message) → All IsUnmade told → All (IsHeard ⊥) ts → All Asks told_news
    → MaySend (onto (taken s node m told ts d (reply_to s.cluster s.me node.met m) told_news).notes (Takes m ∷ node.met)) (taken s node m told ts d (reply_to s.cluster s.me node.met m) told_news).sends
taken_may s node m told ts d told_news silent heard asks =
    subst (MaySend (onto notes (Takes m ∷ node.met))) (sym (append_assoc (reply_to s.cluster s.me node.met m) told_news now.sends))
    (reply_may s.cluster s.me (Takes m ∷ notes) node.met m (told_news ++ now.sends) (All-cons IsUnmade (Takes m) notes refl all_unmade) (All-append Asks told_news now.sends asks acted.sends))
  where
    base : List Met
    base = onto (decision_note d) (onto told (Takes m ∷ node.met))

    now : Now
    now = all_act s (at_first base (stored_after s base node.stored d)) ts

    acted : ActsOn now
    acted = all_act_it ActsOn ⊥ acting_lasts s ts (at_first base (stored_after s base node.stored d)) heard (acting_begins _ refl refl refl)

    applies : List Met
    applies = apply_notes s node.met node.stored now.met now.stored

    notes : List Met
    notes = (((told ++ decision_note d) ++ applies) ++ now.valid) ++ now.answers

    all_unmade : All IsUnmade notes
    all_unmade =
        All-append IsUnmade (((told ++ decision_note d) ++ applies) ++ now.valid) now.answers
        (All-append IsUnmade ((told ++ decision_note d) ++ applies) now.valid
        (All-append IsUnmade (told ++ decision_note d) applies
        (All-append IsUnmade told (decision_note d) silent (decision_unmade d))
        (unmade applies (apply_notes_silent s node.met node.stored now.met now.stored)))
        (unmade now.valid acted.quiet.valid))
        (unmade now.answers acted.quiet.answers)

taken_by_may : (s : Setting) (node : Node) (m : Message) (ts : List Heard) (told : Option Decision) → All (IsHeard ⊥) ts → MaySend (onto (taken_by s node m ts told).notes (Takes m ∷ node.met)) (taken_by s node m ts told).sends
taken_by_may s node m ts (Some d) heard = taken_may s node m (told_notes s node.met m.from m.body) ts (if_new node.met (Some d)) [] (told_unmade s node.met m.from m.body) heard (All-nil Asks)
taken_by_may s node m ts None heard =
    taken_may s node m (told_notes s node.met m.from m.body) ts (if_new node.met (first_settled ts)) (news s (if_new node.met (first_settled ts))) (told_unmade s node.met m.from m.body) heard (news_ask s (if_new node.met (first_settled ts)))

take_may : (s : Setting) (node : Node) (m : Message) → MaySend (onto (take_step s node m).notes (Takes m ∷ node.met)) (take_step s node m).sends
take_may s node m = taken_by_may s node m (map (hears_message s (clock_of node.met) m) node.open_operations) (told_decision m.body) (all_heard s (clock_of node.met) m node.open_operations)

tick_may : (s : Setting) (node : Node) (now : ℕ) → MaySend (onto (tick_step s node now).notes (Ticks now ∷ node.met)) (tick_step s node now).sends
tick_may s node now =
    all_asking_may (onto (tick_step s node now).notes (Ticks now ∷ node.met)) ((acquires_at s.cluster s.me node.met now ++ acc.sends) ++ background s node.met now)
    (All-append Asks (acquires_at s.cluster s.me node.met now ++ acc.sends) (background s node.met now)
    (All-append Asks (acquires_at s.cluster s.me node.met now) acc.sends (acquires_at_asks s.cluster s.me node.met now)
    (all_ticked_it ActsOn ⊥ acting_lasts s now node.open_operations (at_first base (portion_of s node.met node.stored)) (λ impossible. absurd impossible) (acting_begins _ refl refl refl)).sends)
    (background_asks s node.met now))
  where
    base : List Met
    base = onto (lapse_notes s node.met now) (onto (lease_notes s node.met now) (Ticks now ∷ node.met))

    acc : Now
    acc = fold (ticked s now) (at_first base (portion_of s node.met node.stored)) node.open_operations

begin_may : (s : Setting) (node : Node) (request : Request) (text : List ℕ) → MaySend (onto (begin_step s node request text).notes (Begins (op_of s node.met) text ∷ node.met)) (begin_step s node request text).sends
begin_may s node request text =
    all_asking_may (onto (begin_step s node request text).notes (Begins (op_of s node.met) text ∷ node.met)) (begin_step s node request text).sends
    (begun_it ActsOn ⊥ acting_lasts s (at_open (at_first base node.stored) node.open_operations) (new_operation (op_of s node.met) request (clock_of node.met)) (refusal s node request) (acting_begins _ refl refl refl)).sends
  where
    base : List Met
    base = Begins (op_of s node.met) text ∷ node.met

pub step_may : (s : Setting) (node : Node) (event : Event) → MaySend (onto (step s node event).notes (own_item s node event ∷ node.met)) (step s node event).sends
step_may s node (Tick now) = tick_may s node now
step_may s node (Take m) = take_may s node m
step_may s node (Begin request text) = begin_may s node request text
