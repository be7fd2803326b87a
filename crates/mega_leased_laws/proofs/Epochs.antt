-- In every run no epoch is granted above one that serves, a cell is counted that granted the epoch while none serves, and an epoch serves once, with none
-- above it.
use Rattle.std.proofs.Common.{◌≡◌, ◌⊎◌, inl, inr, ℕ, ◌+◌, ◌==◌, ◌&&◌, ◌||◌, ◌≤◌, ◌<◌, nat_le, Bool, true, false, not, cond, List, [], ◌∷◌, ◌++◌, filter, flat_map, length, map, Option, Some, None, is_some, refl, sym, ap, ◌∙◌, subst, arith}
use Rattle.std.proofs.lemmas.Bool.{not-true, and_parts}
use Rattle.std.proofs.lemmas.List.Concat.{flat_map-append}
use Rattle.mega_base.specs.declared.names.Epoch.{Epoch}
use Rattle.mega_base.specs.declared.names.NodeId.{NodeId}
use Rattle.mega_cluster.specs.declared.cluster.Cluster.{Cluster}
use Rattle.mega_coordinator.specs.declared.answers.Counted.{Counted}
use Rattle.mega_coordinator.specs.declared.answers.Counted.TheVariants.{No, Yes, Serving as ServingAnswer}
use Rattle.mega_coordinator.specs.declared.lease.Lease.{Lease}
use Rattle.mega_coordinator.specs.Lease.{counted_by, counts, epoch_of, granted_answer, is_majority, is_present, until_with}
use Rattle.mega_coordinator.specs.History.{Ticks as TickCall, epoch_after, lease_of}
use Rattle.mega_handler.specs.Named.{Meanings}
use Rattle.mega_locks.specs.declared.asked.Asked.{Asked}
use Rattle.mega_locks.specs.declared.asked.Asked.TheVariants.{Granted, Renewed, GreaterHeld, Over}
use Rattle.mega_locks.specs.declared.lock.Lock.{Lock}
use Rattle.mega_locks.specs.declared.lock.Lock.TheVariants.{Free, Held, Ended}
use Rattle.mega_locks.specs.Rule.{answer, is_above, is_same}
use Rattle.mega_locks.specs.declared.lock.Term.{Term}
use Rattle.mega_locks.specs.History.{lapse_for, lock_of, nodes as lock_nodes}
use Rattle.mega_locks.proofs.Marks.{same_is}
use Rattle.mega_wal.specs.History.{is_epoch_below}
use Rattle.mega_wire.specs.declared.message.Message.{Message}
use Rattle.mega_wire.specs.declared.message.Body.{Body}
use Rattle.mega_wire.specs.declared.message.Body.TheVariants.{Accept, Acquire, Dead, Fetch, Granted as GrantedBody, Invalidate, Invalidated, Past, Prepare, Top, Where}
use Rattle.mega_lease_laws.specs.of_run_laws.of_tape_laws.of_promises.of_transcript.declared.item.Item.{Item}
use Rattle.mega_lease_laws.specs.of_run_laws.of_tape_laws.of_promises.of_transcript.declared.item.Item.TheVariants.{Apply as ApplyItem, Counts as CountsItem, Crash, Cut as CutItem, Decide as DecideItem, Dropped, Grant, Lapse as LapseItem, Sent, Serving as ServingItem, Start, Unsafe, Unsent as UnsentItem}
use Rattle.mega_lease_laws.specs.of_run_laws.of_tape_laws.of_promises.of_transcript.Tape.{sent_count}
use Rattle.mega_lease_laws.specs.of_run_laws.of_tape_laws.of_promises.Items.{number, shown}
use Rattle.mega_lease_laws.specs.of_run_laws.of_tape_laws.of_promises.Messages.{is_unsafe}
use Rattle.mega_lease_laws.specs.of_run_laws.of_tape_laws.of_promises.Promises.{Stands}
use Rattle.mega_lease_laws.specs.of_run_laws.of_tape_laws.of_promises.Runs.{Happening, IsRun, Standing, breaks, is_durable, met_in, nothing_yet, owes, replies_in, set_at, setting, with_item, with_items}
use Rattle.mega_lease_laws.specs.of_run_laws.of_tape_laws.of_promises.of_rules.Met.{Met, Starts, Crashes, Ticks, Begins, Takes, Sends, Unsends, Grants, Lapses, Counts, Forgets, Serves, Loses, Validates, Invalidates, Decides, Applies, Answers}
use Rattle.mega_lease_laws.specs.of_run_laws.of_tape_laws.of_promises.of_rules.Clock.{clock_of, is_up, start_of}
use Rattle.mega_lease_laws.specs.of_run_laws.of_tape_laws.of_promises.of_rules.Coordinators.{coordinator_calls, counts_notes, forget_notes, grant_notes, is_cell_in, lost_note, tick_notes, tick_told}
use Rattle.mega_lease_laws.specs.of_run_laws.of_tape_laws.of_promises.of_rules.Locks.{asked_for, cell_calls, grant_note, lapse_note, lapses_at, last_grant, lock_answer}
use Rattle.mega_lease_laws.specs.of_run_laws.of_tape_laws.of_promises.of_rules.Logs.{top_of}
use Rattle.mega_lease_laws.specs.of_run_laws.of_tape_laws.of_promises.of_rules.Members.{cells, is_cell, is_full, is_voter, keep_of}
use Rattle.mega_lease_laws.specs.of_run_laws.of_tape_laws.of_promises.of_rules.Operations.{Node, Setting}
use Rattle.mega_lease_laws.specs.of_run_laws.of_tape_laws.of_promises.of_rules.Replies.{answer_to, where_served}
use Rattle.mega_lease_laws.specs.of_run_laws.of_tape_laws.of_promises.of_rules.Steps.{Begin, Event, Step, Take, Tick, crashed, lapse_notes, lease_notes, onto, start, start_notes, step, told_notes}
use Rattle.mega_lease_laws.specs.of_run_laws.of_tape_laws.Lawful.{message}
use Rattle.mega_lease_laws.proofs.of_run_laws.of_tape_laws.Ballots.{clash, number_is}
use Rattle.mega_lease_laws.proofs.of_run_laws.of_tape_laws.Lists.{some_is}
use Rattle.mega_lease_laws.specs.of_run_laws.Justified.{Each, sent}
use Rattle.mega_lease_laws.proofs.of_run_laws.Events.{each_append as each_both, onto_append}
use Rattle.mega_lease_laws.proofs.of_run_laws.Runs.{IsMark}
use Rattle.mega_lease_laws.proofs.of_run_laws.Turns.{each_on}
use Rattle.mega_valid_laws.specs.of_settled_laws.Covering.{Earlier}
use Rattle.mega_lease_laws.proofs.of_run_laws.Shown.{IsSilent, notes_silent}
use Rattle.mega_valid_laws.proofs.of_settled_laws.Tapes.{earlier_stood, items_later, now_is, one_later, then_later}
use Rattle.mega_lease_laws.specs.Questions.{is_question}
use Rattle.mega_valid_laws.specs.Leases.{MayServe, serving_on}
use Rattle.mega_valid_laws.specs.Showing.{serving_met}
use Rattle.mega_valid_laws.proofs.Epochs.{Shown, granted_shown, serving_stands}
use Rattle.mega_valid_laws.proofs.Folds.{IsOwn, tells_serving}
use Rattle.mega_valid_laws.proofs.Shows.{ShownAt, nothing_shown, shown_keeps}
use Rattle.mega_valid_laws.proofs.Walked.{AgreesAt, step_agrees}
use Rattle.mega_valid_laws.proofs.Agreeing.{present_is}
use Rattle.mega_lease_laws.proofs.of_run_laws.AnswerKinds.{IsHeldAnswer, IsLogAnswer, answer_kind}
use Rattle.mega_leased_laws.specs.Items.{Are}
use Rattle.mega_leased_laws.specs.Serving.{IsServing}
use Rattle.mega_leased_laws.proofs.Forms.{Holds, Occurs, both_keep, down, run_holds, stepped}
use Rattle.mega_leased_laws.proofs.Tails.{fronts}
use Rattle.mega_leased_laws.proofs.Notes.{IsRest, Origin, step_origins, step_parts}
use Rattle.mega_leased_laws.proofs.Tapes.{Follows, IsFree, are_items, are_sent, both_follow, free_follows, free_notes}
use Rattle.mega_leased_laws.proofs.TapeIsMet.{step_met}
use Rattle.mega_leased_laws.proofs.Locks.{IsOwed, IsStill, Matches}
use Rattle.mega_leased_laws.proofs.Cells.{AskedFor, AskedFull, Celling, EventAsks, GrantNote, at_me, by_node, celling_holds, full_nine, nothing_celling, occurs_own, of_asked, rest_given, sends_still, start_owed, start_rest, step_granted, step_still, filtered_each}
use Rattle.mega_leased_laws.proofs.EpochReached.{Grown, IsPresent, IsWithin, EpochReached, asked_present, grown_onto, not_above, present_before, present_reached, reached_grown, reached_start, serving_grown, serving_present}

-- ---- tapes

pub are_map : (P Q : List Item → Item → Type 0) → ((t : List Item) (item : Item) → P t item → Q t item) → (tape : List Item) → Are P tape → Are Q tape
are_map P Q f [] h = tt
are_map P Q f (item ∷ before) h = (f before item h.0, are_map P Q f before h.1)

record AtMoment (P : List Item → Item → Type 0) (item : Item) (tape : List Item) : Type 0 where
  before : List Item
  holds : P before item

are_at : (P : List Item → Item → Type 0) (tape : List Item) (item : Item) → Are P tape → Stands item tape → AtMoment P item tape
are_at P [] item h s = absurd s
are_at P (other ∷ before) item h (inl same) = record { before = before; holds = subst (P before) same h.0 }
are_at P (other ∷ before) item h (inr s) = let a = are_at P before item h.1 s in record { before = a.before; holds = a.holds }

-- ---- what holds of each item

-- an epoch that a node asked for, or that was granted to it, is at or below its present one
abbrev pub Come : Cluster → (ℕ → Node) → ℕ → Epoch → Type 0
Come c nodes node epoch = EpochReached c (nodes node).met epoch

abbrev pub IsCome : Cluster → (ℕ → Node) → List Item → Item → Type 0
IsCome c nodes before (Sent key m) = AskedFor (Come c nodes) m.from m.body
IsCome c nodes before (Grant cell node epoch) = Come c nodes node.0 epoch
IsCome c nodes before _ = Unit {0}

-- an epoch that served is past, or serves
pub record ServedAt (c : Cluster) (v : ℕ) (met : List Met) (epoch : Epoch) : Type 0 where
  pub full : is_full c v ≡ true
  pub reached : EpochReached c met epoch
  pub still : is_up met ≡ true → IsPresent c met epoch → serving_met met ≡ Some epoch

abbrev pub IsServed : Cluster → (ℕ → Node) → List Item → Item → Type 0
IsServed c nodes before (ServingItem node epoch) = ServedAt c node.0 (nodes node.0).met epoch
IsServed c nodes before _ = Unit {0}

-- a cell says that it granted an epoch behind the grant
abbrev pub Tells : List Item → ℕ → Body → Type 0
Tells before to (GrantedBody cell epoch clock) = Stands (Grant cell (number to) epoch) before
Tells before to _ = Unit {0}

abbrev pub IsTold : List Item → Item → Type 0
IsTold before (Sent key m) = Tells before m.to m.body
IsTold before _ = Unit {0}

pub record Epoching (c : Cluster) (tape : List Item) (nodes : ℕ → Node) (owed : ℕ → List Met) : Type 0 where
  pub rules : Are IsServing tape
  pub come : Are (IsCome c nodes) tape
  pub served : Are (IsServed c nodes) tape
  pub told : Are IsTold tape
  pub owed_come : (v : ℕ) → Each (GrantNote (Come c nodes)) (owed v)
  pub downs : (v : ℕ) → is_up (nodes v).met ≡ false → serving_met (nodes v).met ≡ None

abbrev pub Before : Cluster → Standing → Type 0
Before c now = ShownAt c now × Celling c now.tape now.node now.owed

-- ---- what is served now

module _ (c : Cluster) (now : Standing) (shown_now : ShownAt c now) (q : Epoching c now.tape now.node now.owed) where
  pub served_at : (v : ℕ) (e : Epoch) → Stands (ServingItem (number v) e) now.tape → ServedAt c v (now.node v).met e
  served_at v e s = (are_at (IsServed c now.node) now.tape (ServingItem (number v) e) q.served s).holds

  come_at : (cell v : ℕ) (e : Epoch) → Stands (Grant cell (number v) e) now.tape → EpochReached c (now.node v).met e
  come_at cell v e s = (are_at (IsCome c now.node) now.tape (Grant cell (number v) e) q.come s).holds

  pub up_of : (v : ℕ) (e : Epoch) → serving_met (now.node v).met ≡ Some e → is_up (now.node v).met ≡ true
  up_of v e s = by (is_up (now.node v).met) refl
    where
      by : (t : Bool) → is_up (now.node v).met ≡ t → t ≡ true
      by true k = refl
      by false k = absurd (let none = sym (q.downs v k) ∙ s in cc)

  -- the epoch that serves is the present one of a full node that is up
  now_present : (v : ℕ) (e : Epoch) → serving_on now.tape v ≡ Some e → IsPresent c (now.node v).met e
  now_present v e s = serving_present c (now.node v).met e (sym agrees.serves ∙ met)
    where
      met : serving_met (now.node v).met ≡ Some e
      met = sym (shown_now.serving v) ∙ s

      agrees : AgreesAt c (now.node v).met
      agrees = shown_now.agrees v (served_at v e (serving_stands c v e now.tape s)).full (up_of v e met)

-- ---- notes

come_shown : (c : Cluster) (those : ℕ → Node) (me : ℕ) (nodes : ℕ → Node) (note : Met) → GrantNote (Come c those) note → Each (IsFree (IsCome c those) (λ t. tt) c nodes) (shown me note)
come_shown c those me nodes (Grants node epoch) h = (λ t. h, tt)
come_shown c those me nodes (Starts start) h = (λ t. tt, tt)
come_shown c those me nodes Crashes h = (λ t. tt, tt)
come_shown c those me nodes (Ticks now) h = (λ t. tt, tt)
come_shown c those me nodes (Begins op text) h = (λ t. tt, tt)
come_shown c those me nodes (Takes message) h = tt
come_shown c those me nodes (Sends message) h = tt
come_shown c those me nodes (Unsends message) h = (λ t. tt, tt)
come_shown c those me nodes (Lapses node epoch) h = (λ t. tt, tt)
come_shown c those me nodes (Counts cell epoch) h = (λ t. tt, tt)
come_shown c those me nodes (Forgets cell epoch) h = (λ t. tt, tt)
come_shown c those me nodes (Serves epoch) h = (λ t. tt, tt)
come_shown c those me nodes (Loses epoch) h = (λ t. tt, tt)
come_shown c those me nodes (Validates group position) h = (λ t. tt, tt)
come_shown c those me nodes (Invalidates group position) h = (λ t. tt, tt)
come_shown c those me nodes (Decides group position entry) h = (λ t. tt, tt)
come_shown c those me nodes (Applies group position) h = (λ t. tt, tt)
come_shown c those me nodes (Answers op answer) h = (λ t. tt, tt)

-- what is said of an epoch that begins to serve
abbrev ServeNote : (Epoch → Type 0) → Met → Type 0
ServeNote F (Serves epoch) = F epoch
ServeNote F _ = Unit {0}

served_shown : (c : Cluster) (those : ℕ → Node) (me : ℕ) (nodes : ℕ → Node) (note : Met) → ServeNote (ServedAt c me (those me).met) note → Each (IsFree (IsServed c those) (λ t. tt) c nodes) (shown me note)
served_shown c those me nodes (Serves epoch) h = (λ t. h, tt)
served_shown c those me nodes (Grants node epoch) h = (λ t. tt, tt)
served_shown c those me nodes (Starts start) h = (λ t. tt, tt)
served_shown c those me nodes Crashes h = (λ t. tt, tt)
served_shown c those me nodes (Ticks now) h = (λ t. tt, tt)
served_shown c those me nodes (Begins op text) h = (λ t. tt, tt)
served_shown c those me nodes (Takes message) h = tt
served_shown c those me nodes (Sends message) h = tt
served_shown c those me nodes (Unsends message) h = (λ t. tt, tt)
served_shown c those me nodes (Lapses node epoch) h = (λ t. tt, tt)
served_shown c those me nodes (Counts cell epoch) h = (λ t. tt, tt)
served_shown c those me nodes (Forgets cell epoch) h = (λ t. tt, tt)
served_shown c those me nodes (Loses epoch) h = (λ t. tt, tt)
served_shown c those me nodes (Validates group position) h = (λ t. tt, tt)
served_shown c those me nodes (Invalidates group position) h = (λ t. tt, tt)
served_shown c those me nodes (Decides group position entry) h = (λ t. tt, tt)
served_shown c those me nodes (Applies group position) h = (λ t. tt, tt)
served_shown c those me nodes (Answers op answer) h = (λ t. tt, tt)

-- notes that grant, count and serve nothing
abbrev IsQuiet : Met → Type 0
IsQuiet (Grants node epoch) = ⊥
IsQuiet (Counts cell epoch) = ⊥
IsQuiet (Serves epoch) = ⊥
IsQuiet _ = Unit {0}

quiet_shown : (me : ℕ) (c : Cluster) (nodes : ℕ → Node) (note : Met) → IsQuiet note → Each (IsFree IsServing (λ t. tt) c nodes) (shown me note)
quiet_shown me c nodes (Grants node epoch) h = absurd h
quiet_shown me c nodes (Counts cell epoch) h = absurd h
quiet_shown me c nodes (Serves epoch) h = absurd h
quiet_shown me c nodes (Starts start) h = (λ t. tt, tt)
quiet_shown me c nodes Crashes h = (λ t. tt, tt)
quiet_shown me c nodes (Ticks now) h = (λ t. tt, tt)
quiet_shown me c nodes (Begins op text) h = (λ t. tt, tt)
quiet_shown me c nodes (Takes message) h = tt
quiet_shown me c nodes (Sends message) h = tt
quiet_shown me c nodes (Unsends message) h = (λ t. tt, tt)
quiet_shown me c nodes (Lapses node epoch) h = (λ t. tt, tt)
quiet_shown me c nodes (Forgets cell epoch) h = (λ t. tt, tt)
quiet_shown me c nodes (Loses epoch) h = (λ t. tt, tt)
quiet_shown me c nodes (Validates group position) h = (λ t. tt, tt)
quiet_shown me c nodes (Invalidates group position) h = (λ t. tt, tt)
quiet_shown me c nodes (Decides group position entry) h = (λ t. tt, tt)
quiet_shown me c nodes (Applies group position) h = (λ t. tt, tt)
quiet_shown me c nodes (Answers op answer) h = (λ t. tt, tt)

quiet_follow : (me : ℕ) (c : Cluster) (nodes : ℕ → Node) (notes : List Met) (t : List Item) → Each IsQuiet notes → Follows IsServing (λ t. tt) c nodes t (flat_map (shown me) notes)
quiet_follow me c nodes notes t h = free_follows IsServing (λ t. tt) c nodes (flat_map (shown me) notes) t
    (free_notes IsServing (λ t. tt) c nodes me notes (each_on IsQuiet (λ note. Each (IsFree IsServing (λ t. tt) c nodes) (shown me note)) (λ note is. quiet_shown me c nodes note is) notes h))

rest_quiet : (notes : List Met) → Each IsRest notes → Each IsQuiet notes
rest_quiet notes h = each_on IsRest IsQuiet one notes h
  where
    one : (note : Met) → IsRest note → IsQuiet note
    one (Grants node epoch) is = absurd is
    one (Counts cell epoch) is = absurd is
    one (Serves epoch) is = absurd is
    one _ is = tt

quiet_serve : (F : Epoch → Type 0) (notes : List Met) → Each IsQuiet notes → Each (ServeNote F) notes
quiet_serve F notes h = each_on IsQuiet (ServeNote F) one notes h
  where
    one : (note : Met) → IsQuiet note → ServeNote F note
    one (Serves epoch) is = absurd is
    one _ is = tt

pub still_within : (notes : List Met) → Each IsStill notes → Each IsWithin notes
still_within notes h = each_on IsStill IsWithin one notes h
  where
    one : (note : Met) → IsStill note → IsWithin note
    one (Starts start) is = absurd is
    one _ is = tt

still_up : (notes met : List Met) → Each IsStill notes → is_up (onto notes met) ≡ is_up met
still_up [] met h = refl
still_up (Starts start ∷ notes) met h = absurd h.0
still_up (Crashes ∷ notes) met h = absurd h.0
still_up (one ∷ notes) met h = still_up notes (one ∷ met) h.1

pub owed_within : (notes : List Met) → Each IsOwed notes → Each IsWithin notes
owed_within notes h = each_on IsOwed IsWithin one notes h
  where
    one : (note : Met) → IsOwed note → IsWithin note
    one (Starts start) is = absurd is
    one _ is = tt

owed_up : (notes met : List Met) → Each IsOwed notes → is_up (onto notes met) ≡ is_up met
owed_up [] met h = refl
owed_up (Starts start ∷ notes) met h = absurd h.0
owed_up (Crashes ∷ notes) met h = absurd h.0
owed_up (one ∷ notes) met h = owed_up notes (one ∷ met) h.1

pub rest_serves : (notes met : List Met) → Each IsRest notes → serving_met (onto notes met) ≡ serving_met met
rest_serves [] met h = refl
rest_serves (Decides group position entry ∷ notes) met h = rest_serves notes (Decides group position entry ∷ met) h.1
rest_serves (Applies group position ∷ notes) met h = rest_serves notes (Applies group position ∷ met) h.1
rest_serves (Validates group position ∷ notes) met h = rest_serves notes (Validates group position ∷ met) h.1
rest_serves (Answers op answer ∷ notes) met h = rest_serves notes (Answers op answer ∷ met) h.1
rest_serves (_ ∷ notes) met h = absurd h.0

pub sends_serve : (ms : List Message) (met : List Met) → serving_met (onto (map Sends ms) met) ≡ serving_met met
sends_serve [] met = refl
sends_serve (m ∷ ms) met = sends_serve ms (Sends m ∷ met)

-- a tick serves nothing
tick_quiet : (s : Setting) (met : List Met) (now : ℕ) → Each IsQuiet (lease_notes s met now ++ lapse_notes s met now)
tick_quiet s met now = each_both IsQuiet (lease_notes s met now) (lapse_notes s met now) (leases (is_full s.cluster s.me)) (lapses (nat_le s.me s.cluster.cells))
  where
    forgets : (o : Option Epoch) (xs : List ℕ) → Each IsQuiet (forget_notes o xs)
    forgets None xs = tt
    forgets (Some epoch) [] = tt
    forgets (Some epoch) (cell ∷ xs) = (tt, forgets (Some epoch) xs)

    lost : (o : Option Epoch) → Each IsQuiet (lost_note o)
    lost None = tt
    lost (Some epoch) = (tt, tt)

    leases : (t : Bool) → Each IsQuiet (cond t (tick_notes s.cluster met now) [])
    leases true = each_both IsQuiet (forget_notes (epoch_after (start_of met) s.cluster.cells (coordinator_calls s.cluster met)) (filter (is_cell_in (tick_told s.cluster met now).forgot) (cells s.cluster))) (lost_note (tick_told s.cluster met now).lost)
        (forgets (epoch_after (start_of met) s.cluster.cells (coordinator_calls s.cluster met)) (filter (is_cell_in (tick_told s.cluster met now).forgot) (cells s.cluster))) (lost (tick_told s.cluster met now).lost)
    leases false = tt

    one : (node : ℕ) (o : Option Epoch) → Each IsQuiet (lapse_note node o)
    one node None = tt
    one node (Some e) = (tt, tt)

    all : (those : List ℕ) → Each IsQuiet (flat_map (λ node. lapse_note node (lapse_for (cell_calls s.cluster s.me met) now (keep_of s.cluster) node)) those)
    all [] = tt
    all (node ∷ those) = each_both IsQuiet (lapse_note node (lapse_for (cell_calls s.cluster s.me met) now (keep_of s.cluster) node)) _ (one node (lapse_for (cell_calls s.cluster s.me met) now (keep_of s.cluster) node)) (all those)

    lapses : (t : Bool) → Each IsQuiet (cond t (lapses_at s.cluster s.me met now) [])
    lapses true = all lock_nodes
    lapses false = tt

tick_serve : (F : Epoch → Type 0) (s : Setting) (met : List Met) (now : ℕ) → Each (ServeNote F) (lease_notes s met now ++ lapse_notes s met now)
tick_serve F s met now = quiet_serve F (lease_notes s met now ++ lapse_notes s met now) (tick_quiet s met now)

-- ---- a cell that is counted

left_of : (a b : Bool) → (a && b) ≡ true → a ≡ true
left_of true b h = refl
left_of false b h = h

-- a cell that was not counted is so while nothing serves
idle_of : (serves was : Bool) → (not serves || was) ≡ true → was ≡ false → serves ≡ false
idle_of true was h none = let both_ways = sym h ∙ none in cc
idle_of false was h none = refl

-- an epoch begins to serve where none does
record Begins_at (start : ℕ) (lease : Lease) (epoch : Epoch) : Type 0 where
  idle : lease.serves ≡ false
  present : epoch_of start lease ≡ Some epoch

module _ (start cells : ℕ) (lease : Lease) (cell : ℕ) (epoch : Epoch) (until now : ℕ) where
  counts_present : counts start cells lease cell epoch until now ≡ true → epoch_of start lease ≡ Some epoch
  counts_present h = present_is start lease epoch (left_of (is_present start lease epoch) _ (left_of _ _ (left_of _ _ (left_of _ _ h))))

  right_of : (a b : Bool) → (a && b) ≡ true → b ≡ true
  right_of true b h = h
  right_of false b h = cc

  answer_counts : granted_answer start cells lease cell epoch until now ≡ Yes → is_some (counted_by lease cell) ≡ false → lease.serves ≡ false
  answer_counts h none = by (counts start cells lease cell epoch until now) refl (not lease.serves && is_majority cells (until_with lease cell until)) h
    where
      by : (t : Bool) → counts start cells lease cell epoch until now ≡ t → (u : Bool) → cond t (cond u ServingAnswer Yes) No ≡ Yes → lease.serves ≡ false
      by true k u j = idle_of lease.serves (is_some (counted_by lease cell)) (right_of _ (not lease.serves || is_some (counted_by lease cell)) k) none
      by false k u j = cc

  answer_serves : granted_answer start cells lease cell epoch until now ≡ ServingAnswer → Begins_at start lease epoch
  answer_serves h = by (counts start cells lease cell epoch until now) refl (not lease.serves && is_majority cells (until_with lease cell until)) refl h
    where
      by : (t : Bool) → counts start cells lease cell epoch until now ≡ t → (u : Bool) → (not lease.serves && is_majority cells (until_with lease cell until)) ≡ u → cond t (cond u ServingAnswer Yes) No ≡ ServingAnswer → Begins_at start lease epoch
      by true k true j i = record { idle = not-true lease.serves (left_of (not lease.serves) _ j); present = counts_present k }
      by true k false j i = cc
      by false k u j i = cc

-- ---- what stands behind an item

module _ (c : Cluster) (nodes : ℕ → Node) where
  stands_with : (t : List Item) (item other : Item) → Stands other (with_item c nodes t item) → (other ≡ Unsafe) ⊎ ((other ≡ item) ⊎ Stands other t)
  stands_with t item other s = by (breaks c nodes item && not (is_unsafe t)) s
    where
      by : (b : Bool) → Stands other (cond b (Unsafe ∷ item ∷ t) (item ∷ t)) → (other ≡ Unsafe) ⊎ ((other ≡ item) ⊎ Stands other t)
      by true (inl is) = inl (sym is)
      by true (inr (inl is)) = inr (inl (sym is))
      by true (inr (inr k)) = inr (inr k)
      by false (inl is) = inr (inl (sym is))
      by false (inr k) = inr (inr k)

  serving_with : (t : List Item) (v : ℕ) (who : NodeId) (cell : ℕ) (epoch : Epoch) → serving_on (with_item c nodes t (CountsItem who cell epoch)) v ≡ serving_on t v
  serving_with t v who cell epoch = by (breaks c nodes (CountsItem who cell epoch) && not (is_unsafe t))
    where
      by : (b : Bool) → serving_on (cond b (Unsafe ∷ CountsItem who cell epoch ∷ t) (CountsItem who cell epoch ∷ t)) v ≡ serving_on t v
      by true = refl
      by false = refl

asks_grow : (F G : ℕ → Epoch → Type 0) → ((v : ℕ) (e : Epoch) → F v e → G v e) → (from : ℕ) (body : Body) → AskedFor F from body → AskedFor G from body
asks_grow F G f from (Acquire cell epoch clock) k = f from epoch k
asks_grow F G f from _ k = tt

silent_is_told : (t : List Item) (x : Item) → IsSilent x → IsTold t x
silent_is_told t (Sent key m) k = absurd k
silent_is_told t _ k = tt

-- notes of grants of which more is said
grants_then : (F G : ℕ → Epoch → Type 0) → ((v : ℕ) (e : Epoch) → F v e → G v e) → (notes : List Met) → Each (GrantNote F) notes → Each (GrantNote G) notes
grants_then F G f notes h = each_on (GrantNote F) (GrantNote G) one notes h
  where
    one : (note : Met) → GrantNote F note → GrantNote G note
    one (Grants node epoch) k = f node epoch k
    one _ k = tt

unsent_granted : (F : ℕ → Epoch → Type 0) (ms : List Message) → Each (GrantNote F) (map Unsends ms)
unsent_granted F [] = tt
unsent_granted F (m ∷ ms) = (tt, unsent_granted F ms)

-- ---- a step

module _ (c : Cluster) (few : length c.nodes ≤ 9) (h : Meanings) (now : Standing) (me : ℕ) (up : is_up (now.node me).met ≡ true) (p : Before c now) (q : Epoching c now.tape now.node now.owed) where
  abbrev s : Setting
  s = setting c h me

  abbrev met : List Met
  met = (now.node me).met

  abbrev made : Event → Step
  made event = step s (now.node me) event

  abbrev nodes' : Event → ℕ → Node
  nodes' event = set_at now.node me (made event).node

  -- what a message tells, on the tape on which it is taken
  module _ (nodes : ℕ → Node) (item : Item) (own_is : IsOwn item) where
    abbrev first : List Item
    first = item ∷ now.tape

    first_serving : (v : ℕ) → serving_on first v ≡ serving_on now.tape v
    first_serving v = tells_serving.own item own_is now.tape v

    own_not : (other : Item) → (IsOwn other → ⊥) → Stands other first → Stands other now.tape
    own_not other none (inl is) = absurd (none (subst IsOwn is own_is))
    own_not other none (inr k) = k

    grant_rule : (v : ℕ) (epoch : Epoch) → EpochReached c (now.node v).met epoch → (e : Epoch) → serving_on first v ≡ Some e → is_epoch_below e epoch ≡ false
    grant_rule v epoch reached e is = not_above c (now.node v).met e epoch (now_present c now p.0 q v e (sym (first_serving v) ∙ is)) reached

    asked_follow : (t : Bool) (from : ℕ) (epoch : Epoch) (a : Asked) → EpochReached c (now.node from).met epoch → Follows IsServing (λ x. tt) c nodes first (flat_map (shown me) (cond t (grant_note from epoch a) []))
    asked_follow false from epoch a reached = tt
    asked_follow true from epoch Granted reached = (grant_rule from epoch reached, tt)
    asked_follow true from epoch Renewed reached = tt
    asked_follow true from epoch (GreaterHeld greatest) reached = tt
    asked_follow true from epoch (Over greatest) reached = tt

    module _ (full : is_full c me ≡ true) (cell : ℕ) (epoch : Epoch) (granted : Stands (Grant cell (number me) epoch) now.tape) where
      abbrev lease : Lease
      lease = lease_of (start_of met) c.cells (coordinator_calls c met)

      agreed : AgreesAt c met
      agreed = (p.0).agrees me full up

      idle_none : lease.serves ≡ false → serving_on now.tape me ≡ None
      idle_none idle = (p.0).serving me ∙ agreed.serves ∙ ap (λ t. cond t (epoch_of (start_of met) lease) None) idle

      counts_rule : lease.serves ≡ false → IsServing first (CountsItem (number me) cell epoch)
      counts_rule idle = (inr granted, first_serving me ∙ idle_none idle)

      present_now : epoch_of (start_of met) lease ≡ Some epoch → IsPresent c met epoch
      present_now is = asked_present (start_of met) c.cells (coordinator_calls c met) epoch is

      -- on this tape or behind the count of a cell
      serves_rule : (t : List Item) → Begins_at (start_of met) lease epoch → serving_on t me ≡ None → ((e : Epoch) → Stands (ServingItem (number me) e) t → Stands (ServingItem (number me) e) now.tape)
          → ((other : ℕ) (e : Epoch) → Stands (Grant other (number me) e) t → Stands (Grant other (number me) e) now.tape) → MayServe t (number me) epoch
      serves_rule t begins none served given = record {
        once = λ stands. never (served epoch stands);
        alone = none;
        greatest = λ other e stands. not_above c met epoch e (present_now begins.present) (come_at c now p.0 q other me e (given other e stands));
      }
        where
          never : Stands (ServingItem (number me) epoch) now.tape → ⊥
          never stands = let some = (served_at c now p.0 q me epoch stands).still up (present_now begins.present) in let serving_none = sym ((p.0).serving me) ∙ idle_none begins.idle in let none_some = sym serving_none ∙ some in cc

      serves_first : Begins_at (start_of met) lease epoch → IsServing first (ServingItem (number me) epoch)
      serves_first begins = serves_rule first begins (first_serving me ∙ idle_none begins.idle) (λ e stands. own_not (ServingItem (number me) e) (λ o. o) stands) (λ other e stands. own_not (Grant other (number me) e) (λ o. o) stands)

      abbrev counted : List Item
      counted = with_item c nodes first (CountsItem (number me) cell epoch)

      serves_counted : Begins_at (start_of met) lease epoch → IsServing counted (ServingItem (number me) epoch)
      serves_counted begins = serves_rule counted begins (serving_with c nodes first me (number me) cell epoch ∙ first_serving me ∙ idle_none begins.idle) (λ e stands. behind_serving e (stands_with c nodes first (CountsItem (number me) cell epoch) (ServingItem (number me) e) stands))
          (λ other e stands. behind_grant other e (stands_with c nodes first (CountsItem (number me) cell epoch) (Grant other (number me) e) stands))
        where
          behind_serving : (e : Epoch) → (ServingItem (number me) e ≡ Unsafe) ⊎ ((ServingItem (number me) e ≡ CountsItem (number me) cell epoch) ⊎ Stands (ServingItem (number me) e) first) → Stands (ServingItem (number me) e) now.tape
          behind_serving e (inl is) = absurd (let clashing = is in cc)
          behind_serving e (inr (inl is)) = absurd (let clashing = is in cc)
          behind_serving e (inr (inr k)) = own_not (ServingItem (number me) e) (λ o. o) k

          behind_grant : (other : ℕ) (e : Epoch) → (Grant other (number me) e ≡ Unsafe) ⊎ ((Grant other (number me) e ≡ CountsItem (number me) cell epoch) ⊎ Stands (Grant other (number me) e) first) → Stands (Grant other (number me) e) now.tape
          behind_grant other e (inl is) = absurd (let clashing = is in cc)
          behind_grant other e (inr (inl is)) = absurd (let clashing = is in cc)
          behind_grant other e (inr (inr k)) = own_not (Grant other (number me) e) (λ o. o) k

      counts_follow : (was : Bool) (a : Counted) → (a ≡ Yes → was ≡ false → lease.serves ≡ false) → (a ≡ ServingAnswer → Begins_at (start_of met) lease epoch)
          → Follows IsServing (λ x. tt) c nodes first (flat_map (shown me) (counts_notes cell epoch was a))
      counts_follow was No when_yes serving_too = tt
      counts_follow true Yes when_yes serving_too = tt
      counts_follow false Yes when_yes serving_too = (counts_rule (when_yes refl refl), tt)
      counts_follow true ServingAnswer when_yes serving_too = (serves_first (serving_too refl), tt)
      counts_follow false ServingAnswer when_yes serving_too = (counts_rule (serving_too refl).idle, (serves_counted (serving_too refl), tt))

      grants_follow : (clock : ℕ) → Follows IsServing (λ x. tt) c nodes first (flat_map (shown me) (grant_notes c met cell epoch clock))
      grants_follow clock = counts_follow (is_some (counted_by lease cell)) (granted_answer (start_of met) c.cells lease cell epoch (clock + c.lease) (clock_of met))
          (answer_counts (start_of met) c.cells lease cell epoch (clock + c.lease) (clock_of met)) (answer_serves (start_of met) c.cells lease cell epoch (clock + c.lease) (clock_of met))

    granted_follow : (t u : Bool) → is_full c me ≡ t → (cell : ℕ) (epoch : Epoch) (clock : ℕ) → Stands (Grant cell (number me) epoch) now.tape → Follows IsServing (λ x. tt) c nodes first (flat_map (shown me) (cond (t && u) (grant_notes c met cell epoch clock) []))
    granted_follow true true full cell epoch clock granted = grants_follow full cell epoch granted clock
    granted_follow true false full cell epoch clock granted = tt
    granted_follow false u full cell epoch clock granted = tt

    -- what the taken message may rest on
    abbrev Rests : ℕ → Body → Type 0
    Rests from (Acquire cell epoch clock) = EpochReached c (now.node from).met epoch
    Rests from (GrantedBody cell epoch clock) = Stands (Grant cell (number me) epoch) now.tape
    Rests from _ = Unit {0}

    taken_rests : (from to : ℕ) (body : Body) → to ≡ me → AskedFor (Come c now.node) from body → Tells now.tape to body → Rests from body
    taken_rests from to (Acquire cell epoch clock) goes come tells = come
    taken_rests from to (GrantedBody cell epoch clock) goes come tells = subst (λ v. Stands (Grant cell (number v) epoch) now.tape) goes tells
    taken_rests from to _ goes come tells = tt

    told_follow : (from : ℕ) (body : Body) → Rests from body → Follows IsServing (λ x. tt) c nodes first (flat_map (shown me) (told_notes s met from body))
    told_follow from (Acquire cell epoch clock) r = asked_follow (cell == me && nat_le me c.cells) from epoch (asked_for c me met from epoch) r
    told_follow from (GrantedBody cell epoch clock) r = granted_follow (is_full c me) (nat_le cell c.cells) refl cell epoch clock r
    told_follow from (Invalidate op group n) r = by (is_full c me)
      where
        by : (t : Bool) → Follows IsServing (λ x. tt) c nodes first (flat_map (shown me) (cond t (Invalidates group n.0 ∷ []) []))
        by true = (tt, tt)
        by false = tt
    told_follow from _ r = tt

  -- ---- what it sends

  record SendsWell (nodes : ℕ → Node) (m : Message) (t : List Item) : Type 0 where
    come : AskedFor (Come c nodes) m.from m.body
    tells : Tells t m.to m.body

  tells_on : (key : ℕ) (other : Message) (t : List Item) (to : ℕ) (body : Body) → Tells t to body → Tells (Sent key other ∷ t) to body
  tells_on key other t to (GrantedBody cell epoch clock) k = inr k
  tells_on key other t to _ k = tt

  well_on : (nodes : ℕ → Node) (m other : Message) (t : List Item) (key : ℕ) → SendsWell nodes m t → SendsWell nodes m (Sent key other ∷ t)
  well_on nodes m other t key r = record { come = r.come; tells = tells_on key other t m.to m.body r.tells }

  -- a body that says nothing of this
  abbrev OtherBody : Body → Type 0
  OtherBody (Acquire cell epoch clock) = ⊥
  OtherBody (GrantedBody cell epoch clock) = ⊥
  OtherBody _ = Unit {0}

  other_come : (F : ℕ → Epoch → Type 0) (from : ℕ) (body : Body) → OtherBody body → AskedFor F from body
  other_come F from (Acquire cell epoch clock) k = absurd k
  other_come F from _ k = tt

  other_tells : (t : List Item) (to : ℕ) (body : Body) → OtherBody body → Tells t to body
  other_tells t to (GrantedBody cell epoch clock) k = absurd k
  other_tells t to _ k = tt

  other_well : (nodes : ℕ → Node) (t : List Item) (m : Message) → OtherBody m.body → SendsWell nodes m t
  other_well nodes t m other = record { come = other_come (Come c nodes) m.from m.body other; tells = other_tells t m.to m.body other }

  question_other : (body : Body) → is_question body ≡ true → OtherBody body
  question_other (Acquire cell epoch clock) is = cc
  question_other (GrantedBody cell epoch clock) is = cc
  question_other _ is = tt

  served_other : (t : Bool) (body reply : Body) → OtherBody body → where_served t body ≡ Some reply → OtherBody reply
  served_other true body reply other is = subst OtherBody (some_is body reply is) other
  served_other false body reply other is = cc

  log_other : (body : Body) → IsLogAnswer body → OtherBody body
  log_other (Acquire cell epoch clock) h = h
  log_other (GrantedBody cell epoch clock) h = h
  log_other _ h = tt

  held_other : (body : Body) → IsHeldAnswer body → OtherBody body
  held_other (Acquire cell epoch clock) h = h
  held_other (GrantedBody cell epoch clock) h = h
  held_other _ h = tt

  -- an epoch that is renewed was granted
  renewed_stands : (from : ℕ) (epoch : Epoch) → is_cell c me ≡ true → is_full c from ≡ true → asked_for c me met from epoch ≡ Renewed → Stands (Grant me (number from) epoch) now.tape
  renewed_stands from epoch cell_is full is = by (lock_of (cell_calls c me met) from) is (((p.1).cell me).locks from cell_is (full_nine c from few full) up)
    where
      found : (g : Epoch) → epoch ≡ g → (o : Option (Epoch × Bool)) → last_grant met from ≡ o → (was : Option Term) → Matches (Held g was) o → Stands (Grant me (number from) epoch) now.tape
      found g same None last was matches = absurd matches
      found g same (Some one) last was matches = subst (λ e. Stands (Grant me (number from) e) now.tape) (matches.0 ∙ sym same)
          (subst (Shown me from now.tape) ((p.1).granted from me ∙ last) (granted_shown me from now.tape)).0

      held_by : (g : Epoch) (was : Option Term) (t u : Bool) → is_same epoch g ≡ u → cond t Granted (cond u Renewed (GreaterHeld g)) ≡ Renewed → Matches (Held g was) (last_grant met from) → Stands (Grant me (number from) epoch) now.tape
      held_by g was true u same k matches = cc
      held_by g was false true same k matches = found g (same_is epoch g same) (last_grant met from) refl was matches
      held_by g was false false same k matches = cc

      ended_by : (g : Epoch) (t : Bool) → cond t Granted (Over g) ≡ Renewed → Stands (Grant me (number from) epoch) now.tape
      ended_by g true k = cc
      ended_by g false k = cc

      by : (lock : Lock) → answer lock epoch ≡ Renewed → Matches lock (last_grant met from) → Stands (Grant me (number from) epoch) now.tape
      by Free k matches = cc
      by (Held g was) k matches = held_by g was (is_above epoch g) (is_same epoch g) refl k matches
      by (Ended g) k matches = ended_by g (is_above epoch g) k

  module _ (nodes : ℕ → Node) (item : Item) (rest : List Met) where
    abbrev behind : List Met → List Item
    behind told = with_items c nodes (item ∷ now.tape) (flat_map (shown me) (told ++ rest))

    behind_later : (told : List Met) → Earlier now.tape (behind told)
    behind_later told = then_later now.tape (item ∷ now.tape) (behind told) (one_later now.tape now.tape item (now_is now.tape)) (items_later c nodes (flat_map (shown me) (told ++ rest)) (item ∷ now.tape))

    granted_stands : (from : ℕ) (epoch : Epoch) → Stands (Grant me (number from) epoch) (behind (Grants from epoch ∷ []))
    granted_stands from epoch = earlier_stood (Grant me (number from) epoch ∷ item ∷ now.tape) (behind (Grants from epoch ∷ [])) (items_later c nodes (flat_map (shown me) rest) (Grant me (number from) epoch ∷ item ∷ now.tape)) (Grant me (number from) epoch) (inl refl)

    acquire_tells : (from : ℕ) (cell : ℕ) (epoch : Epoch) (clock : ℕ) (m : Message) → is_full c from ≡ true → m.to ≡ from → (b : Bool) → (cell == me && is_cell c me) ≡ b → (a : Asked) → asked_for c me met from epoch ≡ a
        → where_served b (lock_answer cell epoch clock a) ≡ Some m.body → SendsWell nodes m (behind (cond (cell == me && nat_le me c.cells) (grant_note from epoch a) []))
    acquire_tells from cell epoch clock m full to false at a asked k = absurd (let none = k in cc)
    acquire_tells from cell epoch clock m full to true at (GreaterHeld greatest) asked k = other_well nodes _ m (subst OtherBody (some_is (Past cell epoch greatest) m.body k) tt)
    acquire_tells from cell epoch clock m full to true at (Over greatest) asked k = other_well nodes _ m (subst OtherBody (some_is (Past cell epoch greatest) m.body k) tt)
    acquire_tells from cell epoch clock m full to true at Granted asked k = record {
      come = subst (AskedFor (Come c nodes) m.from) (some_is (GrantedBody cell epoch clock) m.body k) tt;
      tells = subst (Tells (behind (cond (cell == me && nat_le me c.cells) (Grants from epoch ∷ []) [])) m.to) (some_is (GrantedBody cell epoch clock) m.body k)
          (subst (λ t. Stands (Grant cell (number m.to) epoch) (behind (cond t (Grants from epoch ∷ []) []))) (sym both_are)
          (coe 1 0 (i. Stands (Grant (own i) (number (to i)) epoch) (behind (Grants from epoch ∷ []))) (granted_stands from epoch)));
    }
      where
        parts : ((cell == me) ≡ true) × (is_cell c me ≡ true)
        parts = and_parts (cell == me) (is_cell c me) at

        own : cell ≡ me
        own = number_is cell me parts.0

        both_are : (cell == me && nat_le me c.cells) ≡ true
        both_are = ap (λ t. t && nat_le me c.cells) parts.0 ∙ (and_parts (nat_le 1 me) (nat_le me c.cells) parts.1).1
    acquire_tells from cell epoch clock m full to true at Renewed asked k = record {
      come = subst (AskedFor (Come c nodes) m.from) (some_is (GrantedBody cell epoch clock) m.body k) tt;
      tells = subst (Tells (behind (cond (cell == me && nat_le me c.cells) [] [])) m.to) (some_is (GrantedBody cell epoch clock) m.body k)
          (earlier_stood now.tape (behind (cond (cell == me && nat_le me c.cells) [] [])) (behind_later (cond (cell == me && nat_le me c.cells) [] [])) (Grant cell (number m.to) epoch)
          (coe 1 0 (i. Stands (Grant (own i) (number (to i)) epoch) now.tape) (renewed_stands from epoch parts.1 full asked)));
    }
      where
        parts : ((cell == me) ≡ true) × (is_cell c me ≡ true)
        parts = and_parts (cell == me) (is_cell c me) at

        own : cell ≡ me
        own = number_is cell me parts.0

    reply_well : (from to : ℕ) (body : Body) (m : Message) → AskedFull c from body → m.to ≡ from → answer_to c me met from body ≡ Some m.body → SendsWell nodes m (behind (told_notes s met from body))
    reply_well from to (Acquire cell epoch clock) m full goes is = acquire_tells from cell epoch clock m full goes (cell == me && is_cell c me) refl (asked_for c me met from epoch) refl is
    reply_well from to (Where op group) m full goes is = other_well nodes _ m (served_other (is_voter c me) (Top op group (record { 0 = top_of met group })) m.body tt is)
    reply_well from to (Accept op group n b e) m full goes is = other_well nodes _ m (log_other m.body (answer_kind c me met from (Accept op group n b e) m.body is))
    reply_well from to (Prepare op group n b) m full goes is = other_well nodes _ m (log_other m.body (answer_kind c me met from (Prepare op group n b) m.body is))
    reply_well from to (Fetch op group n) m full goes is = other_well nodes _ m (log_other m.body (answer_kind c me met from (Fetch op group n) m.body is))
    reply_well from to (Invalidate op group n) m full goes is = other_well nodes _ m (served_other (is_full c me) (Invalidated op group n) m.body tt is)
    reply_well from to (Dead op cell node) m full goes is = other_well nodes _ m (held_other m.body (answer_kind c me met from (Dead op cell node) m.body is))
    reply_well from to _ m full goes is = absurd (let none = is in cc)

  -- ---- how far the epochs come

  own_within : (event : Event) → IsWithin (met_in s met event)
  own_within (Tick clock) = tt
  own_within (Take m) = tt
  own_within (Begin request text) = tt

  grown : (event : Event) → Grown c met ((made event).node).met
  grown event = subst (Grown c met) (sym (step_met s (now.node me) event ∙ sym (onto_append (made event).notes (map Sends (made event).sends) (met_in s met event ∷ met))))
      (grown_onto c (met_in s met event ∷ ((made event).notes ++ map Sends (made event).sends)) met
      (own_within event, each_both IsWithin (made event).notes (map Sends (made event).sends) (still_within (made event).notes (step_still s (now.node me) event)) (still_within (map Sends (made event).sends) (sends_still (made event).sends))))

  come_on : (event : Event) (v : ℕ) (e : Epoch) → EpochReached c (now.node v).met e → EpochReached c (nodes' event v).met e
  come_on event v e = by_node (λ v node. EpochReached c (now.node v).met e → EpochReached c node.met e) now.node me (made event).node (reached_grown c met ((made event).node).met e (grown event)) (λ v apart r. r) v

  agrees_then : (event : Event) → is_full c me ≡ true → AgreesAt c ((made event).node).met
  agrees_then event full = step_agrees s full (now.node me) ((p.0).agrees me full up) event

  served_on : (event : Event) (v : ℕ) (e : Epoch) → ServedAt c v (now.node v).met e → ServedAt c v (nodes' event v).met e
  served_on event v e = by_node (λ v node. ServedAt c v (now.node v).met e → ServedAt c v node.met e) now.node me (made event).node mine (λ v apart r. r) v
    where
      mine : ServedAt c me met e → ServedAt c me ((made event).node).met e
      mine r = record {
        full = r.full;
        reached = reached_grown c met ((made event).node).met e (grown event) r.reached;
        still = λ stays present. (agrees_then event r.full).serves
            ∙ serving_grown c met ((made event).node).met e (grown event) (sym ((p.0).agrees me r.full up).serves ∙ r.still up (present_before c met ((made event).node).met e (grown event) r.reached present)) present;
      }

  event_asks : (item : Item) (event : Event) → Occurs now.tape s met item event → EventAsks (Come c now.node) event
  event_asks item (Tick clock) o = tt
  event_asks item (Take m) o = by m.from m.body (are_at (IsCome c now.node) now.tape (Sent o.0 m) q.come o.2).holds
    where
      by : (from : ℕ) (body : Body) → AskedFor (Come c now.node) from body → AskedFor (Come c now.node) from body
      by from body k = k
  event_asks item (Begin request text) o = tt

  event_then : (F G : ℕ → Epoch → Type 0) → ((v : ℕ) (e : Epoch) → F v e → G v e) → (event : Event) → EventAsks F event → EventAsks G event
  event_then F G f (Tick clock) k = tt
  event_then F G f (Take m) k = asks_grow F G f m.from m.body k
  event_then F G f (Begin request text) k = tt

  -- an epoch that a step serves
  serve_notes : (item : Item) (event : Event) → Occurs now.tape s met item event → Each (ServeNote (ServedAt c me ((made event).node).met)) (made event).notes
  serve_notes item event o = let parts = step_parts s (now.node me) event in
      subst (Each (ServeNote (ServedAt c me ((made event).node).met))) (sym parts.is)
      (each_both (ServeNote (ServedAt c me ((made event).node).met)) (fronts s (now.node me) event) parts.rest (front_serves event parts.rest parts.is parts.each)
      (quiet_serve (ServedAt c me ((made event).node).met) parts.rest (rest_quiet parts.rest parts.each)))
    where
      F : Event → Epoch → Type 0
      F event = ServedAt c me ((made event).node).met

      -- what it then serves, behind what the message told
      then_serves : (m : Message) (rest told : List Met) → (made (Take m)).notes ≡ told ++ rest → Each IsRest rest → serving_met ((made (Take m)).node).met ≡ serving_met (onto told (Takes m ∷ met))
      then_serves m rest told is each = ap serving_met (step_met s (now.node me) (Take m)) ∙ sends_serve (made (Take m)).sends (onto (made (Take m)).notes (Takes m ∷ met))
          ∙ ap serving_met (ap (λ notes. onto notes (Takes m ∷ met)) is ∙ onto_append told rest (Takes m ∷ met)) ∙ rest_serves rest (onto told (Takes m ∷ met)) each

      begins_served : (m : Message) (epoch : Epoch) → is_full c me ≡ true → Begins_at (start_of met) (lease_of (start_of met) c.cells (coordinator_calls c met)) epoch → serving_met ((made (Take m)).node).met ≡ Some epoch → F (Take m) epoch
      begins_served m epoch full begins serves = record {
        full = full;
        reached = reached_grown c met ((made (Take m)).node).met epoch (grown (Take m)) (present_reached c met epoch (asked_present (start_of met) c.cells (coordinator_calls c met) epoch begins.present));
        still = λ stays present. serves;
      }

      counts_serve : (m : Message) (rest : List Met) (cell : ℕ) (epoch : Epoch) → is_full c me ≡ true → (was : Bool) (a : Counted) → (a ≡ ServingAnswer → Begins_at (start_of met) (lease_of (start_of met) c.cells (coordinator_calls c met)) epoch)
          → (made (Take m)).notes ≡ counts_notes cell epoch was a ++ rest → Each IsRest rest → Each (ServeNote (F (Take m))) (counts_notes cell epoch was a)
      counts_serve m rest cell epoch full was No begins is each = tt
      counts_serve m rest cell epoch full true Yes begins is each = tt
      counts_serve m rest cell epoch full false Yes begins is each = (tt, tt)
      counts_serve m rest cell epoch full true ServingAnswer begins is each = (begins_served m epoch full (begins refl) (then_serves m rest (Serves epoch ∷ []) is each), tt)
      counts_serve m rest cell epoch full false ServingAnswer begins is each = (tt, (begins_served m epoch full (begins refl) (then_serves m rest (Counts cell epoch ∷ Serves epoch ∷ []) is each), tt))

      granted_serve : (m : Message) (rest : List Met) (cell : ℕ) (epoch : Epoch) (clock : ℕ) (t u : Bool) → is_full c me ≡ t → (made (Take m)).notes ≡ cond (t && u) (grant_notes c met cell epoch clock) [] ++ rest → Each IsRest rest
          → Each (ServeNote (F (Take m))) (cond (t && u) (grant_notes c met cell epoch clock) [])
      granted_serve m rest cell epoch clock true true full is each = counts_serve m rest cell epoch full (is_some (counted_by (lease_of (start_of met) c.cells (coordinator_calls c met)) cell))
          (granted_answer (start_of met) c.cells (lease_of (start_of met) c.cells (coordinator_calls c met)) cell epoch (clock + c.lease) (clock_of met))
          (answer_serves (start_of met) c.cells (lease_of (start_of met) c.cells (coordinator_calls c met)) cell epoch (clock + c.lease) (clock_of met)) is each
      granted_serve m rest cell epoch clock true false full is each = tt
      granted_serve m rest cell epoch clock false u full is each = tt

      told_serve : (m : Message) (rest : List Met) (from : ℕ) (body : Body) → (made (Take m)).notes ≡ told_notes s met from body ++ rest → Each IsRest rest → Each (ServeNote (F (Take m))) (told_notes s met from body)
      told_serve m rest from (Acquire cell epoch clock) is each = by (cell == me && nat_le me c.cells) (asked_for c me met from epoch)
        where
          by : (t : Bool) (a : Asked) → Each (ServeNote (F (Take m))) (cond t (grant_note from epoch a) [])
          by false a = tt
          by true Granted = (tt, tt)
          by true Renewed = tt
          by true (GreaterHeld greatest) = tt
          by true (Over greatest) = tt
      told_serve m rest from (GrantedBody cell epoch clock) is each = granted_serve m rest cell epoch clock (is_full c me) (nat_le cell c.cells) refl is each
      told_serve m rest from (Invalidate op group n) is each = by (is_full c me)
        where
          by : (t : Bool) → Each (ServeNote (F (Take m))) (cond t (Invalidates group n.0 ∷ []) [])
          by true = (tt, tt)
          by false = tt
      told_serve m rest from _ is each = tt

      front_serves : (event : Event) (rest : List Met) → (made event).notes ≡ fronts s (now.node me) event ++ rest → Each IsRest rest → Each (ServeNote (F event)) (fronts s (now.node me) event)
      front_serves (Take m) rest is each = told_serve m rest m.from m.body is each
      front_serves (Tick clock) rest is each = tick_serve (F (Tick clock)) s met clock
      front_serves (Begin request text) rest is each = tt

  -- ---- a whole step

  abbrev items : Event → List Item
  items event = flat_map (shown me) (made event).notes

  abbrev second : Item → Event → List Item
  second item event = with_items c (nodes' event) (item ∷ now.tape) (items event)

  -- the epoch that a tick asks for
  asked_reached : (clock : ℕ) (e : Epoch) → epoch_after (start_of met) c.cells (TickCall clock ∷ coordinator_calls c met) ≡ Some e → EpochReached c ((made (Tick clock)).node).met e
  asked_reached clock e is = reached_grown c (Ticks clock ∷ met) ((made (Tick clock)).node).met e
      (subst (Grown c (Ticks clock ∷ met)) (sym (step_met s (now.node me) (Tick clock) ∙ sym (onto_append (made (Tick clock)).notes (map Sends (made (Tick clock)).sends) (Ticks clock ∷ met))))
      (grown_onto c ((made (Tick clock)).notes ++ map Sends (made (Tick clock)).sends) (Ticks clock ∷ met)
      (each_both IsWithin (made (Tick clock)).notes (map Sends (made (Tick clock)).sends) (still_within (made (Tick clock)).notes (step_still s (now.node me) (Tick clock))) (still_within (map Sends (made (Tick clock)).sends) (sends_still (made (Tick clock)).sends)))))
      (present_reached c (Ticks clock ∷ met) e (asked_present (start_of met) c.cells (TickCall clock ∷ coordinator_calls c met) e is))

  origins_well : (item : Item) (event : Event) → Occurs now.tape s met item event → (ms : List Message) → Each (Origin s met event) ms → Each (λ m. SendsWell (nodes' event) m (second item event)) ms
  origins_well item (Tick clock) o ms each = each_on (Origin s met (Tick clock)) (λ m. SendsWell (nodes' (Tick clock)) m (second item (Tick clock))) one ms each
    where
      one : (m : Message) → Origin s met (Tick clock) m → SendsWell (nodes' (Tick clock)) m (second item (Tick clock))
      one m (inl asks) = other_well (nodes' (Tick clock)) (second item (Tick clock)) m (question_other m.body asks)
      one m (inr a) = subst (λ x. SendsWell (nodes' (Tick clock)) x (second item (Tick clock))) (sym a.is) (record { come = subst (λ (node : Node). EpochReached c node.met a.epoch) (sym (at_me now.node me (made (Tick clock)).node)) (asked_reached clock a.epoch a.present); tells = tt })
  origins_well item (Take got) o ms each = each_on (Origin s met (Take got)) (λ m. SendsWell (nodes' (Take got)) m (second item (Take got))) one ms each
    where
      one : (m : Message) → Origin s met (Take got) m → SendsWell (nodes' (Take got)) m (second item (Take got))
      one m (inl asks) = other_well (nodes' (Take got)) (second item (Take got)) m (question_other m.body asks)
      one m (inr r) = let parts = step_parts s (now.node me) (Take got) in
          subst (λ notes. SendsWell (nodes' (Take got)) m (with_items c (nodes' (Take got)) (item ∷ now.tape) (flat_map (shown me) notes))) (sym parts.is)
          (reply_well (nodes' (Take got)) item parts.rest got.from got.to got.body m (of_asked c now.tape o.0 got (p.1).asked o.2) r.to r.body)
  origins_well item (Begin request text) o ms each = each_on (Origin s met (Begin request text)) (λ m. SendsWell (nodes' (Begin request text)) m (second item (Begin request text))) one ms each
    where
      one : (m : Message) → Origin s met (Begin request text) m → SendsWell (nodes' (Begin request text)) m (second item (Begin request text))
      one m (inl asks) = other_well (nodes' (Begin request text)) (second item (Begin request text)) m (question_other m.body asks)
      one m (inr none) = absurd none

  -- each note as it comes
  fronts_follow : (item : Item) (event : Event) → IsOwn item → Occurs now.tape s met item event → Follows IsServing (λ t. tt) c (nodes' event) (item ∷ now.tape) (flat_map (shown me) (fronts s (now.node me) event))
  fronts_follow item (Tick clock) own_is o = quiet_follow me c (nodes' (Tick clock)) (lease_notes s met clock ++ lapse_notes s met clock) (item ∷ now.tape) (tick_quiet s met clock)
  fronts_follow item (Take m) own_is o = told_follow (nodes' (Take m)) item own_is m.from m.body
      (taken_rests (nodes' (Take m)) item own_is m.from m.to m.body o.3 (are_at (IsCome c now.node) now.tape (Sent o.0 m) q.come o.2).holds (are_told (Sent o.0 m) now.tape q.told o.2))
    where
      -- what a message told, it tells on each longer tape
      told_on : (t : List Item) (one : Item) (to : ℕ) (body : Body) → Tells t to body → Tells (one ∷ t) to body
      told_on t one to (GrantedBody cell epoch clock) k = inr k
      told_on t one to _ k = tt

      item_on : (t : List Item) (other one : Item) → IsTold t one → IsTold (other ∷ t) one
      item_on t other (Sent key message) k = told_on t other message.to message.body k
      item_on t other _ k = tt

      are_told : (one : Item) (t : List Item) → Are IsTold t → Stands one t → IsTold t one
      are_told one [] a k = absurd k
      are_told one (other ∷ before) a (inl is) = item_on before other one (subst (IsTold before) is a.0)
      are_told one (other ∷ before) a (inr k) = item_on before other one (are_told one before a.1 k)
  fronts_follow item (Begin request text) own_is o = tt

  notes_follow : (item : Item) (event : Event) → IsOwn item → Occurs now.tape s met item event → Follows IsServing (λ t. tt) c (nodes' event) (item ∷ now.tape) (items event)
  notes_follow item event own_is o = let parts = step_parts s (now.node me) event in
      subst (Follows IsServing (λ t. tt) c (nodes' event) (item ∷ now.tape)) (sym (ap (flat_map (shown me)) parts.is ∙ flat_map-append (shown me) (fronts s (now.node me) event) parts.rest))
      (both_follow IsServing (λ t. tt) c (nodes' event) (flat_map (shown me) (fronts s (now.node me) event)) (flat_map (shown me) parts.rest) (item ∷ now.tape) (fronts_follow item event own_is o)
      (quiet_follow me c (nodes' event) parts.rest (with_items c (nodes' event) (item ∷ now.tape) (flat_map (shown me) (fronts s (now.node me) event))) (rest_quiet parts.rest parts.each)))

  module _ (item : Item) (event : Event) (o : Occurs now.tape s met item event) where
    own_is : IsOwn item
    own_is = occurs_own now.tape s met item event o

    come_now : (those : ℕ → Node) → ((v : ℕ) (e : Epoch) → EpochReached c (now.node v).met e → EpochReached c (those v).met e) → Are (IsCome c those) now.tape
    come_now those f = are_map (IsCome c now.node) (IsCome c those) one now.tape q.come
      where
        one : (t : List Item) (x : Item) → IsCome c now.node t x → IsCome c those t x
        one t (Sent key m) k = asks_grow (Come c now.node) (Come c those) f m.from m.body k
        one t (Grant cell node epoch) k = f node.0 epoch k
        one t _ k = tt

    served_now : (those : ℕ → Node) → ((v : ℕ) (e : Epoch) → ServedAt c v (now.node v).met e → ServedAt c v (those v).met e) → Are (IsServed c those) now.tape
    served_now those f = are_map (IsServed c now.node) (IsServed c those) one now.tape q.served
      where
        one : (t : List Item) (x : Item) → IsServed c now.node t x → IsServed c those t x
        one t (ServingItem node epoch) k = f node.0 epoch k
        one t _ k = tt

    own_come : (those : ℕ → Node) (t : List Item) (x : Item) → IsOwn x → IsCome c those t x
    own_come those t (Sent key m) k = absurd k
    own_come those t (Grant cell node epoch) k = absurd k
    own_come those t _ k = tt

    own_served : (those : ℕ → Node) (t : List Item) (x : Item) → IsOwn x → IsServed c those t x
    own_served those t (ServingItem node epoch) k = absurd k
    own_served those t _ k = tt

    own_told : (t : List Item) (x : Item) → IsOwn x → IsTold t x
    own_told t (Sent key m) k = absurd k
    own_told t _ k = tt

    own_rule : (t : List Item) (x : Item) → IsOwn x → IsServing t x
    own_rule t (Grant cell node epoch) k = absurd k
    own_rule t (CountsItem node cell epoch) k = absurd k
    own_rule t (ServingItem node epoch) k = absurd k
    own_rule t _ k = tt

    sent_rule : (n : ℕ) (ms : List Message) (t : List Item) → Are IsServing t → Are IsServing (sent n ms t)
    sent_rule n [] t a = a
    sent_rule n (m ∷ ms) t a = sent_rule (n + 1) ms (Sent n m ∷ t) (tt, a)

    sent_served : (those : ℕ → Node) (n : ℕ) (ms : List Message) (t : List Item) → Are (IsServed c those) t → Are (IsServed c those) (sent n ms t)
    sent_served those n [] t a = a
    sent_served those n (m ∷ ms) t a = sent_served those (n + 1) ms (Sent n m ∷ t) (tt, a)

    abbrev those : ℕ → Node
    those = nodes' event

    well : Each (λ m. SendsWell those m (second item event)) (made event).sends
    well = origins_well item event o (made event).sends (step_origins s (now.node me) event)

    notes_come : Each (GrantNote (Come c those)) (made event).notes
    notes_come = step_granted (Come c those) s (now.node me) event (event_then (Come c now.node) (Come c those) (come_on event) event (event_asks item event o))

    notes_served : Each (ServeNote (ServedAt c me (those me).met)) (made event).notes
    notes_served = subst (λ (node : Node). Each (ServeNote (ServedAt c me node.met)) (made event).notes) (sym (at_me now.node me (made event).node)) (serve_notes item event o)

    second_rule : Are IsServing (second item event)
    second_rule = are_items IsServing (λ t. tt) c those (items event) (item ∷ now.tape) (notes_follow item event own_is o) (own_rule now.tape item own_is, q.rules)

    second_come : Are (IsCome c those) (second item event)
    second_come = are_items (IsCome c those) (λ t. tt) c those (items event) (item ∷ now.tape) (free_follows (IsCome c those) (λ t. tt) c those (items event) (item ∷ now.tape)
        (free_notes (IsCome c those) (λ t. tt) c those me (made event).notes (each_on (GrantNote (Come c those)) (λ note. Each (IsFree (IsCome c those) (λ t. tt) c those) (shown me note)) (λ note is. come_shown c those me those note is) (made event).notes notes_come)))
        (own_come those now.tape item own_is, come_now those (come_on event))

    second_served : Are (IsServed c those) (second item event)
    second_served = are_items (IsServed c those) (λ t. tt) c those (items event) (item ∷ now.tape) (free_follows (IsServed c those) (λ t. tt) c those (items event) (item ∷ now.tape)
        (free_notes (IsServed c those) (λ t. tt) c those me (made event).notes (each_on (ServeNote (ServedAt c me (those me).met)) (λ note. Each (IsFree (IsServed c those) (λ t. tt) c those) (shown me note)) (λ note is. served_shown c those me those note is) (made event).notes notes_served)))
        (own_served those now.tape item own_is, served_now those (served_on event))

    second_told : Are IsTold (second item event)
    second_told = are_items IsTold (λ t. tt) c those (items event) (item ∷ now.tape) (free_follows IsTold (λ t. tt) c those (items event) (item ∷ now.tape)
        (each_on IsSilent (IsFree IsTold (λ t. tt) c those) (λ one is t. silent_is_told t one is) (items event) (notes_silent me (made event).notes))) (own_told now.tape item own_is, q.told)

    downs_then : (v : ℕ) → is_up (those v).met ≡ false → serving_met (those v).met ≡ None
    downs_then = by_node (λ v node. is_up node.met ≡ false → serving_met node.met ≡ None) now.node me (made event).node (λ is. clash (is_up ((made event).node).met) up_then is) (λ v apart. q.downs v)
      where
        own_up : (event : Event) → is_up (met_in s met event ∷ met) ≡ is_up met
        own_up (Tick clock) = refl
        own_up (Take m) = refl
        own_up (Begin request text) = refl

        up_then : is_up ((made event).node).met ≡ true
        up_then = ap is_up (step_met s (now.node me) event ∙ sym (onto_append (made event).notes (map Sends (made event).sends) (met_in s met event ∷ met)))
            ∙ still_up ((made event).notes ++ map Sends (made event).sends) (met_in s met event ∷ met) (each_both IsStill (made event).notes (map Sends (made event).sends) (step_still s (now.node me) event) (sends_still (made event).sends))
            ∙ own_up event ∙ up

    steps_epoching : Epoching c (stepped c those me now.tape item (made event)) those now.owed
    steps_epoching = record {
      rules = sent_rule (sent_count now.tape + 1) (made event).sends (second item event) second_rule;
      come = are_sent (IsCome c those) (SendsWell those) (λ m t k r. r.come) (well_on those) (sent_count now.tape + 1) (made event).sends (second item event) well second_come;
      served = sent_served those (sent_count now.tape + 1) (made event).sends (second item event) second_served;
      told = are_sent IsTold (SendsWell those) (λ m t k r. r.tells) (well_on those) (sent_count now.tape + 1) (made event).sends (second item event) well second_told;
      owed_come = λ v. grants_then (Come c now.node) (Come c those) (come_on event) (now.owed v) (q.owed_come v);
      downs = downs_then;
    }

    -- it is cut
    abbrev node2 : Node
    node2 = down (met_in s met event) (now.node me)

    abbrev fallen : ℕ → Node
    fallen = set_at now.node me node2

    fallen_grown : Grown c met node2.met
    fallen_grown = grown_onto c (met_in s met event ∷ Crashes ∷ []) met (own_within event, (tt, tt))

    come_fallen : (v : ℕ) (e : Epoch) → EpochReached c (now.node v).met e → EpochReached c (fallen v).met e
    come_fallen v e = by_node (λ w node. EpochReached c (now.node w).met e → EpochReached c node.met e) now.node me node2 (reached_grown c met node2.met e fallen_grown) (λ w apart r. r) v

    served_fallen : (v : ℕ) (e : Epoch) → ServedAt c v (now.node v).met e → ServedAt c v (fallen v).met e
    served_fallen v e = by_node (λ w node. ServedAt c w (now.node w).met e → ServedAt c w node.met e) now.node me node2
        (λ r. record { full = r.full; reached = reached_grown c met node2.met e fallen_grown r.reached; still = λ stays present. cc }) (λ w apart r. r) v

    owing_come : (kept : Bool) → Each (GrantNote (Come c fallen)) (cond kept (owes (made event) (replies_in c me met event)) [])
    owing_come true = each_both (GrantNote (Come c fallen)) (filter is_durable (made event).notes) (map Unsends (replies_in c me met event))
        (filtered_each (GrantNote (Come c fallen)) (made event).notes (step_granted (Come c fallen) s (now.node me) event (event_then (Come c now.node) (Come c fallen) come_fallen event (event_asks item event o))))
        (unsent_granted (Come c fallen) (replies_in c me met event))
    owing_come false = tt

    cuts_epoching : (kept : Bool) → Epoching c (Crash (number me) ∷ item ∷ now.tape) fallen (set_at now.owed me (cond kept (owes (made event) (replies_in c me met event)) []))
    cuts_epoching kept = record {
      rules = (tt, (own_rule now.tape item own_is, q.rules));
      come = (tt, (own_come fallen now.tape item own_is, come_now fallen come_fallen));
      served = (tt, (own_served fallen now.tape item own_is, served_now fallen served_fallen));
      told = (tt, (own_told now.tape item own_is, q.told));
      owed_come = owed_by kept;
      downs = by_node (λ v node. is_up node.met ≡ false → serving_met node.met ≡ None) now.node me node2 (λ is. refl) (λ v apart. q.downs v);
    }
      where
        owed_by : (kept : Bool) (v : ℕ) → Each (GrantNote (Come c fallen)) (set_at now.owed me (cond kept (owes (made event) (replies_in c me met event)) []) v)
        owed_by kept v = by (me == v)
          where
            by : (t : Bool) → Each (GrantNote (Come c fallen)) (cond t (cond kept (owes (made event) (replies_in c me met event)) []) (now.owed v))
            by true = owing_come kept
            by false = grants_then (Come c now.node) (Come c fallen) come_fallen (now.owed v) (q.owed_come v)

-- ---- starts, crashes and marks

owed_serve : (F : Epoch → Type 0) (notes : List Met) → Each IsOwed notes → Each (ServeNote F) notes
owed_serve F notes h = each_on IsOwed (ServeNote F) one notes h
  where
    one : (note : Met) → IsOwed note → ServeNote F note
    one (Serves epoch) is = absurd is
    one _ is = tt

lapse_same : (c : Cluster) (nodes : ℕ → Node) (t : List Item) (cell : ℕ) (node : NodeId) (epoch : Epoch) (v : ℕ) → serving_on (with_item c nodes t (LapseItem cell node epoch)) v ≡ serving_on t v
lapse_same c nodes t cell node epoch v = by (breaks c nodes (LapseItem cell node epoch) && not (is_unsafe t))
  where
    by : (b : Bool) → serving_on (cond b (Unsafe ∷ LapseItem cell node epoch ∷ t) (LapseItem cell node epoch ∷ t)) v ≡ serving_on t v
    by true = refl
    by false = refl

module _ (c : Cluster) (h : Meanings) (now : Standing) (me count : ℕ) (less : start_of (now.node me).met < count) (p : Before c now) (q : Epoching c now.tape now.node now.owed) where
  abbrev begun : Setting
  begun = setting c h me

  abbrev was : List Met
  was = (now.node me).met

  abbrev applied_notes : List Met
  applied_notes = start_notes begun (onto (now.owed me) (Starts count ∷ was))

  abbrev shows : List Met
  shows = now.owed me ++ applied_notes

  abbrev fresh : Node
  fresh = start begun count (now.owed me) was

  abbrev begun_nodes : ℕ → Node
  begun_nodes = set_at now.node me fresh

  shows_owed : Each IsOwed shows
  shows_owed = each_both IsOwed (now.owed me) applied_notes ((p.1).cell me).owes (start_owed begun (onto (now.owed me) (Starts count ∷ was)))

  start_is : start_of fresh.met ≡ count
  start_is = (grown_onto c shows (Starts count ∷ was) (owed_within shows shows_owed)).start

  come_fresh : (v : ℕ) (e : Epoch) → EpochReached c (now.node v).met e → EpochReached c (begun_nodes v).met e
  come_fresh v e = by_node (λ w node. EpochReached c (now.node w).met e → EpochReached c node.met e) now.node me fresh (λ r. inl (subst (λ n. e.start < n) (sym start_is) (reached_start c was count e less r))) (λ w apart r. r) v

  served_fresh : (v : ℕ) (e : Epoch) → ServedAt c v (now.node v).met e → ServedAt c v (begun_nodes v).met e
  served_fresh v e = by_node (λ w node. ServedAt c w (now.node w).met e → ServedAt c w node.met e) now.node me fresh
      (λ r. record { full = r.full; reached = inl (subst (λ n. e.start < n) (sym start_is) (reached_start c was count e less r.reached)); still = λ stays present. absurd (below (reached_start c was count e less r.reached) (present.0 ∙ start_is)) }) (λ w apart r. r) v
    where
      below : e.start < count → e.start ≡ count → ⊥
      below k same = omega (arith, k, same)

  abbrev Known : List Item → Type 0
  Known t = (v : ℕ) (e : Epoch) → serving_on t v ≡ Some e → IsPresent c (now.node v).met e

  shows_follow : (notes : List Met) (t : List Item) → Known t → Each IsOwed notes → Each (GrantNote (Come c now.node)) notes → Follows IsServing (λ x. tt) c begun_nodes t (flat_map (shown me) notes)
  shows_follow [] t known owed come = tt
  shows_follow (Grants v e ∷ notes) t known owed come = (λ now_serves is. not_above c (now.node v).met now_serves e (known v now_serves is) come.0, shows_follow notes (Grant me (number v) e ∷ t) known owed.1 come.1)
  shows_follow (Lapses v e ∷ notes) t known owed come = (tt, shows_follow notes (with_item c begun_nodes t (LapseItem me (number v) e)) (λ w x is. known w x (sym (lapse_same c begun_nodes t me (number v) e w) ∙ is)) owed.1 come.1)
  shows_follow (Decides group n entry ∷ notes) t known owed come = (tt, shows_follow notes (DecideItem (number me) group (record { 0 = n }) entry ∷ t) known owed.1 come.1)
  shows_follow (Unsends m ∷ notes) t known owed come = (tt, shows_follow notes (UnsentItem (number me) m ∷ t) known owed.1 come.1)
  shows_follow (Applies group n ∷ notes) t known owed come = (tt, shows_follow notes (ApplyItem (number me) group (record { 0 = n }) ∷ t) known owed.1 come.1)
  shows_follow (_ ∷ notes) t known owed come = absurd owed.0

  known_first : Known (Start (number me) count ∷ now.tape)
  known_first v e = by (me == v)
    where
      by : (t : Bool) → cond t None (serving_on now.tape v) ≡ Some e → IsPresent c (now.node v).met e
      by true k = cc
      by false k = now_present c now p.0 q v e k

  come_shows : (F : ℕ → Epoch → Type 0) → Each (GrantNote F) (now.owed me) → Each (GrantNote F) shows
  come_shows F owed = each_both (GrantNote F) (now.owed me) applied_notes owed (rest_given F applied_notes (start_rest begun (onto (now.owed me) (Starts count ∷ was))))

  abbrev start_tape : List Item
  start_tape = with_items c begun_nodes now.tape (flat_map (shown me) (Starts count ∷ shows))

  abbrev start_all : List Item
  start_all = flat_map (shown me) (Starts count ∷ shows)

  come_old : Are (IsCome c begun_nodes) now.tape
  come_old = are_map (IsCome c now.node) (IsCome c begun_nodes) one now.tape q.come
    where
      one : (t : List Item) (x : Item) → IsCome c now.node t x → IsCome c begun_nodes t x
      one t (Sent key m) k = asks_grow (Come c now.node) (Come c begun_nodes) come_fresh m.from m.body k
      one t (Grant cell node epoch) k = come_fresh node.0 epoch k
      one t _ k = tt

  served_old : Are (IsServed c begun_nodes) now.tape
  served_old = are_map (IsServed c now.node) (IsServed c begun_nodes) one now.tape q.served
    where
      one : (t : List Item) (x : Item) → IsServed c now.node t x → IsServed c begun_nodes t x
      one t (ServingItem node epoch) k = served_fresh node.0 epoch k
      one t _ k = tt

  starts_epoching : Epoching c start_tape begun_nodes (set_at now.owed me [])
  starts_epoching = record {
    rules = are_items IsServing (λ t. tt) c begun_nodes start_all now.tape (tt, shows_follow shows (Start (number me) count ∷ now.tape) known_first shows_owed (come_shows (Come c now.node) (q.owed_come me))) q.rules;
    come = are_items (IsCome c begun_nodes) (λ t. tt) c begun_nodes start_all now.tape (free_follows (IsCome c begun_nodes) (λ t. tt) c begun_nodes start_all now.tape
        (free_notes (IsCome c begun_nodes) (λ t. tt) c begun_nodes me (Starts count ∷ shows) (each_on (GrantNote (Come c begun_nodes)) (λ note. Each (IsFree (IsCome c begun_nodes) (λ t. tt) c begun_nodes) (shown me note)) (λ note is. come_shown c begun_nodes me begun_nodes note is) (Starts count ∷ shows)
        (tt, come_shows (Come c begun_nodes) (grants_then (Come c now.node) (Come c begun_nodes) come_fresh (now.owed me) (q.owed_come me)))))) come_old;
    served = are_items (IsServed c begun_nodes) (λ t. tt) c begun_nodes start_all now.tape (free_follows (IsServed c begun_nodes) (λ t. tt) c begun_nodes start_all now.tape
        (free_notes (IsServed c begun_nodes) (λ t. tt) c begun_nodes me (Starts count ∷ shows) (each_on (ServeNote (ServedAt c me (begun_nodes me).met)) (λ note. Each (IsFree (IsServed c begun_nodes) (λ t. tt) c begun_nodes) (shown me note)) (λ note is. served_shown c begun_nodes me begun_nodes note is) (Starts count ∷ shows)
        (tt, owed_serve (ServedAt c me (begun_nodes me).met) shows shows_owed)))) served_old;
    told = are_items IsTold (λ t. tt) c begun_nodes start_all now.tape (free_follows IsTold (λ t. tt) c begun_nodes start_all now.tape
        (each_on IsSilent (IsFree IsTold (λ t. tt) c begun_nodes) (λ one is t. silent_is_told t one is) start_all (notes_silent me (Starts count ∷ shows)))) q.told;
    owed_come = owed_by;
    downs = by_node (λ v node. is_up node.met ≡ false → serving_met node.met ≡ None) now.node me fresh (λ is. clash (is_up fresh.met) (owed_up shows (Starts count ∷ was) shows_owed) is) (λ v apart. q.downs v);
  }
    where
      owed_by : (v : ℕ) → Each (GrantNote (Come c begun_nodes)) (set_at now.owed me [] v)
      owed_by v = by (me == v)
        where
          by : (t : Bool) → Each (GrantNote (Come c begun_nodes)) (cond t [] (now.owed v))
          by true = tt
          by false = grants_then (Come c now.node) (Come c begun_nodes) come_fresh (now.owed v) (q.owed_come v)

module _ (c : Cluster) (now : Standing) (me : ℕ) (q : Epoching c now.tape now.node now.owed) where
  abbrev gone : Node
  gone = crashed (now.node me)

  abbrev gone_nodes : ℕ → Node
  gone_nodes = set_at now.node me gone

  come_gone : (v : ℕ) (e : Epoch) → EpochReached c (now.node v).met e → EpochReached c (gone_nodes v).met e
  come_gone v e = by_node (λ w node. EpochReached c (now.node w).met e → EpochReached c node.met e) now.node me gone (reached_grown c (now.node me).met gone.met e (grown_onto c (Crashes ∷ []) (now.node me).met (tt, tt))) (λ w apart r. r) v

  served_gone : (v : ℕ) (e : Epoch) → ServedAt c v (now.node v).met e → ServedAt c v (gone_nodes v).met e
  served_gone v e = by_node (λ w node. ServedAt c w (now.node w).met e → ServedAt c w node.met e) now.node me gone
      (λ r. record { full = r.full; reached = reached_grown c (now.node me).met gone.met e (grown_onto c (Crashes ∷ []) (now.node me).met (tt, tt)) r.reached; still = λ stays present. cc }) (λ w apart r. r) v

  falls_epoching : Epoching c (Crash (number me) ∷ now.tape) gone_nodes now.owed
  falls_epoching = record {
    rules = (tt, q.rules);
    come = (tt, are_map (IsCome c now.node) (IsCome c gone_nodes) come_one now.tape q.come);
    served = (tt, are_map (IsServed c now.node) (IsServed c gone_nodes) served_one now.tape q.served);
    told = (tt, q.told);
    owed_come = λ v. grants_then (Come c now.node) (Come c gone_nodes) come_gone (now.owed v) (q.owed_come v);
    downs = by_node (λ v node. is_up node.met ≡ false → serving_met node.met ≡ None) now.node me gone (λ is. refl) (λ v apart. q.downs v);
  }
    where
      come_one : (t : List Item) (x : Item) → IsCome c now.node t x → IsCome c gone_nodes t x
      come_one t (Sent key m) k = asks_grow (Come c now.node) (Come c gone_nodes) come_gone m.from m.body k
      come_one t (Grant cell node epoch) k = come_gone node.0 epoch k
      come_one t _ k = tt

      served_one : (t : List Item) (x : Item) → IsServed c now.node t x → IsServed c gone_nodes t x
      served_one t (ServingItem node epoch) k = served_gone node.0 epoch k
      served_one t _ k = tt

marks_epoching : (c : Cluster) (tape : List Item) (nodes : ℕ → Node) (owed : ℕ → List Met) (item : Item) → IsMark item → Epoching c tape nodes owed → Epoching c (item ∷ tape) nodes owed
marks_epoching c tape nodes owed (Dropped j) is q = record { rules = (tt, q.rules); come = (tt, q.come); served = (tt, q.served); told = (tt, q.told); owed_come = q.owed_come; downs = q.downs }
marks_epoching c tape nodes owed CutItem is q = record { rules = (tt, q.rules); come = (tt, q.come); served = (tt, q.served); told = (tt, q.told); owed_come = q.owed_come; downs = q.downs }
marks_epoching c tape nodes owed _ is q = absurd is

pub epoching_holds : (c : Cluster) → length c.nodes ≤ 9 → Holds c (Before c) (Epoching c)
epoching_holds c few = record {
  steps = λ h now me item event g p up o plain q. steps_epoching c few h now me up p q item event o;
  cuts = λ h now me item event kept g p up o q. cuts_epoching c few h now me up p q item event o kept;
  starts = λ h now me count g p less q. starts_epoching c h now me count less p q;
  falls = λ now me g p q. falls_epoching c now me q;
  marks = λ now item is g p q. marks_epoching c now.tape now.node now.owed item is q;
}

pub nothing_epoching : (c : Cluster) → Epoching c [] (λ me. nothing_yet.node me) (λ me. [])
nothing_epoching c = record { rules = tt; come = tt; served = tt; told = tt; owed_come = λ v. tt; downs = λ v is. refl }

pub run_serving : (c : Cluster) (first : Meanings) (events : List Happening) (tape : List Item) → length c.nodes ≤ 9 → IsRun c first events tape → Are IsServing tape
run_serving c first events tape few run = subst (Are IsServing) (sym run.tape_is)
    (run_holds c (Before c) (both_keep c (ShownAt c) (shown_keeps c) (Celling c) (celling_holds c (ShownAt c) few)) (Epoching c) (epoching_holds c few) first events tape run (nothing_shown c, nothing_celling c) (nothing_epoching c)).rules
