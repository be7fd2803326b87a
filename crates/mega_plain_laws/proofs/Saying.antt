-- What the operations of a step say: no beginning, and answers that fit.
use Rattle.std.proofs.Common.{◌≡◌, ℕ, zero, suc, ◌+◌, nat_le, Bool, true, false, cond, List, [], ◌∷◌, ◌++◌, map, take, length, fold, Option, Some, None, Result, Ok, Err, refl}
use Rattle.std.specs.List.{list_any}
use Rattle.std.specs.Result.{is_ok}
use Rattle.mega_base.specs.declared.names.Epoch.{Epoch}
use Rattle.mega_base.specs.declared.names.GroupId.{GroupId}
use Rattle.mega_base.specs.declared.names.OpId.{OpId}
use Rattle.mega_base.specs.declared.values.NodeKind.{NodeKind}
use Rattle.mega_base.specs.declared.values.NodeKind.TheVariants.{Full, Witness, Read as ReadOnly}
use Rattle.mega_coordinator.specs.declared.answers.NotValid.{NotValid}
use Rattle.mega_entry.specs.declared.content.Content.{Content}
use Rattle.mega_entry.specs.declared.content.Enter.{Enter}
use Rattle.mega_schema.specs.declared.schema.Schema.{Schema}
use Rattle.mega_wire.specs.declared.message.Message.{Message}
use Rattle.mega_handler.specs.Named.{has}
use Rattle.mega_index.specs.Rows.{Listed, Rows}
use Rattle.mega_outcome.specs.declared.answer.Answer.{Answer}
use Rattle.mega_outcome.specs.declared.answer.Answer.TheVariants.{AllTurned, Busy, Conflict, LogFull, NoHandler, Worn}
use Rattle.mega_outcome.specs.declared.answer.Batch.{Batch}
use Rattle.mega_outcome.specs.declared.answer.Done.{Done}
use Rattle.mega_outcome.specs.declared.answer.Shown.{Shown}
use Rattle.mega_outcome.specs.declared.answer.Turn.{Turn as Turned}
use Rattle.mega_outcome.specs.declared.request.FindRequest.{FindRequest}
use Rattle.mega_outcome.specs.declared.request.Mode.{Mode}
use Rattle.mega_outcome.specs.declared.request.Mode.TheVariants.{Current, Snapshot, Inconsistent}
use Rattle.mega_outcome.specs.declared.request.ReadRequest.{ReadRequest}
use Rattle.mega_outcome.specs.declared.request.Request.{Request}
use Rattle.mega_outcome.specs.declared.request.Request.TheVariants.{Txn, Batch as BatchRequest, Read as ReadRequested, Find, PumpEnter, PumpHandle, Refresh}
use Rattle.mega_outcome.specs.declared.transaction.RowRef.{RowRef}
use Rattle.mega_outcome.specs.Outcome.{batch_outcome, entry_of_batch, entry_of_done, outcome}
use Rattle.mega_outcome.specs.Reads.{read_rows}
use Rattle.mega_wal.specs.Same.{same_op, same_option}
use Rattle.mega_read.specs.declared.reading.Reading.{Reading}
use Rattle.mega_read.specs.declared.reading.Stage.{Stage}
use Rattle.mega_read.specs.declared.reading.Stage.TheVariants.{Polling, Catching}
use Rattle.mega_read.specs.Catching.{asked_by}
use Rattle.mega_rules.specs.Met.{Met, Answers, Begins, Takes, Ticks, Validates}
use Rattle.mega_rules.specs.Clock.{clock_of}
use Rattle.mega_rules.specs.Members.{kind_of}
use Rattle.mega_rules.specs.Logs.{decided, groups_of, log_of, prefix_of}
use Rattle.mega_rules.specs.Coordinators.{refused_at}
use Rattle.mega_rules.specs.Finding.{refreshed_marks}
use Rattle.mega_rules.specs.Queues.{Posted, enter_entry, is_named, names_entered, next_to_enter, next_to_handle, oldest_unhandled}
use Rattle.mega_rules.specs.Operations.{Node, Now, Operation, Phase, Promised, Proposes, Reads, Replies, Results, Setting}
use Rattle.mega_rules.specs.Acting.{ActsAgain, Next, Rests, acts, applied_logs, batch_sealed, begins_read, committed, completes_read, ends, enters, finishes, goes_on, handles, handling, keeps, leader_after, listed_at, picks_group, picks_message, proposes, proposes_by, read_answer, read_begun, reads_on, rests_within, rows_answer, rows_at, sealed, sends_more, table_rows, unless_decided, unless_full, validated_by, validates, verdict}
use Rattle.mega_rules.specs.Replies.{reply_to}
use Rattle.mega_rules.specs.Steps.{Begin, Decision, Event, Heard, Take, Tick, acts_first, acts_in_turn, all_act, applied_position, apply_notes, at_first, at_open, begin_step, decision_note, does_due, find_begins, first_settled, hears_message, if_new, is_out, is_worn, lapse_notes, last_answer, lease_notes, local_find_begins, missing_kind, needs_full, new_operation, news, onto, op_of, portion_of, read_begins, refusal, snapshot_listed, step, stored_after, stored_listed, take_step, taken, tick_step, ticked, told_decision, told_notes, unless_busy, unless_missing, unless_refused}
use Rattle.mega_node_laws.proofs.Ending.{taken_by}
use Rattle.mega_transcript.specs.PlainRows.{are_marks}
use Rattle.mega_format_laws.specs.Rounds.{Each}
use Rattle.mega_format_laws.proofs.Each.{each_both, each_weaker, either}
use Rattle.mega_plain_laws.specs.Answers.{IsFit}
use Rattle.mega_plain_laws.proofs.Showing.{IsSaid, IsStill}
use Rattle.mega_plain_laws.proofs.Noting.{apply_still, decision_still, lapses_still, lease_still, told_still}
use Rattle.mega_plain_laws.proofs.Marking.{marks_fit, marks_onto}
use Rattle.mega_plain_laws.proofs.Finding.{global_fit, local_fit}
use Rattle.mega_plain_laws.proofs.Turning.{AreWords, Words, all_refused, batch_words, outcome_words, rows_words}

still_said : (k : Schema) (one : Met) → IsStill one → IsSaid k one
still_said k (Begins op text) h = absurd h
still_said k (Answers op answer) h = absurd h
still_said k _ h = tt

pub stills_said : (k : Schema) (notes : List Met) → Each IsStill notes → Each (IsSaid k) notes
stills_said k notes h = each_weaker IsStill (IsSaid k) (still_said k) notes h

-- ---- within a step

pub record Said (k : Schema) (now : Now) : Type 0 where
  pub marks : are_marks (refreshed_marks now.met) ≡ true
  pub valid : Each (IsSaid k) now.valid
  pub answers : Each (IsSaid k) now.answers

module _ (s : Setting) where
  abbrev k : Schema
  k = s.cluster.schema

  ends_it : (now : Now) (op : OpId) (answer : Answer) → IsFit k answer → Said k now → Said k (ends now op answer)
  ends_it now op answer fit h = record { marks = h.marks; valid = h.valid; answers = each_both (IsSaid k) now.answers (Answers op answer ∷ []) h.answers (fit, tt) }

  keeps_it : (now : Now) (o : Operation) → Said k now → Said k (keeps now o)
  keeps_it now o h = record { marks = h.marks; valid = h.valid; answers = h.answers }

  sends_it : (now : Now) (ms : List Message) → Said k now → Said k (sends_more now ms)
  sends_it now ms h = record { marks = h.marks; valid = h.valid; answers = h.answers }

  validated_it : (now : Now) (group : GroupId) (p : ℕ) (refused : Option NotValid) → Said k now → Said k (validated_by now group p refused)
  validated_it now group p None h = record { marks = h.marks; valid = each_both (IsSaid k) now.valid (Validates group p ∷ []) h.valid (tt, tt); answers = h.answers }
  validated_it now group p (Some why) h = h

  validates_it : (now : Now) (group : GroupId) (p : ℕ) (noted : Option Epoch) → Said k now → Said k (validates s now group p noted)
  validates_it now group p None h = h
  validates_it now group p (Some noted) h = validated_it now group p (refused_at s.cluster now.met group p noted) h

  completes_it : (now : Now) (group : GroupId) (r : Reading) (p : ℕ) → Said k now → Said k (completes_read s now group r p)
  completes_it now group r p h = validates_it _ group p r.noted (record { marks = h.marks; valid = h.valid; answers = h.answers })

  -- what an operation comes to keeps it, whether it acts again or not
  abbrev Leads : Next → Type 0
  Leads (Rests now) = Said k now
  Leads (ActsAgain now o) = Said k now

  -- ---- reads that begin

  begins_read_it : (now : Now) (o : Operation) (group : GroupId) (message : Option Enter) (asked : List ℕ) → Said k now → Leads (begins_read s now o group message asked)
  begins_read_it now o group message asked h = sends_it now (read_begun s now o group asked).sends h

  picks_message_it : (now : Now) (o : Operation) (asked : List ℕ) (one : Option Posted) → Said k now → Leads (picks_message s now o asked one)
  picks_message_it now o asked None h = ends_it now o.id _ (marks_fit now) h
  picks_message_it now o asked (Some one) h = begins_read_it now o one.to (Some one.message) asked h

  picks_group_it : (now : Now) (o : Operation) (asked : List ℕ) (one : Option GroupId) → Said k now → Leads (picks_group s now o asked one)
  picks_group_it now o asked None h = ends_it now o.id _ (marks_fit now) h
  picks_group_it now o asked (Some group) h = begins_read_it now o group None asked h

  -- ---- what ends and what proposes

  committed_fit : (n : ℕ) (promised : Promised) → IsFit k (committed n promised)
  committed_fit n (Replies replies) = tt
  committed_fit n (Results results) = tt

  verdict_fit : (op : OpId) (n : ℕ) (promised : Promised) (entry : Content) → IsFit k (verdict op n promised entry)
  verdict_fit op n promised entry = either (IsFit k) (same_option same_op entry.id (Some op)) (committed n promised) (Conflict (record { 0 = n }) entry.id) (committed_fit n promised) tt

  unless_decided_it : (now : Now) (o : Operation) (n : ℕ) (promised : Promised) (d : Option Content) → Said k now → Said k (unless_decided now o n promised d)
  unless_decided_it now o n promised None h = keeps_it now o h
  unless_decided_it now o n promised (Some entry) h = ends_it now o.id _ (verdict_fit o.id n promised entry) h

  proposes_by_it : (now : Now) (o : Operation) (group : GroupId) (r : Reading) (p : ℕ) (own : Content) (promised : Promised) (leader : Option ℕ) → Said k now → Said k (proposes_by s now o group r p own promised leader)
  proposes_by_it now o group r p own promised None h = keeps_it now o h
  proposes_by_it now o group r p own promised (Some leader) h = unless_decided_it _ _ (p + 1) promised (decided now.met group (p + 1)) (sends_it now _ h)

  proposes_it : (now : Now) (o : Operation) (group : GroupId) (r : Reading) (p : ℕ) (own : Content) (promised : Promised) → Said k now → Said k (proposes s now o group r p own promised)
  proposes_it now o group r p own promised h = proposes_by_it now o group r p own promised (leader_after s now group p) h

  sealed_it : (now : Now) (o : Operation) (group : GroupId) (r : Reading) (p : ℕ) (result : Result Done Turned) → Words result → Said k now → Said k (sealed s now o group r p result)
  sealed_it now o group r p (Err turn) w h = ends_it now o.id _ w h
  sealed_it now o group r p (Ok done) w h = proposes_it now o group r p (entry_of_done o.id done) (Replies done.replies) h

  batch_it : (now : Now) (o : Operation) (group : GroupId) (r : Reading) (p : ℕ) (b : Batch) → AreWords b.results → Said k now → Said k (batch_sealed s now o group r p b)
  batch_it now o group r p b w h = by (list_any is_ok b.results) refl
    where
      by : (t : Bool) → list_any is_ok b.results ≡ t → Said k (cond t (proposes s now o group r p (entry_of_batch o.id b) (Results b.results)) (ends now o.id (AllTurned b.results)))
      by true is = proposes_it now o group r p (entry_of_batch o.id b) (Results b.results) h
      by false is = ends_it now o.id (AllTurned b.results) (all_refused b.results w is) h

  full_it : (now : Now) (o : Operation) (p : ℕ) (next : Next) → Said k now → Leads next → Leads (unless_full s now o p next)
  full_it now o p next h then = either Leads (nat_le (s.cluster.limit).0 p) (Rests (ends now o.id (LogFull (record { 0 = p })))) next (ends_it now o.id (LogFull (record { 0 = p })) tt h) then

  enters_it : (now : Now) (o : Operation) (group : GroupId) (r : Reading) (p : ℕ) (message : Option Enter) → Said k now → Leads (enters s now o group r p message)
  enters_it now o group r p None h = picks_message_it now o (asked_by r) (next_to_enter o.id (applied_logs now)) h
  enters_it now o group r p (Some message) h =
      either Leads (is_named message.name (names_entered (take p (log_of now.met group)))) _ _
      (picks_message_it now o (asked_by r) (next_to_enter o.id (applied_logs now)) h) (proposes_it now o group r p (enter_entry o.id message) (Replies []) h)

  handles_it : (now : Now) (o : Operation) (group : GroupId) (r : Reading) (p : ℕ) (message : Option Enter) → Said k now → Leads (handles s now o group r p message)
  handles_it now o group r p None h = picks_group_it now o (asked_by r) (next_to_handle (applied_logs now)) h
  handles_it now o group r p (Some message) h =
      either Leads (has s.handlers message.queue) _ _
      (proposes_it now o group r p (handling s o.id group message (table_rows s.cluster.schema group (listed_at now group p))) (Replies []) h) (ends_it now o.id (NoHandler message.queue) tt h)

  -- ---- reads and finds

  rows_fit : (p : ℕ) (found : Result (List (Option Shown)) Turned) → Words found → IsFit k (rows_answer p found)
  rows_fit p (Ok rows) w = tt
  rows_fit p (Err turn) w = w

  read_fit_by : (mode : Mode) (group : GroupId) (refs : List RowRef) (p : ℕ) (rows : Rows) (listed : Listed) → IsFit k (read_answer s (record { mode = mode; group = group; rows = refs }) p rows listed)
  read_fit_by mode group [] p rows listed = tt
  read_fit_by mode group (row ∷ more) p rows listed = rows_fit p (read_rows s.cluster.schema group (row ∷ more) rows) (rows_words s.cluster.schema group (row ∷ more) rows)

  read_fit : (request : ReadRequest) (p : ℕ) (rows : Rows) (listed : Listed) → IsFit k (read_answer s request p rows listed)
  read_fit request p rows listed = read_fit_by request.mode request.group request.rows p rows listed

  module _ (id : OpId) (began : ℕ) (visited : List GroupId) (message : Option Enter) where
    abbrev one : Request → Phase → Operation
    one request phase = record { id = id; request = request; began = began; visited = visited; message = message; phase = phase }

    finishes_it : (now : Now) (request : Request) (phase : Phase) (group : GroupId) (r : Reading) (p : ℕ) → Said k now → Leads (finishes s now (one request phase) group r p)
    finishes_it now (Txn transaction) phase group r p h =
        full_it now (one (Txn transaction) phase) p _ h (sealed_it now (one (Txn transaction) phase) group r p (outcome s.cluster.schema transaction (rows_at now group p)) (outcome_words s.cluster.schema transaction (rows_at now group p)) h)
    finishes_it now (BatchRequest own transactions) phase group r p h =
        full_it now (one (BatchRequest own transactions) phase) p _ h (batch_it now (one (BatchRequest own transactions) phase) group r p (batch_outcome s.cluster.schema own transactions (rows_at now group p)) (batch_words s.cluster.schema own transactions (rows_at now group p)) h)
    finishes_it now (ReadRequested request) phase group r p h = ends_it now id _ (read_fit request p (rows_at now group p) (listed_at now group p)) h
    finishes_it now (Find request) phase group r p h = ends_it now id _ (local_fit s.cluster.schema request p (listed_at now group p)) h
    finishes_it now PumpEnter phase group r p h = full_it now (one PumpEnter phase) p _ h (enters_it now (one PumpEnter phase) group r p message h)
    finishes_it now PumpHandle phase group r p h =
        full_it now (one PumpHandle phase) p _ h (handles_it now (one PumpHandle phase) group r p (oldest_unhandled (take p (log_of now.met group))) h)
    finishes_it now Refresh phase group r p h = keeps_it now (one Refresh phase) h

  reads_on_it : (now : Now) (o : Operation) (group : GroupId) (noted : Option Epoch) (asked : List ℕ) (stage : Stage) → Said k now
      → Leads (reads_on s now o group (record { noted = noted; asked = asked; stage = stage }))
  reads_on_it now o group noted asked (Polling heard best at) h = keeps_it now o h
  reads_on_it now o group noted asked (Catching p search) h =
      either Leads (nat_le p (prefix_of now.met group)) _ _
      (finishes_it o.id o.began o.visited o.message (completes_read s now group (record { noted = noted; asked = asked; stage = Catching p search }) p) o.request o.phase group (record { noted = noted; asked = asked; stage = Catching p search }) p
      (completes_it now group (record { noted = noted; asked = asked; stage = Catching p search }) p h))
      (keeps_it _ _ (sends_it now _ h))

  acts_it : (now : Now) (id : OpId) (request : Request) (began : ℕ) (visited : List GroupId) (message : Option Enter) (phase : Phase) → Said k now
      → Leads (acts s now (record { id = id; request = request; began = began; visited = visited; message = message; phase = phase }))
  acts_it now id request began visited message (Reads group r) h =
      reads_on_it now (record { id = id; request = request; began = began; visited = visited; message = message; phase = Reads group r }) group r.noted r.asked r.stage h
  acts_it now id request began visited message (Proposes group n asked proposal promised) h =
      unless_decided_it now (record { id = id; request = request; began = began; visited = visited; message = message; phase = Proposes group n asked proposal promised }) n promised (decided now.met group n) h

  -- until it rests
  rests_within_it : (most : ℕ) (next : Next) → Leads next → Said k (rests_within most s next)
  rests_within_it most (Rests now) h = h
  rests_within_it zero (ActsAgain now o) h = keeps_it now o h
  rests_within_it (suc most) (ActsAgain now o) h = rests_within_it most (acts s now o) (acts_it now o.id o.request o.began o.visited o.message o.phase h)

  goes_on_it : (now : Now) (o : Operation) → Said k now → Said k (goes_on s now o)
  goes_on_it now o h = rests_within_it (length (groups_of now.met) + 2) (ActsAgain now o) h

  all_act_it : (ts : List Heard) (now : Now) → Said k now → Said k (all_act s now ts)
  all_act_it [] now h = h
  all_act_it (t ∷ ts) now h = all_act_it ts (acts_in_turn s now t) (goes_on_it (sends_more now t.sends) t.operation (sends_it now t.sends h))

  last_fit : (id : OpId) (request : Request) (began : ℕ) (visited : List GroupId) (message : Option Enter) (phase : Phase) → IsFit k (last_answer (record { id = id; request = request; began = began; visited = visited; message = message; phase = phase }))
  last_fit id request began visited message (Reads group r) = tt
  last_fit id request began visited message (Proposes group n asked p promised) = tt

  ticked_it : (clock : ℕ) (os : List Operation) (now : Now) → Said k now → Said k (fold (ticked s clock) now os)
  ticked_it clock [] now h = h
  ticked_it clock (o ∷ os) now h = ticked_it clock os (ticked s clock now o)
      (either (Said k) (is_out s clock o) (ends now o.id (last_answer o)) (acts_in_turn s now (does_due s clock o))
      (ends_it now o.id (last_answer o) (last_fit o.id o.request o.began o.visited o.message o.phase) h) (goes_on_it _ _ (sends_it now (does_due s clock o).sends h)))

  -- ---- beginnings

  read_begins_it : (now : Now) (o : Operation) (request : ReadRequest) (mode : Mode) → Said k now → Leads (read_begins s now o request mode)
  read_begins_it now o request Current h = begins_read_it now o request.group None [] h
  read_begins_it now o request Snapshot h = ends_it now o.id _ (read_fit request _ _ _) h
  read_begins_it now o request Inconsistent h = ends_it now o.id _ (read_fit request _ _ _) h

  local_find_it : (now : Now) (o : Operation) (request : FindRequest) (group : GroupId) (mode : Mode) → Said k now → Leads (local_find_begins s now o request group mode)
  local_find_it now o request group Current h = begins_read_it now o group None [] h
  local_find_it now o request group Snapshot h = ends_it now o.id _ (local_fit s.cluster.schema request (applied_position now group) (snapshot_listed now group)) h
  local_find_it now o request group Inconsistent h = ends_it now o.id _ (local_fit s.cluster.schema request (applied_position now group) (stored_listed now group)) h

  find_begins_it : (now : Now) (o : Operation) (request : FindRequest) (group : Option GroupId) → Said k now → Leads (find_begins s now o request group)
  find_begins_it now o request None h = ends_it now o.id _ (global_fit s.cluster.schema now.met request h.marks) h
  find_begins_it now o request (Some group) h = local_find_it now o request group request.mode h

  first_it : (now : Now) (id : OpId) (request : Request) (began : ℕ) (visited : List GroupId) (message : Option Enter) (phase : Phase) → Said k now
      → Leads (acts_first s now (record { id = id; request = request; began = began; visited = visited; message = message; phase = phase }))
  first_it now id (Txn transaction) began visited message phase h = begins_read_it now (record { id = id; request = Txn transaction; began = began; visited = visited; message = message; phase = phase }) transaction.group None [] h
  first_it now id (BatchRequest group transactions) began visited message phase h = begins_read_it now (record { id = id; request = BatchRequest group transactions; began = began; visited = visited; message = message; phase = phase }) group None [] h
  first_it now id (ReadRequested request) began visited message phase h = read_begins_it now (record { id = id; request = ReadRequested request; began = began; visited = visited; message = message; phase = phase }) request request.mode h
  first_it now id (Find request) began visited message phase h = find_begins_it now (record { id = id; request = Find request; began = began; visited = visited; message = message; phase = phase }) request request.group h
  first_it now id PumpEnter began visited message phase h = picks_message_it now (record { id = id; request = PumpEnter; began = began; visited = visited; message = message; phase = phase }) [] (next_to_enter id (applied_logs now)) h
  first_it now id PumpHandle began visited message phase h = picks_group_it now (record { id = id; request = PumpHandle; began = began; visited = visited; message = message; phase = phase }) [] (next_to_handle (applied_logs now)) h
  first_it now id Refresh began visited message phase h = ends_it now id _ (marks_fit now) h

  -- why one is refused at once
  abbrev FitsSome : Option Answer → Type 0
  FitsSome None = Unit {0}
  FitsSome (Some answer) = IsFit k answer

  begun_it : (now : Now) (o : Operation) (why : Option Answer) → FitsSome why → Said k now → Said k (unless_refused s now o why)
  begun_it now o None fit h = rests_within_it (length (groups_of now.met) + 2) (acts_first s now o) (first_it now o.id o.request o.began o.visited o.message o.phase h)
  begun_it now o (Some answer) fit h = ends_it now o.id answer fit h

  busy_fit : (os : List Operation) → FitsSome (unless_busy os)
  busy_fit os = either FitsSome (nat_le 64 (length os)) (Some (Busy 64)) None refl tt

  missing_fit : (os : List Operation) (request : Request) (kind : Option NodeKind) → FitsSome (unless_missing os (missing_kind request kind))
  missing_fit os request None = busy_fit os
  missing_fit os request (Some Full) = busy_fit os
  missing_fit os request (Some Witness) = tt
  missing_fit os request (Some ReadOnly) = by (needs_full request)
    where
      by : (t : Bool) → FitsSome (unless_missing os (cond t (Some ReadOnly) None))
      by true = tt
      by false = busy_fit os

  refusal_fit : (node : Node) (request : Request) → FitsSome (refusal s node request)
  refusal_fit node request = either FitsSome (is_worn node.met) (Some Worn) (unless_missing node.open_operations (missing_kind request (kind_of s.cluster s.me))) tt (missing_fit node.open_operations request (kind_of s.cluster s.me))

  -- ---- whole steps

  all_said : (locks durable applies : List Met) (now : Now) → Each IsStill locks → Each IsStill durable → Each IsStill applies → Said k now → Each (IsSaid k) ((((locks ++ durable) ++ applies) ++ now.valid) ++ now.answers)
  all_said locks durable applies now l d a h =
      each_both (IsSaid k) (((locks ++ durable) ++ applies) ++ now.valid) now.answers
      (each_both (IsSaid k) ((locks ++ durable) ++ applies) now.valid
      (stills_said k ((locks ++ durable) ++ applies) (each_both IsStill (locks ++ durable) applies (each_both IsStill locks durable l d) a)) h.valid) h.answers

  taken_said : (node : Node) (m : Message) (told : List Met) (ts : List Heard) (d : Option Decision) (reply told_news : List Message) → are_marks (refreshed_marks node.met) ≡ true → Each IsStill told
      → Each (IsSaid k) (taken s node m told ts d reply told_news).notes
  taken_said node m told ts d reply told_news marks still =
      all_said told (decision_note d) (apply_notes s node.met node.stored now.met now.stored) now still (decision_still d) (apply_still s node.met node.stored now.met now.stored)
      (all_act_it ts (at_first base (stored_after s base node.stored d))
      (record { marks = marks_onto k (decision_note d) (onto told (Takes m ∷ node.met)) (stills_said k (decision_note d) (decision_still d)) (marks_onto k told (Takes m ∷ node.met) (stills_said k told still) marks); valid = tt; answers = tt }))
    where
      base : List Met
      base = onto (decision_note d) (onto told (Takes m ∷ node.met))

      now : Now
      now = all_act s (at_first base (stored_after s base node.stored d)) ts

  taken_by_said : (node : Node) (m : Message) (ts : List Heard) (told : Option Decision) → are_marks (refreshed_marks node.met) ≡ true → Each (IsSaid k) (taken_by s node m ts told).notes
  taken_by_said node m ts (Some d) marks = taken_said node m (told_notes s node.met m.from m.body) ts (if_new node.met (Some d)) (reply_to s.cluster s.me node.met m) [] marks (told_still s node.met m.from m.body)
  taken_by_said node m ts None marks =
      taken_said node m (told_notes s node.met m.from m.body) ts (if_new node.met (first_settled ts)) (reply_to s.cluster s.me node.met m) (news s (if_new node.met (first_settled ts))) marks (told_still s node.met m.from m.body)

  take_said : (node : Node) (m : Message) → are_marks (refreshed_marks node.met) ≡ true → Each (IsSaid k) (take_step s node m).notes
  take_said node m marks = taken_by_said node m (map (hears_message s (clock_of node.met) m) node.open_operations) (told_decision m.body) marks

  tick_said : (node : Node) (now : ℕ) → are_marks (refreshed_marks node.met) ≡ true → Each (IsSaid k) (tick_step s node now).notes
  tick_said node now marks =
      all_said (lease_notes s node.met now) (lapse_notes s node.met now) (apply_notes s node.met node.stored acc.met acc.stored) acc
      (lease_still s node.met now) (lapses_still s node.met now) (apply_still s node.met node.stored acc.met acc.stored)
      (ticked_it now node.open_operations (at_first base (portion_of s node.met node.stored))
      (record {
        marks = marks_onto k (lapse_notes s node.met now) (onto (lease_notes s node.met now) (Ticks now ∷ node.met)) (stills_said k (lapse_notes s node.met now) (lapses_still s node.met now))
            (marks_onto k (lease_notes s node.met now) (Ticks now ∷ node.met) (stills_said k (lease_notes s node.met now) (lease_still s node.met now)) marks);
        valid = tt;
        answers = tt;
      }))
    where
      base : List Met
      base = onto (lapse_notes s node.met now) (onto (lease_notes s node.met now) (Ticks now ∷ node.met))

      acc : Now
      acc = fold (ticked s now) (at_first base (portion_of s node.met node.stored)) node.open_operations

  begin_said : (node : Node) (request : Request) (text : List ℕ) → are_marks (refreshed_marks node.met) ≡ true → Each (IsSaid k) (begin_step s node request text).notes
  begin_said node request text marks =
      all_said [] [] (apply_notes s node.met node.stored now.met now.stored) now tt tt (apply_still s node.met node.stored now.met now.stored)
      (begun_it (at_open (at_first base node.stored) node.open_operations) (new_operation (op_of s node.met) request (clock_of node.met)) (refusal s node request) (refusal_fit node request)
      (record { marks = marks; valid = tt; answers = tt }))
    where
      base : List Met
      base = Begins (op_of s node.met) text ∷ node.met

      now : Now
      now = unless_refused s (at_open (at_first base node.stored) node.open_operations) (new_operation (op_of s node.met) request (clock_of node.met)) (refusal s node request)

  pub step_said : (node : Node) (event : Event) → are_marks (refreshed_marks node.met) ≡ true → Each (IsSaid k) (step s node event).notes
  step_said node (Tick now) marks = tick_said node now marks
  step_said node (Take m) marks = take_said node m marks
  step_said node (Begin request text) marks = begin_said node request text marks
