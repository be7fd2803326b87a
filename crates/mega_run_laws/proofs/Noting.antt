-- What acting operations leave of a step's notes: what holds of a node within a step through all that they do.
use Rattle.std.proofs.Common.{ℕ, zero, suc, ◌+◌, nat_le, Bool, true, false, cond, List, [], ◌∷◌, take, length, fold, Option, Some, None, Result, Ok, Err}
use Rattle.std.specs.List.{list_any}
use Rattle.std.specs.Result.{is_ok}
use Rattle.mega_base.specs.declared.names.GroupId.{GroupId}
use Rattle.mega_base.specs.declared.names.OpId.{OpId}
use Rattle.mega_base.specs.declared.names.Epoch.{Epoch}
use Rattle.mega_coordinator.specs.declared.answers.NotValid.{NotValid}
use Rattle.mega_entry.specs.declared.content.Content.{Content}
use Rattle.mega_entry.specs.declared.content.Enter.{Enter}
use Rattle.mega_wire.specs.declared.message.Message.{Message}
use Rattle.mega_handler.specs.Named.{has}
use Rattle.mega_outcome.specs.declared.answer.Answer.{Answer}
use Rattle.mega_outcome.specs.declared.answer.Batch.{Batch}
use Rattle.mega_outcome.specs.declared.answer.Done.{Done}
use Rattle.mega_outcome.specs.declared.answer.Turn.{Turn as Turned}
use Rattle.mega_outcome.specs.declared.request.Mode.{Mode}
use Rattle.mega_outcome.specs.declared.request.Mode.TheVariants.{Current, Snapshot, Inconsistent}
use Rattle.mega_outcome.specs.declared.request.Request.{Request}
use Rattle.mega_outcome.specs.declared.request.Request.TheVariants.{Txn, Batch as BatchRequest, Read as ReadRequested, Find, PumpEnter, PumpHandle, Refresh}
use Rattle.mega_outcome.specs.declared.request.ReadRequest.{ReadRequest}
use Rattle.mega_outcome.specs.declared.request.FindRequest.{FindRequest}
use Rattle.mega_outcome.specs.Outcome.{batch_outcome, entry_of_batch, entry_of_done, outcome}
use Rattle.mega_tape_laws.specs.of_read.declared.reading.Reading.{Reading}
use Rattle.mega_tape_laws.specs.of_read.declared.reading.Stage.{Stage}
use Rattle.mega_tape_laws.specs.of_read.declared.reading.Stage.TheVariants.{Polling, Catching}
use Rattle.mega_tape_laws.specs.of_read.Catching.{asked_by}
use Rattle.mega_tape_laws.specs.of_rules.Logs.{decided, groups_of, log_of, prefix_of}
use Rattle.mega_tape_laws.specs.of_rules.Coordinators.{refused_at}
use Rattle.mega_tape_laws.specs.of_rules.Queues.{Posted, enter_entry, is_named, names_entered, next_to_enter, next_to_handle, oldest_unhandled}
use Rattle.mega_tape_laws.specs.of_rules.Operations.{Now, Operation, Phase, Promised, Proposes, Reads, Replies, Results, Setting}
use Rattle.mega_tape_laws.specs.of_rules.Acting.{ActsAgain, Next, Rests, acts, applied_logs, batch_sealed, begins_read, completes_read, ends, enters, finishes, goes_on, handles, handling, keeps, leader_after, listed_at, picks_group, picks_message, proposes, proposes_by, read_begun, reads_on, rests_within, rows_at, sealed, sends_more, table_rows, unless_decided, unless_full, validated_by, validates}
use Rattle.mega_tape_laws.specs.of_rules.Steps.{Heard, acts_first, acts_in_turn, all_act, does_due, find_begins, is_out, local_find_begins, read_begins, ticked, unless_refused}

-- a fact of a node within a step that nothing which operations do can break
pub record Lasts (P : Now → Type 0) : Type 0 where
  pub keeps_it : (now : Now) (o : Operation) → P now → P (keeps now o)
  pub ends_it : (now : Now) (op : OpId) (answer : Answer) → P now → P (ends now op answer)
  pub sends_it : (now : Now) (ms : List Message) → P now → P (sends_more now ms)
  pub stores_it : (now : Now) (stored : GroupId → ℕ) → P now → P (record { met = now.met; stored = stored; kept = now.kept; valid = now.valid; answers = now.answers; sends = now.sends })
  pub validates_it : (now : Now) (group : GroupId) (p : ℕ) (refusal : Option NotValid) → P now → P (validated_by now group p refusal)

-- what an operation comes to keeps it, whether it acts again or not
abbrev pub Leads : (Now → Type 0) → Next → Type 0
Leads P (Rests now) = P now
Leads P (ActsAgain now o) = P now

module _ (P : Now → Type 0) (l : Lasts P) (s : Setting) where
  either : (t : Bool) (one other : Now) → P one → P other → P (cond t one other)
  either true one other h k = h
  either false one other h k = k

  either_next : (t : Bool) (one other : Next) → Leads P one → Leads P other → Leads P (cond t one other)
  either_next true one other h k = h
  either_next false one other h k = k

  pub begins_read_it : (now : Now) (o : Operation) (group : GroupId) (message : Option Enter) (asked : List ℕ) → P now → Leads P (begins_read s now o group message asked)
  begins_read_it now o group message asked h = l.sends_it now (read_begun s now o group asked).sends h

  picks_message_it : (now : Now) (o : Operation) (asked : List ℕ) (one : Option Posted) → P now → Leads P (picks_message s now o asked one)
  picks_message_it now o asked None h = l.ends_it now o.id _ h
  picks_message_it now o asked (Some one) h = begins_read_it now o one.to (Some one.message) asked h

  picks_group_it : (now : Now) (o : Operation) (asked : List ℕ) (one : Option GroupId) → P now → Leads P (picks_group s now o asked one)
  picks_group_it now o asked None h = l.ends_it now o.id _ h
  picks_group_it now o asked (Some group) h = begins_read_it now o group None asked h

  unless_decided_it : (now : Now) (o : Operation) (n : ℕ) (promised : Promised) (d : Option Content) → P now → P (unless_decided now o n promised d)
  unless_decided_it now o n promised None h = l.keeps_it now o h
  unless_decided_it now o n promised (Some entry) h = l.ends_it now o.id _ h

  proposes_by_it : (now : Now) (o : Operation) (group : GroupId) (r : Reading) (p : ℕ) (own : Content) (promised : Promised) (leader : Option ℕ) → P now → P (proposes_by s now o group r p own promised leader)
  proposes_by_it now o group r p own promised None h = l.keeps_it now o h
  proposes_by_it now o group r p own promised (Some leader) h = unless_decided_it _ _ (p + 1) promised (decided now.met group (p + 1)) (l.sends_it now _ h)

  proposes_it : (now : Now) (o : Operation) (group : GroupId) (r : Reading) (p : ℕ) (own : Content) (promised : Promised) → P now → P (proposes s now o group r p own promised)
  proposes_it now o group r p own promised h = proposes_by_it now o group r p own promised (leader_after s now group p) h

  validates_fact : (now : Now) (group : GroupId) (p : ℕ) (noted : Option Epoch) → P now → P (validates s now group p noted)
  validates_fact now group p None h = h
  validates_fact now group p (Some noted) h = l.validates_it now group p (refused_at s.cluster now.met group p noted) h

  sealed_it : (now : Now) (o : Operation) (group : GroupId) (r : Reading) (p : ℕ) (result : Result Done Turned) → P now → P (sealed s now o group r p result)
  sealed_it now o group r p (Err turn) h = l.ends_it now o.id _ h
  sealed_it now o group r p (Ok done) h = proposes_it now o group r p (entry_of_done o.id done) (Replies done.replies) h

  batch_it : (now : Now) (o : Operation) (group : GroupId) (r : Reading) (p : ℕ) (b : Batch) → P now → P (batch_sealed s now o group r p b)
  batch_it now o group r p b h = either (list_any is_ok b.results) _ _ (proposes_it now o group r p (entry_of_batch o.id b) (Results b.results) h) (l.ends_it now o.id _ h)

  enters_it : (now : Now) (o : Operation) (group : GroupId) (r : Reading) (p : ℕ) (message : Option Enter) → P now → Leads P (enters s now o group r p message)
  enters_it now o group r p None h = picks_message_it now o (asked_by r) (next_to_enter o.id (applied_logs now)) h
  enters_it now o group r p (Some message) h = either_next (is_named message.name (names_entered (take p (log_of now.met group)))) _ _
      (picks_message_it now o (asked_by r) (next_to_enter o.id (applied_logs now)) h) (proposes_it now o group r p (enter_entry o.id message) (Replies []) h)

  handles_it : (now : Now) (o : Operation) (group : GroupId) (r : Reading) (p : ℕ) (message : Option Enter) → P now → Leads P (handles s now o group r p message)
  handles_it now o group r p None h = picks_group_it now o (asked_by r) (next_to_handle (applied_logs now)) h
  handles_it now o group r p (Some message) h = either_next (has s.handlers message.queue) _ _
      (proposes_it now o group r p (handling s o.id group message (table_rows s.cluster.schema group (listed_at now group p))) (Replies []) h) (l.ends_it now o.id _ h)

  full_it : (now : Now) (o : Operation) (p : ℕ) (next : Next) → P now → Leads P next → Leads P (unless_full s now o p next)
  full_it now o p next h k = either_next (nat_le (s.cluster.limit).0 p) _ next (l.ends_it now o.id _ h) k

  finishes_it : (now : Now) (id : OpId) (request : Request) (began : ℕ) (visited : List GroupId) (message : Option Enter) (phase : Phase) (group : GroupId) (r : Reading) (p : ℕ)
      → P now → Leads P (finishes s now (record { id = id; request = request; began = began; visited = visited; message = message; phase = phase }) group r p)
  finishes_it now id (Txn transaction) began visited message phase group r p h = full_it now (record { id = id; request = Txn transaction; began = began; visited = visited; message = message; phase = phase }) p _ h (sealed_it now (record { id = id; request = Txn transaction; began = began; visited = visited; message = message; phase = phase }) group r p (outcome s.cluster.schema transaction (rows_at now group p)) h)
  finishes_it now id (BatchRequest own transactions) began visited message phase group r p h = full_it now (record { id = id; request = BatchRequest own transactions; began = began; visited = visited; message = message; phase = phase }) p _ h (batch_it now (record { id = id; request = BatchRequest own transactions; began = began; visited = visited; message = message; phase = phase }) group r p (batch_outcome s.cluster.schema own transactions (rows_at now group p)) h)
  finishes_it now id (ReadRequested request) began visited message phase group r p h = l.ends_it now id _ h
  finishes_it now id (Find request) began visited message phase group r p h = l.ends_it now id _ h
  finishes_it now id PumpEnter began visited message phase group r p h = full_it now (record { id = id; request = PumpEnter; began = began; visited = visited; message = message; phase = phase }) p _ h (enters_it now (record { id = id; request = PumpEnter; began = began; visited = visited; message = message; phase = phase }) group r p message h)
  finishes_it now id PumpHandle began visited message phase group r p h = full_it now (record { id = id; request = PumpHandle; began = began; visited = visited; message = message; phase = phase }) p _ h (handles_it now (record { id = id; request = PumpHandle; began = began; visited = visited; message = message; phase = phase }) group r p (oldest_unhandled (take p (log_of now.met group))) h)
  finishes_it now id Refresh began visited message phase group r p h = l.keeps_it now (record { id = id; request = Refresh; began = began; visited = visited; message = message; phase = phase }) h

  reads_on_it : (now : Now) (o : Operation) (group : GroupId) (noted : Option Epoch) (asked : List ℕ) (stage : Stage) → P now
      → Leads P (reads_on s now o group (record { noted = noted; asked = asked; stage = stage }))
  reads_on_it now o group noted asked (Polling heard best at) h = l.keeps_it now o h
  reads_on_it now o group noted asked (Catching p search) h = either_next (nat_le p (prefix_of now.met group)) _ _
      (finishes_it (completes_read s now group (record { noted = noted; asked = asked; stage = Catching p search }) p) o.id o.request o.began o.visited o.message o.phase group (record { noted = noted; asked = asked; stage = Catching p search }) p
      (validates_fact _ group p noted (l.stores_it now _ h)))
      (l.keeps_it _ _ (l.sends_it now _ h))

  acts_it : (now : Now) (id : OpId) (request : Request) (began : ℕ) (visited : List GroupId) (message : Option Enter) (phase : Phase) → P now
      → Leads P (acts s now (record { id = id; request = request; began = began; visited = visited; message = message; phase = phase }))
  acts_it now id request began visited message (Reads group r) h = reads_on_it now (record { id = id; request = request; began = began; visited = visited; message = message; phase = Reads group r }) group r.noted r.asked r.stage h
  acts_it now id request began visited message (Proposes group n asked proposal promised) h = unless_decided_it now (record { id = id; request = request; began = began; visited = visited; message = message; phase = Proposes group n asked proposal promised }) n promised (decided now.met group n) h

  -- until it rests
  rests_within_it : (most : ℕ) (next : Next) → Leads P next → P (rests_within most s next)
  rests_within_it most (Rests now) h = h
  rests_within_it zero (ActsAgain now o) h = l.keeps_it now o h
  rests_within_it (suc most) (ActsAgain now o) h = rests_within_it most (acts s now o) (acts_it now o.id o.request o.began o.visited o.message o.phase h)

  pub goes_on_it : (now : Now) (o : Operation) → P now → P (goes_on s now o)
  goes_on_it now o h = rests_within_it (length (groups_of now.met) + 2) (ActsAgain now o) h

  pub all_act_it : (ts : List Heard) (now : Now) → P now → P (all_act s now ts)
  all_act_it [] now h = h
  all_act_it (t ∷ ts) now h = all_act_it ts (acts_in_turn s now t) (goes_on_it (sends_more now t.sends) t.operation (l.sends_it now t.sends h))

  pub ticked_it : (clock : ℕ) (os : List Operation) (now : Now) → P now → P (fold (ticked s clock) now os)
  ticked_it clock [] now h = h
  ticked_it clock (o ∷ os) now h = ticked_it clock os (ticked s clock now o)
      (either (is_out s clock o) _ _ (l.ends_it now o.id _ h) (goes_on_it _ _ (l.sends_it now (does_due s clock o).sends h)))

  read_begins_it : (now : Now) (o : Operation) (request : ReadRequest) (mode : Mode) → P now → Leads P (read_begins s now o request mode)
  read_begins_it now o request Current h = begins_read_it now o request.group None [] h
  read_begins_it now o request Snapshot h = l.ends_it now o.id _ h
  read_begins_it now o request Inconsistent h = l.ends_it now o.id _ h

  local_find_it : (now : Now) (o : Operation) (request : FindRequest) (group : GroupId) (mode : Mode) → P now → Leads P (local_find_begins s now o request group mode)
  local_find_it now o request group Current h = begins_read_it now o group None [] h
  local_find_it now o request group Snapshot h = l.ends_it now o.id _ h
  local_find_it now o request group Inconsistent h = l.ends_it now o.id _ h

  find_begins_it : (now : Now) (o : Operation) (request : FindRequest) (group : Option GroupId) → P now → Leads P (find_begins s now o request group)
  find_begins_it now o request None h = l.ends_it now o.id _ h
  find_begins_it now o request (Some group) h = local_find_it now o request group request.mode h

  first_it : (now : Now) (id : OpId) (request : Request) (began : ℕ) (visited : List GroupId) (message : Option Enter) (phase : Phase) → P now
      → Leads P (acts_first s now (record { id = id; request = request; began = began; visited = visited; message = message; phase = phase }))
  first_it now id (Txn transaction) began visited message phase h = begins_read_it now (record { id = id; request = Txn transaction; began = began; visited = visited; message = message; phase = phase }) transaction.group None [] h
  first_it now id (BatchRequest group transactions) began visited message phase h = begins_read_it now (record { id = id; request = BatchRequest group transactions; began = began; visited = visited; message = message; phase = phase }) group None [] h
  first_it now id (ReadRequested request) began visited message phase h = read_begins_it now (record { id = id; request = ReadRequested request; began = began; visited = visited; message = message; phase = phase }) request request.mode h
  first_it now id (Find request) began visited message phase h = find_begins_it now (record { id = id; request = Find request; began = began; visited = visited; message = message; phase = phase }) request request.group h
  first_it now id PumpEnter began visited message phase h = picks_message_it now (record { id = id; request = PumpEnter; began = began; visited = visited; message = message; phase = phase }) [] (next_to_enter id (applied_logs now)) h
  first_it now id PumpHandle began visited message phase h = picks_group_it now (record { id = id; request = PumpHandle; began = began; visited = visited; message = message; phase = phase }) [] (next_to_handle (applied_logs now)) h
  first_it now id Refresh began visited message phase h = l.ends_it now id _ h

  pub begun_it : (now : Now) (o : Operation) (refusal : Option Answer) → P now → P (unless_refused s now o refusal)
  begun_it now o None h = rests_within_it (length (groups_of now.met) + 2) (acts_first s now o) (first_it now o.id o.request o.began o.visited o.message o.phase h)
  begun_it now o (Some answer) h = l.ends_it now o.id answer h
