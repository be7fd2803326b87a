-- An operation that acts within a step either stays open or is answered: one walk through all that it may do.
use Rattle.std.proofs.Common.{◌≡◌, ℕ, zero, suc, ◌+◌, nat_le, Bool, true, false, cond, List, [], take, length, Option, Some, None, Result, Ok, Err, refl, subst}
use Rattle.std.specs.List.{list_any}
use Rattle.std.specs.Result.{is_ok}
use Rattle.mega_base.specs.declared.names.GroupId.{GroupId}
use Rattle.mega_base.specs.declared.names.OpId.{OpId}
use Rattle.mega_base.specs.declared.names.Epoch.{Epoch}
use Rattle.mega_coordinator.specs.declared.answers.NotValid.{NotValid}
use Rattle.mega_entry.specs.declared.content.Content.{Content}
use Rattle.mega_entry.specs.declared.content.Enter.{Enter}
use Rattle.mega_wire.specs.declared.message.Message.{Message}
use Rattle.mega_handler.specs.Named.{has}
use Rattle.mega_outcome.specs.declared.answer.Answer.{Answer}
use Rattle.mega_outcome.specs.declared.answer.Batch.{Batch}
use Rattle.mega_outcome.specs.declared.answer.Done.{Done}
use Rattle.mega_outcome.specs.declared.answer.Turn.{Turn as Turned}
use Rattle.mega_outcome.specs.declared.request.Mode.{Mode}
use Rattle.mega_outcome.specs.declared.request.Mode.TheVariants.{Current, Snapshot, Inconsistent}
use Rattle.mega_outcome.specs.declared.request.Request.{Request}
use Rattle.mega_outcome.specs.declared.request.Request.TheVariants.{Txn, Batch as BatchRequest, Read as ReadRequested, Find, PumpEnter, PumpHandle, Refresh}
use Rattle.mega_outcome.specs.declared.request.ReadRequest.{ReadRequest}
use Rattle.mega_outcome.specs.declared.request.FindRequest.{FindRequest}
use Rattle.mega_outcome.specs.Outcome.{batch_outcome, entry_of_batch, entry_of_done, outcome}
use Rattle.mega_promises.specs.of_read.declared.reading.Reading.{Reading}
use Rattle.mega_promises.specs.of_read.declared.reading.Stage.{Stage}
use Rattle.mega_promises.specs.of_read.declared.reading.Stage.TheVariants.{Polling, Catching}
use Rattle.mega_promises.specs.of_read.Catching.{asked_by, seeks, site}
use Rattle.mega_promises.specs.of_read.of_propose.Rounds.{asks}
use Rattle.mega_promises.specs.of_rules.Clock.{clock_of}
use Rattle.mega_promises.specs.of_rules.Logs.{decided, groups_of, log_of, prefix_of}
use Rattle.mega_promises.specs.of_rules.Coordinators.{refused_at}
use Rattle.mega_promises.specs.of_rules.Queues.{Posted, enter_entry, is_named, names_entered, next_to_enter, next_to_handle, oldest_unhandled}
use Rattle.mega_promises.specs.of_rules.Operations.{Now, Operation, Phase, Promised, Proposes, Reads, Replies, Results, Setting}
use Rattle.mega_promises.specs.of_rules.Acting.{ActsAgain, Next, Rests, acts, applied_logs, batch_sealed, begins_read, completes_read, ends, enters, finishes, goes_on, handles, in_phase, keeps, leader_after, listed_at, handling, picks_group, picks_message, proposes, proposes_by, read_begun, reader_of, reads_on, rests_within, rows_at, sealed, sends_more, table_rows, unless_decided, unless_full, validated_by, validates}
use Rattle.mega_promises.specs.of_rules.Steps.{Heard, acts_first, acts_in_turn, does_due, find_begins, hears_message, is_out, local_find_begins, read_begins, ticked, unless_refused}

-- what holds of a node within a step while an operation acts, and what holds once that operation stays open or was answered
pub record Walks (P : Now → Type 0) (Q : OpId → Now → Type 0) : Type 0 where
  pub keeps_it : (now : Now) (o : Operation) → P now → Q o.id (keeps now o)
  pub ends_it : (now : Now) (op : OpId) (answer : Answer) → P now → Q op (ends now op answer)
  pub sends_it : (now : Now) (ms : List Message) → P now → P (sends_more now ms)
  pub stores_it : (now : Now) (stored : GroupId → ℕ) → P now → P (record { met = now.met; stored = stored; kept = now.kept; valid = now.valid; answers = now.answers; sends = now.sends })
  pub validates_it : (now : Now) (group : GroupId) (p : ℕ) (refusal : Option NotValid) → P now → P (validated_by now group p refusal)

-- what an operation comes to: it stays open or was answered, or it acts again under its own id
abbrev pub Leads : (Now → Type 0) → (OpId → Now → Type 0) → OpId → Next → Type 0
Leads P Q id (Rests now) = Q id now
Leads P Q id (ActsAgain now o) = (o.id ≡ id) × P now

-- an operation hears a message, or does what is due, under its own id
module _ (s : Setting) where
  due_id : (clock : ℕ) (id : OpId) (request : Request) (began : ℕ) (visited : List GroupId) (message : Option Enter) (phase : Phase)
      → ((does_due s clock (record { id = id; request = request; began = began; visited = visited; message = message; phase = phase })).operation).id ≡ id
  due_id clock id request began visited message (Reads group r) = refl
  due_id clock id request began visited message (Proposes group n asked p promised) = refl

  pub hears_id : (clock : ℕ) (m : Message) (id : OpId) (request : Request) (began : ℕ) (visited : List GroupId) (message : Option Enter) (phase : Phase)
      → ((hears_message s clock m (record { id = id; request = request; began = began; visited = visited; message = message; phase = phase })).operation).id ≡ id
  hears_id clock m id request began visited message (Reads group r) = refl
  hears_id clock m id request began visited message (Proposes group n asked p promised) = refl

module _ (P : Now → Type 0) (Q : OpId → Now → Type 0) (l : Walks P Q) (s : Setting) where
  either : (id : OpId) (t : Bool) (one other : Now) → Q id one → Q id other → Q id (cond t one other)
  either id true one other h k = h
  either id false one other h k = k

  either_next : (id : OpId) (t : Bool) (one other : Next) → Leads P Q id one → Leads P Q id other → Leads P Q id (cond t one other)
  either_next id true one other h k = h
  either_next id false one other h k = k

  begins_read_it : (now : Now) (o : Operation) (group : GroupId) (message : Option Enter) (asked : List ℕ) → P now → Leads P Q o.id (begins_read s now o group message asked)
  begins_read_it now o group message asked h = (refl, l.sends_it now (read_begun s now o group asked).sends h)

  picks_message_it : (now : Now) (o : Operation) (asked : List ℕ) (one : Option Posted) → P now → Leads P Q o.id (picks_message s now o asked one)
  picks_message_it now o asked None h = l.ends_it now o.id _ h
  picks_message_it now o asked (Some one) h = begins_read_it now o one.to (Some one.message) asked h

  picks_group_it : (now : Now) (o : Operation) (asked : List ℕ) (one : Option GroupId) → P now → Leads P Q o.id (picks_group s now o asked one)
  picks_group_it now o asked None h = l.ends_it now o.id _ h
  picks_group_it now o asked (Some group) h = begins_read_it now o group None asked h

  unless_decided_it : (now : Now) (o : Operation) (n : ℕ) (promised : Promised) (d : Option Content) → P now → Q o.id (unless_decided now o n promised d)
  unless_decided_it now o n promised None h = l.keeps_it now o h
  unless_decided_it now o n promised (Some entry) h = l.ends_it now o.id _ h

  proposes_by_it : (now : Now) (o : Operation) (group : GroupId) (r : Reading) (p : ℕ) (own : Content) (promised : Promised) (leader : Option ℕ) → P now → Q o.id (proposes_by s now o group r p own promised leader)
  proposes_by_it now o group r p own promised None h = l.keeps_it now o h
  proposes_by_it now o group r p own promised (Some leader) h =
      unless_decided_it (sends_more now (asks (site (reader_of s o.id group) (asked_by r) (p + 1)) leader own (clock_of now.met)).sends)
      (in_phase o (Proposes group (p + 1) (asked_by r) (asks (site (reader_of s o.id group) (asked_by r) (p + 1)) leader own (clock_of now.met)).proposal promised))
      (p + 1) promised (decided now.met group (p + 1)) (l.sends_it now _ h)

  proposes_it : (now : Now) (o : Operation) (group : GroupId) (r : Reading) (p : ℕ) (own : Content) (promised : Promised) → P now → Q o.id (proposes s now o group r p own promised)
  proposes_it now o group r p own promised h = proposes_by_it now o group r p own promised (leader_after s now group p) h

  validates_fact : (now : Now) (group : GroupId) (p : ℕ) (noted : Option Epoch) → P now → P (validates s now group p noted)
  validates_fact now group p None h = h
  validates_fact now group p (Some noted) h = l.validates_it now group p (refused_at s.cluster now.met group p noted) h

  sealed_it : (now : Now) (o : Operation) (group : GroupId) (r : Reading) (p : ℕ) (result : Result Done Turned) → P now → Q o.id (sealed s now o group r p result)
  sealed_it now o group r p (Err turn) h = l.ends_it now o.id _ h
  sealed_it now o group r p (Ok done) h = proposes_it now o group r p (entry_of_done o.id done) (Replies done.replies) h

  batch_it : (now : Now) (o : Operation) (group : GroupId) (r : Reading) (p : ℕ) (b : Batch) → P now → Q o.id (batch_sealed s now o group r p b)
  batch_it now o group r p b h = either o.id (list_any is_ok b.results) _ _ (proposes_it now o group r p (entry_of_batch o.id b) (Results b.results) h) (l.ends_it now o.id _ h)

  enters_it : (now : Now) (o : Operation) (group : GroupId) (r : Reading) (p : ℕ) (message : Option Enter) → P now → Leads P Q o.id (enters s now o group r p message)
  enters_it now o group r p None h = picks_message_it now o (asked_by r) (next_to_enter o.id (applied_logs now)) h
  enters_it now o group r p (Some message) h = either_next o.id (is_named message.name (names_entered (take p (log_of now.met group)))) _ _
      (picks_message_it now o (asked_by r) (next_to_enter o.id (applied_logs now)) h) (proposes_it now o group r p (enter_entry o.id message) (Replies []) h)

  handles_it : (now : Now) (o : Operation) (group : GroupId) (r : Reading) (p : ℕ) (message : Option Enter) → P now → Leads P Q o.id (handles s now o group r p message)
  handles_it now o group r p None h = picks_group_it now o (asked_by r) (next_to_handle (applied_logs now)) h
  handles_it now o group r p (Some message) h = either_next o.id (has s.handlers message.queue) _ _
      (proposes_it now o group r p (handling s o.id group message (table_rows s.cluster.schema group (listed_at now group p))) (Replies []) h) (l.ends_it now o.id _ h)

  full_it : (now : Now) (o : Operation) (p : ℕ) (next : Next) → P now → Leads P Q o.id next → Leads P Q o.id (unless_full s now o p next)
  full_it now o p next h k = either_next o.id (nat_le (s.cluster.limit).0 p) _ next (l.ends_it now o.id _ h) k

  module _ (id : OpId) (began : ℕ) (visited : List GroupId) (message : Option Enter) where
    abbrev one : Request → Phase → Operation
    one request phase = record { id = id; request = request; began = began; visited = visited; message = message; phase = phase }

    finishes_by : (now : Now) (request : Request) (phase : Phase) (group : GroupId) (r : Reading) (p : ℕ) → P now → Leads P Q id (finishes s now (one request phase) group r p)
    finishes_by now (Txn transaction) phase group r p h =
        full_it now (one (Txn transaction) phase) p _ h (sealed_it now (one (Txn transaction) phase) group r p (outcome s.cluster.schema transaction (rows_at now group p)) h)
    finishes_by now (BatchRequest own transactions) phase group r p h =
        full_it now (one (BatchRequest own transactions) phase) p _ h (batch_it now (one (BatchRequest own transactions) phase) group r p (batch_outcome s.cluster.schema own transactions (rows_at now group p)) h)
    finishes_by now (ReadRequested request) phase group r p h = l.ends_it now id _ h
    finishes_by now (Find request) phase group r p h = l.ends_it now id _ h
    finishes_by now PumpEnter phase group r p h = full_it now (one PumpEnter phase) p _ h (enters_it now (one PumpEnter phase) group r p message h)
    finishes_by now PumpHandle phase group r p h =
        full_it now (one PumpHandle phase) p _ h (handles_it now (one PumpHandle phase) group r p (oldest_unhandled (take p (log_of now.met group))) h)
    finishes_by now Refresh phase group r p h = l.keeps_it now (one Refresh phase) h

  reads_on_it : (now : Now) (o : Operation) (group : GroupId) (noted : Option Epoch) (asked : List ℕ) (stage : Stage) → P now
      → Leads P Q o.id (reads_on s now o group (record { noted = noted; asked = asked; stage = stage }))
  reads_on_it now o group noted asked (Polling heard best at) h = l.keeps_it now o h
  reads_on_it now o group noted asked (Catching p search) h = either_next o.id (nat_le p (prefix_of now.met group)) _ _
      (finishes_by o.id o.began o.visited o.message (completes_read s now group (record { noted = noted; asked = asked; stage = Catching p search }) p) o.request o.phase group (record { noted = noted; asked = asked; stage = Catching p search }) p
      (validates_fact _ group p noted (l.stores_it now _ h)))
      (l.keeps_it (sends_more now (seeks (reader_of s o.id group) (record { noted = noted; asked = asked; stage = Catching p search }) (prefix_of now.met group + 1) (clock_of now.met)).sends)
      (in_phase o (Reads group (seeks (reader_of s o.id group) (record { noted = noted; asked = asked; stage = Catching p search }) (prefix_of now.met group + 1) (clock_of now.met)).reading))
      (l.sends_it now _ h))

  acts_by : (now : Now) (id : OpId) (request : Request) (began : ℕ) (visited : List GroupId) (message : Option Enter) (phase : Phase) → P now
      → Leads P Q id (acts s now (record { id = id; request = request; began = began; visited = visited; message = message; phase = phase }))
  acts_by now id request began visited message (Reads group r) h =
      reads_on_it now (record { id = id; request = request; began = began; visited = visited; message = message; phase = Reads group r }) group r.noted r.asked r.stage h
  acts_by now id request began visited message (Proposes group n asked proposal promised) h =
      unless_decided_it now (record { id = id; request = request; began = began; visited = visited; message = message; phase = Proposes group n asked proposal promised }) n promised (decided now.met group n) h

  -- until it rests
  rests_within_it : (most : ℕ) (id : OpId) (next : Next) → Leads P Q id next → Q id (rests_within most s next)
  rests_within_it most id (Rests now) h = h
  rests_within_it zero id (ActsAgain now o) h = subst (λ own. Q own (keeps now o)) h.0 (l.keeps_it now o h.1)
  rests_within_it (suc most) id (ActsAgain now o) h =
      rests_within_it most id (acts s now o) (subst (λ own. Leads P Q own (acts s now o)) h.0 (acts_by now o.id o.request o.began o.visited o.message o.phase h.1))

  pub goes_on_it : (now : Now) (o : Operation) → P now → Q o.id (goes_on s now o)
  goes_on_it now o h = rests_within_it (length (groups_of now.met) + 2) o.id (ActsAgain now o) (refl, h)

  pub heard_it : (now : Now) (t : Heard) → P now → Q (t.operation).id (acts_in_turn s now t)
  heard_it now t h = goes_on_it (sends_more now t.sends) t.operation (l.sends_it now t.sends h)

  pub ticked_it : (clock : ℕ) (now : Now) (o : Operation) → P now → Q o.id (ticked s clock now o)
  ticked_it clock now o h = either o.id (is_out s clock o) _ _ (l.ends_it now o.id _ h)
      (subst (λ id. Q id (acts_in_turn s now (does_due s clock o))) (due_id s clock o.id o.request o.began o.visited o.message o.phase) (heard_it now (does_due s clock o) h))

  -- an operation that begins
  read_begins_it : (now : Now) (o : Operation) (request : ReadRequest) (mode : Mode) → P now → Leads P Q o.id (read_begins s now o request mode)
  read_begins_it now o request Current h = begins_read_it now o request.group None [] h
  read_begins_it now o request Snapshot h = l.ends_it now o.id _ h
  read_begins_it now o request Inconsistent h = l.ends_it now o.id _ h

  local_find_it : (now : Now) (o : Operation) (request : FindRequest) (group : GroupId) (mode : Mode) → P now → Leads P Q o.id (local_find_begins s now o request group mode)
  local_find_it now o request group Current h = begins_read_it now o group None [] h
  local_find_it now o request group Snapshot h = l.ends_it now o.id _ h
  local_find_it now o request group Inconsistent h = l.ends_it now o.id _ h

  find_begins_it : (now : Now) (o : Operation) (request : FindRequest) (group : Option GroupId) → P now → Leads P Q o.id (find_begins s now o request group)
  find_begins_it now o request None h = l.ends_it now o.id _ h
  find_begins_it now o request (Some group) h = local_find_it now o request group request.mode h

  module _ (id : OpId) (began : ℕ) (visited : List GroupId) (message : Option Enter) (phase : Phase) where
    abbrev new : Request → Operation
    new request = record { id = id; request = request; began = began; visited = visited; message = message; phase = phase }

    first_it : (now : Now) (request : Request) → P now → Leads P Q id (acts_first s now (new request))
    first_it now (Txn transaction) h = begins_read_it now (new (Txn transaction)) transaction.group None [] h
    first_it now (BatchRequest group transactions) h = begins_read_it now (new (BatchRequest group transactions)) group None [] h
    first_it now (ReadRequested request) h = read_begins_it now (new (ReadRequested request)) request request.mode h
    first_it now (Find request) h = find_begins_it now (new (Find request)) request request.group h
    first_it now PumpEnter h = picks_message_it now (new PumpEnter) [] (next_to_enter id (applied_logs now)) h
    first_it now PumpHandle h = picks_group_it now (new PumpHandle) [] (next_to_handle (applied_logs now)) h
    first_it now Refresh h = l.ends_it now id _ h

  pub begun_it : (now : Now) (o : Operation) (refusal : Option Answer) → P now → Q o.id (unless_refused s now o refusal)
  begun_it now o None h = rests_within_it (length (groups_of now.met) + 2) o.id (acts_first s now o) (first_it o.id o.began o.visited o.message o.phase now o.request h)
  begun_it now o (Some answer) h = l.ends_it now o.id answer h
