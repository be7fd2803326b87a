-- A walk through what an operation does in a step: what each of its moves keeps holds of all that it does. A read completes where all that it reads through
-- is decided, and the first read of an operation that begins stands apart.
use Rattle.std.proofs.Common.{◌≡◌, ℕ, zero, suc, ◌+◌, nat_le, Bool, true, false, cond, List, [], take, length, Option, Some, None, Result, Ok, Err, refl, subst}
use Rattle.std.specs.List.{list_any}
use Rattle.std.specs.Result.{is_ok}
use Rattle.mega_base.specs.declared.names.Epoch.{Epoch}
use Rattle.mega_base.specs.declared.names.GroupId.{GroupId}
use Rattle.mega_base.specs.declared.names.OpId.{OpId}
use Rattle.mega_entry.specs.declared.content.Content.{Content}
use Rattle.mega_entry.specs.declared.content.Enter.{Enter}
use Rattle.mega_handler.specs.Named.{has}
use Rattle.mega_outcome.specs.declared.answer.Answer.{Answer}
use Rattle.mega_outcome.specs.declared.answer.Batch.{Batch}
use Rattle.mega_outcome.specs.declared.answer.Done.{Done}
use Rattle.mega_outcome.specs.declared.answer.Turn.{Turn as Turned}
use Rattle.mega_outcome.specs.declared.request.FindRequest.{FindRequest}
use Rattle.mega_outcome.specs.declared.request.Mode.{Mode}
use Rattle.mega_outcome.specs.declared.request.Mode.TheVariants.{Current, Snapshot, Inconsistent}
use Rattle.mega_outcome.specs.declared.request.ReadRequest.{ReadRequest}
use Rattle.mega_outcome.specs.declared.request.Request.{Request}
use Rattle.mega_outcome.specs.declared.request.Request.TheVariants.{Txn, Batch as BatchRequest, Read as ReadRequested, Find, PumpEnter, PumpHandle, Refresh}
use Rattle.mega_outcome.specs.Outcome.{batch_outcome, entry_of_batch, entry_of_done, outcome}
use Rattle.mega_run_laws.specs.of_rules.of_read.of_propose.Rounds.{asks}
use Rattle.mega_run_laws.specs.of_rules.of_read.declared.reading.Reading.{Reading}
use Rattle.mega_run_laws.specs.of_rules.of_read.declared.reading.Search.{Search}
use Rattle.mega_run_laws.specs.of_rules.of_read.declared.reading.Stage.{Stage}
use Rattle.mega_run_laws.specs.of_rules.of_read.declared.reading.Stage.TheVariants.{Polling, Catching}
use Rattle.mega_run_laws.specs.of_rules.of_read.Catching.{asked_by, seeks, site}
use Rattle.mega_run_laws.specs.of_rules.Clock.{clock_of}
use Rattle.mega_run_laws.specs.of_rules.Logs.{decided, groups_of, log_of, prefix_of}
use Rattle.mega_run_laws.specs.of_rules.Queues.{Posted, enter_entry, is_named, names_entered, next_to_enter, next_to_handle, oldest_unhandled}
use Rattle.mega_run_laws.specs.of_rules.Operations.{Now, Operation, Phase, Promised, Proposes, Reads, Replies, Results, Setting}
use Rattle.mega_run_laws.specs.of_rules.Acting.{ActsAgain, Next, Rests, acts, applied_logs, batch_sealed, begins_read, completes_read, ends, enters, finishes, goes_on, handles, handling, in_phase, keeps, leader_after, listed_at, picks_group, picks_message, proposes, proposes_by, read_begun, reader_of, reads_on, rests_within, rows_at, sealed, sends_more, table_rows, unless_decided, unless_full, visiting}
use Rattle.mega_run_laws.specs.of_rules.Steps.{acts_first, find_begins, local_find_begins, new_operation, read_begins, unless_refused}

-- where an operation that begins stands
abbrev pub no_group : GroupId
no_group = record { key = [] }

-- a read that has its position
abbrev pub caught : Option Epoch → List ℕ → ℕ → Option Search → Reading
caught noted asked p search = record { noted = noted; asked = asked; stage = Catching p search }

-- what one operation's moves lead to: `B` is what holds as it begins, `W` while it acts, and `P` once it has acted
pub record Walks (s : Setting) (B P : OpId → Now → Type 0) (W : Now → Operation → Type 0) : Type 0 where
  pub keeps_it : (now : Now) (o : Operation) → W now o → P o.id (keeps now o)
  pub ends_it : (now : Now) (o : Operation) (answer : Answer) → W now o → P o.id (ends now o.id answer)
  pub completes_it : (now : Now) (o : Operation) (group : GroupId) (noted : Option Epoch) (asked : List ℕ) (p : ℕ) (search : Option Search)
      → nat_le p (prefix_of now.met group) ≡ true → W now (in_phase o (Reads group (caught noted asked p search)))
      → W (completes_read s now group (caught noted asked p search) p) (in_phase o (Reads group (caught noted asked p search)))
  pub seeks_it : (now : Now) (o : Operation) (group : GroupId) (r : Reading) (least : ℕ) → W now (in_phase o (Reads group r))
      → W (sends_more now (seeks (reader_of s o.id group) r least (clock_of now.met)).sends) (in_phase o (Reads group (seeks (reader_of s o.id group) r least (clock_of now.met)).reading))
  pub asks_it : (now : Now) (o : Operation) (group : GroupId) (noted : Option Epoch) (asked : List ℕ) (p : ℕ) (search : Option Search) (leader : ℕ) (own : Content) (promised : Promised)
      → W now (in_phase o (Reads group (caught noted asked p search)))
      → W (sends_more now (asks (site (reader_of s o.id group) (asked_by (caught noted asked p search)) (p + 1)) leader own (clock_of now.met)).sends)
      (in_phase o (Proposes group (p + 1) (asked_by (caught noted asked p search)) (asks (site (reader_of s o.id group) (asked_by (caught noted asked p search)) (p + 1)) leader own (clock_of now.met)).proposal promised))
  pub visits_it : (now : Now) (o : Operation) (before : GroupId) (r : Reading) (group : GroupId) (message : Option Enter) → W now (in_phase o (Reads before r))
      → W (sends_more now (read_begun s now o group (asked_by r)).sends) (visiting o group message (read_begun s now o group (asked_by r)))
  pub first_it : (now : Now) (id : OpId) (request : Request) (clock : ℕ) (group : GroupId) (message : Option Enter) → B id now
      → W (sends_more now (read_begun s now (new_operation id request clock) group []).sends) (visiting (new_operation id request clock) group message (read_begun s now (new_operation id request clock) group []))
  pub ends_first : (now : Now) (id : OpId) (answer : Answer) → B id now → P id (ends now id answer)

module _ (s : Setting) (B P : OpId → Now → Type 0) (W : Now → Operation → Type 0) (l : Walks s B P W) where
  -- what it comes to: it has acted, or acts again, under the same id
  abbrev pub Leads : OpId → Next → Type 0
  Leads id (Rests now) = P id now
  Leads id (ActsAgain now o) = (o.id ≡ id) × W now o

  either : (id : OpId) (t : Bool) (one other : Now) → P id one → P id other → P id (cond t one other)
  either id true one other h k = h
  either id false one other h k = k

  either_so : (id : OpId) (t : Bool) (one other : Next) → (t ≡ true → Leads id one) → Leads id other → Leads id (cond t one other)
  either_so id true one other h k = h refl
  either_so id false one other h k = k

  -- an operation that reads, in fields
  begins_read_it : (now : Now) (o : Operation) (before : GroupId) (r : Reading) (group : GroupId) (message : Option Enter) → W now (in_phase o (Reads before r))
      → Leads o.id (begins_read s now (in_phase o (Reads before r)) group message (asked_by r))
  begins_read_it now o before r group message h = (refl, l.visits_it now o before r group message h)

  picks_message_it : (now : Now) (o : Operation) (before : GroupId) (r : Reading) (one : Option Posted) → W now (in_phase o (Reads before r))
      → Leads o.id (picks_message s now (in_phase o (Reads before r)) (asked_by r) one)
  picks_message_it now o before r None h = l.ends_it now (in_phase o (Reads before r)) _ h
  picks_message_it now o before r (Some one) h = begins_read_it now o before r one.to (Some one.message) h

  picks_group_it : (now : Now) (o : Operation) (before : GroupId) (r : Reading) (one : Option GroupId) → W now (in_phase o (Reads before r))
      → Leads o.id (picks_group s now (in_phase o (Reads before r)) (asked_by r) one)
  picks_group_it now o before r None h = l.ends_it now (in_phase o (Reads before r)) _ h
  picks_group_it now o before r (Some group) h = begins_read_it now o before r group None h

  unless_decided_it : (now : Now) (o : Operation) (n : ℕ) (promised : Promised) (d : Option Content) → W now o → P o.id (unless_decided now o n promised d)
  unless_decided_it now o n promised None h = l.keeps_it now o h
  unless_decided_it now o n promised (Some entry) h = l.ends_it now o _ h

  proposes_by_it : (now : Now) (o : Operation) (group : GroupId) (noted : Option Epoch) (asked : List ℕ) (p : ℕ) (search : Option Search) (own : Content) (promised : Promised) (leader : Option ℕ) → W now (in_phase o (Reads group (caught noted asked p search)))
      → P o.id (proposes_by s now (in_phase o (Reads group (caught noted asked p search))) group (caught noted asked p search) p own promised leader)
  proposes_by_it now o group noted asked p search own promised None h = l.keeps_it now (in_phase o (Reads group (caught noted asked p search))) h
  proposes_by_it now o group noted asked p search own promised (Some leader) h =
      unless_decided_it (sends_more now (asks (site (reader_of s o.id group) (asked_by (caught noted asked p search)) (p + 1)) leader own (clock_of now.met)).sends)
      (in_phase o (Proposes group (p + 1) (asked_by (caught noted asked p search)) (asks (site (reader_of s o.id group) (asked_by (caught noted asked p search)) (p + 1)) leader own (clock_of now.met)).proposal promised))
      (p + 1) promised (decided now.met group (p + 1)) (l.asks_it now o group noted asked p search leader own promised h)

  proposes_it : (now : Now) (o : Operation) (group : GroupId) (noted : Option Epoch) (asked : List ℕ) (p : ℕ) (search : Option Search) (own : Content) (promised : Promised) → W now (in_phase o (Reads group (caught noted asked p search)))
      → P o.id (proposes s now (in_phase o (Reads group (caught noted asked p search))) group (caught noted asked p search) p own promised)
  proposes_it now o group noted asked p search own promised h = proposes_by_it now o group noted asked p search own promised (leader_after s now group p) h

  sealed_it : (now : Now) (o : Operation) (group : GroupId) (noted : Option Epoch) (asked : List ℕ) (p : ℕ) (search : Option Search) (result : Result Done Turned) → W now (in_phase o (Reads group (caught noted asked p search))) → P o.id (sealed s now (in_phase o (Reads group (caught noted asked p search))) group (caught noted asked p search) p result)
  sealed_it now o group noted asked p search (Err turn) h = l.ends_it now (in_phase o (Reads group (caught noted asked p search))) _ h
  sealed_it now o group noted asked p search (Ok done) h = proposes_it now o group noted asked p search (entry_of_done o.id done) (Replies done.replies) h

  batch_sealed_it : (now : Now) (o : Operation) (group : GroupId) (noted : Option Epoch) (asked : List ℕ) (p : ℕ) (search : Option Search) (b : Batch) → W now (in_phase o (Reads group (caught noted asked p search))) → P o.id (batch_sealed s now (in_phase o (Reads group (caught noted asked p search))) group (caught noted asked p search) p b)
  batch_sealed_it now o group noted asked p search b h = either o.id (list_any is_ok b.results) _ _ (proposes_it now o group noted asked p search (entry_of_batch o.id b) (Results b.results) h) (l.ends_it now (in_phase o (Reads group (caught noted asked p search))) _ h)

  enters_it : (now : Now) (o : Operation) (group : GroupId) (noted : Option Epoch) (asked : List ℕ) (p : ℕ) (search : Option Search) (message : Option Enter) → W now (in_phase o (Reads group (caught noted asked p search))) → Leads o.id (enters s now (in_phase o (Reads group (caught noted asked p search))) group (caught noted asked p search) p message)
  enters_it now o group noted asked p search None h = picks_message_it now o group (caught noted asked p search) (next_to_enter o.id (applied_logs now)) h
  enters_it now o group noted asked p search (Some message) h = either_so o.id (is_named message.name (names_entered (take p (log_of now.met group)))) _ _
      (λ there. picks_message_it now o group (caught noted asked p search) (next_to_enter o.id (applied_logs now)) h) (proposes_it now o group noted asked p search (enter_entry o.id message) (Replies []) h)

  handles_it : (now : Now) (o : Operation) (group : GroupId) (noted : Option Epoch) (asked : List ℕ) (p : ℕ) (search : Option Search) (message : Option Enter) → W now (in_phase o (Reads group (caught noted asked p search))) → Leads o.id (handles s now (in_phase o (Reads group (caught noted asked p search))) group (caught noted asked p search) p message)
  handles_it now o group noted asked p search None h = picks_group_it now o group (caught noted asked p search) (next_to_handle (applied_logs now)) h
  handles_it now o group noted asked p search (Some message) h = either_so o.id (has s.handlers message.queue) _ _
      (λ there. proposes_it now o group noted asked p search (handling s o.id group message (table_rows s.cluster.schema group (listed_at now group p))) (Replies []) h) (l.ends_it now (in_phase o (Reads group (caught noted asked p search))) _ h)

  unless_full_it : (now : Now) (o : Operation) (p : ℕ) (next : Next) → W now o → Leads o.id next → Leads o.id (unless_full s now o p next)
  unless_full_it now o p next h k = either_so o.id (nat_le (s.cluster.limit).0 p) _ next (λ full. l.ends_it now o _ h) k

  module _ (id : OpId) (began : ℕ) (visited : List GroupId) (message : Option Enter) where
    abbrev one : Request → Phase → Operation
    one request phase = record { id = id; request = request; began = began; visited = visited; message = message; phase = phase }

    finishes_by : (now : Now) (request : Request) (group : GroupId) (noted : Option Epoch) (asked : List ℕ) (p : ℕ) (search : Option Search) → W now (one request (Reads group (caught noted asked p search))) → Leads id (finishes s now (one request (Reads group (caught noted asked p search))) group (caught noted asked p search) p)
    finishes_by now (Txn transaction) group noted asked p search h =
        unless_full_it now (one (Txn transaction) (Reads group (caught noted asked p search))) p _ h (sealed_it now (one (Txn transaction) (Reads group (caught noted asked p search))) group noted asked p search (outcome s.cluster.schema transaction (rows_at now group p)) h)
    finishes_by now (BatchRequest own transactions) group noted asked p search h =
        unless_full_it now (one (BatchRequest own transactions) (Reads group (caught noted asked p search))) p _ h
        (batch_sealed_it now (one (BatchRequest own transactions) (Reads group (caught noted asked p search))) group noted asked p search (batch_outcome s.cluster.schema own transactions (rows_at now group p)) h)
    finishes_by now (ReadRequested request) group noted asked p search h = l.ends_it now (one (ReadRequested request) (Reads group (caught noted asked p search))) _ h
    finishes_by now (Find request) group noted asked p search h = l.ends_it now (one (Find request) (Reads group (caught noted asked p search))) _ h
    finishes_by now PumpEnter group noted asked p search h = unless_full_it now (one PumpEnter (Reads group (caught noted asked p search))) p _ h (enters_it now (one PumpEnter (Reads group (caught noted asked p search))) group noted asked p search message h)
    finishes_by now PumpHandle group noted asked p search h =
        unless_full_it now (one PumpHandle (Reads group (caught noted asked p search))) p _ h (handles_it now (one PumpHandle (Reads group (caught noted asked p search))) group noted asked p search (oldest_unhandled (take p (log_of now.met group))) h)
    finishes_by now Refresh group noted asked p search h = l.keeps_it now (one Refresh (Reads group (caught noted asked p search))) h

    reads_on_by : (now : Now) (request : Request) (group : GroupId) (noted : Option Epoch) (asked : List ℕ) (stage : Stage) → W now (one request (Reads group (record { noted = noted; asked = asked; stage = stage })))
        → Leads id (reads_on s now (one request (Reads group (record { noted = noted; asked = asked; stage = stage }))) group (record { noted = noted; asked = asked; stage = stage }))
    reads_on_by now request group noted asked (Polling heard best at) h = l.keeps_it now (one request (Reads group (record { noted = noted; asked = asked; stage = Polling heard best at }))) h
    reads_on_by now request group noted asked (Catching p search) h = either_so id (nat_le p (prefix_of now.met group)) _ _
        (λ has_all. finishes_by (completes_read s now group (caught noted asked p search) p) request group noted asked p search
        (l.completes_it now (one request (Reads group (caught noted asked p search))) group noted asked p search has_all h))
        (l.keeps_it (sends_more now (seeks (reader_of s id group) (caught noted asked p search) (prefix_of now.met group + 1) (clock_of now.met)).sends)
        (one request (Reads group (seeks (reader_of s id group) (caught noted asked p search) (prefix_of now.met group + 1) (clock_of now.met)).reading))
        (l.seeks_it now (one request (Reads group (caught noted asked p search))) group (caught noted asked p search) (prefix_of now.met group + 1) h))

    acts_by : (now : Now) (request : Request) (phase : Phase) → W now (one request phase) → Leads id (acts s now (one request phase))
    acts_by now request (Reads group r) h = reads_on_by now request group r.noted r.asked r.stage h
    acts_by now request (Proposes group n asked proposal promised) h = unless_decided_it now (one request (Proposes group n asked proposal promised)) n promised (decided now.met group n) h

  acts_it : (now : Now) (o : Operation) → W now o → Leads o.id (acts s now o)
  acts_it now o h = acts_by o.id o.began o.visited o.message now o.request o.phase h

  -- until it rests
  rests_within_it : (most : ℕ) (id : OpId) (next : Next) → Leads id next → P id (rests_within most s next)
  rests_within_it most id (Rests now) h = h
  rests_within_it zero id (ActsAgain now o) h = subst (λ (op : OpId). P op (keeps now o)) h.0 (l.keeps_it now o h.1)
  rests_within_it (suc most) id (ActsAgain now o) h = subst (λ (op : OpId). P op (rests_within most s (acts s now o))) h.0 (rests_within_it most o.id (acts s now o) (acts_it now o h.1))

  pub goes_on_it : (now : Now) (o : Operation) → W now o → P o.id (goes_on s now o)
  goes_on_it now o h = rests_within_it (length (groups_of now.met) + 2) o.id (ActsAgain now o) (refl, h)

  -- an operation that begins
  module _ (now : Now) (id : OpId) (clock : ℕ) (b : B id now) where
    first_read_it : (request : Request) (group : GroupId) (message : Option Enter) → Leads id (begins_read s now (new_operation id request clock) group message [])
    first_read_it request group message = (refl, l.first_it now id request clock group message b)

    first_message_it : (one : Option Posted) → Leads id (picks_message s now (new_operation id PumpEnter clock) [] one)
    first_message_it None = l.ends_first now id _ b
    first_message_it (Some one) = first_read_it PumpEnter one.to (Some one.message)

    first_group_it : (one : Option GroupId) → Leads id (picks_group s now (new_operation id PumpHandle clock) [] one)
    first_group_it None = l.ends_first now id _ b
    first_group_it (Some group) = first_read_it PumpHandle group None

    read_begins_it : (request : ReadRequest) (mode : Mode) → Leads id (read_begins s now (new_operation id (ReadRequested request) clock) request mode)
    read_begins_it request Current = first_read_it (ReadRequested request) request.group None
    read_begins_it request Snapshot = l.ends_first now id _ b
    read_begins_it request Inconsistent = l.ends_first now id _ b

    local_find_it : (request : FindRequest) (group : GroupId) (mode : Mode) → Leads id (local_find_begins s now (new_operation id (Find request) clock) request group mode)
    local_find_it request group Current = first_read_it (Find request) group None
    local_find_it request group Snapshot = l.ends_first now id _ b
    local_find_it request group Inconsistent = l.ends_first now id _ b

    find_begins_it : (request : FindRequest) (group : Option GroupId) → Leads id (find_begins s now (new_operation id (Find request) clock) request group)
    find_begins_it request None = l.ends_first now id _ b
    find_begins_it request (Some group) = local_find_it request group request.mode

    first_by : (request : Request) → Leads id (acts_first s now (new_operation id request clock))
    first_by (Txn transaction) = first_read_it (Txn transaction) transaction.group None
    first_by (BatchRequest group transactions) = first_read_it (BatchRequest group transactions) group None
    first_by (ReadRequested request) = read_begins_it request request.mode
    first_by (Find request) = find_begins_it request request.group
    first_by PumpEnter = first_message_it (next_to_enter id (applied_logs now))
    first_by PumpHandle = first_group_it (next_to_handle (applied_logs now))
    first_by Refresh = l.ends_first now id _ b

  pub begun_it : (now : Now) (id : OpId) (clock : ℕ) (request : Request) (refusal : Option Answer) → (refusal ≡ None → B id now) → ((answer : Answer) → P id (ends now id answer))
      → P id (unless_refused s now (new_operation id request clock) refusal)
  begun_it now id clock request None h k = rests_within_it (length (groups_of now.met) + 2) id (acts_first s now (new_operation id request clock)) (first_by now id clock (h refl) request)
  begun_it now id clock request (Some answer) h k = k answer
