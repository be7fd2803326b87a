-- What an operation does once its node has heard what the step brings proposes and sends only own entries.
use Rattle.std.proofs.Common.{◌≡◌, ℕ, zero, suc, ◌+◌, List, [], length, Option, Some, None, Result, Ok, Err, refl}
use Rattle.std.specs.Prelude.{nat_le, take}
use Rattle.std.specs.List.{list_any}
use Rattle.std.specs.Result.{is_ok}
use Rattle.mega_base.specs.declared.names.Epoch.{Epoch}
use Rattle.mega_base.specs.declared.names.GroupId.{GroupId}
use Rattle.mega_base.specs.declared.names.OpId.{OpId}
use Rattle.mega_coordinator.specs.declared.answers.NotValid.{NotValid}
use Rattle.mega_entry.specs.declared.content.Content.{Content}
use Rattle.mega_entry.specs.declared.content.Enter.{Enter}
use Rattle.mega_schema.specs.declared.schema.Schema.{Schema}
use Rattle.mega_wire.specs.declared.message.Message.{Message}
use Rattle.mega_handler.specs.Named.{has}
use Rattle.mega_outcome.specs.declared.answer.Answer.{Answer}
use Rattle.mega_outcome.specs.declared.answer.Answer.TheVariants.{AllTurned, LogFull, NoHandler, Turned}
use Rattle.mega_outcome.specs.declared.answer.Batch.{Batch as BatchDone}
use Rattle.mega_outcome.specs.declared.answer.Done.{Done}
use Rattle.mega_outcome.specs.declared.answer.Turn.{Turn}
use Rattle.mega_outcome.specs.declared.request.FindRequest.{FindRequest}
use Rattle.mega_outcome.specs.declared.request.Mode.{Mode}
use Rattle.mega_outcome.specs.declared.request.Mode.TheVariants.{Current, Snapshot, Inconsistent}
use Rattle.mega_outcome.specs.declared.request.ReadRequest.{ReadRequest}
use Rattle.mega_outcome.specs.declared.request.Request.{Request}
use Rattle.mega_outcome.specs.declared.request.Request.TheVariants.{Txn, Batch, Read, Find, PumpEnter, PumpHandle, Refresh}
use Rattle.mega_outcome.specs.declared.transaction.Transaction.{Transaction}
use Rattle.mega_outcome.specs.Outcome.{batch_outcome, entry_of_batch, entry_of_done, outcome}
use Rattle.mega_node_laws.specs.About.{IsOf}
use Rattle.mega_run_laws.specs.of_rules.of_read.of_propose.declared.round.Move.{Move as RoundMove}
use Rattle.mega_run_laws.specs.of_rules.of_read.of_propose.Rounds.{asks}
use Rattle.mega_run_laws.specs.of_rules.of_read.declared.reading.Move.{Move as ReadMove}
use Rattle.mega_run_laws.specs.of_rules.of_read.declared.reading.Reading.{Reading}
use Rattle.mega_run_laws.specs.of_rules.of_read.declared.reading.Stage.{Stage}
use Rattle.mega_run_laws.specs.of_rules.of_read.declared.reading.Stage.TheVariants.{Polling, Catching}
use Rattle.mega_run_laws.specs.of_rules.of_read.Catching.{asked_by, local_read, polled_read, seeks, site}
use Rattle.mega_run_laws.specs.of_rules.Met.{Answers, Validates}
use Rattle.mega_run_laws.specs.of_rules.Clock.{clock_of}
use Rattle.mega_run_laws.specs.of_rules.Coordinators.{refused_at, serves_at, valid_at}
use Rattle.mega_run_laws.specs.of_rules.Logs.{decided, groups_of, log_of, prefix_of, top_of}
use Rattle.mega_run_laws.specs.of_rules.Queues.{Posted, enter_entry, is_named, names_entered, next_to_enter, next_to_handle, oldest_unhandled}
use Rattle.mega_run_laws.specs.of_rules.Operations.{Now, Operation, Phase, Promised, Proposes, Reads, Replies, Results, Setting}
use Rattle.mega_run_laws.specs.of_rules.Acting.{ActsAgain, Next, Rests, acts, applied_logs, batch_sealed, begins_read, completes_read, ends, enters, finishes, goes_on, handles, handling, in_phase, is_visited, keeps, leader_after, listed_at, picks_group, picks_message, picks_to_enter, picks_to_handle, proposes, proposes_by, proposes_there, read_begun, reader_of, reads_on, rests_within, rows_at, sealed, seeks_on, sends_more, table_rows, unless_decided, unless_full, validated_by, validates, verdict}
use Rattle.mega_run_laws.specs.of_rules.Steps.{acts_first, find_begins, local_find_begins, read_begins, unless_refused}
use Rattle.mega_run_laws.specs.of_tape_laws.Indexed.{IsDeclared}
use Rattle.mega_run_laws.specs.Justified.{Each}
use Rattle.mega_run_laws.proofs.Events.{each_append}
use Rattle.mega_run_laws.proofs.Turns.{each_push}
use Rattle.mega_own_laws.specs.Entries.{IsOwn}
use Rattle.mega_own_laws.specs.Messages.{AllTellOwn, TellsOwn}
use Rattle.mega_own_laws.specs.Rounds.{MoveOwn, ReadMoveOwn}
use Rattle.mega_own_laws.specs.Nodes.{ItemOwn, MetOwn, OperationOwn}
use Rattle.mega_own_laws.proofs.Lists.{either}
use Rattle.mega_own_laws.proofs.Making.{batch_own, done_own, handling_own}
use Rattle.mega_own_laws.proofs.Rounds.{asks_own}
use Rattle.mega_own_laws.proofs.Reading.{local_own, polled_own, seeks_own}

-- a node within a step
pub record NowOwn (schema : Schema) (now : Now) : Type 0 where
  pub kept : Each (OperationOwn schema) now.kept
  pub valid : MetOwn schema now.valid
  pub answers : MetOwn schema now.answers
  pub sends : AllTellOwn schema now.sends

module _ (s : Setting) where
  abbrev pub IsOwnNow : Now → Type 0
  IsOwnNow now = NowOwn s.cluster.schema now

  -- ---- a node within a step

  keeps_own : (now : Now) (o : Operation) → IsOwnNow now → OperationOwn s.cluster.schema o → IsOwnNow (keeps now o)
  keeps_own now o h k = record { kept = each_push (OperationOwn s.cluster.schema) now.kept o h.kept k; valid = h.valid; answers = h.answers; sends = h.sends }

  pub ends_own : (now : Now) (op : OpId) (answer : Answer) → IsOwnNow now → IsOwnNow (ends now op answer)
  ends_own now op answer h = record { kept = h.kept; valid = h.valid; answers = each_push (ItemOwn s.cluster.schema) now.answers (Answers op answer) h.answers tt; sends = h.sends }

  pub sends_own : (now : Now) (sends : List Message) → IsOwnNow now → AllTellOwn s.cluster.schema sends → IsOwnNow (sends_more now sends)
  sends_own now sends h m = record { kept = h.kept; valid = h.valid; answers = h.answers; sends = each_append (TellsOwn s.cluster.schema) now.sends sends h.sends m }

  -- ---- an operation proposes

  unless_decided_own : (now : Now) (o : Operation) (n : ℕ) (promised : Promised) (found : Option Content) → IsOwnNow now → OperationOwn s.cluster.schema o → IsOwnNow (unless_decided now o n promised found)
  unless_decided_own now o n promised None h k = keeps_own now o h k
  unless_decided_own now o n promised (Some entry) h k = ends_own now o.id (verdict o.id n promised entry) h

  there_own : (now : Now) (o : Operation) (group : GroupId) (n : ℕ) (asked : List ℕ) (promised : Promised) (t : RoundMove) → IsOwnNow now → IsOf o.request group → MoveOwn s.cluster.schema group t
      → IsOwnNow (proposes_there s now o group n asked promised t)
  there_own now o group n asked promised t h of m =
      unless_decided_own (sends_more now t.sends) (in_phase o (Proposes group n asked t.proposal promised)) n promised (decided now.met group n) (sends_own now t.sends h m.sends) (record { about = of; phase = m.proposal })

  by_own : (now : Now) (o : Operation) (group : GroupId) (r : Reading) (p : ℕ) (own : Content) (promised : Promised) (leader : Option ℕ) → IsOwnNow now → OperationOwn s.cluster.schema o → IsOf o.request group → IsOwn s.cluster.schema group own
      → IsOwnNow (proposes_by s now o group r p own promised leader)
  by_own now o group r p own promised None h k of e = keeps_own now o h k
  by_own now o group r p own promised (Some leader) h k of e =
      there_own now o group (p + 1) (asked_by r) promised (asks (site (reader_of s o.id group) (asked_by r) (p + 1)) leader own (clock_of now.met)) h of
      (asks_own s.cluster.schema (site (reader_of s o.id group) (asked_by r) (p + 1)) leader own (clock_of now.met) e)

  proposes_own : (now : Now) (o : Operation) (group : GroupId) (r : Reading) (p : ℕ) (own : Content) (promised : Promised) → IsOwnNow now → OperationOwn s.cluster.schema o → IsOf o.request group → IsOwn s.cluster.schema group own
      → IsOwnNow (proposes s now o group r p own promised)
  proposes_own now o group r p own promised h k of e = by_own now o group r p own promised (leader_after s now group p) h k of e

  -- ---- a read is complete

  validated_own : (now : Now) (group : GroupId) (p : ℕ) (refusal : Option NotValid) → IsOwnNow now → IsOwnNow (validated_by now group p refusal)
  validated_own now group p (Some refusal) h = h
  validated_own now group p None h = record { kept = h.kept; valid = each_push (ItemOwn s.cluster.schema) now.valid (Validates group p) h.valid tt; answers = h.answers; sends = h.sends }

  validates_own : (now : Now) (group : GroupId) (p : ℕ) (noted : Option Epoch) → IsOwnNow now → IsOwnNow (validates s now group p noted)
  validates_own now group p None h = h
  validates_own now group p (Some noted) h = validated_own now group p (refused_at s.cluster now.met group p noted) h

  completes_own : (now : Now) (group : GroupId) (r : Reading) (p : ℕ) → IsOwnNow now → IsOwnNow (completes_read s now group r p)
  completes_own now group r p h = validates_own _ group p r.noted (record { kept = h.kept; valid = h.valid; answers = h.answers; sends = h.sends })

  -- ---- a pump reads a group, and picks

  -- what an operation comes to; one that acts again is of its own too
  abbrev pub Leads : Next → Type 0
  Leads (Rests now) = IsOwnNow now
  Leads (ActsAgain now o) = IsOwnNow now × OperationOwn s.cluster.schema o

  begun_own : (now : Now) (o : Operation) (group : GroupId) (asked : List ℕ) → ReadMoveOwn s.cluster.schema group (read_begun s now o group asked)
  begun_own now o group asked =
      either (ReadMoveOwn s.cluster.schema group) (is_visited o group) (polled_read (reader_of s o.id group) None asked (clock_of now.met)) _
      (polled_own s.cluster.schema (reader_of s o.id group) None asked (clock_of now.met))
      (either (ReadMoveOwn s.cluster.schema group) (valid_at s.cluster now.met group) (local_read asked (top_of now.met group)) (polled_read (reader_of s o.id group) (serves_at s.cluster now.met) asked (clock_of now.met))
      (local_own s.cluster.schema group asked (top_of now.met group))
      (polled_own s.cluster.schema (reader_of s o.id group) (serves_at s.cluster now.met) asked (clock_of now.met)))

  begins_read_own : (now : Now) (o : Operation) (group : GroupId) (message : Option Enter) (asked : List ℕ) → IsOwnNow now → IsOf o.request group → Leads (begins_read s now o group message asked)
  begins_read_own now o group message asked h of =
      (sends_own now (read_begun s now o group asked).sends h (begun_own now o group asked).sends, record { about = of; phase = (begun_own now o group asked).reading })

  message_picked : (now : Now) (o : Operation) (asked : List ℕ) (found : Option Posted) → IsOwnNow now → ((group : GroupId) → IsOf o.request group) → Leads (picks_message s now o asked found)
  message_picked now o asked None h of = ends_own now o.id _ h
  message_picked now o asked (Some one) h of = begins_read_own now o one.to (Some one.message) asked h (of one.to)

  group_picked : (now : Now) (o : Operation) (asked : List ℕ) (found : Option GroupId) → IsOwnNow now → ((group : GroupId) → IsOf o.request group) → Leads (picks_group s now o asked found)
  group_picked now o asked None h of = ends_own now o.id _ h
  group_picked now o asked (Some group) h of = begins_read_own now o group None asked h (of group)

  picks_enter : (now : Now) (o : Operation) (asked : List ℕ) → IsOwnNow now → ((group : GroupId) → IsOf o.request group) → Leads (picks_to_enter s now o asked)
  picks_enter now o asked h of = message_picked now o asked (next_to_enter o.id (applied_logs now)) h of

  picks_handle : (now : Now) (o : Operation) (asked : List ℕ) → IsOwnNow now → ((group : GroupId) → IsOf o.request group) → Leads (picks_to_handle s now o asked)
  picks_handle now o asked h of = group_picked now o asked (next_to_handle (applied_logs now)) h of

  module _ (declared : IsDeclared s.cluster.schema) where
    -- ---- what a complete read comes to

    sealed_own : (now : Now) (o : Operation) (group : GroupId) (r : Reading) (p : ℕ) (transaction : Transaction) (result : Result Done Turn) → outcome s.cluster.schema transaction (rows_at now group p) ≡ result → IsOwnNow now → OperationOwn s.cluster.schema o
        → IsOf o.request group → transaction.group ≡ group → IsOwnNow (sealed s now o group r p result)
    sealed_own now o group r p transaction (Err turn) comes h k of at = ends_own now o.id (Turned turn) h
    sealed_own now o group r p transaction (Ok done) comes h k of at =
        proposes_own now o group r p (entry_of_done o.id done) (Replies done.replies) h k of (done_own s.cluster.schema declared o.id group transaction (rows_at now group p) done at comes)

    batch_sealed_own : (now : Now) (o : Operation) (group : GroupId) (r : Reading) (p : ℕ) (b : BatchDone) → IsOwnNow now → OperationOwn s.cluster.schema o → IsOf o.request group → IsOwn s.cluster.schema group (entry_of_batch o.id b)
        → IsOwnNow (batch_sealed s now o group r p b)
    batch_sealed_own now o group r p b h k of e = either IsOwnNow (list_any is_ok b.results) (proposes s now o group r p (entry_of_batch o.id b) (Results b.results)) (ends now o.id (AllTurned b.results))
        (proposes_own now o group r p (entry_of_batch o.id b) (Results b.results) h k of e) (ends_own now o.id (AllTurned b.results) h)

    unless_full_own : (now : Now) (o : Operation) (p : ℕ) (next : Next) → IsOwnNow now → Leads next → Leads (unless_full s now o p next)
    unless_full_own now o p next h k = either Leads (nat_le (s.cluster.limit).0 p) (Rests (ends now o.id (LogFull (record { 0 = p })))) next (ends_own now o.id (LogFull (record { 0 = p })) h) k

    enters_own : (now : Now) (o : Operation) (group : GroupId) (r : Reading) (p : ℕ) (message : Option Enter) → IsOwnNow now → OperationOwn s.cluster.schema o → ((group : GroupId) → IsOf o.request group)
        → Leads (enters s now o group r p message)
    enters_own now o group r p None h k of = picks_enter now o (asked_by r) h of
    enters_own now o group r p (Some message) h k of = either Leads (is_named message.name (names_entered (take p (log_of now.met group)))) (picks_to_enter s now o (asked_by r)) (Rests (proposes s now o group r p (enter_entry o.id message) (Replies [])))
        (picks_enter now o (asked_by r) h of) (proposes_own now o group r p (enter_entry o.id message) (Replies []) h k (of group) tt)

    handles_own : (now : Now) (o : Operation) (group : GroupId) (r : Reading) (p : ℕ) (message : Option Enter) → IsOwnNow now → OperationOwn s.cluster.schema o → ((group : GroupId) → IsOf o.request group)
        → Leads (handles s now o group r p message)
    handles_own now o group r p None h k of = picks_handle now o (asked_by r) h of
    handles_own now o group r p (Some message) h k of = either Leads (has s.handlers message.queue)
        (Rests (proposes s now o group r p (handling s o.id group message (table_rows s.cluster.schema group (listed_at now group p))) (Replies []))) (Rests (ends now o.id (NoHandler message.queue)))
        (proposes_own now o group r p (handling s o.id group message (table_rows s.cluster.schema group (listed_at now group p))) (Replies []) h k (of group)
        (handling_own s declared o.id group message (table_rows s.cluster.schema group (listed_at now group p))))
        (ends_own now o.id (NoHandler message.queue) h)

    module _ (id : OpId) (began : ℕ) (visited : List GroupId) (message : Option Enter) where
      abbrev one : Request → Phase → Operation
      one request phase = record { id = id; request = request; began = began; visited = visited; message = message; phase = phase }

      finishes_own : (now : Now) (request : Request) (phase : Phase) (group : GroupId) (r : Reading) (p : ℕ) → IsOwnNow now → OperationOwn s.cluster.schema (one request phase) → IsOf request group
          → Leads (finishes s now (one request phase) group r p)
      finishes_own now (Txn transaction) phase group r p h k of = unless_full_own now (one (Txn transaction) phase) p _ h
          (sealed_own now (one (Txn transaction) phase) group r p transaction (outcome s.cluster.schema transaction (rows_at now group p)) refl h k of of)
      finishes_own now (Batch own transactions) phase group r p h k of = unless_full_own now (one (Batch own transactions) phase) p _ h
          (batch_sealed_own now (one (Batch own transactions) phase) group r p (batch_outcome s.cluster.schema own transactions (rows_at now group p)) h k of
          (batch_own s.cluster.schema declared id own group transactions (rows_at now group p) of))
      finishes_own now (Read request) phase group r p h k of = ends_own now id _ h
      finishes_own now (Find request) phase group r p h k of = ends_own now id _ h
      finishes_own now PumpEnter phase group r p h k of = unless_full_own now (one PumpEnter phase) p _ h (enters_own now (one PumpEnter phase) group r p message h k (λ g. tt))
      finishes_own now PumpHandle phase group r p h k of = unless_full_own now (one PumpHandle phase) p _ h (handles_own now (one PumpHandle phase) group r p (oldest_unhandled (take p (log_of now.met group))) h k (λ g. tt))
      finishes_own now Refresh phase group r p h k of = keeps_own now (one Refresh phase) h k

      -- ---- an operation acts

      reads_own : (now : Now) (request : Request) (group : GroupId) (noted : Option Epoch) (asked : List ℕ) (stage : Stage) → IsOwnNow now → OperationOwn s.cluster.schema (one request (Reads group (record { noted = noted; asked = asked; stage = stage })))
          → Leads (reads_on s now (one request (Reads group (record { noted = noted; asked = asked; stage = stage }))) group (record { noted = noted; asked = asked; stage = stage }))
      reads_own now request group noted asked (Polling heard best sent) h k = keeps_own now (one request (Reads group (record { noted = noted; asked = asked; stage = Polling heard best sent }))) h k
      reads_own now request group noted asked (Catching p search) h k = either Leads (nat_le p (prefix_of now.met group))
          (finishes s (completes_read s now group r p) (one request (Reads group r)) group r p) (Rests (seeks_on (one request (Reads group r)) now group sought))
          (finishes_own (completes_read s now group r p) request (Reads group r) group r p (completes_own now group r p h) k k.about)
          (keeps_own (sends_more now sought.sends) (one request (Reads group sought.reading)) (sends_own now sought.sends h m.sends) (record { about = k.about; phase = m.reading }))
        where
          r : Reading
          r = record { noted = noted; asked = asked; stage = Catching p search }

          sought : ReadMove
          sought = seeks (reader_of s id group) r (prefix_of now.met group + 1) (clock_of now.met)

          m : ReadMoveOwn s.cluster.schema group sought
          m = seeks_own s.cluster.schema (reader_of s id group) r (prefix_of now.met group + 1) (clock_of now.met) k.phase

      acts_by : (now : Now) (request : Request) (phase : Phase) → IsOwnNow now → OperationOwn s.cluster.schema (one request phase) → Leads (acts s now (one request phase))
      acts_by now request (Reads group r) h k = reads_own now request group r.noted r.asked r.stage h (record { about = k.about; phase = record { stage = (k.phase).stage } })
      acts_by now request (Proposes group n asked p promised) h k = unless_decided_own now (one request (Proposes group n asked p promised)) n promised (decided now.met group n) h k

    acts_own : (now : Now) (o : Operation) → IsOwnNow now → OperationOwn s.cluster.schema o → Leads (acts s now o)
    acts_own now o h k = acts_by o.id o.began o.visited o.message now o.request o.phase h (record { about = k.about; phase = k.phase })

    -- until it rests
    rests_own : (most : ℕ) (next : Next) → Leads next → IsOwnNow (rests_within most s next)
    rests_own most (Rests now) h = h
    rests_own zero (ActsAgain now o) h = keeps_own now o h.0 h.1
    rests_own (suc most) (ActsAgain now o) h = rests_own most (acts s now o) (acts_own now o h.0 h.1)

    pub goes_own : (now : Now) (o : Operation) → IsOwnNow now → OperationOwn s.cluster.schema o → IsOwnNow (goes_on s now o)
    goes_own now o h k = rests_own (length (groups_of now.met) + 2) (ActsAgain now o) (h, k)

    -- ---- an operation begins

    read_begun_own : (now : Now) (o : Operation) (request : ReadRequest) (mode : Mode) → IsOwnNow now → IsOf o.request request.group → Leads (read_begins s now o request mode)
    read_begun_own now o request Current h of = begins_read_own now o request.group None [] h of
    read_begun_own now o request Snapshot h of = ends_own now o.id _ h
    read_begun_own now o request Inconsistent h of = ends_own now o.id _ h

    local_begun_own : (now : Now) (o : Operation) (request : FindRequest) (group : GroupId) (mode : Mode) → IsOwnNow now → IsOf o.request group → Leads (local_find_begins s now o request group mode)
    local_begun_own now o request group Current h of = begins_read_own now o group None [] h of
    local_begun_own now o request group Snapshot h of = ends_own now o.id _ h
    local_begun_own now o request group Inconsistent h of = ends_own now o.id _ h

    find_begun_own : (now : Now) (o : Operation) (request : FindRequest) (group : Option GroupId) → IsOwnNow now → ((found : GroupId) → group ≡ Some found → IsOf o.request found) → Leads (find_begins s now o request group)
    find_begun_own now o request None h of = ends_own now o.id _ h
    find_begun_own now o request (Some group) h of = local_begun_own now o request group request.mode h (of group refl)

    module _ (id : OpId) (began : ℕ) (visited : List GroupId) (message : Option Enter) (phase : Phase) where
      abbrev new : Request → Operation
      new request = record { id = id; request = request; began = began; visited = visited; message = message; phase = phase }

      first_by : (now : Now) (request : Request) → IsOwnNow now → Leads (acts_first s now (new request))
      first_by now (Txn transaction) h = begins_read_own now (new (Txn transaction)) transaction.group None [] h refl
      first_by now (Batch group transactions) h = begins_read_own now (new (Batch group transactions)) group None [] h refl
      first_by now (Read request) h = read_begun_own now (new (Read request)) request request.mode h refl
      first_by now (Find request) h = find_begun_own now (new (Find request)) request request.group h (λ group is. is)
      first_by now PumpEnter h = picks_enter now (new PumpEnter) [] h (λ g. tt)
      first_by now PumpHandle h = picks_handle now (new PumpHandle) [] h (λ g. tt)
      first_by now Refresh h = ends_own now id _ h

    pub begun_or_refused : (now : Now) (o : Operation) (refusal : Option Answer) → IsOwnNow now → IsOwnNow (unless_refused s now o refusal)
    begun_or_refused now o None h = rests_own (length (groups_of now.met) + 2) (acts_first s now o) (first_by o.id o.began o.visited o.message o.phase now o.request h)
    begun_or_refused now o (Some answer) h = ends_own now o.id answer h
