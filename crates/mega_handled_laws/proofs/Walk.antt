-- A walk through what operations do in a step: what holds of a node within the step through all of it, where each entry that one makes of its own is told.
use Rattle.std.proofs.Common.{◌≡◌, inl, inr, ℕ, zero, suc, ◌+◌, ◌≤◌, nat_le, Bool, true, false, cond, List, [], ◌∷◌, take, length, fold, Option, Some, None, Result, Ok, Err, refl, arith}
use Rattle.std.proofs.lemmas.Bool.Decides.{nat_tests}
use Rattle.std.specs.List.{list_any}
use Rattle.std.specs.Result.{is_ok}
use Rattle.mega_base.specs.declared.names.Epoch.{Epoch}
use Rattle.mega_base.specs.declared.names.GroupId.{GroupId}
use Rattle.mega_base.specs.declared.names.OpId.{OpId}
use Rattle.mega_coordinator.specs.declared.answers.NotValid.{NotValid}
use Rattle.mega_entry.specs.declared.content.Content.{Content}
use Rattle.mega_entry.specs.declared.content.Enter.{Enter}
use Rattle.mega_wire.specs.declared.message.Message.{Message}
use Rattle.mega_handler.specs.Named.{has}
use Rattle.mega_outcome.specs.declared.answer.Answer.{Answer}
use Rattle.mega_outcome.specs.declared.answer.Batch.{Batch}
use Rattle.mega_outcome.specs.declared.answer.Done.{Done}
use Rattle.mega_outcome.specs.declared.answer.Turn.{Turn as Turned}
use Rattle.mega_outcome.specs.declared.request.FindRequest.{FindRequest}
use Rattle.mega_outcome.specs.declared.request.Mode.{Mode}
use Rattle.mega_outcome.specs.declared.request.Mode.TheVariants.{Current, Snapshot, Inconsistent}
use Rattle.mega_outcome.specs.declared.request.ReadRequest.{ReadRequest}
use Rattle.mega_outcome.specs.declared.request.Request.{Request}
use Rattle.mega_outcome.specs.declared.request.Request.TheVariants.{Txn, Batch as BatchRequest, Read as ReadRequested, Find, PumpEnter, PumpHandle, Refresh}
use Rattle.mega_outcome.specs.Outcome.{batch_outcome, entry_of_batch, entry_of_done, outcome}
use Rattle.mega_run_laws.specs.of_rules.of_read.of_propose.Rounds.{asks}
use Rattle.mega_run_laws.specs.of_rules.of_read.declared.reading.Reading.{Reading}
use Rattle.mega_run_laws.specs.of_rules.of_read.declared.reading.Stage.{Stage}
use Rattle.mega_run_laws.specs.of_rules.of_read.declared.reading.Stage.TheVariants.{Polling, Catching}
use Rattle.mega_run_laws.specs.of_rules.of_read.Catching.{asked_by, seeks, site}
use Rattle.mega_run_laws.specs.of_rules.of_replica.Applying.{after_read}
use Rattle.mega_run_laws.specs.of_rules.Clock.{clock_of}
use Rattle.mega_run_laws.specs.of_rules.Coordinators.{refused_at}
use Rattle.mega_run_laws.specs.of_rules.Logs.{decided, groups_of, log_of, prefix_of}
use Rattle.mega_run_laws.specs.of_rules.Met.{Validates}
use Rattle.mega_run_laws.specs.of_rules.Queues.{Posted, enter_entry, is_named, names_entered, next_to_enter, next_to_handle, oldest_unhandled}
use Rattle.mega_run_laws.specs.of_rules.Operations.{Now, Operation, Phase, Promised, Proposes, Reads, Replies, Results, Setting}
use Rattle.mega_run_laws.specs.of_rules.Acting.{ActsAgain, Next, Rests, acts, applied_logs, batch_sealed, begins_read, completes_read, ends, enters, finishes, goes_on, handles, handling, keeps, leader_after, listed_at, picks_group, picks_message, proposes, proposes_by, read_begun, reader_of, reads_on, rests_within, rows_at, sealed, sends_more, stored_with, table_rows, unless_decided, unless_full, validated_by, validates}
use Rattle.mega_run_laws.specs.of_rules.Steps.{Heard, acts_first, acts_in_turn, all_act, does_due, find_begins, is_out, local_find_begins, read_begins, ticked, unless_refused}
use Rattle.mega_run_laws.specs.Justified.{Each}
use Rattle.mega_run_laws.proofs.Prefixes.{prefix_more}
use Rattle.mega_run_laws.proofs.Turns.{each_on}
use Rattle.mega_handled_laws.proofs.Made.{IsMade}
use Rattle.mega_handled_laws.proofs.Quiet.{AreQuiet, Quiet, begun_quiet, seeks_quiet}

-- what an operation makes of its own over a log through a position
abbrev pub Makes : Setting → Now → OpId → GroupId → ℕ → Content → Type 0
Makes s now op group p own = IsMade s.cluster s.handlers (log_of now.met group) op group (p + 1) own

-- a fact of a node within a step that nothing which its operations do can break
pub record Lasts (s : Setting) (On : OpId → Type 0) (A : Message → Type 0) (P : Now → Type 0) : Type 0 where
  pub quiet : (m : Message) → Quiet m → A m
  pub keeps_it : (now : Now) (o : Operation) → P now → P (keeps now o)
  pub ends_it : (now : Now) (op : OpId) (answer : Answer) → P now → P (ends now op answer)
  pub sends_it : (now : Now) (ms : List Message) → Each A ms → P now → P (sends_more now ms)
  pub asks_it : (now : Now) (op : OpId) (group : GroupId) (asked : List ℕ) (p leader : ℕ) (own : Content) → On op → Makes s now op group p own → P now
      → P (sends_more now (asks (site (reader_of s op group) asked (p + 1)) leader own (clock_of now.met)).sends)
  pub stores_it : (now : Now) (stored : GroupId → ℕ) → P now → P (record { met = now.met; stored = stored; kept = now.kept; valid = now.valid; answers = now.answers; sends = now.sends })
  pub validates_it : (now : Now) (group : GroupId) (p : ℕ) (refusal : Option NotValid) → P now → P (validated_by now group p refusal)

le_is : (a b : ℕ) → nat_le a b ≡ true → a ≤ b
le_is a b is = grind (arith, nat_tests)

-- a read that is complete leaves the logs
completed : (s : Setting) (now : Now) (group : GroupId) (p : ℕ) (noted : Option Epoch) → p ≤ prefix_of now.met group → p ≤ prefix_of (validates s now group p noted).met group
completed s now group p None le = le
completed s now group p (Some epoch) le = by (refused_at s.cluster now.met group p epoch)
  where
    by : (refusal : Option NotValid) → p ≤ prefix_of (validated_by now group p refusal).met group
    by (Some why) = le
    by None = let more = prefix_more (Validates group p) now.met group in omega (arith, le, more)

module _ (s : Setting) (On : OpId → Type 0) (A : Message → Type 0) (P : Now → Type 0) (l : Lasts s On A P) where
  -- what an operation comes to keeps it, whether it acts again or not
  abbrev Leads : Next → Type 0
  Leads (Rests now) = P now
  Leads (ActsAgain now o) = On o.id × P now

  either : (t : Bool) (one other : Now) → P one → P other → P (cond t one other)
  either true one other h k = h
  either false one other h k = k

  either_next : (t : Bool) (one other : Next) → Leads one → Leads other → Leads (cond t one other)
  either_next true one other h k = h
  either_next false one other h k = k

  either_so : (t : Bool) (one other : Next) → (t ≡ true → Leads one) → Leads other → Leads (cond t one other)
  either_so true one other h k = h refl
  either_so false one other h k = k

  quiet_it : (now : Now) (ms : List Message) → AreQuiet ms → P now → P (sends_more now ms)
  quiet_it now ms quiet h = l.sends_it now ms (each_on Quiet A l.quiet ms quiet) h

  unless_decided_it : (now : Now) (o : Operation) (n : ℕ) (promised : Promised) (d : Option Content) → P now → P (unless_decided now o n promised d)
  unless_decided_it now o n promised None h = l.keeps_it now o h
  unless_decided_it now o n promised (Some entry) h = l.ends_it now o.id _ h

  proposes_by_it : (now : Now) (o : Operation) (group : GroupId) (r : Reading) (p : ℕ) (own : Content) (promised : Promised) (leader : Option ℕ) → On o.id → Makes s now o.id group p own → P now → P (proposes_by s now o group r p own promised leader)
  proposes_by_it now o group r p own promised None on made h = l.keeps_it now o h
  proposes_by_it now o group r p own promised (Some leader) on made h = unless_decided_it _ _ (p + 1) promised (decided now.met group (p + 1)) (l.asks_it now o.id group (asked_by r) p leader own on made h)

  proposes_it : (now : Now) (o : Operation) (group : GroupId) (r : Reading) (p : ℕ) (own : Content) (promised : Promised) → On o.id → Makes s now o.id group p own → P now → P (proposes s now o group r p own promised)
  proposes_it now o group r p own promised on made h = proposes_by_it now o group r p own promised (leader_after s now group p) on made h

  validates_fact : (now : Now) (group : GroupId) (p : ℕ) (noted : Option Epoch) → P now → P (validates s now group p noted)
  validates_fact now group p None h = h
  validates_fact now group p (Some noted) h = l.validates_it now group p (refused_at s.cluster now.met group p noted) h

  sealed_it : (now : Now) (o : Operation) (group : GroupId) (r : Reading) (p : ℕ) (result : Result Done Turned) → On o.id → P now → P (sealed s now o group r p result)
  sealed_it now o group r p (Err turn) on h = l.ends_it now o.id _ h
  sealed_it now o group r p (Ok done) on h = proposes_it now o group r p (entry_of_done o.id done) (Replies done.replies) on (inl refl) h

  batch_it : (now : Now) (o : Operation) (group : GroupId) (r : Reading) (p : ℕ) (b : Batch) → On o.id → P now → P (batch_sealed s now o group r p b)
  batch_it now o group r p b on h = either (list_any is_ok b.results) _ _ (proposes_it now o group r p (entry_of_batch o.id b) (Results b.results) on (inl refl) h) (l.ends_it now o.id _ h)

  full_it : (now : Now) (o : Operation) (p : ℕ) (next : Next) → P now → Leads next → Leads (unless_full s now o p next)
  full_it now o p next h k = either_next (nat_le (s.cluster.limit).0 p) _ next (l.ends_it now o.id _ h) k

  begins_read_it : (now : Now) (o : Operation) (group : GroupId) (message : Option Enter) (asked : List ℕ) → On o.id → P now → Leads (begins_read s now o group message asked)
  begins_read_it now o group message asked on h = (on, quiet_it now (read_begun s now o group asked).sends (begun_quiet s now o group asked) h)

  picks_message_it : (now : Now) (o : Operation) (asked : List ℕ) (one : Option Posted) → On o.id → P now → Leads (picks_message s now o asked one)
  picks_message_it now o asked None on h = l.ends_it now o.id _ h
  picks_message_it now o asked (Some one) on h = begins_read_it now o one.to (Some one.message) asked on h

  picks_group_it : (now : Now) (o : Operation) (asked : List ℕ) (one : Option GroupId) → On o.id → P now → Leads (picks_group s now o asked one)
  picks_group_it now o asked None on h = l.ends_it now o.id _ h
  picks_group_it now o asked (Some group) on h = begins_read_it now o group None asked on h

  enters_it : (now : Now) (o : Operation) (group : GroupId) (r : Reading) (p : ℕ) (message : Option Enter) → On o.id → P now → Leads (enters s now o group r p message)
  enters_it now o group r p None on h = picks_message_it now o (asked_by r) (next_to_enter o.id (applied_logs now)) on h
  enters_it now o group r p (Some message) on h = either_next (is_named message.name (names_entered (take p (log_of now.met group)))) _ _
      (picks_message_it now o (asked_by r) (next_to_enter o.id (applied_logs now)) on h) (proposes_it now o group r p (enter_entry o.id message) (Replies []) on (inl refl) h)

  handles_it : (now : Now) (o : Operation) (group : GroupId) (r : Reading) (p : ℕ) (message : Option Enter) → oldest_unhandled (take p (log_of now.met group)) ≡ message → p ≤ prefix_of now.met group → On o.id → P now → Leads (handles s now o group r p message)
  handles_it now o group r p None oldest le on h = picks_group_it now o (asked_by r) (next_to_handle (applied_logs now)) on h
  handles_it now o group r p (Some message) oldest le on h = either_next (has s.handlers message.queue) _ _
      (proposes_it now o group r p (handling s o.id group message (table_rows s.cluster.schema group (listed_at now group p))) (Replies []) on
      (inr (record { message = message; below = p; reaches = refl; within = le; oldest = oldest; is = refl })) h)
      (l.ends_it now o.id _ h)

  module _ (id : OpId) (began : ℕ) (visited : List GroupId) (message : Option Enter) (on : On id) where
    abbrev one : Request → Phase → Operation
    one request phase = record { id = id; request = request; began = began; visited = visited; message = message; phase = phase }

    finishes_it : (now : Now) (request : Request) (phase : Phase) (group : GroupId) (r : Reading) (p : ℕ) → p ≤ prefix_of now.met group → P now → Leads (finishes s now (one request phase) group r p)
    finishes_it now (Txn transaction) phase group r p le h = full_it now (one (Txn transaction) phase) p _ h (sealed_it now (one (Txn transaction) phase) group r p (outcome s.cluster.schema transaction (rows_at now group p)) on h)
    finishes_it now (BatchRequest own transactions) phase group r p le h = full_it now (one (BatchRequest own transactions) phase) p _ h (batch_it now (one (BatchRequest own transactions) phase) group r p (batch_outcome s.cluster.schema own transactions (rows_at now group p)) on h)
    finishes_it now (ReadRequested request) phase group r p le h = l.ends_it now id _ h
    finishes_it now (Find request) phase group r p le h = l.ends_it now id _ h
    finishes_it now PumpEnter phase group r p le h = full_it now (one PumpEnter phase) p _ h (enters_it now (one PumpEnter phase) group r p message on h)
    finishes_it now PumpHandle phase group r p le h = full_it now (one PumpHandle phase) p _ h (handles_it now (one PumpHandle phase) group r p (oldest_unhandled (take p (log_of now.met group))) refl le on h)
    finishes_it now Refresh phase group r p le h = l.keeps_it now (one Refresh phase) h

    reads_on_it : (now : Now) (request : Request) (phase : Phase) (group : GroupId) (noted : Option Epoch) (asked : List ℕ) (stage : Stage) → P now
        → Leads (reads_on s now (one request phase) group (record { noted = noted; asked = asked; stage = stage }))
    reads_on_it now request phase group noted asked (Polling heard best at) h = l.keeps_it now (one request phase) h
    reads_on_it now request phase group noted asked (Catching p search) h = either_so (nat_le p (prefix_of now.met group)) _ _
        (λ has_all. finishes_it (completes_read s now group r p) request phase group r p
        (completed s filled group p noted (le_is p (prefix_of now.met group) has_all)) (validates_fact filled group p noted (l.stores_it now (filled.stored) h)))
        (l.keeps_it _ _ (quiet_it now (seeks (reader_of s id group) r (prefix_of now.met group + 1) (clock_of now.met)).sends (seeks_quiet (reader_of s id group) r (prefix_of now.met group + 1) (clock_of now.met)) h))
      where
        r : Reading
        r = record { noted = noted; asked = asked; stage = Catching p search }

        filled : Now
        filled = record now { stored = stored_with now.stored group (after_read p (log_of now.met group) (now.stored group)) }

    acts_by : (now : Now) (request : Request) (phase : Phase) → P now → Leads (acts s now (one request phase))
    acts_by now request (Reads group r) h = reads_on_it now request (Reads group r) group r.noted r.asked r.stage h
    acts_by now request (Proposes group n asked proposal promised) h = unless_decided_it now (one request (Proposes group n asked proposal promised)) n promised (decided now.met group n) h

  acts_it : (now : Now) (o : Operation) → On o.id → P now → Leads (acts s now o)
  acts_it now o on h = acts_by o.id o.began o.visited o.message on now o.request o.phase h

  -- until it rests
  rests_within_it : (most : ℕ) (next : Next) → Leads next → P (rests_within most s next)
  rests_within_it most (Rests now) h = h
  rests_within_it zero (ActsAgain now o) h = l.keeps_it now o h.1
  rests_within_it (suc most) (ActsAgain now o) h = rests_within_it most (acts s now o) (acts_it now o h.0 h.1)

  goes_on_it : (now : Now) (o : Operation) → On o.id → P now → P (goes_on s now o)
  goes_on_it now o on h = rests_within_it (length (groups_of now.met) + 2) (ActsAgain now o) (on, h)

  -- ---- the operations of a step

  abbrev pub Heeds : Heard → Type 0
  Heeds t = On (t.operation).id × Each A t.sends

  pub all_act_it : (ts : List Heard) (now : Now) → Each Heeds ts → P now → P (all_act s now ts)
  all_act_it [] now each h = h
  all_act_it (t ∷ ts) now each h = all_act_it ts (acts_in_turn s now t) each.1 (goes_on_it (sends_more now t.sends) t.operation (each.0).0 (l.sends_it now t.sends (each.0).1 h))

  pub ticked_it : (clock : ℕ) (os : List Operation) (now : Now) → Each (λ (o : Operation). Heeds (does_due s clock o)) os → P now → P (fold (ticked s clock) now os)
  ticked_it clock [] now each h = h
  ticked_it clock (o ∷ os) now each h = ticked_it clock os (ticked s clock now o) each.1
      (either (is_out s clock o) _ _ (l.ends_it now o.id _ h)
      (goes_on_it (sends_more now (does_due s clock o).sends) (does_due s clock o).operation (each.0).0 (l.sends_it now (does_due s clock o).sends (each.0).1 h)))

  -- ---- an operation that begins

  read_begins_it : (now : Now) (o : Operation) (request : ReadRequest) (mode : Mode) → On o.id → P now → Leads (read_begins s now o request mode)
  read_begins_it now o request Current on h = begins_read_it now o request.group None [] on h
  read_begins_it now o request Snapshot on h = l.ends_it now o.id _ h
  read_begins_it now o request Inconsistent on h = l.ends_it now o.id _ h

  local_find_it : (now : Now) (o : Operation) (request : FindRequest) (group : GroupId) (mode : Mode) → On o.id → P now → Leads (local_find_begins s now o request group mode)
  local_find_it now o request group Current on h = begins_read_it now o group None [] on h
  local_find_it now o request group Snapshot on h = l.ends_it now o.id _ h
  local_find_it now o request group Inconsistent on h = l.ends_it now o.id _ h

  find_begins_it : (now : Now) (o : Operation) (request : FindRequest) (group : Option GroupId) → On o.id → P now → Leads (find_begins s now o request group)
  find_begins_it now o request None on h = l.ends_it now o.id _ h
  find_begins_it now o request (Some group) on h = local_find_it now o request group request.mode on h

  module _ (id : OpId) (began : ℕ) (visited : List GroupId) (message : Option Enter) (phase : Phase) (on : On id) where
    abbrev new : Request → Operation
    new request = record { id = id; request = request; began = began; visited = visited; message = message; phase = phase }

    first_it : (now : Now) (request : Request) → P now → Leads (acts_first s now (new request))
    first_it now (Txn transaction) h = begins_read_it now (new (Txn transaction)) transaction.group None [] on h
    first_it now (BatchRequest group transactions) h = begins_read_it now (new (BatchRequest group transactions)) group None [] on h
    first_it now (ReadRequested request) h = read_begins_it now (new (ReadRequested request)) request request.mode on h
    first_it now (Find request) h = find_begins_it now (new (Find request)) request request.group on h
    first_it now PumpEnter h = picks_message_it now (new PumpEnter) [] (next_to_enter id (applied_logs now)) on h
    first_it now PumpHandle h = picks_group_it now (new PumpHandle) [] (next_to_handle (applied_logs now)) on h
    first_it now Refresh h = l.ends_it now id _ h

  pub begun_it : (now : Now) (o : Operation) (refusal : Option Answer) → On o.id → P now → P (unless_refused s now o refusal)
  begun_it now o None on h = rests_within_it (length (groups_of now.met) + 2) (acts_first s now o) (first_it o.id o.began o.visited o.message o.phase on now o.request h)
  begun_it now o (Some answer) on h = l.ends_it now o.id answer h
