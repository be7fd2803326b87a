-- One walk through what operations of given groups do as they act in a step, for any fact of the node that they cannot break.
use Rattle.std.proofs.Common.{◌≡◌, ◌≤◌, ℕ, zero, suc, ◌+◌, nat_le, Bool, true, false, cond, List, [], ◌∷◌, take, length, fold, Option, Some, None, Result, Ok, Err, refl, ap, arith}
use Rattle.std.specs.Prelude.{is_some}
use Rattle.std.specs.List.{All, list_any}
use Rattle.std.specs.Result.{is_ok}
use Rattle.std.proofs.lemmas.List.Elements.{All-head, All-tail}
use Rattle.mega_base.specs.declared.names.Epoch.{Epoch}
use Rattle.mega_base.specs.declared.names.GroupId.{GroupId}
use Rattle.mega_base.specs.declared.names.OpId.{OpId}
use Rattle.mega_coordinator.specs.declared.answers.NotValid.{NotValid}
use Rattle.mega_entry.specs.declared.content.Content.{Content}
use Rattle.mega_entry.specs.declared.content.Enter.{Enter}
use Rattle.mega_wire.specs.declared.message.Message.{Message}
use Rattle.mega_outcome.specs.declared.answer.Answer.{Answer}
use Rattle.mega_outcome.specs.declared.answer.Batch.{Batch}
use Rattle.mega_outcome.specs.declared.answer.Done.{Done}
use Rattle.mega_outcome.specs.declared.answer.Turn.{Turn as Turned}
use Rattle.mega_outcome.specs.declared.request.FindRequest.{FindRequest}
use Rattle.mega_outcome.specs.declared.request.Mode.{Mode}
use Rattle.mega_outcome.specs.declared.request.Mode.TheVariants.{Current, Snapshot, Inconsistent}
use Rattle.mega_outcome.specs.declared.request.ReadRequest.{ReadRequest}
use Rattle.mega_outcome.specs.declared.request.Request.{Request}
use Rattle.mega_outcome.specs.declared.request.Request.TheVariants.{Txn, Batch as BatchRequest, Read as ReadRequested, Find, PumpEnter, PumpHandle, Refresh}
use Rattle.mega_outcome.specs.Outcome.{batch_outcome, entry_of_batch, entry_of_done, outcome}
use Rattle.mega_propose.specs.Rounds.{asks}
use Rattle.mega_read.specs.declared.reading.Reading.{Reading}
use Rattle.mega_read.specs.declared.reading.Stage.{Stage}
use Rattle.mega_read.specs.declared.reading.Stage.TheVariants.{Polling, Catching}
use Rattle.mega_read.specs.Catching.{asked_by, site, seeks, through_of}
use Rattle.mega_replica.specs.Applying.{after_read}
use Rattle.mega_rules.specs.Clock.{clock_of}
use Rattle.mega_rules.specs.Logs.{decided, groups_of, log_of, prefix_of}
use Rattle.mega_rules.specs.Coordinators.{refused_at}
use Rattle.mega_handler.specs.Named.{has as has_handler}
use Rattle.mega_rules.specs.Queues.{Posted, enter_entry, is_named, names_entered, next_to_enter, next_to_handle, oldest_unhandled}
use Rattle.mega_rules.specs.Operations.{Now, Operation, Phase, Promised, Proposes, Reads, Replies, Results, Setting}
use Rattle.mega_rules.specs.Acting.{ActsAgain, Next, Rests, acts, applied_logs, batch_sealed, begins_read, completes_read, ends, enters, finishes, goes_on, handles, handling, in_phase, keeps, leader_after, listed_at, picks_group, picks_message, proposes, proposes_by, read_begun, reader_of, reads_on, rests_within, rows_at, sealed, sends_more, stored_with, table_rows, unless_decided, unless_full, validated_by, validates}
use Rattle.mega_rules.specs.Steps.{Heard, acts_first, acts_in_turn, all_act, does_due, find_begins, is_out, local_find_begins, read_begins, ticked, unless_refused}
use Rattle.mega_actions.specs.of_node_laws.About.{group_in}
use Rattle.mega_actions.specs.of_step_work.Servable.{is_served, is_open, is_pump}
use Rattle.mega_actions.specs.Turns.{IsServable, IsServableHeard}
use Rattle.mega_step_parts.specs.Touching.{asked_groups, named, reaches, reaches_in}

-- a fact of a node within a step that nothing can break which served operations do in such groups, of which they store no less than before
pub record Walks (P : Now → Type 0) (Mine : GroupId → Type 0) : Type 0 where
  pub keeps_it : (now : Now) (o : Operation) → IsServable o → P now → P (keeps now o)
  pub ends_it : (now : Now) (op : OpId) (answer : Answer) → P now → P (ends now op answer)
  pub sends_it : (now : Now) (sends : List Message) → P now → P (sends_more now sends)
  pub stores_it : (now : Now) (group : GroupId) (count : ℕ) → now.stored group ≤ count → Mine group → P now
      → P (record { met = now.met; stored = stored_with now.stored group count; kept = now.kept; valid = now.valid; answers = now.answers; sends = now.sends })
  pub validates_it : (now : Now) (group : GroupId) (p : ℕ) (refusal : Option NotValid) → P now → P (validated_by now group p refusal)

-- a pump may act in any group
abbrev pub Roams : (GroupId → Type 0) → Request → Type 0
Roams Mine request = is_pump request ≡ true → (group : GroupId) → Mine group

-- an operation stands in such a group
abbrev pub IsOf : (GroupId → Type 0) → Operation → Type 0
IsOf Mine o = Mine (group_in o.phase) × Roams Mine o.request

-- one that may complete its read acts in such a group
abbrev pub IsIn : (GroupId → Type 0) → Operation → Type 0
IsIn Mine o = reaches o ≡ true → Mine (group_in o.phase) × Roams Mine o.request

abbrev pub IsHeardIn : (GroupId → Type 0) → Heard → Type 0
IsHeardIn Mine t = IsIn Mine t.operation

-- a read stores no less
read_more : (p : ℕ) (log : List Content) (count : ℕ) → count ≤ after_read p log count
read_more p log count = omega arith

module _ (P : Now → Type 0) (Mine : GroupId → Type 0) (w : Walks P Mine) (s : Setting) where
  -- what an operation comes to; one that acts again is served, in such a group
  abbrev Leads : Next → Type 0
  Leads (Rests now) = P now
  Leads (ActsAgain now o) = IsServable o × IsIn Mine o × P now

  either : (t : Bool) (one other : Now) → P one → P other → P (cond t one other)
  either true one other h k = h
  either false one other h k = k

  either_next : (t : Bool) (one other : Next) → Leads one → Leads other → Leads (cond t one other)
  either_next true one other h k = h
  either_next false one other h k = k

  unless_decided_walked : (now : Now) (o : Operation) (n : ℕ) (promised : Promised) (d : Option Content) → IsServable o → P now → P (unless_decided now o n promised d)
  unless_decided_walked now o n promised None is h = w.keeps_it now o is h
  unless_decided_walked now o n promised (Some entry) is h = w.ends_it now o.id _ h

  proposes_by_walked : (now : Now) (o : Operation) (group : GroupId) (r : Reading) (p : ℕ) (own : Content) (promised : Promised) (leader : Option ℕ) → IsServable o → P now → P (proposes_by s now o group r p own promised leader)
  proposes_by_walked now o group r p own promised None is h = w.keeps_it now o is h
  proposes_by_walked now o group r p own promised (Some leader) is h =
      unless_decided_walked (sends_more now (asks (site (reader_of s o.id group) (asked_by r) (p + 1)) leader own (clock_of now.met)).sends)
      (in_phase o (Proposes group (p + 1) (asked_by r) (asks (site (reader_of s o.id group) (asked_by r) (p + 1)) leader own (clock_of now.met)).proposal promised))
      (p + 1) promised (decided now.met group (p + 1)) is (w.sends_it now _ h)

  proposes_walked : (now : Now) (o : Operation) (group : GroupId) (r : Reading) (p : ℕ) (own : Content) (promised : Promised) → IsServable o → P now → P (proposes s now o group r p own promised)
  proposes_walked now o group r p own promised is h = proposes_by_walked now o group r p own promised (leader_after s now group p) is h

  validates_walked : (now : Now) (group : GroupId) (p : ℕ) (noted : Option Epoch) → P now → P (validates s now group p noted)
  validates_walked now group p None h = h
  validates_walked now group p (Some noted) h = w.validates_it now group p (refused_at s.cluster now.met group p noted) h

  completes_walked : (now : Now) (group : GroupId) (r : Reading) (p : ℕ) → Mine group → P now → P (completes_read s now group r p)
  completes_walked now group r p mine h =
      validates_walked (record { met = now.met; stored = stored_with now.stored group (after_read p (log_of now.met group) (now.stored group)); kept = now.kept; valid = now.valid; answers = now.answers; sends = now.sends }) group p r.noted
      (w.stores_it now group (after_read p (log_of now.met group) (now.stored group)) (read_more p (log_of now.met group) (now.stored group)) mine h)

  sealed_walked : (now : Now) (o : Operation) (group : GroupId) (r : Reading) (p : ℕ) (result : Result Done Turned) → IsServable o → P now → P (sealed s now o group r p result)
  sealed_walked now o group r p (Err turn) is h = w.ends_it now o.id _ h
  sealed_walked now o group r p (Ok done) is h = proposes_walked now o group r p (entry_of_done o.id done) (Replies done.replies) is h

  batch_walked : (now : Now) (o : Operation) (group : GroupId) (r : Reading) (p : ℕ) (b : Batch) → IsServable o → P now → P (batch_sealed s now o group r p b)
  batch_walked now o group r p b is h = either (list_any is_ok b.results) _ _ (proposes_walked now o group r p (entry_of_batch o.id b) (Results b.results) is h) (w.ends_it now o.id _ h)

  unless_full_walked : (now : Now) (o : Operation) (p : ℕ) (next : Next) → P now → Leads next → Leads (unless_full s now o p next)
  unless_full_walked now o p next h k = either_next (nat_le (s.cluster.limit).0 p) _ next (w.ends_it now o.id _ h) k

  -- a pump reads what it picks
  reads_walked : (now : Now) (o : Operation) (group : GroupId) (message : Option Enter) (asked : List ℕ) → IsServable o → Mine group → Roams Mine o.request → P now → Leads (begins_read s now o group message asked)
  reads_walked now o group message asked is mine roams h =
      (is, (λ reached. (mine, roams)), w.sends_it now (read_begun s now o group asked).sends h)

  message_walked : (now : Now) (o : Operation) (asked : List ℕ) (picked : Option Posted) → IsServable o → is_pump o.request ≡ true → Roams Mine o.request → P now → Leads (picks_message s now o asked picked)
  message_walked now o asked None is pump roams h = w.ends_it now o.id _ h
  message_walked now o asked (Some posted) is pump roams h = reads_walked now o posted.to (Some posted.message) asked is (roams pump posted.to) roams h

  group_walked : (now : Now) (o : Operation) (asked : List ℕ) (picked : Option GroupId) → IsServable o → is_pump o.request ≡ true → Roams Mine o.request → P now → Leads (picks_group s now o asked picked)
  group_walked now o asked None is pump roams h = w.ends_it now o.id _ h
  group_walked now o asked (Some group) is pump roams h = reads_walked now o group None asked is (roams pump group) roams h

  enters_walked : (now : Now) (o : Operation) (group : GroupId) (r : Reading) (p : ℕ) (message : Option Enter) → IsServable o → is_pump o.request ≡ true → Roams Mine o.request → P now → Leads (enters s now o group r p message)
  enters_walked now o group r p None is pump roams h = message_walked now o (asked_by r) (next_to_enter o.id (applied_logs now)) is pump roams h
  enters_walked now o group r p (Some message) is pump roams h = either_next (is_named message.name (names_entered (take p (log_of now.met group)))) _ _
      (message_walked now o (asked_by r) (next_to_enter o.id (applied_logs now)) is pump roams h) (proposes_walked now o group r p (enter_entry o.id message) (Replies []) is h)

  handles_walked : (now : Now) (o : Operation) (group : GroupId) (r : Reading) (p : ℕ) (message : Option Enter) → IsServable o → is_pump o.request ≡ true → Roams Mine o.request → P now → Leads (handles s now o group r p message)
  handles_walked now o group r p None is pump roams h = group_walked now o (asked_by r) (next_to_handle (applied_logs now)) is pump roams h
  handles_walked now o group r p (Some message) is pump roams h = either_next (has_handler s.handlers message.queue) _ _
      (proposes_walked now o group r p (handling s o.id group message (table_rows s.cluster.schema group (listed_at now group p))) (Replies []) is h) (w.ends_it now o.id _ h)

  module _ (id : OpId) (began : ℕ) (visited : List GroupId) (message : Option Enter) where
    abbrev one : Request → Phase → Operation
    one request phase = record { id = id; request = request; began = began; visited = visited; message = message; phase = phase }

    finishes_by : (now : Now) (request : Request) (phase : Phase) (group : GroupId) (r : Reading) (p : ℕ) → is_open request ≡ true → Roams Mine request → P now → Leads (finishes s now (one request phase) group r p)
    finishes_by now (Txn transaction) phase group r p is roams h =
        unless_full_walked now (one (Txn transaction) phase) p _ h (sealed_walked now (one (Txn transaction) phase) group r p (outcome s.cluster.schema transaction (rows_at now group p)) is h)
    finishes_by now (BatchRequest own transactions) phase group r p is roams h =
        unless_full_walked now (one (BatchRequest own transactions) phase) p _ h (batch_walked now (one (BatchRequest own transactions) phase) group r p (batch_outcome s.cluster.schema own transactions (rows_at now group p)) is h)
    finishes_by now (ReadRequested request) phase group r p is roams h = w.ends_it now id _ h
    finishes_by now (Find request) phase group r p is roams h = w.ends_it now id _ h
    finishes_by now PumpEnter phase group r p is roams h = unless_full_walked now (one PumpEnter phase) p _ h (enters_walked now (one PumpEnter phase) group r p message is refl roams h)
    finishes_by now PumpHandle phase group r p is roams h = unless_full_walked now (one PumpHandle phase) p _ h (handles_walked now (one PumpHandle phase) group r p (oldest_unhandled (take p (log_of now.met group))) is refl roams h)
    finishes_by now Refresh phase group r p is roams h = w.keeps_it now (one Refresh phase) is h

  finishes_walked : (now : Now) (o : Operation) (group : GroupId) (r : Reading) (p : ℕ) → IsServable o → Roams Mine o.request → P now → Leads (finishes s now o group r p)
  finishes_walked now o group r p is roams h = finishes_by o.id o.began o.visited o.message now o.request o.phase group r p is roams h

  reads_on_by : (now : Now) (o : Operation) (group : GroupId) (noted : Option Epoch) (asked : List ℕ) (stage : Stage) → IsServable o → (is_some (through_of (record { noted = noted; asked = asked; stage = stage })) ≡ true → Mine group × Roams Mine o.request) → P now → Leads (reads_on s now o group (record { noted = noted; asked = asked; stage = stage }))
  reads_on_by now o group noted asked (Polling heard best at) is may h = w.keeps_it now o is h
  reads_on_by now o group noted asked (Catching p search) is may h = either_next (nat_le p (prefix_of now.met group)) _ _
      (finishes_walked (completes_read s now group (record { noted = noted; asked = asked; stage = Catching p search }) p) o group (record { noted = noted; asked = asked; stage = Catching p search }) p is (may refl).1
      (completes_walked now group (record { noted = noted; asked = asked; stage = Catching p search }) p (may refl).0 h))
      (w.keeps_it (sends_more now (seeks (reader_of s o.id group) (record { noted = noted; asked = asked; stage = Catching p search }) (prefix_of now.met group + 1) (clock_of now.met)).sends)
      (in_phase o (Reads group (seeks (reader_of s o.id group) (record { noted = noted; asked = asked; stage = Catching p search }) (prefix_of now.met group + 1) (clock_of now.met)).reading)) is (w.sends_it now _ h))

  acts_by : (now : Now) (id : OpId) (request : Request) (began : ℕ) (visited : List GroupId) (message : Option Enter) (phase : Phase) → is_open request ≡ true → (reaches_in phase ≡ true → Mine (group_in phase) × Roams Mine request) → P now
      → Leads (acts s now (record { id = id; request = request; began = began; visited = visited; message = message; phase = phase }))
  acts_by now id request began visited message (Reads group r) is may h =
      reads_on_by now (record { id = id; request = request; began = began; visited = visited; message = message; phase = Reads group r }) group r.noted r.asked r.stage is may h
  acts_by now id request began visited message (Proposes group n asked proposal promised) is may h =
      unless_decided_walked now (record { id = id; request = request; began = began; visited = visited; message = message; phase = Proposes group n asked proposal promised }) n promised (decided now.met group n) is h

  -- until it rests
  rests_walked : (most : ℕ) (next : Next) → Leads next → P (rests_within most s next)
  rests_walked most (Rests now) h = h
  rests_walked zero (ActsAgain now o) h = w.keeps_it now o h.0 h.2
  rests_walked (suc most) (ActsAgain now o) h = rests_walked most (acts s now o) (acts_by now o.id o.request o.began o.visited o.message o.phase h.0 h.1 h.2)

  goes_on_walked : (now : Now) (o : Operation) → IsServable o → IsIn Mine o → P now → P (goes_on s now o)
  goes_on_walked now o is mine h = rests_walked (length (groups_of now.met) + 2) (ActsAgain now o) (is, mine, h)

  pub all_walked : (ts : List Heard) (now : Now) → All IsServableHeard ts → All (IsHeardIn Mine) ts → P now → P (all_act s now ts)
  all_walked [] now each mine h = h
  all_walked (t ∷ ts) now each mine h =
      all_walked ts (acts_in_turn s now t) (All-tail IsServableHeard t ts each) (All-tail (IsHeardIn Mine) t ts mine)
      (goes_on_walked (sends_more now t.sends) t.operation (All-head IsServableHeard t ts each) (All-head (IsHeardIn Mine) t ts mine) (w.sends_it now t.sends h))

  due_built : (clock : ℕ) (o : Operation) (phase : Phase) → IsServable o
      → IsServable (does_due s clock (record { id = o.id; request = o.request; began = o.began; visited = o.visited; message = o.message; phase = phase })).operation
  due_built clock o (Reads group r) is = is
  due_built clock o (Proposes group n asked proposal promised) is = is

  due_mine : (clock : ℕ) (o : Operation) (phase : Phase) → Mine (group_in phase) × Roams Mine o.request
      → IsHeardIn Mine (does_due s clock (record { id = o.id; request = o.request; began = o.began; visited = o.visited; message = o.message; phase = phase }))
  due_mine clock o (Reads group r) mine = λ reached. mine
  due_mine clock o (Proposes group n asked proposal promised) mine = λ reached. mine

  pub all_ticked_walked : (clock : ℕ) (os : List Operation) (now : Now) → All IsServable os → All (IsOf Mine) os → P now → P (fold (ticked s clock) now os)
  all_ticked_walked clock [] now are mine h = h
  all_ticked_walked clock (o ∷ os) now are mine h =
      all_ticked_walked clock os (ticked s clock now o) (All-tail IsServable o os are) (All-tail (IsOf Mine) o os mine)
      (either (is_out s clock o) _ _ (w.ends_it now o.id _ h)
      (goes_on_walked (sends_more now (does_due s clock o).sends) (does_due s clock o).operation (due_built clock o o.phase (All-head IsServable o os are)) (due_mine clock o o.phase (All-head (IsOf Mine) o os mine)) (w.sends_it now _ h)))

  module _ (id : OpId) (began : ℕ) (visited : List GroupId) (message : Option Enter) (phase : Phase) where
    begins_read_walked : (now : Now) (request : Request) (group : GroupId) → is_open request ≡ true → Mine group → Roams Mine request → P now → Leads (begins_read s now (one id began visited message request phase) group None [])
    begins_read_walked now request group is mine roams h = reads_walked now (one id began visited message request phase) group None [] is mine roams h

    read_walked : (now : Now) (request : ReadRequest) (mode : Mode) → is_open (ReadRequested request) ≡ true → Mine request.group → P now → Leads (read_begins s now (one id began visited message (ReadRequested request) phase) request mode)
    read_walked now request Current is mine h = begins_read_walked now (ReadRequested request) request.group is mine (λ pump. absurd (cc)) h
    read_walked now request Snapshot is mine h = w.ends_it now id _ h
    read_walked now request Inconsistent is mine h = w.ends_it now id _ h

    local_find_walked : (now : Now) (request : FindRequest) (group : GroupId) (mode : Mode) → is_open (Find request) ≡ true → Mine group → P now → Leads (local_find_begins s now (one id began visited message (Find request) phase) request group mode)
    local_find_walked now request group Current is mine h = begins_read_walked now (Find request) group is mine (λ pump. absurd (cc)) h
    local_find_walked now request group Snapshot is mine h = w.ends_it now id _ h
    local_find_walked now request group Inconsistent is mine h = w.ends_it now id _ h

    find_walked : (now : Now) (request : FindRequest) (group : Option GroupId) → request.group ≡ group → All Mine (named group) → P now → Leads (find_begins s now (one id began visited message (Find request) phase) request group)
    find_walked now request None same mine h = w.ends_it now id _ h
    find_walked now request (Some group) same mine h = local_find_walked now request group request.mode (ap is_some same) (All-head Mine group [] mine) h

    first_by : (now : Now) (request : Request) → is_served request ≡ true → All Mine (asked_groups request) → Roams Mine request → P now → Leads (acts_first s now (one id began visited message request phase))
    first_by now (Txn transaction) is mine roams h = begins_read_walked now (Txn transaction) transaction.group refl (All-head Mine transaction.group [] mine) roams h
    first_by now (BatchRequest group transactions) is mine roams h = begins_read_walked now (BatchRequest group transactions) group is (All-head Mine group [] mine) roams h
    first_by now (ReadRequested request) is mine roams h = read_walked now request request.mode refl (All-head Mine request.group [] mine) h
    first_by now (Find request) is mine roams h = find_walked now request request.group refl mine h
    first_by now PumpEnter is mine roams h = message_walked now (one id began visited message PumpEnter phase) [] (next_to_enter id (applied_logs now)) is refl roams h
    first_by now PumpHandle is mine roams h = group_walked now (one id began visited message PumpHandle phase) [] (next_to_handle (applied_logs now)) is refl roams h
    first_by now Refresh is mine roams h = w.ends_it now id _ h

  pub begun_walked : (now : Now) (o : Operation) (refusal : Option Answer) → (refusal ≡ None → is_served o.request ≡ true) → All Mine (asked_groups o.request) → Roams Mine o.request → P now → P (unless_refused s now o refusal)
  begun_walked now o None is mine roams h = rests_walked (length (groups_of now.met) + 2) (acts_first s now o) (first_by o.id o.began o.visited o.message o.phase now o.request (is refl) mine roams h)
  begun_walked now o (Some answer) is mine roams h = w.ends_it now o.id answer h
