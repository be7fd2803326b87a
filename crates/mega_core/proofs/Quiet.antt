-- Operations that act answer no refresh: what they answer leaves the marks that a find on a global index shows.
use Rattle.std.proofs.Common.{◌≡◌, ℕ, zero, suc, ◌+◌, nat_le, Bool, true, false, cond, ◌&&◌, List, [], ◌∷◌, ◌++◌, flat_map, take, length, fold, Option, Some, None, Result, Ok, Err, refl, ap}
use Rattle.std.specs.List.{list_all, list_any}
use Rattle.std.specs.Result.{is_ok}
use Rattle.mega_base.specs.declared.names.Epoch.{Epoch}
use Rattle.mega_base.specs.declared.names.GroupId.{GroupId}
use Rattle.mega_base.specs.declared.names.OpId.{OpId}
use Rattle.mega_base.specs.declared.values.NodeKind.{NodeKind}
use Rattle.mega_coordinator.specs.declared.answers.NotValid.{NotValid}
use Rattle.mega_entry.specs.declared.content.Content.{Content}
use Rattle.mega_entry.specs.declared.content.Enter.{Enter}
use Rattle.mega_schema.specs.declared.schema.Index.{Index}
use Rattle.mega_schema.specs.declared.schema.Schema.{Schema}
use Rattle.mega_handler.specs.Named.{has}
use Rattle.mega_index.specs.declared.found.Found.{Found}
use Rattle.mega_index.specs.Finding.{found_in}
use Rattle.mega_index.specs.Fits.{numbered}
use Rattle.mega_index.specs.Rows.{Listed, Rows}
use Rattle.mega_outcome.specs.declared.answer.Answer.{Answer}
use Rattle.mega_outcome.specs.declared.answer.Answer.TheVariants.{Busy, Conflict, Refreshed, Worn}
use Rattle.mega_outcome.specs.declared.answer.Batch.{Batch}
use Rattle.mega_outcome.specs.declared.answer.Done.{Done}
use Rattle.mega_outcome.specs.declared.answer.Mark.{Mark}
use Rattle.mega_outcome.specs.declared.answer.Shown.{Shown}
use Rattle.mega_outcome.specs.declared.answer.Turn.{Turn as Turned}
use Rattle.mega_outcome.specs.declared.request.FindRequest.{FindRequest}
use Rattle.mega_outcome.specs.declared.request.Mode.{Mode}
use Rattle.mega_outcome.specs.declared.request.Mode.TheVariants.{Current, Snapshot, Inconsistent}
use Rattle.mega_outcome.specs.declared.request.ReadRequest.{ReadRequest}
use Rattle.mega_outcome.specs.declared.request.Request.{Request}
use Rattle.mega_outcome.specs.declared.request.Request.TheVariants.{Txn, Batch as BatchRequest, Read as ReadRequested, Find, PumpEnter, PumpHandle, Refresh}
use Rattle.mega_outcome.specs.declared.transaction.RowRef.{RowRef}
use Rattle.mega_outcome.specs.Outcome.{batch_outcome, entry_of_batch, entry_of_done, outcome}
use Rattle.mega_outcome.specs.Reads.{read_rows}
use Rattle.mega_propose.specs.Rounds.{asks}
use Rattle.mega_read.specs.declared.reading.Reading.{Reading}
use Rattle.mega_read.specs.declared.reading.Stage.{Stage}
use Rattle.mega_read.specs.declared.reading.Stage.TheVariants.{Polling, Catching}
use Rattle.mega_read.specs.Catching.{asked_by, site}
use Rattle.mega_wal.specs.Same.{same_op, same_option}
use Rattle.mega_rules.specs.Clock.{clock_of}
use Rattle.mega_rules.specs.Finding.{find_answer, find_by, global_found, group_bytes, group_marks, local_found, refreshed_marks, rows_through}
use Rattle.mega_rules.specs.Logs.{decided, groups_of, log_of, prefix_of}
use Rattle.mega_rules.specs.Coordinators.{refused_at}
use Rattle.mega_rules.specs.Met.{Met, Answers}
use Rattle.mega_rules.specs.Queues.{Posted, enter_entry, is_named, names_entered, next_to_enter, next_to_handle, oldest_unhandled}
use Rattle.mega_rules.specs.Members.{kind_of}
use Rattle.mega_rules.specs.Operations.{Node, Now, Operation, Phase, Promised, Proposes, Reads, Replies, Results, Setting}
use Rattle.mega_rules.specs.Acting.{ActsAgain, Next, Rests, acts, applied_logs, applied_marks, batch_sealed, begins_read, committed, completes_read, ends, enters, finishes, goes_on, handles, handling, in_phase, leader_after, listed_at, picks_group, picks_message, proposes, proposes_by, read_answer, reader_of, reads_on, rests_within, rows_answer, rows_at, sealed, sends_more, table_rows, unless_decided, unless_full, validated_by, validates, verdict}
use Rattle.mega_rules.specs.Steps.{Heard, acts_first, acts_in_turn, all_act, applied_position, begins, does_due, find_begins, is_out, is_worn, last_answer, local_find_begins, missing_kind, onto, read_begins, refusal, snapshot_listed, stored_listed, ticked, unless_missing, unless_refused}
use Rattle.mega_actions.specs.of_answers.Indexing.{marks_then}
use Rattle.mega_node_events.specs.Beginning.{marks_unless}
use Rattle.mega_core.specs.Unshown.{is_plain, is_refresh, is_refused_plainly, is_unshown}
use Rattle.mega_core.proofs.Unshown.{marks_after}

-- ---- answers that are none of a refresh

abbrev pub Quiet : Now → Type 0
Quiet now = list_all is_unshown now.answers ≡ true

all_push : (xs : List Met) (x : Met) → list_all is_unshown xs ≡ true → is_unshown x ≡ true → list_all is_unshown (xs ++ x ∷ []) ≡ true
all_push [] x all one = ap (λ (b : Bool). b && true) one
all_push (y ∷ xs) x all one = by (is_unshown y) (λ more. all_push xs x more one) all
  where
    by : (b : Bool) → (list_all is_unshown xs ≡ true → list_all is_unshown (xs ++ x ∷ []) ≡ true) → (b && list_all is_unshown xs) ≡ true → (b && list_all is_unshown (xs ++ x ∷ [])) ≡ true
    by true rest more = rest more
    by false rest more = more

ends_it : (now : Now) (op : OpId) (answer : Answer) → is_plain answer ≡ true → Quiet now → Quiet (ends now op answer)
ends_it now op answer plain h = all_push now.answers (Answers op answer) h plain

committed_plain : (n : ℕ) (promised : Promised) → is_plain (committed n promised) ≡ true
committed_plain n (Replies replies) = refl
committed_plain n (Results results) = refl

verdict_plain : (op : OpId) (n : ℕ) (promised : Promised) (entry : Content) → is_plain (verdict op n promised entry) ≡ true
verdict_plain op n promised entry = by (same_option same_op entry.id (Some op))
  where
    by : (b : Bool) → is_plain (cond b (committed n promised) (Conflict (record { 0 = n }) entry.id)) ≡ true
    by true = committed_plain n promised
    by false = refl

rows_plain : (p : ℕ) (result : Result (List (Option Shown)) Turned) → is_plain (rows_answer p result) ≡ true
rows_plain p (Ok rows) = refl
rows_plain p (Err turn) = refl

read_plain : (s : Setting) (group : GroupId) (mode : Mode) (refs : List RowRef) (p : ℕ) (rows : Rows) (listed : Listed) → is_plain (read_answer s (record { mode = mode; group = group; rows = refs }) p rows listed) ≡ true
read_plain s group mode [] p rows listed = refl
read_plain s group mode (row ∷ more) p rows listed = rows_plain p (read_rows s.cluster.schema group (row ∷ more) rows)

find_plain : (marks : List Mark) (found : Result (List Found) ℕ) → is_plain (find_answer marks found) ≡ true
find_plain marks (Ok found) = refl
find_plain marks (Err place) = refl

by_plain : (schema : Schema) (request : FindRequest) (marks : List Mark) (group : List ℕ) (listed : Listed) (o : Option Index) → is_plain (find_by schema request marks group listed o) ≡ true
by_plain schema request marks group listed None = refl
by_plain schema request marks group listed (Some index) = find_plain marks (found_in schema request.index index group request.values listed)

local_plain : (schema : Schema) (request : FindRequest) (p : ℕ) (listed : Listed) → is_plain (local_found schema request p listed) ≡ true
local_plain schema request p listed = by_plain schema request (group_marks request.group p) (group_bytes request.group) listed (numbered schema.indexes request.index)

global_plain : (schema : Schema) (met : List Met) (request : FindRequest) → is_plain (global_found schema met request) ≡ true
global_plain schema met request = by_plain schema request (refreshed_marks met) [] (flat_map (rows_through met) (refreshed_marks met)) (numbered schema.indexes request.index)

last_plain : (o : Operation) (phase : Phase) → is_plain (last_answer (in_phase o phase)) ≡ true
last_plain o (Reads group r) = refl
last_plain o (Proposes group n asked p promised) = refl

-- ---- what operations do

-- what an operation comes to stays so, whether it acts again or not
abbrev Leads : Next → Type 0
Leads (Rests now) = Quiet now
Leads (ActsAgain now o) = Quiet now

module _ (s : Setting) where
  either : (t : Bool) (one other : Now) → Quiet one → Quiet other → Quiet (cond t one other)
  either true one other h k = h
  either false one other h k = k

  either_next : (t : Bool) (one other : Next) → Leads one → Leads other → Leads (cond t one other)
  either_next true one other h k = h
  either_next false one other h k = k

  begins_read_it : (now : Now) (o : Operation) (group : GroupId) (message : Option Enter) (asked : List ℕ) → Quiet now → Leads (begins_read s now o group message asked)
  begins_read_it now o group message asked h = h

  picks_message_it : (now : Now) (o : Operation) (asked : List ℕ) (one : Option Posted) → Quiet now → Leads (picks_message s now o asked one)
  picks_message_it now o asked None h = ends_it now o.id _ refl h
  picks_message_it now o asked (Some one) h = begins_read_it now o one.to (Some one.message) asked h

  picks_group_it : (now : Now) (o : Operation) (asked : List ℕ) (one : Option GroupId) → Quiet now → Leads (picks_group s now o asked one)
  picks_group_it now o asked None h = ends_it now o.id _ refl h
  picks_group_it now o asked (Some group) h = begins_read_it now o group None asked h

  unless_decided_it : (now : Now) (o : Operation) (n : ℕ) (promised : Promised) (d : Option Content) → Quiet now → Quiet (unless_decided now o n promised d)
  unless_decided_it now o n promised None h = h
  unless_decided_it now o n promised (Some entry) h = ends_it now o.id (verdict o.id n promised entry) (verdict_plain o.id n promised entry) h

  proposes_by_it : (now : Now) (o : Operation) (group : GroupId) (r : Reading) (p : ℕ) (own : Content) (promised : Promised) (leader : Option ℕ) → Quiet now → Quiet (proposes_by s now o group r p own promised leader)
  proposes_by_it now o group r p own promised None h = h
  proposes_by_it now o group r p own promised (Some leader) h =
      unless_decided_it (sends_more now (asks (site (reader_of s o.id group) (asked_by r) (p + 1)) leader own (clock_of now.met)).sends)
      (in_phase o (Proposes group (p + 1) (asked_by r) (asks (site (reader_of s o.id group) (asked_by r) (p + 1)) leader own (clock_of now.met)).proposal promised))
      (p + 1) promised (decided now.met group (p + 1)) h

  proposes_it : (now : Now) (o : Operation) (group : GroupId) (r : Reading) (p : ℕ) (own : Content) (promised : Promised) → Quiet now → Quiet (proposes s now o group r p own promised)
  proposes_it now o group r p own promised h = proposes_by_it now o group r p own promised (leader_after s now group p) h

  validated_it : (now : Now) (group : GroupId) (p : ℕ) (refused : Option NotValid) → Quiet now → Quiet (validated_by now group p refused)
  validated_it now group p None h = h
  validated_it now group p (Some refused) h = h

  validates_it : (now : Now) (group : GroupId) (p : ℕ) (noted : Option Epoch) → Quiet now → Quiet (validates s now group p noted)
  validates_it now group p None h = h
  validates_it now group p (Some noted) h = validated_it now group p (refused_at s.cluster now.met group p noted) h

  completes_read_it : (now : Now) (group : GroupId) (r : Reading) (p : ℕ) → Quiet now → Quiet (completes_read s now group r p)
  completes_read_it now group r p h = validates_it _ group p r.noted h

  sealed_it : (now : Now) (o : Operation) (group : GroupId) (r : Reading) (p : ℕ) (result : Result Done Turned) → Quiet now → Quiet (sealed s now o group r p result)
  sealed_it now o group r p (Err turn) h = ends_it now o.id _ refl h
  sealed_it now o group r p (Ok done) h = proposes_it now o group r p (entry_of_done o.id done) (Replies done.replies) h

  batch_sealed_it : (now : Now) (o : Operation) (group : GroupId) (r : Reading) (p : ℕ) (b : Batch) → Quiet now → Quiet (batch_sealed s now o group r p b)
  batch_sealed_it now o group r p b h = either (list_any is_ok b.results) _ _ (proposes_it now o group r p (entry_of_batch o.id b) (Results b.results) h) (ends_it now o.id _ refl h)

  enters_it : (now : Now) (o : Operation) (group : GroupId) (r : Reading) (p : ℕ) (message : Option Enter) → Quiet now → Leads (enters s now o group r p message)
  enters_it now o group r p None h = picks_message_it now o (asked_by r) (next_to_enter o.id (applied_logs now)) h
  enters_it now o group r p (Some message) h = either_next (is_named message.name (names_entered (take p (log_of now.met group)))) _ _
      (picks_message_it now o (asked_by r) (next_to_enter o.id (applied_logs now)) h) (proposes_it now o group r p (enter_entry o.id message) (Replies []) h)

  handles_it : (now : Now) (o : Operation) (group : GroupId) (r : Reading) (p : ℕ) (message : Option Enter) → Quiet now → Leads (handles s now o group r p message)
  handles_it now o group r p None h = picks_group_it now o (asked_by r) (next_to_handle (applied_logs now)) h
  handles_it now o group r p (Some message) h = either_next (has s.handlers message.queue) _ _
      (proposes_it now o group r p (handling s o.id group message (table_rows s.cluster.schema group (listed_at now group p))) (Replies []) h) (ends_it now o.id _ refl h)

  unless_full_it : (now : Now) (o : Operation) (p : ℕ) (next : Next) → Quiet now → Leads next → Leads (unless_full s now o p next)
  unless_full_it now o p next h k = either_next (nat_le (s.cluster.limit).0 p) _ next (ends_it now o.id _ refl h) k

  module _ (id : OpId) (began : ℕ) (visited : List GroupId) (message : Option Enter) where
    abbrev one : Request → Phase → Operation
    one request phase = record { id = id; request = request; began = began; visited = visited; message = message; phase = phase }

    finishes_by : (now : Now) (request : Request) (phase : Phase) (group : GroupId) (r : Reading) (p : ℕ) → Quiet now → Leads (finishes s now (one request phase) group r p)
    finishes_by now (Txn transaction) phase group r p h =
        unless_full_it now (one (Txn transaction) phase) p _ h (sealed_it now (one (Txn transaction) phase) group r p (outcome s.cluster.schema transaction (rows_at now group p)) h)
    finishes_by now (BatchRequest own transactions) phase group r p h =
        unless_full_it now (one (BatchRequest own transactions) phase) p _ h (batch_sealed_it now (one (BatchRequest own transactions) phase) group r p (batch_outcome s.cluster.schema own transactions (rows_at now group p)) h)
    finishes_by now (ReadRequested request) phase group r p h =
        ends_it now id (read_answer s request p (rows_at now group p) (listed_at now group p)) (read_plain s request.group request.mode request.rows p (rows_at now group p) (listed_at now group p)) h
    finishes_by now (Find request) phase group r p h = ends_it now id _ (local_plain s.cluster.schema request p (listed_at now group p)) h
    finishes_by now PumpEnter phase group r p h = unless_full_it now (one PumpEnter phase) p _ h (enters_it now (one PumpEnter phase) group r p message h)
    finishes_by now PumpHandle phase group r p h = unless_full_it now (one PumpHandle phase) p _ h (handles_it now (one PumpHandle phase) group r p (oldest_unhandled (take p (log_of now.met group))) h)
    finishes_by now Refresh phase group r p h = h

  finishes_it : (now : Now) (o : Operation) (group : GroupId) (r : Reading) (p : ℕ) → Quiet now → Leads (finishes s now o group r p)
  finishes_it now o group r p h = finishes_by o.id o.began o.visited o.message now o.request o.phase group r p h

  reads_on_by : (now : Now) (o : Operation) (group : GroupId) (noted : Option Epoch) (asked : List ℕ) (stage : Stage) → Quiet now → Leads (reads_on s now o group (record { noted = noted; asked = asked; stage = stage }))
  reads_on_by now o group noted asked (Polling heard best at) h = h
  reads_on_by now o group noted asked (Catching p search) h = either_next (nat_le p (prefix_of now.met group)) _ _
      (finishes_it (completes_read s now group (record { noted = noted; asked = asked; stage = Catching p search }) p) o group (record { noted = noted; asked = asked; stage = Catching p search }) p
      (completes_read_it now group (record { noted = noted; asked = asked; stage = Catching p search }) p h))
      h

  acts_by : (now : Now) (id : OpId) (request : Request) (began : ℕ) (visited : List GroupId) (message : Option Enter) (phase : Phase) → Quiet now
      → Leads (acts s now (record { id = id; request = request; began = began; visited = visited; message = message; phase = phase }))
  acts_by now id request began visited message (Reads group r) h =
      reads_on_by now (record { id = id; request = request; began = began; visited = visited; message = message; phase = Reads group r }) group r.noted r.asked r.stage h
  acts_by now id request began visited message (Proposes group n asked proposal promised) h =
      unless_decided_it now (record { id = id; request = request; began = began; visited = visited; message = message; phase = Proposes group n asked proposal promised }) n promised (decided now.met group n) h

  -- until it rests
  rests_within_it : (most : ℕ) (next : Next) → Leads next → Quiet (rests_within most s next)
  rests_within_it most (Rests now) h = h
  rests_within_it zero (ActsAgain now o) h = h
  rests_within_it (suc most) (ActsAgain now o) h = rests_within_it most (acts s now o) (acts_by now o.id o.request o.began o.visited o.message o.phase h)

  goes_on_it : (now : Now) (o : Operation) → Quiet now → Quiet (goes_on s now o)
  goes_on_it now o h = rests_within_it (length (groups_of now.met) + 2) (ActsAgain now o) h

  -- one after another, and at a tick
  pub all_act_it : (ts : List Heard) (now : Now) → Quiet now → Quiet (all_act s now ts)
  all_act_it [] now h = h
  all_act_it (t ∷ ts) now h = all_act_it ts (acts_in_turn s now t) (goes_on_it (sends_more now t.sends) t.operation h)

  pub all_ticked_it : (clock : ℕ) (os : List Operation) (now : Now) → Quiet now → Quiet (fold (ticked s clock) now os)
  all_ticked_it clock [] now h = h
  all_ticked_it clock (o ∷ os) now h =
      all_ticked_it clock os (ticked s clock now o)
      (either (is_out s clock o) _ _ (ends_it now o.id (last_answer o) (last_plain o o.phase) h) (goes_on_it (sends_more now (does_due s clock o).sends) (does_due s clock o).operation h))

  -- an operation that begins, and is no refresh
  read_begins_it : (now : Now) (o : Operation) (request : ReadRequest) (mode : Mode) → Quiet now → Leads (read_begins s now o request mode)
  read_begins_it now o request Current h = begins_read_it now o request.group None [] h
  read_begins_it now o request Snapshot h = ends_it now o.id _ (read_plain s request.group request.mode request.rows _ _ _) h
  read_begins_it now o request Inconsistent h = ends_it now o.id _ (read_plain s request.group request.mode request.rows _ _ _) h

  local_find_it : (now : Now) (o : Operation) (request : FindRequest) (group : GroupId) (mode : Mode) → Quiet now → Leads (local_find_begins s now o request group mode)
  local_find_it now o request group Current h = begins_read_it now o group None [] h
  local_find_it now o request group Snapshot h = ends_it now o.id _ (local_plain s.cluster.schema request (applied_position now group) (snapshot_listed now group)) h
  local_find_it now o request group Inconsistent h = ends_it now o.id _ (local_plain s.cluster.schema request (applied_position now group) (stored_listed now group)) h

  find_begins_it : (now : Now) (o : Operation) (request : FindRequest) (group : Option GroupId) → Quiet now → Leads (find_begins s now o request group)
  find_begins_it now o request None h = ends_it now o.id _ (global_plain s.cluster.schema now.met request) h
  find_begins_it now o request (Some group) h = local_find_it now o request group request.mode h

  module _ (id : OpId) (began : ℕ) (visited : List GroupId) (message : Option Enter) (phase : Phase) where
    first_by : (now : Now) (request : Request) → is_refresh request ≡ false → Quiet now → Leads (acts_first s now (one id began visited message request phase))
    first_by now (Txn transaction) other h = begins_read_it now (one id began visited message (Txn transaction) phase) transaction.group None [] h
    first_by now (BatchRequest group transactions) other h = begins_read_it now (one id began visited message (BatchRequest group transactions) phase) group None [] h
    first_by now (ReadRequested request) other h = read_begins_it now (one id began visited message (ReadRequested request) phase) request request.mode h
    first_by now (Find request) other h = find_begins_it now (one id began visited message (Find request) phase) request request.group h
    first_by now PumpEnter other h = picks_message_it now (one id began visited message PumpEnter phase) [] (next_to_enter id (applied_logs now)) h
    first_by now PumpHandle other h = picks_group_it now (one id began visited message PumpHandle phase) [] (next_to_handle (applied_logs now)) h
    first_by now Refresh other h = absurd (cc)

  -- ---- the marks that an operation leaves as it begins: a refresh those that are applied, and any other those that were
  module _ (id : OpId) (began : ℕ) (visited : List GroupId) (message : Option Enter) (phase : Phase) where
    quiet_marks : (now : Now) (request : Request) → now.answers ≡ [] → is_refresh request ≡ false → refreshed_marks (onto (begins s now (one id began visited message request phase)).answers now.met) ≡ refreshed_marks now.met
    quiet_marks now request none other = marks_after (begins s now (one id began visited message request phase)).answers now.met (rests_within_it (length (groups_of now.met) + 2) (acts_first s now (one id began visited message request phase)) (first_by id began visited message phase now request other (ap (list_all is_unshown) none)))

    marks_by : (now : Now) (request : Request) → now.answers ≡ [] → refreshed_marks (onto (begins s now (one id began visited message request phase)).answers now.met) ≡ marks_then now request
    marks_by now (Txn transaction) none = quiet_marks now (Txn transaction) none refl
    marks_by now (BatchRequest group transactions) none = quiet_marks now (BatchRequest group transactions) none refl
    marks_by now (ReadRequested request) none = quiet_marks now (ReadRequested request) none refl
    marks_by now (Find request) none = quiet_marks now (Find request) none refl
    marks_by now PumpEnter none = quiet_marks now PumpEnter none refl
    marks_by now PumpHandle none = quiet_marks now PumpHandle none refl
    marks_by now Refresh none = ap (λ (answers : List Met). refreshed_marks (onto (answers ++ Answers id (Refreshed (applied_marks now)) ∷ []) now.met)) none

  pub begun_marks : (now : Now) (o : Operation) (refused : Option Answer) → is_refused_plainly refused ≡ true → now.answers ≡ []
      → refreshed_marks (onto (unless_refused s now o refused).answers now.met) ≡ marks_unless now o.request refused
  begun_marks now o None plain none = marks_by o.id o.began o.visited o.message o.phase now o.request none
  begun_marks now o (Some answer) plain none = marks_after (now.answers ++ Answers o.id answer ∷ []) now.met (all_push now.answers (Answers o.id answer) (ap (list_all is_unshown) none) plain)

  missing_plain : (open_ones : List Operation) (kind : Option NodeKind) → is_refused_plainly (unless_missing open_ones kind) ≡ true
  missing_plain open_ones (Some kind) = refl
  missing_plain open_ones None = by (nat_le 64 (length open_ones))
    where
      by : (b : Bool) → is_refused_plainly (cond b (Some (Busy 64)) None) ≡ true
      by true = refl
      by false = refl

  pub refusal_plain : (node : Node) (request : Request) → is_refused_plainly (refusal s node request) ≡ true
  refusal_plain node request = by (is_worn node.met)
    where
      by : (b : Bool) → is_refused_plainly (cond b (Some Worn) (unless_missing node.open_operations (missing_kind request (kind_of s.cluster s.me)))) ≡ true
      by true = refl
      by false = missing_plain node.open_operations (missing_kind request (kind_of s.cluster s.me))
