-- One step of a node: what it notes and sends for a tick, a message that it takes, or a request that begins, and what it is then.
use Rattle.std.specs.Prelude.{ℕ, ◌+◌, ◌-◌, ◌==◌, ◌&&◌, Bool, true, false, if◌then◌else◌, nat_le, nat_lt, List, [], ◌∷◌, ◌++◌, length, map, flat_map, fold, Option, Some, None, is_none, is_some, option_map, option_and_then}
use Rattle.std.specs.Option.{option_or}
use Rattle.mega_base.specs.declared.names.GroupId.{GroupId}
use Rattle.mega_base.specs.declared.names.OpId.{OpId}
use Rattle.mega_base.specs.declared.values.NodeKind.{NodeKind}
use Rattle.mega_base.specs.declared.values.NodeKind.TheVariants.{Witness, Read as ReadOnly}
pub use Rattle.mega_base.specs.ListWords.{onto}
use Rattle.mega_cluster.specs.declared.cluster.Cluster.{Cluster}
use Rattle.mega_entry.specs.declared.content.Content.{Content}
use Rattle.mega_read.specs.of_wire.declared.message.Message.{Message}
use Rattle.mega_read.specs.of_wire.declared.message.Body.{Body}
use Rattle.mega_read.specs.of_wire.declared.message.Body.TheVariants.{Acquire, Decide, Fetch, Granted, Have, Invalidate}
use Rattle.mega_outcome.specs.declared.answer.Answer.{Answer}
use Rattle.mega_outcome.specs.declared.answer.Answer.TheVariants.{Busy, NotHere, Refreshed, TimedOut, Unknown, Worn}
use Rattle.mega_outcome.specs.declared.request.Mode.{Mode}
use Rattle.mega_outcome.specs.declared.request.Mode.TheVariants.{Current, Snapshot, Inconsistent}
use Rattle.mega_outcome.specs.declared.request.Request.{Request}
use Rattle.mega_outcome.specs.declared.request.Request.TheVariants.{Txn, Batch, Read, Find, PumpEnter, PumpHandle, Refresh}
use Rattle.mega_outcome.specs.declared.request.ReadRequest.{ReadRequest}
use Rattle.mega_outcome.specs.declared.request.FindRequest.{FindRequest}
use Rattle.mega_replica.specs.of_index.Rows.{Listed, Rows, list_written, no_rows, written}
use Rattle.mega_replica.specs.of_wal.Same.{same_group}
use Rattle.mega_read.specs.of_propose.Members.{others}
use Rattle.mega_read.specs.of_propose.declared.round.Proposal.{Proposal}
use Rattle.mega_read.specs.of_propose.declared.round.Move.{Move as RoundMove}
use Rattle.mega_read.specs.of_propose.Rounds.{due, settled, takes}
use Rattle.mega_read.specs.declared.reading.Reading.{Reading}
use Rattle.mega_read.specs.declared.reading.Move.{Move as ReadMove}
use Rattle.mega_read.specs.Catching.{first_reading, hears, falls_due, read_settled, site}
use Rattle.mega_replica.specs.Applying.{after_portion, applied, stored_writes, writes_of}
use Rattle.mega_rules.specs.Met.{Met, Answers, Applies, Begins, Crashes, Decides, Grants, Invalidates, Lapses, Sends, Starts, Takes, Ticks}
use Rattle.mega_rules.specs.Members.{has_rows, is_full, is_voter, keeps_rows, kind_of, nodes, runs, voters}
use Rattle.mega_rules.specs.Clock.{begun_of, clock_of, does_again, last_number, next_number, start_of, ticks_of}
use Rattle.mega_rules.specs.Logs.{decided, groups_of, log_of, newest_of, prefix_of}
use Rattle.mega_rules.specs.Locks.{asked_for, grant_note, lapses_at}
use Rattle.mega_rules.specs.Coordinators.{acquires_at, grant_notes, tick_notes}
use Rattle.mega_rules.specs.Replies.{reply_to}
use Rattle.mega_rules.specs.Operations.{Node, Now, Operation, Promised, Proposes, Reads, Setting}
use Rattle.mega_rules.specs.Acting.{Next, Rests, applied_marks, begins_read, ends, goes_on, in_phase, keeps, listed_at, picks_to_enter, picks_to_handle, read_answer, reader_of, rests_within, rows_at, sends_more, stored_with}
use Rattle.mega_rules.specs.Finding.{global_found, local_found}

-- what happens at a node
pub data Event : Type 0 where
  Tick : (now : ℕ) → Event
  Take : (message : Message) → Event
  Begin : (request : Request) (text : List ℕ) → Event

-- a step: what it notes behind the event's own item, what it sends, and the node then
pub record Step : Type 0 where
  pub notes : List Met
  pub sends : List Message
  pub node : Node

-- what a message tells the cell and the coordinator of its receiver

abbrev pub told_notes : Setting → List Met → ℕ → Body → List Met
told_notes s met from (Acquire cell epoch clock) =
    if cell == s.me && nat_le s.me s.cluster.cells then grant_note from epoch (asked_for s.cluster s.me met from epoch) else []
told_notes s met from (Granted cell epoch clock) =
    if is_full s.cluster s.me && nat_le cell s.cluster.cells then grant_notes s.cluster met cell epoch clock else []
told_notes s met from (Invalidate op group position) = if is_full s.cluster s.me then Invalidates group position.0 ∷ [] else []
told_notes s met from _ = []

-- an open operation in a step: what it has come to, and what it sends for that
pub record Heard : Type 0 where
  pub operation : Operation
  pub sends : List Message

abbrev pub read_heard : Operation → GroupId → ReadMove → Heard
read_heard o group t = record { operation = in_phase o (Reads group t.reading); sends = t.sends }

abbrev pub round_heard : Operation → GroupId → ℕ → List ℕ → Promised → RoundMove → Heard
round_heard o group n asked promised t = record { operation = in_phase o (Proposes group n asked t.proposal promised); sends = t.sends }

-- each open operation hears a message
abbrev pub hears_message : Setting → ℕ → Message → Operation → Heard
hears_message s now m o = elim o.phase [
  | Reads group r ↦ read_heard o group (hears (reader_of s o.id group) r m.from now m.body)
  | Proposes group n asked p promised ↦ round_heard o group n asked promised (takes (site (reader_of s o.id group) asked n) p m.from now m.body)
]

-- each open operation does what is due at a tick
abbrev pub does_due : Setting → ℕ → Operation → Heard
does_due s now o = elim o.phase [
  | Reads group r ↦ read_heard o group (falls_due (reader_of s o.id group) r s.cluster.retry now)
  | Proposes group n asked p promised ↦ round_heard o group n asked promised (due (site (reader_of s o.id group) asked n) p s.cluster.retry now)
]

-- a decision at a position of a group
pub record Decision : Type 0 where
  pub group : GroupId
  pub position : ℕ
  pub entry : Content

-- the entry that an operation settled in this step
abbrev pub decision_at : GroupId → ℕ → Option Content → Option Decision
decision_at group n entry = option_map (λ (entry : Content). record { group = group; position = n; entry = entry }) entry

abbrev pub read_decision : GroupId → Option (ℕ × Content) → Option Decision
read_decision group found = option_map (λ (found : ℕ × Content). record { group = group; position = found.0; entry = found.1 }) found

abbrev pub settled_by : Operation → Option Decision
settled_by o =
    elim o.phase [ Reads group r ↦ read_decision group (read_settled r) | Proposes group n asked p promised ↦ decision_at group n (settled p) ]

abbrev pub first_settled : List Heard → Option Decision
first_settled [] = None
first_settled (t ∷ ts) = option_or (settled_by t.operation) (first_settled ts)

-- what a message tells of a decision by itself
abbrev pub told_decision : Body → Option Decision
told_decision (Decide group position entry) = Some (record { group = group; position = position.0; entry = entry })
told_decision (Have op group position entry) = Some (record { group = group; position = position.0; entry = entry })
told_decision _ = None

-- a decision counts where its node had not decided the position
abbrev pub if_new : List Met → Option Decision → Option Decision
if_new met d = option_and_then (λ (d : Decision). if is_none (decided met d.group d.position) then Some d else None) d

abbrev pub decision_note : Option Decision → List Met
decision_note None = []
decision_note (Some d) = Decides d.group d.position d.entry ∷ []

-- a settled entry is told to all other nodes
abbrev pub decide_to : ℕ → Decision → ℕ → Message
decide_to me d to = record { from = me; to = to; body = Decide d.group (record { 0 = d.position }) d.entry }

abbrev pub news : Setting → Option Decision → List Message
news s None = []
news s (Some d) = map (decide_to s.me d) (others s.me (nodes s.cluster))

-- how far a node has stored a group once a portion of it is stored; a witness stores nothing
abbrev pub portion_of : Setting → List Met → (GroupId → ℕ) → GroupId → ℕ
portion_of s met stored group = if has_rows s.cluster s.me then after_portion s.cluster.apply (log_of met group) (stored group) else 0

abbrev pub stored_after : Setting → List Met → (GroupId → ℕ) → Option Decision → GroupId → ℕ
stored_after s met stored None group = stored group
stored_after s met stored (Some d) group = if same_group d.group group then portion_of s met stored group else stored group

-- the groups of which more entries are applied than before, in order
abbrev pub applied_at : List Met → (GroupId → ℕ) → GroupId → ℕ
applied_at met stored group = applied (log_of met group) (stored group)

abbrev pub apply_note : List Met → (GroupId → ℕ) → List Met → (GroupId → ℕ) → GroupId → List Met
apply_note was was_stored met stored group =
    if nat_lt (applied_at was was_stored group) (applied_at met stored group) then Applies group (applied_at met stored group) ∷ [] else []

abbrev pub apply_notes : Setting → List Met → (GroupId → ℕ) → List Met → (GroupId → ℕ) → List Met
apply_notes s was was_stored met stored = if has_rows s.cluster s.me then flat_map (apply_note was was_stored met stored) (groups_of met) else []

-- the operations act one after another, each on what those before it left
abbrev pub at_first : List Met → (GroupId → ℕ) → Now
at_first met stored = record { met = met; stored = stored; kept = []; valid = []; answers = []; sends = [] }

abbrev pub acts_in_turn : Setting → Now → Heard → Now
acts_in_turn s now t = goes_on s (sends_more now t.sends) t.operation

abbrev pub all_act : Setting → Now → List Heard → Now
all_act s now ts = fold (acts_in_turn s) now ts

-- a step ends: `own` is the event's own item; then the lines of coordinator and cell, of a decision or of lapses, of applying, validates
-- and answers; then what is sent
abbrev pub step_of : Node → Met → List Met → List Met → List Met → List Message → Now → Step
step_of node own locks durable applies sends now =
    record {
      notes = (((locks ++ durable) ++ applies) ++ now.valid) ++ now.answers;
      sends = sends;
      node = record {
        met = onto (map Sends sends) (onto ((((locks ++ durable) ++ applies) ++ now.valid) ++ now.answers) (own ∷ node.met));
        open_operations = now.kept;
        stored = now.stored;
      };
    }

-- a message is taken

abbrev pub taken : Setting → Node → Message → List Met → List Heard → Option Decision → List Message → List Message → Step
taken s node m told ts d reply told_news =
    let met = onto (decision_note d) (onto told (Takes m ∷ node.met)) in
    let now = all_act s (at_first met (stored_after s met node.stored d)) ts in
    step_of node (Takes m) told (decision_note d) (apply_notes s node.met node.stored now.met now.stored) ((reply ++ told_news) ++ now.sends) now

abbrev pub take_with : Setting → Node → Message → List Heard → Step
take_with s node m ts = elim (told_decision m.body) [
  | Some d ↦ taken s node m (told_notes s node.met m.from m.body) ts (if_new node.met (Some d)) (reply_to s.cluster s.me node.met m) []
  | None ↦
      taken s node m (told_notes s node.met m.from m.body) ts (if_new node.met (first_settled ts)) (reply_to s.cluster s.me node.met m)
      (news s (if_new node.met (first_settled ts)))
]

abbrev pub take_step : Setting → Node → Message → Step
take_step s node m = take_with s node m (map (hears_message s (clock_of node.met) m) node.open_operations)

-- a tick: patience first, and else what is due

abbrev pub is_out : Setting → ℕ → Operation → Bool
is_out s now o = nat_le (o.began + s.cluster.patience) now

-- whether the value of an operation was sent: its own accept is out
abbrev pub last_answer : Operation → Answer
last_answer o = elim o.phase [ Reads group r ↦ TimedOut | Proposes group n asked p promised ↦ Unknown ]

abbrev pub ticked : Setting → ℕ → Now → Operation → Now
ticked s now acc o = if is_out s now o then ends acc o.id (last_answer o) else acts_in_turn s acc (does_due s now o)

-- a full or read-only node asks the other voters for the least missing position below a decided one, under operation number 0
abbrev pub background_op : Setting → List Met → OpId
background_op s met = record { node = record { 0 = s.me }; start = start_of met; number = 0 }

abbrev pub fetch_to : Setting → List Met → GroupId → ℕ → Message
fetch_to s met group to = record { from = s.me; to = to; body = Fetch (background_op s met) group (record { 0 = prefix_of met group + 1 }) }

abbrev pub fetches_for : Setting → List Met → GroupId → List Message
fetches_for s met group =
    if nat_lt (prefix_of met group) (newest_of met group) then map (fetch_to s met group) (others s.me (voters s.cluster)) else []

abbrev pub background : Setting → List Met → ℕ → List Message
background s met now =
    if has_rows s.cluster s.me && does_again s.cluster.retry (ticks_of met) now then flat_map (fetches_for s met) (groups_of met) else []

abbrev pub lapse_notes : Setting → List Met → ℕ → List Met
lapse_notes s met now = if nat_le s.me s.cluster.cells then lapses_at s.cluster s.me met now else []

abbrev pub lease_notes : Setting → List Met → ℕ → List Met
lease_notes s met now = if is_full s.cluster s.me then tick_notes s.cluster met now else []

abbrev pub tick_step : Setting → Node → ℕ → Step
tick_step s node now =
    let met = onto (lapse_notes s node.met now) (onto (lease_notes s node.met now) (Ticks now ∷ node.met)) in
    let acc = fold (ticked s now) (at_first met (portion_of s node.met node.stored)) node.open_operations in
    step_of node (Ticks now) (lease_notes s node.met now) (lapse_notes s node.met now) (apply_notes s node.met node.stored acc.met acc.stored)
    ((acquires_at s.cluster s.me node.met now ++ acc.sends) ++ background s node.met now) acc

-- a request begins: it may be refused at once, answered at once, or become an open operation

-- an operation that reads nothing yet: each request gives it another phase, or ends it in this step
abbrev pub new_operation : OpId → Request → ℕ → Operation
new_operation op request now =
    record { id = op; request = request; began = now; visited = []; message = None; phase = Reads (record { key = [] }) (first_reading now) }

abbrev pub is_current : Mode → Bool
is_current Current = true
is_current _ = false

-- a node begins an operation as worn, where it cannot name any more in this start; as not here, where its kind does not serve it; as
-- busy, where 64 are open
abbrev pub is_worn : List Met → Bool
is_worn met = nat_le (last_number - 1) (begun_of met)

abbrev pub needs_full : Request → Bool
needs_full (Read request) = is_current request.mode
needs_full (Find request) = is_current request.mode
needs_full Refresh = false
needs_full _ = true

abbrev pub missing_kind : Request → Option NodeKind → Option NodeKind
missing_kind request (Some Witness) = Some Witness
missing_kind request (Some ReadOnly) = if needs_full request then Some ReadOnly else None
missing_kind request _ = None

abbrev pub unless_busy : List Operation → Option Answer
unless_busy open_ones = if nat_le 64 (length open_ones) then Some (Busy 64) else None

abbrev pub unless_missing : List Operation → Option NodeKind → Option Answer
unless_missing open_ones None = unless_busy open_ones
unless_missing open_ones (Some kind) = Some (NotHere kind)

abbrev pub refusal : Setting → Node → Request → Option Answer
refusal s node request = if is_worn node.met then Some Worn else unless_missing node.open_operations (missing_kind request (kind_of s.cluster s.me))

-- a snapshot sees the rows through the applied position, an inconsistent read all that is stored
abbrev pub applied_position : Now → GroupId → ℕ
applied_position now group = applied_at now.met now.stored group

abbrev pub snapshot_rows : Now → GroupId → Rows
snapshot_rows now group = rows_at now group (applied_position now group)

abbrev pub snapshot_listed : Now → GroupId → Listed
snapshot_listed now group = listed_at now group (applied_position now group)

abbrev pub stored_rows : Now → GroupId → Rows
stored_rows now group = written (stored_writes (log_of now.met group) (now.stored group)) no_rows

abbrev pub stored_listed : Now → GroupId → Listed
stored_listed now group = list_written (stored_writes (log_of now.met group) (now.stored group)) []

-- a read or a find by its mode
abbrev pub read_begins : Setting → Now → Operation → ReadRequest → Mode → Next
read_begins s now o request Current = begins_read s now o request.group None []
read_begins s now o request Snapshot = Rests (ends now o.id (read_answer s request (applied_position now request.group) (snapshot_rows now request.group) (snapshot_listed now request.group)))
read_begins s now o request Inconsistent = Rests (ends now o.id (read_answer s request (applied_position now request.group) (stored_rows now request.group) (stored_listed now request.group)))

abbrev pub local_find_begins : Setting → Now → Operation → FindRequest → GroupId → Mode → Next
local_find_begins s now o request group Current = begins_read s now o group None []
local_find_begins s now o request group Snapshot = Rests (ends now o.id (local_found s.cluster.schema request (applied_position now group) (snapshot_listed now group)))
local_find_begins s now o request group Inconsistent = Rests (ends now o.id (local_found s.cluster.schema request (applied_position now group) (stored_listed now group)))

abbrev pub find_begins : Setting → Now → Operation → FindRequest → Option GroupId → Next
find_begins s now o request None = Rests (ends now o.id (global_found s.cluster.schema now.met request))
find_begins s now o request (Some group) = local_find_begins s now o request group request.mode

-- what an operation does in the step in which it begins
abbrev pub acts_first : Setting → Now → Operation → Next
acts_first s now o = elim o.request [
  | Txn transaction ↦ begins_read s now o transaction.group None []
  | Batch group transactions ↦ begins_read s now o group None []
  | Read request ↦ read_begins s now o request request.mode
  | Find request ↦ find_begins s now o request request.group
  | PumpEnter ↦ picks_to_enter s now o []
  | PumpHandle ↦ picks_to_handle s now o []
  | Refresh ↦ Rests (ends now o.id (Refreshed (applied_marks now)))
]

abbrev pub begins : Setting → Now → Operation → Now
begins s now o = rests_within (length (groups_of now.met) + 2) s (acts_first s now o)

abbrev pub unless_refused : Setting → Now → Operation → Option Answer → Now
unless_refused s now o None = begins s now o
unless_refused s now o (Some answer) = ends now o.id answer

-- the operations that are open already stay as they are
abbrev pub at_open : Now → List Operation → Now
at_open now open_ones = record now { kept = open_ones }

abbrev pub op_of : Setting → List Met → OpId
op_of s met = record { node = record { 0 = s.me }; start = start_of met; number = next_number met }

abbrev pub begin_step : Setting → Node → Request → List ℕ → Step
begin_step s node request text =
    let own = Begins (op_of s node.met) text in
    let open_ones = at_open (at_first (own ∷ node.met) node.stored) node.open_operations in
    let now = unless_refused s open_ones (new_operation (op_of s node.met) request (clock_of node.met)) (refusal s node request) in
    step_of node own [] [] (apply_notes s node.met node.stored now.met now.stored) now.sends now

-- the step of a node for one event
abbrev pub step : Setting → Node → Event → Step
step s node (Tick now) = tick_step s node now
step s node (Take message) = take_step s node message
step s node (Begin request text) = begin_step s node request text

-- a start: what it finds of a step that was cut before it, and the decided prefixes, which are all applied
abbrev pub apply_all : List Met → GroupId → ℕ
apply_all met group = length (writes_of (log_of met group))

abbrev pub start_note : List Met → GroupId → List Met
start_note met group = if nat_lt 0 (prefix_of met group) then Applies group (prefix_of met group) ∷ [] else []

abbrev pub start_notes : Setting → List Met → List Met
start_notes s met = if has_rows s.cluster s.me then flat_map (start_note met) (groups_of met) else []

abbrev pub start_items : Setting → ℕ → List Met → List Met → List Met
start_items s number owed met = (Starts number ∷ owed) ++ start_notes s (onto owed (Starts number ∷ met))

abbrev pub start : Setting → ℕ → List Met → List Met → Node
start s number owed met = record {
  met = onto (start_items s number owed met) met;
  open_operations = [];
  stored = λ group. if has_rows s.cluster s.me then apply_all (onto owed met) group else 0;
}

-- a crash ends every operation
abbrev pub crashed : Node → Node
crashed node = record node { met = Crashes ∷ node.met; open_operations = [] }
