-- What an operation does once its node has heard what the step brings stays within the cluster.
use Rattle.std.proofs.Common.{ℕ, zero, suc, ◌+◌, ◌≤◌, List, [], ◌∷◌, length, Option, Some, None, Result, Ok, Err}
use Rattle.std.specs.Prelude.{nat_le, nat_lt, take}
use Rattle.std.specs.List.{list_any}
use Rattle.std.specs.Result.{is_ok}
use Rattle.mega_base.specs.declared.names.Epoch.{Epoch}
use Rattle.mega_base.specs.declared.names.GroupId.{GroupId}
use Rattle.mega_base.specs.declared.names.OpId.{OpId}
use Rattle.mega_base.specs.Codec.{IsOption}
use Rattle.mega_cluster.specs.declared.cluster.Cluster.{Cluster}
use Rattle.mega_entry.specs.declared.content.Content.{Content}
use Rattle.mega_entry.specs.declared.content.Enter.{Enter}
use Rattle.mega_entry.specs.declared.content.Name.{Name}
use Rattle.mega_entry.specs.Entries.{entry_text}
use Rattle.mega_wire.specs.declared.message.Message.{Message}
use Rattle.mega_coordinator.specs.declared.answers.NotValid.{NotValid}
use Rattle.mega_index.specs.Fitted.{most_bytes}
use Rattle.mega_handler.specs.Effects.{Effect, entry_handling, handle_entry, handled}
use Rattle.mega_handler.specs.Named.{effect_by, has, meaning}
use Rattle.mega_outcome.specs.declared.answer.Answer.{Answer}
use Rattle.mega_outcome.specs.declared.answer.Answer.TheVariants.{LogFull, Turned, AllTurned, NoHandler}
use Rattle.mega_outcome.specs.declared.answer.Batch.{Batch as BatchDone}
use Rattle.mega_outcome.specs.declared.answer.Done.{Done}
use Rattle.mega_outcome.specs.declared.answer.Turn.{Turn}
use Rattle.mega_outcome.specs.declared.request.Request.{Request}
use Rattle.mega_outcome.specs.declared.request.Request.TheVariants.{Txn, Batch, Read as ReadRequested, Find, PumpEnter, PumpHandle, Refresh}
use Rattle.mega_outcome.specs.Outcome.{batch_outcome, entry_of_batch, entry_of_done, outcome}
use Rattle.mega_format_laws.specs.of_rules.of_read.of_propose.declared.round.Move.{Move as RoundMove}
use Rattle.mega_format_laws.specs.of_rules.of_read.of_propose.Rounds.{asks}
use Rattle.mega_format_laws.specs.of_rules.of_read.declared.reading.Reading.{Reading}
use Rattle.mega_format_laws.specs.of_rules.of_read.declared.reading.Stage.{Stage}
use Rattle.mega_format_laws.specs.of_rules.of_read.declared.reading.Stage.TheVariants.{Polling, Catching}
use Rattle.mega_format_laws.specs.of_rules.of_read.declared.reading.Move.{Move as ReadMove}
use Rattle.mega_format_laws.specs.of_rules.of_read.Catching.{asked_by, local_read, polled_read, seeks, site}
use Rattle.mega_format_laws.specs.of_rules.Met.{Answers, Validates}
use Rattle.mega_format_laws.specs.of_rules.Members.{voters}
use Rattle.mega_format_laws.specs.of_rules.Clock.{clock_of}
use Rattle.mega_format_laws.specs.of_rules.Logs.{decided, groups_of, log_of, prefix_of, top_of}
use Rattle.mega_format_laws.specs.of_rules.Coordinators.{refused_at, serves_at, valid_at}
use Rattle.mega_format_laws.specs.of_rules.Queues.{Posted, enter_entry, is_named, names_entered, next_to_enter, next_to_handle, oldest_unhandled}
use Rattle.mega_format_laws.specs.of_rules.Operations.{Now, Operation, Phase, Promised, Proposes, Reads, Replies, Results, Setting}
use Rattle.mega_format_laws.specs.of_rules.Acting.{ActsAgain, Next, Rests, acts, applied_logs, batch_sealed, begins_read, completes_read, ends, enters, finishes, goes_on, handles, handling, has_nothing, in_phase, is_visited, keeps, leader_after, listed_at, named_leader, picks_group, picks_message, picks_to_enter, picks_to_handle, proposes, proposes_by, proposes_there, read_begun, reader_of, reads_on, rests_within, rows_at, sealed, seeks_on, sends_more, table_rows, unless_decided, unless_full, validated_by, validates, verdict}
use Rattle.mega_format_laws.specs.Rounds.{Each}
use Rattle.mega_format_laws.proofs.Each.{each_both, either}
use Rattle.mega_member_laws.specs.Messages.{AreWithin, IsHere, IsWithin, NamesHere}
use Rattle.mega_member_laws.specs.Rounds.{MoveWithin}
use Rattle.mega_member_laws.specs.Reads.{ReaderWithin, ReadingWithin, ReadMoveWithin}
use Rattle.mega_member_laws.specs.Nodes.{ItemWithin, NowWithin, OperationWithin, PhaseWithin}
use Rattle.mega_member_laws.proofs.Members.{full_here, got, voters_here}
use Rattle.mega_member_laws.proofs.Rounds.{asks_within}
use Rattle.mega_member_laws.proofs.Reading.{local_within, polled_within, seeks_within, site_within}
use Rattle.mega_member_laws.proofs.Histories.{decided_here}

-- each cell lives in a node
pub record HasCells (s : Setting) : Type 0 where
  pub few : s.cluster.cells ≤ length s.cluster.nodes

-- ---- a node within a step

pub keeps_within : (c : Cluster) (now : Now) (o : Operation) → NowWithin c now → OperationWithin c o → NowWithin c (keeps now o)
keeps_within c now o h k = record { met = h.met; kept = each_both (OperationWithin c) now.kept (o ∷ []) h.kept (k, tt); valid = h.valid; answers = h.answers; sends = h.sends }

pub ends_within : (c : Cluster) (now : Now) (op : OpId) (answer : Answer) → NowWithin c now → NowWithin c (ends now op answer)
ends_within c now op answer h = record { met = h.met; kept = h.kept; valid = h.valid; answers = each_both (ItemWithin c) now.answers (Answers op answer ∷ []) h.answers (tt, tt); sends = h.sends }

pub sends_within : (c : Cluster) (now : Now) (sends : List Message) → NowWithin c now → AreWithin c sends → NowWithin c (sends_more now sends)
sends_within c now sends h m = record { met = h.met; kept = h.kept; valid = h.valid; answers = h.answers; sends = each_both (IsWithin c) now.sends sends h.sends m }

pub phase_within : (c : Cluster) (o : Operation) (phase : Phase) → OperationWithin c o → PhaseWithin c phase → OperationWithin c (in_phase o phase)
phase_within c o phase h p = record { id = h.id; phase = p }

pub reader_within : (s : Setting) (op : OpId) (group : GroupId) → HasCells s → IsHere s.cluster op.node.0 → ReaderWithin s.cluster (reader_of s op group)
reader_within s op group h o = record { op = o; voters = voters_here s.cluster; full = full_here s.cluster; cells = h.few }

-- ---- an operation proposes

decided_ends : (c : Cluster) (now : Now) (o : Operation) (n : ℕ) (promised : Promised) (found : Option Content) → NowWithin c now → OperationWithin c o → NowWithin c (unless_decided now o n promised found)
decided_ends c now o n promised None h k = keeps_within c now o h k
decided_ends c now o n promised (Some entry) h k = ends_within c now o.id (verdict o.id n promised entry) h

named : (c : Cluster) (members : List ℕ) (found : Option Content) → Each (IsHere c) members → IsOption (NamesHere c) found → IsOption (IsHere c) (named_leader members found)
named c members None h d = got c members 0 h
named c members (Some entry) h d = d

leader_here : (s : Setting) (now : Now) (group : GroupId) (p : ℕ) → NowWithin s.cluster now → IsOption (IsHere s.cluster) (leader_after s now group p)
leader_here s now group zero k = got s.cluster (voters s.cluster) 0 (voters_here s.cluster)
leader_here s now group (suc p) k = named s.cluster (voters s.cluster) (decided now.met group (suc p)) (voters_here s.cluster) (decided_here s.cluster now.met group (suc p) k.met)

there_within : (s : Setting) (now : Now) (o : Operation) (group : GroupId) (n : ℕ) (asked : List ℕ) (promised : Promised) (t : RoundMove) → NowWithin s.cluster now → OperationWithin s.cluster o → MoveWithin s.cluster t
    → NowWithin s.cluster (proposes_there s now o group n asked promised t)
there_within s now o group n asked promised t k i m = decided_ends s.cluster (sends_more now t.sends) (in_phase o (Proposes group n asked t.proposal promised)) n promised (decided now.met group n)
    (sends_within s.cluster now t.sends k m.sends) (phase_within s.cluster o (Proposes group n asked t.proposal promised) i m.proposal)

by_within : (s : Setting) (now : Now) (o : Operation) (group : GroupId) (r : Reading) (p : ℕ) (own : Content) (promised : Promised) (leader : Option ℕ) → HasCells s → NowWithin s.cluster now → OperationWithin s.cluster o → NamesHere s.cluster own → IsOption (IsHere s.cluster) leader
    → NowWithin s.cluster (proposes_by s now o group r p own promised leader)
by_within s now o group r p own promised None h k i e l = keeps_within s.cluster now o k i
by_within s now o group r p own promised (Some leader) h k i e l =
    there_within s now o group (p + 1) (asked_by r) promised (asks (site (reader_of s o.id group) (asked_by r) (p + 1)) leader own (clock_of now.met)) k i
    (asks_within s.cluster (site (reader_of s o.id group) (asked_by r) (p + 1)) leader own (clock_of now.met) (site_within s.cluster (reader_of s o.id group) (asked_by r) (p + 1) (reader_within s o.id group h i.id)) l e)

pub proposes_within : (s : Setting) (now : Now) (o : Operation) (group : GroupId) (r : Reading) (p : ℕ) (own : Content) (promised : Promised) → HasCells s → NowWithin s.cluster now → OperationWithin s.cluster o → NamesHere s.cluster own
    → NowWithin s.cluster (proposes s now o group r p own promised)
proposes_within s now o group r p own promised h k i e = by_within s now o group r p own promised (leader_after s now group p) h k i e (leader_here s now group p k)

-- ---- a read is complete

validated_within : (c : Cluster) (now : Now) (group : GroupId) (p : ℕ) (refusal : Option NotValid) → NowWithin c now → NowWithin c (validated_by now group p refusal)
validated_within c now group p (Some refusal) h = h
validated_within c now group p None h = record { met = (tt, h.met); kept = h.kept; valid = each_both (ItemWithin c) now.valid (Validates group p ∷ []) h.valid (tt, tt); answers = h.answers; sends = h.sends }

validates_within : (s : Setting) (now : Now) (group : GroupId) (p : ℕ) (noted : Option Epoch) → NowWithin s.cluster now → NowWithin s.cluster (validates s now group p noted)
validates_within s now group p None h = h
validates_within s now group p (Some noted) h = validated_within s.cluster now group p (refused_at s.cluster now.met group p noted) h

completes_within : (s : Setting) (now : Now) (group : GroupId) (r : Reading) (p : ℕ) → NowWithin s.cluster now → NowWithin s.cluster (completes_read s now group r p)
completes_within s now group r p h = validates_within s _ group p r.noted (record { met = h.met; kept = h.kept; valid = h.valid; answers = h.answers; sends = h.sends })

-- ---- a pump reads a group, and picks

-- what an operation comes to: the node is within the cluster, and so is the operation that acts again
abbrev pub Leads : Cluster → Next → Type 0
Leads c (Rests now) = NowWithin c now
Leads c (ActsAgain now o) = NowWithin c now × OperationWithin c o

begun_within : (s : Setting) (now : Now) (o : Operation) (group : GroupId) (asked : List ℕ) → HasCells s → OperationWithin s.cluster o → ReadMoveWithin s.cluster (read_begun s now o group asked)
begun_within s now o group asked h i =
    let who = reader_within s o.id group h i.id in
    either (ReadMoveWithin s.cluster) (is_visited o group) (polled_read (reader_of s o.id group) None asked (clock_of now.met)) _
    (polled_within s.cluster (reader_of s o.id group) None asked (clock_of now.met) who)
    (either (ReadMoveWithin s.cluster) (valid_at s.cluster now.met group) (local_read asked (top_of now.met group)) (polled_read (reader_of s o.id group) (serves_at s.cluster now.met) asked (clock_of now.met))
    (local_within s.cluster asked (top_of now.met group))
    (polled_within s.cluster (reader_of s o.id group) (serves_at s.cluster now.met) asked (clock_of now.met) who))

pub begins_within : (s : Setting) (now : Now) (o : Operation) (group : GroupId) (message : Option Enter) (asked : List ℕ) → HasCells s → NowWithin s.cluster now → OperationWithin s.cluster o
    → Leads s.cluster (begins_read s now o group message asked)
begins_within s now o group message asked h k i =
    let t = begun_within s now o group asked h i in
    (sends_within s.cluster now (read_begun s now o group asked).sends k t.sends, record { id = i.id; phase = t.reading })

nothing_within : (c : Cluster) (now : Now) (o : Operation) → NowWithin c now → Leads c (has_nothing now o)
nothing_within c now o h = ends_within c now o.id _ h

message_picked : (s : Setting) (now : Now) (o : Operation) (asked : List ℕ) (found : Option Posted) → HasCells s → NowWithin s.cluster now → OperationWithin s.cluster o → Leads s.cluster (picks_message s now o asked found)
message_picked s now o asked None h k i = nothing_within s.cluster now o k
message_picked s now o asked (Some one) h k i = begins_within s now o one.to (Some one.message) asked h k i

group_picked : (s : Setting) (now : Now) (o : Operation) (asked : List ℕ) (found : Option GroupId) → HasCells s → NowWithin s.cluster now → OperationWithin s.cluster o → Leads s.cluster (picks_group s now o asked found)
group_picked s now o asked None h k i = nothing_within s.cluster now o k
group_picked s now o asked (Some group) h k i = begins_within s now o group None asked h k i

pub picks_enter : (s : Setting) (now : Now) (o : Operation) (asked : List ℕ) → HasCells s → NowWithin s.cluster now → OperationWithin s.cluster o → Leads s.cluster (picks_to_enter s now o asked)
picks_enter s now o asked h k i = message_picked s now o asked (next_to_enter o.id (applied_logs now)) h k i

pub picks_handle : (s : Setting) (now : Now) (o : Operation) (asked : List ℕ) → HasCells s → NowWithin s.cluster now → OperationWithin s.cluster o → Leads s.cluster (picks_to_handle s now o asked)
picks_handle s now o asked h k i = group_picked s now o asked (next_to_handle (applied_logs now)) h k i

-- ---- what a complete read comes to

sealed_within : (s : Setting) (now : Now) (o : Operation) (group : GroupId) (r : Reading) (p : ℕ) (result : Result Done Turn) → HasCells s → NowWithin s.cluster now → OperationWithin s.cluster o → NowWithin s.cluster (sealed s now o group r p result)
sealed_within s now o group r p (Err turn) h k i = ends_within s.cluster now o.id (Turned turn) k
sealed_within s now o group r p (Ok done) h k i = proposes_within s now o group r p (entry_of_done o.id done) (Replies done.replies) h k i i.id

batch_within : (s : Setting) (now : Now) (o : Operation) (group : GroupId) (r : Reading) (p : ℕ) (b : BatchDone) → HasCells s → NowWithin s.cluster now → OperationWithin s.cluster o → NowWithin s.cluster (batch_sealed s now o group r p b)
batch_within s now o group r p b h k i = either (NowWithin s.cluster) (list_any is_ok b.results) (proposes s now o group r p (entry_of_batch o.id b) (Results b.results)) (ends now o.id (AllTurned b.results))
    (proposes_within s now o group r p (entry_of_batch o.id b) (Results b.results) h k i i.id) (ends_within s.cluster now o.id (AllTurned b.results) k)

enters_within : (s : Setting) (now : Now) (o : Operation) (group : GroupId) (r : Reading) (p : ℕ) (message : Option Enter) → HasCells s → NowWithin s.cluster now → OperationWithin s.cluster o
    → Leads s.cluster (enters s now o group r p message)
enters_within s now o group r p None h k i = picks_enter s now o (asked_by r) h k i
enters_within s now o group r p (Some message) h k i = either (Leads s.cluster) (is_named message.name (names_entered (take p (log_of now.met group)))) _ _
    (picks_enter s now o (asked_by r) h k i) (proposes_within s now o group r p (enter_entry o.id message) (Replies []) h k i i.id)

handle_here : (c : Cluster) (op : OpId) (name : Name) (effect : Effect) → IsHere c op.node.0 → NamesHere c (handle_entry op name effect)
handle_here c op name effect h = either (NamesHere c) (nat_lt most_bytes (length (entry_text (entry_handling op name effect)))) (entry_handling op name ([], [])) (entry_handling op name effect) h h

handles_within : (s : Setting) (now : Now) (o : Operation) (group : GroupId) (r : Reading) (p : ℕ) (message : Option Enter) → HasCells s → NowWithin s.cluster now → OperationWithin s.cluster o
    → Leads s.cluster (handles s now o group r p message)
handles_within s now o group r p None h k i = picks_handle s now o (asked_by r) h k i
handles_within s now o group r p (Some message) h k i = either (Leads s.cluster) (has s.handlers message.queue) _ _
    (proposes_within s now o group r p (handling s o.id group message (table_rows s.cluster.schema group (listed_at now group p))) (Replies []) h k i
    (handle_here s.cluster o.id message.name (handled s.cluster.schema group (table_rows s.cluster.schema group (listed_at now group p)) (effect_by (meaning s.handlers message.queue) message (table_rows s.cluster.schema group (listed_at now group p)))) i.id))
    (ends_within s.cluster now o.id (NoHandler message.queue) k)

full_or : (s : Setting) (now : Now) (o : Operation) (p : ℕ) (next : Next) → NowWithin s.cluster now → Leads s.cluster next → Leads s.cluster (unless_full s now o p next)
full_or s now o p next k n = either (Leads s.cluster) (nat_le (s.cluster.limit).0 p) (Rests (ends now o.id (LogFull (record { 0 = p })))) next (ends_within s.cluster now o.id (LogFull (record { 0 = p })) k) n

finishes_by : (s : Setting) (now : Now) (id : OpId) (request : Request) (began : ℕ) (visited : List GroupId) (message : Option Enter) (phase : Phase) (group : GroupId) (r : Reading) (p : ℕ)
    → HasCells s → NowWithin s.cluster now → OperationWithin s.cluster (record { id = id; request = request; began = began; visited = visited; message = message; phase = phase })
    → Leads s.cluster (finishes s now (record { id = id; request = request; began = began; visited = visited; message = message; phase = phase }) group r p)
finishes_by s now id (Txn t) began visited message phase group r p h k i = full_or s now (record { id = id; request = Txn t; began = began; visited = visited; message = message; phase = phase }) p _ k
    (sealed_within s now (record { id = id; request = Txn t; began = began; visited = visited; message = message; phase = phase }) group r p (outcome s.cluster.schema t (rows_at now group p)) h k i)
finishes_by s now id (Batch own ts) began visited message phase group r p h k i = full_or s now (record { id = id; request = Batch own ts; began = began; visited = visited; message = message; phase = phase }) p _ k
    (batch_within s now (record { id = id; request = Batch own ts; began = began; visited = visited; message = message; phase = phase }) group r p (batch_outcome s.cluster.schema own ts (rows_at now group p)) h k i)
finishes_by s now id (ReadRequested request) began visited message phase group r p h k i = ends_within s.cluster now id _ k
finishes_by s now id (Find request) began visited message phase group r p h k i = ends_within s.cluster now id _ k
finishes_by s now id PumpEnter began visited message phase group r p h k i = full_or s now (record { id = id; request = PumpEnter; began = began; visited = visited; message = message; phase = phase }) p _ k
    (enters_within s now (record { id = id; request = PumpEnter; began = began; visited = visited; message = message; phase = phase }) group r p message h k i)
finishes_by s now id PumpHandle began visited message phase group r p h k i = full_or s now (record { id = id; request = PumpHandle; began = began; visited = visited; message = message; phase = phase }) p _ k
    (handles_within s now (record { id = id; request = PumpHandle; began = began; visited = visited; message = message; phase = phase }) group r p (oldest_unhandled (take p (log_of now.met group))) h k i)
finishes_by s now id Refresh began visited message phase group r p h k i = keeps_within s.cluster now _ k i

finishes_within : (s : Setting) (now : Now) (o : Operation) (group : GroupId) (r : Reading) (p : ℕ) → HasCells s → NowWithin s.cluster now → OperationWithin s.cluster o
    → Leads s.cluster (finishes s now o group r p)
finishes_within s now o group r p h k i = finishes_by s now o.id o.request o.began o.visited o.message o.phase group r p h k (record { id = i.id; phase = i.phase })

-- ---- an operation acts

seeks_on_within : (c : Cluster) (o : Operation) (now : Now) (group : GroupId) (t : ReadMove) → NowWithin c now → OperationWithin c o → ReadMoveWithin c t → NowWithin c (seeks_on o now group t)
seeks_on_within c o now group t k i m = keeps_within c (sends_more now t.sends) (in_phase o (Reads group t.reading)) (sends_within c now t.sends k m.sends) (phase_within c o (Reads group t.reading) i m.reading)

reads_by : (s : Setting) (now : Now) (o : Operation) (group : GroupId) (noted : Option Epoch) (asked : List ℕ) (stage : Stage) → HasCells s → NowWithin s.cluster now → OperationWithin s.cluster o
    → ReadingWithin s.cluster (record { noted = noted; asked = asked; stage = stage }) → Leads s.cluster (reads_on s now o group (record { noted = noted; asked = asked; stage = stage }))
reads_by s now o group noted asked (Polling heard best sent) h k i q = keeps_within s.cluster now o k i
reads_by s now o group noted asked (Catching p search) h k i q = either (Leads s.cluster) (nat_le p (prefix_of now.met group)) _ _
    (finishes_within s (completes_read s now group r p) o group r p h (completes_within s now group r p k) i)
    (seeks_on_within s.cluster o now group (seeks (reader_of s o.id group) r (prefix_of now.met group + 1) (clock_of now.met)) k i
    (seeks_within s.cluster (reader_of s o.id group) r (prefix_of now.met group + 1) (clock_of now.met) (reader_within s o.id group h i.id) q))
  where
    r : Reading
    r = record { noted = noted; asked = asked; stage = Catching p search }

acts_by : (s : Setting) (now : Now) (id : OpId) (request : Request) (began : ℕ) (visited : List GroupId) (message : Option Enter) (phase : Phase) → HasCells s → NowWithin s.cluster now
    → OperationWithin s.cluster (record { id = id; request = request; began = began; visited = visited; message = message; phase = phase }) → Leads s.cluster (acts s now (record { id = id; request = request; began = began; visited = visited; message = message; phase = phase }))
acts_by s now id request began visited message (Reads group r) h k i =
    reads_by s now (record { id = id; request = request; began = began; visited = visited; message = message; phase = Reads group r }) group r.noted r.asked r.stage h k i (record { stage = (i.phase).stage })
acts_by s now id request began visited message (Proposes group n asked p promised) h k i =
    decided_ends s.cluster now (record { id = id; request = request; began = began; visited = visited; message = message; phase = Proposes group n asked p promised }) n promised (decided now.met group n) k i

acts_within : (s : Setting) (now : Now) (o : Operation) → HasCells s → NowWithin s.cluster now → OperationWithin s.cluster o → Leads s.cluster (acts s now o)
acts_within s now o h k i = acts_by s now o.id o.request o.began o.visited o.message o.phase h k (record { id = i.id; phase = i.phase })

-- until it rests
pub rests_stays : (most : ℕ) (s : Setting) (next : Next) → HasCells s → Leads s.cluster next → NowWithin s.cluster (rests_within most s next)
rests_stays most s (Rests now) h k = k
rests_stays zero s (ActsAgain now o) h k = keeps_within s.cluster now o k.0 k.1
rests_stays (suc most) s (ActsAgain now o) h k = rests_stays most s (acts s now o) h (acts_within s now o h k.0 k.1)

pub goes_within : (s : Setting) → HasCells s → (now : Now) (o : Operation) → NowWithin s.cluster now → OperationWithin s.cluster o → NowWithin s.cluster (goes_on s now o)
goes_within s h now o k i = rests_stays (length (groups_of now.met) + 2) s (ActsAgain now o) h (k, i)
