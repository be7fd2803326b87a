-- What an operation does once its node has heard what the step brings leaves all of the format.
use Rattle.std.proofs.Common.{◌≡◌, ℕ, zero, suc, ◌+◌, ◌≤◌, Bool, true, false, cond, List, [], ◌∷◌, length, Option, Some, None, Result, Ok, Err, refl, arith}
use Rattle.std.specs.Prelude.{nat_le, slice_get, take}
use Rattle.std.specs.List.{list_any}
use Rattle.std.specs.Result.{is_ok}
use Rattle.std.proofs.lemmas.Bool.Decides.{nat_tests}
use Rattle.mega_base.specs.declared.names.Epoch.{Epoch}
use Rattle.mega_base.specs.declared.names.GroupId.{GroupId}
use Rattle.mega_base.specs.declared.names.OpId.{OpId}
use Rattle.mega_base.specs.Codec.{IsOption}
use Rattle.mega_base.specs.Names.{IsGroup}
use Rattle.mega_entry.specs.declared.content.Content.{Content}
use Rattle.mega_entry.specs.declared.content.Enter.{Enter}
use Rattle.mega_wire.specs.declared.message.Message.{Message}
use Rattle.mega_wire.specs.Messages.{IsMessage}
use Rattle.mega_coordinator.specs.declared.answers.NotValid.{NotValid}
use Rattle.mega_outcome.specs.declared.answer.Answer.{Answer}
use Rattle.mega_outcome.specs.declared.answer.Answer.TheVariants.{LogFull, Turned, AllTurned, NoHandler}
use Rattle.mega_outcome.specs.declared.answer.Batch.{Batch as BatchDone}
use Rattle.mega_outcome.specs.declared.answer.Done.{Done}
use Rattle.mega_outcome.specs.declared.answer.Turn.{Turn}
use Rattle.mega_outcome.specs.declared.request.Request.{Request}
use Rattle.mega_outcome.specs.declared.request.Request.TheVariants.{Txn, Batch, Read as ReadRequested, Find, PumpEnter, PumpHandle, Refresh}
use Rattle.mega_outcome.specs.declared.transaction.Transaction.{Transaction}
use Rattle.mega_index.specs.Rows.{after, list_after, no_rows}
use Rattle.mega_outcome.specs.Outcome.{batch_outcome, entry_of_batch, entry_of_done, outcome}
use Rattle.mega_voter.specs.of_rules.of_read.of_propose.declared.round.Move.{Move as RoundMove}
use Rattle.mega_voter.specs.of_rules.of_read.of_propose.Rounds.{asks}
use Rattle.mega_voter.specs.of_rules.of_read.declared.reading.Reading.{Reading}
use Rattle.mega_voter.specs.of_rules.of_read.declared.reading.Stage.{Stage}
use Rattle.mega_voter.specs.of_rules.of_read.declared.reading.Stage.TheVariants.{Polling, Catching}
use Rattle.mega_voter.specs.of_rules.of_read.declared.reading.Move.{Move as ReadMove}
use Rattle.mega_voter.specs.of_rules.of_read.Catching.{asked_by, local_read, polled_read, seeks, site}
use Rattle.mega_voter.specs.of_rules.Met.{Answers, Validates}
use Rattle.mega_voter.specs.of_rules.Members.{voters}
use Rattle.mega_voter.specs.of_rules.Clock.{clock_of}
use Rattle.mega_voter.specs.of_rules.Logs.{decided, groups_of, log_of, prefix_of, top_of}
use Rattle.mega_voter.specs.of_rules.Coordinators.{refused_at, serves_at, valid_at}
use Rattle.mega_voter.specs.of_rules.Queues.{Posted, enter_entry, is_named, names_entered, next_to_enter, next_to_handle, oldest_unhandled}
use Rattle.mega_voter.specs.of_rules.Operations.{Now, Operation, Phase, Promised, Proposes, Reads, Replies, Results, Setting}
use Rattle.mega_voter.specs.of_rules.Acting.{ActsAgain, Next, Rests, acts, applied_logs, batch_sealed, begins_read, completes_read, ends, enters, finishes, goes_on, handles, handling, has_nothing, in_phase, is_visited, keeps, leader_after, listed_at, named_leader, picks_group, picks_message, picks_to_enter, picks_to_handle, proposes, proposes_by, proposes_there, read_begun, reader_of, reads_on, rests_within, rows_at, sealed, seeks_on, sends_more, table_rows, unless_decided, unless_full, validated_by, validates, verdict}
use Rattle.mega_handler.specs.Named.{has}
use Rattle.mega_format_laws.specs.Rounds.{AreMessages, Each, IsMember, IsMove, IsPlace, IsSender, IsShort}
use Rattle.mega_format_laws.specs.Reads.{IsReadMove, IsReader, IsReading}
use Rattle.mega_format_laws.specs.Histories.{IsItem}
use Rattle.mega_format_laws.specs.Requests.{IsEntered, IsTransaction}
use Rattle.mega_format_laws.specs.Nodes.{IsAwaited, IsNow, IsOperation, IsPhase, IsSetting}
use Rattle.mega_format_laws.proofs.Each.{each_both, each_take, either}
use Rattle.mega_format_laws.proofs.Rounds.{asks_formed}
use Rattle.mega_format_laws.proofs.Reading.{local_formed, polled_formed, seeks_formed, site_formed}
use Rattle.mega_format_laws.proofs.Histories.{IsDecided, decided_formed, full_formed, log_formed, top_formed, voters_formed}
use Rattle.mega_format_laws.proofs.Queues.{IsNext, logs_formed, next_to_enter_formed, next_to_handle_formed, oldest_formed}

-- what operations propose of their own is of the format
pub record AreOutcomes (s : Setting) : Type 0 where
  pub txn : (t : Transaction) (log : List Content) (op : OpId) (done : Done) → IsTransaction t → Each IsShort log → IsSender op → outcome s.cluster.schema t (after log no_rows) ≡ Ok done → IsShort (entry_of_done op done)
  pub batch : (group : GroupId) (ts : List Transaction) (log : List Content) (op : OpId) → length ts ≤ 16 → Each IsTransaction ts → Each IsShort log → IsSender op
      → list_any is_ok (batch_outcome s.cluster.schema group ts (after log no_rows)).results ≡ true → IsShort (entry_of_batch op (batch_outcome s.cluster.schema group ts (after log no_rows)))
  pub handling : (op : OpId) (group : GroupId) (message : Enter) (log : List Content) → IsSender op → IsEntered message → Each IsShort log
      → IsShort (handling s op group message (table_rows s.cluster.schema group (list_after log [])))

-- ---- a node within a step

pub keeps_formed : (now : Now) (o : Operation) → IsNow now → IsOperation o → IsNow (keeps now o)
keeps_formed now o h k = record { met = h.met; kept = each_both IsOperation now.kept (o ∷ []) h.kept (k, tt); valid = h.valid; answers = h.answers; sends = h.sends }

pub ends_formed : (now : Now) (op : OpId) (answer : Answer) → IsNow now → IsNow (ends now op answer)
ends_formed now op answer h = record { met = h.met; kept = h.kept; valid = h.valid; answers = each_both IsItem now.answers (Answers op answer ∷ []) h.answers (tt, tt); sends = h.sends }

pub sends_formed : (now : Now) (sends : List Message) → IsNow now → AreMessages sends → IsNow (sends_more now sends)
sends_formed now sends h m = record { met = h.met; kept = h.kept; valid = h.valid; answers = h.answers; sends = each_both IsMessage now.sends sends h.sends m }

pub phase_formed : (o : Operation) (phase : Phase) → IsOperation o → IsPhase phase → IsOperation (in_phase o phase)
phase_formed o phase h p = record { id = h.id; request = h.request; message = h.message; phase = p }

pub reader_formed : (s : Setting) (op : OpId) (group : GroupId) → IsSetting s → IsSender op → IsGroup group → IsReader (reader_of s op group)
reader_formed s op group h o g = record { op = o; group = g; voters = voters_formed s.cluster h.cluster; full = full_formed s.cluster h.cluster; cells = (h.cluster).cells }

-- ---- an operation proposes

decided_ends : (now : Now) (o : Operation) (n : ℕ) (promised : Promised) (found : Option Content) → IsNow now → IsOperation o → IsNow (unless_decided now o n promised found)
decided_ends now o n promised None h k = keeps_formed now o h k
decided_ends now o n promised (Some entry) h k = ends_formed now o.id (verdict o.id n promised entry) h

got : (members : List ℕ) (n : ℕ) → Each IsMember members → IsOption IsMember (slice_get members n)
got [] n h = tt
got (m ∷ members) zero h = h.0
got (m ∷ members) (suc n) h = got members n h.1

named : (members : List ℕ) (n : ℕ) (found : Option Content) → Each IsMember members → IsDecided found n → IsOption IsMember (named_leader members found)
named members n None h d = got members 0 h
named members n (Some entry) h d = ((d.1).0).leader

leader_formed : (s : Setting) (now : Now) (group : GroupId) (p : ℕ) → IsSetting s → IsNow now → IsOption IsMember (leader_after s now group p)
leader_formed s now group zero h k = got (voters s.cluster) 0 (voters_formed s.cluster h.cluster)
leader_formed s now group (suc p) h k = named (voters s.cluster) (suc p) (decided now.met group (suc p)) (voters_formed s.cluster h.cluster) (decided_formed now.met group (suc p) k.met)

there_formed : (s : Setting) (now : Now) (o : Operation) (group : GroupId) (n : ℕ) (asked : List ℕ) (promised : Promised) (t : RoundMove) → IsNow now → IsOperation o → IsGroup group → IsPlace n → IsMove t
    → IsNow (proposes_there s now o group n asked promised t)
there_formed s now o group n asked promised t h k g place m = decided_ends (sends_more now t.sends) (in_phase o (Proposes group n asked t.proposal promised)) n promised (decided now.met group n)
    (sends_formed now t.sends h m.sends) (phase_formed o (Proposes group n asked t.proposal promised) k (g, (place, m.proposal)))

by_formed : (s : Setting) (now : Now) (o : Operation) (group : GroupId) (r : Reading) (p : ℕ) (own : Content) (promised : Promised) (leader : Option ℕ) → IsSetting s → IsNow now → IsOperation o → IsGroup group → p + 1 ≤ 1000000 → IsShort own → IsOption IsMember leader
    → IsNow (proposes_by s now o group r p own promised leader)
by_formed s now o group r p own promised None h k i g le e l = keeps_formed now o k i
by_formed s now o group r p own promised (Some leader) h k i g le e l =
    there_formed s now o group (p + 1) (asked_by r) promised (asks (site (reader_of s o.id group) (asked_by r) (p + 1)) leader own (clock_of now.met)) k i g (omega arith, le)
    (asks_formed (site (reader_of s o.id group) (asked_by r) (p + 1)) leader own (clock_of now.met) (site_formed (reader_of s o.id group) (asked_by r) (p + 1) (reader_formed s o.id group h i.id g) (omega arith, le)) l e)

pub proposes_formed : (s : Setting) (now : Now) (o : Operation) (group : GroupId) (r : Reading) (p : ℕ) (own : Content) (promised : Promised) → IsSetting s → IsNow now → IsOperation o → IsGroup group → p + 1 ≤ 1000000 → IsShort own
    → IsNow (proposes s now o group r p own promised)
proposes_formed s now o group r p own promised h k i g le e = by_formed s now o group r p own promised (leader_after s now group p) h k i g le e (leader_formed s now group p h k)

-- ---- a read is complete

validated_formed : (now : Now) (group : GroupId) (p : ℕ) (refusal : Option NotValid) → IsNow now → IsNow (validated_by now group p refusal)
validated_formed now group p (Some refusal) h = h
validated_formed now group p None h = record { met = (tt, h.met); kept = h.kept; valid = each_both IsItem now.valid (Validates group p ∷ []) h.valid (tt, tt); answers = h.answers; sends = h.sends }

validates_formed : (s : Setting) (now : Now) (group : GroupId) (p : ℕ) (noted : Option Epoch) → IsNow now → IsNow (validates s now group p noted)
validates_formed s now group p None h = h
validates_formed s now group p (Some noted) h = validated_formed now group p (refused_at s.cluster now.met group p noted) h

completes_formed : (s : Setting) (now : Now) (group : GroupId) (r : Reading) (p : ℕ) → IsNow now → IsNow (completes_read s now group r p)
completes_formed s now group r p h = validates_formed s _ group p r.noted (record { met = h.met; kept = h.kept; valid = h.valid; answers = h.answers; sends = h.sends })

-- ---- a pump reads a group, and picks

-- what an operation comes to: the node is of the format, and so is the operation that acts again
abbrev pub Leads : Next → Type 0
Leads (Rests now) = IsNow now
Leads (ActsAgain now o) = IsNow now × IsOperation o

begun_formed : (s : Setting) (now : Now) (o : Operation) (group : GroupId) (asked : List ℕ) → IsSetting s → IsNow now → IsOperation o → IsGroup group → IsReadMove (read_begun s now o group asked)
begun_formed s now o group asked h k i g =
    let who = reader_formed s o.id group h i.id g in
    either IsReadMove (is_visited o group) (polled_read (reader_of s o.id group) None asked (clock_of now.met)) _
    (polled_formed (reader_of s o.id group) None asked (clock_of now.met) who)
    (either IsReadMove (valid_at s.cluster now.met group) (local_read asked (top_of now.met group)) (polled_read (reader_of s o.id group) (serves_at s.cluster now.met) asked (clock_of now.met))
    (local_formed asked (top_of now.met group) (top_formed now.met group k.met))
    (polled_formed (reader_of s o.id group) (serves_at s.cluster now.met) asked (clock_of now.met) who))

pub begins_formed : (s : Setting) (now : Now) (o : Operation) (group : GroupId) (message : Option Enter) (asked : List ℕ) → IsSetting s → IsNow now → IsOperation o → IsGroup group → IsAwaited o.id message
    → Leads (begins_read s now o group message asked)
begins_formed s now o group message asked h k i g m =
    let t = begun_formed s now o group asked h k i g in
    (sends_formed now (read_begun s now o group asked).sends k t.sends, record { id = i.id; request = i.request; message = m; phase = (g, t.reading) })

nothing_formed : (now : Now) (o : Operation) → IsNow now → Leads (has_nothing now o)
nothing_formed now o h = ends_formed now o.id _ h

message_picked : (s : Setting) (now : Now) (o : Operation) (asked : List ℕ) (found : Option Posted) → IsSetting s → IsNow now → IsOperation o → IsNext o.id found → Leads (picks_message s now o asked found)
message_picked s now o asked None h k i n = nothing_formed now o k
message_picked s now o asked (Some one) h k i n = begins_formed s now o one.to (Some one.message) asked h k i n.0 n.1

group_picked : (s : Setting) (now : Now) (o : Operation) (asked : List ℕ) (found : Option GroupId) → IsSetting s → IsNow now → IsOperation o → IsOption IsGroup found → Leads (picks_group s now o asked found)
group_picked s now o asked None h k i n = nothing_formed now o k
group_picked s now o asked (Some group) h k i n = begins_formed s now o group None asked h k i n tt

pub picks_enter : (s : Setting) (now : Now) (o : Operation) (asked : List ℕ) → IsSetting s → IsNow now → IsOperation o → Leads (picks_to_enter s now o asked)
picks_enter s now o asked h k i = message_picked s now o asked (next_to_enter o.id (applied_logs now)) h k i (next_to_enter_formed o.id (applied_logs now) i.id (logs_formed now k.met))

pub picks_handle : (s : Setting) (now : Now) (o : Operation) (asked : List ℕ) → IsSetting s → IsNow now → IsOperation o → Leads (picks_to_handle s now o asked)
picks_handle s now o asked h k i = group_picked s now o asked (next_to_handle (applied_logs now)) h k i (next_to_handle_formed (applied_logs now) (logs_formed now k.met))

-- ---- what a complete read comes to

front_formed : (now : Now) (group : GroupId) (p : ℕ) → IsNow now → Each IsShort (take p (log_of now.met group))
front_formed now group p k = each_take IsShort p (log_of now.met group) (log_formed now.met group k.met)

sealed_formed : (s : Setting) (now : Now) (o : Operation) (group : GroupId) (r : Reading) (p : ℕ) (t : Transaction) (result : Result Done Turn) → AreOutcomes s → IsSetting s → IsNow now → IsOperation o → IsGroup group → p + 1 ≤ 1000000 → IsTransaction t
    → outcome s.cluster.schema t (rows_at now group p) ≡ result → IsNow (sealed s now o group r p result)
sealed_formed s now o group r p t (Err turn) a h k i g le f comes = ends_formed now o.id (Turned turn) k
sealed_formed s now o group r p t (Ok done) a h k i g le f comes = proposes_formed s now o group r p (entry_of_done o.id done) (Replies done.replies) h k i g le
    (a.txn t (take p (log_of now.met group)) o.id done f (front_formed now group p k) i.id comes)

batch_formed : (s : Setting) (now : Now) (o : Operation) (group : GroupId) (r : Reading) (p : ℕ) (b : BatchDone) → IsSetting s → IsNow now → IsOperation o → IsGroup group → p + 1 ≤ 1000000
    → (list_any is_ok b.results ≡ true → IsShort (entry_of_batch o.id b)) → IsNow (batch_sealed s now o group r p b)
batch_formed s now o group r p b h k i g le e = go (list_any is_ok b.results) refl
  where
    go : (t : Bool) → list_any is_ok b.results ≡ t → IsNow (cond t (proposes s now o group r p (entry_of_batch o.id b) (Results b.results)) (ends now o.id (AllTurned b.results)))
    go true is = proposes_formed s now o group r p (entry_of_batch o.id b) (Results b.results) h k i g le (e is)
    go false is = ends_formed now o.id (AllTurned b.results) k

enters_formed : (s : Setting) (now : Now) (o : Operation) (group : GroupId) (r : Reading) (p : ℕ) (message : Option Enter) → IsSetting s → IsNow now → IsOperation o → IsGroup group → p + 1 ≤ 1000000 → IsAwaited o.id message
    → Leads (enters s now o group r p message)
enters_formed s now o group r p None h k i g le m = picks_enter s now o (asked_by r) h k i
enters_formed s now o group r p (Some message) h k i g le m = either Leads (is_named message.name (names_entered (take p (log_of now.met group)))) _ _
    (picks_enter s now o (asked_by r) h k i) (proposes_formed s now o group r p (enter_entry o.id message) (Replies []) h k i g le m)

handles_formed : (s : Setting) (now : Now) (o : Operation) (group : GroupId) (r : Reading) (p : ℕ) (message : Option Enter) → AreOutcomes s → IsSetting s → IsNow now → IsOperation o → IsGroup group → p + 1 ≤ 1000000 → IsOption IsEntered message
    → Leads (handles s now o group r p message)
handles_formed s now o group r p None a h k i g le m = picks_handle s now o (asked_by r) h k i
handles_formed s now o group r p (Some message) a h k i g le m = either Leads (has s.handlers message.queue) _ _
    (proposes_formed s now o group r p (handling s o.id group message (table_rows s.cluster.schema group (listed_at now group p))) (Replies []) h k i g le
    (a.handling o.id group message (take p (log_of now.met group)) i.id m (front_formed now group p k)))
    (ends_formed now o.id (NoHandler message.queue) k)

full_or : (s : Setting) (now : Now) (o : Operation) (p : ℕ) (next : Next) → IsSetting s → IsNow now → (p + 1 ≤ 1000000 → Leads next) → Leads (unless_full s now o p next)
full_or s now o p next h k n = go (nat_le (s.cluster.limit).0 p) refl
  where
    under : (limit p : ℕ) → limit ≤ 1000000 → nat_le limit p ≡ false → p + 1 ≤ 1000000
    under limit p le e = grind (arith, nat_tests)

    go : (t : Bool) → nat_le (s.cluster.limit).0 p ≡ t → Leads (cond t (Rests (ends now o.id (LogFull (record { 0 = p })))) next)
    go true e = ends_formed now o.id (LogFull (record { 0 = p })) k
    go false e = n (under (s.cluster.limit).0 p (h.cluster).limit e)

finishes_by : (s : Setting) (now : Now) (id : OpId) (request : Request) (began : ℕ) (visited : List GroupId) (message : Option Enter) (phase : Phase) (group : GroupId) (r : Reading) (p : ℕ)
    → AreOutcomes s → IsSetting s → IsNow now → IsOperation (record { id = id; request = request; began = began; visited = visited; message = message; phase = phase }) → IsGroup group
    → Leads (finishes s now (record { id = id; request = request; began = began; visited = visited; message = message; phase = phase }) group r p)
finishes_by s now id (Txn t) began visited message phase group r p a h k i g = full_or s now (record { id = id; request = Txn t; began = began; visited = visited; message = message; phase = phase }) p _ h k
    (λ le. sealed_formed s now (record { id = id; request = Txn t; began = began; visited = visited; message = message; phase = phase }) group r p t (outcome s.cluster.schema t (rows_at now group p)) a h k i g le i.request refl)
finishes_by s now id (Batch own ts) began visited message phase group r p a h k i g = full_or s now (record { id = id; request = Batch own ts; began = began; visited = visited; message = message; phase = phase }) p _ h k
    (λ le. batch_formed s now (record { id = id; request = Batch own ts; began = began; visited = visited; message = message; phase = phase }) group r p (batch_outcome s.cluster.schema own ts (rows_at now group p)) h k i g le
    (λ is. a.batch own ts (take p (log_of now.met group)) id (i.request).1 (i.request).2 (front_formed now group p k) i.id is))
finishes_by s now id (ReadRequested request) began visited message phase group r p a h k i g = ends_formed now id _ k
finishes_by s now id (Find request) began visited message phase group r p a h k i g = ends_formed now id _ k
finishes_by s now id PumpEnter began visited message phase group r p a h k i g = full_or s now (record { id = id; request = PumpEnter; began = began; visited = visited; message = message; phase = phase }) p _ h k
    (λ le. enters_formed s now (record { id = id; request = PumpEnter; began = began; visited = visited; message = message; phase = phase }) group r p message h k i g le i.message)
finishes_by s now id PumpHandle began visited message phase group r p a h k i g = full_or s now (record { id = id; request = PumpHandle; began = began; visited = visited; message = message; phase = phase }) p _ h k
    (λ le. handles_formed s now (record { id = id; request = PumpHandle; began = began; visited = visited; message = message; phase = phase }) group r p (oldest_unhandled (take p (log_of now.met group))) a h k i g le
    (oldest_formed (take p (log_of now.met group)) (front_formed now group p k)))
finishes_by s now id Refresh began visited message phase group r p a h k i g = keeps_formed now _ k i

finishes_formed : (s : Setting) (now : Now) (o : Operation) (group : GroupId) (r : Reading) (p : ℕ) → AreOutcomes s → IsSetting s → IsNow now → IsOperation o → IsGroup group
    → Leads (finishes s now o group r p)
finishes_formed s now o group r p a h k i g = finishes_by s now o.id o.request o.began o.visited o.message o.phase group r p a h k (record { id = i.id; request = i.request; message = i.message; phase = i.phase }) g

-- ---- an operation acts

seeks_on_formed : (o : Operation) (now : Now) (group : GroupId) (t : ReadMove) → IsNow now → IsOperation o → IsGroup group → IsReadMove t → IsNow (seeks_on o now group t)
seeks_on_formed o now group t k i g m = keeps_formed (sends_more now t.sends) (in_phase o (Reads group t.reading)) (sends_formed now t.sends k m.sends) (phase_formed o (Reads group t.reading) i (g, m.reading))

reads_by : (s : Setting) (now : Now) (o : Operation) (group : GroupId) (noted : Option Epoch) (asked : List ℕ) (stage : Stage) → AreOutcomes s → IsSetting s → IsNow now → IsOperation o → IsGroup group
    → IsReading (record { noted = noted; asked = asked; stage = stage }) → Leads (reads_on s now o group (record { noted = noted; asked = asked; stage = stage }))
reads_by s now o group noted asked (Polling heard best sent) a h k i g q = keeps_formed now o k i
reads_by s now o group noted asked (Catching p search) a h k i g q = go (nat_le p (prefix_of now.met group)) refl
  where
    r : Reading
    r = record { noted = noted; asked = asked; stage = Catching p search }

    below : (p n : ℕ) → p ≤ 1000000 → nat_le p n ≡ false → n + 1 ≤ 1000000
    below p n le e = grind (arith, nat_tests)

    go : (t : Bool) → nat_le p (prefix_of now.met group) ≡ t → Leads (cond t (finishes s (completes_read s now group r p) o group r p) (Rests (seeks_on o now group (seeks (reader_of s o.id group) r (prefix_of now.met group + 1) (clock_of now.met)))))
    go true e = finishes_formed s (completes_read s now group r p) o group r p a h (completes_formed s now group r p k) i g
    go false e = seeks_on_formed o now group (seeks (reader_of s o.id group) r (prefix_of now.met group + 1) (clock_of now.met)) k i g
        (seeks_formed (reader_of s o.id group) r (prefix_of now.met group + 1) (clock_of now.met) (reader_formed s o.id group h i.id g) q (omega arith, below p (prefix_of now.met group) (q.stage).0 e))

acts_by : (s : Setting) (now : Now) (id : OpId) (request : Request) (began : ℕ) (visited : List GroupId) (message : Option Enter) (phase : Phase) → AreOutcomes s → IsSetting s → IsNow now
    → IsOperation (record { id = id; request = request; began = began; visited = visited; message = message; phase = phase }) → Leads (acts s now (record { id = id; request = request; began = began; visited = visited; message = message; phase = phase }))
acts_by s now id request began visited message (Reads group r) a h k i =
    reads_by s now (record { id = id; request = request; began = began; visited = visited; message = message; phase = Reads group r }) group r.noted r.asked r.stage a h k i (i.phase).0 (record { stage = ((i.phase).1).stage })
acts_by s now id request began visited message (Proposes group n asked p promised) a h k i =
    decided_ends now (record { id = id; request = request; began = began; visited = visited; message = message; phase = Proposes group n asked p promised }) n promised (decided now.met group n) k i

acts_formed : (s : Setting) (now : Now) (o : Operation) → AreOutcomes s → IsSetting s → IsNow now → IsOperation o → Leads (acts s now o)
acts_formed s now o a h k i = acts_by s now o.id o.request o.began o.visited o.message o.phase a h k (record { id = i.id; request = i.request; message = i.message; phase = i.phase })

-- until it rests
pub rests_formed : (most : ℕ) (s : Setting) (next : Next) → AreOutcomes s → IsSetting s → Leads next → IsNow (rests_within most s next)
rests_formed most s (Rests now) a h k = k
rests_formed zero s (ActsAgain now o) a h k = keeps_formed now o k.0 k.1
rests_formed (suc most) s (ActsAgain now o) a h k = rests_formed most s (acts s now o) a h (acts_formed s now o a h k.0 k.1)

pub goes_formed : (s : Setting) → AreOutcomes s → IsSetting s → (now : Now) (o : Operation) → IsNow now → IsOperation o → IsNow (goes_on s now o)
goes_formed s a h now o k i = rests_formed (length (groups_of now.met) + 2) s (ActsAgain now o) a h (k, i)
