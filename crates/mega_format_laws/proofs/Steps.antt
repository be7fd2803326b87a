-- The step of a node notes, sends and leaves only what is of the format.
use Rattle.std.proofs.Common.{◌≡◌, ℕ, ◌+◌, ◌==◌, ◌&&◌, ◌≤◌, Bool, cond, List, [], ◌∷◌, ◌++◌, map, flat_map, fold, Option, Some, None, refl, min, arith, length}
use Rattle.std.specs.Prelude.{filter, nat_le, nat_lt, is_none}
use Rattle.mega_base.specs.declared.names.Epoch.{Epoch}
use Rattle.mega_base.specs.declared.names.GroupId.{GroupId}
use Rattle.mega_base.specs.declared.names.OpId.{OpId}
use Rattle.mega_base.specs.Codec.{IsOption}
use Rattle.mega_base.specs.Names.{IsGroup, IsU32}
use Rattle.mega_cluster.specs.declared.cluster.Cluster.{Cluster}
use Rattle.mega_entry.specs.declared.content.Content.{Content}
use Rattle.mega_entry.specs.declared.content.Enter.{Enter}
use Rattle.mega_wire.specs.declared.message.Message.{Message}
use Rattle.mega_wire.specs.declared.message.Body.{Body}
use Rattle.mega_wire.specs.declared.message.Body.TheVariants.{Invalidate, Decide, Have, Acquire, Granted}
use Rattle.mega_wire.specs.Messages.{IsMessage, IsBody}
use Rattle.mega_coordinator.specs.declared.answers.Counted.{Counted}
use Rattle.mega_coordinator.specs.declared.answers.Counted.TheVariants.{No, Yes, Serving}
use Rattle.mega_coordinator.specs.History.{epoch_after}
use Rattle.mega_outcome.specs.declared.answer.Answer.{Answer}
use Rattle.mega_outcome.specs.declared.request.Mode.{Mode}
use Rattle.mega_outcome.specs.declared.request.Mode.TheVariants.{Current, Snapshot, Inconsistent}
use Rattle.mega_outcome.specs.declared.request.Request.{Request}
use Rattle.mega_outcome.specs.declared.request.Request.TheVariants.{Txn, Batch, Read, Find, PumpEnter, PumpHandle, Refresh}
use Rattle.mega_outcome.specs.declared.request.ReadRequest.{ReadRequest}
use Rattle.mega_outcome.specs.declared.request.FindRequest.{FindRequest}
use Rattle.mega_voter.specs.of_rules.of_read.of_propose.Rounds.{settled}
use Rattle.mega_voter.specs.of_rules.of_read.Catching.{read_settled, site}
use Rattle.mega_voter.specs.of_rules.Met.{Met, Starts, Ticks, Begins, Takes, Sends, Counts, Serves, Invalidates, Applies}
use Rattle.mega_voter.specs.of_rules.Members.{cells, has_rows, is_full}
use Rattle.mega_voter.specs.of_rules.Clock.{begun_of, clock_of, start_of}
use Rattle.mega_voter.specs.of_rules.Logs.{decided, groups_of, prefix_of}
use Rattle.mega_voter.specs.of_rules.Locks.{asked_for, grant_note, lapses_at}
use Rattle.mega_voter.specs.of_rules.Coordinators.{acquires_at, coordinator_calls, counts_notes, forget_notes, grant_notes, is_cell_in, lost_note, tick_notes, tick_told}
use Rattle.mega_voter.specs.of_rules.Replies.{reply_to}
use Rattle.mega_voter.specs.of_rules.Operations.{Node, Now, Operation, Phase, Proposes, Reads, Setting}
use Rattle.mega_voter.specs.of_rules.Acting.{ends, reader_of, sends_more}
use Rattle.mega_voter.specs.of_rules.Steps.{Begin, Decision, Event, Heard, Step, Take, Tick, acts_first, acts_in_turn, all_act, applied_at, apply_note, apply_notes, at_first, at_open, background, begin_step, crashed, decision_at, decision_note, does_due, find_begins, first_settled, hears_message, if_new, is_out, lapse_notes, last_answer, lease_notes, local_find_begins, new_operation, news, onto, op_of, portion_of, read_begins, read_decision, refusal, settled_by, start, start_items, start_note, start_notes, step, step_of, stored_after, take_step, taken, tick_step, ticked, told_decision, told_notes, unless_refused}
use Rattle.mega_format_laws.specs.Rounds.{AreMessages, Each, IsPlace, IsSender, IsShort}
use Rattle.mega_format_laws.specs.Histories.{IsClock, IsItem, IsMet}
use Rattle.mega_format_laws.specs.Decisions.{AreDecided}
use Rattle.mega_format_laws.specs.Requests.{IsRequest}
use Rattle.mega_format_laws.specs.Nodes.{IsEvent, IsNode, IsNow, IsOperation, IsPhase, IsSetting, IsStep}
use Rattle.mega_format_laws.proofs.Each.{each_both, each_fold, each_map, either}
use Rattle.mega_format_laws.proofs.Rounds.{due_formed, settled_formed, takes_formed}
use Rattle.mega_format_laws.proofs.Reading.{falls_due_formed, first_formed, hears_formed, read_settled_formed, site_formed}
use Rattle.mega_format_laws.proofs.Histories.{start_formed}
use Rattle.mega_format_laws.proofs.Locks.{grant_note_formed, lapses_formed}
use Rattle.mega_format_laws.proofs.Replies.{acquires_at_formed, background_formed, byte_of, news_formed, reply_formed}
use Rattle.mega_format_laws.proofs.Acting.{AreOutcomes, Leads, begins_formed, ends_formed, goes_formed, picks_enter, picks_handle, reader_formed, rests_formed, sends_formed}

onto_formed : (items met : List Met) → IsMet items → IsMet met → IsMet (onto items met)
onto_formed [] met h k = k
onto_formed (one ∷ more) met h k = onto_formed more (one ∷ met) h.1 (h.0, k)

both_formed : (items more : List Met) → IsMet items → IsMet more → IsMet (items ++ more)
both_formed items more h k = each_both IsItem items more h k

-- ---- what a message tells the cell and the coordinator

counted_formed : (cell : ℕ) (epoch : Epoch) (was : Bool) (counted : Counted) → IsMet (counts_notes cell epoch was counted)
counted_formed cell epoch was No = tt
counted_formed cell epoch was Yes = either IsMet was [] (Counts cell epoch ∷ []) tt (tt, tt)
counted_formed cell epoch was Serving = both_formed (cond was [] (Counts cell epoch ∷ [])) (Serves epoch ∷ []) (either IsMet was [] (Counts cell epoch ∷ []) tt (tt, tt)) (tt, tt)

grants_formed : (c : Cluster) (met : List Met) (cell : ℕ) (epoch : Epoch) (clock : ℕ) → IsMet (grant_notes c met cell epoch clock)
grants_formed c met cell epoch clock = counted_formed cell epoch _ _

told_formed : (s : Setting) (met : List Met) (from to : ℕ) (body : Body) → IsMet met → IsMessage (record { from = from; to = to; body = body }) → IsMet (told_notes s met from body)
told_formed s met from to (Acquire cell epoch clock) h b = either IsMet (cell == s.me && nat_le s.me s.cluster.cells) (grant_note from epoch (asked_for s.cluster s.me met from epoch)) []
    (grant_note_formed from epoch (asked_for s.cluster s.me met from epoch) b.from (b.body.1.0)) tt
told_formed s met from to (Granted cell epoch clock) h b = either IsMet (is_full s.cluster s.me && nat_le cell s.cluster.cells) (grant_notes s.cluster met cell epoch clock) [] (grants_formed s.cluster met cell epoch clock) tt
told_formed s met from to (Invalidate op group position) h b = either IsMet (is_full s.cluster s.me) (Invalidates group position.0 ∷ []) [] (tt, tt) tt
told_formed s met from to _ h b = tt

-- ---- open operations hear

pub record IsHeard (t : Heard) : Type 0 where
  pub operation : IsOperation t.operation
  pub sends : AreMessages t.sends

hears_by : (s : Setting) (now : ℕ) (m : Message) (id : OpId) (request : Request) (began : ℕ) (visited : List GroupId) (message : Option Enter) (phase : Phase) → IsSetting s → IsMessage m
    → IsOperation (record { id = id; request = request; began = began; visited = visited; message = message; phase = phase })
    → IsHeard (hears_message s now m (record { id = id; request = request; began = began; visited = visited; message = message; phase = phase }))
hears_by s now m id request began visited message (Reads group r) h b i =
    let t = hears_formed (reader_of s id group) r m.from now m.body (reader_formed s id group h i.id (i.phase).0) (i.phase).1 b.body in
    record { operation = record { id = i.id; request = i.request; message = i.message; phase = ((i.phase).0, t.reading) }; sends = t.sends }
hears_by s now m id request began visited message (Proposes group n asked p promised) h b i =
    let t = takes_formed (site (reader_of s id group) asked n) p m.from now m.body (site_formed (reader_of s id group) asked n (reader_formed s id group h i.id (i.phase).0) ((i.phase).1).0) ((i.phase).1).1 b.body in
    record { operation = record { id = i.id; request = i.request; message = i.message; phase = ((i.phase).0, (((i.phase).1).0, t.proposal)) }; sends = t.sends }

pub heard_formed : (s : Setting) (now : ℕ) (m : Message) (o : Operation) → IsSetting s → IsMessage m → IsOperation o → IsHeard (hears_message s now m o)
heard_formed s now m o h b i = hears_by s now m o.id o.request o.began o.visited o.message o.phase h b (record { id = i.id; request = i.request; message = i.message; phase = i.phase })

due_by : (s : Setting) (now : ℕ) (id : OpId) (request : Request) (began : ℕ) (visited : List GroupId) (message : Option Enter) (phase : Phase) → IsSetting s
    → IsOperation (record { id = id; request = request; began = began; visited = visited; message = message; phase = phase })
    → IsHeard (does_due s now (record { id = id; request = request; began = began; visited = visited; message = message; phase = phase }))
due_by s now id request began visited message (Reads group r) h i =
    let t = falls_due_formed (reader_of s id group) r s.cluster.retry now (reader_formed s id group h i.id (i.phase).0) (i.phase).1 in
    record { operation = record { id = i.id; request = i.request; message = i.message; phase = ((i.phase).0, t.reading) }; sends = t.sends }
due_by s now id request began visited message (Proposes group n asked p promised) h i =
    let t = due_formed (site (reader_of s id group) asked n) p s.cluster.retry now (site_formed (reader_of s id group) asked n (reader_formed s id group h i.id (i.phase).0) ((i.phase).1).0) ((i.phase).1).1 in
    record { operation = record { id = i.id; request = i.request; message = i.message; phase = ((i.phase).0, (((i.phase).1).0, t.proposal)) }; sends = t.sends }

does_formed : (s : Setting) (now : ℕ) (o : Operation) → IsSetting s → IsOperation o → IsHeard (does_due s now o)
does_formed s now o h i = due_by s now o.id o.request o.began o.visited o.message o.phase h (record { id = i.id; request = i.request; message = i.message; phase = i.phase })

-- ---- the decision of a step

at_formed : (group : GroupId) (n : ℕ) (found : Option Content) → IsGroup group → IsPlace n → ((entry : Content) → found ≡ Some entry → IsShort entry) → AreDecided (decision_at group n found)
at_formed group n None g place h = tt
at_formed group n (Some entry) g place h = record { group = g; position = place; entry = h entry refl }

read_formed : (group : GroupId) (found : Option (ℕ × Content)) → IsGroup group → ((one : ℕ × Content) → found ≡ Some one → IsPlace one.0 × IsShort one.1) → AreDecided (read_decision group found)
read_formed group None g h = tt
read_formed group (Some found) g h = let one = h found refl in record { group = g; position = one.0; entry = one.1 }

settles_by : (id : OpId) (request : Request) (began : ℕ) (visited : List GroupId) (message : Option Enter) (phase : Phase) → IsPhase phase
    → AreDecided (settled_by (record { id = id; request = request; began = began; visited = visited; message = message; phase = phase }))
settles_by id request began visited message (Reads group r) f = read_formed group (read_settled r) f.0 (λ one e. read_settled_formed r one f.1 e)
settles_by id request began visited message (Proposes group n asked p promised) f = at_formed group n (settled p) f.0 (f.1).0 (λ entry e. settled_formed p entry (f.1).1 e)

settled_is : (o : Operation) → IsOperation o → AreDecided (settled_by o)
settled_is o i = settles_by o.id o.request o.began o.visited o.message o.phase i.phase

pub first_is : (ts : List Heard) → Each IsHeard ts → AreDecided (first_settled ts)
first_is [] h = tt
first_is (t ∷ ts) h = go (settled_by t.operation) (settled_is t.operation (h.0).operation) (first_is ts h.1)
  where
    or : Option Decision → Option Decision → Option Decision
    or None other = other
    or (Some d) other = Some d

    go : (found : Option Decision) → AreDecided found → AreDecided (first_settled ts) → AreDecided (or found (first_settled ts))
    go None f k = k
    go (Some d) f k = f

pub told_is : (body : Body) → IsBody body → AreDecided (told_decision body)
told_is (Decide group position entry) b = record { group = b.0; position = b.1.0; entry = b.1.1 }
told_is (Have op group position entry) b = record { group = b.1.0; position = b.1.1.0; entry = b.1.1.1 }
told_is _ b = tt

pub new_is : (met : List Met) (found : Option Decision) → AreDecided found → AreDecided (if_new met found)
new_is met None h = tt
new_is met (Some d) h = either AreDecided (is_none (decided met d.group d.position)) (Some d) None h tt

note_formed : (found : Option Decision) → AreDecided found → IsMet (decision_note found)
note_formed None h = tt
note_formed (Some d) h = ((h.group, (h.position, h.entry)), tt)

-- ---- what is applied

applies_formed : (s : Setting) (was : List Met) (was_stored : GroupId → ℕ) (met : List Met) (stored : GroupId → ℕ) → IsMet (apply_notes s was was_stored met stored)
applies_formed s was was_stored met stored = either IsMet (has_rows s.cluster s.me) (flat_map (apply_note was was_stored met stored) (groups_of met)) [] (all (groups_of met)) tt
  where
    all : (groups : List GroupId) → IsMet (flat_map (apply_note was was_stored met stored) groups)
    all [] = tt
    all (group ∷ groups) = both_formed (apply_note was was_stored met stored group) (flat_map (apply_note was was_stored met stored) groups)
        (either IsMet (nat_lt (applied_at was was_stored group) (applied_at met stored group)) (Applies group (applied_at met stored group) ∷ []) [] (tt, tt) tt) (all groups)

-- ---- a step ends

sent_formed : (sends : List Message) → AreMessages sends → IsMet (map Sends sends)
sent_formed sends h = each_map IsMessage IsItem Sends (λ m b. b) sends h

ended_formed : (node : Node) (own : Met) (locks durable applies : List Met) (sends : List Message) (now : Now) → IsNode node → IsItem own → IsMet locks → IsMet durable → IsMet applies → AreMessages sends → IsNow now
    → IsStep (step_of node own locks durable applies sends now)
ended_formed node own locks durable applies sends now n o l d a m k =
    let notes = both_formed (((locks ++ durable) ++ applies) ++ now.valid) now.answers (both_formed ((locks ++ durable) ++ applies) now.valid (both_formed (locks ++ durable) applies (both_formed locks durable l d) a) k.valid) k.answers in
    record {
      notes = notes;
      sends = m;
      node = record {
        met = onto_formed (map Sends sends) _ (sent_formed sends m) (onto_formed ((((locks ++ durable) ++ applies) ++ now.valid) ++ now.answers) (own ∷ node.met) notes (o, n.met));
        open_operations = k.kept;
      };
    }

first_now : (met : List Met) (stored : GroupId → ℕ) → IsMet met → IsNow (at_first met stored)
first_now met stored h = record { met = h; kept = tt; valid = tt; answers = tt; sends = tt }

turn_formed : (s : Setting) → AreOutcomes s → IsSetting s → (now : Now) (t : Heard) → IsNow now → IsHeard t → IsNow (acts_in_turn s now t)
turn_formed s a h now t k i = goes_formed s a h (sends_more now t.sends) t.operation (sends_formed now t.sends k i.sends) i.operation

all_formed : (s : Setting) → AreOutcomes s → IsSetting s → (now : Now) (ts : List Heard) → IsNow now → Each IsHeard ts → IsNow (all_act s now ts)
all_formed s a h now ts k i = each_fold IsNow IsHeard (acts_in_turn s) (turn_formed s a h) now ts k i

-- ---- a message is taken

taken_formed : (s : Setting) (node : Node) (m : Message) (told : List Met) (ts : List Heard) (d : Option Decision) (reply told_news : List Message) → AreOutcomes s → IsSetting s → IsNode node → IsMessage m → IsMet told → Each IsHeard ts → AreDecided d
    → AreMessages reply → AreMessages told_news → IsStep (taken s node m told ts d reply told_news)
taken_formed s node m told ts d reply told_news a h n b t i f r w =
    ended_formed node (Takes m) told (decision_note d) (apply_notes s node.met node.stored acc.met acc.stored) ((reply ++ told_news) ++ acc.sends) acc n b t (note_formed d f) (applies_formed s node.met node.stored acc.met acc.stored)
    (each_both IsMessage (reply ++ told_news) acc.sends (each_both IsMessage reply told_news r w) done.sends) done
  where
    met : List Met
    met = onto (decision_note d) (onto told (Takes m ∷ node.met))

    acc : Now
    acc = all_act s (at_first met (stored_after s met node.stored d)) ts

    done : IsNow acc
    done = all_formed s a h (at_first met (stored_after s met node.stored d)) ts
        (first_now met (stored_after s met node.stored d) (onto_formed (decision_note d) (onto told (Takes m ∷ node.met)) (note_formed d f) (onto_formed told (Takes m ∷ node.met) t (b, n.met)))) i

take_formed : (s : Setting) (node : Node) (m : Message) → AreOutcomes s → IsSetting s → IsNode node → IsMessage m → IsStep (take_step s node m)
take_formed s node m a h n b = go (told_decision m.body) (told_is m.body b.body)
  where
    ts : List Heard
    ts = map (hears_message s (clock_of node.met) m) node.open_operations

    heard : Each IsHeard ts
    heard = each_map IsOperation IsHeard (hears_message s (clock_of node.met) m) (λ o i. heard_formed s (clock_of node.met) m o h b i) node.open_operations n.open_operations

    told : IsMet (told_notes s node.met m.from m.body)
    told = told_formed s node.met m.from m.to m.body n.met (record { from = b.from; to = b.to; body = b.body })

    reply : AreMessages (reply_to s.cluster s.me node.met m)
    reply = reply_formed s.cluster s.me node.met m h.me n.met b

    by : Option Decision → Step
    by (Some d) = taken s node m (told_notes s node.met m.from m.body) ts (if_new node.met (Some d)) (reply_to s.cluster s.me node.met m) []
    by None =
        taken s node m (told_notes s node.met m.from m.body) ts (if_new node.met (first_settled ts)) (reply_to s.cluster s.me node.met m)
        (news s (if_new node.met (first_settled ts)))

    go : (d : Option Decision) → AreDecided d → IsStep (by d)
    go (Some d) f = taken_formed s node m _ ts (if_new node.met (Some d)) _ [] a h n b told heard (new_is node.met (Some d) f) reply tt
    go None f = taken_formed s node m _ ts (if_new node.met (first_settled ts)) _ _ a h n b told heard (new_is node.met (first_settled ts) (first_is ts heard)) reply
        (news_formed s (if_new node.met (first_settled ts)) h.cluster h.me (new_is node.met (first_settled ts) (first_is ts heard)))

-- ---- a tick

forgets_formed : (epoch : Option Epoch) (forgotten : List ℕ) → IsMet (forget_notes epoch forgotten)
forgets_formed None forgotten = tt
forgets_formed (Some epoch) [] = tt
forgets_formed (Some epoch) (cell ∷ forgotten) = (tt, forgets_formed (Some epoch) forgotten)

lost_formed : (epoch : Option Epoch) → IsMet (lost_note epoch)
lost_formed None = tt
lost_formed (Some epoch) = (tt, tt)

lease_formed : (s : Setting) (met : List Met) (now : ℕ) → IsMet (lease_notes s met now)
lease_formed s met now = either IsMet (is_full s.cluster s.me) (tick_notes s.cluster met now) []
    (both_formed _ (lost_note (tick_told s.cluster met now).lost) (forgets_formed (epoch_after (start_of met) s.cluster.cells (coordinator_calls s.cluster met)) (filter (is_cell_in (tick_told s.cluster met now).forgot) (cells s.cluster))) (lost_formed (tick_told s.cluster met now).lost)) tt

lapse_formed : (s : Setting) (met : List Met) (now : ℕ) → IsMet met → IsMet (lapse_notes s met now)
lapse_formed s met now h = either IsMet (nat_le s.me s.cluster.cells) (lapses_at s.cluster s.me met now) [] (lapses_formed s.cluster s.me met now h) tt

ticked_formed : (s : Setting) (now : ℕ) → AreOutcomes s → IsSetting s → (acc : Now) (o : Operation) → IsNow acc → IsOperation o → IsNow (ticked s now acc o)
ticked_formed s now a h acc o k i = either IsNow (is_out s now o) (ends acc o.id (last_answer o)) (acts_in_turn s acc (does_due s now o)) (ends_formed acc o.id (last_answer o) k)
    (turn_formed s a h acc (does_due s now o) k (does_formed s now o h i))

tick_formed : (s : Setting) (node : Node) (now : ℕ) → AreOutcomes s → IsSetting s → IsNode node → IsClock now → IsStep (tick_step s node now)
tick_formed s node now a h n t =
    ended_formed node (Ticks now) (lease_notes s node.met now) (lapse_notes s node.met now) (apply_notes s node.met node.stored acc.met acc.stored)
    ((acquires_at s.cluster s.me node.met now ++ acc.sends) ++ background s node.met now) acc n t (lease_formed s node.met now) (lapse_formed s node.met now n.met) (applies_formed s node.met node.stored acc.met acc.stored)
    (each_both IsMessage (acquires_at s.cluster s.me node.met now ++ acc.sends) (background s node.met now)
    (each_both IsMessage (acquires_at s.cluster s.me node.met now) acc.sends (acquires_at_formed s.cluster s.me node.met now h.cluster h.me n.met t) done.sends) (background_formed s node.met now h.cluster h.me n.met))
    done
  where
    met : List Met
    met = onto (lapse_notes s node.met now) (onto (lease_notes s node.met now) (Ticks now ∷ node.met))

    acc : Now
    acc = fold (ticked s now) (at_first met (portion_of s node.met node.stored)) node.open_operations

    done : IsNow acc
    done = each_fold IsNow IsOperation (ticked s now) (ticked_formed s now a h) (at_first met (portion_of s node.met node.stored)) node.open_operations
        (first_now met (portion_of s node.met node.stored) (onto_formed (lapse_notes s node.met now) _ (lapse_formed s node.met now n.met) (onto_formed (lease_notes s node.met now) (Ticks now ∷ node.met) (lease_formed s node.met now) (t, n.met)))) n.open_operations

-- ---- a request begins

op_formed : (s : Setting) (met : List Met) → IsSetting s → IsMet met → IsSender (op_of s met)
op_formed s met h k = ((byte_of s.me h.me, start_formed met k, (omega arith, least (begun_of met + 1))), h.me)
  where
    least : (n : ℕ) → min n 4294967295 ≤ 4294967295
    least n = omega arith

opened_formed : (s : Setting) (met : List Met) (request : Request) (now : ℕ) → IsSetting s → IsMet met → IsRequest request → IsOperation (new_operation (op_of s met) request now)
opened_formed s met request now h k r = record { id = op_formed s met h k; request = r; message = tt; phase = ((omega arith, omega arith), first_formed now) }

read_begun : (s : Setting) (now : Now) (o : Operation) (request : ReadRequest) (mode : Mode) → AreOutcomes s → IsSetting s → IsNow now → IsOperation o → IsGroup request.group → Leads (read_begins s now o request mode)
read_begun s now o request Current a h k i g = begins_formed s now o request.group None [] h k i g tt
read_begun s now o request Snapshot a h k i g = ends_formed now o.id _ k
read_begun s now o request Inconsistent a h k i g = ends_formed now o.id _ k

local_begun : (s : Setting) (now : Now) (o : Operation) (request : FindRequest) (group : GroupId) (mode : Mode) → AreOutcomes s → IsSetting s → IsNow now → IsOperation o → IsGroup group → Leads (local_find_begins s now o request group mode)
local_begun s now o request group Current a h k i g = begins_formed s now o group None [] h k i g tt
local_begun s now o request group Snapshot a h k i g = ends_formed now o.id _ k
local_begun s now o request group Inconsistent a h k i g = ends_formed now o.id _ k

find_begun : (s : Setting) (now : Now) (o : Operation) (request : FindRequest) (group : Option GroupId) → AreOutcomes s → IsSetting s → IsNow now → IsOperation o → IsOption IsGroup group → Leads (find_begins s now o request group)
find_begun s now o request None a h k i g = ends_formed now o.id _ k
find_begun s now o request (Some group) a h k i g = local_begun s now o request group request.mode a h k i g

first_by : (s : Setting) (now : Now) (id : OpId) (request : Request) (began : ℕ) (visited : List GroupId) (message : Option Enter) (phase : Phase) → AreOutcomes s → IsSetting s → IsNow now
    → IsOperation (record { id = id; request = request; began = began; visited = visited; message = message; phase = phase })
    → Leads (acts_first s now (record { id = id; request = request; began = began; visited = visited; message = message; phase = phase }))
first_by s now id (Txn t) began visited message phase a h k i = begins_formed s now _ t.group None [] h k i (i.request).group tt
first_by s now id (Batch group ts) began visited message phase a h k i = begins_formed s now _ group None [] h k i (i.request).0 tt
first_by s now id (Read request) began visited message phase a h k i = read_begun s now _ request request.mode a h k i i.request
first_by s now id (Find request) began visited message phase a h k i = find_begun s now _ request request.group a h k i i.request
first_by s now id PumpEnter began visited message phase a h k i = picks_enter s now _ [] h k i
first_by s now id PumpHandle began visited message phase a h k i = picks_handle s now _ [] h k i
first_by s now id Refresh began visited message phase a h k i = ends_formed now id _ k

refused_or : (s : Setting) (now : Now) (o : Operation) (answer : Option Answer) → AreOutcomes s → IsSetting s → IsNow now → IsOperation o → IsNow (unless_refused s now o answer)
refused_or s now o None a h k i = rests_formed (length (groups_of now.met) + 2) s (acts_first s now o) a h (first_by s now o.id o.request o.began o.visited o.message o.phase a h k (record { id = i.id; request = i.request; message = i.message; phase = i.phase }))
refused_or s now o (Some answer) a h k i = ends_formed now o.id answer k

begin_formed : (s : Setting) (node : Node) (request : Request) (text : List ℕ) → AreOutcomes s → IsSetting s → IsNode node → IsRequest request → IsStep (begin_step s node request text)
begin_formed s node request text a h n r =
    ended_formed node own [] [] (apply_notes s node.met node.stored now.met now.stored) now.sends now n tt tt tt (applies_formed s node.met node.stored now.met now.stored) done.sends done
  where
    own : Met
    own = Begins (op_of s node.met) text

    now : Now
    now = unless_refused s (at_open (at_first (own ∷ node.met) node.stored) node.open_operations) (new_operation (op_of s node.met) request (clock_of node.met)) (refusal s node request)

    done : IsNow now
    done = refused_or s (at_open (at_first (own ∷ node.met) node.stored) node.open_operations) (new_operation (op_of s node.met) request (clock_of node.met)) (refusal s node request) a h
        (record { met = (tt, n.met); kept = n.open_operations; valid = tt; answers = tt; sends = tt }) (opened_formed s node.met request (clock_of node.met) h n.met r)

pub step_formed : (s : Setting) (node : Node) (event : Event) → AreOutcomes s → IsSetting s → IsNode node → IsEvent event → IsStep (step s node event)
step_formed s node (Tick now) a h n e = tick_formed s node now a h n e
step_formed s node (Take message) a h n e = take_formed s node message a h n e
step_formed s node (Begin request text) a h n e = begin_formed s node request text a h n e

-- ---- a start, and a crash

start_note_formed : (met : List Met) (group : GroupId) → IsMet (start_note met group)
start_note_formed met group = either IsMet (nat_lt 0 (prefix_of met group)) (Applies group (prefix_of met group) ∷ []) [] (tt, tt) tt

start_each : (met : List Met) (groups : List GroupId) → IsMet (flat_map (start_note met) groups)
start_each met [] = tt
start_each met (group ∷ groups) = both_formed (start_note met group) (flat_map (start_note met) groups) (start_note_formed met group) (start_each met groups)

pub started : (s : Setting) (number : ℕ) (owed met : List Met) → IsU32 number → IsMet owed → IsMet met → IsNode (start s number owed met)
started s number owed met n o h = record {
  met = onto_formed (start_items s number owed met) met (both_formed (Starts number ∷ owed) (start_notes s (onto owed (Starts number ∷ met))) (n, o)
      (either IsMet (has_rows s.cluster s.me) (flat_map (start_note (onto owed (Starts number ∷ met))) (groups_of (onto owed (Starts number ∷ met)))) [] (start_each (onto owed (Starts number ∷ met)) (groups_of (onto owed (Starts number ∷ met)))) tt)) h;
  open_operations = tt;
}

pub crash_formed : (node : Node) → IsNode node → IsNode (crashed node)
crash_formed node h = record { met = (tt, h.met); open_operations = tt }
