-- The step of a node notes, sends and leaves only what stays within its cluster.
use Rattle.std.proofs.Common.{ℕ, ◌==◌, ◌&&◌, ◌≤◌, Bool, cond, List, [], ◌∷◌, ◌++◌, length, map, flat_map, fold, Option, Some, None, ◌≡◌, refl, ◌+◌}
use Rattle.std.specs.Prelude.{filter, nat_le, nat_lt, is_none}
use Rattle.mega_base.specs.declared.names.Epoch.{Epoch}
use Rattle.mega_base.specs.declared.names.GroupId.{GroupId}
use Rattle.mega_base.specs.declared.names.OpId.{OpId}
use Rattle.mega_cluster.specs.declared.cluster.Cluster.{Cluster}
use Rattle.mega_entry.specs.declared.content.Content.{Content}
use Rattle.mega_entry.specs.declared.content.Enter.{Enter}
use Rattle.mega_wire.specs.declared.message.Message.{Message}
use Rattle.mega_wire.specs.declared.message.Body.{Body}
use Rattle.mega_wire.specs.declared.message.Body.TheVariants.{Invalidate, Decide, Have, Acquire, Granted as GrantedBody}
use Rattle.mega_locks.specs.declared.asked.Asked.{Asked}
use Rattle.mega_locks.specs.declared.asked.Asked.TheVariants.{Granted, Renewed, GreaterHeld, Over}
use Rattle.mega_locks.specs.History.{lapse_for, nodes as numbers}
use Rattle.mega_coordinator.specs.declared.answers.Counted.{Counted}
use Rattle.mega_coordinator.specs.declared.answers.Counted.TheVariants.{No, Yes, Serving}
use Rattle.mega_coordinator.specs.History.{epoch_after}
use Rattle.mega_outcome.specs.declared.answer.Answer.{Answer}
use Rattle.mega_outcome.specs.declared.request.Mode.{Mode}
use Rattle.mega_outcome.specs.declared.request.Mode.TheVariants.{Current, Snapshot, Inconsistent}
use Rattle.mega_outcome.specs.declared.request.Request.{Request}
use Rattle.mega_outcome.specs.declared.request.Request.TheVariants.{Txn, Batch, Read, Find, PumpEnter, PumpHandle, Refresh}
use Rattle.mega_outcome.specs.declared.request.ReadRequest.{ReadRequest}
use Rattle.mega_outcome.specs.declared.request.FindRequest.{FindRequest}
use Rattle.mega_format_laws.specs.of_rules.of_read.of_propose.Rounds.{settled}
use Rattle.mega_format_laws.specs.of_rules.of_read.Catching.{read_settled, site}
use Rattle.mega_format_laws.specs.of_rules.Met.{Met, Starts, Ticks, Begins, Takes, Sends, Counts, Serves, Invalidates, Applies}
use Rattle.mega_format_laws.specs.of_rules.Members.{cells, has_rows, is_full, keep_of}
use Rattle.mega_format_laws.specs.of_rules.Clock.{clock_of, start_of}
use Rattle.mega_format_laws.specs.of_rules.Logs.{decided, groups_of, prefix_of}
use Rattle.mega_format_laws.specs.of_rules.Locks.{asked_for, cell_calls, grant_note, lapse_note, lapses_at}
use Rattle.mega_format_laws.specs.of_rules.Coordinators.{acquires_at, coordinator_calls, counts_notes, forget_notes, grant_notes, is_cell_in, lost_note, tick_notes, tick_told}
use Rattle.mega_format_laws.specs.of_rules.Replies.{reply_to}
use Rattle.mega_format_laws.specs.of_rules.Operations.{Node, Now, Operation, Phase, Proposes, Reads, Setting}
use Rattle.mega_format_laws.specs.of_rules.Acting.{ends, reader_of, sends_more}
use Rattle.mega_format_laws.specs.of_rules.Steps.{Begin, Decision, Event, Heard, Step, Take, Tick, acts_first, acts_in_turn, all_act, applied_at, apply_note, apply_notes, at_first, at_open, background, begin_step, crashed, decision_at, decision_note, does_due, find_begins, first_settled, hears_message, if_new, is_out, lapse_notes, last_answer, lease_notes, local_find_begins, new_operation, news, onto, op_of, portion_of, read_begins, read_decision, refusal, settled_by, start, start_items, start_note, start_notes, step, step_of, stored_after, take_step, taken, tick_step, ticked, told_decision, told_notes, unless_refused}
use Rattle.mega_format_laws.specs.Rounds.{Each}
use Rattle.mega_format_laws.proofs.Each.{each_both, each_fold, each_map, either}
use Rattle.mega_member_laws.specs.Messages.{AreWithin, CarriesHere, IsHere, IsWithin, NamesHere}
use Rattle.mega_member_laws.specs.Nodes.{DecidesHere, EventWithin, ItemWithin, MetWithin, NowWithin, OperationWithin, PhaseWithin, StaysWithin, StepWithin}
use Rattle.mega_member_laws.proofs.Members.{any_flat}
use Rattle.mega_member_laws.proofs.Rounds.{due_within, settled_here, takes_within}
use Rattle.mega_member_laws.proofs.Reading.{falls_due_within, first_within, hears_within, read_settled_here, site_within}
use Rattle.mega_member_laws.proofs.Replies.{acquires_at_within, background_within, news_within, reply_within}
use Rattle.mega_member_laws.proofs.Acting.{HasCells, Leads, begins_within, ends_within, goes_within, picks_enter, picks_handle, reader_within, rests_stays, sends_within}

onto_within : (c : Cluster) (items met : List Met) → MetWithin c items → MetWithin c met → MetWithin c (onto items met)
onto_within c [] met h k = k
onto_within c (one ∷ more) met h k = onto_within c more (one ∷ met) h.1 (h.0, k)

both_within : (c : Cluster) (items more : List Met) → MetWithin c items → MetWithin c more → MetWithin c (items ++ more)
both_within c items more h k = each_both (ItemWithin c) items more h k

-- ---- what a message tells the cell and the coordinator

grant_within : (c : Cluster) (node : ℕ) (epoch : Epoch) (answered : Asked) → IsHere c node → MetWithin c (grant_note node epoch answered)
grant_within c node epoch Granted h = (h, tt)
grant_within c node epoch Renewed h = tt
grant_within c node epoch (GreaterHeld greatest) h = tt
grant_within c node epoch (Over greatest) h = tt

counted_within : (c : Cluster) (cell : ℕ) (epoch : Epoch) (was : Bool) (counted : Counted) → MetWithin c (counts_notes cell epoch was counted)
counted_within c cell epoch was No = tt
counted_within c cell epoch was Yes = either (MetWithin c) was [] (Counts cell epoch ∷ []) tt (tt, tt)
counted_within c cell epoch was Serving = both_within c (cond was [] (Counts cell epoch ∷ [])) (Serves epoch ∷ []) (either (MetWithin c) was [] (Counts cell epoch ∷ []) tt (tt, tt)) (tt, tt)

grants_within : (c : Cluster) (met : List Met) (cell : ℕ) (epoch : Epoch) (clock : ℕ) → MetWithin c (grant_notes c met cell epoch clock)
grants_within c met cell epoch clock = counted_within c cell epoch _ _

told_within : (s : Setting) (met : List Met) (from : ℕ) (body : Body) → IsHere s.cluster from → MetWithin s.cluster (told_notes s met from body)
told_within s met from (Acquire cell epoch clock) h = either (MetWithin s.cluster) (cell == s.me && nat_le s.me s.cluster.cells) (grant_note from epoch (asked_for s.cluster s.me met from epoch)) []
    (grant_within s.cluster from epoch (asked_for s.cluster s.me met from epoch) h) tt
told_within s met from (GrantedBody cell epoch clock) h = either (MetWithin s.cluster) (is_full s.cluster s.me && nat_le cell s.cluster.cells) (grant_notes s.cluster met cell epoch clock) []
    (grants_within s.cluster met cell epoch clock) tt
told_within s met from (Invalidate op group position) h = either (MetWithin s.cluster) (is_full s.cluster s.me) (Invalidates group position.0 ∷ []) [] (tt, tt) tt
told_within s met from _ h = tt

-- ---- open operations hear

pub record HeardWithin (c : Cluster) (t : Heard) : Type 0 where
  pub operation : OperationWithin c t.operation
  pub sends : AreWithin c t.sends

hears_by : (s : Setting) (now : ℕ) (m : Message) (id : OpId) (request : Request) (began : ℕ) (visited : List GroupId) (message : Option Enter) (phase : Phase) → HasCells s → IsWithin s.cluster m
    → OperationWithin s.cluster (record { id = id; request = request; began = began; visited = visited; message = message; phase = phase })
    → HeardWithin s.cluster (hears_message s now m (record { id = id; request = request; began = began; visited = visited; message = message; phase = phase }))
hears_by s now m id request began visited message (Reads group r) h b i =
    let t = hears_within s.cluster (reader_of s id group) r m.from now m.body (reader_within s id group h i.id) i.phase b.body in
    record { operation = record { id = i.id; phase = t.reading }; sends = t.sends }
hears_by s now m id request began visited message (Proposes group n asked p promised) h b i =
    let t = takes_within s.cluster (site (reader_of s id group) asked n) p m.from now m.body (site_within s.cluster (reader_of s id group) asked n (reader_within s id group h i.id)) i.phase b.body in
    record { operation = record { id = i.id; phase = t.proposal }; sends = t.sends }

heard_within : (s : Setting) (now : ℕ) (m : Message) (o : Operation) → HasCells s → IsWithin s.cluster m → OperationWithin s.cluster o → HeardWithin s.cluster (hears_message s now m o)
heard_within s now m o h b i = hears_by s now m o.id o.request o.began o.visited o.message o.phase h b (record { id = i.id; phase = i.phase })

due_by : (s : Setting) (now : ℕ) (id : OpId) (request : Request) (began : ℕ) (visited : List GroupId) (message : Option Enter) (phase : Phase) → HasCells s
    → OperationWithin s.cluster (record { id = id; request = request; began = began; visited = visited; message = message; phase = phase })
    → HeardWithin s.cluster (does_due s now (record { id = id; request = request; began = began; visited = visited; message = message; phase = phase }))
due_by s now id request began visited message (Reads group r) h i =
    let t = falls_due_within s.cluster (reader_of s id group) r s.cluster.retry now (reader_within s id group h i.id) i.phase in
    record { operation = record { id = i.id; phase = t.reading }; sends = t.sends }
due_by s now id request began visited message (Proposes group n asked p promised) h i =
    let t = due_within s.cluster (site (reader_of s id group) asked n) p s.cluster.retry now (site_within s.cluster (reader_of s id group) asked n (reader_within s id group h i.id)) i.phase in
    record { operation = record { id = i.id; phase = t.proposal }; sends = t.sends }

does_within : (s : Setting) (now : ℕ) (o : Operation) → HasCells s → OperationWithin s.cluster o → HeardWithin s.cluster (does_due s now o)
does_within s now o h i = due_by s now o.id o.request o.began o.visited o.message o.phase h (record { id = i.id; phase = i.phase })

-- ---- the decision of a step

at_here : (c : Cluster) (group : GroupId) (n : ℕ) (found : Option Content) → ((entry : Content) → found ≡ Some entry → NamesHere c entry) → DecidesHere c (decision_at group n found)
at_here c group n None h = tt
at_here c group n (Some entry) h = h entry refl

read_here : (c : Cluster) (group : GroupId) (found : Option (ℕ × Content)) → ((one : ℕ × Content) → found ≡ Some one → NamesHere c one.1) → DecidesHere c (read_decision group found)
read_here c group None h = tt
read_here c group (Some found) h = h found refl

settles_by : (c : Cluster) (id : OpId) (request : Request) (began : ℕ) (visited : List GroupId) (message : Option Enter) (phase : Phase) → PhaseWithin c phase
    → DecidesHere c (settled_by (record { id = id; request = request; began = began; visited = visited; message = message; phase = phase }))
settles_by c id request began visited message (Reads group r) f = read_here c group (read_settled r) (λ one e. read_settled_here c r one f e)
settles_by c id request began visited message (Proposes group n asked p promised) f = at_here c group n (settled p) (λ entry e. settled_here c p entry f e)

settled_is : (c : Cluster) (o : Operation) → OperationWithin c o → DecidesHere c (settled_by o)
settled_is c o i = settles_by c o.id o.request o.began o.visited o.message o.phase i.phase

first_is : (c : Cluster) (ts : List Heard) → Each (HeardWithin c) ts → DecidesHere c (first_settled ts)
first_is c [] h = tt
first_is c (t ∷ ts) h = go (settled_by t.operation) (settled_is c t.operation (h.0).operation) (first_is c ts h.1)
  where
    or : Option Decision → Option Decision → Option Decision
    or None other = other
    or (Some d) other = Some d

    go : (found : Option Decision) → DecidesHere c found → DecidesHere c (first_settled ts) → DecidesHere c (or found (first_settled ts))
    go None f k = k
    go (Some d) f k = f

told_is : (c : Cluster) (body : Body) → CarriesHere c body → DecidesHere c (told_decision body)
told_is c (Decide group position entry) b = b
told_is c (Have op group position entry) b = b
told_is c _ b = tt

new_is : (c : Cluster) (met : List Met) (found : Option Decision) → DecidesHere c found → DecidesHere c (if_new met found)
new_is c met None h = tt
new_is c met (Some d) h = either (DecidesHere c) (is_none (decided met d.group d.position)) (Some d) None h tt

note_within : (c : Cluster) (found : Option Decision) → DecidesHere c found → MetWithin c (decision_note found)
note_within c None h = tt
note_within c (Some d) h = (h, tt)

-- ---- what is applied

applies_within : (s : Setting) (was : List Met) (was_stored : GroupId → ℕ) (met : List Met) (stored : GroupId → ℕ) → MetWithin s.cluster (apply_notes s was was_stored met stored)
applies_within s was was_stored met stored = either (MetWithin s.cluster) (has_rows s.cluster s.me) (flat_map (apply_note was was_stored met stored) (groups_of met)) []
    (any_flat (ItemWithin s.cluster) (apply_note was was_stored met stored)
    (λ group. either (MetWithin s.cluster) (nat_lt (applied_at was was_stored group) (applied_at met stored group)) (Applies group (applied_at met stored group) ∷ []) [] (tt, tt) tt) (groups_of met)) tt

-- ---- a step ends

sent_within : (c : Cluster) (sends : List Message) → AreWithin c sends → MetWithin c (map Sends sends)
sent_within c sends h = each_map (IsWithin c) (ItemWithin c) Sends (λ m b. b) sends h

ended_within : (c : Cluster) (node : Node) (own : Met) (locks durable applies : List Met) (sends : List Message) (now : Now) → StaysWithin c node → ItemWithin c own → MetWithin c locks → MetWithin c durable → MetWithin c applies → AreWithin c sends → NowWithin c now
    → StepWithin c (step_of node own locks durable applies sends now)
ended_within c node own locks durable applies sends now n o l d a m k =
    let notes = both_within c (((locks ++ durable) ++ applies) ++ now.valid) now.answers (both_within c ((locks ++ durable) ++ applies) now.valid (both_within c (locks ++ durable) applies (both_within c locks durable l d) a) k.valid) k.answers in
    record {
      notes = notes;
      sends = m;
      node = record {
        met = onto_within c (map Sends sends) _ (sent_within c sends m) (onto_within c ((((locks ++ durable) ++ applies) ++ now.valid) ++ now.answers) (own ∷ node.met) notes (o, n.met));
        open_operations = k.kept;
      };
    }

first_now : (c : Cluster) (met : List Met) (stored : GroupId → ℕ) → MetWithin c met → NowWithin c (at_first met stored)
first_now c met stored h = record { met = h; kept = tt; valid = tt; answers = tt; sends = tt }

turn_within : (s : Setting) → HasCells s → (now : Now) (t : Heard) → NowWithin s.cluster now → HeardWithin s.cluster t → NowWithin s.cluster (acts_in_turn s now t)
turn_within s h now t k i = goes_within s h (sends_more now t.sends) t.operation (sends_within s.cluster now t.sends k i.sends) i.operation

all_within : (s : Setting) → HasCells s → (now : Now) (ts : List Heard) → NowWithin s.cluster now → Each (HeardWithin s.cluster) ts → NowWithin s.cluster (all_act s now ts)
all_within s h now ts k i = each_fold (NowWithin s.cluster) (HeardWithin s.cluster) (acts_in_turn s) (turn_within s h) now ts k i

-- ---- a message is taken

taken_within : (s : Setting) (node : Node) (m : Message) (told : List Met) (ts : List Heard) (d : Option Decision) (reply told_news : List Message) → HasCells s → StaysWithin s.cluster node → IsWithin s.cluster m → MetWithin s.cluster told → Each (HeardWithin s.cluster) ts
    → DecidesHere s.cluster d → AreWithin s.cluster reply → AreWithin s.cluster told_news → StepWithin s.cluster (taken s node m told ts d reply told_news)
taken_within s node m told ts d reply told_news h n b t i f r w =
    ended_within s.cluster node (Takes m) told (decision_note d) (apply_notes s node.met node.stored acc.met acc.stored) ((reply ++ told_news) ++ acc.sends) acc n b t (note_within s.cluster d f) (applies_within s node.met node.stored acc.met acc.stored)
    (each_both (IsWithin s.cluster) (reply ++ told_news) acc.sends (each_both (IsWithin s.cluster) reply told_news r w) done.sends) done
  where
    met : List Met
    met = onto (decision_note d) (onto told (Takes m ∷ node.met))

    acc : Now
    acc = all_act s (at_first met (stored_after s met node.stored d)) ts

    done : NowWithin s.cluster acc
    done = all_within s h (at_first met (stored_after s met node.stored d)) ts
        (first_now s.cluster met (stored_after s met node.stored d) (onto_within s.cluster (decision_note d) (onto told (Takes m ∷ node.met)) (note_within s.cluster d f) (onto_within s.cluster told (Takes m ∷ node.met) t (b, n.met)))) i

take_within : (s : Setting) (node : Node) (m : Message) → IsHere s.cluster s.me → HasCells s → StaysWithin s.cluster node → IsWithin s.cluster m → StepWithin s.cluster (take_step s node m)
take_within s node m me h n b = go (told_decision m.body) (told_is s.cluster m.body b.body)
  where
    ts : List Heard
    ts = map (hears_message s (clock_of node.met) m) node.open_operations

    heard : Each (HeardWithin s.cluster) ts
    heard = each_map (OperationWithin s.cluster) (HeardWithin s.cluster) (hears_message s (clock_of node.met) m) (λ o i. heard_within s (clock_of node.met) m o h b i) node.open_operations n.open_operations

    told : MetWithin s.cluster (told_notes s node.met m.from m.body)
    told = told_within s node.met m.from m.body b.from

    reply : AreWithin s.cluster (reply_to s.cluster s.me node.met m)
    reply = reply_within s.cluster s.me node.met m me n.met b

    by : Option Decision → Step
    by (Some d) = taken s node m (told_notes s node.met m.from m.body) ts (if_new node.met (Some d)) (reply_to s.cluster s.me node.met m) []
    by None =
        taken s node m (told_notes s node.met m.from m.body) ts (if_new node.met (first_settled ts)) (reply_to s.cluster s.me node.met m)
        (news s (if_new node.met (first_settled ts)))

    go : (d : Option Decision) → DecidesHere s.cluster d → StepWithin s.cluster (by d)
    go (Some d) f = taken_within s node m _ ts (if_new node.met (Some d)) _ [] h n b told heard (new_is s.cluster node.met (Some d) f) reply tt
    go None f = taken_within s node m _ ts (if_new node.met (first_settled ts)) _ _ h n b told heard (new_is s.cluster node.met (first_settled ts) (first_is s.cluster ts heard)) reply
        (news_within s (if_new node.met (first_settled ts)) me (new_is s.cluster node.met (first_settled ts) (first_is s.cluster ts heard)))

-- ---- a tick

forgets_within : (c : Cluster) (epoch : Option Epoch) (forgotten : List ℕ) → MetWithin c (forget_notes epoch forgotten)
forgets_within c None forgotten = tt
forgets_within c (Some epoch) [] = tt
forgets_within c (Some epoch) (cell ∷ forgotten) = (tt, forgets_within c (Some epoch) forgotten)

lost_within : (c : Cluster) (epoch : Option Epoch) → MetWithin c (lost_note epoch)
lost_within c None = tt
lost_within c (Some epoch) = (tt, tt)

lease_within : (s : Setting) (met : List Met) (now : ℕ) → MetWithin s.cluster (lease_notes s met now)
lease_within s met now = either (MetWithin s.cluster) (is_full s.cluster s.me) (tick_notes s.cluster met now) []
    (both_within s.cluster _ (lost_note (tick_told s.cluster met now).lost)
    (forgets_within s.cluster (epoch_after (start_of met) s.cluster.cells (coordinator_calls s.cluster met)) (filter (is_cell_in (tick_told s.cluster met now).forgot) (cells s.cluster))) (lost_within s.cluster (tick_told s.cluster met now).lost)) tt

lapsed_within : (c : Cluster) (node : ℕ) (found : Option Epoch) → MetWithin c (lapse_note node found)
lapsed_within c node None = tt
lapsed_within c node (Some epoch) = (tt, tt)

lapses_within : (c : Cluster) (me : ℕ) (met : List Met) (now : ℕ) → MetWithin c (lapses_at c me met now)
lapses_within c me met now = any_flat (ItemWithin c) (λ node. lapse_note node (lapse_for (cell_calls c me met) now (keep_of c) node)) (λ node. lapsed_within c node (lapse_for (cell_calls c me met) now (keep_of c) node)) numbers

lapse_within : (s : Setting) (met : List Met) (now : ℕ) → MetWithin s.cluster (lapse_notes s met now)
lapse_within s met now = either (MetWithin s.cluster) (nat_le s.me s.cluster.cells) (lapses_at s.cluster s.me met now) [] (lapses_within s.cluster s.me met now) tt

ticked_within : (s : Setting) (now : ℕ) → HasCells s → (acc : Now) (o : Operation) → NowWithin s.cluster acc → OperationWithin s.cluster o → NowWithin s.cluster (ticked s now acc o)
ticked_within s now h acc o k i = either (NowWithin s.cluster) (is_out s now o) (ends acc o.id (last_answer o)) (acts_in_turn s acc (does_due s now o)) (ends_within s.cluster acc o.id (last_answer o) k)
    (turn_within s h acc (does_due s now o) k (does_within s now o h i))

tick_within : (s : Setting) (node : Node) (now : ℕ) → IsHere s.cluster s.me → HasCells s → StaysWithin s.cluster node → StepWithin s.cluster (tick_step s node now)
tick_within s node now me h n =
    ended_within s.cluster node (Ticks now) (lease_notes s node.met now) (lapse_notes s node.met now) (apply_notes s node.met node.stored acc.met acc.stored)
    ((acquires_at s.cluster s.me node.met now ++ acc.sends) ++ background s node.met now) acc n tt (lease_within s node.met now) (lapse_within s node.met now) (applies_within s node.met node.stored acc.met acc.stored)
    (each_both (IsWithin s.cluster) (acquires_at s.cluster s.me node.met now ++ acc.sends) (background s node.met now)
    (each_both (IsWithin s.cluster) (acquires_at s.cluster s.me node.met now) acc.sends (acquires_at_within s.cluster s.me node.met now h.few me) done.sends) (background_within s node.met now me))
    done
  where
    met : List Met
    met = onto (lapse_notes s node.met now) (onto (lease_notes s node.met now) (Ticks now ∷ node.met))

    acc : Now
    acc = fold (ticked s now) (at_first met (portion_of s node.met node.stored)) node.open_operations

    done : NowWithin s.cluster acc
    done = each_fold (NowWithin s.cluster) (OperationWithin s.cluster) (ticked s now) (ticked_within s now h) (at_first met (portion_of s node.met node.stored)) node.open_operations
        (first_now s.cluster met (portion_of s node.met node.stored) (onto_within s.cluster (lapse_notes s node.met now) _ (lapse_within s node.met now) (onto_within s.cluster (lease_notes s node.met now) (Ticks now ∷ node.met) (lease_within s node.met now) (tt, n.met)))) n.open_operations

-- ---- a request begins

opened_within : (s : Setting) (met : List Met) (request : Request) (now : ℕ) → IsHere s.cluster s.me → OperationWithin s.cluster (new_operation (op_of s met) request now)
opened_within s met request now me = record { id = me; phase = first_within s.cluster now }

read_begun : (s : Setting) (now : Now) (o : Operation) (request : ReadRequest) (mode : Mode) → HasCells s → NowWithin s.cluster now → OperationWithin s.cluster o → Leads s.cluster (read_begins s now o request mode)
read_begun s now o request Current h k i = begins_within s now o request.group None [] h k i
read_begun s now o request Snapshot h k i = ends_within s.cluster now o.id _ k
read_begun s now o request Inconsistent h k i = ends_within s.cluster now o.id _ k

local_begun : (s : Setting) (now : Now) (o : Operation) (request : FindRequest) (group : GroupId) (mode : Mode) → HasCells s → NowWithin s.cluster now → OperationWithin s.cluster o → Leads s.cluster (local_find_begins s now o request group mode)
local_begun s now o request group Current h k i = begins_within s now o group None [] h k i
local_begun s now o request group Snapshot h k i = ends_within s.cluster now o.id _ k
local_begun s now o request group Inconsistent h k i = ends_within s.cluster now o.id _ k

find_begun : (s : Setting) (now : Now) (o : Operation) (request : FindRequest) (group : Option GroupId) → HasCells s → NowWithin s.cluster now → OperationWithin s.cluster o → Leads s.cluster (find_begins s now o request group)
find_begun s now o request None h k i = ends_within s.cluster now o.id _ k
find_begun s now o request (Some group) h k i = local_begun s now o request group request.mode h k i

first_by : (s : Setting) (now : Now) (id : OpId) (request : Request) (began : ℕ) (visited : List GroupId) (message : Option Enter) (phase : Phase) → HasCells s → NowWithin s.cluster now
    → OperationWithin s.cluster (record { id = id; request = request; began = began; visited = visited; message = message; phase = phase })
    → Leads s.cluster (acts_first s now (record { id = id; request = request; began = began; visited = visited; message = message; phase = phase }))
first_by s now id (Txn t) began visited message phase h k i = begins_within s now _ t.group None [] h k i
first_by s now id (Batch group ts) began visited message phase h k i = begins_within s now _ group None [] h k i
first_by s now id (Read request) began visited message phase h k i = read_begun s now _ request request.mode h k i
first_by s now id (Find request) began visited message phase h k i = find_begun s now _ request request.group h k i
first_by s now id PumpEnter began visited message phase h k i = picks_enter s now _ [] h k i
first_by s now id PumpHandle began visited message phase h k i = picks_handle s now _ [] h k i
first_by s now id Refresh began visited message phase h k i = ends_within s.cluster now id _ k

refused_or : (s : Setting) (now : Now) (o : Operation) (answer : Option Answer) → HasCells s → NowWithin s.cluster now → OperationWithin s.cluster o → NowWithin s.cluster (unless_refused s now o answer)
refused_or s now o None h k i = rests_stays (length (groups_of now.met) + 2) s (acts_first s now o) h (first_by s now o.id o.request o.began o.visited o.message o.phase h k (record { id = i.id; phase = i.phase }))
refused_or s now o (Some answer) h k i = ends_within s.cluster now o.id answer k

begin_within : (s : Setting) (node : Node) (request : Request) (text : List ℕ) → IsHere s.cluster s.me → HasCells s → StaysWithin s.cluster node → StepWithin s.cluster (begin_step s node request text)
begin_within s node request text me h n =
    ended_within s.cluster node own [] [] (apply_notes s node.met node.stored now.met now.stored) now.sends now n tt tt tt (applies_within s node.met node.stored now.met now.stored) done.sends done
  where
    own : Met
    own = Begins (op_of s node.met) text

    now : Now
    now = unless_refused s (at_open (at_first (own ∷ node.met) node.stored) node.open_operations) (new_operation (op_of s node.met) request (clock_of node.met)) (refusal s node request)

    done : NowWithin s.cluster now
    done = refused_or s (at_open (at_first (own ∷ node.met) node.stored) node.open_operations) (new_operation (op_of s node.met) request (clock_of node.met)) (refusal s node request) h
        (record { met = (tt, n.met); kept = n.open_operations; valid = tt; answers = tt; sends = tt }) (opened_within s node.met request (clock_of node.met) me)

step_by : (s : Setting) (node : Node) (event : Event) → IsHere s.cluster s.me → HasCells s → StaysWithin s.cluster node → EventWithin s.cluster event → StepWithin s.cluster (step s node event)
step_by s node (Tick now) me h n e = tick_within s node now me h n
step_by s node (Take message) me h n e = take_within s node message me h n e
step_by s node (Begin request text) me h n e = begin_within s node request text me h n

pub step_within : (s : Setting) (node : Node) (event : Event) → IsHere s.cluster s.me → s.cluster.cells ≤ length s.cluster.nodes → StaysWithin s.cluster node → EventWithin s.cluster event → StepWithin s.cluster (step s node event)
step_within s node event me few n e = step_by s node event me (record { few = few }) n e

-- ---- a start, and a crash

start_note_within : (c : Cluster) (met : List Met) (group : GroupId) → MetWithin c (start_note met group)
start_note_within c met group = either (MetWithin c) (nat_lt 0 (prefix_of met group)) (Applies group (prefix_of met group) ∷ []) [] (tt, tt) tt

pub started : (s : Setting) (number : ℕ) (owed met : List Met) → MetWithin s.cluster owed → MetWithin s.cluster met → StaysWithin s.cluster (start s number owed met)
started s number owed met o h = record {
  met = onto_within s.cluster (start_items s number owed met) met (both_within s.cluster (Starts number ∷ owed) (start_notes s (onto owed (Starts number ∷ met))) (tt, o)
      (either (MetWithin s.cluster) (has_rows s.cluster s.me) (flat_map (start_note (onto owed (Starts number ∷ met))) (groups_of (onto owed (Starts number ∷ met)))) []
      (any_flat (ItemWithin s.cluster) (start_note (onto owed (Starts number ∷ met))) (start_note_within s.cluster (onto owed (Starts number ∷ met))) (groups_of (onto owed (Starts number ∷ met)))) tt)) h;
  open_operations = tt;
}

pub first_started : (s : Setting) (number : ℕ) → StaysWithin s.cluster (start s number [] [])
first_started s number = started s number [] [] tt tt

pub crash_within : (c : Cluster) (node : Node) → StaysWithin c node → StaysWithin c (crashed node)
crash_within c node h = record { met = (tt, h.met); open_operations = tt }
