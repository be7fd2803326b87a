-- The step of a node notes, sends and leaves only own entries.
use Rattle.std.proofs.Common.{ℕ, List, [], ◌∷◌, ◌++◌, map, fold, Option, Some, None}
use Rattle.std.specs.Prelude.{is_none}
use Rattle.mega_base.specs.Codec.{IsOption}
use Rattle.mega_base.specs.declared.names.GroupId.{GroupId}
use Rattle.mega_base.specs.declared.names.OpId.{OpId}
use Rattle.mega_entry.specs.declared.content.Content.{Content}
use Rattle.mega_entry.specs.declared.content.Enter.{Enter}
use Rattle.mega_schema.specs.declared.schema.Schema.{Schema}
use Rattle.mega_wire.specs.declared.message.Message.{Message}
use Rattle.mega_wire.specs.declared.message.Body.{Body}
use Rattle.mega_wire.specs.declared.message.Body.TheVariants.{Decide, Have}
use Rattle.mega_outcome.specs.declared.request.Request.{Request}
use Rattle.mega_node_laws.specs.Acted.{acted_on}
use Rattle.mega_node_laws.specs.Own.{HasOwnRows}
use Rattle.mega_node_laws.proofs.Ending.{step_ends}
use Rattle.mega_node_laws.proofs.Owned.{owned_of_same_logs}
use Rattle.mega_run_laws.specs.of_rules.of_read.of_propose.Rounds.{settled}
use Rattle.mega_run_laws.specs.of_rules.of_read.Catching.{read_settled, site}
use Rattle.mega_run_laws.specs.of_rules.Met.{Met, Begins, Decides, Sends, Starts, Takes, Ticks, Unsends}
use Rattle.mega_run_laws.specs.of_rules.Clock.{clock_of}
use Rattle.mega_run_laws.specs.of_rules.Coordinators.{acquires_at}
use Rattle.mega_run_laws.specs.of_rules.Logs.{decided, log_of}
use Rattle.mega_run_laws.specs.of_rules.Replies.{reply_to}
use Rattle.mega_run_laws.specs.of_rules.Operations.{Node, Now, Operation, Phase, Proposes, Reads, Setting}
use Rattle.mega_run_laws.specs.of_rules.Acting.{ends, reader_of, sends_more}
use Rattle.mega_run_laws.specs.of_rules.Steps.{Begin, Decision, Event, Heard, Step, Take, Tick, acts_in_turn, all_act, apply_notes, at_first, at_open, background, begin_step, crashed, decision_at, decision_note, does_due, first_settled, hears_message, if_new, is_out, lapse_notes, last_answer, lease_notes, new_operation, news, onto, op_of, portion_of, read_decision, refusal, settled_by, start, start_items, start_notes, step, step_of, stored_after, take_step, taken, tick_step, ticked, told_decision, told_notes, unless_refused}
use Rattle.mega_run_laws.specs.of_tape_laws.Indexed.{IsDeclared}
use Rattle.mega_run_laws.specs.Justified.{Each}
use Rattle.mega_run_laws.proofs.Events.{IsPlain, apply_plain, each_append, lapses_plain, lease_plain, told_plain}
use Rattle.mega_run_laws.proofs.Runs.{starts_plain}
use Rattle.mega_run_laws.proofs.Turns.{each_on}
use Rattle.mega_own_laws.specs.Entries.{IsOwn}
use Rattle.mega_own_laws.specs.Messages.{AllTellOwn, CarriesOwn, TellsOwn}
use Rattle.mega_own_laws.specs.Nodes.{ActOnOwn, DecisionOwn, EventOwn, ItemOwn, MetOwn, NodeOwn, OperationOwn, PhaseOwn, StepOwn}
use Rattle.mega_own_laws.proofs.Lists.{each_fold, each_map, either}
use Rattle.mega_own_laws.proofs.Rounds.{due_own, settled_own, takes_own}
use Rattle.mega_own_laws.proofs.Reading.{falls_due_own, hears_own, read_settled_own}
use Rattle.mega_own_laws.proofs.Histories.{met_owns}
use Rattle.mega_own_laws.proofs.Replies.{acquires_at_own, background_own, news_own, reply_own}
use Rattle.mega_own_laws.proofs.Acting.{NowOwn, IsOwnNow, begun_or_refused, ends_own, goes_own, sends_own}

-- ---- what is noted

plain_own : (schema : Schema) (one : Met) → IsPlain one → ItemOwn schema one
plain_own schema (Sends m) h = absurd h
plain_own schema (Unsends m) h = absurd h
plain_own schema (Decides group position entry) h = absurd h
plain_own schema _ h = tt

plain_met : (schema : Schema) (notes : List Met) → Each IsPlain notes → MetOwn schema notes
plain_met schema notes h = each_on IsPlain (ItemOwn schema) (plain_own schema) notes h

onto_own : (schema : Schema) (items met : List Met) → MetOwn schema items → MetOwn schema met → MetOwn schema (onto items met)
onto_own schema [] met h k = k
onto_own schema (one ∷ more) met h k = onto_own schema more (one ∷ met) h.1 (h.0, k)

both_own : (schema : Schema) (items more : List Met) → MetOwn schema items → MetOwn schema more → MetOwn schema (items ++ more)
both_own schema items more h k = each_append (ItemOwn schema) items more h k

-- ---- open operations hear

pub record HeardOwn (schema : Schema) (t : Heard) : Type 0 where
  pub operation : OperationOwn schema t.operation
  pub sends : AllTellOwn schema t.sends

hears_by : (s : Setting) (now : ℕ) (m : Message) (id : OpId) (request : Request) (began : ℕ) (visited : List GroupId) (message : Option Enter) (phase : Phase) → TellsOwn s.cluster.schema m
    → OperationOwn s.cluster.schema (record { id = id; request = request; began = began; visited = visited; message = message; phase = phase })
    → HeardOwn s.cluster.schema (hears_message s now m (record { id = id; request = request; began = began; visited = visited; message = message; phase = phase }))
hears_by s now m id request began visited message (Reads group r) b k =
    let t = hears_own s.cluster.schema (reader_of s id group) r m.from now m.body k.phase b in
    record { operation = record { about = k.about; phase = t.reading }; sends = t.sends }
hears_by s now m id request began visited message (Proposes group n asked p promised) b k =
    let t = takes_own s.cluster.schema (site (reader_of s id group) asked n) p m.from now m.body k.phase b in
    record { operation = record { about = k.about; phase = t.proposal }; sends = t.sends }

heard_own : (s : Setting) (now : ℕ) (m : Message) (o : Operation) → TellsOwn s.cluster.schema m → OperationOwn s.cluster.schema o → HeardOwn s.cluster.schema (hears_message s now m o)
heard_own s now m o b k = hears_by s now m o.id o.request o.began o.visited o.message o.phase b (record { about = k.about; phase = k.phase })

due_by : (s : Setting) (now : ℕ) (id : OpId) (request : Request) (began : ℕ) (visited : List GroupId) (message : Option Enter) (phase : Phase)
    → OperationOwn s.cluster.schema (record { id = id; request = request; began = began; visited = visited; message = message; phase = phase })
    → HeardOwn s.cluster.schema (does_due s now (record { id = id; request = request; began = began; visited = visited; message = message; phase = phase }))
due_by s now id request began visited message (Reads group r) k =
    let t = falls_due_own s.cluster.schema (reader_of s id group) r s.cluster.retry now k.phase in
    record { operation = record { about = k.about; phase = t.reading }; sends = t.sends }
due_by s now id request began visited message (Proposes group n asked p promised) k =
    let t = due_own s.cluster.schema (site (reader_of s id group) asked n) p s.cluster.retry now k.phase in
    record { operation = record { about = k.about; phase = t.proposal }; sends = t.sends }

does_own : (s : Setting) (now : ℕ) (o : Operation) → OperationOwn s.cluster.schema o → HeardOwn s.cluster.schema (does_due s now o)
does_own s now o k = due_by s now o.id o.request o.began o.visited o.message o.phase (record { about = k.about; phase = k.phase })

-- ---- the decision of a step

at_own : (schema : Schema) (group : GroupId) (n : ℕ) (found : Option Content) → IsOption (IsOwn schema group) found → DecisionOwn schema (decision_at group n found)
at_own schema group n None h = tt
at_own schema group n (Some entry) h = h

read_own : (schema : Schema) (group : GroupId) (found : Option (ℕ × Content)) → IsOption (λ (one : ℕ × Content). IsOwn schema group one.1) found → DecisionOwn schema (read_decision group found)
read_own schema group None h = tt
read_own schema group (Some found) h = h

settles_by : (schema : Schema) (id : OpId) (request : Request) (began : ℕ) (visited : List GroupId) (message : Option Enter) (phase : Phase) → PhaseOwn schema phase
    → DecisionOwn schema (settled_by (record { id = id; request = request; began = began; visited = visited; message = message; phase = phase }))
settles_by schema id request began visited message (Reads group r) h = read_own schema group (read_settled r) (read_settled_own schema group r h)
settles_by schema id request began visited message (Proposes group n asked p promised) h = at_own schema group n (settled p) (settled_own schema group p h)

first_own : (schema : Schema) (ts : List Heard) → Each (HeardOwn schema) ts → DecisionOwn schema (first_settled ts)
first_own schema [] h = tt
first_own schema (t ∷ ts) h = go (settled_by o) (settles_by schema o.id o.request o.began o.visited o.message o.phase ((h.0).operation).phase) (first_own schema ts h.1)
  where
    o : Operation
    o = t.operation

    or : Option Decision → Option Decision → Option Decision
    or None other = other
    or (Some d) other = Some d

    go : (found : Option Decision) → DecisionOwn schema found → DecisionOwn schema (first_settled ts) → DecisionOwn schema (or found (first_settled ts))
    go None f k = k
    go (Some d) f k = f

told_own : (schema : Schema) (body : Body) → CarriesOwn schema body → DecisionOwn schema (told_decision body)
told_own schema (Decide group position entry) b = b
told_own schema (Have op group position entry) b = b
told_own schema _ b = tt

new_own : (schema : Schema) (met : List Met) (found : Option Decision) → DecisionOwn schema found → DecisionOwn schema (if_new met found)
new_own schema met None h = tt
new_own schema met (Some d) h = either (DecisionOwn schema) (is_none (decided met d.group d.position)) (Some d) None h tt

note_own : (schema : Schema) (found : Option Decision) → DecisionOwn schema found → MetOwn schema (decision_note found)
note_own schema None h = tt
note_own schema (Some d) h = (h, tt)

-- ---- a step ends

ended_own : (schema : Schema) (node : Node) (own : Met) (locks durable applies : List Met) (sends : List Message) (now : Now) → NodeOwn schema node → ItemOwn schema own → MetOwn schema locks → MetOwn schema durable → MetOwn schema applies → AllTellOwn schema sends
    → NowOwn schema now → StepOwn schema (step_of node own locks durable applies sends now)
ended_own schema node own locks durable applies sends now n o l d a m k = record {
  notes = notes;
  sends = m;
  node = record {
    met = onto_own schema (map Sends sends) _ (each_map (TellsOwn schema) (ItemOwn schema) Sends (λ m b. b) sends m) (onto_own schema ((((locks ++ durable) ++ applies) ++ now.valid) ++ now.answers) (own ∷ node.met) notes (o, n.met));
    open_operations = k.kept;
  };
}
  where
    notes : MetOwn schema ((((locks ++ durable) ++ applies) ++ now.valid) ++ now.answers)
    notes = both_own schema (((locks ++ durable) ++ applies) ++ now.valid) now.answers (both_own schema ((locks ++ durable) ++ applies) now.valid (both_own schema (locks ++ durable) applies (both_own schema locks durable l d) a) k.valid) k.answers

module _ (s : Setting) (declared : IsDeclared s.cluster.schema) where
  turn_own : (now : Now) (t : Heard) → IsOwnNow s now → HeardOwn s.cluster.schema t → IsOwnNow s (acts_in_turn s now t)
  turn_own now t h k = goes_own s declared (sends_more now t.sends) t.operation (sends_own s now t.sends h k.sends) k.operation

  -- ---- a message is taken

  taken_own : (node : Node) (m : Message) (ts : List Heard) (d : Option Decision) (reply told_news : List Message) → NodeOwn s.cluster.schema node → Each (HeardOwn s.cluster.schema) ts → DecisionOwn s.cluster.schema d
      → AllTellOwn s.cluster.schema reply → AllTellOwn s.cluster.schema told_news → StepOwn s.cluster.schema (taken s node m (told_notes s node.met m.from m.body) ts d reply told_news)
  taken_own node m ts d reply told_news n heard f r w =
      ended_own s.cluster.schema node (Takes m) told (decision_note d) (apply_notes s node.met node.stored acc.met acc.stored) ((reply ++ told_news) ++ acc.sends) acc n tt
      (plain_met s.cluster.schema told (told_plain s node.met m.from m.body)) (note_own s.cluster.schema d f) (plain_met s.cluster.schema _ (apply_plain s node.met node.stored acc.met acc.stored))
      (each_append (TellsOwn s.cluster.schema) (reply ++ told_news) acc.sends (each_append (TellsOwn s.cluster.schema) reply told_news r w) done.sends) done
    where
      told : List Met
      told = told_notes s node.met m.from m.body

      met : List Met
      met = onto (decision_note d) (onto told (Takes m ∷ node.met))

      acc : Now
      acc = all_act s (at_first met (stored_after s met node.stored d)) ts

      done : IsOwnNow s acc
      done = each_fold (IsOwnNow s) (HeardOwn s.cluster.schema) (acts_in_turn s) turn_own (at_first met (stored_after s met node.stored d)) ts (record { kept = tt; valid = tt; answers = tt; sends = tt }) heard

  take_own : (node : Node) (m : Message) → NodeOwn s.cluster.schema node → TellsOwn s.cluster.schema m → StepOwn s.cluster.schema (take_step s node m)
  take_own node m n b = go (told_decision m.body) (told_own s.cluster.schema m.body b)
    where
      ts : List Heard
      ts = map (hears_message s (clock_of node.met) m) node.open_operations

      heard : Each (HeardOwn s.cluster.schema) ts
      heard = each_map (OperationOwn s.cluster.schema) (HeardOwn s.cluster.schema) (hears_message s (clock_of node.met) m) (λ o k. heard_own s (clock_of node.met) m o b k) node.open_operations n.open_operations

      reply : AllTellOwn s.cluster.schema (reply_to s.cluster s.me node.met m)
      reply = reply_own s.cluster.schema s.cluster s.me node.met m n.met b

      by : Option Decision → Step
      by (Some d) = taken s node m (told_notes s node.met m.from m.body) ts (if_new node.met (Some d)) (reply_to s.cluster s.me node.met m) []
      by None =
          taken s node m (told_notes s node.met m.from m.body) ts (if_new node.met (first_settled ts)) (reply_to s.cluster s.me node.met m)
          (news s (if_new node.met (first_settled ts)))

      go : (d : Option Decision) → DecisionOwn s.cluster.schema d → StepOwn s.cluster.schema (by d)
      go (Some d) f = taken_own node m ts (if_new node.met (Some d)) _ [] n heard (new_own s.cluster.schema node.met (Some d) f) reply tt
      go None f =
          let first = new_own s.cluster.schema node.met (first_settled ts) (first_own s.cluster.schema ts heard) in
          taken_own node m ts (if_new node.met (first_settled ts)) _ _ n heard first reply (news_own s.cluster.schema s (if_new node.met (first_settled ts)) first)

  -- ---- a tick

  ticked_own : (clock : ℕ) (acc : Now) (o : Operation) → IsOwnNow s acc → OperationOwn s.cluster.schema o → IsOwnNow s (ticked s clock acc o)
  ticked_own clock acc o h k = either (IsOwnNow s) (is_out s clock o) (ends acc o.id (last_answer o)) (acts_in_turn s acc (does_due s clock o)) (ends_own s acc o.id (last_answer o) h) (turn_own acc (does_due s clock o) h (does_own s clock o k))

  tick_own : (node : Node) (clock : ℕ) → NodeOwn s.cluster.schema node → StepOwn s.cluster.schema (tick_step s node clock)
  tick_own node clock n =
      ended_own s.cluster.schema node (Ticks clock) (lease_notes s node.met clock) (lapse_notes s node.met clock) (apply_notes s node.met node.stored acc.met acc.stored)
      ((acquires_at s.cluster s.me node.met clock ++ acc.sends) ++ background s node.met clock) acc n tt
      (plain_met s.cluster.schema _ (lease_plain s node.met clock)) (plain_met s.cluster.schema _ (lapses_plain s node.met clock)) (plain_met s.cluster.schema _ (apply_plain s node.met node.stored acc.met acc.stored))
      (each_append (TellsOwn s.cluster.schema) (acquires_at s.cluster s.me node.met clock ++ acc.sends) (background s node.met clock)
      (each_append (TellsOwn s.cluster.schema) (acquires_at s.cluster s.me node.met clock) acc.sends (acquires_at_own s.cluster.schema s.cluster s.me node.met clock) done.sends) (background_own s.cluster.schema s node.met clock))
      done
    where
      first : Now
      first = at_first (onto (lapse_notes s node.met clock) (onto (lease_notes s node.met clock) (Ticks clock ∷ node.met))) (portion_of s node.met node.stored)

      acc : Now
      acc = fold (ticked s clock) first node.open_operations

      done : IsOwnNow s acc
      done = each_fold (IsOwnNow s) (OperationOwn s.cluster.schema) (ticked s clock) (ticked_own clock) first node.open_operations (record { kept = tt; valid = tt; answers = tt; sends = tt }) n.open_operations

  -- ---- a request begins

  begin_own : (node : Node) (request : Request) (text : List ℕ) → NodeOwn s.cluster.schema node → StepOwn s.cluster.schema (begin_step s node request text)
  begin_own node request text n =
      ended_own s.cluster.schema node own [] [] (apply_notes s node.met node.stored now.met now.stored) now.sends now n tt tt tt (plain_met s.cluster.schema _ (apply_plain s node.met node.stored now.met now.stored)) done.sends done
    where
      own : Met
      own = Begins (op_of s node.met) text

      first : Now
      first = at_open (at_first (own ∷ node.met) node.stored) node.open_operations

      now : Now
      now = unless_refused s first (new_operation (op_of s node.met) request (clock_of node.met)) (refusal s node request)

      done : IsOwnNow s now
      done = begun_or_refused s declared first (new_operation (op_of s node.met) request (clock_of node.met)) (refusal s node request) (record { kept = n.open_operations; valid = tt; answers = tt; sends = tt })

  -- ---- any event

  pub step_own : (node : Node) (event : Event) → NodeOwn s.cluster.schema node → EventOwn s.cluster.schema event → StepOwn s.cluster.schema (step s node event)
  step_own node (Tick clock) n e = tick_own node clock n
  step_own node (Take m) n e = take_own node m n e
  step_own node (Begin request text) n e = begin_own node request text n

  pub acts_on_own : (node : Node) (event : Event) → NodeOwn s.cluster.schema node → EventOwn s.cluster.schema event → HasOwnRows s.cluster.schema (log_of (acted_on s node event))
  acts_on_own node event n e =
      owned_of_same_logs s.cluster.schema (acted_on s node event) (step s node event).node.met (step_ends s node event) (met_owns s.cluster.schema (step s node event).node.met (((step_own node event n e).node).met))

  pub all_act_on_own : (node : Node) (events : List Event) → NodeOwn s.cluster.schema node → Each (EventOwn s.cluster.schema) events → ActOnOwn s node events
  all_act_on_own node [] n each = tt
  all_act_on_own node (event ∷ events) n each = (acts_on_own node event n each.0, all_act_on_own (step s node event).node events (step_own node event n each.0).node each.1)

-- ---- a start, and a crash

pub start_own : (s : Setting) (number : ℕ) (owed met : List Met) → MetOwn s.cluster.schema owed → MetOwn s.cluster.schema met → NodeOwn s.cluster.schema (start s number owed met)
start_own s number owed met o h = record {
  met = onto_own s.cluster.schema (start_items s number owed met) met
      (both_own s.cluster.schema (Starts number ∷ owed) (start_notes s (onto owed (Starts number ∷ met))) (tt, o) (plain_met s.cluster.schema _ (starts_plain s (onto owed (Starts number ∷ met))))) h;
  open_operations = tt;
}

pub crash_own : (schema : Schema) (node : Node) → NodeOwn schema node → NodeOwn schema (crashed node)
crash_own schema node h = record { met = (tt, h.met); open_operations = tt }
