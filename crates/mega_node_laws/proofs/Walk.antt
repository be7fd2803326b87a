-- What lasts through all that operations do within a step, where they send what they may.
use Rattle.std.proofs.Common.{◌≡◌, ℕ, zero, suc, ◌+◌, nat_le, Bool, true, false, cond, List, [], ◌∷◌, take, length, map, fold, Option, Some, None, Result, Ok, Err, refl}
use Rattle.std.specs.List.{All, list_any}
use Rattle.std.specs.Result.{is_ok}
use Rattle.std.proofs.lemmas.List.Elements.{All-append, All-cons, All-head, All-nil, All-tail}
use Rattle.mega_base.specs.declared.names.Epoch.{Epoch}
use Rattle.mega_base.specs.declared.names.GroupId.{GroupId}
use Rattle.mega_base.specs.declared.names.OpId.{OpId}
use Rattle.mega_coordinator.specs.declared.answers.NotValid.{NotValid}
use Rattle.mega_entry.specs.declared.content.Content.{Content}
use Rattle.mega_entry.specs.declared.content.Enter.{Enter}
use Rattle.mega_wire.specs.declared.message.Message.{Message}
use Rattle.mega_handler.specs.Named.{has}
use Rattle.mega_outcome.specs.declared.answer.Batch.{Batch}
use Rattle.mega_outcome.specs.declared.answer.Done.{Done}
use Rattle.mega_outcome.specs.declared.answer.Turn.{Turn as Turned}
use Rattle.mega_outcome.specs.declared.request.FindRequest.{FindRequest}
use Rattle.mega_outcome.specs.declared.request.Mode.{Mode}
use Rattle.mega_outcome.specs.declared.request.Mode.TheVariants.{Current, Snapshot, Inconsistent}
use Rattle.mega_outcome.specs.declared.request.ReadRequest.{ReadRequest}
use Rattle.mega_outcome.specs.declared.request.Request.{Request}
use Rattle.mega_outcome.specs.declared.request.Request.TheVariants.{Txn, Batch as BatchRequest, Read as ReadRequested, Find, PumpEnter, PumpHandle, Refresh}
use Rattle.mega_outcome.specs.Outcome.{batch_outcome, entry_of_batch, entry_of_done, outcome}
use Rattle.mega_voter.specs.of_read.of_propose.Rounds.{asks}
use Rattle.mega_voter.specs.of_read.declared.reading.Reader.{Reader}
use Rattle.mega_voter.specs.of_read.declared.reading.Reading.{Reading}
use Rattle.mega_voter.specs.of_read.declared.reading.Stage.{Stage}
use Rattle.mega_voter.specs.of_read.declared.reading.Stage.TheVariants.{Polling, Catching}
use Rattle.mega_voter.specs.of_read.declared.reading.Move.{Move as ReadMove}
use Rattle.mega_voter.specs.of_read.Catching.{asked_by, local_read, polled_read, site, seeks}
use Rattle.mega_voter.specs.of_rules.Clock.{clock_of}
use Rattle.mega_voter.specs.of_rules.Logs.{decided, groups_of, log_of, prefix_of, top_of}
use Rattle.mega_voter.specs.of_rules.Coordinators.{refused_at, serves_at, valid_at}
use Rattle.mega_voter.specs.of_rules.Queues.{Posted, enter_entry, is_named, names_entered, next_to_enter, next_to_handle, oldest_unhandled}
use Rattle.mega_voter.specs.of_rules.Operations.{Now, Operation, Phase, Promised, Proposes, Reads, Replies, Results, Setting}
use Rattle.mega_voter.specs.of_rules.Acting.{Next, Rests, ActsAgain, acts, applied_logs, batch_sealed, begins_read, completes_read, enters, finishes, goes_on, handles, handling, is_visited, leader_after, listed_at, picks_group, picks_message, proposes, proposes_by, read_begun, reader_of, reads_on, rests_within, rows_at, sealed, sends_more, table_rows, unless_decided, unless_full, validated_by, validates, ends, keeps, in_phase}
use Rattle.mega_voter.specs.of_rules.Steps.{Heard, acts_first, acts_in_turn, all_act, begins, does_due, find_begins, hears_message, is_out, local_find_begins, read_begins, ticked, unless_refused}
use Rattle.mega_node_laws.specs.About.{IsAbout, IsOf, group_in}
use Rattle.mega_node_laws.proofs.Rounds.{asks_hold}
use Rattle.mega_node_laws.proofs.Reading.{local_hold, polled_hold, seeks_hold}
use Rattle.mega_outcome.specs.declared.answer.Answer.{Answer}
use Rattle.mega_node_laws.proofs.Acting.{MayAct, MayCover, does_due_hold, hears_message_hold}

-- ---- what lasts

-- a fact of a node within a step that nothing which operations do can break; `wanted` is whether it needs that they are about their groups
pub record Lasts (A : Message → Type 0) (P : Now → Type 0) (wanted : Type 0) : Type 0 where
  pub keeps_it : (now : Now) (o : Operation) → (wanted → IsAbout o) → P now → P (keeps now o)
  pub ends_it : (now : Now) (op : OpId) (answer : Answer) → P now → P (ends now op answer)
  pub sends_it : (now : Now) (sends : List Message) → All A sends → P now → P (sends_more now sends)
  pub stores_it : (now : Now) (stored : GroupId → ℕ) → P now → P (record { met = now.met; stored = stored; kept = now.kept; valid = now.valid; answers = now.answers; sends = now.sends })
  pub validates_it : (now : Now) (group : GroupId) (p : ℕ) (refusal : Option NotValid) → P now → P (validated_by now group p refusal)

-- what holds of what an operation comes to; of one that acts again, that it is about its group too
abbrev pub Leads : (Now → Type 0) → Type 0 → Next → Type 0
Leads P wanted (Rests now) = P now
Leads P wanted (ActsAgain now o) = (wanted → IsAbout o) × P now

pub begun_hold : (A : Message → Type 0) (s : Setting) (may : MayAct A s) (now : Now) (o : Operation) (group : GroupId) (asked : List ℕ) → All A (read_begun s now o group asked).sends
begun_hold A s may now o group asked = go (is_visited o group) (valid_at s.cluster now.met group)
  where
    who : Reader
    who = reader_of s o.id group

    go : (t u : Bool) → All A (cond {A = ReadMove} t (polled_read who None asked (clock_of now.met))
        (cond u (local_read asked (top_of now.met group)) (polled_read who (serves_at s.cluster now.met) asked (clock_of now.met)))).sends
    go true u = polled_hold A who (may.reads o.id group) None asked (clock_of now.met)
    go false true = local_hold A asked (top_of now.met group)
    go false false = polled_hold A who (may.reads o.id group) (serves_at s.cluster now.met) asked (clock_of now.met)

-- an operation stays about its group as it hears and does what is due
heard_about : (s : Setting) (now : ℕ) (m : Message) (o : Operation) (phase : Phase) → IsOf o.request (group_in phase)
    → IsAbout (hears_message s now m (record { id = o.id; request = o.request; began = o.began; visited = o.visited; message = o.message; phase = phase })).operation
heard_about s now m o (Reads group r) about = about
heard_about s now m o (Proposes group n asked p promised) about = about

pub hears_message_about : (s : Setting) (now : ℕ) (m : Message) (o : Operation) → IsAbout o → IsAbout (hears_message s now m o).operation
hears_message_about s now m o about = heard_about s now m o o.phase about

due_about : (s : Setting) (now : ℕ) (o : Operation) (phase : Phase) → IsOf o.request (group_in phase)
    → IsAbout (does_due s now (record { id = o.id; request = o.request; began = o.began; visited = o.visited; message = o.message; phase = phase })).operation
due_about s now o (Reads group r) about = about
due_about s now o (Proposes group n asked p promised) about = about

pub does_due_about : (s : Setting) (now : ℕ) (o : Operation) → IsAbout o → IsAbout (does_due s now o).operation
does_due_about s now o about = due_about s now o o.phase about

-- a heard operation sends what it may, and it is about its group
pub record IsHeard (A : Message → Type 0) (wanted : Type 0) (t : Heard) : Type 0 where
  pub sends : All A t.sends
  pub about : wanted → IsAbout t.operation

module _ (A : Message → Type 0) (P : Now → Type 0) (wanted : Type 0) (l : Lasts A P wanted) (s : Setting) (may : MayAct A s) where
  either : (t : Bool) (one other : Now) → P one → P other → P (cond t one other)
  either true one other h k = h
  either false one other h k = k

  either_next : (t : Bool) (one other : Next) → Leads P wanted one → Leads P wanted other → Leads P wanted (cond t one other)
  either_next true one other h k = h
  either_next false one other h k = k

  pub begins_read_it : (now : Now) (o : Operation) (group : GroupId) (message : Option Enter) (asked : List ℕ) → (wanted → IsOf o.request group) → P now
      → Leads P wanted (begins_read s now o group message asked)
  begins_read_it now o group message asked of h = (of, l.sends_it now (read_begun s now o group asked).sends (begun_hold A s may now o group asked) h)

  picks_message_it : (now : Now) (o : Operation) (asked : List ℕ) (one : Option Posted) → (wanted → (group : GroupId) → IsOf o.request group) → P now
      → Leads P wanted (picks_message s now o asked one)
  picks_message_it now o asked None of h = l.ends_it now o.id _ h
  picks_message_it now o asked (Some one) of h = begins_read_it now o one.to (Some one.message) asked (λ w. of w one.to) h

  picks_group_it : (now : Now) (o : Operation) (asked : List ℕ) (one : Option GroupId) → (wanted → (group : GroupId) → IsOf o.request group) → P now
      → Leads P wanted (picks_group s now o asked one)
  picks_group_it now o asked None of h = l.ends_it now o.id _ h
  picks_group_it now o asked (Some group) of h = begins_read_it now o group None asked (λ w. of w group) h

  pub unless_decided_it : (now : Now) (o : Operation) (n : ℕ) (promised : Promised) (d : Option Content) → (wanted → IsAbout o) → P now → P (unless_decided now o n promised d)
  unless_decided_it now o n promised None about h = l.keeps_it now o about h
  unless_decided_it now o n promised (Some entry) about h = l.ends_it now o.id _ h

  proposes_by_it : (now : Now) (o : Operation) (group : GroupId) (r : Reading) (p : ℕ) (own : Content) (promised : Promised) (leader : Option ℕ) → (wanted → IsAbout o) → (wanted → IsOf o.request group) → P now
      → P (proposes_by s now o group r p own promised leader)
  proposes_by_it now o group r p own promised None about of h = l.keeps_it now o about h
  proposes_by_it now o group r p own promised (Some leader) about of h =
      unless_decided_it (sends_more now (asks (site (reader_of s o.id group) (asked_by r) (p + 1)) leader own (clock_of now.met)).sends)
      (in_phase o (Proposes group (p + 1) (asked_by r) (asks (site (reader_of s o.id group) (asked_by r) (p + 1)) leader own (clock_of now.met)).proposal promised))
      (p + 1) promised (decided now.met group (p + 1)) of
      (l.sends_it now _ (asks_hold A (site (reader_of s o.id group) (asked_by r) (p + 1)) ((may.reads o.id group).proposes (asked_by r) (p + 1)) leader own (clock_of now.met)) h)

  pub proposes_it : (now : Now) (o : Operation) (group : GroupId) (r : Reading) (p : ℕ) (own : Content) (promised : Promised) → (wanted → IsAbout o) → (wanted → IsOf o.request group) → P now
      → P (proposes s now o group r p own promised)
  proposes_it now o group r p own promised about of h = proposes_by_it now o group r p own promised (leader_after s now group p) about of h

  validates_fact : (now : Now) (group : GroupId) (p : ℕ) (noted : Option Epoch) → P now → P (validates s now group p noted)
  validates_fact now group p None h = h
  validates_fact now group p (Some noted) h = l.validates_it now group p (refused_at s.cluster now.met group p noted) h

  pub completes_read_it : (now : Now) (group : GroupId) (r : Reading) (p : ℕ) → P now → P (completes_read s now group r p)
  completes_read_it now group r p h = validates_fact _ group p r.noted (l.stores_it now _ h)

  pub sealed_it : (now : Now) (o : Operation) (group : GroupId) (r : Reading) (p : ℕ) (result : Result Done Turned) → (wanted → IsAbout o) → (wanted → IsOf o.request group) → P now → P (sealed s now o group r p result)
  sealed_it now o group r p (Err turn) about of h = l.ends_it now o.id _ h
  sealed_it now o group r p (Ok done) about of h = proposes_it now o group r p (entry_of_done o.id done) (Replies done.replies) about of h

  pub batch_sealed_it : (now : Now) (o : Operation) (group : GroupId) (r : Reading) (p : ℕ) (b : Batch) → (wanted → IsAbout o) → (wanted → IsOf o.request group) → P now → P (batch_sealed s now o group r p b)
  batch_sealed_it now o group r p b about of h = either (list_any is_ok b.results) _ _ (proposes_it now o group r p (entry_of_batch o.id b) (Results b.results) about of h) (l.ends_it now o.id _ h)

  enters_it : (now : Now) (o : Operation) (group : GroupId) (r : Reading) (p : ℕ) (message : Option Enter) → (wanted → IsAbout o) → (wanted → (group : GroupId) → IsOf o.request group) → P now
      → Leads P wanted (enters s now o group r p message)
  enters_it now o group r p None about of h = picks_message_it now o (asked_by r) (next_to_enter o.id (applied_logs now)) of h
  enters_it now o group r p (Some message) about of h = either_next (is_named message.name (names_entered (take p (log_of now.met group)))) _ _
      (picks_message_it now o (asked_by r) (next_to_enter o.id (applied_logs now)) of h) (proposes_it now o group r p (enter_entry o.id message) (Replies []) about (λ w. of w group) h)

  handles_it : (now : Now) (o : Operation) (group : GroupId) (r : Reading) (p : ℕ) (message : Option Enter) → (wanted → IsAbout o) → (wanted → (group : GroupId) → IsOf o.request group) → P now
      → Leads P wanted (handles s now o group r p message)
  handles_it now o group r p None about of h = picks_group_it now o (asked_by r) (next_to_handle (applied_logs now)) of h
  handles_it now o group r p (Some message) about of h = either_next (has s.handlers message.queue) _ _
      (proposes_it now o group r p (handling s o.id group message (table_rows s.cluster.schema group (listed_at now group p))) (Replies []) about (λ w. of w group) h) (l.ends_it now o.id _ h)

  pub unless_full_it : (now : Now) (o : Operation) (p : ℕ) (next : Next) → P now → Leads P wanted next → Leads P wanted (unless_full s now o p next)
  unless_full_it now o p next h k = either_next (nat_le (s.cluster.limit).0 p) _ next (l.ends_it now o.id _ h) k

  module _ (id : OpId) (began : ℕ) (visited : List GroupId) (message : Option Enter) where
    abbrev one : Request → Phase → Operation
    one request phase = record { id = id; request = request; began = began; visited = visited; message = message; phase = phase }

    finishes_by : (now : Now) (request : Request) (phase : Phase) (group : GroupId) (r : Reading) (p : ℕ) → (wanted → IsOf request (group_in phase)) → (wanted → IsOf request group) → P now
        → Leads P wanted (finishes s now (one request phase) group r p)
    finishes_by now (Txn transaction) phase group r p about of h =
        unless_full_it now (one (Txn transaction) phase) p _ h (sealed_it now (one (Txn transaction) phase) group r p (outcome s.cluster.schema transaction (rows_at now group p)) about of h)
    finishes_by now (BatchRequest own transactions) phase group r p about of h =
        unless_full_it now (one (BatchRequest own transactions) phase) p _ h
        (batch_sealed_it now (one (BatchRequest own transactions) phase) group r p (batch_outcome s.cluster.schema own transactions (rows_at now group p)) about of h)
    finishes_by now (ReadRequested request) phase group r p about of h = l.ends_it now id _ h
    finishes_by now (Find request) phase group r p about of h = l.ends_it now id _ h
    finishes_by now PumpEnter phase group r p about of h = unless_full_it now (one PumpEnter phase) p _ h (enters_it now (one PumpEnter phase) group r p message about (λ w g. tt) h)
    finishes_by now PumpHandle phase group r p about of h =
        unless_full_it now (one PumpHandle phase) p _ h (handles_it now (one PumpHandle phase) group r p (oldest_unhandled (take p (log_of now.met group))) about (λ w g. tt) h)
    finishes_by now Refresh phase group r p about of h = l.keeps_it now (one Refresh phase) about h

  pub finishes_it : (now : Now) (o : Operation) (group : GroupId) (r : Reading) (p : ℕ) → (wanted → IsAbout o) → (wanted → IsOf o.request group) → P now
      → Leads P wanted (finishes s now o group r p)
  finishes_it now o group r p about of h = finishes_by o.id o.began o.visited o.message now o.request o.phase group r p about of h

  reads_on_by : (now : Now) (o : Operation) (group : GroupId) (noted : Option Epoch) (asked : List ℕ) (stage : Stage) → (wanted → IsAbout o) → (wanted → IsOf o.request group) → P now
      → Leads P wanted (reads_on s now o group (record { noted = noted; asked = asked; stage = stage }))
  reads_on_by now o group noted asked (Polling heard best at) about of h = l.keeps_it now o about h
  reads_on_by now o group noted asked (Catching p search) about of h = either_next (nat_le p (prefix_of now.met group)) _ _
      (finishes_it (completes_read s now group (record { noted = noted; asked = asked; stage = Catching p search }) p) o group (record { noted = noted; asked = asked; stage = Catching p search }) p about of
      (completes_read_it now group (record { noted = noted; asked = asked; stage = Catching p search }) p h))
      (l.keeps_it (sends_more now (seeks (reader_of s o.id group) (record { noted = noted; asked = asked; stage = Catching p search }) (prefix_of now.met group + 1) (clock_of now.met)).sends)
      (in_phase o (Reads group (seeks (reader_of s o.id group) (record { noted = noted; asked = asked; stage = Catching p search }) (prefix_of now.met group + 1) (clock_of now.met)).reading)) of
      (l.sends_it now _ (seeks_hold A (reader_of s o.id group) (may.reads o.id group) (record { noted = noted; asked = asked; stage = Catching p search }) (prefix_of now.met group + 1) (clock_of now.met)) h))

  pub reads_on_it : (now : Now) (o : Operation) (group : GroupId) (r : Reading) → (wanted → IsAbout o) → (wanted → IsOf o.request group) → P now → Leads P wanted (reads_on s now o group r)
  reads_on_it now o group r about of h = reads_on_by now o group r.noted r.asked r.stage about of h

  acts_by : (now : Now) (id : OpId) (request : Request) (began : ℕ) (visited : List GroupId) (message : Option Enter) (phase : Phase) → (wanted → IsOf request (group_in phase)) → P now
      → Leads P wanted (acts s now (record { id = id; request = request; began = began; visited = visited; message = message; phase = phase }))
  acts_by now id request began visited message (Reads group r) about h =
      reads_on_it now (record { id = id; request = request; began = began; visited = visited; message = message; phase = Reads group r }) group r about about h
  acts_by now id request began visited message (Proposes group n asked proposal promised) about h =
      unless_decided_it now (record { id = id; request = request; began = began; visited = visited; message = message; phase = Proposes group n asked proposal promised }) n promised (decided now.met group n) about h

  pub acts_it : (now : Now) (o : Operation) → (wanted → IsAbout o) → P now → Leads P wanted (acts s now o)
  acts_it now o about h = acts_by now o.id o.request o.began o.visited o.message o.phase about h

  -- until it rests
  rests_within_it : (most : ℕ) (next : Next) → Leads P wanted next → P (rests_within most s next)
  rests_within_it most (Rests now) h = h
  rests_within_it zero (ActsAgain now o) h = l.keeps_it now o h.0 h.1
  rests_within_it (suc most) (ActsAgain now o) h = rests_within_it most (acts s now o) (acts_it now o h.0 h.1)

  pub goes_on_it : (now : Now) (o : Operation) → (wanted → IsAbout o) → P now → P (goes_on s now o)
  goes_on_it now o about h = rests_within_it (length (groups_of now.met) + 2) (ActsAgain now o) (about, h)

  -- one after another, and at a tick
  pub acts_in_turn_it : (now : Now) (t : Heard) → IsHeard A wanted t → P now → P (acts_in_turn s now t)
  acts_in_turn_it now t heard h = goes_on_it (sends_more now t.sends) t.operation heard.about (l.sends_it now t.sends heard.sends h)

  pub all_act_it : (ts : List Heard) (now : Now) → All (IsHeard A wanted) ts → P now → P (all_act s now ts)
  all_act_it [] now each h = h
  all_act_it (t ∷ ts) now each h = all_act_it ts (acts_in_turn s now t) (All-tail (IsHeard A wanted) t ts each) (acts_in_turn_it now t (All-head (IsHeard A wanted) t ts each) h)

  pub ticked_it : MayCover A s → (clock : ℕ) (now : Now) (o : Operation) → (wanted → IsAbout o) → P now → P (ticked s clock now o)
  ticked_it cover clock now o about h =
      either (is_out s clock o) _ _ (l.ends_it now o.id _ h)
      (acts_in_turn_it now (does_due s clock o) (record { sends = does_due_hold A s may cover clock o; about = λ w. does_due_about s clock o (about w) }) h)

  pub all_ticked_it : MayCover A s → (clock : ℕ) (os : List Operation) (now : Now) → (wanted → All IsAbout os) → P now → P (fold (ticked s clock) now os)
  all_ticked_it cover clock [] now about h = h
  all_ticked_it cover clock (o ∷ os) now about h = all_ticked_it cover clock os (ticked s clock now o) (λ w. All-tail IsAbout o os (about w)) (ticked_it cover clock now o (λ w. All-head IsAbout o os (about w)) h)

  -- an operation that begins
  read_begins_it : (now : Now) (o : Operation) (request : ReadRequest) (mode : Mode) → (wanted → IsOf o.request request.group) → P now → Leads P wanted (read_begins s now o request mode)
  read_begins_it now o request Current of h = begins_read_it now o request.group None [] of h
  read_begins_it now o request Snapshot of h = l.ends_it now o.id _ h
  read_begins_it now o request Inconsistent of h = l.ends_it now o.id _ h

  local_find_it : (now : Now) (o : Operation) (request : FindRequest) (group : GroupId) (mode : Mode) → (wanted → IsOf o.request group) → P now → Leads P wanted (local_find_begins s now o request group mode)
  local_find_it now o request group Current of h = begins_read_it now o group None [] of h
  local_find_it now o request group Snapshot of h = l.ends_it now o.id _ h
  local_find_it now o request group Inconsistent of h = l.ends_it now o.id _ h

  find_begins_it : (now : Now) (o : Operation) (request : FindRequest) (group : Option GroupId) → (wanted → (found : GroupId) → group ≡ Some found → IsOf o.request found) → P now → Leads P wanted (find_begins s now o request group)
  find_begins_it now o request None of h = l.ends_it now o.id _ h
  find_begins_it now o request (Some group) of h = local_find_it now o request group request.mode (λ w. of w group refl) h

  module _ (id : OpId) (began : ℕ) (visited : List GroupId) (message : Option Enter) (phase : Phase) where
    first_by : (now : Now) (request : Request) → P now → Leads P wanted (acts_first s now (one id began visited message request phase))
    first_by now (Txn transaction) h = begins_read_it now (one id began visited message (Txn transaction) phase) transaction.group None [] (λ w. refl) h
    first_by now (BatchRequest group transactions) h = begins_read_it now (one id began visited message (BatchRequest group transactions) phase) group None [] (λ w. refl) h
    first_by now (ReadRequested request) h = read_begins_it now (one id began visited message (ReadRequested request) phase) request request.mode (λ w. refl) h
    first_by now (Find request) h = find_begins_it now (one id began visited message (Find request) phase) request request.group (λ w group is. is) h
    first_by now PumpEnter h = picks_message_it now (one id began visited message PumpEnter phase) [] (next_to_enter id (applied_logs now)) (λ w g. tt) h
    first_by now PumpHandle h = picks_group_it now (one id began visited message PumpHandle phase) [] (next_to_handle (applied_logs now)) (λ w g. tt) h
    first_by now Refresh h = l.ends_it now id _ h

  pub begins_it : (now : Now) (o : Operation) → P now → P (begins s now o)
  begins_it now o h = rests_within_it (length (groups_of now.met) + 2) (acts_first s now o) (first_by o.id o.began o.visited o.message o.phase now o.request h)

  pub begun_it : (now : Now) (o : Operation) (refusal : Option Answer) → P now → P (unless_refused s now o refusal)
  begun_it now o None h = begins_it now o h
  begun_it now o (Some answer) h = l.ends_it now o.id answer h

-- ---- all that is sent is what may be

abbrev pub AllSent : (Message → Type 0) → Now → Type 0
AllSent A now = All A now.sends

pub sent_lasts : (A : Message → Type 0) → Lasts A (AllSent A) ⊥
sent_lasts A = record {
  keeps_it = λ now o about h. h;
  ends_it = λ now op answer h. h;
  sends_it = λ now sends more h. All-append A now.sends sends h more;
  stores_it = λ now stored h. h;
  validates_it = λ now group p refusal h. validated now group p refusal h;
}
  where
    validated : (now : Now) (group : GroupId) (p : ℕ) (refusal : Option NotValid) → AllSent A now → AllSent A (validated_by now group p refusal)
    validated now group p None h = h
    validated now group p (Some refusal) h = h

pub all_heard_hold : (A : Message → Type 0) (s : Setting) → MayAct A s → (clock : ℕ) (m : Message) (os : List Operation) → All (IsHeard A ⊥) (map (hears_message s clock m) os)
all_heard_hold A s may clock m [] = All-nil (IsHeard A ⊥)
all_heard_hold A s may clock m (o ∷ os) =
    All-cons (IsHeard A ⊥) (hears_message s clock m o) (map (hears_message s clock m) os)
    (record { sends = hears_message_hold A s may clock m o; about = λ impossible. absurd impossible }) (all_heard_hold A s may clock m os)
