-- What operations do within a step is the same wherever what was met tells the node the same.
use Rattle.std.proofs.Common.{◌≡◌, ℕ, zero, suc, ◌+◌, nat_le, Bool, true, false, cond, List, [], ◌∷◌, ◌++◌, take, length, fold, map, flat_map, filter_map, Option, Some, None, Result, Ok, Err, refl, ap, subst}
use Rattle.std.specs.List.{list_any}
use Rattle.std.specs.Result.{is_ok}
use Rattle.mega_base.specs.declared.names.Epoch.{Epoch}
use Rattle.mega_base.specs.declared.names.GroupId.{GroupId}
use Rattle.mega_base.specs.declared.names.OpId.{OpId}
use Rattle.mega_cluster.specs.declared.cluster.Cluster.{Cluster}
use Rattle.mega_coordinator.specs.declared.answers.NotValid.{NotValid}
use Rattle.mega_coordinator.specs.History.{is_valid, refused, serving}
use Rattle.mega_entry.specs.declared.content.Content.{Content}
use Rattle.mega_entry.specs.declared.content.Enter.{Enter}
use Rattle.mega_wire.specs.declared.message.Message.{Message}
use Rattle.mega_handler.specs.Named.{has}
use Rattle.mega_index.specs.Rows.{Listed, Rows, after, list_after, list_written, no_rows, written}
use Rattle.mega_index.specs.Fits.{numbered}
use Rattle.mega_outcome.specs.declared.answer.Answer.{Answer}
use Rattle.mega_outcome.specs.declared.answer.Answer.TheVariants.{NothingToDo, Refreshed}
use Rattle.mega_outcome.specs.declared.answer.Batch.{Batch}
use Rattle.mega_outcome.specs.declared.answer.Done.{Done}
use Rattle.mega_outcome.specs.declared.answer.Mark.{Mark}
use Rattle.mega_outcome.specs.declared.answer.Turn.{Turn as Turned}
use Rattle.mega_outcome.specs.declared.request.FindRequest.{FindRequest}
use Rattle.mega_outcome.specs.declared.request.Mode.{Mode}
use Rattle.mega_outcome.specs.declared.request.Mode.TheVariants.{Current, Snapshot, Inconsistent}
use Rattle.mega_outcome.specs.declared.request.ReadRequest.{ReadRequest}
use Rattle.mega_outcome.specs.declared.request.Request.{Request}
use Rattle.mega_outcome.specs.declared.request.Request.TheVariants.{Txn, Batch as BatchRequest, Read as ReadRequested, Find, PumpEnter, PumpHandle, Refresh}
use Rattle.mega_outcome.specs.Outcome.{batch_outcome, entry_of_batch, entry_of_done, outcome}
use Rattle.mega_propose.specs.declared.round.Move.{Move as RoundMove}
use Rattle.mega_propose.specs.Rounds.{asks}
use Rattle.mega_read.specs.declared.reading.Reading.{Reading}
use Rattle.mega_read.specs.declared.reading.Stage.{Stage}
use Rattle.mega_read.specs.declared.reading.Stage.TheVariants.{Polling, Catching}
use Rattle.mega_read.specs.declared.reading.Move.{Move as ReadMove}
use Rattle.mega_read.specs.Catching.{asked_by, local_read, polled_read, site, seeks}
use Rattle.mega_replica.specs.Applying.{after_read, applied, applied_log, stored_writes}
use Rattle.mega_rules.specs.Met.{Answers, Validates}
use Rattle.mega_rules.specs.Clock.{clock_of, last_tick}
use Rattle.mega_rules.specs.Finding.{find_by, global_found, local_found}
use Rattle.mega_rules.specs.Logs.{decided, groups_of, log_of, prefix_of}
use Rattle.mega_rules.specs.Members.{voters}
use Rattle.mega_rules.specs.Coordinators.{refused_at}
use Rattle.mega_rules.specs.Queues.{Posted, enter_entry, is_named, names_entered, next_to_enter, next_to_handle, oldest_unhandled}
use Rattle.mega_rules.specs.Operations.{Now, Operation, Phase, Promised, Proposes, Reads, Replies, Results, Setting}
use Rattle.mega_rules.specs.Acting.{ActsAgain, Next, Rests, acts, applied_logs, applied_marks, batch_sealed, begins_read, completes_read, ends, enters, finishes, goes_on, handles, handling, has_nothing, in_phase, is_visited, keeps, leader_after, listed_at, mark_of, named_leader, picks_group, picks_message, picks_to_enter, picks_to_handle, proposes, proposes_by, proposes_there, read_answer, read_begun, reader_of, reads_on, rests_within, rows_at, sealed, seeks_on, sends_more, stored_with, table_rows, unless_decided, unless_full, validated_by, validates, verdict, visiting}
use Rattle.mega_rules.specs.Steps.{Heard, acts_first, acts_in_turn, all_act, applied_position, begins, does_due, find_begins, is_out, last_answer, local_find_begins, read_begins, snapshot_listed, snapshot_rows, stored_listed, stored_rows, ticked, unless_refused}
use Rattle.mega_served_laws.proofs.Alike.{Alike, Scope, alike_more}
use Rattle.mega_served_laws.proofs.Logs.{log_alike, prefix_alike}

-- a node within a step, by what two histories tell
pub record NowAlike (w : Scope) (c : Cluster) (me : ℕ) (a b : Now) : Type 0 where
  pub met : Alike w c me a.met b.met
  pub stored : a.stored ≡ b.stored
  pub kept : a.kept ≡ b.kept
  pub valid : a.valid ≡ b.valid
  pub answers : a.answers ≡ b.answers
  pub sends : a.sends ≡ b.sends

module _ (w : Scope) (s : Setting) where
  abbrev R : Now → Now → Type 0
  R a b = NowAlike w s.cluster s.me a b

  -- what an operation comes to, by two histories: both times it rests, or both times the same operation acts again
  abbrev N : Next → Next → Type 0
  N (Rests a) (Rests b) = R a b
  N (Rests a) (ActsAgain b p) = ⊥
  N (ActsAgain a o) (Rests b) = ⊥
  N (ActsAgain a o) (ActsAgain b p) = R a b × (o ≡ p)

  either : (t : Bool) (a b x y : Now) → R a b → R x y → R (cond t a x) (cond t b y)
  either true a b x y h k = h
  either false a b x y h k = k

  either_next : (t : Bool) (a b x y : Next) → N a b → N x y → N (cond t a x) (cond t b y)
  either_next true a b x y h k = h
  either_next false a b x y h k = k

  -- ---- what is read off what was met
  clock_same : (a b : Now) → R a b → clock_of a.met ≡ clock_of b.met
  clock_same a b h = ap last_tick (h.met).ticks

  decided_same : (a b : Now) → R a b → (group : GroupId) (n : ℕ) → decided a.met group n ≡ decided b.met group n
  decided_same a b h group n = ((h.met).kept).decides group n

  log_same : (a b : Now) → R a b → (group : GroupId) → log_of a.met group ≡ log_of b.met group
  log_same a b h group = log_alike a.met b.met (h.met).kept group

  prefix_same : (a b : Now) → R a b → (group : GroupId) → prefix_of a.met group ≡ prefix_of b.met group
  prefix_same a b h group = prefix_alike a.met b.met (h.met).kept group

  rows_same : (a b : Now) → R a b → (group : GroupId) (p : ℕ) → rows_at a group p ≡ rows_at b group p
  rows_same a b h group p = ap (λ log. after (take p log) no_rows) (log_same a b h group)

  listed_same : (a b : Now) → R a b → (group : GroupId) (p : ℕ) → listed_at a group p ≡ listed_at b group p
  listed_same a b h group p = ap (λ log. list_after (take p log) []) (log_same a b h group)

  logs_same : (a b : Now) → R a b → applied_logs a ≡ applied_logs b
  logs_same a b h = λ i. map (λ (group : GroupId). record { group = group; entries = applied_log (log_same a b h group i) (h.stored i group) }) (((h.met).kept).groups i)

  marks_same : (a b : Now) → R a b → applied_marks a ≡ applied_marks b
  marks_same a b h = ap (filter_map mark_of) (logs_same a b h)

  begun_same : (a b : Now) → R a b → (o : Operation) (group : GroupId) (asked : List ℕ) → read_begun s a o group asked ≡ read_begun s b o group asked
  begun_same a b h o group asked = λ i. cond {A = ReadMove} (is_visited o group)
      (polled_read (reader_of s o.id group) None asked (clock_same a b h i))
      (cond (is_valid ((h.met).start i) (s.cluster).cells ((h.met).calls i) group) (local_read asked (((h.met).kept).tops group i))
      (polled_read (reader_of s o.id group) (serving ((h.met).start i) (s.cluster).cells ((h.met).calls i)) asked (clock_same a b h i)))

  leader_same : (a b : Now) → R a b → (group : GroupId) (p : ℕ) → leader_after s a group p ≡ leader_after s b group p
  leader_same a b h group zero = refl
  leader_same a b h group (suc p) = ap (named_leader (voters s.cluster)) (decided_same a b h group (suc p))

  refused_same : (a b : Now) → R a b → (group : GroupId) (p : ℕ) (noted : Epoch) → refused_at s.cluster a.met group p noted ≡ refused_at s.cluster b.met group p noted
  refused_same a b h group p noted = λ i. refused ((h.met).start i) (s.cluster).cells ((h.met).calls i) group p noted

  -- ---- what happens to an operation
  pub keeps_alike : (a b : Now) (o p : Operation) → o ≡ p → R a b → R (keeps a o) (keeps b p)
  keeps_alike a b o p e h = record { met = h.met; stored = h.stored; kept = λ i. h.kept i ++ e i ∷ []; valid = h.valid; answers = h.answers; sends = h.sends }

  pub ends_alike : (a b : Now) (op : OpId) (x y : Answer) → x ≡ y → R a b → R (ends a op x) (ends b op y)
  ends_alike a b op x y e h = record { met = h.met; stored = h.stored; kept = h.kept; valid = h.valid; answers = λ i. h.answers i ++ Answers op (e i) ∷ []; sends = h.sends }

  pub sends_alike : (a b : Now) (x y : List Message) → x ≡ y → R a b → R (sends_more a x) (sends_more b y)
  sends_alike a b x y e h = record { met = h.met; stored = h.stored; kept = h.kept; valid = h.valid; answers = h.answers; sends = λ i. h.sends i ++ e i }

  unless_decided_alike : (a b : Now) (o : Operation) (n : ℕ) (promised : Promised) (d : Option Content) → R a b → R (unless_decided a o n promised d) (unless_decided b o n promised d)
  unless_decided_alike a b o n promised None h = keeps_alike a b o o refl h
  unless_decided_alike a b o n promised (Some entry) h = ends_alike a b o.id (verdict o.id n promised entry) (verdict o.id n promised entry) refl h

  decides_alike : (a b : Now) (o : Operation) (group : GroupId) (n : ℕ) (promised : Promised) → R a b
      → R (unless_decided a o n promised (decided a.met group n)) (unless_decided b o n promised (decided b.met group n))
  decides_alike a b o group n promised h =
      subst (λ d. R (unless_decided a o n promised (decided a.met group n)) (unless_decided b o n promised d)) (decided_same a b h group n)
      (unless_decided_alike a b o n promised (decided a.met group n) h)

  -- ---- an operation proposes
  there_alike : (a b : Now) (o : Operation) (group : GroupId) (n : ℕ) (asked : List ℕ) (promised : Promised) (t : RoundMove) → R a b
      → R (proposes_there s a o group n asked promised t) (proposes_there s b o group n asked promised t)
  there_alike a b o group n asked promised t h =
      decides_alike (sends_more a t.sends) (sends_more b t.sends) (in_phase o (Proposes group n asked t.proposal promised)) group n promised (sends_alike a b t.sends t.sends refl h)

  proposes_by_alike : (a b : Now) (o : Operation) (group : GroupId) (r : Reading) (p : ℕ) (own : Content) (promised : Promised) (leader : Option ℕ) → R a b
      → R (proposes_by s a o group r p own promised leader) (proposes_by s b o group r p own promised leader)
  proposes_by_alike a b o group r p own promised None h = keeps_alike a b o o refl h
  proposes_by_alike a b o group r p own promised (Some leader) h =
      subst (λ k. R (proposes_there s a o group (p + 1) (asked_by r) promised (asks (site (reader_of s o.id group) (asked_by r) (p + 1)) leader own (clock_of a.met)))
      (proposes_there s b o group (p + 1) (asked_by r) promised (asks (site (reader_of s o.id group) (asked_by r) (p + 1)) leader own k))) (clock_same a b h)
      (there_alike a b o group (p + 1) (asked_by r) promised (asks (site (reader_of s o.id group) (asked_by r) (p + 1)) leader own (clock_of a.met)) h)

  proposes_alike : (a b : Now) (o : Operation) (group : GroupId) (r : Reading) (p : ℕ) (own : Content) (promised : Promised) → R a b
      → R (proposes s a o group r p own promised) (proposes s b o group r p own promised)
  proposes_alike a b o group r p own promised h =
      subst (λ leader. R (proposes_by s a o group r p own promised (leader_after s a group p)) (proposes_by s b o group r p own promised leader)) (leader_same a b h group p)
      (proposes_by_alike a b o group r p own promised (leader_after s a group p) h)

  -- ---- a read is complete
  validated_by_alike : (a b : Now) (group : GroupId) (p : ℕ) (refusal : Option NotValid) → R a b → R (validated_by a group p refusal) (validated_by b group p refusal)
  validated_by_alike a b group p (Some refusal) h = h
  validated_by_alike a b group p None h = record {
    met = alike_more w s.cluster s.me (Validates group p) a.met b.met h.met;
    stored = h.stored;
    kept = h.kept;
    valid = λ i. h.valid i ++ Validates group p ∷ [];
    answers = h.answers;
    sends = h.sends;
  }

  validates_alike : (a b : Now) (group : GroupId) (p : ℕ) (noted : Option Epoch) → R a b → R (validates s a group p noted) (validates s b group p noted)
  validates_alike a b group p None h = h
  validates_alike a b group p (Some noted) h =
      subst (λ refusal. R (validated_by a group p (refused_at s.cluster a.met group p noted)) (validated_by b group p refusal)) (refused_same a b h group p noted)
      (validated_by_alike a b group p (refused_at s.cluster a.met group p noted) h)

  abbrev stores : Now → (GroupId → ℕ) → Now
  stores now stored = record { met = now.met; stored = stored; kept = now.kept; valid = now.valid; answers = now.answers; sends = now.sends }

  abbrev through : Now → GroupId → ℕ → GroupId → ℕ
  through now group p = stored_with now.stored group (after_read p (log_of now.met group) (now.stored group))

  completes_alike : (a b : Now) (group : GroupId) (r : Reading) (p : ℕ) → R a b → R (completes_read s a group r p) (completes_read s b group r p)
  completes_alike a b group r p h = validates_alike (stores a (through a group p)) (stores b (through b group p)) group p r.noted (record {
    met = h.met;
    stored = λ i. stored_with (h.stored i) group (after_read p (log_same a b h group i) (h.stored i group));
    kept = h.kept;
    valid = h.valid;
    answers = h.answers;
    sends = h.sends;
  })

  -- ---- what a write comes to
  sealed_alike : (a b : Now) (o : Operation) (group : GroupId) (r : Reading) (p : ℕ) (result : Result Done Turned) → R a b → R (sealed s a o group r p result) (sealed s b o group r p result)
  sealed_alike a b o group r p (Err turn) h = ends_alike a b o.id _ _ refl h
  sealed_alike a b o group r p (Ok done) h = proposes_alike a b o group r p (entry_of_done o.id done) (Replies done.replies) h

  batch_sealed_alike : (a b : Now) (o : Operation) (group : GroupId) (r : Reading) (p : ℕ) (one : Batch) → R a b → R (batch_sealed s a o group r p one) (batch_sealed s b o group r p one)
  batch_sealed_alike a b o group r p one h =
      either (list_any is_ok one.results) _ _ _ _ (proposes_alike a b o group r p (entry_of_batch o.id one) (Results one.results) h) (ends_alike a b o.id _ _ refl h)

  unless_full_alike : (a b : Now) (o : Operation) (p : ℕ) (x y : Next) → R a b → N x y → N (unless_full s a o p x) (unless_full s b o p y)
  unless_full_alike a b o p x y h k = either_next (nat_le (s.cluster.limit).0 p) _ _ x y (ends_alike a b o.id _ _ refl h) k

  -- ---- a read begins
  begins_read_alike : (a b : Now) (o : Operation) (group : GroupId) (message : Option Enter) (asked : List ℕ) → R a b
      → N (begins_read s a o group message asked) (begins_read s b o group message asked)
  begins_read_alike a b o group message asked h =
      subst (λ t. N (begins_read s a o group message asked) (ActsAgain (sends_more b t.sends) (visiting o group message t))) (begun_same a b h o group asked)
      (sends_alike a b (read_begun s a o group asked).sends (read_begun s a o group asked).sends refl h, refl)

  nothing_alike : (a b : Now) (o : Operation) → R a b → N (has_nothing a o) (has_nothing b o)
  nothing_alike a b o h = ends_alike a b o.id (NothingToDo (applied_marks a)) (NothingToDo (applied_marks b)) (ap NothingToDo (marks_same a b h)) h

  picks_message_alike : (a b : Now) (o : Operation) (asked : List ℕ) (one : Option Posted) → R a b
      → N (picks_message s a o asked one) (picks_message s b o asked one)
  picks_message_alike a b o asked None h = nothing_alike a b o h
  picks_message_alike a b o asked (Some one) h = begins_read_alike a b o one.to (Some one.message) asked h

  picks_group_alike : (a b : Now) (o : Operation) (asked : List ℕ) (one : Option GroupId) → R a b
      → N (picks_group s a o asked one) (picks_group s b o asked one)
  picks_group_alike a b o asked None h = nothing_alike a b o h
  picks_group_alike a b o asked (Some group) h = begins_read_alike a b o group None asked h

  to_enter_alike : (a b : Now) (o : Operation) (asked : List ℕ) → R a b → N (picks_to_enter s a o asked) (picks_to_enter s b o asked)
  to_enter_alike a b o asked h =
      subst (λ logs. N (picks_message s a o asked (next_to_enter o.id (applied_logs a))) (picks_message s b o asked (next_to_enter o.id logs))) (logs_same a b h)
      (picks_message_alike a b o asked (next_to_enter o.id (applied_logs a)) h)

  to_handle_alike : (a b : Now) (o : Operation) (asked : List ℕ) → R a b → N (picks_to_handle s a o asked) (picks_to_handle s b o asked)
  to_handle_alike a b o asked h =
      subst (λ logs. N (picks_group s a o asked (next_to_handle (applied_logs a))) (picks_group s b o asked (next_to_handle logs))) (logs_same a b h)
      (picks_group_alike a b o asked (next_to_handle (applied_logs a)) h)

  enters_alike : (a b : Now) (o : Operation) (group : GroupId) (r : Reading) (p : ℕ) (message : Option Enter) → R a b
      → N (enters s a o group r p message) (enters s b o group r p message)
  enters_alike a b o group r p None h = to_enter_alike a b o (asked_by r) h
  enters_alike a b o group r p (Some message) h =
      subst (λ log. N (by a (log_of a.met group)) (by b log)) (log_same a b h group)
      (either_next (is_named message.name (names_entered (take p (log_of a.met group)))) _ _ _ _
      (to_enter_alike a b o (asked_by r) h) (proposes_alike a b o group r p (enter_entry o.id message) (Replies []) h))
    where
      by : Now → List Content → Next
      by now log = cond (is_named message.name (names_entered (take p log))) (picks_to_enter s now o (asked_by r)) (Rests (proposes s now o group r p (enter_entry o.id message) (Replies [])))

  handles_message_alike : (a b : Now) (o : Operation) (group : GroupId) (r : Reading) (p : ℕ) (message : Enter) → R a b → N (handles s a o group r p (Some message)) (handles s b o group r p (Some message))
  handles_message_alike a b o group r p message h = either_next (has s.handlers message.queue) _ _ _ _
      (subst (λ listed. R (by a (listed_at a group p)) (by b listed)) (listed_same a b h group p)
      (proposes_alike a b o group r p (handling s o.id group message (table_rows s.cluster.schema group (listed_at a group p))) (Replies []) h))
      (ends_alike a b o.id _ _ refl h)
    where
      by : Now → Listed → Now
      by now listed = proposes s now o group r p (handling s o.id group message (table_rows s.cluster.schema group listed)) (Replies [])

  handles_alike : (a b : Now) (o : Operation) (group : GroupId) (r : Reading) (p : ℕ) (message : Option Enter) → R a b
      → N (handles s a o group r p message) (handles s b o group r p message)
  handles_alike a b o group r p None h = to_handle_alike a b o (asked_by r) h
  handles_alike a b o group r p (Some message) h = handles_message_alike a b o group r p message h

  module _ (id : OpId) (began : ℕ) (visited : List GroupId) (message : Option Enter) where
    abbrev one : Request → Phase → Operation
    one request phase = record { id = id; request = request; began = began; visited = visited; message = message; phase = phase }

    finishes_by : (a b : Now) (request : Request) (phase : Phase) (group : GroupId) (r : Reading) (p : ℕ) → R a b
        → N (finishes s a (one request phase) group r p) (finishes s b (one request phase) group r p)
    finishes_by a b (Txn transaction) phase group r p h = unless_full_alike a b o p _ _ h
        (subst (λ rows. R (by a (rows_at a group p)) (by b rows)) (rows_same a b h group p) (sealed_alike a b o group r p (outcome s.cluster.schema transaction (rows_at a group p)) h))
      where
        o : Operation
        o = one (Txn transaction) phase

        by : Now → Rows → Now
        by now rows = sealed s now o group r p (outcome s.cluster.schema transaction rows)
    finishes_by a b (BatchRequest own transactions) phase group r p h = unless_full_alike a b o p _ _ h
        (subst (λ rows. R (by a (rows_at a group p)) (by b rows)) (rows_same a b h group p) (batch_sealed_alike a b o group r p (batch_outcome s.cluster.schema own transactions (rows_at a group p)) h))
      where
        o : Operation
        o = one (BatchRequest own transactions) phase

        by : Now → Rows → Now
        by now rows = batch_sealed s now o group r p (batch_outcome s.cluster.schema own transactions rows)
    finishes_by a b (ReadRequested request) phase group r p h =
        ends_alike a b id _ _ (λ i. read_answer s request p (rows_same a b h group p i) (listed_same a b h group p i)) h
    finishes_by a b (Find request) phase group r p h = ends_alike a b id _ _ (ap (local_found s.cluster.schema request p) (listed_same a b h group p)) h
    finishes_by a b PumpEnter phase group r p h = unless_full_alike a b (one PumpEnter phase) p _ _ h (enters_alike a b (one PumpEnter phase) group r p message h)
    finishes_by a b PumpHandle phase group r p h = unless_full_alike a b o p _ _ h
        (subst (λ log. N (by a (log_of a.met group)) (by b log)) (log_same a b h group) (handles_alike a b o group r p (oldest_unhandled (take p (log_of a.met group))) h))
      where
        o : Operation
        o = one PumpHandle phase

        by : Now → List Content → Next
        by now log = handles s now o group r p (oldest_unhandled (take p log))
    finishes_by a b Refresh phase group r p h = keeps_alike a b (one Refresh phase) (one Refresh phase) refl h

  finishes_alike : (a b : Now) (o : Operation) (group : GroupId) (r : Reading) (p : ℕ) → R a b → N (finishes s a o group r p) (finishes s b o group r p)
  finishes_alike a b o group r p h = finishes_by o.id o.began o.visited o.message a b o.request o.phase group r p h

  -- ---- a read goes on
  seeks_alike : (a b : Now) (o : Operation) (group : GroupId) (x y : ReadMove) → x ≡ y → R a b → R (seeks_on o a group x) (seeks_on o b group y)
  seeks_alike a b o group x y e h = keeps_alike (sends_more a x.sends) (sends_more b y.sends) _ _ (λ i. in_phase o (Reads group (e i).reading)) (sends_alike a b x.sends y.sends (λ i. (e i).sends) h)

  reads_on_by : (a b : Now) (o : Operation) (group : GroupId) (noted : Option Epoch) (asked : List ℕ) (stage : Stage) → R a b
      → N (reads_on s a o group (record { noted = noted; asked = asked; stage = stage })) (reads_on s b o group (record { noted = noted; asked = asked; stage = stage }))
  reads_on_by a b o group noted asked (Polling heard best at) h = keeps_alike a b o o refl h
  reads_on_by a b o group noted asked (Catching p search) h =
      subst (λ prefix. N (by a (prefix_of a.met group)) (by b prefix)) (prefix_same a b h group)
      (either_next (nat_le p (prefix_of a.met group)) _ _ _ _
      (finishes_alike (completes_read s a group r p) (completes_read s b group r p) o group r p (completes_alike a b group r p h))
      (seeks_alike a b o group _ _ (ap (seeks (reader_of s o.id group) r (prefix_of a.met group + 1)) (clock_same a b h)) h))
    where
      r : Reading
      r = record { noted = noted; asked = asked; stage = Catching p search }

      by : Now → ℕ → Next
      by now prefix = cond (nat_le p prefix) (finishes s (completes_read s now group r p) o group r p) (Rests (seeks_on o now group (seeks (reader_of s o.id group) r (prefix + 1) (clock_of now.met))))

  reads_on_alike : (a b : Now) (o : Operation) (group : GroupId) (r : Reading) → R a b → N (reads_on s a o group r) (reads_on s b o group r)
  reads_on_alike a b o group r h = reads_on_by a b o group r.noted r.asked r.stage h

  -- ---- operations act
  acts_by : (a b : Now) (id : OpId) (request : Request) (began : ℕ) (visited : List GroupId) (message : Option Enter) (phase : Phase) → R a b
      → N (acts s a (record { id = id; request = request; began = began; visited = visited; message = message; phase = phase }))
      (acts s b (record { id = id; request = request; began = began; visited = visited; message = message; phase = phase }))
  acts_by a b id request began visited message (Reads group r) h =
      reads_on_alike a b (record { id = id; request = request; began = began; visited = visited; message = message; phase = Reads group r }) group r h
  acts_by a b id request began visited message (Proposes group n asked proposal promised) h =
      decides_alike a b (record { id = id; request = request; began = began; visited = visited; message = message; phase = Proposes group n asked proposal promised }) group n promised h

  acts_alike : (a b : Now) (o : Operation) → R a b → N (acts s a o) (acts s b o)
  acts_alike a b o h = acts_by a b o.id o.request o.began o.visited o.message o.phase h

  -- until it rests
  rests_alike : (most : ℕ) (x y : Next) → N x y → R (rests_within most s x) (rests_within most s y)
  rests_alike most (Rests a) (Rests b) h = h
  rests_alike most (Rests a) (ActsAgain b p) h = absurd h
  rests_alike most (ActsAgain a o) (Rests b) h = absurd h
  rests_alike zero (ActsAgain a o) (ActsAgain b p) h = keeps_alike a b o p h.1 h.0
  rests_alike (suc most) (ActsAgain a o) (ActsAgain b p) h =
      subst (λ (q : Operation). R (rests_within most s (acts s a o)) (rests_within most s (acts s b q))) h.1 (rests_alike most (acts s a o) (acts s b o) (acts_alike a b o h.0))

  most_same : (a b : Now) → R a b → length (groups_of a.met) + 2 ≡ length (groups_of b.met) + 2
  most_same a b h = ap (λ groups. length groups + 2) ((h.met).kept).groups

  rested_alike : (a b : Now) (x y : Next) → R a b → N x y → R (rests_within (length (groups_of a.met) + 2) s x) (rests_within (length (groups_of b.met) + 2) s y)
  rested_alike a b x y h k = subst (λ most. R (rests_within (length (groups_of a.met) + 2) s x) (rests_within most s y)) (most_same a b h) (rests_alike (length (groups_of a.met) + 2) x y k)

  pub goes_on_alike : (a b : Now) (o : Operation) → R a b → R (goes_on s a o) (goes_on s b o)
  goes_on_alike a b o h = rested_alike a b (ActsAgain a o) (ActsAgain b o) h (h, refl)

  in_turn_alike : (a b : Now) (t : Heard) → R a b → R (acts_in_turn s a t) (acts_in_turn s b t)
  in_turn_alike a b t h = goes_on_alike (sends_more a t.sends) (sends_more b t.sends) t.operation (sends_alike a b t.sends t.sends refl h)

  pub all_act_alike : (ts : List Heard) (a b : Now) → R a b → R (all_act s a ts) (all_act s b ts)
  all_act_alike [] a b h = h
  all_act_alike (t ∷ ts) a b h = all_act_alike ts (acts_in_turn s a t) (acts_in_turn s b t) (in_turn_alike a b t h)

  ticked_alike : (clock : ℕ) (a b : Now) (o : Operation) → R a b → R (ticked s clock a o) (ticked s clock b o)
  ticked_alike clock a b o h = either (is_out s clock o) _ _ _ _ (ends_alike a b o.id (last_answer o) (last_answer o) refl h) (in_turn_alike a b (does_due s clock o) h)

  pub all_ticked_alike : (clock : ℕ) (os : List Operation) (a b : Now) → R a b → R (fold (ticked s clock) a os) (fold (ticked s clock) b os)
  all_ticked_alike clock [] a b h = h
  all_ticked_alike clock (o ∷ os) a b h = all_ticked_alike clock os (ticked s clock a o) (ticked s clock b o) (ticked_alike clock a b o h)

  -- ---- an operation begins
  applied_same : (a b : Now) → R a b → (group : GroupId) → applied_position a group ≡ applied_position b group
  applied_same a b h group = λ i. applied (log_same a b h group i) (h.stored i group)

  snapshot_same : (a b : Now) → R a b → (group : GroupId) → snapshot_rows a group ≡ snapshot_rows b group
  snapshot_same a b h group = λ i. after (take (applied_same a b h group i) (log_same a b h group i)) no_rows

  snapshot_listed_same : (a b : Now) → R a b → (group : GroupId) → snapshot_listed a group ≡ snapshot_listed b group
  snapshot_listed_same a b h group = λ i. list_after (take (applied_same a b h group i) (log_same a b h group i)) []

  stored_same : (a b : Now) → R a b → (group : GroupId) → stored_rows a group ≡ stored_rows b group
  stored_same a b h group = λ i. written (stored_writes (log_same a b h group i) (h.stored i group)) no_rows

  stored_listed_same : (a b : Now) → R a b → (group : GroupId) → stored_listed a group ≡ stored_listed b group
  stored_listed_same a b h group = λ i. list_written (stored_writes (log_same a b h group i) (h.stored i group)) []

  global_same : (a b : Now) → R a b → (request : FindRequest) → global_found s.cluster.schema a.met request ≡ global_found s.cluster.schema b.met request
  global_same a b h request = λ i. find_by s.cluster.schema request ((h.met).marks i) []
      (flat_map (λ (mark : Mark). list_after (take (mark.position).0 (log_same a b h mark.group i)) []) ((h.met).marks i)) (numbered s.cluster.schema.indexes request.index)

  read_begins_alike : (a b : Now) (o : Operation) (request : ReadRequest) (mode : Mode) → R a b → N (read_begins s a o request mode) (read_begins s b o request mode)
  read_begins_alike a b o request Current h = begins_read_alike a b o request.group None [] h
  read_begins_alike a b o request Snapshot h = ends_alike a b o.id _ _
      (λ i. read_answer s request (applied_same a b h request.group i) (snapshot_same a b h request.group i) (snapshot_listed_same a b h request.group i)) h
  read_begins_alike a b o request Inconsistent h = ends_alike a b o.id _ _
      (λ i. read_answer s request (applied_same a b h request.group i) (stored_same a b h request.group i) (stored_listed_same a b h request.group i)) h

  local_find_alike : (a b : Now) (o : Operation) (request : FindRequest) (group : GroupId) (mode : Mode) → R a b → N (local_find_begins s a o request group mode) (local_find_begins s b o request group mode)
  local_find_alike a b o request group Current h = begins_read_alike a b o group None [] h
  local_find_alike a b o request group Snapshot h = ends_alike a b o.id _ _ (λ i. local_found s.cluster.schema request (applied_same a b h group i) (snapshot_listed_same a b h group i)) h
  local_find_alike a b o request group Inconsistent h = ends_alike a b o.id _ _ (λ i. local_found s.cluster.schema request (applied_same a b h group i) (stored_listed_same a b h group i)) h

  find_begins_alike : (a b : Now) (o : Operation) (request : FindRequest) (group : Option GroupId) → R a b → N (find_begins s a o request group) (find_begins s b o request group)
  find_begins_alike a b o request None h = ends_alike a b o.id _ _ (global_same a b h request) h
  find_begins_alike a b o request (Some group) h = local_find_alike a b o request group request.mode h

  module _ (id : OpId) (began : ℕ) (visited : List GroupId) (message : Option Enter) (phase : Phase) where
    first_by : (a b : Now) (request : Request) → R a b → N (acts_first s a (one id began visited message request phase)) (acts_first s b (one id began visited message request phase))
    first_by a b (Txn transaction) h = begins_read_alike a b (one id began visited message (Txn transaction) phase) transaction.group None [] h
    first_by a b (BatchRequest group transactions) h = begins_read_alike a b (one id began visited message (BatchRequest group transactions) phase) group None [] h
    first_by a b (ReadRequested request) h = read_begins_alike a b (one id began visited message (ReadRequested request) phase) request request.mode h
    first_by a b (Find request) h = find_begins_alike a b (one id began visited message (Find request) phase) request request.group h
    first_by a b PumpEnter h = to_enter_alike a b (one id began visited message PumpEnter phase) [] h
    first_by a b PumpHandle h = to_handle_alike a b (one id began visited message PumpHandle phase) [] h
    first_by a b Refresh h = ends_alike a b id _ _ (ap Refreshed (marks_same a b h)) h

  begins_alike : (a b : Now) (o : Operation) → R a b → R (begins s a o) (begins s b o)
  begins_alike a b o h = rested_alike a b (acts_first s a o) (acts_first s b o) h (first_by o.id o.began o.visited o.message o.phase a b o.request h)

  pub begun_alike : (a b : Now) (o : Operation) (refusal : Option Answer) → R a b → R (unless_refused s a o refusal) (unless_refused s b o refusal)
  begun_alike a b o None h = begins_alike a b o h
  begun_alike a b o (Some answer) h = ends_alike a b o.id answer answer refl h
