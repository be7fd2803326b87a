-- When a cluster is calm for a group: an operation that begins then, and whose messages are delivered, is answered.
use Rattle.std.specs.Prelude.{◌≡◌, ℕ, ◌+◌, ◌≤◌, ◌==◌, ◌&&◌, ◌||◌, max, Bool, true, false, List, [], ◌∷◌, Contains, fold, map, IsSome, Option, Some, None, Ok}
use Rattle.mega_base.specs.declared.names.GroupId.{GroupId}
use Rattle.mega_base.specs.declared.names.Position.{Position}
use Rattle.mega_cluster.specs.declared.cluster.Cluster.{Cluster}
use Rattle.mega_entry.specs.declared.content.Content.{Content}
use Rattle.mega_entry.specs.declared.content.Enter.{Enter}
use Rattle.mega_handler.specs.Named.{Meanings, has}
use Rattle.mega_index.specs.Rows.{after, no_rows}
use Rattle.mega_wire.specs.declared.message.Message.{Message}
use Rattle.mega_wire.specs.declared.message.Body.{Body}
use Rattle.mega_wire.specs.declared.message.Body.TheVariants.{Accept, Accepted, Decide, Fetch, Have, HaveNot, Invalidate, Invalidated, Prepare, Promise, Refused}
use Rattle.mega_outcome.specs.declared.answer.Answer.TheVariants.{Committed, Read as ReadAnswer}
use Rattle.mega_outcome.specs.declared.answer.Done.{Done}
use Rattle.mega_outcome.specs.declared.answer.Shown.{Shown}
use Rattle.mega_outcome.specs.declared.request.Request.{Request}
use Rattle.mega_outcome.specs.declared.request.Request.TheVariants.{PumpEnter, PumpHandle, Read, Txn}
use Rattle.mega_outcome.specs.declared.request.ReadRequest.{ReadRequest}
use Rattle.mega_outcome.specs.declared.transaction.Transaction.{Transaction}
use Rattle.mega_outcome.specs.Outcome.{outcome}
use Rattle.mega_schedule.specs.declared.world_event.WorldEvent.TheVariants.{Begin as BeginEvent, Drain}
use Rattle.mega_transcript.specs.declared.item.Item.{Item}
use Rattle.mega_transcript.specs.declared.item.Item.TheVariants.{Answer as AnswerItem, Cut as CutItem, Decide as DecideItem, Sent}
use Rattle.mega_transcript.specs.Tape.{is_sent, is_taken}
use Rattle.mega_wal.specs.Acceptor.{best}
use Rattle.mega_wal.specs.Same.{same_group}
use Rattle.mega_rules.specs.Acting.{applied_logs}
use Rattle.mega_rules.specs.Clock.{is_up}
use Rattle.mega_rules.specs.Logs.{decided, top_of}
use Rattle.mega_rules.specs.Members.{is_full, is_node, is_voter, voters}
use Rattle.mega_rules.specs.Operations.{Node, Now}
use Rattle.mega_rules.specs.Queues.{Posted, entered_in, enter_entry, is_named, names_entered, next_to_enter, next_to_handle, oldest_unhandled}
use Rattle.mega_rules.specs.Steps.{at_first, is_current, is_worn, op_of}
use Rattle.mega_rules.specs.Voting.{acts}
use Rattle.mega_promises.specs.Items.{number}
use Rattle.mega_promises.specs.Messages.{is_dropped, is_unsafe}
use Rattle.mega_promises.specs.Promises.{Stands, handled_by, log_of, rows_shown}
use Rattle.mega_promises.specs.Runs.{Cuts, Standing, after_event, setting}

-- all nodes are up, with no fuse set, no operation open and numbers left for more; every message was taken or dropped; and what a voter
-- accepted of the group is decided at a voter
pub record IsCalm (c : Cluster) (now : Standing) (group : GroupId) : Type 0 where
  pub all_up : (node : ℕ) → is_node c node ≡ true → is_up (now.node node).met ≡ true
  pub no_log_fuse : (node : ℕ) → is_node c node ≡ true → now.log_fuse node ≡ None
  pub no_data_fuse : (node : ℕ) → is_node c node ≡ true → now.data_fuse node ≡ None
  pub none_open : (node : ℕ) → is_node c node ≡ true → (now.node node).open_operations ≡ []
  pub not_worn : (node : ℕ) → is_node c node ≡ true → is_worn (now.node node).met ≡ false
  pub quiet : (n : ℕ) → is_sent now.tape n ≡ true → (is_taken now.tape n || is_dropped now.tape n) ≡ true
  pub accepted_decided : (node n : ℕ) → is_voter c node ≡ true → IsSome (best (acts (now.node node).met group n))
      → (other : ℕ) × (is_voter c other ≡ true) × IsSome (decided (now.node other).met group n)

-- one above the greatest position of a group that a voter accepted or decided
abbrev pub next_position : Cluster → Standing → GroupId → ℕ
next_position c now group = fold (λ most voter. max most (top_of (now.node voter).met group)) 0 (voters c) + 1

-- a message is for a position of a group
abbrev pub is_at : GroupId → ℕ → GroupId → Position → Bool
is_at group n other position = same_group other group && position.0 == n

abbrev pub is_for : GroupId → ℕ → Body → Bool
is_for group n (Accept op g position ballot entry) = is_at group n g position
is_for group n (Accepted op g position ballot entry) = is_at group n g position
is_for group n (Refused op g position asked shown entry) = is_at group n g position
is_for group n (Prepare op g position ballot) = is_at group n g position
is_for group n (Promise op g position ballot vote) = is_at group n g position
is_for group n (Invalidate op g position) = is_at group n g position
is_for group n (Invalidated op g position) = is_at group n g position
is_for group n (Decide g position entry) = is_at group n g position
is_for group n (Fetch op g position) = is_at group n g position
is_for group n (Have op g position entry) = is_at group n g position
is_for group n (HaveNot op g position) = is_at group n g position
is_for group n _ = false

-- a calm group takes an entry at its next position: no message speaks of it yet, the log has room, and leases are safe
pub record IsCalmAt (c : Cluster) (now : Standing) (group : GroupId) (n : ℕ) : Type 0 where
  pub calm : IsCalm c now group
  pub next : next_position c now group ≡ n
  pub unspoken : (k : ℕ) (m : Message) → Stands (Sent k m) now.tape → is_for group n m.body ≡ false
  pub room : n ≤ (c.limit).0
  pub safe : is_unsafe now.tape ≡ false

-- an operation begins, and a drain follows
abbrev pub begun : Cluster → Meanings → Cuts → Standing → ℕ → Request → List ℕ → Standing
begun c h cuts now me request text = after_event c h cuts now (BeginEvent (number me) request text)

abbrev pub drained : Cluster → Meanings → Cuts → Standing → ℕ → Request → List ℕ → ℕ → Standing
drained c h cuts now me request text most = after_event c h cuts (begun c h cuts now me request text) (Drain most)

-- the drain ends with no message left
abbrev pub is_cut : List Item → Bool
is_cut (CutItem ∷ before) = true
is_cut _ = false

abbrev pub Ends : Cluster → Meanings → Cuts → Standing → ℕ → Request → List ℕ → ℕ → Type 0
Ends c h cuts now me request text most = (is_full c me ≡ true) × (is_cut (drained c h cuts now me request text most).tape ≡ false)

-- what a pump picks first at a node
abbrev pub first_now : Standing → ℕ → Now
first_now now me = at_first (now.node me).met (now.node me).stored

-- what is promised of operations that begin at full nodes of a calm cluster, each followed by a drain that is not cut
pub record IsCalmComplete (c : Cluster) (h : Meanings) (cuts : Cuts) (now : Standing) : Type 0 where
  -- a transaction that its outcome takes is committed at the group's next position
  pub transactions : (me n most : ℕ) (transaction : Transaction) (text : List ℕ) (done : Done)
      → IsCalmAt c now transaction.group n → Ends c h cuts now me (Txn transaction) text most
      → outcome c.schema transaction (after (log_of now.tape transaction.group) no_rows) ≡ Ok done
      → Stands (AnswerItem (op_of (setting c h me) (now.node me).met) (Committed (record { 0 = n }) done.replies)) (drained c h cuts now me (Txn transaction) text most).tape
  -- a current read whose rows fit is answered
  pub reads : (me most : ℕ) (request : ReadRequest) (text : List ℕ) (rows : List (Option Shown))
      → is_current request.mode ≡ true → IsCalm c now request.group → Ends c h cuts now me (Read request) text most
      → rows_shown c.schema request (log_of now.tape request.group) request.rows ≡ Ok rows
      → (p : Position) × (shown : List (Option Shown))
      × Stands (AnswerItem (op_of (setting c h me) (now.node me).met) (ReadAnswer p shown)) (drained c h cuts now me (Read request) text most).tape
  -- a pump enters the message that it picks, where it is not entered yet
  pub enters : (me n most : ℕ) (text : List ℕ) (one : Posted)
      → next_to_enter (op_of (setting c h me) (now.node me).met) (applied_logs (first_now now me)) ≡ Some one → IsCalmAt c now one.to n
      → Ends c h cuts now me PumpEnter text most → is_named (one.message).name (names_entered (log_of now.tape one.to)) ≡ false
      → Stands (DecideItem (number me) one.to (record { 0 = n }) (enter_entry (op_of (setting c h me) (now.node me).met) one.message)) (drained c h cuts now me PumpEnter text most).tape
  -- a pump handles the oldest message of the group that it picks, where there is a handler
  pub handles : (me n most : ℕ) (text : List ℕ) (group : GroupId) (message : Enter)
      → next_to_handle (applied_logs (first_now now me)) ≡ Some group → IsCalmAt c now group n
      → Ends c h cuts now me PumpHandle text most → oldest_unhandled (log_of now.tape group) ≡ Some message → has h message.queue ≡ true
      → Stands (DecideItem (number me) group (record { 0 = n }) (handled_by c.schema h group (op_of (setting c h me) (now.node me).met) message (log_of now.tape group)))
      (drained c h cuts now me PumpHandle text most).tape
  -- no message waits then
  pub quiet : (me most : ℕ) (request : Request) (text : List ℕ) (group : GroupId) (k : ℕ) → IsCalm c now group
      → Ends c h cuts now me request text most → is_sent (drained c h cuts now me request text most).tape k ≡ true
      → (is_taken (drained c h cuts now me request text most).tape k || is_dropped (drained c h cuts now me request text most).tape k) ≡ true
