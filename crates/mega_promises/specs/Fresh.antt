-- What is promised of the freshness of a run: what an operation reads through holds each position that was decided before it began, while
-- leases are safe (CIDR 2011, current reads).
use Rattle.std.specs.Prelude.{◌≡◌, ℕ, suc, ◌≤◌, ◌<◌, ◌==◌, Bool, true, false, List, [], take, length, Option, Some, None, Result, Ok, Err}
use Rattle.mega_base.specs.declared.names.GroupId.{GroupId}
use Rattle.mega_base.specs.declared.names.OpId.{OpId}
use Rattle.mega_base.specs.declared.names.NodeId.{NodeId}
use Rattle.mega_base.specs.declared.names.Position.{Position}
use Rattle.mega_ballot.specs.Order.{zero_ballot}
use Rattle.mega_cluster.specs.declared.cluster.Cluster.{Cluster}
use Rattle.mega_entry.specs.declared.content.Content.{Content}
use Rattle.mega_index.specs.Rows.{after, list_after, no_rows}
use Rattle.mega_wire.specs.declared.message.Body.TheVariants.{Accept, Where}
use Rattle.mega_outcome.specs.declared.answer.Answer.{Answer}
use Rattle.mega_outcome.specs.declared.answer.Answer.TheVariants.{AllTurned, Found as FoundAnswer, LogFull, Read as ReadAnswer, Turned}
use Rattle.mega_outcome.specs.declared.answer.Shown.{Shown}
use Rattle.mega_outcome.specs.declared.answer.Turn.{Turn}
use Rattle.mega_outcome.specs.declared.request.FindRequest.{FindRequest}
use Rattle.mega_outcome.specs.declared.request.ReadRequest.{ReadRequest}
use Rattle.mega_outcome.specs.declared.request.Request.{Request}
use Rattle.mega_outcome.specs.declared.request.Request.TheVariants.{Batch as BatchRequest, Find, Read as ReadRequested, Txn}
use Rattle.mega_outcome.specs.declared.transaction.Transaction.{Transaction}
use Rattle.mega_outcome.specs.Outcome.{batch_outcome, outcome}
use Rattle.mega_transcript.specs.declared.item.Item.{Item}
use Rattle.mega_transcript.specs.declared.item.Item.TheVariants.{Answer as AnswerItem, Begin, Decide, Sent, Unsafe}
use Rattle.mega_rules.specs.Acting.{rows_answer}
use Rattle.mega_rules.specs.Finding.{local_found}
use Rattle.mega_rules.specs.Steps.{is_current}
use Rattle.mega_promises.specs.Promises.{Stands, StoodBefore, asked_for, comes_to, group_written, is_write, log_of, rows_shown}

-- leases are safe up to the moment at which an item stands
abbrev pub IsSafeAt : Item → List Item → Type 0
IsSafeAt item tape = StoodBefore Unsafe item tape → ⊥

-- this position was decided before an operation began
abbrev pub WasDecided : List Item → GroupId → Position → OpId → Type 0
WasDecided tape group n op = (node : NodeId) × (entry : Content) × (text : List ℕ) × StoodBefore (Decide node group n entry) (Begin op text) tape

-- this operation proposes this entry, as its own, at ballot zero
abbrev pub proposes : ℕ → OpId → ℕ → GroupId → Position → Content → Item
proposes number op to group n own = Sent number (record { from = op.node.0; to = to; body = Accept op group n zero_ballot own })

-- this operation asks a voter where the log of a group ends
abbrev pub polls : ℕ → OpId → ℕ → GroupId → Item
polls number op voter group = Sent number (record { from = op.node.0; to = voter; body = Where op group })

-- an operation read through a position, all below which is decided: what was decided before it began is at or below it, if leases are safe up
-- to an item; and this holds of the log's entries through it
pub record ReadsThrough (tape : List Item) (op : OpId) (group : GroupId) (item : Item) (Shows : ℕ → List Content → Type 0) : Type 0 where
  pub p : ℕ
  pub within : p ≤ length (log_of tape group)
  pub covers : (n : Position) → WasDecided tape group n op → IsSafeAt item tape → n.0 ≤ p
  pub shows : Shows p (take p (log_of tape group))

-- what a read and a find over the entries of a group's log show
abbrev pub read_over : Cluster → ReadRequest → ℕ → List Content → Answer
read_over c request p log = rows_answer p (rows_shown c.schema request log request.rows)

abbrev pub find_over : Cluster → FindRequest → ℕ → List Content → Answer
find_over c request p log = local_found c.schema request p (list_after log [])

-- answers that show what stands at a position
abbrev pub is_shown : Answer → Bool
is_shown (ReadAnswer p rows) = true
is_shown (FoundAnswer marks found) = true
is_shown (Turned turn) = true
is_shown _ = false

-- every current read, also one inside a transaction, a batch or a pump, is fresh, and what it leads to is of the position that it read through
pub record IsFresh (c : Cluster) (meaning : List ℕ → Option Request) (tape : List Item) : Type 0 where
  -- current reads and finds, answered or turned
  pub reads : (op : OpId) (request : ReadRequest) (answer : Answer) → asked_for meaning tape op ≡ Some (ReadRequested request) → is_current request.mode ≡ true
      → Stands (AnswerItem op answer) tape → is_shown answer ≡ true
      → ReadsThrough tape op request.group (AnswerItem op answer) (λ p log. read_over c request p log ≡ answer)
  pub finds : (op : OpId) (request : FindRequest) (group : GroupId) (answer : Answer) → asked_for meaning tape op ≡ Some (Find request) → is_current request.mode ≡ true
      → request.group ≡ Some group → Stands (AnswerItem op answer) tape → is_shown answer ≡ true
      → ReadsThrough tape op group (AnswerItem op answer) (λ p log. find_over c request p log ≡ answer)
  -- transactions and batches that are turned, and those that find the log at its limit
  pub turned : (op : OpId) (transaction : Transaction) (turn : Turn) → asked_for meaning tape op ≡ Some (Txn transaction) → Stands (AnswerItem op (Turned turn)) tape
      → ReadsThrough tape op transaction.group (AnswerItem op (Turned turn)) (λ p log. outcome c.schema transaction (after log no_rows) ≡ Err turn)
  pub all_turned : (op : OpId) (group : GroupId) (transactions : List Transaction) (results : List (Result (List (Option Shown)) Turn)) → asked_for meaning tape op ≡ Some (BatchRequest group transactions)
      → Stands (AnswerItem op (AllTurned results)) tape
      → ReadsThrough tape op group (AnswerItem op (AllTurned results)) (λ p log. (batch_outcome c.schema group transactions (after log no_rows)).results ≡ results)
  pub full : (op : OpId) (request : Request) (n : Position) → asked_for meaning tape op ≡ Some request → Stands (AnswerItem op (LogFull n)) tape
      → (group : GroupId) × (is_write request ≡ true → group_written request ≡ Some group)
      × ReadsThrough tape op group (AnswerItem op (LogFull n)) (λ p log. (p ≡ n.0) × ((c.limit).0 ≤ p))
  -- what any operation proposes as its own stands right above the position that it read through; of a transaction and a batch it is the outcome there
  pub proposals : (op : OpId) (number to : ℕ) (group : GroupId) (m : Position) (own : Content) → own.id ≡ Some op → Stands (proposes number op to group m own) tape
      → ReadsThrough tape op group (proposes number op to group m own)
      (λ p log. (m.0 ≡ suc p) × ((request : Request) → asked_for meaning tape op ≡ Some request → is_write request ≡ true → comes_to c.schema op request log ≡ Some own))
  -- one that polled the group read through what was decided before it first asked, also a pump that picked the group after it began
  pub polled : (op : OpId) (number to asked voter : ℕ) (group : GroupId) (m n : Position) (own entry : Content) (node : NodeId) → own.id ≡ Some op → Stands (proposes number op to group m own) tape
      → ((other another : ℕ) → Stands (polls other op another group) tape → asked ≤ other)
      → StoodBefore (Decide node group n entry) (polls asked op voter group) tape → n.0 < m.0
