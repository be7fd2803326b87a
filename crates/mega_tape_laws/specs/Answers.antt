-- A tape of lawful writes on which each answer of an operation has its cause (CIDR 2011, transactions).
use Rattle.std.specs.Prelude.{◌≡◌, ◌≢◌, ◌⊎◌, suc, ◌&&◌, ◌||◌, Bool, true, false, List, [], ◌∷◌, length, Option, Some, Result, Ok, Err}
use Rattle.mega_base.specs.declared.names.GroupId.{GroupId}
use Rattle.mega_base.specs.declared.names.NodeId.{NodeId}
use Rattle.mega_base.specs.declared.names.OpId.{OpId}
use Rattle.mega_base.specs.declared.names.Position.{Position}
use Rattle.mega_ballot.specs.declared.ballot.Ballot.{Ballot}
use Rattle.mega_cluster.specs.declared.cluster.Cluster.{Cluster}
use Rattle.mega_schema.specs.declared.schema.Schema.{Schema}
use Rattle.mega_entry.specs.declared.content.Content.{Content}
use Rattle.mega_wire.specs.declared.message.Body.{Body}
use Rattle.mega_wire.specs.declared.message.Body.TheVariants.{Accept}
use Rattle.mega_index.specs.Rows.{after, no_rows}
use Rattle.mega_outcome.specs.declared.answer.Answer.{Answer}
use Rattle.mega_outcome.specs.declared.answer.Answer.TheVariants.{AllTurned, Batched, Committed, Conflict, Turned, Worn, Read as ReadAnswer}
use Rattle.mega_outcome.specs.declared.answer.Done.{Done}
use Rattle.mega_outcome.specs.declared.answer.Shown.{Shown}
use Rattle.mega_outcome.specs.declared.answer.Turn.{Turn}
use Rattle.mega_outcome.specs.declared.request.Request.{Request}
use Rattle.mega_outcome.specs.declared.request.Request.TheVariants.{Txn, Batch as BatchRequest, Read as ReadRequested}
use Rattle.mega_outcome.specs.declared.request.ReadRequest.{ReadRequest}
use Rattle.mega_outcome.specs.declared.transaction.Transaction.{Transaction}
use Rattle.mega_outcome.specs.Outcome.{batch_outcome, outcome}
use Rattle.mega_wal.specs.Same.{same_op}
use Rattle.mega_promises.specs.of_transcript.declared.item.Item.{Item}
use Rattle.mega_promises.specs.of_transcript.declared.item.Item.TheVariants.{Answer as AnswerItem, Decide, Sent}
use Rattle.mega_promises.specs.of_rules.Steps.{is_current}
use Rattle.mega_promises.specs.Promises.{Stands, asked_for, group_written, is_negative, is_write, rows_shown}
use Rattle.mega_tape_laws.specs.Places.{In, Place, Proposes, moves}
use Rattle.mega_tape_laws.specs.Writes.{IsNamed, Knows, LawfulWrites, Usage}

-- a place is lost to an operation: an entry without its id is decided there
pub record Lost (tape : List Item) (op : OpId) (p : Place) : Type 0 where
  pub node : NodeId
  pub entry : Content
  pub stands : Stands (Decide node p.group p.position entry) tape
  pub other : entry.id ≢ Some op

-- each place at which an operation proposed an entry with its id is lost to it
abbrev pub IsDoomed : List Item → OpId → Type 0
IsDoomed tape op = (p : Place) (b : Ballot) (e : Content) → In (Proposes b e) (moves tape op p) → e.id ≡ Some op → Lost tape op p

-- an operation was answered so that it is committed nowhere
abbrev pub has_failed : List Item → OpId → Bool
has_failed [] op = false
has_failed (AnswerItem answered answer ∷ before) op = (same_op answered op && is_negative answer) || has_failed before op
has_failed (_ ∷ before) op = has_failed before op

-- the operation's node decided the entries below a position
pub record KnowsBelow (tape : List Item) (op : OpId) (group : GroupId) (below : List Content) (n : Position) : Type 0 where
  pub known : Knows tape op.node.0 group below
  pub reaches : n.0 ≡ suc (length below)

-- committed shows the replies of the transaction's outcome over the entries below; a pump is no transaction
pub data Replied (schema : Schema) (usage : Usage) (tape : List Item) (op : OpId) (group : GroupId) (n : Position) (replies : List (Option Shown)) : Type 0 where
  of_transaction : (transaction : Transaction) (below : List Content) (done : Done) → asked_for usage.meaning tape op ≡ Some (Txn transaction)
      → KnowsBelow tape op group below n → outcome schema transaction (after below no_rows) ≡ Ok done → done.replies ≡ replies → Replied schema usage tape op group n replies
  of_pump : (request : Request) → asked_for usage.meaning tape op ≡ Some request → is_write request ≡ false → Replied schema usage tape op group n replies

pub record MayCommit (schema : Schema) (usage : Usage) (tape : List Item) (op : OpId) (n : Position) (replies : List (Option Shown)) : Type 0 where
  pub group : GroupId
  pub entry : Content
  pub stands : Stands (Decide op.node group n entry) tape
  pub is_own : entry.id ≡ Some op
  pub replied : Replied schema usage tape op group n replies

-- the results of a batch are those over the entries below
pub record MayCommitAll (schema : Schema) (usage : Usage) (tape : List Item) (op : OpId) (n : Position) (results : List (Result (List (Option Shown)) Turn)) : Type 0 where
  pub group : GroupId
  pub entry : Content
  pub stands : Stands (Decide op.node group n entry) tape
  pub is_own : entry.id ≡ Some op
  pub own : GroupId
  pub transactions : List Transaction
  pub asked : asked_for usage.meaning tape op ≡ Some (BatchRequest own transactions)
  pub below : List Content
  pub knows : KnowsBelow tape op group below n
  pub shows : (batch_outcome schema own transactions (after below no_rows)).results ≡ results

-- conflict names the id of the entry that is decided at the position, which is another's; of a transaction or a batch in its own group
pub record MayConflict (usage : Usage) (tape : List Item) (op : OpId) (n : Position) (other : Option OpId) : Type 0 where
  pub request : Request
  pub asked : asked_for usage.meaning tape op ≡ Some request
  pub group : GroupId
  pub home : is_write request ≡ true → group_written request ≡ Some group
  pub entry : Content
  pub stands : Stands (Decide op.node group n entry) tape
  pub names : entry.id ≡ other
  pub others : other ≢ Some op

-- a transaction is turned on the rows of the entries that its node decided; other requests may be turned too
pub data MayTurn (schema : Schema) (usage : Usage) (tape : List Item) (op : OpId) (turn : Turn) : Type 0 where
  of_write : (transaction : Transaction) (below : List Content) → asked_for usage.meaning tape op ≡ Some (Txn transaction)
      → Knows tape op.node.0 transaction.group below → outcome schema transaction (after below no_rows) ≡ Err turn → MayTurn schema usage tape op turn
  of_read : (request : Request) → asked_for usage.meaning tape op ≡ Some request → is_write request ≡ false → MayTurn schema usage tape op turn

-- a batch is turned as a whole on such rows
pub record MayTurnAll (schema : Schema) (usage : Usage) (tape : List Item) (op : OpId) (results : List (Result (List (Option Shown)) Turn)) : Type 0 where
  pub own : GroupId
  pub transactions : List Transaction
  pub asked : asked_for usage.meaning tape op ≡ Some (BatchRequest own transactions)
  pub below : List Content
  pub known : Knows tape op.node.0 own below
  pub turns : (batch_outcome schema own transactions (after below no_rows)).results ≡ results

-- a current read shows the rows of a log's first entries, through its position, which its node decided
pub record ShowsFront (schema : Schema) (tape : List Item) (op : OpId) (request : ReadRequest) (p : Position) (rows : List (Option Shown)) : Type 0 where
  pub below : List Content
  pub known : Knows tape op.node.0 request.group below
  pub reaches : p.0 ≡ length below
  pub shows : rows_shown schema request below request.rows ≡ Ok rows

pub record MayRead (schema : Schema) (usage : Usage) (tape : List Item) (op : OpId) (p : Position) (rows : List (Option Shown)) : Type 0 where
  pub request : ReadRequest
  pub asked : asked_for usage.meaning tape op ≡ Some (ReadRequested request)
  pub current : is_current request.mode ≡ true → ShowsFront schema tape op request p rows

abbrev pub HasCause : Schema → Usage → List Item → OpId → Answer → Type 0
HasCause schema usage tape op (Committed n replies) = MayCommit schema usage tape op n replies
HasCause schema usage tape op (Batched n results) = MayCommitAll schema usage tape op n results
HasCause schema usage tape op (Conflict n other) = MayConflict usage tape op n other
HasCause schema usage tape op (Turned turn) = MayTurn schema usage tape op turn
HasCause schema usage tape op (AllTurned results) = MayTurnAll schema usage tape op results
HasCause schema usage tape op (ReadAnswer p rows) = MayRead schema usage tape op p rows
HasCause schema usage tape op _ = Unit {0}

-- a negative answer is given only where each place of the operation is lost; from then on it proposes only where the place is lost
abbrev pub MaySpeak : List Item → Body → Type 0
MaySpeak tape (Accept op g n b e) = has_failed tape op ≡ true → e.id ≡ Some op → Lost tape op (record { group = g; position = n })
MaySpeak tape _ = Unit {0}

-- where an operation has no name of its own, its node's start is worn, and it is told so
abbrev pub IsAnswered : Schema → Usage → List Item → Item → Type 0
IsAnswered schema usage tape (AnswerItem op answer) = HasCause schema usage tape op answer × ((is_negative answer ≡ true → IsDoomed tape op) × ((answer ≡ Worn) ⊎ IsNamed op))
IsAnswered schema usage tape (Sent number m) = MaySpeak tape m.body
IsAnswered schema usage tape _ = Unit {0}

abbrev pub AreAnswered : Schema → Usage → List Item → Type 0
AreAnswered schema usage [] = Unit {0}
AreAnswered schema usage (item ∷ before) = IsAnswered schema usage before item × AreAnswered schema usage before

-- lawful writes whose answers have their causes
pub record LawfulAnswers (c : Cluster) (usage : Usage) (tape : List Item) : Type 0 where
  pub writes : LawfulWrites c usage tape
  pub answered : AreAnswered c.schema usage tape
