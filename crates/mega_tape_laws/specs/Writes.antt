-- A lawful tape on which each entry that is proposed is the own one of an operation, made over the entries that its node decided below, and
-- each operation that has a name of its own begins once (CIDR 2011, transactions and queues).
use Rattle.std.specs.Prelude.{◌≡◌, ℕ, suc, ◌≤◌, ◌<◌, Contains, ◌||◌, Bool, false, List, [], ◌∷◌, length, take, slice_get, Option, Some, None, Ok}
use Rattle.mega_base.specs.declared.names.GroupId.{GroupId}
use Rattle.mega_base.specs.declared.names.OpId.{OpId}
use Rattle.mega_ballot.specs.declared.ballot.Ballot.{Ballot}
use Rattle.mega_cluster.specs.declared.cluster.Cluster.{Cluster}
use Rattle.mega_schema.specs.declared.schema.Schema.{Schema}
use Rattle.mega_entry.specs.declared.content.Content.{Content}
use Rattle.mega_entry.specs.declared.content.Enter.{Enter}
use Rattle.mega_wire.specs.declared.message.Body.{Body}
use Rattle.mega_wire.specs.declared.message.Body.TheVariants.{Accept}
use Rattle.mega_index.specs.Rows.{after, no_rows}
use Rattle.mega_handler.specs.Named.{Meanings}
use Rattle.mega_outcome.specs.declared.answer.Done.{Done}
use Rattle.mega_outcome.specs.declared.request.Request.{Request}
use Rattle.mega_outcome.specs.declared.request.Request.TheVariants.{Txn, Batch as BatchRequest, PumpEnter, PumpHandle}
use Rattle.mega_outcome.specs.declared.transaction.Transaction.{Transaction}
use Rattle.mega_outcome.specs.Outcome.{batch_outcome, entry_of_batch, entry_of_done, outcome}
use Rattle.mega_wal.specs.Same.{same_op}
use Rattle.mega_promises.specs.of_transcript.declared.item.Item.{Item}
use Rattle.mega_promises.specs.of_transcript.declared.item.Item.TheVariants.{Begin, Decide, Sent}
use Rattle.mega_promises.specs.of_rules.Clock.{last_number}
use Rattle.mega_promises.specs.of_rules.Queues.{Posted, enter_entry, is_named, names_entered, oldest_unhandled, sent_in}
use Rattle.mega_promises.specs.Items.{number}
use Rattle.mega_promises.specs.Promises.{Stands, asked_for, handled_by}
use Rattle.mega_tape_laws.specs.Lawful.{Lawful}
use Rattle.mega_tape_laws.specs.Places.{In, Place, Proposes, moves}

-- what those who use a store bring: what the text of a request means, and the handlers that are there, at each moment of a tape
pub record Usage : Type 0 where
  pub meaning : List ℕ → Option Request
  pub handlers : List Item → Meanings

-- an operation began
abbrev pub has_begun : List Item → OpId → Bool
has_begun [] op = false
has_begun (Begin began text ∷ before) op = same_op began op || has_begun before op
has_begun (_ ∷ before) op = has_begun before op

-- the node decided these entries, of a group's positions 1, 2 and so on
abbrev pub Knows : List Item → ℕ → GroupId → List Content → Type 0
Knows tape node group below = (k : ℕ) (d : Content) → slice_get below k ≡ Some d → Stands (Decide (number node) group (record { 0 = suc k }) d) tape

-- a log begins with these entries
pub record IsFront (log below : List Content) : Type 0 where
  pub shorter : length below ≤ length log
  pub is : below ≡ take (length below) log

-- the entry that fills a position
abbrev pub no_op_by : OpId → Content
no_op_by op = record { id = None; leader = op.node; writes = []; sends = []; enters = []; handles = []; cuts = [] }

-- an entry that an operation makes of its own over the entries below: a no-op; what its transaction or its batch comes to; a message that it
-- enters, which stands in its sender's log and is not entered yet; or the handling of the group's oldest message by a handler that was there
pub data OwnEntry (schema : Schema) (usage : Usage) (tape : List Item) (op : OpId) (group : GroupId) (below : List Content) (e : Content) : Type 0 where
  fills : e ≡ no_op_by op → OwnEntry schema usage tape op group below e
  runs : (transaction : Transaction) (done : Done) → asked_for usage.meaning tape op ≡ Some (Txn transaction) → transaction.group ≡ group
      → outcome schema transaction (after below no_rows) ≡ Ok done → e ≡ entry_of_done op done → OwnEntry schema usage tape op group below e
  runs_all : (transactions : List Transaction) → asked_for usage.meaning tape op ≡ Some (BatchRequest group transactions)
      → e ≡ entry_of_batch op (batch_outcome schema group transactions (after below no_rows)) → OwnEntry schema usage tape op group below e
  enters : (message : Enter) (sent : List Content) (one : Posted) → asked_for usage.meaning tape op ≡ Some PumpEnter
      → Knows tape op.node.0 (message.name).group sent → Contains (sent_in (record { group = (message.name).group; entries = sent })) one → one.to ≡ group → one.message ≡ message
      → is_named message.name (names_entered below) ≡ false → e ≡ enter_entry op message → OwnEntry schema usage tape op group below e
  handles : (message : Enter) (moment : List Item) → asked_for usage.meaning tape op ≡ Some PumpHandle → oldest_unhandled below ≡ Some message
      → e ≡ handled_by schema ((usage.handlers) moment) group op message below → OwnEntry schema usage tape op group below e

-- an operation has a name of its own: the last number of a start stands still, and operations that get it do nothing
abbrev pub IsNamed : OpId → Type 0
IsNamed op = op.number < last_number

-- an operation's own entry at a place: its node decided all below, and it proposed an entry with its id nowhere else
pub record Own (schema : Schema) (usage : Usage) (tape : List Item) (node : ℕ) (op : OpId) (p : Place) (e : Content) : Type 0 where
  pub named : IsNamed op
  pub below : List Content
  pub reaches : p.position.0 ≡ suc (length below)
  pub known : Knows tape node p.group below
  pub entry : OwnEntry schema usage tape op p.group below e
  pub home : (q : Place) (b : Ballot) (other : Content) → In (Proposes b other) (moves tape op q) → other.id ≡ Some op → e.id ≡ Some op → q ≡ p

-- an entry is proposed that was proposed at the place before, or an operation's own
pub data MayWrite (schema : Schema) (usage : Usage) (tape : List Item) (node : ℕ) (op : OpId) (p : Place) (e : Content) : Type 0 where
  again : (other : OpId) (b : Ballot) → In (Proposes b e) (moves tape other p) → MayWrite schema usage tape node op p e
  own : Own schema usage tape node op p e → MayWrite schema usage tape node op p e

abbrev pub MaySay : Schema → Usage → List Item → ℕ → Body → Type 0
MaySay schema usage tape node (Accept op g n b e) = MayWrite schema usage tape node op (record { group = g; position = n }) e
MaySay schema usage tape node _ = Unit {0}

-- an operation with a name of its own begins once
abbrev pub IsWritten : Schema → Usage → List Item → Item → Type 0
IsWritten schema usage tape (Begin op text) = IsNamed op → has_begun tape op ≡ false
IsWritten schema usage tape (Sent number m) = MaySay schema usage tape m.from m.body
IsWritten schema usage tape _ = Unit {0}

abbrev pub AreWritten : Schema → Usage → List Item → Type 0
AreWritten schema usage [] = Unit {0}
AreWritten schema usage (item ∷ before) = IsWritten schema usage before item × AreWritten schema usage before

-- a lawful tape whose entries are so written
pub record LawfulWrites (c : Cluster) (usage : Usage) (tape : List Item) : Type 0 where
  pub lawful : Lawful c tape
  pub written : AreWritten c.schema usage tape
