-- A settled entry (CIDR 2011, write algorithm): a majority accepted it at the operation's present ballot, and no full node may serve a
-- read that misses it.
use Rattle.std.specs.Prelude.{◌≡◌, ℕ, ◌*◌, ◌<◌, ◌++◌, Bool, true, List, Option, Some, Result}
use Rattle.mega_base.specs.declared.names.NodeId.{NodeId}
use Rattle.mega_base.specs.declared.names.GroupId.{GroupId}
use Rattle.mega_base.specs.declared.names.OpId.{OpId}
use Rattle.mega_base.specs.declared.names.Position.{Position}
use Rattle.mega_ballot.specs.declared.ballot.Ballot.{Ballot}
use Rattle.mega_cluster.specs.declared.cluster.Cluster.{Cluster}
use Rattle.mega_entry.specs.declared.content.Content.{Content}
use Rattle.mega_wire.specs.declared.message.Body.TheVariants.{Accepted, Invalidate, Invalidated, Unheld}
use Rattle.mega_promises.specs.of_transcript.declared.item.Item.{Item}
use Rattle.mega_outcome.specs.declared.answer.Answer.TheVariants.{Batched, Committed}
use Rattle.mega_outcome.specs.declared.answer.Shown.{Shown}
use Rattle.mega_outcome.specs.declared.answer.Turn.{Turn}
use Rattle.mega_promises.specs.of_transcript.declared.item.Item.TheVariants.{Answer as AnswerItem, Decide, Sent}
use Rattle.mega_promises.specs.Items.{number}
use Rattle.mega_promises.specs.Moments.{StoodOn}
use Rattle.mega_promises.specs.Promises.{Stands}
use Rattle.mega_promises.specs.of_rules.Members.{cells, full_nodes}
use Rattle.mega_tape_laws.specs.Lawful.{Heard, message}
use Rattle.mega_tape_laws.specs.Places.{In, IsMajority, Place, Proposes, count, moves, newest}

-- the operation told a node, while it covered a place, to count the group invalid
pub record SentInvalidate (tape : List Item) (op : OpId) (p : Place) (node : ℕ) : Type 0 where
  pub key : ℕ
  pub sent : Stands (Sent key (message op.node.0 node (Invalidate op p.group p.position))) tape

-- cells that pass are more than half of them
abbrev pub IsCellMajority : Cluster → (ℕ → Bool) → Type 0
IsCellMajority c test = c.cells < 2 * count test (cells c)

-- a full node is covered: it accepted at this ballot; or it is invalidated; or a majority of the cells holds nothing for it, of whom they were asked
-- while this place was covered, and while no other was: an answer to an earlier covering may come late
pub data IsCovered (c : Cluster) (tape : List Item) (op : OpId) (p : Place) (b : Ballot) (e : Content) (node : ℕ) : Type 0 where
  voted : Heard tape node op (Accepted op p.group p.position b e) → IsCovered c tape op p b e node
  invalidated : SentInvalidate tape op p node → Heard tape node op (Invalidated op p.group p.position) → IsCovered c tape op p b e node
  free : (test : ℕ → Bool) → IsCellMajority c test → SentInvalidate tape op p node → ((other : Place) → SentInvalidate tape op other node → other ≡ p)
      → ((cell : ℕ) → test cell ≡ true → Heard tape cell op (Unheld op cell (number node))) → IsCovered c tape op p b e node

pub record IsSettled (c : Cluster) (tape : List Item) (op : OpId) (p : Place) (e : Content) : Type 0 where
  pub ballot : Ballot
  pub present : newest (moves tape op p) ≡ Some (Proposes ballot e)
  pub test : ℕ → Bool
  pub majority : IsMajority c test
  pub heard : (voter : ℕ) → test voter ≡ true → Heard tape voter op (Accepted op p.group p.position ballot e)
  pub covered : (node : ℕ) → In node (full_nodes c) → IsCovered c tape op p ballot e node

-- at some moment by then some operation settled an entry at a place
pub record WasSettled (c : Cluster) (tape : List Item) (p : Place) (e : Content) : Type 0 where
  pub op : OpId
  pub moment : List Item
  pub later : List Item
  pub tape_is : tape ≡ later ++ moment
  pub settled : IsSettled c moment op p e

-- each decide, and each answer that an operation's entry is committed, stands behind what settled the entry, by this operation or by another one
-- that completed it
pub record IsBehindSettled (c : Cluster) (tape : List Item) : Type 0 where
  pub decides : (node : NodeId) (p : Place) (e : Content) (before : List Item) → StoodOn (Decide node p.group p.position e) before tape → WasSettled c before p e
  pub commits : (op : OpId) (n : Position) (replies : List (Option Shown)) (before : List Item) → StoodOn (AnswerItem op (Committed n replies)) before tape
      → (group : GroupId) × (e : Content) × (e.id ≡ Some op) × WasSettled c before (record { group = group; position = n }) e
  pub batches : (op : OpId) (n : Position) (results : List (Result (List (Option Shown)) Turn)) (before : List Item) → StoodOn (AnswerItem op (Batched n results)) before tape
      → (group : GroupId) × (e : Content) × (e.id ≡ Some op) × WasSettled c before (record { group = group; position = n }) e
