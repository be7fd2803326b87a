-- What settles an entry, as a tape shows it (CIDR 2011, write algorithm): a majority accepted it at one ballot, and every full node accepted it at that
-- ballot, is invalidated, or held no lock at a majority of the cells, of which they were asked after the acceptances alone.
use Rattle.std.specs.Prelude.{◌≡◌, ℕ, ◌==◌, ◌&&◌, ◌||◌, ◌++◌, Bool, true, false, List, [], ◌∷◌, Option, Some, Result}
use Rattle.mega_base.specs.declared.names.GroupId.{GroupId}
use Rattle.mega_base.specs.declared.names.NodeId.{NodeId}
use Rattle.mega_base.specs.declared.names.OpId.{OpId}
use Rattle.mega_base.specs.declared.names.Position.{Position}
use Rattle.mega_ballot.specs.declared.ballot.Ballot.{Ballot}
use Rattle.mega_cluster.specs.declared.cluster.Cluster.{Cluster}
use Rattle.mega_entry.specs.declared.content.Content.{Content}
use Rattle.mega_wire.specs.declared.message.Body.{Body}
use Rattle.mega_wire.specs.declared.message.Body.TheVariants.{Accepted, Dead, Invalidated, Unheld}
use Rattle.mega_wal.specs.Same.{same_op}
use Rattle.mega_outcome.specs.declared.answer.Answer.TheVariants.{Batched, Committed}
use Rattle.mega_outcome.specs.declared.answer.Shown.{Shown}
use Rattle.mega_outcome.specs.declared.answer.Turn.{Turn}
use Rattle.mega_run_laws.specs.of_transcript.declared.item.Item.{Item}
use Rattle.mega_run_laws.specs.of_transcript.declared.item.Item.TheVariants.{Answer as AnswerItem, Decide, Sent}
use Rattle.mega_run_laws.specs.of_promises.Items.{number}
use Rattle.mega_run_laws.specs.of_promises.Moments.{StoodOn}
use Rattle.mega_run_laws.specs.of_promises.Promises.{Stands}
use Rattle.mega_run_laws.specs.of_rules.Members.{full_nodes}
use Rattle.mega_run_laws.specs.of_tape_laws.Lawful.{Heard}
use Rattle.mega_run_laws.specs.of_tape_laws.Places.{In, IsMajority, Place}
use Rattle.mega_run_laws.specs.of_tape_laws.Settled.{IsCellMajority}

-- an earlier moment of a tape, or this one
pub record Earlier (moment tape : List Item) : Type 0 where
  pub later : List Item
  pub is : tape ≡ later ++ moment

-- an operation asked a cell about a node
abbrev pub asks_about : OpId → ℕ → Body → Bool
asks_about op node (Dead asking cell about) = same_op asking op && about.0 == node
asks_about op node _ = false

abbrev pub has_asked_about : List Item → OpId → ℕ → Bool
has_asked_about [] op node = false
has_asked_about (Sent number m ∷ before) op node = asks_about op node m.body || has_asked_about before op node
has_asked_about (_ ∷ before) op node = has_asked_about before op node

-- a full node is covered: it accepted at this ballot; it is invalidated; or a majority of the cells held nothing for it, of whom the operation asked
-- none about it before a majority had accepted
pub data IsCoveredSince (c : Cluster) (moment tape : List Item) (op : OpId) (p : Place) (b : Ballot) (e : Content) (node : ℕ) : Type 0 where
  voted : Heard tape node op (Accepted op p.group p.position b e) → IsCoveredSince c moment tape op p b e node
  invalidated : Heard tape node op (Invalidated op p.group p.position) → IsCoveredSince c moment tape op p b e node
  free : (test : ℕ → Bool) → IsCellMajority c test → has_asked_about moment op node ≡ false
      → ((cell : ℕ) → test cell ≡ true → Heard tape cell op (Unheld op cell (number node))) → IsCoveredSince c moment tape op p b e node

-- an operation heard what settles an entry; `moment` is when a majority had accepted it
pub record HasSettled (c : Cluster) (tape : List Item) (op : OpId) (p : Place) (e : Content) : Type 0 where
  pub ballot : Ballot
  pub moment : List Item
  pub earlier : Earlier moment tape
  pub test : ℕ → Bool
  pub majority : IsMajority c test
  pub heard : (voter : ℕ) → test voter ≡ true → Heard moment voter op (Accepted op p.group p.position ballot e)
  pub covered : (node : ℕ) → In node (full_nodes c) → IsCoveredSince c moment tape op p ballot e node

-- some operation had, by then
pub record WasCovered (c : Cluster) (tape : List Item) (p : Place) (e : Content) : Type 0 where
  pub op : OpId
  pub moment : List Item
  pub earlier : Earlier moment tape
  pub settled : HasSettled c moment op p e

-- an operation's own entry is decided at its node, and was settled by then
pub record OwnSettled (c : Cluster) (tape : List Item) (op : OpId) (n : Position) : Type 0 where
  pub group : GroupId
  pub entry : Content
  pub own : entry.id ≡ Some op
  pub decided : Stands (Decide op.node group n entry) tape
  pub covered : WasCovered c tape (record { group = group; position = n }) entry

-- each decision, and each answer that an operation's own entry is in the log, stands behind what settled the entry
pub record AreSettled (c : Cluster) (tape : List Item) : Type 0 where
  pub decisions : (node : NodeId) (p : Place) (e : Content) (before : List Item) → StoodOn (Decide node p.group p.position e) before tape → WasCovered c before p e
  pub committed : (op : OpId) (n : Position) (replies : List (Option Shown)) (before : List Item) → StoodOn (AnswerItem op (Committed n replies)) before tape → OwnSettled c before op n
  pub batched : (op : OpId) (n : Position) (results : List (Result (List (Option Shown)) Turn)) (before : List Item) → StoodOn (AnswerItem op (Batched n results)) before tape → OwnSettled c before op n
