-- The run of one node by itself: from what its journal tells of earlier starts, over what it is given, to what it met.
use Rattle.std.specs.Prelude.{ℕ, ◌+◌, List, [], ◌∷◌, fold}
use Rattle.mega_base.specs.declared.names.GroupId.{GroupId}
use Rattle.mega_base.specs.declared.names.Position.{Position}
use Rattle.mega_ballot.specs.declared.ballot.Ballot.{Ballot}
use Rattle.mega_cluster.specs.declared.cluster.Cluster.{Cluster}
use Rattle.mega_entry.specs.declared.content.Content.{Content}
use Rattle.mega_handler.specs.Named.{Meanings}
use Rattle.mega_wire.specs.declared.message.Body.{Body}
use Rattle.mega_wire.specs.declared.message.Body.TheVariants.{Accepted, Promise}
use Rattle.mega_wal.specs.declared.item.JournalItem.{JournalItem}
use Rattle.mega_wal.specs.declared.item.JournalItem.TheVariants.{Start as Started, Promise as Promises, Accept as Accepts, Decide as Decided, Grant as Granted, Lapse as Lapsed, Starts as Starting}
use Rattle.mega_wal.specs.Acceptor.{best}
use Rattle.mega_wal.specs.History.{acts_of, starts_of}
use Rattle.mega_rules.specs.Met.{Met, Decides, Grants, Lapses, Starts, Unsends}
use Rattle.mega_rules.specs.Operations.{Node}
use Rattle.mega_rules.specs.Steps.{Event, start, step}
use Rattle.mega_promises.specs.Runs.{setting}

-- a vote or a promise that a journal tells was made; to whom it went is not told, and no rule asks
abbrev pub was_made : ℕ → Body → Met
was_made me body = Unsends (record { from = me; to = me; body = body })

-- what a node met in earlier starts, as its journal tells, the newest first
abbrev pub met_of : ℕ → List JournalItem → List Met
met_of me [] = []
met_of me (Started ∷ before) = Starts (starts_of before + 1) ∷ met_of me before
met_of me (Starting number ∷ before) = Starts (starts_of before + number) ∷ met_of me before
met_of me (Promises group n ballot ∷ before) = was_made me (Promise ballot.op group n ballot (best (acts_of before group n.0))) ∷ met_of me before
met_of me (Accepts group n ballot entry ∷ before) = was_made me (Accepted ballot.op group n ballot entry) ∷ met_of me before
met_of me (Decided group n entry ∷ before) = Decides group n.0 entry ∷ met_of me before
met_of me (Granted node epoch ∷ before) = Grants node.0 epoch ∷ met_of me before
met_of me (Lapsed node epoch ∷ before) = Lapses node.0 epoch ∷ met_of me before

-- what a node is given: an event, under the handlers that are there then
pub record Input : Type 0 where
  pub handlers : Meanings
  pub event : Event

-- the node after its next start and these inputs; what it noted and sent in them is what it met since
abbrev pub node_run : Cluster → ℕ → Meanings → List JournalItem → List Input → Node
node_run c me first before inputs =
    fold (λ node one. (step (setting c one.handlers me) node one.event).node) (start (setting c first me) (starts_of before + 1) [] (met_of me before)) inputs
