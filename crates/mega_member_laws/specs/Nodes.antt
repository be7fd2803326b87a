-- A node that met, sent and decided only what stays within its cluster.
use Rattle.std.specs.Prelude.{List, Option}
use Rattle.mega_base.specs.Codec.{IsOption}
use Rattle.mega_cluster.specs.declared.cluster.Cluster.{Cluster}
use Rattle.mega_format_laws.specs.of_rules.Met.{Met, Starts, Crashes, Ticks, Begins, Takes, Sends, Unsends, Grants, Lapses, Counts, Forgets, Serves, Loses, Validates, Invalidates, Decides, Applies, Answers}
use Rattle.mega_format_laws.specs.of_rules.Operations.{Node, Now, Operation, Phase, Proposes, Reads}
use Rattle.mega_format_laws.specs.of_rules.Steps.{Begin, Decision, Event, Step, Take, Tick}
use Rattle.mega_format_laws.specs.Rounds.{Each}
use Rattle.mega_member_laws.specs.Messages.{AreWithin, IsHere, IsWithin, NamesHere}
use Rattle.mega_member_laws.specs.Rounds.{ProposalWithin}
use Rattle.mega_member_laws.specs.Reads.{ReadingWithin}

-- its messages are between nodes of the cluster, its entry names one, and what is granted is granted to one
abbrev pub ItemWithin : Cluster → Met → Type 0
ItemWithin c (Takes message) = IsWithin c message
ItemWithin c (Sends message) = IsWithin c message
ItemWithin c (Unsends message) = IsWithin c message
ItemWithin c (Grants node epoch) = IsHere c node
ItemWithin c (Decides group position entry) = NamesHere c entry
ItemWithin c (Starts start) = Unit {0}
ItemWithin c Crashes = Unit {0}
ItemWithin c (Ticks now) = Unit {0}
ItemWithin c (Begins op text) = Unit {0}
ItemWithin c (Lapses node epoch) = Unit {0}
ItemWithin c (Counts cell epoch) = Unit {0}
ItemWithin c (Forgets cell epoch) = Unit {0}
ItemWithin c (Serves epoch) = Unit {0}
ItemWithin c (Loses epoch) = Unit {0}
ItemWithin c (Validates group position) = Unit {0}
ItemWithin c (Invalidates group position) = Unit {0}
ItemWithin c (Applies group position) = Unit {0}
ItemWithin c (Answers op answer) = Unit {0}

abbrev pub MetWithin : Cluster → List Met → Type 0
MetWithin c met = Each (ItemWithin c) met

-- the entry that is decided, if one is, names a node of the cluster
abbrev pub DecidesHere : Cluster → Option Decision → Type 0
DecidesHere c found = IsOption (λ (d : Decision). NamesHere c d.entry) found

abbrev pub PhaseWithin : Cluster → Phase → Type 0
PhaseWithin c (Reads group reading) = ReadingWithin c reading
PhaseWithin c (Proposes group position asked proposal promised) = ProposalWithin c proposal

-- an open operation is of a node of the cluster
pub record OperationWithin (c : Cluster) (o : Operation) : Type 0 where
  pub id : IsHere c o.id.node.0
  pub phase : PhaseWithin c o.phase

pub record StaysWithin (c : Cluster) (node : Node) : Type 0 where
  pub met : MetWithin c node.met
  pub open_operations : Each (OperationWithin c) node.open_operations

-- a node within a step
pub record NowWithin (c : Cluster) (now : Now) : Type 0 where
  pub met : MetWithin c now.met
  pub kept : Each (OperationWithin c) now.kept
  pub valid : MetWithin c now.valid
  pub answers : MetWithin c now.answers
  pub sends : AreWithin c now.sends

-- a message that a node takes is between nodes of the cluster
abbrev pub EventWithin : Cluster → Event → Type 0
EventWithin c (Tick now) = Unit {0}
EventWithin c (Take message) = IsWithin c message
EventWithin c (Begin request text) = Unit {0}

-- what a step notes, sends and leaves stays within the cluster
pub record StepWithin (c : Cluster) (step : Step) : Type 0 where
  pub notes : MetWithin c step.notes
  pub sends : AreWithin c step.sends
  pub node : StaysWithin c step.node
