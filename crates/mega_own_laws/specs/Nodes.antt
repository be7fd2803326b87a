-- A node that keeps, decides and sends only entries which write rows of their own groups.
use Rattle.std.specs.Prelude.{List, [], ◌∷◌, Option}
use Rattle.mega_base.specs.Codec.{IsOption}
use Rattle.mega_schema.specs.declared.schema.Schema.{Schema}
use Rattle.mega_node_laws.specs.About.{IsAbout}
use Rattle.mega_node_laws.specs.Acted.{acted_on}
use Rattle.mega_node_laws.specs.Own.{HasOwnRows}
use Rattle.mega_run_laws.specs.of_rules.Met.{Met, Decides, Sends, Unsends}
use Rattle.mega_run_laws.specs.of_rules.Logs.{log_of}
use Rattle.mega_run_laws.specs.of_rules.Operations.{Node, Operation, Phase, Proposes, Reads, Setting}
use Rattle.mega_run_laws.specs.of_rules.Steps.{Decision, Event, Step, Take, step}
use Rattle.mega_run_laws.specs.Justified.{Each}
use Rattle.mega_own_laws.specs.Entries.{IsOwn}
use Rattle.mega_own_laws.specs.Messages.{AllTellOwn, TellsOwn}
use Rattle.mega_own_laws.specs.Rounds.{ProposalOwn, ReadingOwn}

-- what the rules look at again of what a node met: the messages that it made, and the entries that it decided
abbrev pub ItemOwn : Schema → Met → Type 0
ItemOwn schema (Sends message) = TellsOwn schema message
ItemOwn schema (Unsends message) = TellsOwn schema message
ItemOwn schema (Decides group position entry) = IsOwn schema group entry
ItemOwn schema _ = Unit {0}

abbrev pub MetOwn : Schema → List Met → Type 0
MetOwn schema met = Each (ItemOwn schema) met

abbrev pub DecisionOwn : Schema → Option Decision → Type 0
DecisionOwn schema found = IsOption (λ (d : Decision). IsOwn schema d.group d.entry) found

abbrev pub PhaseOwn : Schema → Phase → Type 0
PhaseOwn schema (Reads group reading) = ReadingOwn schema group reading
PhaseOwn schema (Proposes group position asked proposal promised) = ProposalOwn schema group proposal

-- an open operation is about the group of its request
pub record OperationOwn (schema : Schema) (o : Operation) : Type 0 where
  pub about : IsAbout o
  pub phase : PhaseOwn schema o.phase

pub record NodeOwn (schema : Schema) (node : Node) : Type 0 where
  pub met : MetOwn schema node.met
  pub open_operations : Each (OperationOwn schema) node.open_operations

-- a message that a node takes tells only of own entries; a tick and a request tell of none
abbrev pub EventOwn : Schema → Event → Type 0
EventOwn schema (Take message) = TellsOwn schema message
EventOwn schema _ = Unit {0}

-- what a step notes, sends and leaves
pub record StepOwn (schema : Schema) (made : Step) : Type 0 where
  pub notes : MetOwn schema made.notes
  pub sends : AllTellOwn schema made.sends
  pub node : NodeOwn schema made.node

-- the operations of each step, of one event after another, act on logs whose rows are each group's own
abbrev pub ActOnOwn : Setting → Node → List Event → Type 0
ActOnOwn s node [] = Unit {0}
ActOnOwn s node (event ∷ events) = HasOwnRows s.cluster.schema (log_of (acted_on s node event)) × ActOnOwn s (step s node event).node events
