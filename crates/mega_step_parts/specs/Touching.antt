-- The groups of which a step may apply more, each once and in order.
use Rattle.std.specs.Prelude.{ℕ, Bool, true, false, ◌&&◌, if◌then◌else◌, List, [], ◌∷◌, filter, fold, Option, Some, None, is_some}
use Rattle.std.specs.List.{list_any}
use Rattle.mega_base.specs.declared.names.GroupId.{GroupId}
use Rattle.mega_wire.specs.declared.message.Body.{Body}
use Rattle.mega_outcome.specs.declared.request.Request.{Request}
use Rattle.mega_outcome.specs.declared.request.Request.TheVariants.{Txn, Batch, Read, Find, PumpEnter, PumpHandle, Refresh}
use Rattle.mega_read.specs.Catching.{through_of}
use Rattle.mega_rules.specs.Logs.{groups_of, with_group}
use Rattle.mega_rules.specs.Met.{Met}
use Rattle.mega_rules.specs.Operations.{Operation, Phase, Proposes, Reads}
use Rattle.mega_rules.specs.Steps.{Decision, Heard, decision_note, first_settled, onto, told_decision}
use Rattle.mega_node_laws.specs.About.{group_in}
use Rattle.mega_node_laws.specs.Acted.{or_settled}
use Rattle.mega_step_choices.specs.Behind.{is_behind}
use Rattle.mega_step_work.specs.Servable.{is_pump}

-- only an operation that reads through a position that it knows may store what it needs
abbrev pub reaches_in : Phase → Bool
reaches_in (Reads group r) = is_some (through_of r)
reaches_in (Proposes group n asked p promised) = false

abbrev pub reaches : Operation → Bool
reaches o = reaches_in o.phase

-- where a message is taken, that of the decision that it brings, and those in which operations read through a position then
abbrev pub with_reach : List GroupId → Heard → List GroupId
with_reach groups t = if reaches t.operation then with_group (group_in t.operation.phase) groups else groups

-- and all groups where one of these is a pump, since that may read any
abbrev pub roams : Heard → Bool
roams t = reaches t.operation && is_pump t.operation.request

abbrev pub told_groups : Bool → List Met → Option Decision → List GroupId
told_groups true met d = groups_of (onto (decision_note d) met)
told_groups false met d = groups_of (decision_note d)

abbrev pub touched : List Met → Body → List Heard → List GroupId
touched met body ts = fold with_reach (told_groups (list_any roams ts) met (or_settled (told_decision body) (first_settled ts))) ts

-- at a tick, those of which not all is applied that is decided, at a node that keeps rows
abbrev pub behind : Bool → List Met → (GroupId → ℕ) → List GroupId
behind keeps met stored = if keeps then filter (is_behind met stored) (groups_of met) else []

-- where an operation begins, that of its request, if it has one
abbrev pub named : Option GroupId → List GroupId
named None = []
named (Some group) = group ∷ []

abbrev pub asked_groups : Request → List GroupId
asked_groups (Txn transaction) = transaction.group ∷ []
asked_groups (Batch group transactions) = group ∷ []
asked_groups (Read request) = request.group ∷ []
asked_groups (Find request) = named request.group
asked_groups PumpEnter = []
asked_groups PumpHandle = []
asked_groups Refresh = []

-- where a pump begins, all groups
abbrev pub begun_by : Bool → List Met → Request → List GroupId
begun_by true met request = groups_of met
begun_by false met request = asked_groups request

abbrev pub begun_groups : List Met → Request → List GroupId
begun_groups met request = begun_by (is_pump request) met request

-- a group that waits for its place before the rest
abbrev pub waits : Option GroupId → List GroupId → List GroupId
waits None rest = rest
waits (Some group) rest = with_group group rest
