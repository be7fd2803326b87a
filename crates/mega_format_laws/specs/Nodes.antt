-- What the message format can hold, of a node and of what happens at it.
use Rattle.std.specs.Prelude.{Option, Some, None}
use Rattle.mega_base.specs.Names.{IsGroup}
use Rattle.mega_base.specs.declared.names.OpId.{OpId}
use Rattle.mega_entry.specs.declared.content.Enter.{Enter}
use Rattle.mega_wire.specs.Messages.{IsMessage}
use Rattle.mega_voter.specs.of_rules.Operations.{Node, Now, Operation, Phase, Proposes, Reads, Setting}
use Rattle.mega_voter.specs.of_rules.Queues.{enter_entry}
use Rattle.mega_voter.specs.of_rules.Steps.{Event, Begin, Step, Take, Tick}
use Rattle.mega_format_laws.specs.Rounds.{AreMessages, Each, IsMember, IsPlace, IsProposal, IsSender, IsShort}
use Rattle.mega_format_laws.specs.Reads.{IsReading}
use Rattle.mega_format_laws.specs.Histories.{IsClock, IsCluster, IsMet}
use Rattle.mega_format_laws.specs.Requests.{AreHandlers, IsRequest}

pub record IsSetting (s : Setting) : Type 0 where
  pub cluster : IsCluster s.cluster
  pub me : IsMember s.me
  pub handlers : AreHandlers s.handlers

abbrev pub IsPhase : Phase → Type 0
IsPhase (Reads group reading) = IsGroup group × IsReading reading
IsPhase (Proposes group position asked proposal promised) = IsGroup group × (IsPlace position × IsProposal proposal)

-- the message that a pump is to enter can stand in an entry
abbrev pub IsAwaited : OpId → Option Enter → Type 0
IsAwaited op None = Unit {0}
IsAwaited op (Some message) = IsShort (enter_entry op message)

pub record IsOperation (o : Operation) : Type 0 where
  pub id : IsSender o.id
  pub request : IsRequest o.request
  pub message : IsAwaited o.id o.message
  pub phase : IsPhase o.phase

pub record IsNode (node : Node) : Type 0 where
  pub met : IsMet node.met
  pub open_operations : Each IsOperation node.open_operations

-- a node within a step
pub record IsNow (now : Now) : Type 0 where
  pub met : IsMet now.met
  pub kept : Each IsOperation now.kept
  pub valid : IsMet now.valid
  pub answers : IsMet now.answers
  pub sends : AreMessages now.sends

abbrev pub IsEvent : Event → Type 0
IsEvent (Tick now) = IsClock now
IsEvent (Take message) = IsMessage message
IsEvent (Begin request text) = IsRequest request

-- what a step notes, sends and leaves is of the format: an entry that it notes as decided can stand in a message
pub record IsStep (step : Step) : Type 0 where
  pub notes : IsMet step.notes
  pub sends : AreMessages step.sends
  pub node : IsNode step.node
