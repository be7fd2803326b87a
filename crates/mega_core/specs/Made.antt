-- A step that is made: what is noted and sent, and what is kept then.
use Rattle.std.specs.Prelude.{◌≡◌, ℕ, List, map}
use Rattle.mega_base.specs.declared.names.GroupId.{GroupId}
use Rattle.mega_disk.specs.VersionMaps.{Versions}
use Rattle.mega_wal.specs.declared.kept.Kept.{Kept}
use Rattle.mega_rules.specs.Operations.{Operation, Setting}
use Rattle.mega_rules.specs.Steps.{Step as RuleStep}
use Rattle.mega_step_parts.specs.of_leases.declared.leases.Leases.{Leases}
use Rattle.mega_replica.specs.declared.progress.Progress.{Progress}
use Rattle.mega_actions.specs.of_marks.declared.indexed.Indexed.{Indexed}
use Rattle.mega_actions.specs.of_pumps.declared.digest.Digest.{Digest}
use Rattle.mega_step_parts.specs.declared.step.Step.{Step}
use Rattle.mega_step_parts.specs.Notes.{met_of}
use Rattle.mega_node_events.specs.Represents.{Represents}
use Rattle.mega_handler.specs.Named.{Meanings}
use Rattle.mega_replica.specs.Following.{progress_at}
use Rattle.mega_actions.specs.IsAt.{setting_of}
use Rattle.mega_core.specs.declared.node.Node.{Node}

-- it is the step of the rules, and what is kept represents the node then
pub record Made (s : Setting) (made : Step) (kept : Kept) (leases : Leases) (indexed : Indexed) (digest : Digest) (version : Versions) (progress : GroupId → Progress) (open_ones : List Operation) (begun : ℕ) (step : RuleStep) : Type 0 where
  pub notes : map met_of made.notes ≡ step.notes
  pub sends : made.sends ≡ step.sends
  pub state : Represents s kept leases indexed digest version progress open_ones begun step.node

-- a node as it is
abbrev pub MadeAt : {R V : Type 0} → (V → Versions) → Meanings → Node R V → Step → RuleStep → Type 0
MadeAt version h one made step =
    Made (setting_of one.replica h) made one.replica.voter.logs.kept one.replica.leases one.replica.indexed one.replica.digest (version one.replica.rows.rows) (progress_at one.replica.rows.progress) one.open one.begun step
