use Rattle.std.proofs.Common.{◌≡◌, ◌++◌, ℕ, List, map}
use Rattle.std.specs.Vec.Iter.{into_iter_items}
use Rattle.mega_base.specs.declared.names.GroupId.{GroupId}
use Rattle.mega_rules.specs.Met.{Met}
use Rattle.mega_replica.specs.Following.{progress_at}
use Rattle.mega_step_choices.specs.Behind.{Keeps}
use Rattle.mega_step_parts.specs.Positions.{before_at}
use Rattle.mega_step_parts.proofs.applying.positions.Given as goal

abbrev pub invariant-loop-group : goal.invariant-loop-group
invariant-loop-group g l = (met : List Met) (stored : GroupId → ℕ) → Keeps l.voter.logs.kept (g.V.Versions.version l.rows.rows) (progress_at l.rows.progress) met stored
    → l.before ++ map (before_at met stored) (into_iter_items l.group-iterator) ≡ map (before_at met stored) (into_iter_items l.initial.group-iterator)
