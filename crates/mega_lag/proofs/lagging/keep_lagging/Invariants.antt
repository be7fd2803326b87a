use Rattle.std.proofs.Common.{◌≡◌, ℕ, List, cond, drop}
use Rattle.mega_base.specs.declared.names.GroupId.{GroupId}
use Rattle.mega_rules.specs.Met.{Met}
use Rattle.mega_replica.specs.Following.{progress_at}
use Rattle.mega_step_parts.specs.Behind.{Keeps, is_behind}
use Rattle.mega_lag.specs.Lagging.{is_watched, lags}
use Rattle.mega_lag.proofs.lagging.keep_lagging.Given as goal

abbrev pub invariant-loop-one : goal.invariant-loop-one
invariant-loop-one g l = (met : List Met) (stored : GroupId → ℕ) → Keeps l.replica.voter.logs.kept (g.V.Versions.version l.replica.rows.rows) (progress_at l.replica.rows.progress) met stored
    → (group : GroupId) → cond (is_watched (drop l.one-index l.before) group) (is_behind met stored group) (lags l.lagging group)
    ≡ cond (is_watched l.before group) (is_behind met stored group) (lags l.initial.lagging group)
