use Rattle.std.proofs.Common.{◌≡◌, ◌++◌, drop}
use Rattle.std.specs.Prelude.{filter_map, map}
use Rattle.mega_replica.specs.Following.{Follows, progress_at}
use Rattle.mega_rules.specs.Acting.{applied_in, mark_of}
use Rattle.mega_rules.specs.Logs.{log_of}
use Rattle.mega_rules.specs.Operations.{Now}
use Rattle.mega_voter.specs.Telling.{Tells}
use Rattle.mega_pumps.proofs.marking.applied_marks.Given as goal

abbrev pub invariant-loop-group : goal.invariant-loop-group
invariant-loop-group g l =
    (now : Now) → Tells l.voter.logs.kept now.met → Follows (g.V.Versions.version l.rows.rows) (progress_at l.rows.progress) (log_of now.met) now.stored
    → l.marks ++ filter_map mark_of (map (applied_in now) (drop l.group-index l.groups)) ≡ filter_map mark_of (map (applied_in now) l.groups)
