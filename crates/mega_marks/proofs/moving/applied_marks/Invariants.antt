use Rattle.std.proofs.Common.{◌≡◌, ◌++◌, length}
use Rattle.std.specs.Vec.Iter.{into_iter_items, into_iter_len}
use Rattle.mega_replica.specs.Following.{Follows, progress_at}
use Rattle.mega_rules.specs.Logs.{groups_of, log_of}
use Rattle.mega_rules.specs.Operations.{Now}
use Rattle.mega_voter.specs.Telling.{Tells}
use Rattle.mega_marks.proofs.Applied.{marks_applied}
use Rattle.mega_marks.proofs.moving.applied_marks.Given as goal

abbrev pub invariant-loop-group : goal.invariant-loop-group
invariant-loop-group g l = record {
  count : into_iter_len l.group-iterator ≡ length (into_iter_items l.group-iterator);
  marked : (now : Now) → Tells l.voter.logs.kept now.met → Follows (g.V.Versions.version l.rows.rows) (progress_at l.rows.progress) (log_of now.met) now.stored
      → l.marks ++ marks_applied now (into_iter_items l.group-iterator) ≡ marks_applied now (groups_of now.met);
}
