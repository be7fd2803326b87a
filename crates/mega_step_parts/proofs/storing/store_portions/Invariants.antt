use Rattle.std.proofs.Common.{◌≡◌, ℕ, List, length, None}
use Rattle.std.specs.Vec.Iter.{into_iter_items, into_iter_len}
use Rattle.mega_base.specs.declared.names.GroupId.{GroupId}
use Rattle.mega_rules.specs.Met.{Met}
use Rattle.mega_rules.specs.Logs.{log_of}
use Rattle.mega_step_work.specs.of_voter.Telling.{Tells}
use Rattle.mega_replica.specs.Used.{StoreUsed}
use Rattle.mega_replica.specs.Following.{Follows, progress_at}
use Rattle.mega_step_parts.specs.Touching.{behind}
use Rattle.mega_step_parts.proofs.Portions.{StoredSo}
use Rattle.mega_step_parts.proofs.storing.store_portions.Given as goal

abbrev pub invariant-loop-group : goal.invariant-loop-group
invariant-loop-group g l = record {
  count : into_iter_len l.group-iterator ≡ length (into_iter_items l.group-iterator);
  all : (met : List Met) (stored : GroupId → ℕ) → l.fn.groups ≡ behind l.fn.keeps met stored → Tells l.voter.logs.kept met → Follows (g.V.Versions.version l.fn.rows.rows) (progress_at l.fn.rows.progress) (log_of met) stored
      → StoredSo (g.V.Versions.version l.rows.rows) (progress_at l.rows.progress) l.most met stored (into_iter_items l.group-iterator);
  used : StoreUsed g.V.Versions None l.fn.rows.rows l.rows.rows;
}
