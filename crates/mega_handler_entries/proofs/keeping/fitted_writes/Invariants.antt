use Rattle.std.proofs.Common.{◌≡◌, ◌++◌}
use Rattle.std.specs.Vec.Iter.{into_iter_items}
use Rattle.mega_index.specs.Rows.{row_under, written}
use Rattle.mega_index.specs.Fitted.{fitted_writes}
use Rattle.mega_handler_entries.proofs.keeping.fitted_writes.Given as goal

abbrev pub invariant-loop-write : goal.invariant-loop-write
invariant-loop-write l =
    l.kept.items ++ fitted_writes l.schema l.group (written l.kept.items (row_under l.rows)) (into_iter_items l.write-iterator) ≡ fitted_writes l.schema l.group (row_under l.rows) (into_iter_items l.initial.write-iterator)
