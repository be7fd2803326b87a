use Rattle.std.proofs.Common.{◌≡◌, true}
use Rattle.std.specs.Vec.Iter.{into_iter_items}
use Rattle.mega_row_writes.specs.Rows.{list_written}
use Rattle.mega_index.specs.Marks.{held_rows, have_slots}
use Rattle.mega_index.proofs.held.set_slots.Given as goal

abbrev pub invariant-loop-write : goal.invariant-loop-write
invariant-loop-write l = record {
  held : list_written (into_iter_items l.write-iterator) (held_rows l.rows.entries) ≡ list_written (into_iter_items l.initial.write-iterator) (held_rows l.initial.rows.entries);
  there : have_slots l.rows.entries (into_iter_items l.write-iterator) ≡ true;
}
