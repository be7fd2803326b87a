use Rattle.std.proofs.Common.{◌≡◌, true, take}
use Rattle.mega_index.specs.Marks.{held_rows, have_slots}
use Rattle.mega_index.proofs.held.make_slots.Given as goal

abbrev pub invariant-loop-write : goal.invariant-loop-write
invariant-loop-write l = record {
  held : held_rows l.rows.entries ≡ held_rows l.initial.rows.entries;
  there : have_slots l.rows.entries (take l.write-index l.writes) ≡ true;
}
