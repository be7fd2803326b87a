use Rattle.std.proofs.Common.{◌≡◌, ℕ}
use Rattle.std.specs.BTreeMap.{get}
use Rattle.std.specs.Vec.Iter.{into_iter_items}
use Rattle.mega_schema.specs.declared.schema.Schema.{Schema}
use Rattle.mega_schema.specs.declared.schema.Table.{Table}
use Rattle.mega_schema.specs.Shaping.{shape_of}
use Rattle.mega_index.specs.Rows.{key_cmp}
use Rattle.mega_view.specs.Scanning.{HaveByteKeys, with_rows}
use Rattle.mega_view.proofs.scanning.add_rows.Given as goal

abbrev pub invariant-loop-key : goal.invariant-loop-key
invariant-loop-key l = record {
  added : (s : Schema) (n : ℕ) (t : Table) → l.shape ≡ shape_of s n t
      → with_rows s n t l.group (get key_cmp l.found) (into_iter_items l.key-iterator) ≡ with_rows s n t l.group (get key_cmp l.initial.found) (into_iter_items l.initial.key-iterator);
  bytes : HaveByteKeys (into_iter_items l.key-iterator) → HaveByteKeys (into_iter_items l.initial.key-iterator);
}
