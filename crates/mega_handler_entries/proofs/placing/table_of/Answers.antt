use Rattle.std.proofs.Common.{◌≡◌, ◌∙◌, ℕ, ◌+◌, ◌<◌, List, Some, sym, ap, refl, arith, take, length, slice_get, get_or}
use Rattle.std.proofs.lemmas.Option.{slice_get_read}
use Rattle.mega_schema.specs.declared.schema.Table.{Table}
use Rattle.mega_view.proofs.RowKeys.{numbered_there}
use Rattle.mega_handler_entries.proofs.placing.table_of.Goals as goal

table_there : (tables shown : List Table) (i : ℕ) (t : Table) → shown ≡ take 64 tables → i < length shown → t ≡ get_or shown i t → slice_get (take 64 tables) i ≡ Some t
table_there tables shown i t is within at = ap (λ (all : List Table). slice_get all i) (sym is) ∙ slice_get_read shown (length shown) i t refl within at

pub is_of_table-requires : goal.is_of_table-requires
is_of_table-requires c =
    let s = c.args.schema.now in
    let same = c.loop-table.invariant.counted in
    let counted : c.loop-table.number + 1 ≡ 1 + c.loop-table.table-index = omega (arith, same) in
    let within = c.loop-table-test.true in
    numbered_there s c.loop-table.table-index (c.loop-table.number + 1) c.table-item.result counted
    (table_there s.tables c.tables_of-tables.result.now c.loop-table.table-index c.table-item.result c.tables_of-tables.ensures.exact (omega (arith, within)) c.table-item.is)
