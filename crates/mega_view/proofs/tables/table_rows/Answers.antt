use Rattle.std.proofs.Common.{◌≡◌, ◌∙◌, ℕ, ◌+◌, ◌<◌, ◌≤◌, List, Some, sym, ap, refl, arith, rules, take, length, slice_get, get_or}
use Rattle.std.proofs.lemmas.Option.{slice_get_read}
use Rattle.std.specs.BTreeMap.{get}
use Rattle.mega_schema.specs.declared.schema.Table.{Table}
use Rattle.mega_index.specs.Rows.{key_cmp}
use Rattle.mega_outcome.specs.Answers.{rows_at}
use Rattle.mega_view.specs.Scanning.{AreThrough}
use Rattle.mega_view.proofs.RowKeys.{numbered_there}
use Rattle.mega_view.proofs.Scanned.{all_found}
use Rattle.mega_view.proofs.tables.table_rows.Goals as goal

table_there : (tables shown : List Table) (i : ℕ) (t : Table) → shown ≡ take 64 tables → i < length shown → t ≡ get_or shown i t → slice_get (take 64 tables) i ≡ Some t
table_there tables shown i t is within at = ap (λ (all : List Table). slice_get all i) (sym is) ∙ slice_get_read shown (length shown) i t refl within at

pub add_table-requires-clause-there : goal.add_table-requires-clause-there
add_table-requires-clause-there g c =
    let s = c.args.schema.now in
    let counted : c.loop-table.number + 1 ≡ 1 + c.loop-table.table-index = omega arith in
    numbered_there s c.loop-table.table-index (c.loop-table.number + 1) c.table-item.result counted
    (table_there s.tables c.tables_of-table-items.result.now c.loop-table.table-index c.table-item.result c.tables_of-table-items.ensures.exact (omega arith) c.table-item.is)

pub loop-table-preserved : goal.loop-table-preserved
loop-table-preserved g c =
    let s = c.args.schema.now in
    let p = c.args.at.0 in
    let index = c.loop-table.table-index in
    let counted : c.loop-table.number + 1 ≡ 1 + index = omega arith in
    let looked : g.V.Versions.version c.loop-table.rows ≡ g.V.Versions.version c.args.rows.now = c.loop-table.invariant.looks.looked.versions in
    record {
      counted = omega arith;
      through = λ told.
          let before : AreThrough s c.key_of-group.result.now (rows_at (g.V.Versions.version c.loop-table.rows) p) index (get key_cmp c.loop-table.found) = coe 1 0 (i. AreThrough s (c.key_of-group.ensures i) (rows_at (looked i) p) (sym c.loop-table.invariant.counted i) (get key_cmp c.loop-table.found)) (c.loop-table.invariant.through told) in
          let after = c.in_ok-add_table.ensures.found told index counted (table_there s.tables c.tables_of-table-items.result.now index c.table-item.result c.tables_of-table-items.ensures.exact (omega arith) c.table-item.is) before in
          coe 0 1 (i. AreThrough s (c.key_of-group.ensures i) (rows_at (looked i) p) (sym counted i) (get key_cmp c.add_table.new.found)) after;
      looks = search rules;
    }

pub returns-clause-found : goal.returns-clause-found
returns-clause-found g c told =
    let s = c.args.schema.now in
    let all : length (take 64 s.tables) ≤ c.loop-table.number = omega (arith, ap length c.tables_of-table-items.ensures.exact) in
    all_found s c.args.group.now.key (rows_at (g.V.Versions.version c.args.rows.now) c.args.at.0) (get key_cmp c.loop-table.found) c.loop-table.number all (c.loop-table.invariant.through told)
