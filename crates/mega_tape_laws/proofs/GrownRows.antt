-- A schema that grew can be declared where the one before can, and rows that fit that one fit it.
use Rattle.std.proofs.Common.{◌≡◌, ℕ, suc, ◌+◌, ◌≤◌, true, ◌&&◌, List, [], ◌∷◌, ◌++◌, length, take, nat_lt, is_ok, is_none, refl, sym, ap, ◌∙◌, subst, Option, Some, None, Ok}
use Rattle.std.specs.List.{list_all}
use Rattle.std.proofs.lemmas.Bool.{and_parts}
use Rattle.mega_base.specs.declared.values.Cell.{Cell}
use Rattle.mega_base.specs.declared.values.Row.{Row}
use Rattle.mega_base.specs.declared.values.Value.{Value}
use Rattle.mega_base.specs.declared.values.Shape.{Shape}
use Rattle.mega_syntax.specs.declared.need.Need.{Need}
use Rattle.mega_syntax.specs.declared.need.Need.TheVariants.{Required, Optional, Repeated}
use Rattle.mega_schema.specs.declared.schema.Property.{Property}
use Rattle.mega_schema.specs.declared.schema.Table.{Table}
use Rattle.mega_schema.specs.declared.schema.Schema.{Schema}
use Rattle.mega_schema.specs.Lookup.{is_root_table}
use Rattle.mega_schema.specs.Shaping.{shape_of}
use Rattle.mega_keys.specs.Spelling.{root_part}
use Rattle.mega_keys.specs.Answers.{group_key_of, row_key_of}
use Rattle.mega_index.specs.Rows.{Rows}
use Rattle.mega_index.specs.Cells.{key_values, values_of}
use Rattle.mega_index.specs.Fits.{numbered, cell_fits, cells_fit, is_filled, has_required, properties_fit, has_place, key_of, group_bytes_of, long_in, long_key}
use Rattle.mega_outcome.specs.Extends.{Extends, ExtendTables, ExtendsTable, may_lack, may_lack_need}
use Rattle.mega_outcome.proofs.Grown.{ExtendsAt, is_grown, numbered_more, shape_same, table_extends}
use Rattle.mega_tape_laws.specs.Indexed.{IsDeclared}
use Rattle.mega_tape_laws.specs.Growing.{RowsFit}
use Rattle.mega_tape_laws.proofs.RowKeys.{Standing, standing, stands, of_ok}
use Rattle.mega_tape_laws.proofs.IndexKeys.{fits_properties}
use Rattle.mega_tape_laws.proofs.GrowingSchemas.{property_known}

-- ---- the tables of both

-- the table before, and the one after
record Was (old : Schema) (n : ℕ) (u : Table) : Type 0 where
  table : Table
  numbered_is : numbered old.tables n ≡ Some table
  grew : ExtendsTable table u

record Becomes (new : Schema) (n : ℕ) (t : Table) : Type 0 where
  table : Table
  numbered_is : numbered new.tables n ≡ Some table
  grew : ExtendsTable t table

was : (old new : Schema) → Extends old new → (n : ℕ) (u : Table) → numbered new.tables n ≡ Some u → Was old n u
was old new e n u at = by (numbered old.tables n) refl (subst (ExtendsAt (numbered old.tables n)) at (table_extends old new e n))
  where
    by : (o : Option Table) → numbered old.tables n ≡ o → ExtendsAt o (Some u) → Was old n u
    by None is h = absurd h
    by (Some t) is h = record { table = t; numbered_is = is; grew = h }

becomes : (old new : Schema) → Extends old new → (n : ℕ) (t : Table) → numbered old.tables n ≡ Some t → Becomes new n t
becomes old new e n t at = by (numbered new.tables n) refl (subst (λ o. ExtendsAt o (numbered new.tables n)) at (table_extends old new e n))
  where
    by : (o : Option Table) → numbered new.tables n ≡ o → ExtendsAt (Some t) o → Becomes new n t
    by None is h = absurd h
    by (Some u) is h = record { table = u; numbered_is = is; grew = h }

as_many : (ts us : List Table) → ExtendTables ts us → length ts ≡ length us
as_many [] [] e = refl
as_many [] (u ∷ us) e = absurd e
as_many (t ∷ ts) [] e = absurd e
as_many (t ∷ ts) (u ∷ us) e = ap suc (as_many ts us e.1)

root_stays : (t u : Table) → ExtendsTable t u → is_root_table u ≡ is_root_table t
root_stays t u x = ap is_root_table (is_grown t u x)

pub grown_declared : (old new : Schema) → Extends old new → IsDeclared old → IsDeclared new
grown_declared old new e d = record {
  most = subst (λ n. n ≤ 64) (as_many old.tables new.tables e.tables) d.most;
  roots = λ n u at root.
      let w = was old new e n u at in
      (w.grew).root ∙ d.roots n w.table w.numbered_is (sym (root_stays w.table u w.grew) ∙ root);
  others = λ n u at child.
      let w = was old new e n u at in
      let o = d.others n w.table w.numbered_is (sym (root_stays w.table u w.grew) ∙ child) in
      let b = becomes old new e (w.table).root o.0 o.1 in
      (b.table, ap (numbered new.tables) (w.grew).root ∙ b.numbered_is, root_stays o.0 b.table b.grew ∙ o.2, (w.grew).scatter ∙ o.3 ∙ sym (b.grew).scatter);
}

-- ---- the rows

more_cells : (ps more : List Property) (low : ℕ) (cells : List Cell) → cells_fit ps low cells ≡ true → cells_fit (ps ++ more) low cells ≡ true
more_cells ps more low [] h = refl
more_cells ps more low (c ∷ cs) h =
    let above = and_parts (nat_lt low c.property) (cell_fits (numbered ps c.property) c.values && cells_fit ps c.property cs) h in
    let parts = and_parts (cell_fits (numbered ps c.property) c.values) (cells_fit ps c.property cs) above.1 in
    let low_is = above.0 in
    let first = ap (λ o. cell_fits o c.values) (numbered_more ps more c.property (property_known (numbered ps c.property) c.values parts.0)) ∙ parts.0 in
    let others = more_cells ps more c.property cs parts.1 in
    (λ i. low_is i && (first i && others i))

lacks : (need : Need) (values : List Value) → may_lack_need need ≡ true → is_filled need values ≡ true
lacks Required values h = cc
lacks Optional values h = refl
lacks Repeated values h = refl

none_required : (n : ℕ) (more : List Property) (row : Row) → list_all may_lack more ≡ true → has_required n more row ≡ true
none_required n [] row h = refl
none_required n (p ∷ more) row h =
    let parts = and_parts (may_lack p) (list_all may_lack more) h in
    let first = lacks p.need (values_of row n) parts.0 in
    let others = none_required (n + 1) more row parts.1 in
    (λ i. first i && others i)

more_required : (n : ℕ) (ps more : List Property) (row : Row) → list_all may_lack more ≡ true → has_required n ps row ≡ true → has_required n (ps ++ more) row ≡ true
more_required n [] more row h g = none_required n more row h
more_required n (p ∷ ps) more row h g =
    let parts = and_parts (is_filled p.need (values_of row n)) (has_required (n + 1) ps row) g in
    let first = parts.0 in
    let others = more_required (n + 1) ps more row h parts.1 in
    (λ i. first i && others i)

still_stands : (old new : Schema) → Extends old new → (n : ℕ) (t u : Table) → ExtendsTable t u → (key : List ℕ) (row : Row) → Standing old n t key row → Standing new n u key row
still_stands old new e n t u x key row st = record { own = own; fits = (λ i. (properties i && place i) && short i) }
  where
    shape : shape_of new n u ≡ shape_of old n t
    shape = shape_same old new e n t u x

    own : key_of new n u (key_values u.primary row) ≡ Ok key
    own = (λ i. row_key_of (shape i) (key_values (x.primary i) row)) ∙ st.own

    old_properties : (cells_fit t.properties 0 row.cells ≡ true) × (has_required 1 t.properties row ≡ true)
    old_properties = and_parts (cells_fit t.properties 0 row.cells) (has_required 1 t.properties row) (fits_properties old n t row st.fits)

    cells : cells_fit (t.properties ++ x.added) 0 row.cells ≡ true
    cells = more_cells t.properties x.added 0 row.cells old_properties.0

    required : has_required 1 (t.properties ++ x.added) row ≡ true
    required = more_required 1 t.properties x.added row x.lacking old_properties.1

    properties : properties_fit u row ≡ true
    properties = ap (λ ps. cells_fit ps 0 row.cells && has_required 1 ps row) x.properties ∙ (λ i. cells i && required i)

    place : is_ok (key_of new n u (key_values u.primary row)) ≡ true
    place = ap is_ok own

    group : group_bytes_of new n u row ≡ group_bytes_of old n t row
    group = (λ i. of_ok (group_key_of (shape i) (root_part (shape i) (key_values (x.primary i) row))))

    longest : long_key new n u row ≡ long_key old n t row
    longest = (λ i. long_in 1 (take 64 (e.indexes i)) n (group i) (key_values (x.primary i) row) row)

    short : is_none (long_key new n u row) ≡ true
    short = ap is_none longest ∙ (and_parts (has_place old n t row) (is_none (long_key old n t row)) st.fits).1

pub grown_fit : (old new : Schema) (rows : Rows) → Extends old new → RowsFit old rows → RowsFit new rows
grown_fit old new rows e fit n u values key row at own there =
    let w = was old new e n u at in
    let same : key_of old n w.table values ≡ key_of new n u values = ap (λ (shape : Shape). row_key_of shape values) (sym (shape_same old new e n w.table u w.grew)) in
    stands new n u key row
    (still_stands old new e n w.table u w.grew key row (standing old n w.table key row (fit n w.table values key row w.numbered_is (same ∙ own) there)))
