-- On rows that fit, what a transaction does stays the same as the schema grows.
use Rattle.std.proofs.Common.{◌≡◌, ℕ, ◌+◌, true, ◌&&◌, List, [], ◌∷◌, nat_lt, is_some, refl, Option, Some, None, Ok}
use Rattle.std.specs.List.{list_all}
use Rattle.std.proofs.lemmas.Bool.{and_parts}
use Rattle.mega_base.specs.declared.values.Cell.{Cell}
use Rattle.mega_base.specs.declared.values.Row.{Row}
use Rattle.mega_base.specs.declared.values.Value.{Value}
use Rattle.mega_schema.specs.declared.schema.Property.{Property}
use Rattle.mega_schema.specs.declared.schema.Table.{Table}
use Rattle.mega_schema.specs.declared.schema.Schema.{Schema}
use Rattle.mega_index.specs.Rows.{Rows, written}
use Rattle.mega_index.specs.Cells.{key_values}
use Rattle.mega_index.specs.Fits.{numbered, cell_fits, cells_fit, has_required}
use Rattle.mega_outcome.specs.declared.answer.Done.{Done}
use Rattle.mega_outcome.specs.declared.transaction.Change.{Change}
use Rattle.mega_outcome.specs.declared.transaction.Change.TheVariants.{Put, Delete, Add}
use Rattle.mega_outcome.specs.declared.transaction.Transaction.{Transaction}
use Rattle.mega_outcome.specs.Places.{key_in}
use Rattle.mega_outcome.specs.Outcome.{first_change, outcome_in}
use Rattle.mega_outcome.specs.Steps.{changed_key, put_key}
use Rattle.mega_outcome.specs.Extends.{Extends, LookAtKnown, changed_table, is_known, is_known_row, known_in}
use Rattle.mega_outcome.proofs.GrownChanges.{outcome_same}
use Rattle.mega_tape_laws.specs.Indexed.{IsDeclared}
use Rattle.mega_tape_laws.specs.Growing.{RowsFit}
use Rattle.mega_tape_laws.proofs.RowKeys.{Standing, standing}
use Rattle.mega_tape_laws.proofs.IndexKeys.{fits_properties}
use Rattle.mega_tape_laws.proofs.Replacing.{key_in_at}
use Rattle.mega_tape_laws.proofs.Fitting.{change_fits}

-- a property whose values fit is one that the table has, and so are those of the cells of a row that fits
pub property_known : (o : Option Property) (values : List Value) → cell_fits o values ≡ true → is_some o ≡ true
property_known None values h = cc
property_known (Some p) values h = refl

cells_known : (ps : List Property) (low : ℕ) (cells : List Cell) → cells_fit ps low cells ≡ true → list_all (λ (c : Cell). is_known ps c.property) cells ≡ true
cells_known ps low [] h = refl
cells_known ps low (c ∷ cs) h =
    let above = and_parts (nat_lt low c.property) (cell_fits (numbered ps c.property) c.values && cells_fit ps c.property cs) h in
    let parts = and_parts (cell_fits (numbered ps c.property) c.values) (cells_fit ps c.property cs) above.1 in
    let first = property_known (numbered ps c.property) c.values parts.0 in
    let more = cells_known ps c.property cs parts.1 in
    (λ i. first i && more i)

row_known : (s : Schema) (n : ℕ) (t : Table) (key : List ℕ) (row : Row) → Standing s n t key row → is_known_row t row ≡ true
row_known s n t key row st = cells_known t.properties 0 row.cells (and_parts (cells_fit t.properties 0 row.cells) (has_required 1 t.properties row) (fits_properties s n t row st.fits)).0

module _ (s : Schema) (d : IsDeclared s) (group : List ℕ) where
  known_at : (rows : Rows) → RowsFit s rows → (i n : ℕ) (values : List Value) (key : List ℕ) → key_in s group i n values ≡ Ok key → known_in (numbered s.tables n) (rows key) ≡ true
  known_at rows fit i n values key named = by (numbered s.tables n) (rows key) refl refl
    where
      by : (o : Option Table) (r : Option Row) → numbered s.tables n ≡ o → rows key ≡ r → known_in o r ≡ true
      by None r at stands = refl
      by (Some t) None at stands = refl
      by (Some t) (Some row) at stands = row_known s n t key row (standing s n t key row (fit n t values key row at (key_in_at s group i n t values key at named).1 stands))

  known : (rows : Rows) → RowsFit s rows → (i : ℕ) (c : Change) (key : List ℕ) → changed_key s group i c ≡ Ok key → known_in (numbered s.tables (changed_table c)) (rows key) ≡ true
  known rows fit i (Put n row) key h = by (numbered s.tables n) h
    where
      by : (o : Option Table) → put_key s group i n o row ≡ Ok key → known_in (numbered s.tables n) (rows key) ≡ true
      by None g = absurd (cc)
      by (Some t) g = known_at rows fit i n (key_values t.primary row) key g
  known rows fit i (Delete row) key h = known_at rows fit i row.table row.key key h
  known rows fit i (Add row property sum) key h = known_at rows fit i row.table row.key key h

  pub look_at_known : (rows : Rows) → RowsFit s rows → (i : ℕ) (cs : List Change) → LookAtKnown s group rows i cs
  look_at_known rows fit i [] = tt
  look_at_known rows fit i (c ∷ cs) =
      (λ key named. known rows fit i c key named, λ writes comes. look_at_known (written writes rows) (change_fits s d group rows fit i c writes comes) (i + 1) cs)

pub outcome_stays : (old new : Schema) (group : List ℕ) (txn : Transaction) (rows : Rows) (done : Done) → Extends old new → IsDeclared old → RowsFit old rows → outcome_in old group txn rows ≡ Ok done → outcome_in new group txn rows ≡ Ok done
outcome_stays old new group txn rows done extends d fit h = outcome_same old new group txn rows done extends (look_at_known old d group rows fit (first_change txn) txn.writes) h
