-- Whether the checks of a transaction hold of the rows.
use Rattle.std.specs.Prelude.{ℕ, ◌+◌, ◌&&◌, nat_le, if◌then◌else◌, Bool, true, false, List, [], ◌∷◌, length, is_some, is_none, Option, Some, None, Result, Ok, Err}
use Rattle.std.specs.List.{list_all}
use Rattle.mega_base.specs.declared.values.Value.{Value}
use Rattle.mega_base.specs.declared.values.Row.{Row}
use Rattle.mega_index.specs.of_syntax.declared.need.Need.{Need}
use Rattle.mega_index.specs.of_syntax.declared.need.Need.TheVariants.{Repeated}
use Rattle.mega_index.specs.of_schema.declared.schema.Property.{Property}
use Rattle.mega_index.specs.of_schema.declared.schema.Table.{Table}
use Rattle.mega_index.specs.of_schema.declared.schema.Schema.{Schema}
use Rattle.mega_index.specs.of_keys.Fit.{has_kind}
use Rattle.mega_index.specs.Rows.{Rows}
use Rattle.mega_index.specs.Cells.{values_of}
use Rattle.mega_index.specs.of_entry.Same.{same_values}
use Rattle.mega_index.specs.Fits.{numbered}
use Rattle.mega_outcome.specs.declared.answer.Turn.{Turn}
use Rattle.mega_outcome.specs.declared.answer.Turn.TheVariants.{BadRow, CheckFailed}
use Rattle.mega_outcome.specs.declared.transaction.Check.{Check}
use Rattle.mega_outcome.specs.declared.transaction.Check.TheVariants.{There, Gone, Is}
use Rattle.mega_outcome.specs.Places.{◌>>=◌, row_in}

-- item i, if this holds
abbrev pub holds : ℕ → Bool → Result (Unit {0}) Turn
holds i true = Ok tt
holds i false = Err (CheckFailed i)

-- so many values may be asked for: none or one, or any number of a repeated property
abbrev pub may_have : Need → ℕ → Bool
may_have Repeated n = true
may_have _ n = nat_le n 1

-- the property is known, and may have these values
abbrev pub may_be : Option Property → List Value → Bool
may_be None values = false
may_be (Some p) values = may_have p.need (length values) && list_all (has_kind p.kind) values

abbrev pub may_be_in : Option Table → ℕ → List Value → Bool
may_be_in None property values = false
may_be_in (Some t) property values = may_be (numbered t.properties property) values

-- the row is there and has exactly these values of the property
abbrev pub has_values : Option Row → ℕ → List Value → Bool
has_values None property values = false
has_values (Some row) property values = same_values (values_of row property) values

-- item i
abbrev pub check : Schema → List ℕ → Rows → ℕ → Check → Result (Unit {0}) Turn
check s group rows i (There row) = row_in s group rows i row.table row.key >>= λ there. holds i (is_some there)
check s group rows i (Gone row) = row_in s group rows i row.table row.key >>= λ there. holds i (is_none there)
check s group rows i (Is row property values) =
    row_in s group rows i row.table row.key >>= λ there.
    if may_be_in (numbered s.tables row.table) property values then holds i (has_values there property values) else Err (BadRow i)

-- items from i on
abbrev pub all_checks : Schema → List ℕ → Rows → ℕ → List Check → Result (Unit {0}) Turn
all_checks s group rows i [] = Ok tt
all_checks s group rows i (c ∷ cs) = check s group rows i c >>= λ _. all_checks s group rows (i + 1) cs
