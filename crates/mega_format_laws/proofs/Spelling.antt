-- Rows that have a text if that is short enough, against those that have one.
use Rattle.std.proofs.Common.{◌≡◌, ℕ, ◌+◌, ◌==◌, ◌&&◌, ◌≤◌, true, List, [], ◌∷◌, length, length-append, flat_map, Option, Some, None, arith}
use Rattle.std.specs.Prelude.{nat_lt}
use Rattle.std.specs.List.{list_all}
use Rattle.std.proofs.lemmas.Bool.Decides.{nat_tests}
use Rattle.std.proofs.lemmas.Bool.{and_parts}
use Rattle.mega_base.specs.Codec.{IsOption, option_text}
use Rattle.mega_base.specs.Values.{Ascends, IsRow, IsValue, cell_text, row_text, value_text}
use Rattle.mega_base.specs.declared.values.Cell.{Cell}
use Rattle.mega_base.specs.declared.values.Row.{Row}
use Rattle.mega_base.specs.declared.values.Value.{Value}
use Rattle.mega_base.specs.declared.values.Value.TheVariants.{Int32, Int64, Bool as Truth, Str, Raw}
use Rattle.mega_syntax.specs.declared.need.Need.{Need}
use Rattle.mega_syntax.specs.declared.need.Need.TheVariants.{Required, Optional, Repeated}
use Rattle.mega_schema.specs.declared.schema.Property.{Property}
use Rattle.mega_schema.specs.declared.schema.Schema.{Schema}
use Rattle.mega_schema.specs.declared.schema.Table.{Table}
use Rattle.mega_keys.specs.Fit.{has_kind}
use Rattle.mega_index.specs.Fits.{cell_fits, cells_fit, fits, fits_in, has_place, has_required, is_count, numbered, properties_fit}
use Rattle.mega_format_laws.specs.Rounds.{Each}
use Rattle.mega_format_laws.specs.Requests.{IsGiven, IsSpelled, IsSpelledRow, Rises}
use Rattle.mega_format_laws.proofs.Each.{all_of_each, each_of_all, each_weaker}
use Rattle.mega_format_laws.proofs.Texts.{number_front}

-- ---- a row that has a text

value_spelled : (v : Value) → IsValue v → IsSpelled v
value_spelled (Int32 z) h = h
value_spelled (Int64 z) h = h
value_spelled (Truth b) h = tt
value_spelled (Str t) h = h.0
value_spelled (Raw b) h = tt

cells_spelled : (low : ℕ) (cells : List Cell) → Ascends low cells → Rises low cells
cells_spelled low [] h = tt
cells_spelled low (cell ∷ cells) h =
    (((h.0).0, (((h.0).1).least, each_weaker IsValue IsSpelled value_spelled cell.values (each_of_all IsValue cell.values ((h.0).1).each))), cells_spelled (cell.property + 1) cells h.1)

pub rowed_of : (row : Option Row) → IsOption IsRow row → IsOption IsSpelledRow row
rowed_of None h = tt
rowed_of (Some row) h = record { few = h.few; rising = cells_spelled 0 row.cells h.rising }

-- ---- a row whose text is short

bytes_length : (t : List ℕ) → length (value_text (Str t)) ≤ 65536 → length t ≤ 65536
bytes_length t le = let own = number_front 4 (length t) t in omega (arith, le, own)

raw_length : (t : List ℕ) → length (value_text (Raw t)) ≤ 65536 → length t ≤ 65536
raw_length t le = let own = number_front 4 (length t) t in omega (arith, le, own)

value_short : (v : Value) → IsSpelled v → length (value_text v) ≤ 65536 → IsValue v
value_short (Int32 z) h le = h
value_short (Int64 z) h le = h
value_short (Truth b) h le = tt
value_short (Str t) h le = (h, (omega arith, bytes_length t le))
value_short (Raw b) h le = (omega arith, raw_length b le)

some_bytes : (v : Value) → 1 ≤ length (value_text v)
some_bytes v = omega arith

values_short : (values : List Value) (n : ℕ) → Each IsSpelled values → length (flat_map value_text values) ≤ n → n ≤ 65536 → Each IsValue values × (length values ≤ n)
values_short [] n h le most = (tt, omega arith)
values_short (v ∷ values) n h le most =
    let front = length-append (value_text v) (flat_map value_text values) in
    let some = some_bytes v in
    let more = values_short values (length (flat_map value_text values)) h.1 (omega arith) (omega (arith, le, front, most)) in
    let count = more.1 in
    ((value_short v h.0 (omega (arith, le, front, most)), more.0), omega (arith, le, front, some, count))

cells_short : (low : ℕ) (cells : List Cell) → Rises low cells → length (flat_map cell_text cells) ≤ 65536 → Ascends low cells
cells_short low [] h le = tt
cells_short low (cell ∷ cells) h le =
    let front = length-append (cell_text cell) (flat_map cell_text cells) in
    let own = number_front 4 (length cell.values) (flat_map value_text cell.values) in
    let all = values_short cell.values 65536 ((h.0).1).1 (omega (arith, le, front, own)) (omega arith) in
    let count = all.1 in
    (((h.0).0, record { each = all_of_each IsValue cell.values all.0; least = ((h.0).1).0; most = omega (arith, count) }), cells_short (cell.property + 1) cells h.1 (omega (arith, le, front)))

pub row_short : (row : Option Row) → IsOption IsSpelledRow row → length (option_text row_text row) ≤ 65536 → IsOption IsRow row
row_short None h le = tt
row_short (Some row) h le = record { few = h.few; rising = cells_short 0 row.cells h.rising (omega (arith, le)) }

-- ---- a row that is put, and fits

at_least_one : (need : Need) (n : ℕ) → is_count need n ≡ true → 1 ≤ n
at_least_one Required n e = one n e
  where
    one : (n : ℕ) → (n == 1) ≡ true → 1 ≤ n
    one n e = grind (arith, nat_tests)
at_least_one Optional n e = one n e
  where
    one : (n : ℕ) → (n == 1) ≡ true → 1 ≤ n
    one n e = grind (arith, nat_tests)
at_least_one Repeated n e = some n e
  where
    some : (n : ℕ) → nat_lt 0 n ≡ true → 1 ≤ n
    some n e = grind (arith, nat_tests)

some_values : (p : Option Property) (values : List Value) → cell_fits p values ≡ true → 1 ≤ length values
some_values None values e = cc
some_values (Some p) values e = at_least_one p.need (length values) (and_parts (is_count p.need (length values)) (list_all (has_kind p.kind) values) e).0

rises_from : (ps : List Property) (low : ℕ) (cells : List Cell) → Each IsGiven cells → cells_fit ps low cells ≡ true → Rises (low + 1) cells
rises_from ps low [] h e = tt
rises_from ps low (c ∷ cs) h e =
    let outer = and_parts (nat_lt low c.property) (cell_fits (numbered ps c.property) c.values && cells_fit ps c.property cs) e in
    let inner = and_parts (cell_fits (numbered ps c.property) c.values) (cells_fit ps c.property cs) outer.1 in
    (((above low c.property outer.0, (h.0).0), (some_values (numbered ps c.property) c.values inner.0, (h.0).1)), rises_from ps c.property cs h.1 inner.1)
  where
    above : (a b : ℕ) → nat_lt a b ≡ true → a + 1 ≤ b
    above a b e = grind (arith, nat_tests)

rises_few : (low : ℕ) (cells : List Cell) → low ≤ 256 → Rises low cells → low + length cells ≤ 256
rises_few low [] le h = omega (arith, le)
rises_few low (c ∷ cs) le h =
    let above = ((h.0).0).0 in
    let below = ((h.0).0).1 in
    let more = rises_few (c.property + 1) cs (omega (arith, below)) h.1 in
    omega (arith, above, more)

rises_lower : (cells : List Cell) → Rises 1 cells → Rises 0 cells
rises_lower [] h = tt
rises_lower (c ∷ cs) h = (((omega arith, ((h.0).0).1), (h.0).1), h.1)

given_row : (ps : List Property) (row : Row) → Each IsGiven row.cells → cells_fit ps 0 row.cells ≡ true → IsSpelledRow row
given_row ps row h e =
    let rising : Rises 1 row.cells = rises_from ps 0 row.cells h e in
    let few = rises_few 1 row.cells (omega arith) rising in
    record { few = omega (arith, few); rising = rises_lower row.cells rising }

table_row : (s : Schema) (n : ℕ) (t : Option Table) (row : Row) → Each IsGiven row.cells → fits_in s n t row ≡ true → IsSpelledRow row
table_row s n None row h e = cc
table_row s n (Some t) row h e =
    given_row t.properties row h (and_parts (cells_fit t.properties 0 row.cells) (has_required 1 t.properties row) (and_parts (properties_fit t row) _ (and_parts (has_place s n t row) _ e).0).0).0

pub put_row : (s : Schema) (n : ℕ) (row : Row) → Each IsGiven row.cells → fits s n row ≡ true → IsSpelledRow row
put_row s n row h e = table_row s n (numbered s.tables n) row h e
