-- The cells of a row that an object tells, by the numbers of their properties.
use Rattle.std.proofs.Common.{◌≡◌, ℕ, zero, suc, ◌+◌, ◌<◌, cond, Bool, true, false, List, [], ◌∷◌, ◌++◌, refl, ap, ◌∙◌, arith, Option, Some, None}
use Rattle.std.specs.Prelude.{◌==◌, find, slice_get, nat_lt, if◌then◌else◌}
use Rattle.std.specs.Option.{option_map_or}
use Rattle.std.proofs.lemmas.Bool.Decides.{nat_tests}
use Rattle.serde_json.specs.Data.{Data, null, boolean, number, string, array, object, Members, no_members, member}
use Rattle.serde_json.specs.Find.{get, as_array}
use Rattle.mega_base.specs.declared.values.Value.{Value}
use Rattle.mega_base.specs.declared.values.Cell.{Cell}
use Rattle.mega_base.specs.declared.values.Kind.{Kind}
use Rattle.mega_schema.specs.declared.schema.Property.{Property}
use Rattle.mega_index.specs.Cells.{values_of}
use Rattle.mega_schedule.specs.Values.{property_number, value_of}
use Rattle.mega_schedule.specs.Rows.{cell_if, cell_values, field_values, unknown_cell, unknown_cells, number_behind, known_cells, members_in, cells_in}

-- the values of the first cell with this number
abbrev pub values_at : ℕ → List Cell → List Value
values_at m cells = option_map_or (λ (c : Cell). c.values) (find (λ (c : Cell). c.property == m) cells) []

other_number : (a b : ℕ) → (a ≡ b → ⊥) → (a == b) ≡ false
other_number a b apart = grind (arith, nat_tests)

same_number : (a b : ℕ) → a ≡ b → (a == b) ≡ true
same_number a b same = grind (arith, nat_tests)

skips : (m n : ℕ) (values : List Value) (cells : List Cell) → (n ≡ m → ⊥) → values_at m (cell_if n values ++ cells) ≡ values_at m cells
skips m n [] cells apart = refl
skips m n (v ∷ vs) cells apart = by (n == m) (other_number n m apart)
  where
    c : Cell
    c = record { property = n; values = v ∷ vs }

    by : (b : Bool) → b ≡ false → option_map_or (λ (c : Cell). c.values) (cond b (Some c) (find (λ (c : Cell). c.property == m) cells)) [] ≡ values_at m cells
    by true e = absurd (cc)
    by false e = refl

stops : (m n : ℕ) (v : Value) (vs : List Value) (cells : List Cell) → n ≡ m → values_at m (cell_if n (v ∷ vs) ++ cells) ≡ v ∷ vs
stops m n v vs cells same = by (n == m) (same_number n m same)
  where
    c : Cell
    c = record { property = n; values = v ∷ vs }

    by : (b : Bool) → b ≡ true → option_map_or (λ (c : Cell). c.values) (cond b (Some c) (find (λ (c : Cell). c.property == m) cells)) [] ≡ v ∷ vs
    by true e = refl
    by false e = absurd (cc)

-- cells of unknown names have the number 0
one_unknown : (m : ℕ) (properties : List Property) (name : List ℕ) (d : Data) (cells : List Cell) → (0 ≡ m → ⊥) → values_at m (unknown_cell properties name d ++ cells) ≡ values_at m cells
one_unknown m properties name d cells apart = by (property_number properties name == 0)
  where
    by : (b : Bool) → values_at m ((if b then cell_if 0 (cell_values None d) else []) ++ cells) ≡ values_at m cells
    by true = skips m 0 (cell_values None d) cells apart
    by false = refl

regroup : (xs ys zs : List Cell) → (xs ++ ys) ++ zs ≡ xs ++ (ys ++ zs)
regroup [] ys zs = refl
regroup (x ∷ xs) ys zs = ap (λ rest. x ∷ rest) (regroup xs ys zs)

all_unknown : (m : ℕ) (properties : List Property) (ms : Members) (cells : List Cell) → (0 ≡ m → ⊥) → values_at m (unknown_cells properties ms ++ cells) ≡ values_at m cells
all_unknown m properties no_members cells apart = refl
all_unknown m properties (member name d ms) cells apart =
    ap (values_at m) (regroup (unknown_cell properties name d) (unknown_cells properties ms) cells)
    ∙ one_unknown m properties name d (unknown_cells properties ms ++ cells) apart
    ∙ all_unknown m properties ms cells apart

-- an object has one value under this name
pub record HasOne (d : Data) (name : List ℕ) (y : Data) : Type 0 where
  pub there : get name d ≡ Some y
  pub no_list : as_array y ≡ None

alone : (kind : Option Kind) (y : Data) → as_array y ≡ None → cell_values kind y ≡ value_of kind y ∷ []
alone kind null e = refl
alone kind (boolean b) e = refl
alone kind (number n) e = refl
alone kind (string s) e = refl
alone kind (array ds) e = absurd (cc)
alone kind (object ms) e = refl

one_value : (kind : Option Kind) (d : Data) (name : List ℕ) (y : Data) → HasOne d name y → field_values kind (get name d) ≡ value_of kind y ∷ []
one_value kind d name y h = ap (field_values kind) h.there ∙ alone kind y h.no_list

-- the values of the property with this number
known : (ps : List Property) (k i : ℕ) (d : Data) (p : Property) (y : Data) → slice_get ps i ≡ Some p → k + i < 255 → HasOne d p.name y
    → values_at (k + i + 1) (known_cells (k + 1) ps d) ≡ value_of (Some p.kind) y ∷ []
known [] k i d p y at few h = absurd (cc)
known (q ∷ ps) k zero d p y at few h =
    let same : q ≡ p = cc in
    ap (λ vs. values_at (k + 0 + 1) (cell_if (k + 1) vs ++ known_cells (number_behind (k + 1)) ps d)) (ap (λ (x : Property). field_values (Some x.kind) (get x.name d)) same ∙ one_value (Some p.kind) d p.name y h)
    ∙ stops (k + 0 + 1) (k + 1) (value_of (Some p.kind) y) [] (known_cells (number_behind (k + 1)) ps d) (omega arith)
known (q ∷ ps) k (suc i) d p y at few h =
    let below : nat_lt (k + 1) 255 ≡ true = grind (arith, nat_tests) in
    let next : k + suc i + 1 ≡ (k + 1) + i + 1 = omega arith in
    skips (k + suc i + 1) (k + 1) (field_values (Some q.kind) (get q.name d)) (known_cells (number_behind (k + 1)) ps d) (λ e. omega (arith, e))
    ∙ ap (λ b. values_at (k + suc i + 1) (known_cells (if b then k + 1 + 1 else 255) ps d)) below
    ∙ ap (λ m. values_at m (known_cells (k + 1 + 1) ps d)) next
    ∙ known ps (k + 1) i d p y at (omega (arith, few)) h

-- in the whole row
pub cell_is : (ps : List Property) (i : ℕ) (d : Data) (p : Property) (y : Data) → slice_get ps i ≡ Some p → i < 255 → HasOne d p.name y
    → values_of (record { cells = cells_in ps (Some d) }) (i + 1) ≡ value_of (Some p.kind) y ∷ []
cell_is ps i d p y at few h =
    all_unknown (i + 1) ps (members_in d) (known_cells 1 ps d) (λ e. omega (arith, e))
    ∙ (let shift : i + 1 ≡ 0 + i + 1 = omega arith in ap (λ m. values_at m (known_cells 1 ps d)) shift)
    ∙ known ps 0 i d p y at (omega (arith, few)) h
