-- A row that fits still fits, under its own key, once a number is added to one of its properties.
use Rattle.std.proofs.Common.{◌≡◌, ◌⊎◌, inl, inr, ℕ, suc, ◌+◌, cond, Bool, true, false, ◌&&◌, ◌==◌, if◌then◌else◌, ℤ, List, [], ◌∷◌, ◌++◌, length, map, fold, find, refl, sym, ap, ◌∙◌, subst, arith, length-append, eqb-true, nat_lt, Option, Some, None, option_map, is_none, is_ok}
use Rattle.std.specs.Option.{option_or, option_map_or}
use Rattle.std.proofs.lemmas.Bool.{or_parts, and_parts}
use Rattle.mega_base.specs.declared.values.Value.{Value}
use Rattle.mega_base.specs.declared.values.Value.TheVariants.{Int32, Int64}
use Rattle.mega_base.specs.declared.values.Kind.{Kind}
use Rattle.mega_base.specs.declared.values.Kind.TheVariants as kinds
use Rattle.mega_base.specs.declared.values.Cell.{Cell}
use Rattle.mega_base.specs.declared.values.Row.{Row}
use Rattle.mega_syntax.specs.declared.need.Need.{Need}
use Rattle.mega_syntax.specs.declared.need.Need.TheVariants.{Required, Optional, Repeated}
use Rattle.mega_schema.specs.declared.schema.Property.{Property}
use Rattle.mega_schema.specs.declared.schema.Table.{Table}
use Rattle.mega_schema.specs.declared.schema.Index.{Index}
use Rattle.mega_schema.specs.declared.schema.Schema.{Schema}
use Rattle.mega_keys.specs.Spelling.{spell, spell_all, index_bytes}
use Rattle.mega_keys.specs.Fit.{has_kind}
use Rattle.mega_index.specs.Cells.{values_of, key_values, leading, is_listed, cell_set, row_set}
use Rattle.mega_index.specs.Fits.{numbered, cell_fits, cells_fit, is_count, is_filled, has_required, properties_fit, group_of, key_of, has_place, row_fits, with_each, extended, choices, prefix_of, long_in, long_key, indexes_of, group_bytes_of}
use Rattle.mega_outcome.specs.Changes.{is_number, number_of, number_value}
use Rattle.mega_tape_laws.proofs.RowKeys.{Standing, of_ok}
use Rattle.mega_tape_laws.proofs.IndexKeys.{values_in}

-- ---- the number that is put in the place of another

pub number_facts : (kind : Kind) (values : List Value) (y z : ℤ) (v : Value) → number_of kind values ≡ Some y → number_value kind z ≡ Some v
    → (w : Value) × (values ≡ w ∷ []) × (has_kind kind v ≡ true) × (length (spell v) ≡ length (spell w))
number_facts kinds.Int32 (Int32 x ∷ []) y z v h g = by _ g
  where
    by : (b : Bool) → cond b (Some (Int32 z)) None ≡ Some v → (w : Value) × (Int32 x ∷ [] ≡ w ∷ []) × (has_kind kinds.Int32 v ≡ true) × (length (spell v) ≡ length (spell w))
    by true e = let same : Int32 z ≡ v = cc in (Int32 x, refl, ap (has_kind kinds.Int32) (sym same), ap (λ u. length (spell u)) (sym same))
    by false e = cc
number_facts kinds.Int64 (Int64 x ∷ []) y z v h g = by _ g
  where
    by : (b : Bool) → cond b (Some (Int64 z)) None ≡ Some v → (w : Value) × (Int64 x ∷ [] ≡ w ∷ []) × (has_kind kinds.Int64 v ≡ true) × (length (spell v) ≡ length (spell w))
    by true e = let same : Int64 z ≡ v = cc in (Int64 x, refl, ap (has_kind kinds.Int64) (sym same), ap (λ u. length (spell u)) (sym same))
    by false e = cc
number_facts _ _ y z v h g = cc

one_value : (kind : Kind) (need : Need) → is_number kind need ≡ true → is_count need 1 ≡ true
one_value kind Required h = refl
one_value kind Optional h = refl
one_value kinds.Int32 Repeated h = cc
one_value kinds.Int64 Repeated h = cc
one_value kinds.Bool Repeated h = cc
one_value kinds.Str Repeated h = cc
one_value kinds.Raw Repeated h = cc

-- ---- spellings of one length

abbrev Even : List Value → List Value → Type 0
Even [] [] = Unit {0}
Even [] (w ∷ ws) = ⊥
Even (v ∷ vs) [] = ⊥
Even (v ∷ vs) (w ∷ ws) = (length (spell v) ≡ length (spell w)) × Even vs ws

even_self : (vs : List Value) → Even vs vs
even_self [] = tt
even_self (v ∷ vs) = (refl, even_self vs)

abbrev EvenAll : List (List Value) → List (List Value) → Type 0
EvenAll [] [] = Unit {0}
EvenAll [] (d ∷ ds) = ⊥
EvenAll (c ∷ cs) [] = ⊥
EvenAll (c ∷ cs) (d ∷ ds) = (length (spell_all c) ≡ length (spell_all d)) × EvenAll cs ds

even_append : (cs ds es fs : List (List Value)) → EvenAll cs ds → EvenAll es fs → EvenAll (cs ++ es) (ds ++ fs)
even_append [] [] es fs h g = g
even_append [] (d ∷ ds) es fs h g = absurd h
even_append (c ∷ cs) [] es fs h g = absurd h
even_append (c ∷ cs) (d ∷ ds) es fs h g = (h.0, even_append cs ds es fs h.1 g)

size_end : (c : List Value) (v : Value) → length (spell_all (c ++ v ∷ [])) ≡ length (spell_all c) + length (spell v)
size_end [] v = length-append (spell v) [] ∙ (let e : length (spell v) + 0 ≡ 0 + length (spell v) = omega arith in e)
size_end (x ∷ c) v =
    let more = size_end c v in
    let first = length-append (spell x) (spell_all (c ++ v ∷ [])) in
    let second = length-append (spell x) (spell_all c) in
    omega (arith, more, first, second)

even_each : (c d : List Value) (vs ws : List Value) → length (spell_all c) ≡ length (spell_all d) → Even vs ws → EvenAll (with_each c vs) (with_each d ws)
even_each c d [] [] h g = tt
even_each c d [] (w ∷ ws) h g = absurd g
even_each c d (v ∷ vs) [] h g = absurd g
even_each c d (v ∷ vs) (w ∷ ws) h g = (size_end c v ∙ (λ i. h i + g.0 i) ∙ sym (size_end d w), even_each c d vs ws h g.1)

even_extended : (cs ds : List (List Value)) (vs ws : List Value) → EvenAll cs ds → Even vs ws → EvenAll (extended cs vs) (extended ds ws)
even_extended [] [] vs ws h g = tt
even_extended [] (d ∷ ds) vs ws h g = absurd h
even_extended (c ∷ cs) [] vs ws h g = absurd h
even_extended (c ∷ cs) (d ∷ ds) vs ws h g = even_append (with_each c vs) (with_each d ws) (extended cs vs) (extended ds ws) (even_each c d vs ws h.0 g) (even_extended cs ds vs ws h.1 g)

even_choices : (row other : Row) → ((m : ℕ) → Even (values_of row m) (values_of other m)) → (numbers : List ℕ) (cs ds : List (List Value)) → EvenAll cs ds
    → EvenAll (fold (λ chosen n. extended chosen (values_of row n)) cs numbers) (fold (λ chosen n. extended chosen (values_of other n)) ds numbers)
even_choices row other even [] cs ds h = h
even_choices row other even (n ∷ ns) cs ds h = even_choices row other even ns (extended cs (values_of row n)) (extended ds (values_of other n)) (even_extended cs ds (values_of row n) (values_of other n) h (even n))

key_size : (prefix : List ℕ) (byte : ℕ) (a b c : List ℕ) → length a ≡ length b → length (prefix ++ byte ∷ (a ++ c)) ≡ length (prefix ++ byte ∷ (b ++ c))
key_size prefix byte a b c h =
    length-append prefix (byte ∷ (a ++ c)) ∙ ap (λ n. length prefix + suc n) (length-append a c ∙ ap (λ n. n + length c) h ∙ sym (length-append b c)) ∙ sym (length-append prefix (byte ∷ (b ++ c)))

even_keys : (number : ℕ) (prefix : List ℕ) (values : List Value) (cs ds : List (List Value)) → EvenAll cs ds
    → map length (map (λ choice. index_bytes number prefix choice values) cs) ≡ map length (map (λ choice. index_bytes number prefix choice values) ds)
even_keys number prefix values [] [] h = refl
even_keys number prefix values [] (d ∷ ds) h = absurd h
even_keys number prefix values (c ∷ cs) [] h = absurd h
even_keys number prefix values (c ∷ cs) (d ∷ ds) h =
    let first = key_size prefix (127 + number) (spell_all c) (spell_all d) (spell_all values) h.0 in
    let more = even_keys number prefix values cs ds h.1 in
    (λ i. first i ∷ more i)

even_long : (row other : Row) → ((m : ℕ) → Even (values_of row m) (values_of other m)) → (number : ℕ) (xs : List Index) (n : ℕ) (group : List ℕ) (values : List Value)
    → long_in number xs n group values row ≡ long_in number xs n group values other
even_long row other even number [] n group values = refl
even_long row other even number (x ∷ xs) n group values =
    let lengths = even_keys number (prefix_of x group) values (choices row x.indexed) (choices other x.indexed) (even_choices row other even x.indexed ([] ∷ []) ([] ∷ []) (refl, tt)) in
    let more = even_long row other even (number + 1) xs n group values in
    (λ i. option_or (if x.table == n then find (λ m. nat_lt 1024 m) (lengths i) else None) (more i))

-- ---- the row with the number set

find_passes : {X : Type 0} (test : X → Bool) (xs : List X) (x : X) → find test xs ≡ Some x → test x ≡ true
find_passes test [] x h = cc
find_passes test (y ∷ xs) x h = by (test y) refl (find_passes test xs x) h
  where
    by : (b : Bool) → test y ≡ b → (find test xs ≡ Some x → test x ≡ true) → cond b (Some y) (find test xs) ≡ Some x → test x ≡ true
    by true is more g = let same : y ≡ x = cc in ap test (sym same) ∙ is
    by false is more g = more g

set_property : (q : ℕ) (v : Value) (c : Cell) → (cell_set q v c).property ≡ c.property
set_property q v c = by (c.property == q)
  where
    by : (b : Bool) → (if b then record { property = c.property; values = v ∷ [] } else c).property ≡ c.property
    by true = refl
    by false = refl

set_find : (q : ℕ) (v : Value) (m : ℕ) (cells : List Cell) → find (λ (c : Cell). c.property == m) (map (cell_set q v) cells) ≡ option_map (cell_set q v) (find (λ (c : Cell). c.property == m) cells)
set_find q v m [] = refl
set_find q v m (c ∷ cs) =
    (λ i. cond (set_property q v c i == m) (Some (cell_set q v c)) (set_find q v m cs i)) ∙ by (c.property == m)
  where
    by : (b : Bool) → cond b (Some (cell_set q v c)) (option_map (cell_set q v) (find (λ (c : Cell). c.property == m) cs)) ≡ option_map (cell_set q v) (cond b (Some c) (find (λ (c : Cell). c.property == m) cs))
    by true = refl
    by false = refl

-- another property keeps its values
set_other : (q : ℕ) (v : Value) (m : ℕ) (cells : List Cell) → (m == q) ≡ false → values_in (map (cell_set q v) cells) m ≡ values_in cells m
set_other q v m cells apart =
    ap (λ o. option_map_or (λ (c : Cell). c.values) o []) (set_find q v m cells) ∙ by (find (λ (c : Cell). c.property == m) cells) refl
  where
    by : (o : Option Cell) → find (λ (c : Cell). c.property == m) cells ≡ o → option_map_or (λ (c : Cell). c.values) (option_map (cell_set q v) o) [] ≡ option_map_or (λ (c : Cell). c.values) o []
    by None is = refl
    by (Some c) is =
        let number : c.property ≡ m = eqb-true c.property m (find_passes (λ (c : Cell). c.property == m) cells c is) in
        ap (λ b. (if b then record { property = c.property; values = v ∷ [] } else c).values) (ap (λ k. k == q) number ∙ apart)

-- the property has the value, where it had one
set_own : (q : ℕ) (v w : Value) (cells : List Cell) → values_in cells q ≡ w ∷ [] → values_in (map (cell_set q v) cells) q ≡ v ∷ []
set_own q v w cells h =
    ap (λ o. option_map_or (λ (c : Cell). c.values) o []) (set_find q v q cells) ∙ by (find (λ (c : Cell). c.property == q) cells) refl h
  where
    by : (o : Option Cell) → find (λ (c : Cell). c.property == q) cells ≡ o → option_map_or (λ (c : Cell). c.values) o [] ≡ w ∷ [] → option_map_or (λ (c : Cell). c.values) (option_map (cell_set q v) o) [] ≡ v ∷ []
    by None is g = cc
    by (Some c) is g = ap (λ b. (if b then record { property = c.property; values = v ∷ [] } else c).values) (find_passes (λ (c : Cell). c.property == q) cells c is)

module _ (row : Row) (q : ℕ) (v w : Value) (has : values_of row q ≡ w ∷ []) where
  -- the values of a property are those of before, or the one for the other
  set_cases : (m : ℕ) → (values_of (row_set row q v) m ≡ values_of row m) ⊎ ((values_of (row_set row q v) m ≡ v ∷ []) × (values_of row m ≡ w ∷ []))
  set_cases m = by (m == q) refl
    where
      by : (b : Bool) → (m == q) ≡ b → (values_of (row_set row q v) m ≡ values_of row m) ⊎ ((values_of (row_set row q v) m ≡ v ∷ []) × (values_of row m ≡ w ∷ []))
      by true is =
          let same : m ≡ q = eqb-true m q is in
          inr (ap (values_of (row_set row q v)) same ∙ set_own q v w row.cells has, ap (values_of row) same ∙ has)
      by false is = inl (set_other q v m row.cells is)

  set_even : length (spell v) ≡ length (spell w) → (m : ℕ) → Even (values_of (row_set row q v) m) (values_of row m)
  set_even long m = elim (set_cases m) [
    | inl same ↦ subst (λ vs. Even vs (values_of row m)) (sym same) (even_self (values_of row m))
    | inr and_parts ↦ coe 0 1 (i. Even (sym and_parts.0 i) (sym and_parts.1 i)) (long, tt)
  ]

  set_filled : (need : Need) (m : ℕ) → is_filled need (values_of (row_set row q v) m) ≡ is_filled need (values_of row m)
  set_filled need m = elim (set_cases m) [
    | inl same ↦ ap (is_filled need) same
    | inr and_parts ↦ ap (is_filled need) and_parts.0 ∙ one need ∙ sym (ap (is_filled need) and_parts.1)
  ]
    where
      one : (need : Need) → is_filled need (v ∷ []) ≡ is_filled need (w ∷ [])
      one Required = refl
      one Optional = refl
      one Repeated = refl

  set_required : (n : ℕ) (ps : List Property) → has_required n ps (row_set row q v) ≡ has_required n ps row
  set_required n [] = refl
  set_required n (p ∷ ps) = let first = set_filled p.need n in let more = set_required (n + 1) ps in (λ i. first i && more i)

  set_keys : (ns : List ℕ) → is_listed ns q ≡ false → key_values ns (row_set row q v) ≡ key_values ns row
  set_keys [] h = refl
  set_keys (n ∷ ns) h =
      let parts = or_parts (n == q) (is_listed ns q) h in
      let first = set_other q v n row.cells parts.0 in
      let more = set_keys ns parts.1 in
      (λ i. leading (first i) (more i))

set_cells_fit : (ps : List Property) (p : Property) (q : ℕ) (v : Value) → numbered ps q ≡ Some p → is_count p.need 1 ≡ true → has_kind p.kind v ≡ true
    → (low : ℕ) (cells : List Cell) → cells_fit ps low cells ≡ true → cells_fit ps low (map (cell_set q v) cells) ≡ true
set_cells_fit ps p q v at count kind low [] h = refl
set_cells_fit ps p q v at count kind low (c ∷ cs) h = by (c.property == q) refl (set_cells_fit ps p q v at count kind c.property cs)
  where
    above : nat_lt low c.property ≡ true
    above = (and_parts (nat_lt low c.property) (cell_fits (numbered ps c.property) c.values && cells_fit ps c.property cs) h).0

    parts : (cell_fits (numbered ps c.property) c.values ≡ true) × (cells_fit ps c.property cs ≡ true)
    parts = and_parts (cell_fits (numbered ps c.property) c.values) (cells_fit ps c.property cs) (and_parts (nat_lt low c.property) (cell_fits (numbered ps c.property) c.values && cells_fit ps c.property cs) h).1

    by : (b : Bool) → (c.property == q) ≡ b → (cells_fit ps c.property cs ≡ true → cells_fit ps c.property (map (cell_set q v) cs) ≡ true)
        → cells_fit ps low ((if b then record { property = c.property; values = v ∷ [] } else c) ∷ map (cell_set q v) cs) ≡ true
    by true is more =
        let number : c.property ≡ q = eqb-true c.property q is in
        let fits : cell_fits (numbered ps c.property) (v ∷ []) ≡ true =
        ap (λ n. cell_fits (numbered ps n) (v ∷ [])) number ∙ ap (λ o. cell_fits o (v ∷ [])) at ∙ (λ i. count i && (kind i && true)) in
        (λ i. above i && (fits i && more parts.1 i))
    by false is more = (λ i. above i && (parts.0 i && more parts.1 i))

-- the row stands under its key still
pub add_stands : (s : Schema) (n : ℕ) (t : Table) (key : List ℕ) (row : Row) (q : ℕ) (p : Property) (v w : Value) → Standing s n t key row → numbered t.properties q ≡ Some p → is_number p.kind p.need ≡ true
    → is_listed t.primary q ≡ false → values_of row q ≡ w ∷ [] → has_kind p.kind v ≡ true → length (spell v) ≡ length (spell w) → Standing s n t key (row_set row q v)
add_stands s n t key row q p v w st at number free has kind long = record {
  own = ap (key_of s n t) keys ∙ st.own;
  fits = (λ i. ((cells i && required i) && is_ok (key_of s n t (keys i))) && is_none (longest i)) ∙ fits;
}
  where
    keys : key_values t.primary (row_set row q v) ≡ key_values t.primary row
    keys = set_keys row q v w has t.primary free

    parts : (has_place s n t row ≡ true) × (is_none (long_key s n t row) ≡ true)
    parts = and_parts (has_place s n t row) (is_none (long_key s n t row)) st.fits

    properties : (cells_fit t.properties 0 row.cells ≡ true) × (has_required 1 t.properties row ≡ true)
    properties = and_parts (cells_fit t.properties 0 row.cells) (has_required 1 t.properties row) (and_parts (properties_fit t row) (is_ok (key_of s n t (key_values t.primary row))) parts.0).0

    cells : cells_fit t.properties 0 (map (cell_set q v) row.cells) ≡ cells_fit t.properties 0 row.cells
    cells = set_cells_fit t.properties p q v at (one_value p.kind p.need number) kind 0 row.cells properties.0 ∙ sym properties.0

    required : has_required 1 t.properties (row_set row q v) ≡ has_required 1 t.properties row
    required = set_required row q v w has 1 t.properties

    longest : long_key s n t (row_set row q v) ≡ long_key s n t row
    longest =
        even_long (row_set row q v) row (set_even row q v w has long) 1 (indexes_of s) n (group_bytes_of s n t (row_set row q v)) (key_values t.primary (row_set row q v))
        ∙ (λ i. long_in 1 (indexes_of s) n (of_ok (group_of s n t (keys i))) (keys i) row)

    fits : row_fits s n t row ≡ true
    fits = st.fits
