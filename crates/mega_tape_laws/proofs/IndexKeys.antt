-- The keys of index entries: each is that of one row and one index alone, and none is a row key of its group.
use Rattle.std.proofs.Common.{◌≡◌, ◌⊎◌, inl, inr, ℕ, ◌+◌, cond, Bool, true, false, ◌&&◌, ◌==◌, if◌then◌else◌, List, [], ◌∷◌, ◌++◌, length, map, filter, find, fold, refl, sym, ap, ◌∙◌, append-nil, eqb-true, Option, Some, None}
use Rattle.std.specs.List.{list_all}
use Rattle.std.specs.Option.{option_map_or}
use Rattle.std.proofs.lemmas.Bool.{and_parts}
use Rattle.mega_base.specs.declared.values.Value.{Value}
use Rattle.mega_base.specs.declared.values.Kind.{Kind}
use Rattle.mega_base.specs.declared.values.Cell.{Cell}
use Rattle.mega_base.specs.declared.values.Row.{Row}
use Rattle.mega_schema.specs.declared.schema.Property.{Property}
use Rattle.mega_schema.specs.declared.schema.Table.{Table}
use Rattle.mega_schema.specs.declared.schema.Index.{Index}
use Rattle.mega_schema.specs.declared.schema.Schema.{Schema}
use Rattle.mega_schema.specs.Shaping.{shape_of}
use Rattle.mega_keys.specs.Spelling.{spell_all, index_bytes}
use Rattle.mega_keys.specs.Fit.{has_kind}
use Rattle.mega_index.specs.Cells.{values_of, key_values}
use Rattle.mega_index.specs.Fits.{numbered, cell_fits, cells_fit, is_count, properties_fit, has_place, row_fits, with_each, extended, choices, prefix_of, index_keys, entry_keys}
use Rattle.mega_tape_laws.specs.Places.{In}
use Rattle.mega_tape_laws.proofs.Spelled.{SameKinds, same_kinds, fronts, values_split, alike_rows}
use Rattle.mega_tape_laws.proofs.RowKeys.{Standing, Behind, key_spelt}

-- ---- members of lists

in_append : {X : Type 0} (x : X) (xs ys : List X) → In x (xs ++ ys) → In x xs ⊎ In x ys
in_append x [] ys i = inr i
in_append x (z ∷ xs) ys (inl same) = inl (inl same)
in_append x (z ∷ xs) ys (inr i) = elim (in_append x xs ys i) [ inl j ↦ inl (inr j) | inr j ↦ inr j ]

in_map : {X Y : Type 0} (f : X → Y) (xs : List X) (y : Y) → In y (map f xs) → (x : X) × In x xs × (y ≡ f x)
in_map f [] y i = absurd i
in_map f (x ∷ xs) y (inl same) = (x, inl refl, sym same)
in_map f (x ∷ xs) y (inr i) = let r = in_map f xs y i in (r.0, inr r.1, r.2)

pub in_filter : {X : Type 0} (test : X → Bool) (xs : List X) (x : X) → In x (filter test xs) → In x xs × (test x ≡ true)
in_filter test [] x i = absurd i
in_filter {X} test (y ∷ xs) x i = by (test y) refl (in_filter test xs x) i
  where
    by : (b : Bool) → test y ≡ b → (In x (filter test xs) → In x xs × (test x ≡ true)) → In x (cond b (y ∷ filter test xs) (filter test xs)) → In x (y ∷ xs) × (test x ≡ true)
    by true is more (inl same) = (inl same, ap test (sym same) ∙ is)
    by true is more (inr j) = let r = more j in (inr r.0, r.1)
    by false is more j = let r = more j in (inr r.0, r.1)

-- ---- the values of a row that fits

-- a value of a property is of its kind
pub record OfKind (ps : List Property) (n : ℕ) (v : Value) : Type 0 where
  pub property : Property
  pub numbered_is : numbered ps n ≡ Some property
  pub kind_is : has_kind property.kind v ≡ true

all_of : {X : Type 0} (test : X → Bool) (xs : List X) (x : X) → list_all test xs ≡ true → In x xs → test x ≡ true
all_of test [] x h i = absurd i
all_of test (y ∷ xs) x h (inl same) = ap test (sym same) ∙ (and_parts (test y) (list_all test xs) h).0
all_of test (y ∷ xs) x h (inr i) = all_of test xs x (and_parts (test y) (list_all test xs) h).1 i

cell_kind : (ps : List Property) (n : ℕ) (values : List Value) (v : Value) → cell_fits (numbered ps n) values ≡ true → In v values → OfKind ps n v
cell_kind ps n values v h i = by (numbered ps n) refl h
  where
    by : (o : Option Property) → numbered ps n ≡ o → cell_fits o values ≡ true → OfKind ps n v
    by None is g = cc
    by (Some p) is g = record { property = p; numbered_is = is; kind_is = all_of (has_kind p.kind) values v (and_parts (is_count p.need (length values)) (list_all (has_kind p.kind) values) g).1 i }

abbrev pub values_in : List Cell → ℕ → List Value
values_in cells n = option_map_or (λ (c : Cell). c.values) (find (λ (c : Cell). c.property == n) cells) []

value_kind : (ps : List Property) (low : ℕ) (cells : List Cell) (n : ℕ) (v : Value) → cells_fit ps low cells ≡ true → In v (values_in cells n) → OfKind ps n v
value_kind ps low [] n v h i = absurd i
value_kind ps low (c ∷ cs) n v h i = by (c.property == n) refl (value_kind ps c.property cs n v) i
  where
    parts : (cell_fits (numbered ps c.property) c.values ≡ true) × (cells_fit ps c.property cs ≡ true)
    parts = and_parts (cell_fits (numbered ps c.property) c.values) (cells_fit ps c.property cs) (and_parts _ (cell_fits (numbered ps c.property) c.values && cells_fit ps c.property cs) h).1

    by : (b : Bool) → (c.property == n) ≡ b → (cells_fit ps c.property cs ≡ true → In v (values_in cs n) → OfKind ps n v) → In v (option_map_or (λ (c : Cell). c.values) (cond b (Some c) (find (λ (c : Cell). c.property == n) cs)) []) → OfKind ps n v
    by true is more j = cell_kind ps n c.values v (ap (λ m. cell_fits (numbered ps m) c.values) (sym (eqb-true c.property n is)) ∙ parts.0) j
    by false is more j = more parts.1 j

pub fits_properties : (s : Schema) (n : ℕ) (t : Table) (row : Row) → row_fits s n t row ≡ true → properties_fit t row ≡ true
fits_properties s n t row h = (and_parts (properties_fit t row) _ (and_parts (has_place s n t row) _ h).0).0

row_kind : (s : Schema) (n : ℕ) (t : Table) (row : Row) (m : ℕ) (v : Value) → row_fits s n t row ≡ true → In v (values_of row m) → OfKind t.properties m v
row_kind s n t row m v h i = value_kind t.properties 0 row.cells m v (and_parts (cells_fit t.properties 0 row.cells) _ (fits_properties s n t row h)).0 i

-- ---- choices of values

same_end : (vs ws : List Value) (v w : Value) (k : Kind) → SameKinds vs ws → has_kind k v ≡ true → has_kind k w ≡ true → SameKinds (vs ++ v ∷ []) (ws ++ w ∷ [])
same_end [] [] v w k h a b = ((k, a, b), tt)
same_end [] (y ∷ ws) v w k h a b = absurd h
same_end (x ∷ vs) [] v w k h a b = absurd h
same_end (x ∷ vs) (y ∷ ws) v w k h a b = (h.0, same_end vs ws v w k h.1 a b)

in_extended : (chosen : List (List Value)) (values : List Value) (c : List Value) → In c (extended chosen values)
    → (front : List Value) × (v : Value) × In front chosen × In v values × (c ≡ front ++ v ∷ [])
in_extended [] values c i = absurd i
in_extended (d ∷ chosen) values c i = elim (in_append c (with_each d values) (extended chosen values) i) [
  | inl j ↦ let r = in_map (λ v. d ++ v ∷ []) values c j in (d, r.0, inl refl, r.1, r.2)
  | inr j ↦ let r = in_extended chosen values c j in (r.0, r.1, inr r.2, r.3, r.4)
]

-- choices of one value each, of two rows of one table, are of the same kinds
choices_same : (ps : List Property) (row other : Row) → ((m : ℕ) (v : Value) → In v (values_of row m) → OfKind ps m v) → ((m : ℕ) (v : Value) → In v (values_of other m) → OfKind ps m v)
    → (numbers : List ℕ) (cs ds : List (List Value)) → ((c d : List Value) → In c cs → In d ds → SameKinds c d)
    → (c d : List Value) → In c (fold (λ chosen n. extended chosen (values_of row n)) cs numbers) → In d (fold (λ chosen n. extended chosen (values_of other n)) ds numbers) → SameKinds c d
choices_same ps row other f g [] cs ds same c d i j = same c d i j
choices_same ps row other f g (n ∷ ns) cs ds same c d i j =
    choices_same ps row other f g ns (extended cs (values_of row n)) (extended ds (values_of other n)) more c d i j
  where
    more : (c d : List Value) → In c (extended cs (values_of row n)) → In d (extended ds (values_of other n)) → SameKinds c d
    more c d i j =
        let x = in_extended cs (values_of row n) c i in
        let y = in_extended ds (values_of other n) d j in
        let a = f n x.1 x.3 in
        let b = g n y.1 y.3 in
        let property : a.property ≡ b.property = (let e : Some a.property ≡ Some b.property = sym a.numbered_is ∙ b.numbered_is in cc) in
        coe 0 1 (i. SameKinds (sym x.4 i) (sym y.4 i))
        (same_end x.0 y.0 x.1 y.1 (a.property).kind (same x.0 y.0 x.2 y.2) a.kind_is (ap (λ (p : Property). has_kind p.kind y.1) property ∙ b.kind_is))

-- ---- a row's entry in an index

-- the key is that of an entry of the row in the index, which is a local one of its table
pub record EntryKey (number : ℕ) (x : Index) (group : List ℕ) (values : List Value) (row : Row) (key : List ℕ) : Type 0 where
  pub choice : List Value
  pub chosen : In choice (choices row x.indexed)
  pub is : key ≡ group ++ (127 + number) ∷ (spell_all choice ++ spell_all values)

pub entry_key : (number : ℕ) (x : Index) (group : List ℕ) (values : List Value) (row : Row) (key : List ℕ) → x.global ≡ false → In key (entry_keys number x group values row) → EntryKey number x group values row key
entry_key number x group values row key local i =
    let r = in_map (λ choice. index_bytes number (prefix_of x group) choice values) (choices row x.indexed) key (in_filter _ (index_keys number x group values row) key i).0 in
    record { choice = r.0; chosen = r.1; is = r.2 ∙ ap (λ b. (if b then [] else group) ++ (127 + number) ∷ (spell_all r.0 ++ spell_all values)) local }

pub entry_behind : (number : ℕ) (x : Index) (group : List ℕ) (values : List Value) (row : Row) (key : List ℕ) → EntryKey number x group values row key → Behind group key (127 + number)
entry_behind number x group values row key e = record { front = group; rest = spell_all e.choice ++ spell_all values; is = e.is; length_is = refl }

-- two rows of one table with an entry under one key in one index are one
pub entries_one : (s : Schema) (n number : ℕ) (t : Table) (x : Index) (group first second key : List ℕ) (row other : Row)
    → Standing s n t first row → Standing s n t second other
    → EntryKey number x group (key_values t.primary row) row key → EntryKey number x group (key_values t.primary other) other key → first ≡ second
entries_one s n number t x group first second key row other a b d e =
    let shape = shape_of s n t in
    let vs = key_values t.primary row in
    let ws = key_values t.primary other in
    let p = key_spelt shape vs first a.own in
    let q = key_spelt shape ws second b.own in
    let behind = (fronts group group ((127 + number) ∷ (spell_all d.choice ++ spell_all vs)) ((127 + number) ∷ (spell_all e.choice ++ spell_all ws)) refl (sym d.is ∙ e.is)).1 in
    let after_number : spell_all d.choice ++ spell_all vs ≡ spell_all e.choice ++ spell_all ws = cc in
    let same = choices_same t.properties row other (λ m v. row_kind s n t row m v a.fits) (λ m v. row_kind s n t other m v b.fits) x.indexed ([] ∷ []) ([] ∷ []) start d.choice e.choice d.chosen e.chosen in
    let keys = (values_split d.choice e.choice (spell_all vs) (spell_all ws) same after_number).1 in
    let alike = (values_split vs ws [] [] (same_kinds _ vs ws p.kinds q.kinds) (append-nil (spell_all vs) ∙ keys ∙ sym (append-nil (spell_all ws)))).0 in
    p.is ∙ alike_rows shape vs ws alike ∙ sym q.is
  where
    start : (c d : List Value) → In c ([] ∷ []) → In d ([] ∷ []) → SameKinds c d
    start c d (inl i) (inl j) = coe 0 1 (k. SameKinds (i k) (j k)) tt
    start c d (inr i) j = absurd i
    start c d (inl i) (inr j) = absurd j
