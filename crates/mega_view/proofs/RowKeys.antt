-- Row keys of bytes: each is of the one table whose number stands behind as many bytes as its group has.
use Rattle.std.proofs.Common.{◌≡◌, ℕ, zero, suc, ◌+◌, ◌-◌, ◌≤◌, cond, eqb, ltb, Bool, true, false, List, [], ◌∷◌, ◌++◌, length, take, get_or, refl, sym, ap, ◌∙◌, subst, arith, Option, Some, None, Result, Ok, Err}
use Rattle.std.specs.Prelude.{slice_get}
use Rattle.std.proofs.lemmas.Bool.{le-ltb}
use Rattle.std.proofs.lemmas.Bool.Decides.{nat_tests}
use Rattle.mega_base.specs.declared.values.Value.{Value}
use Rattle.mega_base.specs.declared.values.Kind.{Kind}
use Rattle.mega_base.specs.declared.values.Shape.{Shape}
use Rattle.mega_schema.specs.declared.schema.Table.{Table}
use Rattle.mega_schema.specs.declared.schema.Schema.{Schema}
use Rattle.mega_schema.specs.Shaping.{shape_of, space_of}
use Rattle.mega_keys.specs.declared.fault.KeyFault.{KeyFault}
use Rattle.mega_keys.specs.declared.fault.KeyFault.TheVariants.{Missing, TooLong}
use Rattle.mega_keys.specs.Spelling.{spell_all, scatter_of, root_part, rest_part, row_bytes, group_bytes}
use Rattle.mega_keys.specs.Fit.{misplaced, key_kinds, StandIn, IsKey}
use Rattle.mega_keys.specs.Answers.{limited, fault_or_missing, fault_of, unless_fault, row_key_of, group_key_of}
use Rattle.mega_keys.specs.Reading.{read_key_of}
use Rattle.mega_keys.proofs.Keys.{read_found, stand_length}
use Rattle.mega_index.specs.Rows.{same_key}
use Rattle.mega_index.specs.Fits.{numbered, group_of, key_of}
use Rattle.mega_index.specs.Fitted.{is_key_of, table_in, table_of}
use Rattle.mega_outcome.specs.declared.answer.Turn.TheVariants.{OtherGroup}
use Rattle.mega_outcome.specs.Places.{key_in, key_in_table, placed, spelled}
use Rattle.mega_index.proofs.KeyLists.{key_is, same_self}
use Rattle.mega_view.specs.Keys.{AreBytes, IsNamed}

-- ---- values that stand in their places

stand_placed : (ks : List Kind) (vs : List Value) (i : ℕ) → StandIn ks vs → misplaced ks vs i ≡ None
stand_placed [] [] i h = refl
stand_placed [] (v ∷ vs) i h = absurd h
stand_placed (k ∷ ks) [] i h = absurd h
stand_placed (k ∷ ks) (v ∷ vs) i h = ap (λ (b : Bool). cond b (misplaced ks vs (i + 1)) (Some i)) h.0 ∙ stand_placed ks vs (i + 1) h.2

-- spell their key
spells : (shape : Shape) (key : List ℕ) (vs : List Value) → IsKey shape key vs → row_key_of shape vs ≡ Ok key
spells shape key vs is =
    let bytes = row_bytes shape vs in
    let many : length vs ≡ length (key_kinds shape) = stand_length (key_kinds shape) vs is.stand in
    let long : length bytes ≤ 1024 = subst (λ (b : List ℕ). length b ≤ 1024) is.spelled is.short in
    ap (λ (m : Option ℕ). unless_fault (fault_or_missing m (length vs) (length (key_kinds shape))) bytes) (stand_placed (key_kinds shape) vs 0 is.stand)
    ∙ ap (λ (b : Bool). unless_fault (cond b (Err (Missing (length vs))) (Ok tt)) bytes) (le-ltb (length vs) (length (key_kinds shape)) (omega (arith, many)))
    ∙ ap (λ (b : Bool). cond {A = Result (List ℕ) KeyFault} b (Err (TooLong (length bytes))) (Ok bytes)) (le-ltb 1024 (length bytes) long)
    ∙ ap Ok (sym is.spelled)

limit : (bytes key : List ℕ) → limited bytes ≡ Ok key → key ≡ bytes
limit bytes key e = by (ltb 1024 (length bytes)) e
  where
    by : (t : Bool) → cond {A = Result (List ℕ) KeyFault} t (Err (TooLong (length bytes))) (Ok bytes) ≡ Ok key → key ≡ bytes
    by true g = absurd (cc)
    by false g = let same : bytes ≡ key = cc in sym same

spelt : (fault : Result (Unit {0}) KeyFault) (bytes key : List ℕ) → unless_fault fault bytes ≡ Ok key → key ≡ bytes
spelt (Ok _) bytes key e = limit bytes key e
spelt (Err fault) bytes key e = absurd (cc)

pub group_spelt : (shape : Shape) (vs : List Value) (group : List ℕ) → group_key_of shape vs ≡ Ok group → group ≡ group_bytes shape vs
group_spelt shape vs group e = spelt (fault_of shape.root_kinds vs) (group_bytes shape vs) group e

-- ---- a row key of a table, of a group

pub record KeyOf (s : Schema) (n : ℕ) (t : Table) (group key : List ℕ) : Type 0 where
  pub values : List Value
  pub is : IsKey (shape_of s n t) key values
  pub of : group_of s n t values ≡ Ok group

abbrev pub is_it : List ℕ → Result (List ℕ) KeyFault → Bool
is_it group (Ok own) = same_key own group
is_it group (Err fault) = false

abbrev pub in_group : Schema → ℕ → Table → List ℕ → Result (List Value) KeyFault → Bool
in_group s n t group (Ok values) = is_it group (group_of s n t values)
in_group s n t group (Err fault) = false

it_is : (group : List ℕ) (own : Result (List ℕ) KeyFault) → is_it group own ≡ true → own ≡ Ok group
it_is group (Ok own) h = ap Ok (key_is own group h)
it_is group (Err fault) h = absurd (cc)

pub key_of_table : (s : Schema) (n : ℕ) (t : Table) (group key : List ℕ) → AreBytes key → is_key_of s n t group key ≡ true → KeyOf s n t group key
key_of_table s n t group key bytes h = by (read_key_of (shape_of s n t) key) refl h
  where
    by : (r : Result (List Value) KeyFault) → read_key_of (shape_of s n t) key ≡ r → in_group s n t group r ≡ true → KeyOf s n t group key
    by (Ok values) is g = record { values = values; is = read_found (shape_of s n t) key values bytes is; of = it_is group (group_of s n t values) g }
    by (Err fault) is g = absurd (cc)

-- an item names it
pub named_by : (s : Schema) (n : ℕ) (t : Table) (group key : List ℕ) (i : ℕ) → numbered s.tables n ≡ Some t → (of : KeyOf s n t group key) → key_in s group i n of.values ≡ Ok key
named_by s n t group key i there of =
    ap (λ (o : Option Table). key_in_table s group i n o of.values) there
    ∙ ap (λ (g : Result (List ℕ) KeyFault). placed i group g (key_of s n t of.values)) of.of
    ∙ ap (λ (b : Bool). cond b (spelled i (key_of s n t of.values)) (Err (OtherGroup i))) (same_self group)
    ∙ ap (spelled i) (spells (shape_of s n t) key of.values of.is)

-- its bytes: those of the group but for the first, then the table's number
pub record Parts (n : ℕ) (t : Table) (group key : List ℕ) : Type 0 where
  pub tail : List ℕ
  pub rest : List ℕ
  pub key_is : key ≡ (space_of n t ∷ tail) ++ n ∷ rest
  pub group_is : group ≡ t.root ∷ tail

pub parts_of : (s : Schema) (n : ℕ) (t : Table) (group key : List ℕ) → KeyOf s n t group key → Parts n t group key
parts_of s n t group key of =
    let shape = shape_of s n t in
    let root = root_part shape of.values in
    record {
      tail = scatter_of shape.scatter root ++ spell_all root;
      rest = spell_all (rest_part shape of.values);
      key_is = of.is.spelled;
      group_is = group_spelt shape root group of.of;
    }

-- of a key that an item of the group names
placed_ok : (i : ℕ) (group : List ℕ) (own spelt : Result (List ℕ) KeyFault) (key : List ℕ) → placed i group own spelt ≡ Ok key → (own ≡ Ok group) × (spelt ≡ Ok key)
placed_ok i group (Err fault) spelt key h = absurd (cc)
placed_ok i group (Ok own) spelt key h = by (same_key own group) refl spelt h
  where
    by : (b : Bool) → same_key own group ≡ b → (spelt : Result (List ℕ) KeyFault) → cond b (spelled i spelt) (Err (OtherGroup i)) ≡ Ok key → (◌≡◌ {A = Result (List ℕ) KeyFault} (Ok own) (Ok group)) × (spelt ≡ Ok key)
    by false is spelt g = absurd (cc)
    by true is (Err fault) g = absurd (cc)
    by true is (Ok found) g = let same : found ≡ key = cc in (ap Ok (key_is own group is), ap Ok same)

pub named_parts : (s : Schema) (n : ℕ) (t : Table) (group key : List ℕ) → numbered s.tables n ≡ Some t → IsNamed s group n key → Parts n t group key
named_parts s n t group key there named =
    let shape = shape_of s n t in
    let root = root_part shape named.0 in
    let both = placed_ok 0 group (group_of s n t named.0) (key_of s n t named.0) key (sym (ap (λ (o : Option Table). key_in_table s group 0 n o named.0) there) ∙ named.1) in
    record {
      tail = scatter_of shape.scatter root ++ spell_all root;
      rest = spell_all (rest_part shape named.0);
      key_is = spelt (fault_of (key_kinds shape) named.0) (row_bytes shape named.0) key both.1;
      group_is = group_spelt shape root group both.0;
    }

behind : (front rest : List ℕ) (n : ℕ) → get_or (front ++ n ∷ rest) (length front) 0 ≡ n
behind [] rest n = refl
behind (b ∷ front) rest n = behind front rest n

-- so it is of no other table
number_is : (s : Schema) (n : ℕ) (t : Table) (group key : List ℕ) → AreBytes key → is_key_of s n t group key ≡ true → get_or key (length group) 0 ≡ n
number_is s n t group key bytes h =
    let parts = parts_of s n t group key (key_of_table s n t group key bytes h) in
    (λ i. get_or (parts.key_is i) (length (parts.group_is i)) 0) ∙ behind (space_of n t ∷ parts.tail) parts.rest n

pub one_number : (s : Schema) (n m : ℕ) (t u : Table) (group key : List ℕ) → AreBytes key → is_key_of s n t group key ≡ true → is_key_of s m u group key ≡ true → n ≡ m
one_number s n m t u group key bytes h g = sym (number_is s n t group key bytes h) ∙ number_is s m u group key bytes g

-- ---- the table that a key is of

pub record InTable (s : Schema) (k : ℕ) (ts : List Table) (group key : List ℕ) (m : ℕ) : Type 0 where
  pub place : ℕ
  pub table : Table
  pub there : slice_get ts place ≡ Some table
  pub number : m ≡ k + place
  pub is : is_key_of s m table group key ≡ true

pub table_found : (s : Schema) (k : ℕ) (ts : List Table) (group key : List ℕ) (m : ℕ) → table_in s k ts group key ≡ Some m → InTable s k ts group key m
table_found s k [] group key m h = absurd (cc)
table_found s k (t ∷ ts) group key m h = by (is_key_of s k t group key) refl (table_found s (k + 1) ts group key m) h
  where
    by : (b : Bool) → is_key_of s k t group key ≡ b → (table_in s (k + 1) ts group key ≡ Some m → InTable s (k + 1) ts group key m)
        → cond b (Some k) (table_in s (k + 1) ts group key) ≡ Some m → InTable s k (t ∷ ts) group key m
    by true is others g =
        let same : k ≡ m = cc in
        record { place = 0; table = t; there = refl; number = omega (arith, same); is = subst (λ (j : ℕ). is_key_of s j t group key ≡ true) same is }
    by false is others g =
        let more = others g in
        record { place = suc more.place; table = more.table; there = more.there; number = omega (arith, more.number); is = more.is }

some_table : (s : Schema) (k : ℕ) (ts : List Table) (group key : List ℕ) (i : ℕ) (t : Table) → slice_get ts i ≡ Some t → is_key_of s (k + i) t group key ≡ true → (m : ℕ) × (table_in s k ts group key ≡ Some m)
some_table s k [] group key i t there is = absurd (cc)
some_table s k (u ∷ ts) group key zero t there is =
    let same : u ≡ t = cc in
    let first : is_key_of s k u group key ≡ true = (λ j. is_key_of s (zero_more k j) (same j) group key) ∙ is in
    (k, ap (λ (b : Bool). cond b (Some k) (table_in s (k + 1) ts group key)) first)
  where
    zero_more : (k : ℕ) → k ≡ k + 0
    zero_more k = omega arith
some_table s k (u ∷ ts) group key (suc i) t there is =
    let moved : k + suc i ≡ (k + 1) + i = omega arith in
    by (is_key_of s k u group key) refl (some_table s (k + 1) ts group key i t there (subst (λ (j : ℕ). is_key_of s j t group key ≡ true) moved is))
  where
    by : (b : Bool) → is_key_of s k u group key ≡ b → (m : ℕ) × (table_in s (k + 1) ts group key ≡ Some m) → (m : ℕ) × (table_in s k (u ∷ ts) group key ≡ Some m)
    by true first more = (k, ap (λ (b : Bool). cond b (Some k) (table_in s (k + 1) ts group key)) first)
    by false first more = (more.0, ap (λ (b : Bool). cond b (Some k) (table_in s (k + 1) ts group key)) first ∙ more.1)

-- a key of bytes that is one of this table is of this table
pub table_is : (s : Schema) (group key : List ℕ) (i : ℕ) (t : Table) → AreBytes key → slice_get (take 64 s.tables) i ≡ Some t → is_key_of s (1 + i) t group key ≡ true → table_of s group key ≡ Some (1 + i)
table_is s group key i t bytes there is =
    let found = some_table s 1 (take 64 s.tables) group key i t there is in
    let other = table_found s 1 (take 64 s.tables) group key found.0 found.1 in
    found.1 ∙ ap Some (one_number s found.0 (1 + i) other.table t group key bytes other.is is)

-- ---- tables by their numbers

front_get : {A : Type 0} (n : ℕ) (xs : List A) (i : ℕ) (x : A) → slice_get (take n xs) i ≡ Some x → slice_get xs i ≡ Some x
front_get zero xs i x h = absurd (cc)
front_get (suc n) [] i x h = absurd (cc)
front_get (suc n) (y ∷ xs) zero x h = h
front_get (suc n) (y ∷ xs) (suc i) x h = front_get n xs i x h

numbered_at : (ts : List Table) (i m : ℕ) (t : Table) → m ≡ 1 + i → slice_get ts i ≡ Some t → numbered ts m ≡ Some t
numbered_at ts i m t is there =
    ap (λ (b : Bool). cond b None (slice_get ts (m - 1))) (let no : eqb m 0 ≡ false = not_zero m i is in no) ∙ ap (slice_get ts) (let same : m - 1 ≡ i = omega (arith, is) in same) ∙ there
  where
    not_zero : (m i : ℕ) → m ≡ 1 + i → eqb m 0 ≡ false
    not_zero m i is = grind (arith, nat_tests)

pub numbered_there : (s : Schema) (i m : ℕ) (t : Table) → m ≡ 1 + i → slice_get (take 64 s.tables) i ≡ Some t → numbered s.tables m ≡ Some t
numbered_there s i m t is there = numbered_at s.tables i m t is (front_get 64 s.tables i t there)

-- a key of bytes that is one of a group's table is one that an item of the group can name
pub named_key : (s : Schema) (group key : List ℕ) (n : ℕ) → AreBytes key → table_of s group key ≡ Some n → IsNamed s group n key
named_key s group key n bytes of =
    let found = table_found s 1 (take 64 s.tables) group key n of in
    let is = key_of_table s n found.table group key bytes found.is in
    (is.values, named_by s n found.table group key 0 (numbered_there s found.place n found.table found.number found.there) is)
