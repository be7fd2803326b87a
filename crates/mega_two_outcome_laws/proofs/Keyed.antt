-- The key that an item of a transaction names: the bytes of its group, its table's number, and what stands behind.
use Rattle.std.proofs.Common.{◌≡◌, ℕ, ◌+◌, ◌≤◌, cond, ltb, Bool, true, false, List, [], ◌∷◌, ◌++◌, length, drop, refl, sym, ap, ◌∙◌, arith, Option, Some, None, Result, Ok, Err, ltb-false}
use Rattle.mega_base.specs.declared.values.Value.{Value}
use Rattle.mega_base.specs.declared.values.Kind.{Kind}
use Rattle.mega_schema.specs.declared.schema.Table.{Table}
use Rattle.mega_schema.specs.declared.schema.Schema.{Schema}
use Rattle.mega_schema.specs.Shaping.{shape_of}
use Rattle.mega_keys.specs.declared.fault.KeyFault.{KeyFault}
use Rattle.mega_keys.specs.declared.fault.KeyFault.TheVariants.{Missing, TooLong}
use Rattle.mega_keys.specs.Spelling.{spell_all, root_part, rest_part, row_bytes, group_bytes}
use Rattle.mega_keys.specs.Fit.{has_kind, misplaced, key_kinds}
use Rattle.mega_keys.specs.Answers.{limited, fault_or_missing, fault_of, unless_fault}
use Rattle.mega_index.specs.Rows.{same_key}
use Rattle.mega_index.specs.Fits.{numbered, group_of, key_of}
use Rattle.mega_index.proofs.Turning.{same_key-Decides}
use Rattle.mega_outcome.specs.declared.answer.Turn.{Turn}
use Rattle.mega_outcome.specs.declared.answer.Turn.TheVariants.{OtherGroup}
use Rattle.mega_outcome.specs.Places.{spelled, placed, key_in_table, key_in}
use Rattle.mega_two_outcome_laws.specs.Places.{space_in, place}

-- ---- values that have no fault

limit : (bytes key : List ℕ) → limited bytes ≡ Ok key → key ≡ bytes
limit bytes key e = by (ltb 1024 (length bytes)) e
  where
    by : (t : Bool) → cond {A = Result (List ℕ) KeyFault} t (Err (TooLong (length bytes))) (Ok bytes) ≡ Ok key → key ≡ bytes
    by true g = absurd (cc)
    by false g = let same : bytes ≡ key = cc in sym same

-- as many values as kinds
pub record Spelt (ks : List Kind) (vs : List Value) (bytes key : List ℕ) : Type 0 where
  pub none : misplaced ks vs 0 ≡ None
  pub enough : length ks ≤ length vs
  pub is : key ≡ bytes

pub spelt : (ks : List Kind) (vs : List Value) (bytes key : List ℕ) → unless_fault (fault_of ks vs) bytes ≡ Ok key → Spelt ks vs bytes key
spelt ks vs bytes key e = by (misplaced ks vs 0) refl e
  where
    counted : (t : Bool) → ltb (length vs) (length ks) ≡ t → misplaced ks vs 0 ≡ None → unless_fault (cond t (Err (Missing (length vs))) (Ok tt)) bytes ≡ Ok key → Spelt ks vs bytes key
    counted true is none g = absurd (cc)
    counted false is none g = record { none = none; enough = ltb-false _ _ is; is = limit bytes key g }

    by : (m : Option ℕ) → misplaced ks vs 0 ≡ m → unless_fault (fault_or_missing m (length vs) (length ks)) bytes ≡ Ok key → Spelt ks vs bytes key
    by (Some i) is g = absurd (cc)
    by None is g = counted (ltb (length vs) (length ks)) refl is g

pub no_more : (ks : List Kind) (vs : List Value) (i : ℕ) → misplaced ks vs i ≡ None → length vs ≤ length ks
no_more ks [] i e = omega arith
no_more [] (v ∷ vs) i e = absurd (cc)
no_more (k ∷ ks) (v ∷ vs) i e = by (has_kind k v) (no_more ks vs (i + 1)) e
  where
    by : (t : Bool) → (misplaced ks vs (i + 1) ≡ None → length vs ≤ length ks) → cond t (misplaced ks vs (i + 1)) (Some i) ≡ None → length (v ∷ vs) ≤ length (k ∷ ks)
    by true more g = omega (arith, more g)
    by false more g = absurd (cc)

-- ---- the key of an item

pub record Keyed (s : Schema) (group : List ℕ) (n : ℕ) (values : List Value) (key : List ℕ) : Type 0 where
  pub table : Table
  pub at : numbered s.tables n ≡ Some table
  pub own : key_of s n table values ≡ Ok key
  pub of_group : group_of s n table values ≡ Ok group
  -- of its group
  pub first : group ≡ table.root ∷ drop 1 group
  pub is : key ≡ place s n group (spell_all (rest_part (shape_of s n table) values))

pub group_is : (s : Schema) (n : ℕ) (t : Table) (values : List Value) (group : List ℕ) → group_of s n t values ≡ Ok group → group ≡ group_bytes (shape_of s n t) (root_part (shape_of s n t) values)
group_is s n t values group e = (spelt (shape_of s n t).root_kinds (root_part (shape_of s n t) values) (group_bytes (shape_of s n t) (root_part (shape_of s n t) values)) group e).is

key_is : (s : Schema) (n : ℕ) (t : Table) (values : List Value) (key : List ℕ) → key_of s n t values ≡ Ok key → key ≡ row_bytes (shape_of s n t) values
key_is s n t values key e = (spelt (key_kinds (shape_of s n t)) values (row_bytes (shape_of s n t) values) key e).is

place_is : (s : Schema) (group : List ℕ) (n : ℕ) (t : Table) (values : List Value) (key : List ℕ) → numbered s.tables n ≡ Some t
    → group ≡ group_bytes (shape_of s n t) (root_part (shape_of s n t) values) → key ≡ row_bytes (shape_of s n t) values → key ≡ place s n group (spell_all (rest_part (shape_of s n t) values))
place_is s group n t values key at g k =
    let rest = spell_all (rest_part (shape_of s n t) values) in
    k ∙ (λ i. space_in n (sym at i) ∷ (drop 1 (sym g i) ++ n ∷ rest))

keyed : (s : Schema) (group : List ℕ) (n : ℕ) (t : Table) (values : List Value) (key : List ℕ) → numbered s.tables n ≡ Some t → group_of s n t values ≡ Ok group → key_of s n t values ≡ Ok key → Keyed s group n values key
keyed s group n t values key at of own =
    let g = group_is s n t values group of in
    record {
      table = t;
      at = at;
      own = own;
      of_group = of;
      first = g ∙ ap (λ (x : List ℕ). t.root ∷ drop 1 x) (sym g);
      is = place_is s group n t values key at g (key_is s n t values key own);
    }

pub names_key : (s : Schema) (group : List ℕ) (i n : ℕ) (values : List Value) (key : List ℕ) → key_in s group i n values ≡ Ok key → Keyed s group n values key
names_key s group i n values key e = by (numbered s.tables n) refl e
  where
    third : (t : Table) → numbered s.tables n ≡ Some t → (own : List ℕ) → group_of s n t values ≡ Ok own → (b : Bool) → same_key own group ≡ b → (r : Result (List ℕ) KeyFault) → key_of s n t values ≡ r
        → cond {A = Result (List ℕ) Turn} b (spelled i r) (Err (OtherGroup i)) ≡ Ok key → Keyed s group n values key
    third t at own of true is (Ok k) spells g =
        let same : own ≡ group = (same_key-Decides own group).0 is in
        let key_same : k ≡ key = cc in
        keyed s group n t values key at (of ∙ ap Ok same) (spells ∙ ap Ok key_same)
    third t at own of true is (Err fault) spells g = absurd (cc)
    third t at own of false is r spells g = absurd (cc)

    second : (t : Table) → numbered s.tables n ≡ Some t → (r : Result (List ℕ) KeyFault) → group_of s n t values ≡ r → placed i group r (key_of s n t values) ≡ Ok key → Keyed s group n values key
    second t at (Ok own) of g = third t at own of (same_key own group) refl (key_of s n t values) refl g
    second t at (Err fault) of g = absurd (cc)

    by : (o : Option Table) → numbered s.tables n ≡ o → key_in_table s group i n o values ≡ Ok key → Keyed s group n values key
    by None at g = absurd (cc)
    by (Some t) at g = second t at (group_of s n t values) refl g

-- whichever number the item has
pub key_again : (s : Schema) (group : List ℕ) (i j n : ℕ) (values : List Value) (key : List ℕ) → key_in s group i n values ≡ Ok key → key_in s group j n values ≡ Ok key
key_again s group i j n values key e =
    let k = names_key s group i n values key e in
    ap (λ o. key_in_table s group j n o values) k.at
    ∙ (λ x. placed j group (k.of_group x) (k.own x))
    ∙ ap (λ b. cond {A = Result (List ℕ) Turn} b (Ok key) (Err (OtherGroup j))) ((same_key-Decides group group).1 refl)

-- ---- keys of one group

pub front_gone : (front xs ys : List ℕ) → front ++ xs ≡ front ++ ys → xs ≡ ys
front_gone [] xs ys e = e
front_gone (x ∷ front) xs ys e = front_gone front xs ys (ap (drop 1) e)

first_is : (x y : ℕ) (xs ys : List ℕ) → x ∷ xs ≡ y ∷ ys → x ≡ y
first_is x y xs ys e = cc

pub one_table : (s : Schema) (n m : ℕ) (group a b : List ℕ) → place s n group a ≡ place s m group b → n ≡ m
one_table s n m group a b e = first_is n m a b (front_gone (drop 1 group) (n ∷ a) (m ∷ b) (ap (drop 1) e))

pub one_rest : (s : Schema) (n m : ℕ) (group a b : List ℕ) → place s n group a ≡ place s m group b → a ≡ b
one_rest s n m group a b e = ap (drop 1) (front_gone (drop 1 group) (n ∷ a) (m ∷ b) (ap (drop 1) e))
