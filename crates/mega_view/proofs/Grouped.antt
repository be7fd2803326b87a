-- Key values that spell a row key spell a group.
use Rattle.std.proofs.Common.{◌≡◌, ℕ, zero, suc, ◌+◌, ◌≤◌, cond, ltb, Bool, true, false, List, [], ◌∷◌, ◌++◌, length, take, refl, sym, ap, ◌∙◌, arith, length-append, Option, Some, None, Result, Ok, Err}
use Rattle.std.proofs.lemmas.Bool.{le-ltb}
use Rattle.std.proofs.lemmas.Bool.Decides.{nat_tests}
use Rattle.mega_base.specs.declared.values.Value.{Value}
use Rattle.mega_base.specs.declared.values.Kind.{Kind}
use Rattle.mega_base.specs.declared.values.Shape.{Shape}
use Rattle.mega_schema.specs.declared.schema.Table.{Table}
use Rattle.mega_schema.specs.declared.schema.Schema.{Schema}
use Rattle.mega_schema.specs.Shaping.{shape_of}
use Rattle.mega_keys.specs.declared.fault.KeyFault.{KeyFault}
use Rattle.mega_keys.specs.declared.fault.KeyFault.TheVariants.{Kind as OtherKind, Missing, TooLong}
use Rattle.mega_keys.specs.Spelling.{spell_all, scatter_of, root_part, rest_part, row_bytes, group_bytes}
use Rattle.mega_keys.specs.Fit.{has_kind, key_kinds, misplaced}
use Rattle.mega_keys.specs.Answers.{limited, fault_or_missing, fault_of, unless_fault, row_key_of, group_key_of}
use Rattle.mega_index.specs.Fits.{group_of, key_of}

-- ---- what is spelled is in its places, whole, and short

pub record Spelt (kinds : List Kind) (values : List Value) (bytes : List ℕ) : Type 0 where
  pub stand : misplaced kinds values 0 ≡ None
  pub many : length kinds ≤ length values
  pub short : length bytes ≤ 1024

not_less : (a b : ℕ) → ltb a b ≡ false → b ≤ a
not_less a b is = grind (arith, nat_tests)

spelt : (kinds : List Kind) (values : List Value) (bytes key : List ℕ) → unless_fault (fault_of kinds values) bytes ≡ Ok key → Spelt kinds values bytes
spelt kinds values bytes key h = by (misplaced kinds values 0) refl h
  where
    short_by : misplaced kinds values 0 ≡ None → length kinds ≤ length values → (t : Bool) → ltb 1024 (length bytes) ≡ t → cond {A = Result (List ℕ) KeyFault} t (Err (TooLong (length bytes))) (Ok bytes) ≡ Ok key → Spelt kinds values bytes
    short_by stand many true is g = absurd (cc)
    short_by stand many false is g = record { stand = stand; many = many; short = not_less 1024 (length bytes) is }

    many_by : misplaced kinds values 0 ≡ None → (t : Bool) → ltb (length values) (length kinds) ≡ t → unless_fault (cond t (Err (Missing (length values))) (Ok tt)) bytes ≡ Ok key → Spelt kinds values bytes
    many_by stand true is g = absurd (cc)
    many_by stand false is g = short_by stand (not_less (length values) (length kinds) is) (ltb 1024 (length bytes)) refl g

    by : (m : Option ℕ) → misplaced kinds values 0 ≡ m → unless_fault (fault_or_missing m (length values) (length kinds)) bytes ≡ Ok key → Spelt kinds values bytes
    by (Some i) is g = absurd (cc)
    by None is g = many_by is (ltb (length values) (length kinds)) refl g

spells : (kinds : List Kind) (values : List Value) (bytes : List ℕ) → Spelt kinds values bytes → unless_fault (fault_of kinds values) bytes ≡ Ok bytes
spells kinds values bytes is =
    ap (λ (m : Option ℕ). unless_fault (fault_or_missing m (length values) (length kinds)) bytes) is.stand
    ∙ ap (λ (b : Bool). unless_fault (cond b (Err (Missing (length values))) (Ok tt)) bytes) (le-ltb (length values) (length kinds) is.many)
    ∙ ap (λ (b : Bool). cond {A = Result (List ℕ) KeyFault} b (Err (TooLong (length bytes))) (Ok bytes)) (le-ltb 1024 (length bytes) is.short)

-- ---- the first values stand in the first places

front_stands : (ks more : List Kind) (vs : List Value) (i : ℕ) → misplaced (ks ++ more) vs i ≡ None → misplaced ks (take (length ks) vs) i ≡ None
front_stands [] more vs i h = refl
front_stands (k ∷ ks) more [] i h = refl
front_stands (k ∷ ks) more (v ∷ vs) i h = by (front_stands ks more vs (i + 1)) (has_kind k v) h
  where
    by : (misplaced (ks ++ more) vs (i + 1) ≡ None → misplaced ks (take (length ks) vs) (i + 1) ≡ None) → (b : Bool) → cond b (misplaced (ks ++ more) vs (i + 1)) (Some i) ≡ None
        → cond b (misplaced ks (take (length ks) vs) (i + 1)) (Some i) ≡ None
    by rest true g = rest g
    by rest false g = absurd (cc)

front_many : (ks : List Kind) (vs : List Value) → length ks ≤ length vs → length ks ≤ length (take (length ks) vs)
front_many [] vs le = omega arith
front_many (k ∷ ks) [] le = absurd (omega (arith, le))
front_many (k ∷ ks) (v ∷ vs) le = let more = front_many ks vs (omega (arith, le)) in omega (arith, more)

module _ (shape : Shape) (values : List Value) where
  abbrev root : List Value
  root = root_part shape values

  shorter : length (row_bytes shape values) ≤ 1024 → length (group_bytes shape root) ≤ 1024
  shorter le =
      let whole = length-append (scatter_of shape.scatter root ++ spell_all root) (shape.table ∷ spell_all (rest_part shape values)) in
      omega (arith, le, whole)

  group_spelt : (key : List ℕ) → row_key_of shape values ≡ Ok key → Spelt shape.root_kinds root (group_bytes shape root)
  group_spelt key h =
      let is = spelt (key_kinds shape) values (row_bytes shape values) key h in
      record {
        stand = front_stands shape.root_kinds shape.rest_kinds values 0 is.stand;
        many = front_many shape.root_kinds values (let all = length-append shape.root_kinds shape.rest_kinds in omega (arith, all, is.many));
        short = shorter is.short;
      }

pub has_group : (s : Schema) (n : ℕ) (t : Table) (values : List Value) (key : List ℕ) → key_of s n t values ≡ Ok key → (group : List ℕ) × (group_of s n t values ≡ Ok group)
has_group s n t values key h =
    let shape = shape_of s n t in
    let own = root_part shape values in
    (group_bytes shape own, spells shape.root_kinds own (group_bytes shape own) (group_spelt shape values key h))
