-- Tables by their numbers and names: plans, locks and ends stand in three tables.
use Rattle.std.proofs.Common.{◌≡◌, ℕ, ◌+◌, ◌-◌, cond, Bool, true, false, List, ◌++◌, length, drop, get_or, refl, sym, ap, ◌∙◌, subst, arith, length-append, Option, Some, None}
use Rattle.std.specs.Prelude.{◌==◌, codes, position, slice_get, nat_lt, if◌then◌else◌}
use Rattle.std.proofs.lemmas.Bool.Decides.{nat_tests}
use Rattle.std.proofs.lemmas.List.{drop_at}
use Rattle.std.proofs.lemmas.List.Quantifiers.{position-Some}
use Rattle.std.proofs.lemmas.Option.{slice_get-get_or}
use Rattle.mega_syntax.specs.Names.{same}
use Rattle.mega_schema.specs.declared.schema.Table.{Table}
use Rattle.mega_schema.specs.declared.schema.Schema.{Schema}
use Rattle.mega_schema.proofs.Naming.{same_is}
use Rattle.mega_index.specs.Fits.{numbered}
use Rattle.mega_schedule.specs.Values.{number_of_place, table_number}
use Rattle.mega_two_driver.specs.Texts.{lock_table, end_table}
use Rattle.mega_two_outcome_laws.proofs.Keyed.{front_gone}

none_numbered : (s : Schema) (t : Table) (n : ℕ) → n ≡ 0 → numbered s.tables n ≡ Some t → ⊥
none_numbered s t n zero_is e = let none : None ≡ Some t = ap (numbered s.tables) (sym zero_is) ∙ e in cc

at_next : (s : Schema) (i : ℕ) → numbered s.tables (i + 1) ≡ slice_get s.tables i
at_next s i =
    let test : (i + 1 == 0) ≡ false = grind (arith, nat_tests) in
    let back : i + 1 - 1 ≡ i = omega arith in
    ap (λ b. cond b None (slice_get s.tables (i + 1 - 1))) test ∙ ap (slice_get s.tables) back

-- the table with the number of a name has the name
pub has_name : (s : Schema) (name : List ℕ) (n : ℕ) (t : Table) → numbered s.tables n ≡ Some t → n ≡ table_number s name → t.name ≡ name
has_name s name n t at is = by (position (λ u. same u.name name) s.tables) refl is
  where
    third : (i : ℕ) → position (λ u. same u.name name) s.tables ≡ Some i → (b : Bool) → n ≡ (if b then i + 1 else 0) → t.name ≡ name
    third i found false e = absurd (none_numbered s t n e at)
    third i found true e =
        let p = position-Some (λ (u : Table). same u.name name) s.tables i t found in
        let there : slice_get s.tables i ≡ Some (get_or s.tables i t) = slice_get-get_or s.tables i t p.0 in
        let one : Some (get_or s.tables i t) ≡ Some t = sym there ∙ sym (at_next s i) ∙ ap (numbered s.tables) (sym e) ∙ at in
        let table : get_or s.tables i t ≡ t = cc in
        same_is t.name name (subst (λ (u : Table). same u.name name ≡ true) table p.1)

    by : (o : Option ℕ) → position (λ u. same u.name name) s.tables ≡ o → n ≡ number_of_place o → t.name ≡ name
    by None found e = absurd (none_numbered s t n e at)
    by (Some i) found e = third i found (nat_lt i 255) e

pub one_name : (s : Schema) (a b : List ℕ) (n : ℕ) (t : Table) → numbered s.tables n ≡ Some t → n ≡ table_number s a → n ≡ table_number s b → a ≡ b
one_name s a b n t at first second = sym (has_name s a n t at first) ∙ has_name s b n t at second

-- ---- the names

ends_as : (root end whole : List ℕ) (k : ℕ) → root ++ end ≡ whole → length root ≡ k → end ≡ drop k whole
ends_as root end whole k e long = sym (drop_at root end k long) ∙ ap (drop k) e

pub plan_no_lock : (root : List ℕ) → codes "TwoPlan" ≡ lock_table root → ⊥
plan_no_lock root e =
    let lengths = length-append root (codes "Two") in
    let long : length root ≡ 4 = omega (arith, lengths, ap length e) in
    let first : ◌≡◌ {A = ℕ} 84 108 = ap (λ (xs : List ℕ). get_or xs 0 0) (ends_as root (codes "Two") (codes "TwoPlan") 4 (sym e) long) in
    omega (arith, first)

pub plan_no_end : (root : List ℕ) → codes "TwoPlan" ≡ end_table root → ⊥
plan_no_end root e =
    let lengths = length-append root (codes "Done") in
    let long : length root ≡ 3 = omega (arith, lengths, ap length e) in
    let first : ◌≡◌ {A = ℕ} 68 80 = ap (λ (xs : List ℕ). get_or xs 0 0) (ends_as root (codes "Done") (codes "TwoPlan") 3 (sym e) long) in
    omega (arith, first)

pub lock_no_end : (root : List ℕ) → lock_table root ≡ end_table root → ⊥
lock_no_end root e =
    let first : ◌≡◌ {A = ℕ} 84 68 = ap (λ (xs : List ℕ). get_or xs 0 0) (front_gone root (codes "Two") (codes "Done") e) in
    omega (arith, first)
