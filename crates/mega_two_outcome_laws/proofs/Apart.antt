-- Properties whose names differ: as many as there are names, all of them among these, are these.
use Rattle.std.proofs.Common.{◌≡◌, ℕ, suc, ◌≤◌, ◌||◌, ◌&&◌, cond, Bool, true, false, List, [], ◌∷◌, ◌++◌, length, refl, sym, ap, ◌∙◌, arith}
use Rattle.std.specs.Prelude.{not}
use Rattle.std.specs.List.{list_any, list_all}
use Rattle.std.proofs.lemmas.Bool.{and_parts, false≢true, not-true, or_parts}
use Rattle.mega_syntax.specs.Names.{same}
use Rattle.mega_schema.specs.declared.schema.Property.{Property}
use Rattle.mega_schema.specs.Lookup.{is_among as is_listed, stands_twice}
use Rattle.mega_schema.specs.Rules.{property_names}
use Rattle.mega_schema.proofs.Naming.{same_is, same_self, same_other}
use Rattle.mega_two_driver.specs.Tables.{same_kind, is_required, is_property, is_among}
use Rattle.mega_two_outcome_laws.proofs.Tabled.{any_weaker}

-- one of them has the name
abbrev pub named : List ℕ → List Property → Bool
named k ws = list_any (λ (w : Property). same w.name k) ws

abbrev pub apart : List Property → Bool
apart [] = true
apart (w ∷ ws) = not (named w.name ws) && apart ws

abbrev pub are_named : List Property → List Property → Bool
are_named ws ps = list_all (λ (p : Property). named p.name ws) ps

pub apart_from : (a b : List ℕ) → same a b ≡ false → a ≡ b → ⊥
apart_from a b e is = false≢true (sym e ∙ ap (λ x. same x b) is ∙ same_self b)

pub once : (ps : List Property) → stands_twice (property_names ps) ≡ false → apart ps ≡ true
once [] e = refl
once (p ∷ ps) e =
    let q = or_parts (is_listed (property_names ps) p.name) (stands_twice (property_names ps)) e in
    (λ i. not ((sym (listed ps) ∙ q.0) i) && once ps q.1 i)
  where
    listed : (xs : List Property) → is_listed (property_names xs) p.name ≡ named p.name xs
    listed [] = refl
    listed (x ∷ xs) = ap (λ b. same x.name p.name || b) (listed xs)

-- ---- without those of a name

abbrev without : List ℕ → List Property → List Property
without k [] = []
without k (p ∷ ps) = cond (same p.name k) (without k ps) (p ∷ without k ps)

all_there : (k : List ℕ) (ps : List Property) → named k ps ≡ false → without k ps ≡ ps
all_there k [] e = refl
all_there k (p ∷ ps) e =
    let q = or_parts (same p.name k) (named k ps) e in
    ap (λ b. cond b (without k ps) (p ∷ without k ps)) q.0 ∙ ap (λ xs. p ∷ xs) (all_there k ps q.1)

one_less : (k : List ℕ) (ps : List Property) → apart ps ≡ true → length ps ≤ suc (length (without k ps))
one_less k [] e = omega arith
one_less k (p ∷ ps) e =
    let q = and_parts (not (named p.name ps)) (apart ps) e in
    by (same p.name k) refl (one_less k ps q.1) (not-true (named p.name ps) q.0)
  where
    by : (b : Bool) → same p.name k ≡ b → length ps ≤ suc (length (without k ps)) → named p.name ps ≡ false → suc (length ps) ≤ suc (length (cond b (without k ps) (p ∷ without k ps)))
    by false is rest none = omega (arith, rest)
    by true is rest none =
        let all : without k ps ≡ ps = all_there k ps (ap (λ x. named x ps) (sym (same_is p.name k is)) ∙ none) in
        omega (arith, ap length all)

still_none : (m k : List ℕ) (ps : List Property) → named m ps ≡ false → named m (without k ps) ≡ false
still_none m k [] e = refl
still_none m k (p ∷ ps) e =
    let q = or_parts (same p.name m) (named m ps) e in
    by (same p.name k) (still_none m k ps q.1) q.0
  where
    by : (b : Bool) → named m (without k ps) ≡ false → same p.name m ≡ false → named m (cond b (without k ps) (p ∷ without k ps)) ≡ false
    by true rest one = rest
    by false rest one = (λ i. one i || rest i)

still_apart : (k : List ℕ) (ps : List Property) → apart ps ≡ true → apart (without k ps) ≡ true
still_apart k [] e = refl
still_apart k (p ∷ ps) e =
    let q = and_parts (not (named p.name ps)) (apart ps) e in
    by (same p.name k) (still_apart k ps q.1) (still_none p.name k ps (not-true (named p.name ps) q.0))
  where
    by : (b : Bool) → apart (without k ps) ≡ true → named p.name (without k ps) ≡ false → apart (cond b (without k ps) (p ∷ without k ps)) ≡ true
    by true rest none = rest
    by false rest none = (λ i. not (none i) && rest i)

still_named : (w : Property) (ws ps : List Property) → are_named (w ∷ ws) ps ≡ true → are_named ws (without w.name ps) ≡ true
still_named w ws [] e = refl
still_named w ws (p ∷ ps) e =
    let q = and_parts (same w.name p.name || named p.name ws) (are_named (w ∷ ws) ps) e in
    by (same p.name w.name) refl (still_named w ws ps q.1) q.0
  where
    by : (b : Bool) → same p.name w.name ≡ b → are_named ws (without w.name ps) ≡ true → (same w.name p.name || named p.name ws) ≡ true → are_named ws (cond b (without w.name ps) (p ∷ without w.name ps)) ≡ true
    by true is rest one = rest
    by false is rest one = (λ i. (ap (λ b. b || named p.name ws) (sym (same_other w.name p.name ∙ is)) ∙ one) i && rest i)

-- ---- counted

no_more : (ws ps : List Property) → apart ps ≡ true → are_named ws ps ≡ true → length ps ≤ length ws
no_more [] [] e all = omega arith
no_more [] (p ∷ ps) e all = absurd (cc)
no_more (w ∷ ws) ps e all = omega (arith, one_less w.name ps e, no_more ws (without w.name ps) (still_apart w.name ps e) (still_named w ws ps all))

not_needed : (w : Property) (ws ps : List Property) → named w.name ws ≡ true → are_named (w ∷ ws) ps ≡ true → are_named ws ps ≡ true
not_needed w ws [] again e = refl
not_needed w ws (p ∷ ps) again e =
    let q = and_parts (same w.name p.name || named p.name ws) (are_named (w ∷ ws) ps) e in
    (λ i. by (same w.name p.name) refl q.0 i && not_needed w ws ps again q.1 i)
  where
    by : (b : Bool) → same w.name p.name ≡ b → (b || named p.name ws) ≡ true → named p.name ws ≡ true
    by true is one = ap (λ x. named x ws) (sym (same_is w.name p.name is)) ∙ again
    by false is one = one

pub all_apart : (ws ps : List Property) → apart ps ≡ true → are_named ws ps ≡ true → length ws ≤ length ps → apart ws ≡ true
all_apart [] ps e all enough = refl
all_apart (w ∷ ws) ps e all enough =
    by (named w.name ws) refl (all_apart ws (without w.name ps) (still_apart w.name ps e) (still_named w ws ps all) (omega (arith, enough, one_less w.name ps e)))
  where
    by : (b : Bool) → named w.name ws ≡ b → apart ws ≡ true → (not b && apart ws) ≡ true
    by true is rest = absurd (omega (arith, enough, no_more ws ps e (not_needed w ws ps is all)))
    by false is rest = rest

-- those that are wanted, by name
pub are_wanted : (ws ps : List Property) → list_all (is_among ws) ps ≡ true → are_named ws ps ≡ true
are_wanted ws [] e = refl
are_wanted ws (p ∷ ps) e =
    let q = and_parts (is_among ws p) (list_all (is_among ws) ps) e in
    (λ i. any_weaker (λ other. is_property other p) (λ w. same w.name p.name) ws
    (λ other is. same_other other.name p.name ∙ (and_parts (same p.name other.name) (is_required p.need) (and_parts (same p.name other.name && is_required p.need) (same_kind p.kind other.kind) is).0).0) q.0 i
    && are_wanted ws ps q.1 i)

-- ---- two lists

pub apart_front : (xs ys : List Property) → apart (xs ++ ys) ≡ true → apart xs ≡ true
apart_front [] ys e = refl
apart_front (x ∷ xs) ys e =
    let q = and_parts (not (named x.name (xs ++ ys))) (apart (xs ++ ys)) e in
    (λ i. not (front xs (not-true (named x.name (xs ++ ys)) q.0) i) && apart_front xs ys q.1 i)
  where
    front : (zs : List Property) → named x.name (zs ++ ys) ≡ false → named x.name zs ≡ false
    front [] g = refl
    front (z ∷ zs) g = let p = or_parts (same z.name x.name) (named x.name (zs ++ ys)) g in (λ i. p.0 i || front zs p.1 i)

pub none_before : (xs : List Property) (y : Property) (ys : List Property) → apart (xs ++ y ∷ ys) ≡ true → named y.name xs ≡ false
none_before [] y ys e = refl
none_before (x ∷ xs) y ys e =
    let q = and_parts (not (named x.name (xs ++ y ∷ ys))) (apart (xs ++ y ∷ ys)) e in
    (λ i. (same_other x.name y.name ∙ met xs (not-true (named x.name (xs ++ y ∷ ys)) q.0)) i || none_before xs y ys q.1 i)
  where
    met : (zs : List Property) → named x.name (zs ++ y ∷ ys) ≡ false → same y.name x.name ≡ false
    met [] g = (or_parts (same y.name x.name) (named x.name ys) g).0
    met (z ∷ zs) g = met zs (or_parts (same z.name x.name) (named x.name (zs ++ y ∷ ys)) g).1
