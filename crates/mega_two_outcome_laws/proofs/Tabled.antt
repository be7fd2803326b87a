-- Tables and properties that are found by their names, and what is known of them.
use Rattle.std.proofs.Common.{◌≡◌, ℕ, zero, suc, ◌+◌, ◌-◌, ◌<◌, ◌≤◌, ◌&&◌, ◌||◌, cond, Bool, true, false, List, [], ◌∷◌, ◌++◌, length, refl, sym, ap, ◌∙◌, arith, Some, None}
use Rattle.std.specs.Prelude.{◌==◌, find, position, slice_get, nat_lt, if◌then◌else◌}
use Rattle.std.specs.List.{list_any, list_all, position_from}
use Rattle.std.proofs.lemmas.Bool.{and_parts, or_right}
use Rattle.std.proofs.lemmas.Bool.Decides.{nat_tests}
use Rattle.std.proofs.lemmas.Iterator.Adapters.{position_from-zero}
use Rattle.std.proofs.lemmas.Option.{slice_get_within}
use Rattle.mega_base.specs.declared.values.Kind.{Kind}
use Rattle.mega_base.specs.declared.values.Kind.TheVariants.{Int32, Int64, Bool as Truth, Str, Raw}
use Rattle.mega_syntax.specs.Names.{same}
use Rattle.mega_schema.specs.declared.schema.Property.{Property}
use Rattle.mega_schema.proofs.Naming.{same_is, same_other}
use Rattle.mega_index.specs.Fits.{numbered}
use Rattle.mega_schedule.specs.Values.{number_of_place, property_number}
use Rattle.mega_two_driver.specs.Tables.{same_kind, is_required, is_property, is_among}

-- ---- the first that passes

pub record First {A : Type 0} (test : A → Bool) (xs : List A) (k : ℕ) (item : A) : Type 0 where
  pub index : ℕ
  pub there : slice_get xs index ≡ Some item
  pub passes : test item ≡ true
  pub place_is : position_from test k xs ≡ Some (k + index)

pub first_from : {A : Type 0} (test : A → Bool) (xs : List A) (k : ℕ) (item : A) → find test xs ≡ Some item → First test xs k item
first_from test [] k item e = absurd (cc)
first_from {A} test (x ∷ xs) k item e = by (test x) refl (first_from test xs (k + 1) item) e
  where
    by : (b : Bool) → test x ≡ b → (find test xs ≡ Some item → First test xs (k + 1) item) → cond b (Some x) (find test xs) ≡ Some item → First test (x ∷ xs) k item
    by true is rest g =
        let one : x ≡ item = cc in
        record { index = 0; there = ap Some one; passes = ap test (sym one) ∙ is; place_is = ap (λ b. cond b (Some k) (position_from test (k + 1) xs)) is ∙ (let here : k ≡ k + 0 = omega arith in ap Some here) }
    by false is rest g =
        let f = rest g in
        let next : k + 1 + f.index ≡ k + suc f.index = omega arith in
        record { index = suc f.index; there = f.there; passes = f.passes; place_is = ap (λ b. cond b (Some k) (position_from test (k + 1) xs)) is ∙ f.place_is ∙ ap Some next }

pub found_any : {A : Type 0} (test : A → Bool) (xs : List A) → list_any test xs ≡ true → (x : A) × (find test xs ≡ Some x)
found_any test [] e = absurd (cc)
found_any {A} test (x ∷ xs) e = by (test x) refl (found_any test xs) e
  where
    by : (b : Bool) → test x ≡ b → (list_any test xs ≡ true → (y : A) × (find test xs ≡ Some y)) → (b || list_any test xs) ≡ true → (y : A) × (cond b (Some x) (find test xs) ≡ Some y)
    by true is rest g = (x, refl)
    by false is rest g = rest g

-- ---- its number

pub numbered_next : {A : Type 0} (xs : List A) (i : ℕ) → numbered xs (i + 1) ≡ slice_get xs i
numbered_next xs i =
    let test : (i + 1 == 0) ≡ false = grind (arith, nat_tests) in
    let back : i + 1 - 1 ≡ i = omega arith in
    ap (λ b. cond b None (slice_get xs (i + 1 - 1))) test ∙ ap (slice_get xs) back

pub record HasNumber {A : Type 0} (test : A → Bool) (xs : List A) (item : A) : Type 0 where
  pub index : ℕ
  pub there : slice_get xs index ≡ Some item
  pub few : index < 255
  pub passes : test item ≡ true
  pub number_is : number_of_place (position test xs) ≡ index + 1
  pub numbered_is : numbered xs (number_of_place (position test xs)) ≡ Some item

pub number_found : {A : Type 0} (test : A → Bool) (xs : List A) (item : A) → find test xs ≡ Some item → length xs ≤ 64 → HasNumber test xs item
number_found test xs item e few =
    let f = first_from test xs 0 item e in
    let within = slice_get_within xs f.index item f.there in
    let small : f.index < 255 = omega (arith, within, few) in
    let zero_on : 0 + f.index ≡ f.index = omega arith in
    let place : position test xs ≡ Some f.index = position_from-zero test xs ∙ f.place_is ∙ ap Some zero_on in
    let below : nat_lt f.index 255 ≡ true = grind (arith, nat_tests) in
    let number : number_of_place (position test xs) ≡ f.index + 1 = ap number_of_place place ∙ ap (λ b. if b then f.index + 1 else 0) below in
    record { index = f.index; there = f.there; few = small; passes = f.passes; number_is = number; numbered_is = ap (numbered xs) number ∙ numbered_next xs f.index ∙ f.there }

-- ---- all of them

pub all_at : {A : Type 0} (test : A → Bool) (xs : List A) (i : ℕ) (x : A) → list_all test xs ≡ true → slice_get xs i ≡ Some x → test x ≡ true
all_at test [] i x e there = absurd (cc)
all_at test (y ∷ xs) zero x e there = let one : y ≡ x = cc in ap test (sym one) ∙ (and_parts (test y) (list_all test xs) e).0
all_at test (y ∷ xs) (suc i) x e there = all_at test xs i x (and_parts (test y) (list_all test xs) e).1 there

pub numbered_slice : {A : Type 0} (xs : List A) (n : ℕ) (x : A) → numbered xs n ≡ Some x → slice_get xs (n - 1) ≡ Some x
numbered_slice xs n x e = by (n == 0) e
  where
    by : (b : Bool) → cond b None (slice_get xs (n - 1)) ≡ Some x → slice_get xs (n - 1) ≡ Some x
    by true g = absurd (cc)
    by false g = g

pub all_numbered : {A : Type 0} (test : A → Bool) (xs : List A) (n : ℕ) (x : A) → list_all test xs ≡ true → numbered xs n ≡ Some x → test x ≡ true
all_numbered test xs n x e there = all_at test xs (n - 1) x e (numbered_slice xs n x there)

pub any_weaker : {A : Type 0} (f g : A → Bool) (xs : List A) → ((x : A) → f x ≡ true → g x ≡ true) → list_any f xs ≡ true → list_any g xs ≡ true
any_weaker f g [] implies e = absurd (cc)
any_weaker {A} f g (x ∷ xs) implies e = by (f x) refl (any_weaker f g xs implies) e
  where
    by : (b : Bool) → f x ≡ b → (list_any f xs ≡ true → list_any g xs ≡ true) → (b || list_any f xs) ≡ true → (g x || list_any g xs) ≡ true
    by true is rest h = ap (λ c. c || list_any g xs) (implies x is)
    by false is rest h = or_right (g x) (list_any g xs) (rest h)

-- ---- properties of a table that has exactly these

pub record HasProperty (ps : List Property) (name : List ℕ) : Type 0 where
  pub property : Property
  pub index : ℕ
  pub there : slice_get ps index ≡ Some property
  pub few : index < 255
  pub named : property.name ≡ name
  pub number_is : property_number ps name ≡ index + 1
  pub numbered_is : numbered ps (property_number ps name) ≡ Some property

pub has_property : (ps : List Property) (wanted : Property) → length ps ≤ 64 → is_among ps wanted ≡ true → HasProperty ps wanted.name
has_property ps wanted few e =
    let any = any_weaker (λ other. is_property other wanted) (λ p. same p.name wanted.name) ps
    (λ p is. same_other p.name wanted.name ∙ (and_parts (same wanted.name p.name) (is_required wanted.need) (and_parts (same wanted.name p.name && is_required wanted.need) (same_kind wanted.kind p.kind) is).0).0) e in
    let found = found_any (λ p. same p.name wanted.name) ps any in
    let h = number_found (λ (p : Property). same p.name wanted.name) ps found.0 found.1 few in
    record { property = found.0; index = h.index; there = h.there; few = h.few; named = same_is (found.0).name wanted.name h.passes; number_is = h.number_is; numbered_is = h.numbered_is }

-- ---- kinds

pub same_kind_is : (a b : Kind) → same_kind a b ≡ true → a ≡ b
same_kind_is Int32 Int32 e = refl
same_kind_is Int64 Int64 e = refl
same_kind_is Truth Truth e = refl
same_kind_is Str Str e = refl
same_kind_is Raw Raw e = refl
same_kind_is Int32 Int64 e = absurd (cc)
same_kind_is Int32 Truth e = absurd (cc)
same_kind_is Int32 Str e = absurd (cc)
same_kind_is Int32 Raw e = absurd (cc)
same_kind_is Int64 Int32 e = absurd (cc)
same_kind_is Int64 Truth e = absurd (cc)
same_kind_is Int64 Str e = absurd (cc)
same_kind_is Int64 Raw e = absurd (cc)
same_kind_is Truth Int32 e = absurd (cc)
same_kind_is Truth Int64 e = absurd (cc)
same_kind_is Truth Str e = absurd (cc)
same_kind_is Truth Raw e = absurd (cc)
same_kind_is Str Int32 e = absurd (cc)
same_kind_is Str Int64 e = absurd (cc)
same_kind_is Str Truth e = absurd (cc)
same_kind_is Str Raw e = absurd (cc)
same_kind_is Raw Int32 e = absurd (cc)
same_kind_is Raw Int64 e = absurd (cc)
same_kind_is Raw Truth e = absurd (cc)
same_kind_is Raw Str e = absurd (cc)

-- only one of those that are wanted has the name
pub only_wanted : (before after : List Property) (wanted p : Property) → list_any (λ other. same p.name other.name) before ≡ false → list_any (λ other. same p.name other.name) after ≡ false
    → is_among (before ++ wanted ∷ after) p ≡ true → p.kind ≡ wanted.kind
only_wanted [] after wanted p none_before none_after e =
    by (is_property wanted p) refl (list_any (λ other. is_property other p) after) (none_of after none_after) e
  where
    none_of : (xs : List Property) → list_any (λ other. same p.name other.name) xs ≡ false → list_any (λ other. is_property other p) xs ≡ false
    none_of [] g = refl
    none_of (x ∷ xs) g = both (same p.name x.name) (list_any (λ other. same p.name other.name) xs) (none_of xs) g
      where
        both : (a b : Bool) → (b ≡ false → list_any (λ other. is_property other p) xs ≡ false) → (a || b) ≡ false
            → (((a && is_required p.need) && same_kind p.kind x.kind) || list_any (λ other. is_property other p) xs) ≡ false
        both true b rest h = absurd (cc)
        both false b rest h = rest h

    by : (b : Bool) → is_property wanted p ≡ b → (c : Bool) → c ≡ false → (b || c) ≡ true → p.kind ≡ wanted.kind
    by true is c none g = same_kind_is p.kind wanted.kind (and_parts (same p.name wanted.name && is_required p.need) (same_kind p.kind wanted.kind) is).1
    by false is true none g = absurd (cc)
    by false is false none g = absurd (cc)
only_wanted (x ∷ before) after wanted p none_before none_after e =
    by (same p.name x.name) (list_any (λ other. same p.name other.name) before) none_before (λ g. only_wanted before after wanted p g none_after) e
  where
    by : (a b : Bool) → (a || b) ≡ false → (b ≡ false → is_among (before ++ wanted ∷ after) p ≡ true → p.kind ≡ wanted.kind)
        → (((a && is_required p.need) && same_kind p.kind x.kind) || is_among (before ++ wanted ∷ after) p) ≡ true → p.kind ≡ wanted.kind
    by true b g rest h = absurd (cc)
    by false b g rest h = rest g h
