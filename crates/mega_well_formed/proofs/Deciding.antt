-- When tests of one item after another decide of all, and how long the text of cuts is.
use Rattle.std.proofs.Common.{◌≡◌, ◌∙◌, ◌+◌, ◌-◌, ◌*◌, ◌<◌, ◌≤◌, ◌==◌, ℕ, List, [], ◌∷◌, ◌++◌, length, Bool, true, false, drop, get_or, cond, refl, ap, subst, sym, arith, length-append}
use Rattle.std.specs.Prelude.{sum_by, SomeIff}
use Rattle.std.specs.List.{All, flat_map}
use Rattle.std.proofs.lemmas.List.Elements.{All-cons, All-nil, All-tail}
use Rattle.std.proofs.lemmas.Bool.{false≢true}
use Rattle.std.proofs.lemmas.Bool.Decides.{nat_tests}
use Rattle.std.proofs.lemmas.List.{drop_all}
use Rattle.std.proofs.lemmas.List.Sums.{sum_by-cons, sum_by-drop_more}
use Rattle.mega_base.specs.Codec.{IsBetween, list_text, number_text}
use Rattle.mega_base.specs.Digits.{length_number_text}
use Rattle.mega_entry.specs.declared.content.Content.{Content}
use Rattle.mega_entry.specs.declared.content.Cut.{Cut}
use Rattle.mega_well_formed.proofs.Room.{at_place}
use Rattle.mega_entry.specs.Entries.{AreCuts, HasCuts, RisesFrom, cut_text, cuts_text, first_index}

-- what is still to be tested decides the whole
pub record Decides (IsRest IsWhole : Type 0) : Type 0 where
  pub there : IsRest → IsWhole
  pub back : IsWhole → IsRest

pub decides : (P : Type 0) → Decides P P
decides P = record { there = λ holds. holds; back = λ holds. holds }

-- ---- a test of each
pub all_step : {A : Type 0} (P : A → Type 0) (items : List A) (n : ℕ) (item : A) (W : Type 0) → n < length items → item ≡ get_or items n item → Decides (All P (drop n items)) W → P item → Decides (All P (drop (n + 1) items)) W
all_step P items n item W lt is before holds =
    let now = subst (λ rest. Decides (All P rest) W) (at_place items n item lt is) before in
    record { there = λ rest. now.there (All-cons P item (drop (n + 1) items) holds rest); back = λ whole. All-tail P item (drop (n + 1) items) (now.back whole) }

pub all_end : {A : Type 0} (P : A → Type 0) (items : List A) (n : ℕ) (W : Type 0) → length items ≤ n → Decides (All P (drop n items)) W → W
all_end P items n W le before = (subst (λ rest. Decides (All P rest) W) (drop_all n items le) before).there (All-nil P)

-- ---- numbers that add up
pub sum_step : (f : Cut → ℕ) (cuts : List Cut) (n : ℕ) (d : Cut) (left less : ℕ) (W : Type 0) → n < length cuts → Decides (sum_by f (drop n cuts) ≡ left) W → (f (get_or cuts n d) ≤ left) × (less ≡ left - f (get_or cuts n d))
    → Decides (sum_by f (drop (n + 1) cuts) ≡ less) W
sum_step f cuts n d left less W lt before taken =
    let more = sum_by-drop_more f cuts n d lt in
    record { there = λ rest. before.there (omega (arith, more, taken.0, taken.1, rest)); back = λ whole. omega (arith, more, taken.0, taken.1, before.back whole) }

pub sum_fails : (f : Cut → ℕ) (cuts : List Cut) (n : ℕ) (d : Cut) (left : ℕ) (W : Type 0) → n < length cuts → Decides (sum_by f (drop n cuts) ≡ left) W → (f (get_or cuts n d) ≤ left → ⊥) → (false ≡ true → W) × (W → false ≡ true)
sum_fails f cuts n d left W lt before never =
    let more = sum_by-drop_more f cuts n d lt in
    (λ is. absurd (false≢true is), λ whole. absurd (never (omega (arith, more, before.back whole))))

pub sum_end : (f : Cut → ℕ) (cuts : List Cut) (n left : ℕ) (W : Type 0) → length cuts ≤ n → Decides (sum_by f (drop n cuts) ≡ left) W → ((left == 0) ≡ true → W) × (W → (left == 0) ≡ true)
sum_end f cuts n left W le before = by left (subst (λ rest. Decides (sum_by f rest ≡ left) W) (drop_all n cuts le) before)
  where
    by : (left : ℕ) → Decides (0 ≡ left) W → ((left == 0) ≡ true → W) × (W → (left == 0) ≡ true)
    by left now = (λ is. now.there (grind (arith, nat_tests)), λ whole. grind (arith, nat_tests, now.back whole))

-- ---- few cuts, and their text
rising_few : (low : ℕ) (cuts : List Cut) → low ≤ 16 → RisesFrom low cuts → low + length cuts ≤ 16
rising_few low [] le rises = omega (arith, le)
rising_few low (cut ∷ cuts) le rises = let few = rising_few (cut.index + 1) cuts (omega (arith, rises.0.1)) rises.1 in omega (arith, few, rises.0.0)

least_few : (n : ℕ) → first_index n ≤ 16
least_few n = by (n == 1)
  where
    by : (test : Bool) → cond {A = ℕ} test 1 0 ≤ 16
    by true = omega arith
    by false = omega arith

pub cuts_few : (e : Content) (cuts : List Cut) → HasCuts e cuts → length cuts ≤ 16
cuts_few e [] has = omega arith
cuts_few e (cut ∷ cuts) has = let few = rising_few (first_index (length (cut ∷ cuts))) (cut ∷ cuts) (least_few (length (cut ∷ cuts))) has.3.rising in omega (arith, few)

cut_length : (cut : Cut) → length (cut_text cut) ≡ 9
cut_length cut = grind (arith, length-append, length_number_text)

flat_length : (cuts : List Cut) → length (flat_map cut_text cuts) ≡ 9 * length cuts
flat_length [] = omega arith
flat_length (cut ∷ cuts) = let rest = flat_length cuts in let one = cut_length cut in let both = length-append (cut_text cut) (flat_map cut_text cuts) in omega (arith, rest, one, both)

pub cuts_length : (cuts : List Cut) → 1 ≤ length cuts → length (cuts_text cuts) ≡ 4 + 9 * length cuts
cuts_length [] some = absurd (omega (arith, some))
cuts_length (cut ∷ cuts) some =
    let both = length-append (number_text 4 (length (cut ∷ cuts))) (flat_map cut_text (cut ∷ cuts)) in
    omega (arith, both, length_number_text 4 (length (cut ∷ cuts)), flat_length (cut ∷ cuts))
