-- Two lists that are compared from a place on: where they agree so far, what is left decides.
use Rattle.std.proofs.Common.{◌≡◌, ℕ, zero, suc, ◌+◌, ◌<◌, ◌≤◌, true, List, [], ◌∷◌, ◌++◌, length, get_or, take, drop, take-append-drop, length-drop, refl, sym, ◌∙◌, ap, arith, min, nat_eq}
use Rattle.std.specs.Cmp.{ranked}
use Rattle.std.specs.Cmp.Lexicographic.{slice_cmp, pointwise, bytes_decides}
use Rattle.std.specs.declared.cmp.Ordering.{Ordering}
use Rattle.std.specs.declared.cmp.Ordering.TheVariants.{Less, Equal, Greater}
use Rattle.std.specs.Ordering.{nat_cmp, ordering_then, MatchOrdering}

-- the parts from a place on compare as the whole lists do
abbrev pub Rest : List ℕ → List ℕ → ℕ → Type 0
Rest xs ys i = slice_cmp nat_cmp (drop i xs) (drop i ys) ≡ slice_cmp nat_cmp xs ys

cut : (xs : List ℕ) (i x : ℕ) → i < length xs → x ≡ get_or xs i x → x ∷ drop (suc i) xs ≡ drop i xs
cut [] i x h e = absurd (omega arith)
cut (y ∷ ys) zero x h e = λ j. e j ∷ ys
cut (y ∷ ys) (suc i) x h e = cut ys i x (omega arith) e

-- what stands at the place, and then what is left
pub begun : (xs ys : List ℕ) (i x y : ℕ) → i < length xs → i < length ys → x ≡ get_or xs i x → y ≡ get_or ys i y
    → ordering_then (nat_cmp x y) (slice_cmp nat_cmp (drop (i + 1) xs) (drop (i + 1) ys)) ≡ slice_cmp nat_cmp (drop i xs) (drop i ys)
begun xs ys i x y h g e d =
    let s : i + 1 ≡ suc i = omega arith in
    (λ j. slice_cmp nat_cmp (x ∷ drop (s j) xs) (y ∷ drop (s j) ys)) ∙ (λ j. slice_cmp nat_cmp (cut xs i x h e j) (cut ys i y g d j))

-- of two lists one of which is empty the lengths decide
by_lengths : (us vs : List ℕ) (r : Ordering) → min (length us) (length vs) ≡ 0 → MatchOrdering r (length us < length vs) (length us ≡ length vs) (length vs < length us) → r ≡ slice_cmp nat_cmp us vs
by_lengths [] [] Less m h = let l : 0 < 0 = h in absurd (omega arith)
by_lengths [] [] Equal m h = refl
by_lengths [] [] Greater m h = let l : 0 < 0 = h in absurd (omega arith)
by_lengths [] (v ∷ vs) Less m h = refl
by_lengths [] (v ∷ vs) Equal m h = let e : 0 ≡ suc (length vs) = h in absurd (omega arith)
by_lengths [] (v ∷ vs) Greater m h = let l : suc (length vs) < 0 = h in absurd (omega arith)
by_lengths (u ∷ us) [] Less m h = let l : suc (length us) < 0 = h in absurd (omega arith)
by_lengths (u ∷ us) [] Equal m h = let e : suc (length us) ≡ 0 = h in absurd (omega arith)
by_lengths (u ∷ us) [] Greater m h = refl
by_lengths (u ∷ us) (v ∷ vs) r m h = let e : min (suc (length us)) (suc (length vs)) ≡ 0 = m in absurd (omega arith)

shifted : (a b i c d : ℕ) (r : Ordering) → i ≡ min a b → c + i ≡ a → d + i ≡ b → MatchOrdering r (a < b) (a ≡ b) (b < a) → MatchOrdering r (c < d) (c ≡ d) (d < c)
shifted a b i c d Less m p q h = let l : a < b = h in omega arith
shifted a b i c d Equal m p q h = let l : a ≡ b = h in omega arith
shifted a b i c d Greater m p q h = let l : b < a = h in omega arith

-- behind the end of the shorter one the lengths decide
pub ended : (xs ys : List ℕ) (i : ℕ) (r : Ordering) → i ≡ min (length xs) (length ys) → r ≡ nat_cmp (length xs) (length ys) → r ≡ slice_cmp nat_cmp (drop i xs) (drop i ys)
ended xs ys i r m h =
    let p = length-drop i xs in
    let q = length-drop i ys in
    by_lengths (drop i xs) (drop i ys) r (omega arith) (shifted (length xs) (length ys) i (length (drop i xs)) (length (drop i ys)) r m (omega arith) (omega arith) (ranked _ _ r h))

alike : (x : ℕ) → nat_cmp x x ≡ Equal
alike x = by_rank x x (nat_cmp x x) refl
  where
    by_rank : (x y : ℕ) (r : Ordering) → r ≡ nat_cmp x x → r ≡ Equal
    by_rank x y Less e = let l : x < x = ranked x x Less e in absurd (omega arith)
    by_rank x y Equal e = refl
    by_rank x y Greater e = let l : x < x = ranked x x Greater e in absurd (omega arith)

-- behind a front that both have the rest decides
front_alike : (front xs ys : List ℕ) → slice_cmp nat_cmp xs ys ≡ slice_cmp nat_cmp (front ++ xs) (front ++ ys)
front_alike [] xs ys = refl
front_alike (x ∷ front) xs ys = front_alike front xs ys ∙ ap (λ r. ordering_then r (slice_cmp nat_cmp (front ++ xs) (front ++ ys))) (sym (alike x))

pub behind_front : (n : ℕ) (xs ys front other behind after : List ℕ) → front ≡ take n xs → other ≡ take n ys → behind ≡ drop n xs → after ≡ drop n ys → pointwise nat_eq front other ≡ true
    → slice_cmp nat_cmp behind after ≡ slice_cmp nat_cmp xs ys
behind_front n xs ys front other behind after f o b a same =
    let is : front ≡ other = (bytes_decides front other).0 same in
    let left : front ++ behind ≡ xs = (λ i. f i ++ b i) ∙ take-append-drop n xs in
    let right : front ++ after ≡ ys = (λ i. is i ++ after) ∙ (λ i. o i ++ a i) ∙ take-append-drop n ys in
    front_alike front behind after ∙ (λ i. slice_cmp nat_cmp (left i) (right i))
