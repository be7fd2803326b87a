-- The order of versions, by key and position.
use Rattle.std.proofs.Common.{◌≡◌, ℕ, ◌<◌, ◌≤◌, List, [], ◌∷◌, ◌++◌, Bool, true, false, refl, sym, ◌∙◌, ap, arith}
use Rattle.std.specs.Prelude.{◌&&◌, nat_eq, nat_lt, ◌==◌, cond}
use Rattle.std.proofs.lemmas.Bool.Decides.{nat_tests}
use Rattle.std.proofs.lemmas.Map.Lookups.{exact_bytes}
use Rattle.std.specs.Cmp.Lexicographic.{slice_cmp, pointwise, texts_ties}
use Rattle.std.proofs.lemmas.Cmp.{then_total, on_total, nat_cmp_total, nat_list_cmp_total}
use Rattle.std.specs.Cmp.{IsTotalOrder}
use Rattle.std.specs.Ordering.{nat_cmp, is_lt, is_eq, ordering_reverse, ordering_then}
use Rattle.std.specs.declared.cmp.Ordering.{Ordering}
use Rattle.std.specs.declared.cmp.Ordering.TheVariants.{Less, Equal, Greater}
use Rattle.mega_runs.specs.declared.body.Version.{Version}
use Rattle.std.specs.Option.{option_map}
use Rattle.std.specs.List.{slice_get}
use Rattle.mega_runs.specs.Bodies.{Spot, spot_cmp, is_before, spot_of, ascends_from, ascends}
use Rattle.mega_runs.specs.Finding.{is_behind}

pub spots : IsTotalOrder spot_cmp
spots = then_total (on_total (λ (s : Spot). s.0) nat_list_cmp_total) (on_total (λ (s : Spot). s.1) nat_cmp_total)

less_order : (o : Ordering) → is_lt o ≡ true → o ≡ Less
less_order Less e = refl
less_order Equal e = absurd (cc)
less_order Greater e = absurd (cc)

pub before_less : (a b : Spot) → is_before a b ≡ true → spot_cmp a b ≡ Less
before_less a b e = less_order (spot_cmp a b) e

pub less_before : (a b : Spot) → spot_cmp a b ≡ Less → is_before a b ≡ true
less_before a b e = ap is_lt e

pub before_trans : (a b c : Spot) → is_before a b ≡ true → is_before b c ≡ true → is_before a c ≡ true
before_trans a b c x y = less_before a c (spots.trans a b c (before_less a b x) (before_less b c y))

-- what stands before one that is not behind stands before it too
pub before_not_behind : (u v x : Spot) → is_before u v ≡ true → is_before x v ≡ false → is_before u x ≡ true
before_not_behind u v x uv xv = go (spot_cmp x v) refl
  where
    go : (o : Ordering) → spot_cmp x v ≡ o → is_before u x ≡ true
    go Less e = absurd (let t : is_before x v ≡ true = ap is_lt e in cc)
    go Equal e = less_before u x (spots.antisymm u x ∙ ap ordering_reverse (spots.congr x v u e) ∙ sym (spots.antisymm u v) ∙ before_less u v uv)
    go Greater e = less_before u x (spots.trans u v x (before_less u v uv) (spots.antisymm v x ∙ ap ordering_reverse e))

-- ---- keys
equal_order : (o : Ordering) → is_eq o ≡ true → o ≡ Equal
equal_order Less e = absurd (cc)
equal_order Equal e = refl
equal_order Greater e = absurd (cc)

pub same_key : (a b : List ℕ) → pointwise nat_eq a b ≡ true → a ≡ b
same_key a b e = exact_bytes a b (equal_order (slice_cmp nat_cmp a b) (sym (texts_ties a b) ∙ e))

self_order : (o : Ordering) → o ≡ ordering_reverse o → is_eq o ≡ true
self_order Less h = absurd (cc)
self_order Equal h = refl
self_order Greater h = absurd (cc)

pub key_self : (a : List ℕ) → pointwise nat_eq a a ≡ true
key_self a = texts_ties a a ∙ self_order (slice_cmp nat_cmp a a) (nat_list_cmp_total.antisymm a a)

compare_self : (a : List ℕ) → slice_cmp nat_cmp a a ≡ Equal
compare_self a = equal_order (slice_cmp nat_cmp a a) (self_order (slice_cmp nat_cmp a a) (nat_list_cmp_total.antisymm a a))

-- of one key the positions decide
pub same_key_cmp : (key : List ℕ) (p q : ℕ) → spot_cmp (key, p) (key, q) ≡ nat_cmp p q
same_key_cmp key p q = ap (λ (o : Ordering). ordering_then o (nat_cmp p q)) (compare_self key)

nat_less : (p q : ℕ) → is_lt (nat_cmp p q) ≡ true → p < q
nat_less p q e = go (nat_lt p q) (p == q) refl e
  where
    go : (lt eq : Bool) → nat_lt p q ≡ lt → is_lt (cond lt Less (cond eq Equal Greater)) ≡ true → p < q
    go true eq t e = grind (arith, nat_tests)
    go false true t e = absurd (cc)
    go false false t e = absurd (cc)

nat_not_less : (p q : ℕ) → is_lt (nat_cmp p q) ≡ false → q ≤ p
nat_not_less p q e = go (nat_lt p q) (p == q) refl e
  where
    go : (lt eq : Bool) → nat_lt p q ≡ lt → is_lt (cond lt Less (cond eq Equal Greater)) ≡ false → q ≤ p
    go true eq t e = absurd (cc)
    go false eq t e = grind (arith, nat_tests)

pub position_before : (key : List ℕ) (p q : ℕ) → is_before (key, p) (key, q) ≡ true → p < q
position_before key p q e = nat_less p q (sym (ap is_lt (same_key_cmp key p q)) ∙ e)

pub position_not_before : (key : List ℕ) (p q : ℕ) → is_before (key, p) (key, q) ≡ false → q ≤ p
position_not_before key p q e = nat_not_less p q (sym (ap is_lt (same_key_cmp key p q)) ∙ e)

-- a version between two of one key has this key
pub between_key : (key other : List ℕ) (p q r : ℕ) → is_before (key, p) (other, q) ≡ true → is_before (key, r) (other, q) ≡ false → other ≡ key
between_key key other p q r lower upper = go (slice_cmp nat_cmp key other) refl lower upper
  where
    go : (o : Ordering) → slice_cmp nat_cmp key other ≡ o → is_lt (ordering_then o (nat_cmp p q)) ≡ true → is_lt (ordering_then o (nat_cmp r q)) ≡ false → other ≡ key
    go Less e l u = absurd (cc)
    go Equal e l u = sym (exact_bytes key other e)
    go Greater e l u = absurd (cc)

-- ---- lists
pub both : (a b : Bool) → a && b ≡ true → (a ≡ true) × (b ≡ true)
both true true is = (refl, refl)
both true false is = absurd (cc)
both false b is = absurd (cc)

pub ascends_tail : (v : Version) (vs : List Version) → ascends_from v vs ≡ true → ascends vs ≡ true
ascends_tail v [] e = refl
ascends_tail v (w ∷ vs) e = (both (is_before (spot_of v) (spot_of w)) (ascends_from w vs) e).1

pub ascends_behind : (pre vs : List Version) → ascends (pre ++ vs) ≡ true → ascends vs ≡ true
ascends_behind [] vs e = e
ascends_behind (v ∷ pre) vs e = ascends_behind pre vs (ascends_tail v (pre ++ vs) e)

-- each version stands before those that follow
pub before_later : (u : Version) (pre : List Version) (v : Version) (rest : List Version) → ascends_from u (pre ++ v ∷ rest) ≡ true → is_before (spot_of u) (spot_of v) ≡ true
before_later u [] v rest e = (both (is_before (spot_of u) (spot_of v)) (ascends_from v rest) e).0
before_later u (w ∷ pre) v rest e =
    let b = both (is_before (spot_of u) (spot_of w)) (ascends_from w (pre ++ v ∷ rest)) e in
    before_trans (spot_of u) (spot_of w) (spot_of v) b.0 (before_later w pre v rest b.1)

-- a version more at the front of those in order
pub next_ascends : (v : Version) (vs : List Version) → ascends (v ∷ vs) ≡ is_behind (spot_of v) (option_map spot_of (slice_get vs 0)) && ascends vs
next_ascends v [] = refl
next_ascends v (w ∷ vs) = refl
