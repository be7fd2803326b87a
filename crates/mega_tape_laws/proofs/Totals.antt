-- How many numbers of a range pass a test; and how many one number more adds.
use Rattle.std.proofs.Common.{◌≡◌, ◌⊎◌, inl, inr, ℕ, zero, suc, ◌+◌, ◌<◌, ◌≤◌, Bool, true, false, cond, refl, ap, ◌∙◌, arith}

unfoldable pub total : (ℕ → Bool) → ℕ → ℕ → ℕ
total test from zero = 0
total test from (suc most) = cond (test from) 1 0 + total test (suc from) most

pub none_pass : (test : ℕ → Bool) (from most : ℕ) → ((k : ℕ) → test k ≡ false) → total test from most ≡ 0
unfolding total
none_pass test from zero f = refl
none_pass test from (suc most) f = ap (λ t. cond t 1 0 + total test (suc from) most) (f from) ∙ (let rest = none_pass test (suc from) most f in omega arith)

pub all_pass : (test : ℕ → Bool) (from most : ℕ) → ((k : ℕ) → k < most → test (from + k) ≡ true) → most ≤ total test from most
unfolding total
all_pass test from zero f = omega arith
all_pass test from (suc most) f = go (test from) (ap test (let same : from ≡ from + 0 = omega arith in same) ∙ f 0 (omega arith)) (all_pass test (suc from) most (λ k less. ap test (let same : suc from + k ≡ from + suc k = omega arith in same) ∙ f (suc k) (omega arith)))
  where
    go : (t : Bool) → t ≡ true → most ≤ total test (suc from) most → suc most ≤ cond t 1 0 + total test (suc from) most
    go true h rest = omega arith
    go false h rest = cc

-- a test that passes at one number more, below the range
no_more : (test more : ℕ → Bool) (m : ℕ) → ((k : ℕ) → more k ≡ true → (test k ≡ true) ⊎ (m ≡ k)) → (from most : ℕ) → m < from → total more from most ≤ total test from most
unfolding total
no_more test more m f from zero less = omega arith
no_more test more m f from (suc most) less = go (more from) (test from) (f from) (no_more test more m f (suc from) most (omega arith))
  where
    go : (s t : Bool) → (s ≡ true → (t ≡ true) ⊎ (m ≡ from)) → total more (suc from) most ≤ total test (suc from) most → cond s 1 0 + total more (suc from) most ≤ cond t 1 0 + total test (suc from) most
    go false true h rest = omega arith
    go false false h rest = omega arith
    go true true h rest = omega arith
    go true false h rest = elim (h refl) [ inl never ↦ absurd (let clashing = never in cc) | inr same ↦ absurd (omega arith) ]

pub one_more : (test more : ℕ → Bool) (m : ℕ) → ((k : ℕ) → more k ≡ true → (test k ≡ true) ⊎ (m ≡ k)) → (from most : ℕ) → total more from most ≤ suc (total test from most)
unfolding total
one_more test more m f from zero = omega arith
one_more test more m f from (suc most) = go (more from) (test from) (f from) (one_more test more m f (suc from) most) (no_more test more m f (suc from) most)
  where
    go : (s t : Bool) → (s ≡ true → (t ≡ true) ⊎ (m ≡ from)) → total more (suc from) most ≤ suc (total test (suc from) most) → (m < suc from → total more (suc from) most ≤ total test (suc from) most)
        → cond s 1 0 + total more (suc from) most ≤ suc (cond t 1 0 + total test (suc from) most)
    go false true h rest none = omega arith
    go false false h rest none = omega arith
    go true true h rest none = omega arith
    go true false h rest none = elim (h refl) [ inl never ↦ absurd (let clashing = never in cc) | inr same ↦ (let bound = none (omega arith) in omega arith) ]
