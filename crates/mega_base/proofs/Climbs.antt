-- How far a number climbs, step by step, and once a test is wider.
use Rattle.std.proofs.Common.{◌≡◌, ℕ, zero, suc, ◌+◌, ◌-◌, ◌<◌, ◌≤◌, Bool, true, false, cond, refl, sym, ap, ◌∙◌, arith}
use Rattle.mega_base.specs.Climbing.{climb}

next : (test : ℕ → Bool) (steps done from : ℕ) → done < steps → climb test (steps - done) from ≡ cond (test (from + 1)) (climb test (steps - (done + 1)) (from + 1)) from
next test steps done from lt = ap (λ n. climb test n from) (let e : steps - done ≡ suc (steps - (done + 1)) = omega arith in e) ∙ ap (λ n. cond (test n) (climb test (steps - (done + 1)) n) from) (let e : suc from ≡ from + 1 = omega arith in e)

pub climb_on : (test : ℕ → Bool) (steps done from goal : ℕ) → done < steps → climb test (steps - done) from ≡ goal → true ≡ test (from + 1) → climb test (steps - (done + 1)) (from + 1) ≡ goal
climb_on test steps done from goal lt is passes = ap (λ b. cond b (climb test (steps - (done + 1)) (from + 1)) from) passes ∙ (sym (next test steps done from lt) ∙ is)

pub climb_stop : (test : ℕ → Bool) (steps done from goal : ℕ) → done < steps → climb test (steps - done) from ≡ goal → false ≡ test (from + 1) → from ≡ goal
climb_stop test steps done from goal lt is stops = ap (λ b. cond b (climb test (steps - (done + 1)) (from + 1)) from) stops ∙ (sym (next test steps done from lt) ∙ is)

pub climb_end : (test : ℕ → Bool) (steps done from goal : ℕ) → steps ≤ done → climb test (steps - done) from ≡ goal → from ≡ goal
climb_end test steps done from goal le is = ap (λ n. climb test n from) (let e : 0 ≡ steps - done = omega arith in e) ∙ is

pub climb_same : (f g : ℕ → Bool) → ((n : ℕ) → f n ≡ g n) → (steps from : ℕ) → climb f steps from ≡ climb g steps from
climb_same f g alike zero from = refl
climb_same f g alike (suc steps) from = ap (λ test. cond test (climb f steps (suc from)) from) (alike (suc from)) ∙ ap (λ n. cond (g (suc from)) n from) (climb_same f g alike steps (suc from))

-- it climbs to no less than it began with
pub climb_up : (f : ℕ → Bool) (steps from : ℕ) → from ≤ climb f steps from
climb_up f zero from = omega arith
climb_up f (suc steps) from = step (f (suc from)) (climb_up f steps (suc from))
  where
    step : (test : Bool) → suc from ≤ climb f steps (suc from) → from ≤ cond test (climb f steps (suc from)) from
    step true h = omega arith
    step false h = omega arith

-- what it passed passes a wider test too
pub climb_skip : (f g : ℕ → Bool) → ((n : ℕ) → f n ≡ true → g n ≡ true) → (steps all from : ℕ) → steps ≤ all → climb g all from ≡ climb g (all - (climb f steps from - from)) (climb f steps from)
climb_skip f g wider zero all from le = ap (λ n. climb g n from) (let e : all ≡ all - (from - from) = omega arith in e)
climb_skip f g wider (suc steps) zero from le = absurd (omega arith)
climb_skip f g wider (suc steps) (suc all) from le = go (f (suc from)) refl (climb_skip f g wider steps all (suc from) (omega arith))
  where
    go : (test : Bool) → f (suc from) ≡ test → climb g all (suc from) ≡ climb g (all - (climb f steps (suc from) - suc from)) (climb f steps (suc from))
        → cond (g (suc from)) (climb g all (suc from)) from ≡ climb g (suc all - (cond test (climb f steps (suc from)) from - from)) (cond test (climb f steps (suc from)) from)
    go true t ih = ap (λ b. cond b (climb g all (suc from)) from) (wider (suc from) t) ∙ (ih ∙ ap (λ n. climb g n (climb f steps (suc from))) (let l = climb_up f steps (suc from) in let e : all - (climb f steps (suc from) - suc from) ≡ suc all - (climb f steps (suc from) - from) = omega arith in e))
    go false t ih = ap (λ n. climb g n from) (let e : suc all ≡ suc all - (from - from) = omega arith in e)
