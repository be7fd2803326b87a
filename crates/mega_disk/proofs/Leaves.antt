-- How runs of calls go on: what a crash at any moment leaves.
use Rattle.std.proofs.Common.{inl, inr, ⊎_elim, ℕ, arith}
use Rattle.mega_disk.specs.Images.{Elapses, LeavesOnly}

module _ {D X : Type 0} (moment : D → ℕ) (left_since : D → ℕ → X → Type 0) where
  -- before the first call
  pub started : (old : D) (P : X → Type 0) → ((c : X) → left_since old (moment old) c → P c) → LeavesOnly moment left_since old old P
  started old P here = record { later = omega arith; each = here; before = λ t c le left. inl left }

  -- one call more, after which a crash leaves what has P
  pub goes_on : (old mid new : D) (P may_leave : X → Type 0) → LeavesOnly moment left_since old mid P → Elapses (moment mid) (moment new) (left_since mid) (left_since new) may_leave
      → ((c : X) → may_leave c → P c) → LeavesOnly moment left_since old new P
  goes_on old mid new P may_leave so_far time here = record {
    later = omega (arith, so_far.later, time.later);
    each = λ c left. ⊎_elim (so_far.each c) (here c) (time.nothing_else (moment old) c so_far.later left);
    before = λ t c le left. ⊎_elim (so_far.before t c le) (λ now. inr (here c now)) (time.nothing_else t c (omega (arith, le, so_far.later)) left);
  }

  -- one run after another
  pub then_leaves : (old mid new : D) (P Q R : X → Type 0) → LeavesOnly moment left_since old mid P → LeavesOnly moment left_since mid new Q
      → ((c : X) → P c → R c) → ((c : X) → Q c → R c) → LeavesOnly moment left_since old new R
  then_leaves old mid new P Q R first second p q = record {
    later = omega (arith, first.later, second.later);
    each = λ c left. ⊎_elim (λ past. p c (first.each c past)) (q c) (second.before (moment old) c first.later left);
    before = λ t c le left. ⊎_elim (λ past. ⊎_elim inl (λ x. inr (p c x)) (first.before t c le past)) (λ x. inr (q c x)) (second.before t c (omega (arith, le, first.later)) left);
  }

  pub weaker_leaves : (old new : D) (P R : X → Type 0) → LeavesOnly moment left_since old new P → ((c : X) → P c → R c) → LeavesOnly moment left_since old new R
  weaker_leaves old new P R run p = record {
    later = run.later;
    each = λ c left. p c (run.each c left);
    before = λ t c le left. ⊎_elim inl (λ x. inr (p c x)) (run.before t c le left);
  }
