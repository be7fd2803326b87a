-- A state that is noted joins those of the past.
use Rattle.std.proofs.Common.{◌≡◌, ◌⊎◌, inl, inr, ⊎_elim, ℕ, zero, suc, ◌≤◌, List, [], ◌∷◌, ◌++◌, length, drop, refl, sym, subst, arith, length-append}
use Rattle.mega_disk.specs.Past.{MightHaveLeft, LeftSince, TimePasses}

module _ {A X : Type 0} (leaves : A → X → Type 0) where
  kept : (past : List A) (state : A) (c : X) → MightHaveLeft leaves past c → MightHaveLeft leaves (past ++ state ∷ []) c
  kept [] state c had = absurd had
  kept (first ∷ past) state c (inl here) = inl here
  kept (first ∷ past) state c (inr there) = inr (kept past state c there)

  added : (past : List A) (state : A) (c : X) → MightHaveLeft leaves (past ++ state ∷ []) c → MightHaveLeft leaves past c ⊎ leaves state c
  added [] state c (inl here) = inr here
  added [] state c (inr none) = absurd none
  added (first ∷ past) state c (inl here) = inl (inl here)
  added (first ∷ past) state c (inr there) = ⊎_elim (λ had. inl (inr had)) (λ now. inr now) (added past state c there)

  newest : (past : List A) (state : A) (c : X) → leaves state c → MightHaveLeft leaves (past ++ state ∷ []) c
  newest [] state c now = inl now
  newest (first ∷ past) state c now = inr (newest past state c now)

  drop_push : (t : ℕ) (past : List A) (state : A) → t ≤ length past → drop t (past ++ state ∷ []) ≡ drop t past ++ state ∷ []
  drop_push zero past state le = refl
  drop_push (suc t) [] state le = absurd (omega arith)
  drop_push (suc t) (first ∷ past) state le = drop_push t past state (omega arith)

  was : (old : A) (past : List A) (t : ℕ) (c : X) → MightHaveLeft leaves (drop t past) c ⊎ leaves old c → LeftSince leaves old past t c
  was old past t c (inl had) = inr had
  was old past t c (inr now) = inl now

  passes_push : (old new : A) (past : List A) → TimePasses leaves old past new (past ++ old ∷ [])
  passes_push old new past = record {
    later = omega (arith, length-append past (old ∷ []));
    nothing_else = λ t c le left. ⊎_elim (λ now. inr now) (λ had. inl (was old past t c (added (drop t past) old c (subst (λ (l : List A). MightHaveLeft leaves l c) (drop_push t past old le) had)))) left;
    keeps = λ t c le left. inr (subst (λ (l : List A). MightHaveLeft leaves l c) (sym (drop_push t past old le)) (⊎_elim (newest (drop t past) old c) (kept (drop t past) old c) left));
  }

  -- the old state was noted
  pub passes : (old new : A) (past later : List A) → later ≡ past ++ old ∷ [] → TimePasses leaves old past new later
  passes old new past later is = subst (λ (l : List A). TimePasses leaves old past new l) (sym is) (passes_push old new past)
