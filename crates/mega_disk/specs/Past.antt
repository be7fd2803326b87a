-- What something in memory leaves, now and at the states of its past, the oldest first.
use Rattle.std.specs.Prelude.{◌⊎◌, ℕ, List, [], ◌∷◌, length, drop}
use mathlib.Core.Logic.{inl, inr}
use Rattle.mega_disk.specs.Images.{Elapses}

-- at one of these states
abbrev pub MightHaveLeft : {A X : Type 0} → (A → X → Type 0) → List A → X → Type 0
MightHaveLeft leaves [] image = ⊥
MightHaveLeft leaves (state ∷ past) image = leaves state image ⊎ MightHaveLeft leaves past image

-- now or at a state from that number on
abbrev pub LeftSince : {A X : Type 0} → (A → X → Type 0) → A → List A → ℕ → X → Type 0
LeftSince leaves state past t image = leaves state image ⊎ MightHaveLeft leaves (drop t past) image

-- time goes on from one state with its past to another
abbrev pub TimePasses : {A X : Type 0} → (A → X → Type 0) → A → List A → A → List A → Type 0
TimePasses leaves old past new later = Elapses (length past) (length later) (LeftSince leaves old past) (LeftSince leaves new later) (leaves new)

none_left : {A X : Type 0} (leaves : A → X → Type 0) (past : List A) (image : X) → MightHaveLeft leaves (drop (length past) past) image → ⊥
none_left leaves [] image had = had
none_left leaves (state ∷ past) image had = none_left leaves past image had

-- since the last of them there is what is there now
pub left_now : {A X : Type 0} (leaves : A → X → Type 0) (state : A) (past : List A) (image : X) → LeftSince leaves state past (length past) image → leaves state image
left_now leaves state past image (inl now) = now
left_now leaves state past image (inr had) = absurd (none_left leaves past image had)
