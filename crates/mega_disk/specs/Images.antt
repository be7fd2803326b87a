-- What the calls of a device do to its content, and what a crash may leave between two syncs.
use Rattle.std.specs.Prelude.{◌≡◌, ◌⊎◌, ℕ, ◌+◌, ◌≤◌, max, List, ◌++◌, length, take, drop}

-- the content with these bytes written at this offset
abbrev pub overwritten : ℕ → List ℕ → List ℕ → List ℕ
overwritten at bytes content = take at content ++ bytes ++ drop (at + length bytes) content

-- after a write of n bytes that a crash cuts short: any bytes in the range, also past the old end, the same elsewhere
pub record Torn (at n : ℕ) (old new : List ℕ) : Type 0 where
  pub before : take at new ≡ take at old
  pub after : drop (at + n) new ≡ drop (at + n) old
  pub no_shorter : length old ≤ length new
  pub no_longer : length new ≤ max (length old) (at + n)

-- after a cut to n bytes that is not on the disk yet: the first n bytes stand, and of what was behind them a front
pub record Cut (n : ℕ) (old new : List ℕ) : Type 0 where
  pub no_shorter : take n new ≡ take n old
  pub front : take (length new) old ≡ new

-- each new image is an old one after a step
abbrev pub Follows : {X : Type 0} → (X → X → Type 0) → (X → Type 0) → (X → Type 0) → Type 0
Follows {X} step old new = (c : X) → new c → (d : X) × old d × step d c

-- each new image is an old one
abbrev pub Within : {X : Type 0} → (X → Type 0) → (X → Type 0) → Type 0
Within {X} old new = (c : X) → new c → old c

-- a crash leaves this and nothing else
abbrev pub Only : {X : Type 0} → X → (X → Type 0) → Type 0
Only {X} content images = (c : X) → images c → c ≡ content

-- Time goes on: a crash since t might have left what it might have left before, or what it may leave now.
pub record Elapses {X : Type 0} (before now : ℕ) (past since : ℕ → X → Type 0) (may_leave : X → Type 0) : Type 0 where
  pub later : before ≤ now
  pub nothing_else : (t : ℕ) (c : X) → t ≤ before → since t c → past t c ⊎ may_leave c
  pub keeps : (t : ℕ) (c : X) → t ≤ before → past t c → since t c

-- A crash at any moment since old leaves an image that has P.
pub record LeavesOnly {D X : Type 0} (moment : D → ℕ) (left_since : D → ℕ → X → Type 0) (old new : D) (P : X → Type 0) : Type 0 where
  pub later : moment old ≤ moment new
  pub each : (c : X) → left_since new (moment old) c → P c
  -- for a run that began earlier
  pub before : (t : ℕ) (c : X) → t ≤ moment old → left_since new t c → left_since old t c ⊎ P c

-- what holds the same, and may leave the same, now and at each moment before
pub record SameImages {D X : Type 0} (moment : D → ℕ) (may_leave : D → X → Type 0) (left_since : D → ℕ → X → Type 0) (old new : D) : Type 0 where
  pub same_moment : moment new ≡ moment old
  pub now : (c : X) → may_leave new c → may_leave old c
  pub since : (t : ℕ) (c : X) → left_since new t c → left_since old t c
