-- The fuse of a device: how many calls it still makes before one fails and a crash follows.
use Rattle.std.specs.Prelude.{◌≡◌, ◌⊎◌, ℕ, zero, suc, ◌+◌, ◌-◌, ◌≤◌, ◌==◌, ◌&&◌, nat_lt, Bool, true, false, if◌then◌else◌, List, [], ◌∷◌, ◌++◌, Option, Some}

pub data Fuse : Type 0 where
  -- the device has no fuse, or says nothing of it
  Untold : Fuse
  Unset : Fuse
  Left : (calls : ℕ) → Fuse

-- after one call of the device: one less is left, and a fuse with none left is burnt and gone
abbrev pub after_call : Fuse → Fuse
after_call Untold = Untold
after_call Unset = Unset
after_call (Left zero) = Unset
after_call (Left (suc n)) = Left n

-- after a fuse is set, in place of one that was set before
abbrev pub set_to : ℕ → Fuse → Fuse
set_to calls Untold = Untold
set_to calls Unset = Left calls
set_to calls (Left n) = Left calls

-- after calls of the device that all went well, at least so many of them
abbrev pub LowersBy : ℕ → Fuse → Fuse → Type 0
LowersBy least Untold new = new ≡ Untold
LowersBy least Unset new = new ≡ Unset
LowersBy least (Left n) new = (m : ℕ) × (new ≡ Left m) × (m + least ≤ n)

-- after any calls of the device
abbrev pub MayBurn : Fuse → Fuse → Type 0
MayBurn Untold new = new ≡ Untold
MayBurn Unset new = new ≡ Unset
MayBurn (Left n) new = (new ≡ Unset) ⊎ ((m : ℕ) × (new ≡ Left m) × (m ≤ n))

-- a set fuse has burnt, and is gone
pub record Burns (old new : Fuse) : Type 0 where
  pub was_set : (n : ℕ) × (old ≡ Left n)
  pub gone : new ≡ Unset

-- One call of the device: it lowers a set fuse, and fails at a fuse with no call left. Where the device tells
-- whether its next call fails, it does as told.
pub record CountsCall (old new : Fuse) (fails : Option Bool) (Failed : Type 0) : Type 0 where
  pub lowers : new ≡ after_call old
  pub at_zero : old ≡ Left 0 → Failed
  pub told : fails ≡ Some true → Failed
  pub told_not : fails ≡ Some false → Failed → ⊥

-- a device that fails by its fuse alone goes on so, and fails where its fuse has no call left
pub record FailsByFuse (was is : Bool) (fuse : Fuse) (Failed : Type 0) : Type 0 where
  pub stays : was ≡ true → is ≡ true
  pub cause : was ≡ true → Failed → fuse ≡ Left 0

-- after an append that went well, where an append makes four calls
abbrev pub after_append : Fuse → Fuse
after_append Untold = Untold
after_append Unset = Unset
after_append (Left n) = Left (n - 4)

-- a fuse with fewer calls left than an append makes
abbrev pub is_short : Fuse → Bool
is_short Untold = false
is_short Unset = false
is_short (Left n) = nat_lt n 4

-- a fuse that burns in an append keeps its record where the last call but one, which opens the record's gate, was made, and the image keeps
-- what is pending
abbrev pub keeps_record : Fuse → ℕ → Bool
keeps_record Untold image = false
keeps_record Unset image = false
keeps_record (Left n) image = n == 3 && image == 1

-- the records after an append in which a fuse burnt
abbrev pub appended_by : Fuse → ℕ → List (List ℕ) → List ℕ → List (List ℕ)
appended_by fuse image records body = if keeps_record fuse image then records ++ body ∷ [] else records
