-- Which messages wait for whom, by the numbers that are kept of each receiver.
use Rattle.std.specs.Prelude.{ℕ, ◌==◌, Bool, false, List, slice_get, Option, Some, None}
use Rattle.std.specs.Ordering.{nat_cmp}
use Rattle.std.specs.BTreeSet.{BTreeSet, contains}

abbrev pub has_number : Option (BTreeSet ℕ) → ℕ → Bool
has_number None n = false
has_number (Some numbers) n = contains nat_cmp numbers n

-- a message is kept as one that waits for this receiver
abbrev pub waits_for : List (BTreeSet ℕ) → ℕ → ℕ → Bool
waits_for waiting to n = has_number (slice_get waiting to) n

-- this is the receiver of a message, if one was sent
abbrev pub is_receiver : Option ℕ → ℕ → Bool
is_receiver None other = false
is_receiver (Some to) other = to == other
