-- What a tape tells, looking back: here its newest item stands first, and what came before is the rest.
use Rattle.std.specs.Prelude.{◌≡◌, ℕ, ◌+◌, ◌==◌, ◌||◌, ◌&&◌, nat_le, Bool, false, List, [], ◌∷◌, ◌⊎◌}
use Rattle.mega_transcript.specs.declared.item.Item.{Item}
use Rattle.mega_transcript.specs.declared.item.Item.TheVariants.{Start, Unsent, Taken, Dropped, Sent, Crash, Cut, Unsafe}
pub use Rattle.mega_base.specs.ListWords.{onto}

-- the items of a stored tape, which has its oldest item first
abbrev pub newest : List Item → List Item
newest items = onto items []

-- how many messages were sent
abbrev pub sent_count : List Item → ℕ
sent_count [] = 0
sent_count (Sent number message ∷ before) = sent_count before + 1
sent_count (_ ∷ before) = sent_count before

-- whether the message of this number was taken
abbrev pub is_taken : List Item → ℕ → Bool
is_taken [] n = false
is_taken (Taken number ∷ before) n = (number == n) || is_taken before n
is_taken (_ ∷ before) n = is_taken before n

-- whether a message of this number was sent
abbrev pub is_sent : List Item → ℕ → Bool
is_sent tape n = nat_le 1 n && nat_le n (sent_count tape)

-- the item is a note of a node
abbrev pub IsNote : Item → Type 0
IsNote (Start node start) = ⊥
IsNote (Unsent node message) = ⊥
IsNote (Taken number) = ⊥
IsNote (Dropped number) = ⊥
IsNote (Sent number message) = ⊥
IsNote (Crash node) = ⊥
IsNote Cut = ⊥
IsNote Unsafe = ⊥
IsNote _ = Unit {0}

-- what may follow within a step: notes of the node, and messages, each with the next number
abbrev pub MayFollow : Item → List Item → Type 0
MayFollow (Sent number message) before = number ≡ sent_count before + 1
MayFollow item before = IsNote item

-- the second tape is the first with items that may follow within a step
abbrev pub Grows : List Item → List Item → Type 0
Grows before [] = before ≡ []
Grows before (item ∷ rest) = (before ≡ item ∷ rest) ⊎ (MayFollow item rest × Grows before rest)
