-- The history that a list of records tells.
use Rattle.std.specs.Prelude.{ℕ, ◌+◌, Bool, if◌then◌else◌, List, [], ◌∷◌, ◌++◌, reverse, Option, Some, None, is_ok}
use Rattle.mega_base.specs.Reading.{whole_of}
pub use Rattle.mega_base.specs.ListWords.{items_or_none as read_items}
use Rattle.mega_wal.specs.declared.item.JournalItem.{JournalItem}
use Rattle.mega_wal.specs.Items.{record_at, record_text}

-- a record of the format, and its items
abbrev pub is_record : List ℕ → Bool
is_record body = is_ok (whole_of record_at body)

abbrev pub items_in : List ℕ → List JournalItem
items_in body = read_items (whole_of record_at body)

-- the items of records, the oldest record first, as a history, the newest item first
abbrev pub history_of : List (List ℕ) → List JournalItem
history_of [] = []
history_of (body ∷ later) = history_of later ++ reverse (items_in body)

-- the number of the first record that is none of the format, where the first of these has this number
abbrev pub bad_from : ℕ → List (List ℕ) → Option ℕ
bad_from number [] = None
bad_from number (body ∷ later) = if is_record body then bad_from (number + 1) later else Some number

-- the same, counted from 1
abbrev pub first_bad : List (List ℕ) → Option ℕ
first_bad records = bad_from 1 records

-- the records that a flush of these items makes
abbrev pub flushed : List JournalItem → List (List ℕ)
flushed [] = []
flushed (item ∷ items) = record_text (item ∷ items) ∷ []
