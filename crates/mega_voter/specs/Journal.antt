-- What a voter's journal holds of what its node met.
use Rattle.std.specs.Prelude.{◌-◌, List, [], ◌∷◌, option_to_list, Option, Some}
use Rattle.std.specs.List.{cons_option}
use Rattle.mega_wire.specs.declared.message.Body.{Body}
use Rattle.mega_wal.specs.declared.item.JournalItem.{JournalItem}
use Rattle.mega_wal.specs.declared.item.JournalItem.TheVariants.{Start, Starts as Counted}
use Rattle.mega_rules.specs.Met.{Met, Starts, Sends, Unsends}
use Rattle.mega_rules.specs.Clock.{start_of}
use Rattle.mega_rules.specs.Kept.{kept_of_note}
pub use Rattle.mega_rules.specs.Kept.{kept_of_body as item_in}

abbrev pub items_in : Body → List JournalItem
items_in body = option_to_list (item_in body)

-- grants, lapses and decisions are kept, the promises and votes that were sent or that a crash left unsent, and how
-- many starts there were since the one before
abbrev pub item_of : List Met → Met → Option JournalItem
item_of before (Starts start) = Some (Counted (start - start_of before))
item_of before (Sends message) = item_in message.body
item_of before (Unsends message) = item_in message.body
item_of before other = kept_of_note other

abbrev pub journal_of : List Met → List JournalItem
journal_of [] = []
journal_of (one ∷ before) = cons_option (item_of before one) (journal_of before)

-- what a journal says but of starts
abbrev pub without_starts : List JournalItem → List JournalItem
without_starts [] = []
without_starts (Start ∷ before) = without_starts before
without_starts (Counted starts ∷ before) = without_starts before
without_starts (item ∷ before) = item ∷ without_starts before
