-- What is kept stays of the format.
use Rattle.std.proofs.Common.{◌≡◌, ℕ, List, ◌∷◌}
use Rattle.std.specs.Prelude.{None}
use Rattle.std.proofs.lemmas.List.Elements.{All-cons}
use Rattle.mega_wal.specs.declared.item.JournalItem.{JournalItem}
use Rattle.mega_wal.specs.declared.kept.Kept.{Kept}
use Rattle.mega_wal.specs.Compaction.{IsOfFormat}
use Rattle.mega_wal.specs.Items.{IsItem}
use Rattle.mega_wal.specs.Kept.{Represents}
use Rattle.mega_wal.specs.Records.{first_bad, history_of}
use Rattle.mega_wal.proofs.Formatted.{history_fits}

pub more_of_format : (old new : Kept) (item : JournalItem) → ((items : List JournalItem) → Represents old items → Represents new (item ∷ items)) → IsOfFormat old → IsItem item → IsOfFormat new
more_of_format old new item state was fits = record { items = item ∷ was.items; represents = state was.items was.represents; each = All-cons IsItem item was.items fits was.each }

pub still_of_format : (old new : Kept) → ((items : List JournalItem) → Represents old items → Represents new items) → IsOfFormat old → IsOfFormat new
still_of_format old new state was = record { items = was.items; represents = state was.items was.represents; each = was.each }

pub opened_of_format : (kept : Kept) (records : List (List ℕ)) → Represents kept (history_of records) → first_bad records ≡ None → IsOfFormat kept
opened_of_format kept records is good = record { items = history_of records; represents = is; each = history_fits records 1 good }
