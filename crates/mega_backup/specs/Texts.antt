-- The lines that a backup of a group writes: a head that says how many entries follow, and then each entry.
use Rattle.std.specs.Prelude.{ℕ, List, [], ◌∷◌, ◌++◌, codes, decimal}
use Rattle.hex.specs.Hex.{encode_lower}
use Rattle.mega_base.specs.declared.names.GroupId.{GroupId}
use Rattle.mega_entry.specs.declared.content.Content.{Content}
use Rattle.mega_entry.specs.Entries.{entry_text}

-- the group in hex, and the number of entries
abbrev pub head_line : GroupId → ℕ → List ℕ
head_line group count = codes "backup " ++ (encode_lower group.key ++ 32 ∷ (decimal count ++ 10 ∷ []))

-- the entry's text in hex
abbrev pub entry_line : Content → List ℕ
entry_line entry = codes "entry " ++ (encode_lower (entry_text entry) ++ 10 ∷ [])

abbrev pub entries_text : List Content → List ℕ
entries_text [] = []
entries_text (entry ∷ entries) = entry_line entry ++ entries_text entries

-- a backup with so many entries, which are these
abbrev pub backup_text : GroupId → ℕ → List Content → List ℕ
backup_text group count entries = head_line group count ++ entries_text entries
