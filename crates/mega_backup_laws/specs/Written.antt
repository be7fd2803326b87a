-- The lines of a backup, as a text is parted at its line feeds.
use Rattle.std.specs.Prelude.{◌≡◌, ℕ, nat_lt, Bool, true, List, [], ◌∷◌, ◌++◌, length, map, codes, decimal}
use Rattle.std.specs.List.{list_all}
use Rattle.hex.specs.Hex.{encode_lower}
use Rattle.mega_base.specs.declared.names.GroupId.{GroupId}
use Rattle.mega_entry.specs.declared.content.Content.{Content}
use Rattle.mega_entry.specs.Entries.{entry_text}

-- the head, and the line of an entry, without their line feeds
abbrev pub head_words : GroupId → ℕ → List ℕ
head_words group count = codes "backup " ++ (encode_lower group.key ++ 32 ∷ decimal count)

abbrev pub entry_words : Content → List ℕ
entry_words entry = codes "entry " ++ encode_lower (entry_text entry)

abbrev pub backup_lines : GroupId → List Content → List (List ℕ)
backup_lines group entries = head_words group (length entries) ∷ map entry_words entries

-- no line feed stands in it, nor a byte below one
abbrev pub is_above_feed : ℕ → Bool
is_above_feed c = nat_lt 10 c

abbrev pub HasNoFeed : List ℕ → Type 0
HasNoFeed line = list_all is_above_feed line ≡ true

-- lines as a text, each with a line feed behind it
abbrev pub lines_text : List (List ℕ) → List ℕ
lines_text [] = []
lines_text (line ∷ lines) = (line ++ 10 ∷ []) ++ lines_text lines
