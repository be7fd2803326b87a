-- What of a handler's writes and sends fits the schema and the group.
use Rattle.std.specs.Prelude.{ℕ, ◌+◌, ◌==◌, ◌&&◌, if◌then◌else◌, Bool, true, false, List, [], ◌∷◌, ◌++◌, length, take, filter, nat_le, is_ok, Option, Some, None, Ok, Err}
use Rattle.mega_row_writes.specs.of_entry.declared.content.Write.{Write}
use Rattle.mega_row_writes.specs.of_entry.declared.content.Send.{Send}
use Rattle.mega_row_writes.specs.of_entry.declared.content.Enter.{Enter}
use Rattle.mega_row_writes.specs.of_entry.declared.content.Cut.{Cut}
use Rattle.mega_row_writes.specs.of_entry.declared.content.Content.{Content}
use Rattle.mega_row_writes.specs.of_entry.Entries.{entry_text, entry_by}
use Rattle.mega_schema.specs.declared.schema.Table.{Table}
use Rattle.mega_schema.specs.declared.schema.Schema.{Schema}
use Rattle.mega_schema.specs.Shaping.{shape_of}
use Rattle.mega_keys.specs.Reading.{key_at, read_key_of}
use Rattle.mega_row_writes.specs.Rows.{Rows, same_key, written}
use Rattle.mega_index.specs.Fits.{numbered, group_of, stands_in}
use Rattle.mega_index.specs.LocalWrites.{index_writes}

-- the most bytes that an entry may have
abbrev pub most_bytes : ℕ
most_bytes = 32768

-- an operation's entry that holds these and nothing else; its length is the same for every operation, leader and position
abbrev pub entry_of : List Write → List Send → List Enter → List Cut → Content
entry_of writes sends enters cuts =
    record (entry_by (record { node = record { 0 = 1 }; start = 1; number = 1 })) { writes = writes; sends = sends; enters = enters; cuts = cuts }

-- the message as it is entered, sent from this group
abbrev pub entered : List ℕ → Send → Enter
entered group send = record {
  name = record { group = record { key = group }; position = record { 0 = 1 }; place = 0 };
  queue = send.queue;
  payload = send.payload;
}

-- the length of the entry that enters a message
abbrev pub enter_length : List ℕ → Send → ℕ
enter_length group send = length (entry_text (entry_of [] [] (entered group send ∷ []) []))

-- the bytes are the group of a root with this table number: at most 1,024, those of its row key but for the table's number at the end
abbrev pub is_root_group : Schema → ℕ → Option Table → List ℕ → Bool
is_root_group s n None group = false
is_root_group s n (Some t) group = (t.root == n) && nat_le (length group) 1024 && is_ok (key_at (shape_of s n t) (group ++ n ∷ []))

-- the bytes are a group of the schema
abbrev pub is_group : Schema → List ℕ → Bool
is_group s [] = false
is_group s (n ∷ bytes) = is_root_group s n (numbered s.tables n) (n ∷ bytes)

-- a queue's name has 1 to 64 bytes
abbrev pub is_queue : List ℕ → Bool
is_queue queue = nat_le 1 (length queue) && nat_le (length queue) 64

-- a send goes to a group of the schema, under a name that a queue may have
abbrev pub send_fits : Schema → Send → Bool
send_fits s send = is_group s (send.to).key && is_queue send.queue

-- the key is a row key of the table, of this group
abbrev pub is_key_of : Schema → ℕ → Table → List ℕ → List ℕ → Bool
is_key_of s n t group key =
    elim (read_key_of (shape_of s n t) key) [ Ok values ↦ elim (group_of s n t values) [ Ok own ↦ same_key own group | _ ↦ false ] | _ ↦ false ]

-- the number of the table of which the key is a row key in this group; the tables are numbered from n on
abbrev pub table_in : Schema → ℕ → List Table → List ℕ → List ℕ → Option ℕ
table_in s n [] group key = None
table_in s n (t ∷ ts) group key = if is_key_of s n t group key then Some n else table_in s (n + 1) ts group key

abbrev pub table_of : Schema → List ℕ → List ℕ → Option ℕ
table_of s group key = table_in s 1 (take 64 s.tables) group key

-- a deletion is kept under any row key of the group, a row under its own and where it fits
abbrev pub is_kept : Schema → ℕ → Write → Bool
is_kept s n write = elim write.row [ None ↦ true | Some row ↦ stands_in s n (numbered s.tables n) write.key row ]

-- the write with its local index writes, against the rows before it, where it is kept
abbrev pub kept_write : Schema → Option ℕ → Rows → Write → List Write
kept_write s None rows write = []
kept_write s (Some n) rows write = if is_kept s n write then write ∷ index_writes s n (rows write.key) write.row else []

-- the writes that are kept, each on what the earlier ones left
abbrev pub fitted_writes : Schema → List ℕ → Rows → List Write → List Write
fitted_writes s group rows [] = []
fitted_writes s group rows (write ∷ writes) =
    kept_write s (table_of s group write.key) rows write
    ++ fitted_writes s group (written (kept_write s (table_of s group write.key) rows write) rows) writes

-- the sends that are kept: those that fit, and whose message can be entered
abbrev pub fitted_sends : Schema → List ℕ → List Send → List Send
fitted_sends s group sends = filter (λ send. send_fits s send && nat_le (enter_length group send) most_bytes) sends
