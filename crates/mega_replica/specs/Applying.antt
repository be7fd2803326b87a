-- How far a node has stored the writes of a group's decided prefix, and what is applied then (CIDR 2011, write-ahead log).
use Rattle.std.specs.Prelude.{ℕ, ◌+◌, ◌-◌, min, max, if◌then◌else◌, nat_le, List, [], ◌∷◌, take, drop, length, flat_map, sum_by}
use Rattle.mega_entry.specs.declared.content.Write.{Write}
use Rattle.mega_entry.specs.declared.content.Content.{Content}

-- a log is the list of its entries, from position 1 on

-- the writes of a log, in order
abbrev pub writes_of : List Content → List Write
writes_of log = flat_map (λ (entry : Content). entry.writes) log

-- how many writes the first entries have
abbrev pub writes_through : ℕ → List Content → ℕ
writes_through position log = sum_by (λ (entry : Content). length entry.writes) (take position log)

-- a portion is the next `most` of them, or all that are left where these are fewer
abbrev pub after_portion : ℕ → List Content → ℕ → ℕ
after_portion most log stored = min (length (writes_of log)) (stored + most)

-- a read through a position stores all that it needs
abbrev pub after_read : ℕ → List Content → ℕ → ℕ
after_read position log stored = max stored (writes_through position log)

-- how many first entries have all their writes stored
abbrev pub applied : List Content → ℕ → ℕ
applied [] stored = 0
applied (entry ∷ log) stored = if nat_le (length entry.writes) stored then 1 + applied log (stored - length entry.writes) else 0

-- the writes that are stored
abbrev pub stored_writes : List Content → ℕ → List Write
stored_writes log stored = take stored (writes_of log)

-- the entries whose writes are all stored
abbrev pub applied_log : List Content → ℕ → List Content
applied_log log stored = take (applied log stored) log
