-- The two forms of a file of records: a chain, or two areas, of which one counts.
use Rattle.std.specs.Prelude.{ℕ, Bool, if◌then◌else◌, List, [], ◌∷◌, ◌++◌, length}
use Rattle.std.specs.Int.{to_be_bytes, w32}
use Rattle.byteorder.specs.Endian.{big_bytes}
use Rattle.mega_journal.specs.Chain.{records_of}
use Rattle.mega_areas.specs.declared.area.Area.TheVariants.{Odd, Even}
use Rattle.mega_areas.specs.Pages.{chain_in, counts, is_areas, is_marked}

-- the records of the area that counts
abbrev pub area_records : List ℕ → List (List ℕ)
area_records file = if counts Odd file then records_of (chain_in Odd file) else (if counts Even file then records_of (chain_in Even file) else [])

-- the records that a file holds
unfoldable pub list_of : List ℕ → List (List ℕ)
list_of file = if is_areas file then area_records file else records_of file

-- what stands behind the gate of an area that holds one record
abbrev pub replacing : ℕ → List ℕ → List ℕ
replacing generation body = big_bytes 8 generation ++ (1 ∷ (to_be_bytes w32 (length body) ++ (body ++ 0 ∷ [])))

-- a record with a body of this length would begin as a file of areas does
abbrev pub spells_mark : ℕ → Bool
spells_mark size = is_marked (1 ∷ to_be_bytes w32 size)
