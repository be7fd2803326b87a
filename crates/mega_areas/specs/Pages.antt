-- A file of pages that belong to two areas in turn, of which one counts.
use Rattle.std.specs.Prelude.{ℕ, ◌+◌, ◌-◌, ◌*◌, ◌/◌, ◌%◌, Bool, not, ◌&&◌, ◌||◌, ◌==◌, nat_lt, nat_le, List, length, get_or, drop, map, replicate}
use Rattle.std.specs.List.{range_with_len}
use Rattle.byteorder.specs.Endian.{big_number}
use Rattle.mega_areas.specs.declared.area.Area.{Area}
use Rattle.mega_areas.specs.declared.area.Area.TheVariants.{Odd, Even}

-- the page with which an area begins; each second page from there on is of the area
abbrev pub first_page : Area → ℕ
first_page Odd = 1
first_page Even = 2

abbrev pub other_of : Area → Area
other_of Odd = Even
other_of Even = Odd

-- where a place of an area stands in the file, whose pages have 4,096 bytes
abbrev pub offset : Area → ℕ → ℕ
offset area place = 4096 * (2 * (place / 4096) + first_page area) + place % 4096

-- of how many pages each area has a whole one
abbrev pub pages_in : ℕ → ℕ
pages_in size = (size - 4096) / 8192

-- the length of a file with so many pages of each area
abbrev pub length_of_pages : ℕ → ℕ
length_of_pages pages = 4096 * (2 * pages + 1)

-- how many pages hold so many bytes
abbrev pub pages_for : ℕ → ℕ
pages_for bytes = (bytes + 4095) / 4096

-- the bytes of the area's pages, joined to one space
unfoldable pub space : Area → List ℕ → List ℕ
space area file = map (λ place. get_or file (offset area place) 0) (range_with_len 0 (4096 * pages_in (length file)))

-- an area begins with a gate and a generation
abbrev pub is_open : Area → List ℕ → Bool
is_open area file = get_or file (4096 * first_page area) 0 == 1

unfoldable pub generation_of : Area → List ℕ → ℕ
generation_of area file = big_number 8 (drop (4096 * first_page area + 1) file)

-- behind them stands its chain of records
abbrev pub chain_in : Area → List ℕ → List ℕ
chain_in area file = drop 9 (space area file)

-- which of two generations counts; of equal ones that of the odd pages
abbrev pub outranks : Area → ℕ → ℕ → Bool
outranks Odd mine other = nat_le other mine
outranks Even mine other = nat_lt other mine

-- the area counts: its gate is open, and that of the other is not, or its generation comes after the other's
abbrev pub counts : Area → List ℕ → Bool
counts area file = is_open area file && (not (is_open (other_of area) file) || outranks area (generation_of area file) (generation_of (other_of area) file))

-- the file begins with the mark of the areas: an open gate and three bytes
abbrev pub is_marked : List ℕ → Bool
is_marked file = not (get_or file 0 0 == 0) && ((get_or file 1 0 == 71) && ((get_or file 2 0 == 65) && (get_or file 3 0 == 50)))

-- the file is of two areas
abbrev pub is_areas : List ℕ → Bool
is_areas file = nat_le 12288 (length file) && is_marked file

-- so many zero bytes
unfoldable pub zero_bytes : ℕ → List ℕ
zero_bytes n = replicate n 0
