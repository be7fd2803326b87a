-- How long a file of records is, and when its records are to be replaced.
use Rattle.std.specs.Prelude.{ℕ, ◌+◌, ◌-◌, ◌*◌, ◌^◌, max, Bool, false, ◌&&◌, nat_le, nat_lt, if◌then◌else◌}
use Rattle.mega_areas.specs.declared.area.Form.{Form}
use Rattle.mega_areas.specs.declared.area.Form.TheVariants.{Chain, InAreas}
use Rattle.mega_areas.specs.Pages.{length_of_pages, pages_for}

-- the pages that each area has
abbrev pub pages_of : Form → ℕ
pages_of Chain = 0
pages_of (InAreas areas) = areas.pages

-- what the end of the records stays below
abbrev pub limit_of : Form → ℕ
limit_of Chain = 2 ^ 63
limit_of (InAreas areas) = 4096 * areas.pages

-- the length of the file with a body of so many bytes behind the end
abbrev pub length_with : Form → ℕ → ℕ → ℕ
length_with Chain end size = end + 6 + size
length_with (InAreas areas) end size = length_of_pages (max areas.pages (pages_for (end + 15 + size)))

-- the length of the file with such a body in place of all
abbrev pub length_replaced : Form → ℕ → ℕ
length_replaced Chain size = 0
length_replaced (InAreas areas) size = length_of_pages (max areas.pages (pages_for (15 + size)))

-- the records behind the one that the last replacement left; the first generation had none
abbrev pub behind_replacement : ℕ → ℕ → ℕ
behind_replacement generation count = if nat_le generation 1 then count else count - 1

-- 4,096 records follow the last replacement, and there is a next generation
abbrev pub is_due : Form → ℕ → Bool
is_due Chain count = false
is_due (InAreas areas) count = nat_lt areas.generation (2 ^ 64 - 1) && nat_le 4096 (behind_replacement areas.generation count)

-- the pages that each area has with a body of so many bytes behind the end
abbrev pub pages_with : Form → ℕ → ℕ → ℕ
pages_with Chain end size = 0
pages_with (InAreas areas) end size = max areas.pages (pages_for (end + 15 + size))
