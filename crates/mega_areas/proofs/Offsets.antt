-- Where the bytes of an area stand.
use Rattle.std.proofs.Common.{◌≡◌, ℕ, ◌+◌, ◌-◌, ◌*◌, ◌<◌, ◌≤◌, arith}
use Rattle.std.specs.Prelude.{◌/◌, ◌%◌}
use Rattle.std.proofs.Math.Nat.{div-add-mod, mod-lt}
use Rattle.mega_areas.specs.declared.area.Area.{Area}
use Rattle.mega_areas.specs.declared.area.Area.TheVariants.{Odd, Even}
use Rattle.mega_areas.specs.Pages.{first_page, offset, other_of}

-- a place is that many pages and bytes
pub record Parted (place : ℕ) : Type 0 where
  pub whole : 4096 * (place / 4096) + place % 4096 ≡ place
  pub below : place % 4096 < 4096

pub parted : (place : ℕ) → Parted place
parted place = record { whole = div-add-mod place 4096; below = mod-lt place (omega arith) }

-- within a page the offsets follow one another
pub within_page : (area : Area) (place j : ℕ) → place % 4096 + j < 4096 → offset area (place + j) ≡ offset area place + j
within_page area place j fits = let p = parted place in let q = parted (place + j) in
    let a = p.whole in let b = p.below in let c = q.whole in let d = q.below in omega (arith, a, b, c, d, fits)

-- and the first page has its places in order
pub front_offset : (area : Area) (place : ℕ) → place < 4096 → offset area place ≡ 4096 * first_page area + place
front_offset area place less = let p = parted place in let a = p.whole in let b = p.below in omega (arith, a, b, less)

pub ascends : (area : Area) (p q : ℕ) → p < q → offset area p < offset area q
ascends area p q less = let a = (parted p).whole in let b = (parted p).below in let c = (parted q).whole in let d = (parted q).below in omega (arith, a, b, c, d, less)

pub apart : (area : Area) (p q : ℕ) → offset area p ≡ offset (other_of area) q → ⊥
apart Odd p q same = let a = (parted p).whole in let b = (parted p).below in let c = (parted q).whole in let d = (parted q).below in omega (arith, a, b, c, d, same)
apart Even p q same = let a = (parted p).whole in let b = (parted p).below in let c = (parted q).whole in let d = (parted q).below in omega (arith, a, b, c, d, same)

-- behind the first page
pub behind_head : (area : Area) (p : ℕ) → 4096 ≤ offset area p
behind_head Odd p = let a = (parted p).whole in omega (arith, a)
behind_head Even p = let a = (parted p).whole in omega (arith, a)

-- within so many pages the offsets lie in the file
pub inside : (area : Area) (place pages : ℕ) → place < 4096 * pages → offset area place < 4096 * (2 * pages + 1)
inside Odd place pages less = let a = (parted place).whole in let b = (parted place).below in omega (arith, a, b, less)
inside Even place pages less = let a = (parted place).whole in let b = (parted place).below in omega (arith, a, b, less)

-- the places of a page follow its first one
pub page_offset : (area : Area) (page place : ℕ) → 4096 * page ≤ place → place < 4096 * page + 4096 → offset area place ≡ 4096 * (2 * page + first_page area) + (place - 4096 * page)
page_offset area page place le less = let p = parted place in let a = p.whole in let b = p.below in omega (arith, a, b, le, less)
