-- How many pages hold so many bytes.
use Rattle.std.proofs.Common.{◌≡◌, ℕ, ◌+◌, ◌*◌, ◌<◌, ◌≤◌, max, arith}
use Rattle.std.specs.Prelude.{◌%◌}
use Rattle.std.proofs.Math.Nat.{div-add-mod, mod-lt}
use Rattle.mega_areas.specs.Pages.{pages_for}

pub pages_fit : (n : ℕ) → (n ≤ 4096 * pages_for n) × (4096 * pages_for n < n + 4096)
pages_fit n = let a = div-add-mod (n + 4095) 4096 in let b : (n + 4095) % 4096 < 4096 = mod-lt (n + 4095) (omega arith) in (omega (arith, a, b), omega (arith, a, b))

pub most_fit : (pages n all some : ℕ) → some ≡ pages_for n → all ≡ max pages some → (n ≤ 4096 * all) × (pages ≤ all)
most_fit pages n all some is most = let f = pages_fit n in let e = f.0 in (omega (arith, e, is, most), omega (arith, most))
