-- Powers of 256 within 64 bits.
use Rattle.std.proofs.Common.{◌≡◌, ℕ, zero, suc, ◌+◌, ◌-◌, ◌*◌, ◌^◌, ◌<◌, ◌≤◌, arith}
use Rattle.std.proofs.Math.Nat.{pow-suc, pow-le-pow_right}
use Rattle.mega_base.specs.Digits.{pow_256_pos}

pub pow_le : (k m : ℕ) → k ≤ m → 256 ^ k ≤ 256 ^ m
pow_le k m h = pow-le-pow_right {n = 256} (omega arith) {i = k} {j = m} h

-- a number of fewer than eight bytes
pub scale_fits : (k : ℕ) → k < 8 → 256 ^ k < 18446744073709551616
scale_fits k h = omega (arith, pow_le k 7 (omega arith))

-- one byte more after the first ones of a number of eight bytes
pub next_fits : (count top byte : ℕ) → count ≤ 8 → 0 < count → top < 256 ^ (8 - count) → byte < 256 → 256 * top + byte < 256 ^ (8 - (count - 1))
next_fits count top byte few some small h =
    let e : 8 - (count - 1) ≡ suc (8 - count) = omega arith in
    rw (e, pow-suc) (omega arith)

pub next_small : (count top byte : ℕ) → count ≤ 8 → 0 < count → top < 256 ^ (8 - count) → byte < 256 → 256 * top + byte < 18446744073709551616
next_small count top byte few some small h = omega (arith, next_fits count top byte few some small h, pow_le (8 - (count - 1)) 8 (omega arith))

pub pow_64_le : (k m : ℕ) → k ≤ m → 64 ^ k ≤ 64 ^ m
pow_64_le k m h = pow-le-pow_right {n = 64} (omega arith) {i = k} {j = m} h

pub tail_scale_fits : (k : ℕ) → k < 3 → 64 ^ k < 18446744073709551616
tail_scale_fits k h = omega (arith, pow_64_le k 2 (omega arith))

-- one byte more of a character
pub tail_next : (count top bits : ℕ) → count ≤ 3 → 0 < count → top < 256 * 64 ^ (3 - count) → bits < 64 → 64 * top + bits < 256 * 64 ^ (3 - (count - 1))
tail_next count top bits few some small h =
    let e : 3 - (count - 1) ≡ suc (3 - count) = omega arith in
    rw (e, pow-suc) (omega arith)

pub tail_small : (count top bits : ℕ) → count ≤ 3 → 0 < count → top < 256 * 64 ^ (3 - count) → bits < 64 → 64 * top + bits < 18446744073709551616
tail_small count top bits few some small h = omega (arith, tail_next count top bits few some small h, pow_64_le (3 - (count - 1)) 3 (omega arith))
