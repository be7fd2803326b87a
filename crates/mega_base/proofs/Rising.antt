-- Cells that are read one by one.
use Rattle.std.proofs.Common.{◌≡◌, ℕ, zero, suc, ◌+◌, ◌-◌, ◌<◌, ◌≤◌, List, [], ◌∷◌, ◌++◌, length, refl, sym, ◌∙◌, ap, subst, Result, Ok, Err, arith, append_assoc, append-nil}
use Rattle.mega_base.specs.Reading.{Place, place, Read, ◌>>=◌}
use Rattle.mega_base.specs.Values.{cell_in, cells_at}
use Rattle.mega_base.specs.ValueLaws.{cell_codec}
use Rattle.mega_base.specs.Faults.{Reads}
use Rattle.mega_base.specs.declared.values.Cell.{Cell}
use Rattle.mega_base.specs.declared.fault.FieldFault.{FieldFault}
use Rattle.mega_base.specs.declared.fault.FieldFault.TheVariants.{Malformed, NoMemory}
use Rattle.mega_base.proofs.Loops.{with_front}

-- k cells from low on are still to come, behind those that are there
pub record Coming (k low : ℕ) (cells : List Cell) (p : Place) (whole : Read (List Cell)) : Type 0 where
  pub read : with_front cells (cells_at k low p) ≡ whole
  pub room : low + k ≤ 256

goes_on : (k low : ℕ) (front : List Cell) (p : Place) (x : Cell) (q : Place) → cell_in low (255 - k) p ≡ Ok (x, q)
    → with_front front (cells_at (suc k) low p) ≡ with_front (front ++ x ∷ []) (cells_at k (x.property + 1) q)
unfolding cells_at
goes_on k low front p x q h = rw h (joined (cells_at k (x.property + 1) q))
  where
    joined : (r : Read (List Cell)) → with_front front (◌>>=◌ {B = List Cell × Place} r (λ xs. Ok (x ∷ xs.0, xs.1))) ≡ with_front (front ++ x ∷ []) r
    joined (Ok xs) = let e : front ++ x ∷ xs.0 ≡ (front ++ x ∷ []) ++ xs.0 = sym (append_assoc front (x ∷ []) xs.0) in rw e refl
    joined (Err at) = refl

ends : (k low : ℕ) (front : List Cell) (p : Place) (at : ℕ) → cell_in low (255 - k) p ≡ Err at → with_front front (cells_at (suc k) low p) ≡ Err at
unfolding cells_at
ends k low front p at h = rw h refl

is_done : (low : ℕ) (front : List Cell) (p : Place) → with_front front (cells_at 0 low p) ≡ Ok (front, p)
unfolding cells_at
is_done low front p = rw append-nil refl

pub cell_most : (k low : ℕ) (p : Place) (x : Cell) (q : Place) → low + suc k ≤ 256 → cell_in low (255 - k) p ≡ Ok (x, q) → x.property + 1 + k ≤ 256
cell_most k low p x q room h = omega (arith, ((cell_codec low (255 - k) (omega arith)).takes p x q h).1.0.1, room)

pub cells_step : (m k low : ℕ) (front : List Cell) (p : Place) (x : Cell) (q : Place) (whole : Read (List Cell)) → m ≡ suc k → cell_in low (255 - k) p ≡ Ok (x, q)
    → Coming m low front p whole → Coming k (x.property + 1) (front ++ x ∷ []) q whole
cells_step m k low front p x q whole e h c = record {
  read = sym (goes_on k low front p x q h) ∙ (ap (λ i. with_front front (cells_at i low p)) (sym e) ∙ c.read);
  room = cell_most k low p x q (omega (arith, c.room, e)) h;
}

pub cells_fail : (m k low : ℕ) (front : List Cell) (p q r : Place) (fault : FieldFault) (whole : Read (List Cell)) → m ≡ suc k
    → (let refusal : Result Cell FieldFault = Err fault in Reads refusal q (cell_in low (255 - k) p))
    → Coming m low front p whole → (let refusal : Result (List Cell) FieldFault = Err fault in Reads refusal r whole)
cells_fail m k low front p q r (Malformed at) whole e h c = sym c.read ∙ (ap (λ i. with_front front (cells_at i low p)) e ∙ ends k low front p at h)
cells_fail m k low front p q r NoMemory whole e h c = tt

pub cells_ready : (m low : ℕ) (front : List Cell) (p : Place) (whole : Read (List Cell)) → m ≡ 0 → Coming m low front p whole → whole ≡ Ok (front, p)
cells_ready m low front p whole e c = sym c.read ∙ (ap (λ i. with_front front (cells_at i low p)) e ∙ is_done low front p)
