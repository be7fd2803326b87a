-- Cuts that are read one by one.
use Rattle.std.proofs.Common.{◌≡◌, ℕ, zero, suc, ◌+◌, ◌-◌, ◌<◌, ◌≤◌, ◌^◌, List, [], ◌∷◌, ◌++◌, length, refl, sym, ◌∙◌, ap, subst, Result, Ok, Err, arith, append_assoc, append-nil}
use Rattle.mega_base.specs.Reading.{Place, place, Read, ◌>>=◌}
use Rattle.mega_base.specs.Faults.{Reads}
use Rattle.mega_base.specs.declared.fault.FieldFault.{FieldFault}
use Rattle.mega_base.specs.declared.fault.FieldFault.TheVariants.{Malformed, NoMemory}
use Rattle.mega_base.proofs.Loops.{with_front}
use Rattle.mega_entry.specs.Entries.{cut_in, least_part, cuts_of, IsCutIn}
use Rattle.mega_entry.specs.EntryLaws.{cut_codec, least_part-le}
use Rattle.mega_entry.specs.declared.content.Cut.{Cut}

-- k cuts from low on are still to come, of that many writes and sends, behind those that are there
pub record Coming (k low writes sends : ℕ) (cuts : List Cut) (p : Place) (whole : Read (List Cut)) : Type 0 where
  pub read : with_front cuts (cuts_of k low writes sends p) ≡ whole
  pub room : low + k ≤ 16

goes_on : (k low writes sends : ℕ) (front : List Cut) (p : Place) (x : Cut) (q : Place) → cut_in low (15 - k) (least_part k writes) writes (least_part k sends) sends p ≡ Ok (x, q)
    → with_front front (cuts_of (suc k) low writes sends p) ≡ with_front (front ++ x ∷ []) (cuts_of k (x.index + 1) (writes - x.writes) (sends - x.sends) q)
unfolding cuts_of
goes_on k low writes sends front p x q h = rw h (joined (cuts_of k (x.index + 1) (writes - x.writes) (sends - x.sends) q))
  where
    joined : (r : Read (List Cut)) → with_front front (◌>>=◌ {B = List Cut × Place} r (λ xs. Ok (x ∷ xs.0, xs.1))) ≡ with_front (front ++ x ∷ []) r
    joined (Ok xs) = let e : front ++ x ∷ xs.0 ≡ (front ++ x ∷ []) ++ xs.0 = sym (append_assoc front (x ∷ []) xs.0) in rw e refl
    joined (Err at) = refl

ends : (k low writes sends : ℕ) (front : List Cut) (p : Place) (at : ℕ) → cut_in low (15 - k) (least_part k writes) writes (least_part k sends) sends p ≡ Err at
    → with_front front (cuts_of (suc k) low writes sends p) ≡ Err at
unfolding cuts_of
ends k low writes sends front p at h = rw h refl

is_done : (low writes sends : ℕ) (front : List Cut) (p : Place) → with_front front (cuts_of 0 low writes sends p) ≡ Ok (front, p)
unfolding cuts_of
is_done low writes sends front p = rw append-nil refl

-- the cut that was read is in its ranges
pub cut_ranges : (k low writes sends : ℕ) (p : Place) (x : Cut) (q : Place) → low + suc k ≤ 16 → writes < 2 ^ 32 → sends < 2 ^ 32 → cut_in low (15 - k) (least_part k writes) writes (least_part k sends) sends p ≡ Ok (x, q)
    → IsCutIn low (15 - k) (least_part k writes) writes (least_part k sends) sends x
cut_ranges k low writes sends p x q room wsmall ssmall h =
    ((cut_codec low (15 - k) (least_part k writes) writes (least_part k sends) sends (omega arith) (least_part-le k writes) wsmall (least_part-le k sends) ssmall).takes p x q h).1

pub cuts_step : (m k low writes sends : ℕ) (front : List Cut) (p : Place) (x : Cut) (q : Place) (whole : Read (List Cut)) → m ≡ suc k → writes < 2 ^ 32 → sends < 2 ^ 32
    → cut_in low (15 - k) (least_part k writes) writes (least_part k sends) sends p ≡ Ok (x, q)
    → Coming m low writes sends front p whole → Coming k (x.index + 1) (writes - x.writes) (sends - x.sends) (front ++ x ∷ []) q whole
cuts_step m k low writes sends front p x q whole e wsmall ssmall h c =
    let ranges = cut_ranges k low writes sends p x q (omega (arith, c.room, e)) wsmall ssmall h in
    record {
      read = sym (goes_on k low writes sends front p x q h) ∙ (ap (λ i. with_front front (cuts_of i low writes sends p)) (sym e) ∙ c.read);
      room = omega (arith, ranges.0.1, c.room, e);
    }

pub cuts_fail : (m k low writes sends : ℕ) (front : List Cut) (p q r : Place) (fault : FieldFault) (whole : Read (List Cut)) → m ≡ suc k
    → (let refusal : Result Cut FieldFault = Err fault in Reads refusal q (cut_in low (15 - k) (least_part k writes) writes (least_part k sends) sends p))
    → Coming m low writes sends front p whole → (let refusal : Result (List Cut) FieldFault = Err fault in Reads refusal r whole)
cuts_fail m k low writes sends front p q r (Malformed at) whole e h c = sym c.read ∙ (ap (λ i. with_front front (cuts_of i low writes sends p)) e ∙ ends k low writes sends front p at h)
cuts_fail m k low writes sends front p q r NoMemory whole e h c = tt

pub cuts_ready : (m low writes sends : ℕ) (front : List Cut) (p : Place) (whole : Read (List Cut)) → m ≡ 0 → Coming m low writes sends front p whole → whole ≡ Ok (front, p)
cuts_ready m low writes sends front p whole e c = sym c.read ∙ (ap (λ i. with_front front (cuts_of i low writes sends p)) e ∙ is_done low writes sends front p)
