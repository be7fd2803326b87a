-- Reads from a position on see the same after versions below it were let go, and so they do after further versions are put.
use Rattle.std.proofs.Common.{◌≡◌, ℕ, zero, suc, ◌≤◌, ◌<◌, ◌==◌, cond, Bool, true, false, Option, Some, List, refl, sym, ap, ◌∙◌, subst, arith, inl, inr}
use Rattle.std.proofs.lemmas.Bool.{cases_lt}
use Rattle.std.proofs.lemmas.Bool.Decides.{nat_tests}
use Rattle.mega_base.specs.declared.values.Row.{Row}
use Rattle.mega_disk.specs.VersionMaps.{Cleaned, Drops, IsAbove, Versions, or_else, version_at}
use Rattle.mega_rows.specs.Trims.{trimmed}
use Rattle.mega_rows.proofs.Trims.{floor_bound, trimmed_kept, trimmed_reads}
use Rattle.mega_clean_laws.specs.Keeping.{KeepsFrom, OneKey, put_at}

-- ---- what is let go

pub trimmed_keeps : (below : ℕ) (all : OneKey) → KeepsFrom below all (trimmed below all)
trimmed_keeps below all = record {
  versions = λ p le. trimmed_kept below all p (let low = floor_bound all below in omega (arith, low, le));
  reads = λ p le. trimmed_reads below all p le;
}

pub dropped_keeps : (cleaned : List Cleaned) (old new : Versions) (key : List ℕ) (below : ℕ) → Drops cleaned old new → ((p : ℕ) → below ≤ p → IsAbove cleaned key p) → KeepsFrom below (old key) (new key)
dropped_keeps cleaned old new key below drops above = record { versions = λ p le. drops.kept key p (above p le); reads = λ p le. drops.reads key p (above p le) }

pub keeps_higher : (below higher : ℕ) (all kept : OneKey) → KeepsFrom below all kept → below ≤ higher → KeepsFrom higher all (trimmed higher kept)
keeps_higher below higher all kept h le =
    let again = trimmed_keeps higher kept in
    record {
      versions = λ p low. again.versions p low ∙ h.versions p (omega (arith, le, low));
      reads = λ p low. again.reads p low ∙ h.reads p (omega (arith, le, low));
    }

-- ---- what is put

-- where the versions from a position on are the same, and what a read there sees, later reads see the same
reads_from : (below : ℕ) (f g : OneKey) → ((p : ℕ) → below ≤ p → f p ≡ g p) → version_at f below ≡ version_at g below → (p : ℕ) → below ≤ p → version_at f p ≡ version_at g p
unfolding version_at
reads_from below f g same first zero le = let none : below ≡ 0 = omega (arith, le) in subst (λ b. version_at f b ≡ version_at g b) none first
reads_from below f g same first (suc p) le = elim (cases_lt below (suc p)) [
  | inl lt ↦ λ i. or_else (same (suc p) le i) (reads_from below f g same first p (omega (arith, lt)) i)
  | inr top ↦ let is : below ≡ suc p = omega (arith, le, top) in subst (λ b. version_at f b ≡ version_at g b) is first
]

put_apart : (at : ℕ) (row : Option Row) (f : OneKey) (p : ℕ) → p < at → put_at at row f p ≡ f p
put_apart at row f p lt = ap (λ (t : Bool). cond t (Some row) (f p)) (other at p lt)
  where
    other : (a b : ℕ) → b < a → (a == b) ≡ false
    other a b lt = grind (arith, nat_tests)

-- a read below the new version sees what it saw
put_later : (at : ℕ) (row : Option Row) (f : OneKey) (p : ℕ) → p < at → version_at (put_at at row f) p ≡ version_at f p
unfolding version_at
put_later at row f zero lt = put_apart at row f zero lt
put_later at row f (suc p) lt = λ i. or_else (put_apart at row f (suc p) lt i) (put_later at row f p (omega (arith, lt)) i)

put_same : (at : ℕ) (row : Option Row) (f g : OneKey) (p : ℕ) → f p ≡ g p → put_at at row f p ≡ put_at at row g p
put_same at row f g p is = ap (λ (v : Option (Option Row)). cond (at == p) (Some row) v) is

-- what a read at the position sees
put_first : (below at : ℕ) (row : Option Row) (all kept : OneKey) → KeepsFrom below all kept → below ≤ at → version_at (put_at at row kept) below ≡ version_at (put_at at row all) below
unfolding version_at
put_first zero at row all kept h le = put_same at row kept all zero (h.versions zero (omega arith))
put_first (suc b) at row all kept h le = by (at == suc b) refl
  where
    below_it : b < at
    below_it = omega (arith, le)

    parted : (t : Bool) → (at == suc b) ≡ t → (f : OneKey) → version_at (put_at at row f) (suc b) ≡ or_else (cond t (Some row) (f (suc b))) (version_at f b)
    parted t e f = λ i. or_else (cond (e i) (Some row) (f (suc b))) (put_later at row f b below_it i)

    by : (t : Bool) → (at == suc b) ≡ t → version_at (put_at at row kept) (suc b) ≡ version_at (put_at at row all) (suc b)
    by true e = parted true e kept ∙ sym (parted true e all)
    by false e = parted false e kept ∙ h.reads (suc b) (omega arith) ∙ sym (parted false e all)

pub put_keeps : (below at : ℕ) (row : Option Row) (all kept : OneKey) → KeepsFrom below all kept → below ≤ at → KeepsFrom below (put_at at row all) (put_at at row kept)
put_keeps below at row all kept h le = record {
  versions = λ p low. put_same at row kept all p (h.versions p low);
  reads = reads_from below (put_at at row kept) (put_at at row all) (λ p low. put_same at row kept all p (h.versions p low)) (put_first below at row all kept h le);
}
