-- How far a log is applied as more of it is stored.
use Rattle.std.proofs.Common.{◌≡◌, ℕ, zero, suc, ◌+◌, ◌-◌, ◌≤◌, nat_le, Bool, true, false, cond, List, [], ◌∷◌, length, refl, sym, subst, arith}
use Rattle.std.proofs.lemmas.Bool.Decides.{nat_tests}
use Rattle.std.proofs.lemmas.List.{length-append}
use Rattle.mega_entry.specs.declared.content.Content.{Content}
use Rattle.mega_replica.specs.Applying.{after_portion, after_read, applied, writes_of, writes_through}
use Rattle.mega_replica.proofs.Writing.{through-cons}

is_le : (a b : ℕ) → nat_le a b ≡ true → a ≤ b
is_le a b is = grind (arith, nat_tests)

le_is : (a b : ℕ) → a ≤ b → nat_le a b ≡ true
le_is a b le = grind (arith, nat_tests)

-- more stored is as much applied, or more
pub applied_more : (log : List Content) (stored more : ℕ) → stored ≤ more → applied log stored ≤ applied log more
applied_more [] stored more le = let none : 0 ≤ 0 = omega arith in none
applied_more (entry ∷ log) stored more le = by (nat_le (length entry.writes) stored) refl (applied_more log (stored - length entry.writes) (more - length entry.writes) (omega (arith, le)))
  where
    by : (t : Bool) → nat_le (length entry.writes) stored ≡ t → applied log (stored - length entry.writes) ≤ applied log (more - length entry.writes)
        → cond t (1 + applied log (stored - length entry.writes)) 0 ≤ cond (nat_le (length entry.writes) more) (1 + applied log (more - length entry.writes)) 0
    by true is rest =
        subst (λ (t : Bool). 1 + applied log (stored - length entry.writes) ≤ cond t (1 + applied log (more - length entry.writes)) 0)
        (sym (le_is (length entry.writes) more (let low = is_le (length entry.writes) stored is in omega (arith, low, le))))
        (omega (arith, rest))
    by false is rest = omega arith

pub applied_within : (log : List Content) (stored : ℕ) → applied log stored ≤ length log
applied_within [] stored = let none : 0 ≤ 0 = omega arith in none
applied_within (entry ∷ log) stored = by (nat_le (length entry.writes) stored) (applied_within log (stored - length entry.writes))
  where
    by : (t : Bool) → applied log (stored - length entry.writes) ≤ length log → cond t (1 + applied log (stored - length entry.writes)) 0 ≤ suc (length log)
    by true rest = omega (arith, rest)
    by false rest = omega arith

-- the writes of the first entries make them applied
through_applied : (p : ℕ) (log : List Content) → p ≤ length log → p ≤ applied log (writes_through p log)
through_applied zero log le = omega arith
through_applied (suc p) [] le = absurd (let none : suc p ≤ 0 = le in omega (arith, none))
through_applied (suc p) (entry ∷ log) le =
    subst (λ (count : ℕ). suc p ≤ applied (entry ∷ log) count) (sym (through-cons p entry log))
    (subst (λ (t : Bool). suc p ≤ cond t (1 + applied log (length entry.writes + writes_through p log - length entry.writes)) 0)
    (sym (le_is (length entry.writes) (length entry.writes + writes_through p log) (omega arith)))
    (subst (λ (left : ℕ). suc p ≤ 1 + applied log left)
    (let same : writes_through p log ≡ length entry.writes + writes_through p log - length entry.writes = omega arith in same)
    (let less : suc p ≤ suc (length log) = le in let rest = through_applied p log (omega (arith, less)) in omega (arith, rest))))

-- what a read stores

pub read_keeps : (p : ℕ) (log : List Content) (stored : ℕ) → stored ≤ after_read p log stored
read_keeps p log stored = omega arith

pub read_applies : (p : ℕ) (log : List Content) (stored : ℕ) → p ≤ length log → p ≤ applied log (after_read p log stored)
read_applies p log stored le =
    let needed = through_applied p log le in
    let more = applied_more log (writes_through p log) (after_read p log stored) (omega arith) in
    omega (arith, needed, more)

pub read_applied_keeps : (p : ℕ) (log : List Content) (stored : ℕ) → applied log stored ≤ applied log (after_read p log stored)
read_applied_keeps p log stored = applied_more log stored (after_read p log stored) (read_keeps p log stored)

through_within : (p : ℕ) (log : List Content) → writes_through p log ≤ length (writes_of log)
through_within zero [] = let none : 0 ≤ 0 = omega arith in none
through_within zero (entry ∷ log) = let none : 0 ≤ length (writes_of (entry ∷ log)) = omega arith in none
through_within (suc p) [] = let none : 0 ≤ 0 = omega arith in none
through_within (suc p) (entry ∷ log) =
    let first = through-cons p entry log in
    let rest = through_within p log in
    let all = length-append entry.writes (writes_of log) in
    omega (arith, first, rest, all)

pub read_within : (p : ℕ) (log : List Content) (stored : ℕ) → stored ≤ length (writes_of log) → after_read p log stored ≤ length (writes_of log)
read_within p log stored le = let through = through_within p log in omega (arith, le, through)

-- what a portion stores

pub portion_keeps : (most : ℕ) (log : List Content) (stored : ℕ) → stored ≤ length (writes_of log) → stored ≤ after_portion most log stored
portion_keeps most log stored le = omega (arith, le)

pub portion_applied_keeps : (most : ℕ) (log : List Content) (stored : ℕ) → stored ≤ length (writes_of log) → applied log stored ≤ applied log (after_portion most log stored)
portion_applied_keeps most log stored le = applied_more log stored (after_portion most log stored) (portion_keeps most log stored le)

pub portion_within : (most : ℕ) (log : List Content) (stored : ℕ) → after_portion most log stored ≤ length (writes_of log)
portion_within most log stored = omega arith
