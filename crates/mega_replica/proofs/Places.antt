-- How many writes are stored at a place of a log.
use Rattle.std.proofs.Common.{◌≡◌, ℕ, zero, suc, ◌+◌, ◌-◌, ◌<◌, ◌≤◌, Bool, true, false, cond, List, [], ◌∷◌, ◌++◌, length, get_or, take, drop, refl, sym, ap, ◌∙◌, subst, arith, nat_le}
use Rattle.std.specs.List.{sum_by}
use Rattle.std.proofs.lemmas.List.{take-append-drop, append-nil, drop-drop, length-drop, take-take, get_or-drop}
use Rattle.std.proofs.lemmas.List.Sums.{sum_by-take-le, sum_by_more}
use Rattle.std.proofs.lemmas.List.Concat.{length-flat_map}
use Rattle.std.proofs.lemmas.Bool.Decides.{nat_tests}
use Rattle.mega_entry.specs.declared.content.Content.{Content}
use Rattle.mega_replica.specs.Applying.{applied, writes_of, writes_through}
use Rattle.mega_replica.specs.declared.progress.Progress.{Progress}
use Rattle.mega_replica.specs.Following.{IsPlace, count_of, first_writes}
use Rattle.mega_replica.proofs.Writing.{through-cons}

abbrev size : Content → ℕ
size entry = length entry.writes

-- all writes of a log
abbrev total : List Content → ℕ
total log = length (writes_of log)

pub through_total : (e : ℕ) (log : List Content) → writes_through e log ≤ total log
through_total e log =
    let all = length-flat_map (λ (entry : Content). entry.writes) log in
    let le = sum_by-take-le size log e in
    omega (arith, all, le)

pub through_later : (a b : ℕ) (log : List Content) → a ≤ b → writes_through a log ≤ writes_through b log
through_later a b log le = subst (λ (front : List Content). sum_by size front ≤ writes_through b log) (take-take a b log le) (sum_by-take-le size (take b log) a)

module _ (log : List Content) (e : ℕ) where
  pub more_left : (entry : Content) (rest : List Content) → drop e log ≡ entry ∷ rest → e < length log
  more_left entry rest is =
      let size_is = length-drop e log in
      let some : length (drop e log) ≡ suc (length rest) = ap length is in
      omega (arith, size_is, some)

  next_at : (entry : Content) (rest : List Content) → drop e log ≡ entry ∷ rest → get_or log e entry ≡ entry
  next_at entry rest is =
      ap (λ n. get_or log n entry) (let same : e ≡ e + 0 = omega arith in same)
      ∙ sym (get_or-drop e log 0 entry) ∙ ap (λ (xs : List Content). get_or xs 0 entry) is

  pub drop_next : (entry : Content) (rest : List Content) → drop e log ≡ entry ∷ rest → drop (e + 1) log ≡ rest
  drop_next entry rest is = sym (drop-drop 1 e log) ∙ ap (λ (xs : List Content). drop 1 xs) is

  -- an entry is passed
  pub through_more : (entry : Content) (rest : List Content) → drop e log ≡ entry ∷ rest → writes_through (e + 1) log ≡ writes_through e log + length entry.writes
  through_more entry rest is = sum_by_more size log e entry (more_left entry rest is) ∙ ap (λ (c : Content). writes_through e log + length c.writes) (next_at entry rest is)

  -- all are passed
  pub through_end : drop e log ≡ [] → writes_through e log ≡ total log
  through_end is =
      ap (sum_by size) (sym (append-nil (take e log)) ∙ ap (λ (xs : List Content). take e log ++ xs) (sym is) ∙ take-append-drop e log)
      ∙ sym (length-flat_map (λ (entry : Content). entry.writes) log)

  pub place_next : (w : ℕ) (entry : Content) (rest : List Content) → drop e log ≡ entry ∷ rest → w ≤ length entry.writes → IsPlace (record { entries = e; writes = w }) log
  place_next w entry rest is le = record {
    entries = let lt = more_left entry rest is in omega (arith, lt);
    writes = subst (λ (xs : List Content). w ≤ length (first_writes xs)) (sym is) le;
  }

  pub place_passed : (entry : Content) (rest : List Content) → drop e log ≡ entry ∷ rest → IsPlace (record { entries = e + 1; writes = 0 }) log
  place_passed entry rest is = record {
    entries = let lt = more_left entry rest is in omega (arith, lt);
    writes = omega arith;
  }

-- of a place in a log that ends there no more is stored
pub place_end : (p : Progress) (log : List Content) → IsPlace p log → drop p.entries log ≡ [] → count_of p log ≡ total log
place_end p log place is =
    let none : p.writes ≤ 0 = subst (λ (xs : List Content). p.writes ≤ length (first_writes xs)) is place.writes in
    let all = through_end log p.entries is in
    omega (arith, none, all)

-- what is stored of the next entry is no more than it has
pub place_writes : (p : Progress) (log : List Content) (entry : Content) (rest : List Content) → IsPlace p log → drop p.entries log ≡ entry ∷ rest → p.writes ≤ length entry.writes
place_writes p log entry rest place is = subst (λ (xs : List Content). p.writes ≤ length (first_writes xs)) is place.writes

pub place_total : (p : Progress) (log : List Content) → IsPlace p log → count_of p log ≤ total log
place_total p log place = by (drop p.entries log) refl
  where
    by : (left : List Content) → drop p.entries log ≡ left → count_of p log ≤ total log
    by [] is = let all = place_end p log place is in omega (arith, all)
    by (entry ∷ rest) is =
        let some = place_writes p log entry rest place is in
        let next = through_more log p.entries entry rest is in
        let all = through_total (p.entries + 1) log in
        omega (arith, some, next, all)

-- ---- applied

applied_more : (test : Bool) (a : ℕ) → test ≡ true → cond test a 0 ≡ a
applied_more true a is = refl
applied_more false a is = absurd cc

is_le : (m n : ℕ) → m ≤ n → nat_le m n ≡ true
is_le m n le = grind (arith, nat_tests)

-- entries that are passed are applied
pub applied_from : (log : List Content) (e w : ℕ) → e ≤ length log → applied log (writes_through e log + w) ≡ e + applied (drop e log) w
applied_from log zero w le =
    ap (applied log) (let same : writes_through 0 log ≡ 0 = none log in let sum : writes_through 0 log + w ≡ w = omega (arith, same) in sum)
    ∙ (let same : applied log w ≡ 0 + applied log w = omega arith in same)
  where
    none : (xs : List Content) → writes_through 0 xs ≡ 0
    none [] = refl
    none (x ∷ xs) = refl
applied_from [] (suc e) w le = absurd (let none : suc e ≤ 0 = le in omega (arith, none))
applied_from (entry ∷ log) (suc e) w le =
    let more = through-cons e entry log in
    let count : ℕ = writes_through (suc e) (entry ∷ log) + w in
    applied_more (nat_le (length entry.writes) count) (1 + applied log (count - length entry.writes)) (is_le (length entry.writes) count (omega (arith, more)))
    ∙ ap (λ n. 1 + applied log n) (let left : count - length entry.writes ≡ writes_through e log + w = omega (arith, more) in left)
    ∙ ap (λ n. 1 + n) (applied_from log e w (let less : suc e ≤ suc (length log) = le in omega (arith, less)))
    ∙ (let same : 1 + (e + applied (drop e log) w) ≡ suc e + applied (drop e log) w = omega arith in same)

pub applied_stops : (log : List Content) (w : ℕ) (entry : Content) (rest : List Content) → log ≡ entry ∷ rest → w < length entry.writes → applied log w ≡ 0
applied_stops log w entry rest is lt = ap (λ (xs : List Content). applied xs w) is ∙ no (nat_le (length entry.writes) w) (1 + applied rest (w - length entry.writes)) (not_le (length entry.writes) w lt)
  where
    not_le : (m n : ℕ) → n < m → nat_le m n ≡ false
    not_le m n below = grind (arith, nat_tests)

    no : (test : Bool) (a : ℕ) → test ≡ false → cond test a 0 ≡ 0
    no true a e = absurd cc
    no false a e = refl

pub applied_goes_on : (log : List Content) (w : ℕ) (entry : Content) (rest : List Content) → log ≡ entry ∷ rest → length entry.writes ≤ w → applied log w ≡ 1 + applied rest (w - length entry.writes)
applied_goes_on log w entry rest is le = ap (λ (xs : List Content). applied xs w) is ∙ applied_more (nat_le (length entry.writes) w) (1 + applied rest (w - length entry.writes)) (is_le (length entry.writes) w le)
