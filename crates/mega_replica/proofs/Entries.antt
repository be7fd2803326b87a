-- The entries of a decided prefix, as they are found one by one.
use Rattle.std.proofs.Common.{◌≡◌, ℕ, zero, suc, ◌+◌, ◌-◌, ◌<◌, ◌≤◌, List, [], ◌∷◌, length, drop, Option, Some, None, sym, ap, ◌∙◌, subst, arith}
use Rattle.mega_base.specs.declared.names.GroupId.{GroupId}
use Rattle.mega_entry.specs.declared.content.Content.{Content}
use Rattle.mega_wal.specs.declared.item.JournalItem.{JournalItem}
use Rattle.mega_wal.specs.History.{decided_of, prefix_of}
use Rattle.mega_replica.specs.declared.progress.Progress.{Progress}
use Rattle.mega_replica.specs.Following.{IsPlace}
use Rattle.mega_replica.specs.Stored.{entries_from, log_in, then_more}

module _ (decided : ℕ → Option Content) where
  further : (most n e : ℕ) → e ≤ length (entries_from decided most n) → drop e (entries_from decided most n) ≡ entries_from decided (most - e) (n + e)
  further most n zero le =
      ap (λ m. entries_from decided m n) (let same : most ≡ most - 0 = omega arith in same) ∙ ap (entries_from decided (most - 0)) (let same : n ≡ n + 0 = omega arith in same)
  further zero n (suc e) le = absurd (let none : suc e ≤ 0 = le in omega (arith, none))
  further (suc most) n (suc e) le = by (further most (n + 1) e) (decided n) le
    where
      more : List Content
      more = entries_from decided most (n + 1)

      by : (e ≤ length more → drop e more ≡ entries_from decided (most - e) (n + 1 + e)) → (found : Option Content) → suc e ≤ length (then_more found more) → drop (suc e) (then_more found more) ≡ entries_from decided (suc most - suc e) (n + suc e)
      by later None below = absurd (let none : suc e ≤ 0 = below in omega (arith, none))
      by later (Some entry) below =
          later (let less : suc e ≤ suc (length more) = below in omega (arith, less))
          ∙ ap (λ m. entries_from decided m (n + 1 + e)) (let same : most - e ≡ suc most - suc e = omega arith in same)
          ∙ ap (entries_from decided (suc most - suc e)) (let same : n + 1 + e ≡ n + suc e = omega arith in same)

  few : (most n : ℕ) → length (entries_from decided most n) ≤ most
  few zero n = omega arith
  few (suc most) n = by (few most (n + 1)) (decided n)
    where
      by : length (entries_from decided most (n + 1)) ≤ most → (found : Option Content) → length (then_more found (entries_from decided most (n + 1))) ≤ suc most
      by le None = omega arith
      by le (Some entry) = let more : suc (length (entries_from decided most (n + 1))) ≤ suc most = omega (arith, le) in more

  begun : (most n e : ℕ) (entry : Content) → e ≤ length (entries_from decided most n) → e < most → decided (n + e) ≡ Some entry → drop e (entries_from decided most n) ≡ entry ∷ entries_from decided (most - (e + 1)) (n + e + 1)
  begun most n e entry le lt is =
      further most n e le
      ∙ ap (λ m. entries_from decided m (n + e)) (let same : most - e ≡ suc (most - (e + 1)) = omega (arith, lt) in same)
      ∙ ap (λ (found : Option Content). then_more found (entries_from decided (most - (e + 1)) (n + e + 1))) is

  ended : (most n e : ℕ) → e ≤ length (entries_from decided most n) → e < most → decided (n + e) ≡ None → drop e (entries_from decided most n) ≡ []
  ended most n e le lt is =
      further most n e le
      ∙ ap (λ m. entries_from decided m (n + e)) (let same : most - e ≡ suc (most - (e + 1)) = omega (arith, lt) in same)
      ∙ ap (λ (found : Option Content). then_more found (entries_from decided (most - (e + 1)) (n + e + 1))) is

  over : (most n e : ℕ) → e ≤ length (entries_from decided most n) → most ≤ e → drop e (entries_from decided most n) ≡ []
  over most n e le past = further most n e le ∙ ap (λ m. entries_from decided m (n + e)) (let same : most - e ≡ 0 = omega (arith, past) in same)

-- what follows the entry after so many
abbrev pub rest_in : List JournalItem → GroupId → ℕ → List Content
rest_in items group e = entries_from (decided_of items group) (prefix_of items group - (e + 1)) (1 + e + 1)

pub log_length : (items : List JournalItem) (group : GroupId) → length (log_in items group) ≤ prefix_of items group
log_length items group = few (decided_of items group) (prefix_of items group) 1

module _ (items : List JournalItem) (group : GroupId) (log : List Content) (is_log : log ≡ log_in items group) (p : Progress) (place : IsPlace p log) where
  below : p.entries ≤ length (log_in items group)
  below = subst (λ (entries : List Content). p.entries ≤ length entries) is_log place.entries

  one_on : decided_of items group (1 + p.entries) ≡ decided_of items group (p.entries + 1)
  one_on = ap (decided_of items group) (let same : 1 + p.entries ≡ p.entries + 1 = omega arith in same)

  pub next_is : (entry : Content) → p.entries < prefix_of items group → Some entry ≡ decided_of items group (p.entries + 1) → drop p.entries log ≡ entry ∷ rest_in items group p.entries
  next_is entry lt is = ap (drop p.entries) is_log ∙ begun (decided_of items group) (prefix_of items group) 1 p.entries entry below lt (one_on ∙ sym is)

  pub next_none : p.entries < prefix_of items group → None ≡ decided_of items group (p.entries + 1) → drop p.entries log ≡ []
  next_none lt is = ap (drop p.entries) is_log ∙ ended (decided_of items group) (prefix_of items group) 1 p.entries below lt (one_on ∙ sym is)

  pub past_end : prefix_of items group ≤ p.entries → drop p.entries log ≡ []
  past_end past = ap (drop p.entries) is_log ∙ over (decided_of items group) (prefix_of items group) 1 p.entries below past
