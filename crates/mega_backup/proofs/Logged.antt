-- The first entries of a decided log, position by position, and their text.
use Rattle.std.proofs.Common.{◌≡◌, ℕ, zero, suc, ◌+◌, ◌-◌, ◌<◌, ◌≤◌, List, [], ◌∷◌, ◌++◌, take, refl, ap, ◌∙◌, arith, Option, Some, None}
use Rattle.mega_base.specs.declared.names.GroupId.{GroupId}
use Rattle.mega_entry.specs.declared.content.Content.{Content}
use Rattle.mega_wal.specs.declared.item.JournalItem.{JournalItem}
use Rattle.mega_wal.specs.History.{decided_of, prefix_of}
use Rattle.mega_replica.specs.Stored.{entries_from, log_in, then_more}
use Rattle.mega_backup.specs.Texts.{entries_text, entry_line}

-- the first so many of more entries
pub first_from : (decided : ℕ → Option Content) (p most n : ℕ) → p ≤ most → take p (entries_from decided most n) ≡ entries_from decided p n
first_from decided zero zero n le = refl
first_from decided (suc p) zero n le = absurd (omega (arith, le))
first_from decided zero (suc most) n le = none (then_more (decided n) (entries_from decided most (n + 1)))
  where
    none : (entries : List Content) → take 0 entries ≡ []
    none [] = refl
    none (entry ∷ entries) = refl
first_from decided (suc p) (suc most) n le = by (decided n) (first_from decided p most (n + 1) (omega (arith, le)))
  where
    by : (found : Option Content) → take p (entries_from decided most (n + 1)) ≡ entries_from decided p (n + 1)
        → take (suc p) (then_more found (entries_from decided most (n + 1))) ≡ then_more found (entries_from decided p (n + 1))
    by None same = refl
    by (Some entry) same = ap (λ entries. entry ∷ entries) same

pub first_of_log : (items : List JournalItem) (group : GroupId) (p : ℕ) → p ≤ prefix_of items group → take p (log_in items group) ≡ entries_from (decided_of items group) p 1
first_of_log items group p le = first_from (decided_of items group) p (prefix_of items group) 1 le

-- the text of those from position n + 1 on, of so many in all
abbrev pub text_from : (ℕ → Option Content) → ℕ → ℕ → List ℕ
text_from decided most n = entries_text (entries_from decided (most - n) (n + 1))

pub text_all : (decided : ℕ → Option Content) (most : ℕ) → entries_text (entries_from decided most 1) ≡ text_from decided most 0
text_all decided most = ap (λ (m : ℕ). entries_text (entries_from decided m 1)) (let same : most ≡ most - 0 = omega arith in same)

part : (decided : ℕ → Option Content) (most n : ℕ) → n < most → text_from decided most n ≡ entries_text (then_more (decided (n + 1)) (entries_from decided (most - (n + 1)) (n + 1 + 1)))
part decided most n lt = ap (λ (m : ℕ). entries_text (entries_from decided m (n + 1))) (let same : most - n ≡ suc (most - (n + 1)) = omega (arith, lt) in same)

pub text_some : (decided : ℕ → Option Content) (most n : ℕ) (entry : Content) → n < most → decided (n + 1) ≡ Some entry → text_from decided most n ≡ entry_line entry ++ text_from decided most (n + 1)
text_some decided most n entry lt is = part decided most n lt ∙ ap (λ (found : Option Content). entries_text (then_more found (entries_from decided (most - (n + 1)) (n + 1 + 1)))) is

pub text_none : (decided : ℕ → Option Content) (most n : ℕ) → n < most → decided (n + 1) ≡ None → text_from decided most n ≡ []
text_none decided most n lt is = part decided most n lt ∙ ap (λ (found : Option Content). entries_text (then_more found (entries_from decided (most - (n + 1)) (n + 1 + 1)))) is
