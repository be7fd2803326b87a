-- Logs that are opened over a journal tell what was met, where both say the same but of starts.
use Rattle.std.proofs.Common.{◌≡◌, ℕ, ◌+◌, ◌-◌, ◌==◌, ◌≤◌, min, cond, List, [], ◌∷◌, refl, sym, ap, subst, ◌∙◌, arith}
use Rattle.std.specs.List.{cons_option}
use Rattle.mega_base.specs.declared.names.GroupId.{GroupId}
use Rattle.mega_wire.specs.declared.message.Body.{Body}
use Rattle.mega_wire.specs.declared.message.Body.TheVariants.{Accepted, Promise as PromiseBody}
use Rattle.mega_wal.specs.declared.item.JournalItem.{JournalItem}
use Rattle.mega_wal.specs.declared.item.JournalItem.TheVariants.{Start, Promise, Accept, Decide, Grant, Lapse, Starts as Counted}
use Rattle.mega_wal.specs.declared.kept.Kept.{Kept}
use Rattle.mega_wal.specs.Acceptor.{Act, Promised, Voted, best, shown}
use Rattle.mega_wal.specs.History.{acts_of, after_grant, after_lapse, decided_of, first_of, granted_of, is_place, starts_of}
use Rattle.mega_wal.specs.Kept.{Represents, slot_of}
use Rattle.mega_wal.proofs.Greatest.{marks_same}
use Rattle.mega_rules.specs.Met.{Met, Starts, Sends, Unsends}
use Rattle.mega_rules.specs.Clock.{start_of}
use Rattle.mega_voter.specs.Journal.{item_in, journal_of, without_starts}
use Rattle.mega_voter.specs.Telling.{AreHonest, Tells}

-- ---- starts say nothing of places and nodes
pub acts_without : (items : List JournalItem) (group : GroupId) (n : ℕ) → acts_of items group n ≡ acts_of (without_starts items) group n
acts_without [] group n = refl
acts_without (Promise other position ballot ∷ items) group n = ap (λ (made : List Act). cond (is_place other position group n) (Promised ballot (best made) ∷ made) made) (acts_without items group n)
acts_without (Accept other position ballot entry ∷ items) group n = ap (λ (made : List Act). cond (is_place other position group n) (Voted ballot entry ∷ made) made) (acts_without items group n)
acts_without (_ ∷ items) group n = acts_without items group n

pub decided_without : (items : List JournalItem) (group : GroupId) (n : ℕ) → decided_of items group n ≡ decided_of (without_starts items) group n
decided_without [] group n = refl
decided_without (Decide other position entry ∷ items) group n = ap (λ o. cond (is_place other position group n) (first_of o entry) o) (decided_without items group n)
decided_without (_ ∷ items) group n = decided_without items group n

pub granted_without : (items : List JournalItem) (node : ℕ) → granted_of items node ≡ granted_of (without_starts items) node
granted_without [] node = refl
granted_without (Grant other epoch ∷ items) node = ap (λ o. cond (other.0 == node) (after_grant o epoch) o) (granted_without items node)
granted_without (Lapse other epoch ∷ items) node = ap (λ o. cond (other.0 == node) (after_lapse o epoch) o) (granted_without items node)
granted_without (_ ∷ items) node = granted_without items node

pub slots_without : (items : List JournalItem) (group : GroupId) (n : ℕ) → slot_of items group n ≡ slot_of (without_starts items) group n
slots_without items group n = λ i. record { promised = shown (acts_without items group n i); accepted = best (acts_without items group n i); decided = decided_without items group n i }

-- ---- starts are counted
pub starts_most : (items : List JournalItem) → starts_of items ≤ 4294967295
starts_most [] = omega arith
starts_most (Start ∷ items) = omega arith
starts_most (Counted starts ∷ items) = omega arith
starts_most (_ ∷ items) = starts_most items

no_start : (body : Body) (items : List JournalItem) → starts_of (cons_option (item_in body) items) ≡ starts_of items
no_start (PromiseBody op group position ballot report) items = refl
no_start (Accepted op group position ballot entry) items = refl
no_start _ items = refl

pub starts_is : (met : List Met) → AreHonest met → starts_of (journal_of met) ≡ min (start_of met) 4294967295
starts_is [] honest = omega arith
starts_is (Starts start ∷ met) honest = counted (starts_of (journal_of met)) (start_of met) start honest.0 (starts_is met honest.1)
  where
    counted : (kept before start : ℕ) → before ≤ start → kept ≡ min before 4294967295 → min (kept + (start - before)) 4294967295 ≡ min start 4294967295
    counted kept before start le is = omega arith
starts_is (Sends message ∷ met) honest = no_start message.body (journal_of met) ∙ starts_is met honest.1
starts_is (Unsends message ∷ met) honest = no_start message.body (journal_of met) ∙ starts_is met honest.1
starts_is (_ ∷ met) honest = starts_is met honest.1

pub opened_told : (kept : Kept) (items : List JournalItem) (met : List Met) → Represents kept items → without_starts items ≡ without_starts (journal_of met) → AreHonest met → kept.starts ≡ start_of met → Tells kept met
opened_told kept items met represents same honest start = record {
  journal = record {
    groups = record {
      slots = λ group n. represents.groups.slots group n ∙ slots group n;
      marks = λ group. represents.groups.marks group ∙ marks_same items (journal_of met) slots group;
    };
    granted = λ node. represents.granted node ∙ (granted_without items node ∙ (ap (λ rest. granted_of rest node) same ∙ sym (granted_without (journal_of met) node)));
    starts = start ∙ (within (start_of met) (subst (λ n. n ≤ 4294967295) (sym represents.starts ∙ start) (starts_most items)) ∙ sym (starts_is met honest));
  };
  honest = honest;
  start = start;
}
  where
    slots : (group : GroupId) (n : ℕ) → slot_of items group n ≡ slot_of (journal_of met) group n
    slots group n = slots_without items group n ∙ (ap (λ rest. slot_of rest group n) same ∙ sym (slots_without (journal_of met) group n))

    within : (n : ℕ) → n ≤ 4294967295 → n ≡ min n 4294967295
    within n le = omega arith
