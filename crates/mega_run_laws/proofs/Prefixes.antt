-- What a node decided grows, and its decided prefixes with it.
use Rattle.std.proofs.Common.{◌≡◌, ℕ, zero, suc, ◌+◌, ◌-◌, ◌==◌, ◌&&◌, ◌≤◌, ◌<◌, Bool, true, false, cond, List, ◌∷◌, length, Option, Some, None, refl, sym, ap, subst, arith}
use Rattle.mega_base.specs.declared.names.GroupId.{GroupId}
use Rattle.mega_entry.specs.declared.content.Content.{Content}
use Rattle.mega_wal.specs.Same.{same_group}
use Rattle.mega_tape_laws.specs.of_rules.Met.{Met, Decides}
use Rattle.mega_tape_laws.specs.of_rules.Logs.{decided, decided_from, first_of, prefix_of, then_more}

pub decided_more : (one : Met) (met : List Met) (g : GroupId) (n : ℕ) (e : Content) → decided met g n ≡ Some e → decided (one ∷ met) g n ≡ Some e
decided_more (Decides group position entry) met g n e h = go (same_group group g && position == n)
  where
    go : (t : Bool) → cond t (first_of (decided met g n) entry) (decided met g n) ≡ Some e
    go true = ap (λ o. first_of o entry) h
    go false = h
decided_more _ met g n e h = h

from_grows : (met more : List Met) (g : GroupId) → ((n : ℕ) (e : Content) → decided met g n ≡ Some e → decided more g n ≡ Some e)
    → (m k : ℕ) → m ≤ k → (n : ℕ) → length (decided_from met g m n) ≤ length (decided_from more g k n)
from_grows met more g h zero k le n = omega arith
from_grows met more g h (suc m) zero le n = absurd (omega arith)
from_grows met more g h (suc m) (suc k) le n = go (decided met g n) refl (from_grows met more g h m k (omega arith) (n + 1))
  where
    go : (o : Option Content) → decided met g n ≡ o → length (decided_from met g m (n + 1)) ≤ length (decided_from more g k (n + 1))
        → length (then_more o (decided_from met g m (n + 1))) ≤ length (then_more (decided more g n) (decided_from more g k (n + 1)))
    go None e rest = omega arith
    go (Some entry) e rest = subst (λ o. suc (length (decided_from met g m (n + 1))) ≤ length (then_more o (decided_from more g k (n + 1)))) (sym (h n entry e)) (omega (arith, rest))

pub prefix_more : (one : Met) (met : List Met) (g : GroupId) → prefix_of met g ≤ prefix_of (one ∷ met) g
prefix_more one met g = from_grows met (one ∷ met) g (decided_more one met g) (length met) (suc (length met)) (omega arith) 1

-- each position of the prefix is decided
pub record IsDecided (met : List Met) (g : GroupId) (n : ℕ) : Type 0 where
  pub entry : Content
  pub is : decided met g n ≡ Some entry

from_decided : (met : List Met) (g : GroupId) (m n k : ℕ) → k < length (decided_from met g m n) → IsDecided met g (n + k)
from_decided met g zero n k h = absurd (omega arith)
from_decided met g (suc m) n k h = go (decided met g n) refl h k (λ j below. from_decided met g m (n + 1) j below) h
  where
    later : (j : ℕ) → IsDecided met g ((n + 1) + j) → IsDecided met g (n + suc j)
    later j d = subst (IsDecided met g) (omega arith) d

    go : (o : Option Content) → decided met g n ≡ o → k < length (then_more (decided met g n) (decided_from met g m (n + 1))) → (i : ℕ)
        → ((j : ℕ) → j < length (decided_from met g m (n + 1)) → IsDecided met g ((n + 1) + j))
        → i < length (then_more (decided met g n) (decided_from met g m (n + 1))) → IsDecided met g (n + i)
    go None e below i again less = absurd (let none = subst (λ o. i < length (then_more o (decided_from met g m (n + 1)))) e less in omega (arith, none))
    go (Some entry) e below zero again less = subst (IsDecided met g) (omega arith) (record { entry = entry; is = e })
    go (Some entry) e below (suc i) again less = later i (again i (let some = subst (λ o. suc i < length (then_more o (decided_from met g m (n + 1)))) e less in omega (arith, some)))

pub prefix_decided : (met : List Met) (g : GroupId) (n : ℕ) → 0 < n → n ≤ prefix_of met g → IsDecided met g n
prefix_decided met g n above le = subst (IsDecided met g) (omega arith) (from_decided met g (length met) 1 (n - 1) (omega arith))

pub grew_by : (met more : List Met) → ((g : GroupId) (n : ℕ) (e : Content) → decided met g n ≡ Some e → decided more g n ≡ Some e) → length met ≤ length more → (g : GroupId) → prefix_of met g ≤ prefix_of more g
grew_by met more h le g = from_grows met more g (h g) (length met) (length more) le 1
