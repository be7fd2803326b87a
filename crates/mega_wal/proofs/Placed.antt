-- One place of one group changes.
use Rattle.std.proofs.Common.{◌≡◌, ℕ, ◌==◌, ◌&&◌, Bool, true, false, cond, Option, Some, None, [], refl, ap, ◌∙◌}
use Rattle.std.specs.Prelude.{unwrap_or, Result, Ok, Err, OnErr}
use Rattle.std.specs.Ordering.{nat_cmp}
use Rattle.std.specs.Map.{lookup}
use Rattle.std.specs.BTreeMap.{BTreeMap, get, is_at}
use Rattle.mega_base.specs.declared.names.GroupId.{GroupId}
use Rattle.mega_acceptor.specs.declared.slot.Slot.{Slot}
use Rattle.mega_wal.specs.declared.groups.Marks.{Marks}
use Rattle.mega_wal.specs.declared.groups.Log.{Log}
use Rattle.mega_wal.specs.History.{group_cmp}
use Rattle.mega_wal.specs.Kept.{Groups, Puts, Same, empty_slot, is_group, marks_at, marks_in, slot_at, slot_in}
use Rattle.mega_wal.proofs.Orders.{is_group_equal}

abbrev pub log_of : Groups → GroupId → Option Log
log_of groups group = get group_cmp groups group

abbrev pub found_in : Option Log → ℕ → Option Slot
found_in None m = None
found_in (Some log) m = get nat_cmp log.slots m

found_is : (was : Option Log) (m : ℕ) → unwrap_or (found_in was m) empty_slot ≡ slot_in was m
found_is None m = refl
found_is (Some log) m = refl

-- slots with the same entries are the same
pub entries_same : (slots was : BTreeMap ℕ Slot) → slots.entries ≡ was.entries → (m : ℕ) → get nat_cmp slots m ≡ get nat_cmp was m
entries_same slots was e m = ap (λ es. lookup (is_at (nat_cmp m)) es) e

pub none_found : (slots : BTreeMap ℕ Slot) → slots.entries ≡ [] → (m : ℕ) → get nat_cmp slots m ≡ None
none_found slots e m = ap (λ es. lookup (is_at (nat_cmp m)) es) e

module _ (old new : Groups) (group : GroupId) (log : Log) (was : Option Log) (there : was ≡ log_of old group) (sets : (other : GroupId) → log_of new other ≡ cond (is_group group other) (Some log) (log_of old other)) where
  pub log_puts : (n : ℕ) (slot : Slot) (marks : Marks) → ((m : ℕ) → get nat_cmp log.slots m ≡ cond (n == m) (Some slot) (found_in was m)) → log.marks ≡ marks → Puts old new group n slot marks
  log_puts n slot marks made marked = record { slots = slots; groups = groups }
    where
      at : (m : ℕ) (test : Bool) → unwrap_or (cond test (Some slot) (found_in was m)) empty_slot ≡ cond test slot (slot_in (log_of old group) m)
      at m true = refl
      at m false = found_is was m ∙ ap (λ o. slot_in o m) there

      go : (other : GroupId) (m : ℕ) (test : Bool) → is_group group other ≡ test → slot_in (cond test (Some log) (log_of old other)) m ≡ cond (test && n == m) slot (slot_at old other m)
      go other m true e = ap (λ o. unwrap_or o empty_slot) (made m) ∙ (at m (n == m) ∙ ap (λ g. cond (n == m) slot (slot_at old g m)) (is_group_equal group other e))
      go other m false e = refl

      slots : (other : GroupId) (m : ℕ) → slot_at new other m ≡ cond (is_group group other && n == m) slot (slot_at old other m)
      slots other m = ap (λ o. slot_in o m) (sets other) ∙ go other m (is_group group other) refl

      mark : (other : GroupId) (test : Bool) → marks_in (cond test (Some log) (log_of old other)) ≡ cond test marks (marks_at old other)
      mark other true = marked
      mark other false = refl

      groups : (other : GroupId) → marks_at new other ≡ cond (is_group group other) marks (marks_at old other)
      groups other = ap marks_in (sets other) ∙ mark other (is_group group other)

  pub log_same : ((m : ℕ) → get nat_cmp log.slots m ≡ found_in was m) → log.marks ≡ marks_in was → Same old new
  log_same made marked = record { slots = slots; marks = marks }
    where
      go : (other : GroupId) (m : ℕ) (test : Bool) → is_group group other ≡ test → slot_in (cond test (Some log) (log_of old other)) m ≡ slot_at old other m
      go other m true e = ap (λ o. unwrap_or o empty_slot) (made m) ∙ (found_is was m ∙ (ap (λ o. slot_in o m) there ∙ ap (λ g. slot_at old g m) (is_group_equal group other e)))
      go other m false e = refl

      slots : (other : GroupId) (m : ℕ) → slot_at new other m ≡ slot_at old other m
      slots other m = ap (λ o. slot_in o m) (sets other) ∙ go other m (is_group group other) refl

      mark : (other : GroupId) (test : Bool) → is_group group other ≡ test → marks_in (cond test (Some log) (log_of old other)) ≡ marks_at old other
      mark other true e = marked ∙ (ap marks_in there ∙ ap (marks_at old) (is_group_equal group other e))
      mark other false e = refl

      marks : (other : GroupId) → marks_at new other ≡ marks_at old other
      marks other = ap marks_in (sets other) ∙ mark other (is_group group other) refl

pub on_err : {T E : Type 0} (result : Result T E) (P : Type 0) → P → OnErr result P
on_err (Ok x) P p = tt
on_err (Err e) P p = p
