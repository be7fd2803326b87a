-- What the logs keep, by group and position, and what it has to do with the history.
use Rattle.std.specs.Prelude.{◌≡◌, ℕ, ◌-◌, ◌==◌, ◌&&◌, ◌||◌, max, nat_lt, Bool, if◌then◌else◌, List, Option, Some, None, is_some, unwrap_or}
use Rattle.std.specs.List.{filter_map}
use Rattle.std.specs.Ordering.{nat_cmp, is_eq}
use Rattle.std.specs.BTreeMap.{BTreeMap, get}
use Rattle.mega_base.specs.declared.names.GroupId.{GroupId}
use Rattle.mega_wal.specs.declared.item.JournalItem.{JournalItem}
use Rattle.mega_acceptor.specs.declared.slot.Slot.{Slot}
pub use Rattle.mega_acceptor.specs.Slots.{accepted_slot, decided_slot, empty_slot, promised_slot}
use Rattle.mega_wal.specs.declared.groups.Marks.{Marks}
use Rattle.mega_wal.specs.declared.groups.Log.{Log}
use Rattle.mega_wal.specs.declared.kept.Kept.{Kept}
use Rattle.mega_wal.specs.Acceptor.{best, shown}
use Rattle.mega_base.specs.Climbing.{climb}
use Rattle.mega_wal.specs.History.{acts_of, decided_of, granted_of, group_cmp, newest_of, prefix_of, starts_of, top_of}

abbrev pub is_group : GroupId → GroupId → Bool
is_group g h = is_eq (group_cmp g h)

abbrev pub Groups : Type 0
Groups = BTreeMap GroupId Log

abbrev pub no_marks : Marks
no_marks = record { top = 0; newest = 0; prefix = 0 }

-- what is kept of a place, in one group and in all
abbrev pub slot_in : Option Log → ℕ → Slot
slot_in None n = empty_slot
slot_in (Some log) n = unwrap_or (get nat_cmp log.slots n) empty_slot

abbrev pub slot_at : Groups → GroupId → ℕ → Slot
slot_at groups group n = slot_in (get group_cmp groups group) n

-- what is kept of a group
abbrev pub marks_in : Option Log → Marks
marks_in None = no_marks
marks_in (Some log) = log.marks

abbrev pub marks_at : Groups → GroupId → Marks
marks_at groups group = marks_in (get group_cmp groups group)

-- the groups with a decided position, in order
abbrev pub decided_group : GroupId × Log → Option GroupId
decided_group e = if nat_lt 0 e.1.marks.newest then Some e.0 else None

abbrev pub decided_groups : Groups → List GroupId
decided_groups groups = filter_map decided_group groups.entries

-- the position is decided, or is this one
abbrev pub is_decided_with : Groups → GroupId → ℕ → ℕ → Bool
is_decided_with groups group n m = n == m || is_some (slot_at groups group m).decided

-- what the marks become by a vote and by a decision
abbrev pub accepted_marks : Marks → ℕ → Marks
accepted_marks marks n = record { top = max marks.top n; newest = marks.newest; prefix = marks.prefix }

abbrev pub decided_marks : Groups → GroupId → Marks → ℕ → Marks
decided_marks groups group marks n = record {
  top = max marks.top n;
  newest = max marks.newest n;
  prefix = climb (is_decided_with groups group n) (max marks.newest n - marks.prefix) marks.prefix;
}

-- this slot and these marks stand at a place and its group, and all else is as it was
pub record Puts (old new : Groups) (group : GroupId) (n : ℕ) (slot : Slot) (marks : Marks) : Type 0 where
  pub slots : (other : GroupId) (m : ℕ) → slot_at new other m ≡ (if is_group group other && n == m then slot else slot_at old other m)
  pub groups : (other : GroupId) → marks_at new other ≡ (if is_group group other then marks else marks_at old other)

-- all is as it was
pub record Same (old new : Groups) : Type 0 where
  pub slots : (other : GroupId) (m : ℕ) → slot_at new other m ≡ slot_at old other m
  pub marks : (other : GroupId) → marks_at new other ≡ marks_at old other

-- what a history says of a place and of a group
abbrev pub slot_of : List JournalItem → GroupId → ℕ → Slot
slot_of items group n =
    record { promised = shown (acts_of items group n); accepted = best (acts_of items group n); decided = decided_of items group n }

abbrev pub marks_of : List JournalItem → GroupId → Marks
marks_of items group = record { top = top_of items group; newest = newest_of items group; prefix = prefix_of items group }

-- the groups are kept as this history says
pub record Holds (groups : Groups) (items : List JournalItem) : Type 0 where
  pub slots : (group : GroupId) (n : ℕ) → slot_at groups group n ≡ slot_of items group n
  pub marks : (group : GroupId) → marks_at groups group ≡ marks_of items group

-- what is kept is what this history says
pub record Represents (kept : Kept) (items : List JournalItem) : Type 0 where
  pub groups : Holds kept.groups items
  pub granted : (node : ℕ) → get nat_cmp kept.granted node ≡ granted_of items node
  pub starts : kept.starts ≡ starts_of items
