-- Names of messages that are known, by the groups of their senders.
use Rattle.std.specs.Prelude.{◌≡◌, ℕ, ◌||◌, Bool, false, List, map, Option, Some, None}
use Rattle.std.specs.Ordering.{nat_cmp, ordering_then}
use Rattle.std.specs.declared.cmp.Ordering.{Ordering}
use Rattle.std.specs.BTreeMap.{BTreeMap, get}
use Rattle.std.specs.BTreeSet.{BTreeSet, contains}
use Rattle.mega_base.specs.declared.names.GroupId.{GroupId}
use Rattle.mega_entry.specs.declared.content.Enter.{Enter}
use Rattle.mega_entry.specs.declared.content.Name.{Name}
use Rattle.mega_wal.specs.History.{group_cmp}
use Rattle.mega_wal.specs.Same.{same_name}
use Rattle.mega_rules.specs.Queues.{is_named}

-- a position of a sender, and a place there
abbrev pub Place : Type 0
Place = ℕ × ℕ

abbrev pub place_cmp : Place → Place → Ordering
place_cmp a b = ordering_then (nat_cmp a.0 b.0) (nat_cmp a.1 b.1)

abbrev pub Names : Type 0
Names = BTreeMap GroupId (BTreeSet Place)

abbrev pub is_in : Place → Option (BTreeSet Place) → Bool
is_in place None = false
is_in place (Some places) = contains place_cmp places place

abbrev pub is_known : Names → Name → Bool
is_known names name = is_in (name.position.0, name.place) (get group_cmp names name.group)

-- names become known, and none is lost
abbrev pub AddsAll : Names → Names → List Name → Type 0
AddsAll old new more = (name : Name) → is_known new name ≡ (is_known old name || is_named name more)

abbrev pub Adds : Names → Names → Name → Type 0
Adds old new one = (name : Name) → is_known new name ≡ (is_known old name || same_name name one)

abbrev pub names_of : List Enter → List Name
names_of messages = map (λ (message : Enter). message.name) messages
