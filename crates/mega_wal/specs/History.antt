-- The history of a voter: the items of its journal that it ever kept or staged, the newest first, and what they say.
use Rattle.std.specs.Prelude.{◌≡◌, ℕ, zero, suc, ◌+◌, ◌==◌, ◌&&◌, max, min, Bool, true, false, if◌then◌else◌, List, [], ◌∷◌, Option, Some, None, is_some}
use Rattle.std.specs.Prelude.{◌<◌, All}
use Rattle.std.specs.List.{list_any}
use Rattle.std.specs.List.Sorted.{IsStrictlySortedBy}
use Rattle.std.specs.Ordering.{nat_cmp}
use Rattle.std.specs.declared.cmp.Ordering.{Ordering}
use Rattle.std.specs.Cmp.Lexicographic.{slice_cmp}
use Rattle.mega_base.specs.declared.names.Epoch.{Epoch}
use Rattle.mega_base.specs.Climbing.{climb}
use Rattle.mega_base.specs.declared.names.GroupId.{GroupId}
use Rattle.mega_base.specs.declared.names.Position.{Position}
pub use Rattle.mega_base.specs.NameOrder.{is_epoch_below, is_same_epoch}
use Rattle.mega_acceptor.specs.of_entry.declared.content.Content.{Content}
use Rattle.mega_wal.specs.declared.item.JournalItem.{JournalItem}
use Rattle.mega_wal.specs.declared.item.JournalItem.TheVariants.{Start, Promise, Accept, Decide, Grant, Lapse, Starts}
use Rattle.mega_acceptor.specs.of_entry.Same.{same_group}
pub use Rattle.mega_acceptor.specs.Slots.{first_of}
use Rattle.mega_wal.specs.Acceptor.{Act, Promised, Voted, best}
use Rattle.mega_wal.specs.declared.answers.Promised.{Promised as PromiseAnswer}
use Rattle.mega_wal.specs.declared.answers.Promised.TheVariants as promise
use Rattle.mega_wal.specs.declared.answers.Voted.{Voted as AcceptAnswer}
use Rattle.mega_wal.specs.declared.answers.Voted.TheVariants as vote

-- groups are in the order of their key bytes
abbrev pub group_cmp : GroupId → GroupId → Ordering
group_cmp g h = slice_cmp nat_cmp g.key h.key

-- the item's group and position are these
abbrev pub is_place : GroupId → Position → GroupId → ℕ → Bool
is_place other position group n = same_group other group && position.0 == n

-- what the voter made at a place: a promise reports its best vote of before
abbrev pub acts_of : List JournalItem → GroupId → ℕ → List Act
acts_of [] group n = []
acts_of (Promise other position ballot ∷ before) group n =
    if is_place other position group n then Promised ballot (best (acts_of before group n)) ∷ acts_of before group n else acts_of before group n
acts_of (Accept other position ballot entry ∷ before) group n =
    if is_place other position group n then Voted ballot entry ∷ acts_of before group n else acts_of before group n
acts_of (_ ∷ before) group n = acts_of before group n

-- the entry that was decided at a place first
abbrev pub decided_of : List JournalItem → GroupId → ℕ → Option Content
decided_of [] group n = None
decided_of (Decide other position entry ∷ before) group n =
    if is_place other position group n then first_of (decided_of before group n) entry else decided_of before group n
decided_of (_ ∷ before) group n = decided_of before group n

-- the greatest position of a group that is accepted or decided, 0 for none
abbrev pub top_of : List JournalItem → GroupId → ℕ
top_of [] group = 0
top_of (Accept other position ballot entry ∷ before) group = if same_group other group then max (top_of before group) position.0 else top_of before group
top_of (Decide other position entry ∷ before) group = if same_group other group then max (top_of before group) position.0 else top_of before group
top_of (_ ∷ before) group = top_of before group

-- the greatest position of a group that is decided, 0 for none
abbrev pub newest_of : List JournalItem → GroupId → ℕ
newest_of [] group = 0
newest_of (Decide other position entry ∷ before) group = if same_group other group then max (newest_of before group) position.0 else newest_of before group
newest_of (_ ∷ before) group = newest_of before group

-- the greatest position of a group through which all are decided from 1 on, 0 for none
abbrev pub prefix_of : List JournalItem → GroupId → ℕ
prefix_of items group = climb (λ n. is_some (decided_of items group n)) (newest_of items group) 0

-- a count of starts stays at its last value
abbrev pub starts_at_most : ℕ → ℕ
starts_at_most n = min n 4294967295

-- how often the node started
abbrev pub starts_of : List JournalItem → ℕ
starts_of [] = 0
starts_of (Start ∷ before) = starts_at_most (starts_of before + 1)
starts_of (Starts starts ∷ before) = starts_at_most (starts_of before + starts)
starts_of (_ ∷ before) = starts_of before

-- the greatest epoch granted to a node, and whether it is held
abbrev pub Granted : Type 0
Granted = Epoch × Bool

-- a greater epoch is granted and held; another one changes nothing
abbrev pub after_grant : Option Granted → Epoch → Option Granted
after_grant None epoch = Some (epoch, true)
after_grant (Some granted) epoch = if is_epoch_below granted.0 epoch then Some (epoch, true) else Some granted

-- the greatest epoch lapses; a lapse of another one changes nothing
abbrev pub after_lapse : Option Granted → Epoch → Option Granted
after_lapse None epoch = None
after_lapse (Some granted) epoch = if is_same_epoch granted.0 epoch then Some (granted.0, false) else Some granted

-- what the lock cell granted to a node
abbrev pub granted_of : List JournalItem → ℕ → Option Granted
granted_of [] node = None
granted_of (Grant other epoch ∷ before) node = if other.0 == node then after_grant (granted_of before node) epoch else granted_of before node
granted_of (Lapse other epoch ∷ before) node = if other.0 == node then after_lapse (granted_of before node) epoch else granted_of before node
granted_of (_ ∷ before) node = granted_of before node

-- ---- what an answer keeps
-- a promise is kept, also where it is repeated
abbrev pub by_promise : PromiseAnswer → JournalItem → List JournalItem
by_promise (promise.Yes report) item = item ∷ []
by_promise (promise.Shown ballot) item = []

-- a vote is kept, also where it is repeated
abbrev pub by_accept : AcceptAnswer → JournalItem → List JournalItem
by_accept vote.Yes item = item ∷ []
by_accept (vote.Shown ballot) item = []
by_accept (vote.Other entry) item = []

-- the first decision is kept
abbrev pub by_decide : Bool → JournalItem → List JournalItem
by_decide true item = item ∷ []
by_decide false item = []

-- the groups with a decided position, each once and in the order of their key bytes
pub record AreDecided (items : List JournalItem) (groups : List GroupId) : Type 0 where
  pub ordered : IsStrictlySortedBy group_cmp groups
  pub each : All (λ group. 0 < newest_of items group) groups
  pub all : (group : GroupId) → 0 < newest_of items group → list_any (λ other. same_group other group) groups ≡ true
