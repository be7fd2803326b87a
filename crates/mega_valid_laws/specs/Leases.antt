-- Leases as a tape shows them (CIDR 2011, coordinators): which cells a node counts, which epoch serves, and which groups are valid; and by what each
-- such item was allowed.
use Rattle.std.specs.Prelude.{◌≡◌, ◌⊎◌, ℕ, ◌≤◌, ◌==◌, ◌&&◌, ◌||◌, Bool, true, false, if◌then◌else◌, List, [], ◌∷◌, Option, Some, None}
use Rattle.mega_base.specs.declared.names.Epoch.{Epoch}
use Rattle.mega_base.specs.declared.names.GroupId.{GroupId}
use Rattle.mega_base.specs.declared.names.NodeId.{NodeId}
use Rattle.mega_base.specs.declared.names.OpId.{OpId}
use Rattle.mega_base.specs.declared.names.Position.{Position}
use Rattle.mega_ballot.specs.declared.ballot.Ballot.{Ballot}
use Rattle.mega_cluster.specs.declared.cluster.Cluster.{Cluster}
use Rattle.mega_entry.specs.declared.content.Content.{Content}
use Rattle.mega_wire.specs.declared.message.Message.{Message}
use Rattle.mega_wire.specs.declared.message.Body.{Body}
use Rattle.mega_wire.specs.declared.message.Body.TheVariants.{Accepted, Dead, Invalidate, Invalidated, Top, Unheld, Where}
use Rattle.mega_wal.specs.History.{after_grant, after_lapse, is_epoch_below, is_same_epoch}
use Rattle.mega_wal.specs.Same.{same_group, same_op}
use Rattle.mega_settled_laws.specs.of_tape_laws.of_promises.of_transcript.declared.item.Item.{Item}
use Rattle.mega_settled_laws.specs.of_tape_laws.of_promises.of_transcript.declared.item.Item.TheVariants.{Counts, Crash, Decide, Forgets, Grant, Invalid, Lapse, Lost, Sent, Serving, Start, Valid}
use Rattle.mega_settled_laws.specs.of_tape_laws.of_promises.Items.{number}
use Rattle.mega_settled_laws.specs.of_tape_laws.of_promises.Promises.{Stands, StoodBefore}
use Rattle.mega_settled_laws.specs.of_tape_laws.Chosen.{Chosen}
use Rattle.mega_settled_laws.specs.of_tape_laws.Lawful.{Heard, message}
use Rattle.mega_settled_laws.specs.of_tape_laws.Places.{IsMajority, Place}
use Rattle.mega_settled_laws.specs.of_tape_laws.Settled.{IsCellMajority}
use Rattle.mega_settled_laws.specs.Covering.{Earlier}

-- ---- what a tape tells

-- the greatest epoch that a cell granted to a node, and whether it did not lapse
abbrev pub granted_on : List Item → ℕ → ℕ → Option (Epoch × Bool)
granted_on [] cell node = None
granted_on (Grant other to epoch ∷ before) cell node = if other == cell && to.0 == node then after_grant (granted_on before cell node) epoch else granted_on before cell node
granted_on (Lapse other to epoch ∷ before) cell node = if other == cell && to.0 == node then after_lapse (granted_on before cell node) epoch else granted_on before cell node
granted_on (_ ∷ before) cell node = granted_on before cell node

-- a node counts a cell under an epoch
abbrev pub counted_on : List Item → ℕ → ℕ → Epoch → Bool
counted_on [] node cell epoch = false
counted_on (Counts who other e ∷ before) node cell epoch = if (who.0 == node && other == cell) && is_same_epoch e epoch then true else counted_on before node cell epoch
counted_on (Forgets who other e ∷ before) node cell epoch = if (who.0 == node && other == cell) && is_same_epoch e epoch then false else counted_on before node cell epoch
counted_on (_ ∷ before) node cell epoch = counted_on before node cell epoch

-- the epoch of a node that serves
abbrev pub serving_on : List Item → ℕ → Option Epoch
serving_on [] node = None
serving_on (Serving who epoch ∷ before) node = if who.0 == node then Some epoch else serving_on before node
serving_on (Lost who epoch ∷ before) node = if who.0 == node then None else serving_on before node
serving_on (Start who start ∷ before) node = if who.0 == node then None else serving_on before node
serving_on (Crash who ∷ before) node = if who.0 == node then None else serving_on before node
serving_on (_ ∷ before) node = serving_on before node

-- a group is valid at a node
abbrev pub valid_on : List Item → ℕ → GroupId → Bool
valid_on [] node group = false
valid_on (Valid who g position ∷ before) node group = if who.0 == node && same_group g group then true else valid_on before node group
valid_on (Invalid who g position ∷ before) node group = if who.0 == node && same_group g group then false else valid_on before node group
valid_on (Lost who epoch ∷ before) node group = if who.0 == node then false else valid_on before node group
valid_on (Start who start ∷ before) node group = if who.0 == node then false else valid_on before node group
valid_on (Crash who ∷ before) node group = if who.0 == node then false else valid_on before node group
valid_on (_ ∷ before) node group = valid_on before node group

-- an operation asked where the log of a group ends
abbrev pub asks_end : OpId → GroupId → Body → Bool
asks_end op group (Where asking g) = same_op asking op && same_group g group
asks_end op group _ = false

abbrev pub has_polled : List Item → OpId → GroupId → Bool
has_polled [] op group = false
has_polled (Sent key m ∷ before) op group = asks_end op group m.body || has_polled before op group
has_polled (_ ∷ before) op group = has_polled before op group

-- ---- by what an item was allowed

-- nothing is held: no epoch was granted, or the greatest one lapsed
abbrev pub HoldsNone : Option (Epoch × Bool) → Type 0
HoldsNone None = Unit {0}
HoldsNone (Some last) = last.1 ≡ false

-- no cell granted a node an epoch above this one
abbrev pub NoneAbove : List Item → ℕ → Epoch → Type 0
NoneAbove tape node epoch = (cell : ℕ) (other : Epoch) → Stands (Grant cell (number node) other) tape → is_epoch_below epoch other ≡ false

-- an epoch serves once, behind no other, and no cell granted its node one above it
pub record MayServe (tape : List Item) (node : NodeId) (epoch : Epoch) : Type 0 where
  pub once : Stands (Serving node epoch) tape → ⊥
  pub alone : serving_on tape node.0 ≡ None
  pub greatest : NoneAbove tape node.0 epoch

-- a cell says that it holds nothing where it was asked, and holds nothing
pub record MayFree (tape : List Item) (from : ℕ) (op : OpId) (cell node : ℕ) : Type 0 where
  pub own : from ≡ cell
  pub none : HoldsNone (granted_on tape cell node)
  pub key : ℕ
  pub asker : ℕ
  pub asked : Stands (Sent key (message asker cell (Dead op cell (number node)))) tape

-- a node says that it is invalidated where it noted so behind the question
pub record MayObey (tape : List Item) (from : ℕ) (op : OpId) (group : GroupId) (n : Position) : Type 0 where
  pub key : ℕ
  pub asker : ℕ
  pub noted : StoodBefore (Sent key (message asker from (Invalidate op group n))) (Invalid (number from) group n) tape

-- an operation tells a node to invalidate a position where a majority had accepted some entry there
pub record WasChosen (c : Cluster) (tape : List Item) (p : Place) : Type 0 where
  pub entry : Content
  pub chosen : Chosen c p tape entry

abbrev pub MaySay : Cluster → List Item → Message → Body → Type 0
MaySay c tape m (Unheld op cell node) = MayFree tape m.from op cell node.0
MaySay c tape m (Invalidated op group n) = MayObey tape m.from op group n
MaySay c tape m (Invalidate op group n) = WasChosen c tape (record { group = group; position = n })
MaySay c tape m _ = Unit {0}

-- a group is valid by a poll that began while the present epoch served, through a position that is decided, and above each that was invalidated
-- since this epoch served
pub record MayBeValid (c : Cluster) (tape : List Item) (node : ℕ) (group : GroupId) (p : Position) : Type 0 where
  pub epoch : Epoch
  pub serves : serving_on tape node ≡ Some epoch
  pub op : OpId
  pub moment : List Item
  pub earlier : Earlier moment tape
  pub served : serving_on moment node ≡ Some epoch
  pub fresh : has_polled moment op group ≡ false
  pub test : ℕ → Bool
  pub majority : IsMajority c test
  pub heard : (voter : ℕ) → test voter ≡ true → (top : Position) × Heard tape voter op (Top op group top) × (top.0 ≤ p.0)
  pub decided : (p.0 ≡ 0) ⊎ ((entry : Content) × Stands (Decide (number node) group p entry) tape)
  pub above : (n : Position) → StoodBefore (Serving (number node) epoch) (Invalid (number node) group n) tape → n.0 ≤ p.0

-- a cell is counted that granted the epoch, and none while an epoch serves; an epoch serves once, with a majority of the cells, and the cells granted none
-- above it, nor do they while it serves
abbrev pub IsLeased : Cluster → List Item → Item → Type 0
IsLeased c before (Grant cell node epoch) = (now : Epoch) → serving_on before node.0 ≡ Some now → is_epoch_below now epoch ≡ false
IsLeased c before (Counts node cell epoch) = Stands (Grant cell node epoch) before × (serving_on before node.0 ≡ None)
IsLeased c before (Serving node epoch) = MayServe before node epoch
IsLeased c before (Valid node group p) = MayBeValid c before node.0 group p
IsLeased c before (Sent key m) = MaySay c before m m.body
IsLeased c before _ = Unit {0}

abbrev pub AreLeased : Cluster → List Item → Type 0
AreLeased c [] = Unit {0}
AreLeased c (item ∷ before) = IsLeased c before item × AreLeased c before

-- ---- what is said of an epoch that serves

-- an epoch serves with a majority of the cells, none of which has lapsed it
pub record IsHeld (c : Cluster) (tape : List Item) (node : ℕ) (epoch : Epoch) : Type 0 where
  pub serves : serving_on tape node ≡ Some epoch
  pub counts : IsCellMajority c (λ cell. counted_on tape node cell epoch)
  pub safe : (cell : ℕ) → counted_on tape node cell epoch ≡ true → Stands (Lapse cell (number node) epoch) tape → ⊥

-- each of these cells said that it holds nothing for a node, in answer to an operation
pub record SaysFree (tape : List Item) (op : OpId) (cell node : ℕ) : Type 0 where
  pub key : ℕ
  pub to : ℕ
  pub sent : Stands (Sent key (message cell to (Unheld op cell (number node)))) tape

-- one of those answers stood before the epoch served
pub record ServedBehind (tape : List Item) (op : OpId) (test : ℕ → Bool) (node : ℕ) (epoch : Epoch) : Type 0 where
  pub cell : ℕ
  pub passes : test cell ≡ true
  pub key : ℕ
  pub to : ℕ
  pub before : StoodBefore (Sent key (message cell to (Unheld op cell (number node)))) (Serving (number node) epoch) tape

-- a node accepted or decided a position of a group at least as great as this one
pub data HasAtLeast (tape : List Item) (node : ℕ) (group : GroupId) (n : Position) : Type 0 where
  accepted : (key to : ℕ) (op : OpId) (m : Position) (b : Ballot) (e : Content) → n.0 ≤ m.0 → Stands (Sent key (message node to (Accepted op group m b e))) tape → HasAtLeast tape node group n
  decided : (m : Position) (e : Content) → n.0 ≤ m.0 → Stands (Decide (number node) group m e) tape → HasAtLeast tape node group n

-- a position at least as great as each of a group that a node accepted or decided
pub record IsTop (tape : List Item) (node : ℕ) (group : GroupId) (p : Position) : Type 0 where
  pub accepted : (key to : ℕ) (op : OpId) (m : Position) (b : Ballot) (e : Content) → Stands (Sent key (message node to (Accepted op group m b e))) tape → m.0 ≤ p.0
  pub decided : (m : Position) (e : Content) → Stands (Decide (number node) group m e) tape → m.0 ≤ p.0
