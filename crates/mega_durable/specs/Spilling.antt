-- Rows that are spilled where they are full: with which marks, and what this leaves of the device below them.
use Rattle.std.specs.Prelude.{◌≡◌, ◌⊎◌, ℕ, ◌<◌, ◌≤◌, ◌^◌, true, List, map, Option, Some}
use Rattle.mega_base.specs.Causes.{Rose}
use Rattle.mega_base.specs.declared.names.GroupId.{GroupId}
use Rattle.mega_base.specs.declared.names.Position.{Position}
use Rattle.mega_disk.specs.Fuse.{Burns, MayBurn}
use Rattle.mega_disk.specs.VersionMaps.{IsSpilled, Marks, Stored, Versions}
use Rattle.mega_disk.specs.declared.versions.StoreError.{StoreError}
use Rattle.mega_disk.specs.declared.versions.StoreError.TheVariants as why
use Rattle.mega_disk.specs.declared.versions.Versions.{Ghosts}
use Rattle.mega_replica.specs.declared.rows.StoredRows.{StoredRows}
use Rattle.mega_replica.specs.Following.{progress_at}
use Rattle.mega_rules.specs.Logs.{groups_of}
use Rattle.mega_rules.specs.Met.{Met}
use Rattle.mega_rules.specs.Steps.{applied_at}
use Rattle.mega_wal.specs.declared.kept.Kept.{Kept}
use Rattle.mega_core.specs.of_node_events.declared.fault.StepFault.{StepFault}
use Rattle.mega_core.specs.of_node_events.declared.fault.StepFault.TheVariants as step
use Rattle.mega_core.specs.declared.node.Node.{Node}
use Rattle.mega_core.specs.of_step_parts.Behind.{Keeps}
use Rattle.mega_durable.specs.declared.fault.UpFault.{UpFault}
use Rattle.mega_durable.specs.declared.fault.UpFault.TheVariants as up

-- the store of a node's rows
abbrev pub rows_in : {R V : Type 0} → Node R V → V
rows_in one = one.replica.rows.rows

-- each group with a decided position is marked at the position that is applied
abbrev pub mark_at : List Met → (GroupId → ℕ) → GroupId → GroupId × Position
mark_at met stored group = (group, record { 0 = applied_at met stored group })

abbrev pub marks_of : List Met → (GroupId → ℕ) → Marks
marks_of met stored = map (mark_at met stored) (groups_of met)

-- of all that logs and rows may tell was met and stored
abbrev pub AtEachKept : {V : Type 0} → (V → Versions) → Kept → StoredRows V → (List Met → (GroupId → ℕ) → Type 0) → Type 0
AtEachKept version kept rows Is = (met : List Met) (stored : GroupId → ℕ) → Keeps kept (version rows.rows) (progress_at rows.progress) met stored → Is met stored

-- rows were spilled with these marks: they are the marks from then on, and all that a crash leaves has them, and the same versions but what was cleaned
pub record AreSpilled {V : Type 0} (store : Ghosts V) (marks : Marks) (old new : V) : Type 0 where
  pub marked : store.is_durable ≡ true → store.marked new ≡ marks
  pub durable : store.is_told ≡ true → store.is_durable ≡ true → (found : Stored) → store.may_open new found → IsSpilled marks (store.cleaned old) (store.version old) found
  pub fits : store.length_spilled old marks ≤ 2 ^ 40

-- what a crash may leave at a moment of a call that may spill rows with these marks: what it might have left before, or the rows with the marks
abbrev pub MaySpill : {V : Type 0} → Ghosts V → V → Marks → Stored → Type 0
MaySpill store old marks found = store.may_open old found ⊎ IsSpilled marks (store.cleaned old) (store.version old) found

-- the rows' device only went on, and if the rows were not spilled it was for what is said of it; memory may be wanting
pub record SpillUsed {V : Type 0} (store : Ghosts V) (failed : Option StoreError) (old new : V) : Type 0 where
  pub later : store.faults old ≤ store.faults new
  pub may_burn : MayBurn (store.fuse_left old) (store.fuse_left new)
  pub by_fuse : store.fails_by_fuse old ≡ true → store.fails_by_fuse new ≡ true
  pub cause : failed ≡ Some why.DiskFault → Rose (store.faults old) (store.faults new)
  pub full : (n : ℕ) → failed ≡ Some (why.Full n) → 2 ^ 40 < n
  pub burns : store.fails_by_fuse old ≡ true → failed ≡ Some why.DiskFault → Burns (store.fuse_left old) (store.fuse_left new)

-- why rows were not spilled, as the fault of a step
abbrev pub step_fault_of : StoreError → StepFault
step_fault_of why.DiskFault = step.DiskFault
step_fault_of (why.Full length) = step.Full length
step_fault_of (why.BadRecord number) = step.BadRecord number
step_fault_of why.NoMemory = step.NoMemory

-- the rows were not spilled
abbrev pub IsNotSpilled : UpFault → Type 0
IsNotSpilled fault = (error : StoreError) × (fault ≡ up.Step (step_fault_of error))
