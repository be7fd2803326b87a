-- A log in whose place one record is put: when it is to be, and what this leaves.
use Rattle.std.specs.Prelude.{◌≡◌, ◌≢◌, ℕ, ◌<◌, ◌^◌, true, List, [], length, Option}
use Rattle.mega_disk.specs.declared.records.Records.{Ghosts}
use Rattle.mega_disk.specs.VersionMaps.{Versions}
use Rattle.mega_handler.specs.Named.{Meanings}
use Rattle.mega_wal.specs.declared.answers.LogFault.{LogFault}
use Rattle.mega_wal.specs.declared.answers.LogFault.TheVariants.{DiskFault}
use Rattle.mega_wal.specs.declared.logs.Logs.{Logs}
use Rattle.mega_wal.specs.Compaction.{compacted_text}
use Rattle.mega_rules.specs.Clock.{start_of}
use Rattle.mega_rules.specs.Met.{Met}
use Rattle.mega_rules.specs.Operations.{Node as RuleNode}
use Rattle.mega_voter.specs.Used.{LogUsed}
use Rattle.mega_voter.specs.Holding.{HoldsMet}
use Rattle.mega_voter.specs.Telling.{Tells}
use Rattle.mega_core.specs.declared.node.Node.{Node}
use Rattle.mega_durable.specs.declared.fault.UpFault.{UpFault}
use Rattle.mega_durable.specs.declared.fault.UpFault.TheVariants as up
use Rattle.mega_durable.specs.Replying.{owed_by}
use Rattle.mega_durable.specs.Standing.{IsUp}

-- a log is to be compacted where its records are due, nothing is staged, and a record of what is kept has fewer than 2^32 bytes
pub record IsToCompact {R : Type 0} (store : Ghosts R) (logs : Logs R) : Type 0 where
  pub due : store.is_due logs.records ≡ true
  pub flushed : logs.staged.items ≡ []
  pub short : length (compacted_text logs.kept) < 2 ^ 32

-- of all that logs tell was met, and their records hold
abbrev pub AtEachHeld : {R : Type 0} → Ghosts R → Logs R → (List Met → Type 0) → Type 0
AtEachHeld store logs Is = (met : List Met) → Tells logs.kept met → HoldsMet (store.list logs.records) (start_of met) met → Is met

-- of each node of the rules under which a node is up
abbrev pub AtEachUp : {R V : Type 0} → Ghosts R → (V → Versions) → Node R V → (Meanings → RuleNode → Type 0) → Type 0
AtEachUp store version one Is = (h : Meanings) (node : RuleNode) → IsUp store version h one node → Is h node

-- what a crash may leave: records that hold what the node met
abbrev pub HoldsAll : List Met → List (List ℕ) → Type 0
HoldsAll met found = HoldsMet found (start_of met) met

-- no step was taken, and the next start owes nothing of one
abbrev pub OwesNothing : UpFault → Type 0
OwesNothing (up.Step fault) = ⊥
OwesNothing (up.Cut cut) = owed_by cut ≡ []
OwesNothing (up.Log fault) = fault ≢ DiskFault
OwesNothing up.Unformed = Unit {0}

-- the device of the log only went on, and if the log was not compacted it was for what is said of it; the file would have some length then
abbrev pub LogCompacts : {R : Type 0} → Ghosts R → Option LogFault → R → R → Type 0
LogCompacts store failed old new = (bytes : ℕ) × LogUsed store (store.length_replaced old bytes) failed old new
