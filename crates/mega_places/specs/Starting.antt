-- What becomes of a start of a node that is down.
use Rattle.std.specs.Prelude.{◌≡◌, ℕ, ◌+◌, true, false, if◌then◌else◌, List, ◌∷◌, map, Option, None}
use Rattle.mega_cluster.specs.declared.cluster.Cluster.{Cluster}
use Rattle.mega_disk.specs.declared.mem_records.MemRecords.{MemRecords}
use Rattle.mega_disk.specs.Fuse.{Unset}
use Rattle.mega_disk.specs.MemDisk.{fuse_of}
use Rattle.mega_handler.specs.Named.{Meanings}
use Rattle.mega_leases.specs.Opening.{AreOwed}
use Rattle.mega_rules.specs.Met.{Met, Starts}
use Rattle.mega_rules.specs.Steps.{onto, start, start_notes}
use Rattle.mega_voter.specs.Holding.{HoldsMet}
use Rattle.mega_durable.specs.of_core.of_step_parts.Notes.{met_of}
use Rattle.mega_promises.specs.Runs.{Fuse, after_append, is_burning, is_kept, left_by, setting}
use Rattle.mega_durable.specs.declared.cut.Cut.{Cut}
use Rattle.mega_durable.specs.declared.down.Down.{Down as DownNode}
use Rattle.mega_rows.specs.declared.rows.VersionedRows.{VersionedRows}
use Rattle.mega_places.specs.declared.fallen.Fallen.{Fallen}
use Rattle.mega_places.specs.declared.log_fuse.LogFuse.{LogFuse}
use Rattle.mega_places.specs.declared.remains.Remains.TheVariants.{OnDisk}
use Rattle.mega_places.specs.declared.starting.Begun.{Begun}
use Rattle.mega_places.specs.Kept.{IsFallen, IsReady}
use Rattle.mega_places.specs.LogFuses.{IsFused}
use Rattle.mega_places.specs.Members.{IsMember, records_of}

-- of each history that a node that is down may have, and each fuse of the run on its log
abbrev pub AtEachFallen : Cluster → ℕ → Fallen → (ℕ → List Met → List Met → Option Fuse → Type 0) → Type 0
AtEachFallen c me fallen Is = (starts : ℕ) (owed met : List Met) (fuse : Option Fuse) → IsFallen c me fallen starts owed met fuse → Is starts owed met fuse

-- the same of logs and rows in memory, with a fuse that is kept beside them
pub record IsOpened (c : Cluster) (me : ℕ) (down : DownNode MemRecords VersionedRows) (kept : Option LogFuse) (starts : ℕ) (owed met : List Met) (fuse : Option Fuse) : Type 0 where
  pub follows : AreOwed owed met
  pub stands : IsReady c me down starts (onto owed met)
  pub holds : HoldsMet down.voter.logs.records.list.items starts (onto owed met)
  pub fused : IsFused kept down.voter.logs.records fuse

abbrev pub AtEachOpened : Cluster → ℕ → DownNode MemRecords VersionedRows → Option LogFuse → (ℕ → List Met → List Met → Option Fuse → Type 0) → Type 0
AtEachOpened c me down kept Is = (starts : ℕ) (owed met : List Met) (fuse : Option Fuse) → IsOpened c me down kept starts owed met fuse → Is starts owed met fuse

-- there is such a history
pub record IsStartable (c : Cluster) (me : ℕ) (fallen : Fallen) : Type 0 where
  pub starts : ℕ
  pub owed : List Met
  pub met : List Met
  pub fuse : Option Fuse
  pub is : IsFallen c me fallen starts owed met fuse

-- the node is up, and the fuse had an append left
pub record BeginsSo (c : Cluster) (me starts : ℕ) (owed met : List Met) (fuse : Option Fuse) (owing : Option Cut) (begun : Begun) : Type 0 where
  pub number : begun.start ≡ starts + 1
  pub owes : begun.owed ≡ owing
  pub notes : (h : Meanings) → map met_of begun.notes ≡ start_notes (setting c h me) (onto owed (Starts (starts + 1) ∷ met))
  pub long : is_burning fuse ≡ false
  pub is : (h : Meanings) → IsMember c me begun.member (start (setting c h me) (starts + 1) owed met)
  pub fused : IsFused begun.member.fuse (records_of begun.member) (after_append fuse)

-- the fuse cut the start off: the node is down as before, its records alone are left, and they count the start where its record was kept
pub record FallsAgain (starts : ℕ) (owed met : List Met) (fuse : Option Fuse) (owing : Option Cut) (fallen : Fallen) : Type 0 where
  pub records : MemRecords
  pub burning : is_burning fuse ≡ true
  pub remains : fallen.remains ≡ OnDisk records
  pub holds : HoldsMet records.list.items (if is_kept (left_by fuse) then starts + 1 else starts) (onto owed met)
  pub owes : fallen.owed ≡ owing
  pub gone : fuse_of records.fuse ≡ Unset
  pub unset : fallen.fuse ≡ None
