-- A place on whose log a fuse is set keeps all else.
use Rattle.std.specs.Prelude.{◌≡◌, ℕ, List, set, Option}
use Rattle.mega_cluster.specs.declared.cluster.Cluster.{Cluster}
use Rattle.mega_disk.specs.declared.mem_records.MemRecords.{MemRecords}
use Rattle.mega_disk.specs.Fuse.{Left as CallsLeft}
use Rattle.mega_disk.specs.MemDisk.{fuse_of, image_of}
use Rattle.mega_rows.specs.declared.rows.VersionedRows.{VersionedRows}
use Rattle.mega_rules.specs.Met.{Met}
use Rattle.mega_rules.specs.Operations.{Node as RuleNode}
use Rattle.mega_promises.specs.Runs.{Fuse, new_fuse}
use Rattle.mega_durable.specs.declared.down.Down.{Down as DownNode}
use Rattle.mega_places.specs.declared.fallen.Fallen.{Fallen}
use Rattle.mega_places.specs.declared.member.Member.{Member}
use Rattle.mega_places.specs.declared.place.Place.{Place}
use Rattle.mega_places.specs.declared.place.Place.TheVariants.{Up, Down}
use Rattle.mega_places.specs.declared.remains.Remains.{Remains}
use Rattle.mega_places.specs.declared.remains.Remains.TheVariants.{InMemory, OnDisk}
use Rattle.mega_places.specs.Kept.{IsFallen}
use Rattle.mega_places.specs.LogFuses.{IsFused}
use Rattle.mega_places.specs.Members.{IsMember, records_of}

pub record SetsOnMember (calls image : ℕ) (old new : Member) : Type 0 where
  pub is : (c : Cluster) (me : ℕ) (ruled : RuleNode) → IsMember c me old ruled → IsMember c me new ruled
  pub fused : (fuse : Option Fuse) → IsFused old.fuse (records_of old) fuse → IsFused new.fuse (records_of new) (new_fuse calls image)

-- on records, and on what is left of a node that is down
pub record FusesRecords (calls image : ℕ) (old new : MemRecords) : Type 0 where
  pub list : new.list.items ≡ old.list.items
  pub spent : new.spent ≡ old.spent
  pub left : fuse_of new.fuse ≡ CallsLeft calls
  pub image_is : image_of new.fuse ≡ image

pub record FusesDown (calls image : ℕ) (old new : DownNode MemRecords VersionedRows) : Type 0 where
  pub kept : new.voter.logs.kept ≡ old.voter.logs.kept
  pub staged : new.voter.logs.staged.items ≡ old.voter.logs.staged.items
  pub rows : new.rows ≡ old.rows
  pub records : FusesRecords calls image old.voter.logs.records new.voter.logs.records

abbrev pub FusesRemains : ℕ → ℕ → Remains → Remains → Type 0
FusesRemains calls image (InMemory old) (InMemory new) = FusesDown calls image old new
FusesRemains calls image (InMemory old) (OnDisk new) = ⊥
FusesRemains calls image (OnDisk old) (InMemory new) = ⊥
FusesRemains calls image (OnDisk old) (OnDisk new) = FusesRecords calls image old new

pub record SetsOnFallen (calls image : ℕ) (old new : Fallen) : Type 0 where
  pub is : (c : Cluster) (me starts : ℕ) (owed met : List Met) (fuse : Option Fuse) → IsFallen c me old starts owed met fuse → IsFallen c me new starts owed met (new_fuse calls image)

abbrev pub SetsFuse : ℕ → ℕ → Place → Place → Type 0
SetsFuse calls image (Up old) (Up new) = SetsOnMember calls image old new
SetsFuse calls image (Up old) (Down new) = ⊥
SetsFuse calls image (Down old) (Up new) = ⊥
SetsFuse calls image (Down old) (Down new) = SetsOnFallen calls image old new

-- so in one place of all
pub record SetsFuseAt (calls image : ℕ) (old : List Place) (i : ℕ) (was : Place) (new : List Place) : Type 0 where
  pub is : Place
  pub sets : SetsFuse calls image was is
  pub places : new ≡ set old i is
