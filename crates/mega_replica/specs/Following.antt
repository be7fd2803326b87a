-- How far the writes of each group are stored, and that the rows follow the logs.
use Rattle.std.specs.Prelude.{◌≡◌, ◌≤◌, ℕ, ◌+◌, List, [], ◌∷◌, length, drop, unwrap_or}
use Rattle.std.specs.BTreeMap.{BTreeMap, get}
use Rattle.mega_base.specs.declared.names.GroupId.{GroupId}
use Rattle.mega_entry.specs.declared.content.Write.{Write}
use Rattle.mega_entry.specs.declared.content.Content.{Content}
use Rattle.mega_disk.specs.VersionMaps.{Versions}
use Rattle.mega_replica.specs.Applying.{writes_through}
use Rattle.mega_wal.specs.History.{group_cmp}
use Rattle.mega_replica.specs.declared.progress.Progress.{Progress}
use Rattle.mega_replica.specs.Stored.{GroupLogs, Counts, Tells, stored_with}

abbrev pub no_progress : Progress
no_progress = record { entries = 0; writes = 0 }

-- the progress of a group
abbrev pub progress_at : BTreeMap GroupId Progress → GroupId → Progress
progress_at progress group = unwrap_or (get group_cmp progress group) no_progress

-- the writes of the first entry, none where there is none
abbrev pub first_writes : List Content → List Write
first_writes [] = []
first_writes (entry ∷ log) = entry.writes

-- that many entries are there, and that many writes in the next one
pub record IsPlace (progress : Progress) (log : List Content) : Type 0 where
  pub entries : progress.entries ≤ length log
  pub writes : progress.writes ≤ length (first_writes (drop progress.entries log))

-- the writes of the entries that are passed, and those of the next one that are stored
abbrev pub count_of : Progress → List Content → ℕ
count_of progress log = writes_through progress.entries log + progress.writes

-- the versions tell what is stored, where one group is at this place, and the others have these counts
pub record FollowsGroup (version : Versions) (group : GroupId) (progress : Progress) (log : GroupLogs) (stored : Counts) : Type 0 where
  pub place : IsPlace progress (log group)
  pub versions : Tells version log (stored_with stored group (count_of progress (log group)))

-- the rows follow the logs: of each log these writes are stored, each at the position of its entry
pub record Follows (version : Versions) (progress : GroupId → Progress) (log : GroupLogs) (stored : Counts) : Type 0 where
  pub places : (group : GroupId) → IsPlace (progress group) (log group)
  pub counts : (group : GroupId) → stored group ≡ count_of (progress group) (log group)
  pub versions : Tells version log stored
