-- The next entry of a decided prefix, of which some writes more are stored.
use Rattle.std.proofs.Common.{◌≡◌, ℕ, ◌+◌, ◌<◌, ◌≤◌, max, List, ◌∷◌, length, drop, Some, sym, subst}
use Rattle.mega_base.specs.declared.names.GroupId.{GroupId}
use Rattle.mega_entry.specs.declared.content.Write.{Write}
use Rattle.mega_entry.specs.declared.content.Content.{Content}
use Rattle.mega_disk.specs.VersionMaps.{Versions}
use Rattle.mega_replica.specs.Applying.{writes_through}
use Rattle.mega_wal.specs.declared.item.JournalItem.{JournalItem}
use Rattle.mega_wal.specs.History.{decided_of, prefix_of}
use Rattle.mega_replica.specs.declared.progress.Progress.{Progress}
use Rattle.mega_replica.specs.Stored.{Counts, GroupLogs, Tells, log_in, stored_with}
use Rattle.mega_replica.specs.Following.{FollowsGroup}
use Rattle.mega_replica.proofs.Entries.{next_is, rest_in}
use Rattle.mega_replica.proofs.Steps.{count_passed, count_read, stands_passed, stands_within}

-- what one call says of the versions
abbrev pub Stores : ℕ → List Write → ℕ → ℕ → Versions → Versions → Type 0
Stores e writes w v old new = (group : GroupId) (log : GroupLogs) (counts : Counts) (entry : Content) (rest : List Content) → drop e (log group) ≡ entry ∷ rest → entry.writes ≡ writes
    → Tells old log (stored_with counts group (writes_through e (log group) + w)) → Tells new log (stored_with counts group (writes_through e (log group) + v))

module _ (items : List JournalItem) (group : GroupId) (log : GroupLogs) (counts : Counts) (p : Progress) (entry : Content) (writes : List Write) (old new : Versions) (w : ℕ)
    (is : log group ≡ log_in items group) (stands : FollowsGroup old group p log counts) (lt : p.entries < prefix_of items group) (found : Some entry ≡ decided_of items group (p.entries + 1)) (same : entry.writes ≡ writes)
    (le : w ≤ max p.writes (length writes)) (stores : Stores p.entries writes p.writes w old new) where
  next : drop p.entries (log group) ≡ entry ∷ rest_in items group p.entries
  next = next_is items group (log group) is p stands.place entry lt found

  tells : Tells new log (stored_with counts group (writes_through p.entries (log group) + w))
  tells = stores group log counts entry (rest_in items group p.entries) next same stands.versions

  low : w ≤ max p.writes (length entry.writes)
  low = subst (λ (ws : List Write). w ≤ max p.writes (length ws)) (sym same) le

  pub next_some : FollowsGroup new group (record { entries = p.entries; writes = w }) log counts
  next_some = stands_within log counts group p entry (rest_in items group p.entries) next old new stands w low tells

  pub next_read : (position before : ℕ) → p.entries < position → writes_through p.entries (log group) + w ≤ max before (writes_through position (log group))
  next_read = count_read log counts group p entry (rest_in items group p.entries) next old new stands w low tells

  pub next_all : length writes ≤ w → FollowsGroup new group (record { entries = p.entries + 1; writes = 0 }) log counts
  next_all all = stands_passed log counts group p entry (rest_in items group p.entries) next old new stands w low tells (subst (λ (ws : List Write). length ws ≤ w) (sym same) all)

  pub next_count : length writes ≤ w → writes_through (p.entries + 1) (log group) + 0 ≡ writes_through p.entries (log group) + w
  next_count all = count_passed log counts group p entry (rest_in items group p.entries) next old new stands w low tells (subst (λ (ws : List Write). length ws ≤ w) (sym same) all)
