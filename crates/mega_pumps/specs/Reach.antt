-- How far each group's log is noted.
use Rattle.std.specs.Prelude.{ℕ, if◌then◌else◌, List, take, unwrap_or}
use Rattle.std.specs.BTreeMap.{BTreeMap, get}
use Rattle.mega_base.specs.declared.names.GroupId.{GroupId}
use Rattle.mega_entry.specs.declared.content.Content.{Content}
use Rattle.mega_wal.specs.Same.{same_group}
use Rattle.mega_wal.specs.History.{group_cmp}
use Rattle.mega_queues.specs.Boxes.{Logs}
use Rattle.mega_replica.specs.Applying.{applied, applied_log}

abbrev pub through_at : BTreeMap GroupId ℕ → GroupId → ℕ
through_at through group = unwrap_or (get group_cmp through group) 0

-- of each log the first entries
abbrev pub fronts : Logs → (GroupId → ℕ) → Logs
fronts log through group = take (through group) (log group)

-- the entries of each log that are applied
abbrev pub applied_fronts : Logs → (GroupId → ℕ) → Logs
applied_fronts log stored group = applied_log (log group) (stored group)

-- the logs, where that of one group has these entries
abbrev pub with_log : Logs → GroupId → List Content → Logs
with_log logs group entries other = if same_group group other then entries else logs other
