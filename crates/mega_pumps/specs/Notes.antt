-- What a digest says of logs.
use Rattle.std.specs.Prelude.{◌≡◌, ◌≤◌, ℕ, List, length}
use Rattle.mega_base.specs.declared.names.GroupId.{GroupId}
use Rattle.mega_wal.specs.declared.kept.Kept.{Kept}
use Rattle.mega_replica.specs.Applying.{applied}
use Rattle.mega_rules.specs.Logs.{log_of}
use Rattle.mega_rules.specs.Met.{Met}
use Rattle.mega_voter.specs.Telling.{Tells}
use Rattle.mega_queues.specs.Boxes.{Logs}
use Rattle.mega_queues.specs.Followed.{Represents}
use Rattle.mega_pumps.specs.declared.digest.Digest.{Digest}
use Rattle.mega_pumps.specs.Reach.{fronts, through_at}

-- of each log its first entries are noted, and none that is not applied
pub record Notes (log : Logs) (stored : GroupId → ℕ) (digest : Digest) : Type 0 where
  pub queues : Represents (fronts log (through_at digest.through)) digest.queues
  pub within : (group : GroupId) → through_at digest.through group ≤ applied (log group) (stored group)

-- of each log its first entries are noted, applied or not
pub record IsNoted (log : Logs) (digest : Digest) : Type 0 where
  pub queues : Represents (fronts log (through_at digest.through)) digest.queues
  pub within : (group : GroupId) → through_at digest.through group ≤ length (log group)

-- so it is of what a node decided that keeps this
pub record HasNoted (kept : Kept) (digest : Digest) : Type 0 where
  pub noted : (met : List Met) → Tells kept met → IsNoted (log_of met) digest
