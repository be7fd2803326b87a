-- What a tick comes to, part by part.
use Rattle.std.specs.Prelude.{◌≡◌, ◌++◌, ℕ, map, fold}
use Rattle.mega_base.specs.declared.names.GroupId.{GroupId}
use Rattle.mega_disk.specs.VersionMaps.{Versions}
use Rattle.mega_wal.specs.declared.kept.Kept.{Kept}
use Rattle.mega_rules.specs.Clock.{begun_of}
use Rattle.mega_rules.specs.Coordinators.{acquires_at}
use Rattle.mega_rules.specs.Logs.{groups_of, log_of}
use Rattle.mega_rules.specs.Operations.{Node, Now, Setting}
use Rattle.mega_rules.specs.Steps.{Tick, at_first, background, lapse_notes, lease_notes, portion_of, ticked}
use Rattle.mega_step_parts.specs.of_leases.declared.leases.Leases.{Leases}
use Rattle.mega_replica.specs.declared.progress.Progress.{Progress}
use Rattle.mega_actions.specs.of_node_laws.Acted.{acted_on}
use Rattle.mega_actions.specs.of_pumps.declared.digest.Digest.{Digest}
use Rattle.mega_actions.specs.StandsAt.{StandsAt}
use Rattle.mega_node_events.specs.declared.ticking.Ticked.{Ticked}
use Rattle.mega_step_parts.specs.Notes.{met_of}
use Rattle.mega_handler.specs.Named.{Meanings}
use Rattle.mega_replica.specs.Following.{progress_at}
use Rattle.mega_actions.specs.declared.replica.Replica.{Replica}
use Rattle.mega_actions.specs.IsAt.{setting_of}

-- a tick: what is noted, and sent before and behind what the operations send, what these act on, and what is kept
pub record HasTicked (s : Setting) (t : Setting) (made : Ticked) (kept : Kept) (leases : Leases) (digest : Digest) (version : Versions) (progress : GroupId → Progress) (node : Node) (now : ℕ) : Type 0 where
  pub notes : map met_of made.notes ≡ lease_notes s node.met now ++ lapse_notes s node.met now
  pub opening : made.opening ≡ acquires_at s.cluster s.me node.met now
  pub closing : made.closing ≡ background s node.met now
  pub stands : StandsAt t kept leases digest version progress (acted_on s node (Tick now)) (portion_of s node.met node.stored)
  pub begun : begun_of (acted_on s node (Tick now)) ≡ begun_of node.met
  pub groups : groups_of (acted_on s node (Tick now)) ≡ groups_of node.met
  pub logs : (group : GroupId) → log_of (acted_on s node (Tick now)) group ≡ log_of node.met group

-- the operations act on it
abbrev pub has_ticked : Setting → Node → ℕ → Now
has_ticked s node now = fold (ticked s now) (at_first (acted_on s node (Tick now)) (portion_of s node.met node.stored)) node.open_operations

-- a replica, as it was and as it is
abbrev pub TickedAt : {R V : Type 0} → (V → Versions) → Meanings → Replica R V → Replica R V → Ticked → Node → ℕ → Type 0
TickedAt version h old new made node now = HasTicked (setting_of old h) (setting_of new h) made new.voter.logs.kept new.leases new.digest (version new.rows.rows) (progress_at new.rows.progress) node now
