-- How a replica, as it is, stands to what its node met, within a step.
use Rattle.std.specs.Prelude.{ℕ, List}
use Rattle.mega_base.specs.declared.names.GroupId.{GroupId}
use Rattle.mega_disk.specs.VersionMaps.{Versions}
use Rattle.mega_handler.specs.Named.{Meanings}
use Rattle.mega_rules.specs.Met.{Met}
use Rattle.mega_rules.specs.Operations.{Setting}
use Rattle.mega_replica.specs.Following.{progress_at}
use Rattle.mega_actions.specs.declared.replica.Replica.{Replica}
use Rattle.mega_actions.specs.StandsAt.{StandsAt}
use Rattle.mega_answers.specs.of_step_work.Settings.{setting}

-- its node, with handlers
abbrev pub setting_of : {R V : Type 0} → Replica R V → Meanings → Setting
setting_of one h = setting one.members one.me h

-- all that it keeps stands to what its node met, and to how many writes of each group it stored
abbrev pub IsAt : {R V : Type 0} → (V → Versions) → Meanings → Replica R V → List Met → (GroupId → ℕ) → Type 0
IsAt version h one met stored = StandsAt (setting_of one h) one.voter.logs.kept one.leases one.digest (version one.rows.rows) (progress_at one.rows.progress) met stored
