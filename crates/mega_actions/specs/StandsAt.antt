-- How what a node keeps stands to what it met, its digest of queues with it.
use Rattle.std.specs.Prelude.{ℕ, List}
use Rattle.mega_base.specs.declared.names.GroupId.{GroupId}
use Rattle.mega_disk.specs.VersionMaps.{Versions}
use Rattle.mega_replica.specs.of_wal.declared.kept.Kept.{Kept}
use Rattle.mega_rules.specs.Met.{Met}
use Rattle.mega_rules.specs.Operations.{Setting}
use Rattle.mega_replica.specs.declared.progress.Progress.{Progress}
use Rattle.mega_answers.specs.of_leases.declared.leases.Leases.{Leases}
use Rattle.mega_answers.specs.of_pumps.declared.digest.Digest.{Digest}
use Rattle.mega_answers.specs.of_pumps.Notes.{HasNoted}
use Rattle.mega_answers.specs.RepresentsMet.{RepresentsMet}

pub record StandsAt (s : Setting) (kept : Kept) (leases : Leases) (digest : Digest) (version : Versions) (progress : GroupId → Progress) (met : List Met) (stored : GroupId → ℕ) : Type 0 where
  pub stands : RepresentsMet s kept leases version progress met stored
  pub noted : HasNoted kept digest
