-- What a node keeps stands to what it met also once a group is made valid, and shows what transactions of a group come to.
use Rattle.std.proofs.Common.{ℕ, ◌≤◌, ◌∷◌, Bool, true, false, List, refl}
use Rattle.mega_base.specs.declared.names.GroupId.{GroupId}
use Rattle.mega_disk.specs.VersionMaps.{SameVersions, Versions}
use Rattle.mega_wal.specs.declared.kept.Kept.{Kept}
use Rattle.mega_replica.specs.Applying.{applied}
use Rattle.mega_rules.specs.Met.{Met, Validates}
use Rattle.mega_rules.specs.Logs.{log_of}
use Rattle.mega_rules.specs.Operations.{Now, Setting}
use Rattle.mega_step_work.specs.of_leases.declared.leases.Leases.{Leases}
use Rattle.mega_step_work.specs.of_leases.Tells.{Tells as TellsLeases}
use Rattle.mega_replica.specs.declared.progress.Progress.{Progress}
use Rattle.mega_replica.specs.Following.{Follows}
use Rattle.mega_replica.proofs.Growing.{follows_same}
use Rattle.mega_step_work.proofs.of_voter.KeptTells.{silent_told}
use Rattle.mega_marks.proofs.of_node_laws.Followed.{follows_more}
use Rattle.mega_marks.proofs.of_node_laws.Logs.{same_more, same_self}
use Rattle.mega_marks.proofs.of_node_laws.Owned.{batch_is, outcome_is, owned_same_logs}
use Rattle.mega_step_work.specs.Completed.{completed, stored_through, valid_if}
use Rattle.mega_answers.specs.Sees.{Sees}
use Rattle.mega_answers.specs.RepresentsMet.{RepresentsMet}
use Rattle.mega_answers.proofs.Logged.{shows_log}

module _ (s : Setting) (kept : Kept) (leases : Leases) (version : Versions) (progress : GroupId → Progress) (stored : GroupId → ℕ) where
  pub stands_valid : (new : Leases) (met : List Met) (group : GroupId) (p : ℕ) → TellsLeases s.cluster s.me new (Validates group p ∷ met)
      → RepresentsMet s kept leases version progress met stored → RepresentsMet s kept new version progress (Validates group p ∷ met) stored
  stands_valid new met group p tells r = record {
    tells = (silent_told kept met (Validates group p) refl).0 r.tells;
    leased = tells;
    follows = follows_more version progress (Validates group p) met stored r.follows;
    owned = owned_same_logs s.cluster.schema met (Validates group p ∷ met) (same_more (Validates group p) met met refl (same_self met)) r.owned;
    small = r.small;
  }

  pub stands_seen : (new : Versions) (met : List Met) → SameVersions version new → RepresentsMet s kept leases version progress met stored → RepresentsMet s kept leases new progress met stored
  stands_seen new met same r = record { tells = r.tells; leased = r.leased; follows = follows_same version new progress (log_of met) stored same r.follows; owned = r.owned; small = r.small }

-- a read completes: rows follow with what it needs stored, and leases tell whether the group was made valid
pub completed_stands : (s : Setting) (kept : Kept) (leases new : Leases) (version stored_version : Versions) (progress stored_progress : GroupId → Progress) (now : Now) (group : GroupId) (p : ℕ) (made : Bool)
    → RepresentsMet s kept leases version progress now.met now.stored
    → Follows stored_version stored_progress (log_of now.met) (stored_through now group p).stored
    → TellsLeases s.cluster s.me new (valid_if (stored_through now group p) group p made).met
    → RepresentsMet s kept new stored_version stored_progress (completed now group p made).met (completed now group p made).stored
completed_stands s kept leases new version stored_version progress stored_progress now group p true r follows tells =
    stands_valid s kept leases stored_version stored_progress (stored_through now group p).stored new now.met group p tells (record { tells = r.tells; leased = r.leased; follows = follows; owned = r.owned; small = r.small })
completed_stands s kept leases new version stored_version progress stored_progress now group p false r follows tells =
    record { tells = r.tells; leased = tells; follows = follows; owned = r.owned; small = r.small }

pub sees_log : (s : Setting) (kept : Kept) (leases : Leases) (version : Versions) (progress : GroupId → Progress) (now : Now) (group : GroupId) (p : ℕ)
    → RepresentsMet s kept leases version progress now.met now.stored → p ≤ applied (log_of now.met group) (now.stored group) → Sees s.cluster.schema version group p now
sees_log s kept leases version progress now group p r le = record {
  alone = outcome_is version progress (log_of now.met) now.stored s.cluster.schema group p r.follows r.owned le;
  batched = batch_is version progress (log_of now.met) now.stored s.cluster.schema group p r.follows r.owned le;
  small = r.small;
  shows = shows_log s.cluster.schema version progress (log_of now.met) now.stored group r.follows r.owned p le;
}
