-- A node that crashed between two steps may start again over what it kept.
use Rattle.std.proofs.Common.{◌≡◌, ℕ, false, List, [], ◌∷◌, refl, subst, sym}
use Rattle.std.proofs.lemmas.List.Elements.{All-cons, All-nil}
use Rattle.mega_base.specs.declared.names.GroupId.{GroupId}
use Rattle.mega_cluster.specs.declared.cluster.Cluster.{Cluster}
use Rattle.mega_disk.specs.VersionMaps.{Versions}
use Rattle.mega_entry.specs.declared.content.Content.{Content}
use Rattle.mega_replica.specs.declared.progress.Progress.{Progress}
use Rattle.mega_replica.specs.Following.{Follows}
use Rattle.mega_rules.specs.Logs.{log_of}
use Rattle.mega_rules.specs.Members.{has_rows}
use Rattle.mega_rules.specs.Met.{Crashes, Met}
use Rattle.mega_voter.specs.Holding.{HoldsMet, Recalls}
use Rattle.mega_wal.specs.declared.kept.Kept.{Kept}
use Rattle.mega_core.specs.of_node_laws.Deciding.{IsNoDecision}
use Rattle.mega_core.proofs.of_node_laws.Logs.{log_after}
use Rattle.mega_core.specs.Restarting.{HaveFollowed}

-- a crash is nothing that logs or records keep
pub crash_recalled : (kept : Kept) (starts : ℕ) (met : List Met) → Recalls kept starts met → Recalls kept starts (Crashes ∷ met)
crash_recalled kept starts met recalls = record {
  groups = recalls.groups;
  granted = recalls.granted;
  counted = recalls.counted;
  most = recalls.most;
  later = recalls.later;
  honest = (tt, recalls.honest);
}

pub crash_held : (records : List (List ℕ)) (starts : ℕ) (met : List Met) → HoldsMet records starts met → HoldsMet records starts (Crashes ∷ met)
crash_held records starts met holds = record { good = holds.good; agrees = holds.agrees; counted = holds.counted; later = holds.later; honest = (tt, holds.honest) }

-- and nothing that rows follow
pub crash_followed : (c : Cluster) (me : ℕ) (version : Versions) (progress : GroupId → Progress) (met : List Met) (stored : GroupId → ℕ)
    → Follows version progress (log_of met) stored → (has_rows c me ≡ false → (group : GroupId) → stored group ≡ 0) → HaveFollowed c me version progress (Crashes ∷ met)
crash_followed c me version progress met stored follows bare = record {
  stored = stored;
  follows = subst (λ (log : GroupId → List Content). Follows version progress log stored) (λ i group. sym (same group) i) follows;
  bare = bare;
}
  where
    same : (group : GroupId) → log_of (Crashes ∷ met) group ≡ log_of met group
    same group = log_after (Crashes ∷ []) met group (All-cons IsNoDecision Crashes [] refl (All-nil IsNoDecision))
