-- The groups with a decided position are all that have entries.
use Rattle.std.proofs.Common.{◌≡◌, ◌||◌, Bool, true, false, cond, List, [], ◌∷◌, refl, sym, ap, ◌∙◌}
use Rattle.mega_base.specs.declared.names.GroupId.{GroupId}
use Rattle.mega_wal.specs.Same.{same_group}
use Rattle.mega_wal.proofs.Sames.{same_group_equal}
use Rattle.mega_replica.specs.Applying.{applied_log}
use Rattle.mega_rules.specs.Logs.{groups_of}
use Rattle.mega_rules.specs.Operations.{Now}
use Rattle.mega_rules.specs.Queues.{entries_of}
use Rattle.mega_rules.proofs.Groups.{has, no_log}
use Rattle.mega_queues.specs.Applied.{applied_of}
use Rattle.mega_queues.specs.Boxes.{AreAll, Logs, logs_of}

-- the log of a group that is there
among : (logs : Logs) (groups : List GroupId) (group : GroupId) → entries_of group (logs_of logs groups) ≡ cond (has group groups) (logs group) []
among logs [] group = refl
among logs (other ∷ groups) group = go (same_group other group) refl (among logs groups group)
  where
    go : (t : Bool) → same_group other group ≡ t → entries_of group (logs_of logs groups) ≡ cond (has group groups) (logs group) []
        → cond t (logs other) (entries_of group (logs_of logs groups)) ≡ cond (t || has group groups) (logs group) []
    go true e rest = ap logs (same_group_equal other group e)
    go false e rest = rest

pub all_applied : (now : Now) → AreAll (applied_of now) (groups_of now.met)
all_applied now group = among (applied_of now) (groups_of now.met) group ∙ go (has group (groups_of now.met)) refl
  where
    go : (t : Bool) → has group (groups_of now.met) ≡ t → cond t (applied_of now group) [] ≡ applied_of now group
    go true e = refl
    go false e = sym (ap (λ log. applied_log log (now.stored group)) (no_log now.met group e))
