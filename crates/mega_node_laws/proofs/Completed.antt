-- A read that is complete has all entries through its position applied, and gives up nothing that was.
use Rattle.std.proofs.Common.{◌≡◌, ℕ, ◌≤◌, Bool, true, false, cond, List, Option, Some, None, refl, sym, subst, arith}
use Rattle.mega_base.specs.declared.names.Epoch.{Epoch}
use Rattle.mega_base.specs.declared.names.GroupId.{GroupId}
use Rattle.mega_coordinator.specs.declared.answers.NotValid.{NotValid}
use Rattle.mega_entry.specs.declared.content.Content.{Content}
use Rattle.mega_wal.specs.Same.{same_group}
use Rattle.mega_wal.proofs.Sames.{same_group_equal, same_group_self}
use Rattle.mega_voter.specs.of_read.declared.reading.Reading.{Reading}
use Rattle.mega_replica.specs.Applying.{after_read, applied}
use Rattle.mega_voter.specs.of_rules.Met.{Validates}
use Rattle.mega_voter.specs.of_rules.Logs.{log_of, prefix_of}
use Rattle.mega_voter.specs.of_rules.Coordinators.{refused_at}
use Rattle.mega_voter.specs.of_rules.Operations.{Now, Setting}
use Rattle.mega_voter.specs.of_rules.Acting.{completes_read, stored_with, validated_by, validates}
use Rattle.mega_node_laws.proofs.Applied.{read_applied_keeps, read_applies}
use Rattle.mega_node_laws.proofs.Logs.{log_stays}

-- so much is applied of a group
abbrev pub IsApplied : GroupId → ℕ → Now → Type 0
IsApplied group p now = p ≤ applied (log_of now.met group) (now.stored group)

validated_applied : (now : Now) (group : GroupId) (q : ℕ) (refusal : Option NotValid) (other : GroupId) (p : ℕ) → IsApplied other p now → IsApplied other p (validated_by now group q refusal)
validated_applied now group q (Some refusal) other p le = le
validated_applied now group q None other p le = subst (λ (log : List Content). p ≤ applied log (now.stored other)) (sym (log_stays (Validates group q) now.met other refl)) le

validates_applied : (s : Setting) (now : Now) (group : GroupId) (q : ℕ) (noted : Option Epoch) (other : GroupId) (p : ℕ) → IsApplied other p now → IsApplied other p (validates s now group q noted)
validates_applied s now group q None other p le = le
validates_applied s now group q (Some noted) other p le = validated_applied now group q (refused_at s.cluster now.met group q noted) other p le

abbrev stores : Now → (GroupId → ℕ) → Now
stores now stored = record { met = now.met; stored = stored; kept = now.kept; valid = now.valid; answers = now.answers; sends = now.sends }

pub completed_applied : (s : Setting) (now : Now) (group : GroupId) (r : Reading) (p : ℕ) → p ≤ prefix_of now.met group → p ≤ applied (log_of (completes_read s now group r p).met group) ((completes_read s now group r p).stored group)
completed_applied s now group r p le =
    validates_applied s (stores now (stored_with now.stored group count)) group p r.noted group p
    (subst (λ (t : Bool). p ≤ applied (log_of now.met group) (cond t count (now.stored group))) (sym (same_group_self group)) (read_applies p (log_of now.met group) (now.stored group) le))
  where
    count : ℕ
    count = after_read p (log_of now.met group) (now.stored group)

pub completed_keeps : (s : Setting) (now : Now) (group : GroupId) (r : Reading) (p : ℕ) (other : GroupId) → applied (log_of now.met other) (now.stored other) ≤ applied (log_of (completes_read s now group r p).met other) ((completes_read s now group r p).stored other)
completed_keeps s now group r p other =
    validates_applied s (stores now (stored_with now.stored group count)) group p r.noted other (applied (log_of now.met other) (now.stored other)) (by (same_group group other) refl)
  where
    count : ℕ
    count = after_read p (log_of now.met group) (now.stored group)

    by : (t : Bool) → same_group group other ≡ t → applied (log_of now.met other) (now.stored other) ≤ applied (log_of now.met other) (cond t count (now.stored other))
    by true is =
        subst (λ (g : GroupId). applied (log_of now.met g) (now.stored g) ≤ applied (log_of now.met g) count) (same_group_equal group other is) (read_applied_keeps p (log_of now.met group) (now.stored group))
    by false is = omega arith
