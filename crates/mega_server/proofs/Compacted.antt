-- A step behind a compaction of the node's log, and behind a spill of its rows, is the step.
use Rattle.std.proofs.Common.{◌≡◌, ◌⊎◌, ℕ, ◌+◌, ◌-◌, ◌^◌, ◌≤◌, min, Bool, true, false, cond, List, Option, sym, subst, ◌∙◌, arith}
use Rattle.mega_cluster.specs.declared.cluster.Cluster.{Cluster}
use Rattle.mega_disk.specs.declared.records.Records.{Ghosts}
use Rattle.mega_disk.specs.declared.versions.Versions.{Ghosts as VersionGhosts}
use Rattle.mega_disk.specs.VersionMaps.{Marks, Versions}
use Rattle.mega_handler.specs.Named.{Meaning, Meanings}
use Rattle.mega_rules.specs.Operations.{Node as RuleNode, Setting}
use Rattle.mega_rules.specs.Steps.{Event}
use Rattle.mega_replica.specs.Used.{NothingSpilled}
use Rattle.mega_durable.specs.of_actions.of_step_work.Settings.{setting}
use Rattle.mega_durable.specs.of_core.of_node_events.declared.fault.StepFault.{StepFault}
use Rattle.mega_durable.specs.of_core.declared.node.Node.{Node}
use Rattle.mega_durable.specs.Compacting.{AtEachUp}
use Rattle.mega_durable.specs.Spilling.{AreSpilled}
use Rattle.mega_durable.specs.Standing.{IsUp, MayHappen}
use Rattle.mega_durable.specs.Stepped.{AtEach}

-- what is said of each node of the rules under which the compacted node is up, is said of each under which it was up before
pub at_compacted : {R V : Type 0} (store : Ghosts R) (version : V → Versions) (makes : List ℕ → Option Meaning) (old mid : Node R V) (event : Event) (Is : Meanings → Setting → RuleNode → Type 0)
    → AtEachUp store version old (λ h ruled. IsUp store version h mid ruled) → mid.replica.members ≡ old.replica.members → mid.replica.me ≡ old.replica.me
    → AtEach store version makes mid event Is → AtEach store version makes old event Is
at_compacted store version makes old mid event Is stays members me each = λ h ruled is may.
    coe 0 1 (i. Is h (setting (members i) (me i) h) ruled) (each h ruled (stays h ruled is) (coe 0 1 (i. MayHappen makes (setting (sym members i) (sym me i) h) ruled event) may))

-- one record of all before, and that of the step where it appends one
pub at_most_two : (mid new : ℕ) (appends : Bool) → mid ≡ 1 → new ≡ mid + cond {A = ℕ} appends 1 0 → new ≤ 2
at_most_two mid new true one is = omega arith
at_most_two mid new false one is = omega arith

-- ---- behind the compaction the rows are spilled
pub at_spilled : {R V : Type 0} (store : Ghosts R) (version : V → Versions) (old mid new : Node R V) → AtEachUp store version old (λ h ruled. IsUp store version h mid ruled)
    → AtEachUp store version mid (λ h ruled. IsUp store version h new ruled) → AtEachUp store version old (λ h ruled. IsUp store version h new ruled)
at_spilled store version old mid new first second = λ h ruled is. second h ruled (first h ruled is)

-- rows that were spilled have their marks as long as nothing else is spilled
pub still_spilled : {V : Type 0} (store : VersionGhosts V) (marks : Marks) (old mid new : V) → AreSpilled store marks old mid → NothingSpilled store mid new → AreSpilled store marks old new
still_spilled store marks old mid new spilled rests = record {
  marked = λ durable. rests.marks ∙ spilled.marked durable;
  durable = λ told durable found left. spilled.durable told durable found (rests.within found left);
  fits = spilled.fits;
}
