-- Why a node of a world does not step: never for its rows, which are in memory.
use Rattle.std.proofs.Common.{◌≡◌, ◌<◌, ◌^◌, ℕ, true, false, Some, inl, inr, refl, subst, sym, ◌∙◌, arith}
use Rattle.mega_disk.specs.declared.records.Records.{Ghosts as RecordGhosts}
use Rattle.mega_leases.specs.Taking.{IsLate}
use Rattle.mega_voter.specs.Used.{LogUsed}
use Rattle.mega_wal.specs.declared.answers.LogFault.{LogFault}
use Rattle.mega_wal.specs.declared.answers.LogFault.TheVariants as log
use Rattle.mega_durable.specs.of_core.of_node_events.declared.fault.StepFault.{StepFault}
use Rattle.mega_durable.specs.of_core.of_node_events.declared.fault.StepFault.TheVariants as fault
use Rattle.mega_cluster.specs.declared.cluster.Cluster.{Cluster}
use Rattle.mega_handler.specs.Named.{Meanings}
use Rattle.mega_rules.specs.Operations.{Node as RuleNode}
use Rattle.mega_rules.specs.Steps.{Begin, Event, Take, Tick}
use Rattle.mega_durable.specs.of_core.Stepping.{IsStrange, IsTooLate, IsUnserved}
use Rattle.mega_places.specs.Faults.{is_strange}
use Rattle.mega_places.specs.Stepping.{IsNear}

-- records in memory that are open lack memory alone, where their device did not fail
pub log_memory : {R : Type 0} (store : RecordGhosts R) (length : ℕ) (why : LogFault) (old new : R) → LogUsed store length (Some why) old new → store.is_spent old ≡ false → length ≡ 0 → (why ≡ log.DiskFault → ⊥) → why ≡ log.NoMemory
log_memory store length log.DiskFault old new used open_now short not_disk = absurd (not_disk refl)
log_memory store length (log.Full n) old new used open_now short not_disk =
    let full = used.full n refl in
    let is : n ≡ length = full.0.1 in
    let more : 2 ^ 40 < n = full.0.2 in absurd (omega (arith, is, more, short))
log_memory store length log.Spent old new used open_now short not_disk = let no : false ≡ true = sym open_now ∙ (used.spent refl).0 in let none : ⊥ = cc in absurd none
log_memory store length (log.BadRecord n) old new used open_now short not_disk = absurd (used.good n refl)
log_memory store length log.NoMemory old new used open_now short not_disk = refl

-- no fault of these is strange
pub not_strange : (why : StepFault) → (why ≡ fault.Unserved → ⊥) → (why ≡ fault.Stranger → ⊥) → (why ≡ fault.Late → ⊥) → is_strange why ≡ false
not_strange fault.DiskFault built ours timely = refl
not_strange (fault.Full n) built ours timely = refl
not_strange (fault.BadRecord n) built ours timely = refl
not_strange fault.Unserved built ours timely = absurd (built refl)
not_strange fault.Stranger built ours timely = absurd (ours refl)
not_strange fault.Late built ours timely = absurd (timely refl)
not_strange fault.NoMemory built ours timely = refl

-- an event that is near is of no stranger, not too late, and served
pub is_no_stranger : (c : Cluster) (event : Event) → IsNear c event → IsStrange event → ⊥
is_no_stranger c (Take message) near strange = near (inl strange)
is_no_stranger c (Begin request text) near strange = strange
is_no_stranger c (Tick now) near strange = strange

pub is_timely : (Is : Meanings → RuleNode → Type 0) {members : Cluster} (c : Cluster) (event : Event) → members ≡ c → IsNear c event → IsTooLate Is members event → (h : Meanings) (node : RuleNode) → Is h node → ⊥
is_timely Is c (Take message) same near late h node is = near (inr (subst (λ (cluster : Cluster). IsLate cluster message.body) same (late h node is)))
is_timely Is c (Begin request text) same near late h node is = late
is_timely Is c (Tick now) same near late h node is = late

pub may_serve : (Is : Meanings → RuleNode → Type 0) (c : Cluster) (event : Event) → IsNear c event → IsUnserved Is event → (h : Meanings) (node : RuleNode) → Is h node → ⊥
may_serve Is c (Take message) near refused h node is = refused h node is
may_serve Is c (Begin request text) near refused h node is = let clash : true ≡ false = sym near ∙ refused in cc
may_serve Is c (Tick now) near refused h node is = refused h node is
