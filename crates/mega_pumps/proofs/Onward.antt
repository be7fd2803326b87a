-- What is noted of logs is noted of longer ones.
use Rattle.std.proofs.Common.{◌≡◌, ◌∙◌, ap, sym, subst, ℕ, ◌≤◌, List, ◌++◌, take, length, arith}
use Rattle.mega_base.specs.declared.names.GroupId.{GroupId}
use Rattle.mega_entry.specs.declared.content.Content.{Content}
use Rattle.mega_node_laws.proofs.Applied.{applied_within}
use Rattle.mega_queues.specs.Boxes.{Logs}
use Rattle.mega_queues.specs.Followed.{Represents}
use Rattle.mega_replica.specs.Applying.{applied}
use Rattle.mega_pumps.specs.declared.digest.Digest.{Digest}
use Rattle.mega_pumps.specs.Reach.{fronts, through_at}
use Rattle.mega_pumps.specs.Notes.{Notes}
use Rattle.mega_pumps.proofs.Fronts.{take_front}

pub notes_on : (log longer : Logs) (stored after : GroupId → ℕ) (digest : Digest) → ((group : GroupId) → (more : List Content) × (longer group ≡ log group ++ more))
    → ((group : GroupId) → applied (log group) (stored group) ≤ applied (longer group) (after group)) → Notes log stored digest → Notes longer after digest
notes_on log longer stored after digest grows further kept = record {
  queues = subst (λ (logs : Logs). Represents logs digest.queues) (λ i group. same group i) kept.queues;
  within = λ group. let a = kept.within group in let b = further group in omega arith;
}
  where
    same : (group : GroupId) → take (through_at digest.through group) (log group) ≡ take (through_at digest.through group) (longer group)
    same group =
        let le : through_at digest.through group ≤ length (log group) = (let a = kept.within group in let b = applied_within (log group) (stored group) in omega arith) in
        sym (ap (take (through_at digest.through group)) (grows group).1 ∙ take_front (log group) (grows group).0 (through_at digest.through group) le)
