-- What a node has of a group that is valid there covers each decision of a run.
use Rattle.std.proofs.Common.{◌≡◌, ℕ, ◌<◌, ◌≤◌, true, List, arith}
use Rattle.mega_base.specs.declared.names.Epoch.{Epoch}
use Rattle.mega_base.specs.declared.names.GroupId.{GroupId}
use Rattle.mega_base.specs.declared.names.NodeId.{NodeId}
use Rattle.mega_base.specs.declared.names.Position.{Position}
use Rattle.mega_cluster.specs.declared.cluster.Cluster.{Cluster}
use Rattle.mega_entry.specs.declared.content.Content.{Content}
use Rattle.mega_handler.specs.Named.{Meanings}
use Rattle.mega_settled_laws.specs.of_tape_laws.of_promises.of_transcript.declared.item.Item.{Item}
use Rattle.mega_settled_laws.specs.of_tape_laws.of_promises.of_transcript.declared.item.Item.TheVariants.{Decide}
use Rattle.mega_settled_laws.specs.of_tape_laws.of_promises.Promises.{Stands}
use Rattle.mega_settled_laws.specs.of_tape_laws.of_promises.Runs.{Happening, IsRun}
use Rattle.mega_settled_laws.specs.of_tape_laws.of_promises.of_rules.Members.{full_nodes}
use Rattle.mega_settled_laws.proofs.of_run_laws.Runs.{run_polls}
use Rattle.mega_settled_laws.specs.of_tape_laws.Places.{In}
use Rattle.mega_settled_laws.proofs.Behind.{run_decided}
use Rattle.mega_valid_laws.specs.Leases.{AreLeased, HasAtLeast, IsHeld, IsTop, accepted, decided, valid_on}
use Rattle.mega_valid_laws.proofs.Joint.{valid_has}

below_top : (tape : List Item) (node : ℕ) (group : GroupId) (n p : Position) → IsTop tape node group p → HasAtLeast tape node group n → n.0 ≤ p.0
below_top tape node group n p top (accepted key to op m b e le s) = let most = top.accepted key to op m b e s in omega (arith, le, most)
below_top tape node group n p top (decided m e le s) = let most = top.decided m e s in omega (arith, le, most)

pub run_local : (c : Cluster) (first : Meanings) (events : List Happening) (tape : List Item) → IsRun c first events tape → AreLeased c tape → (node : ℕ) (group : GroupId) (n p : Position) (entry : Content) (other : NodeId) (epoch : Epoch)
    → In node (full_nodes c) → 0 < n.0 → Stands (Decide other group n entry) tape → valid_on tape node group ≡ true → IsHeld c tape node epoch → IsTop tape node group p → n.0 ≤ p.0
run_local c first events tape run leased node group n p entry other epoch full above stands valid held top =
    below_top tape node group n p top
    (valid_has c tape leased (run_polls c first events tape run) node group n entry epoch full above (run_decided c first events tape run other (record { group = group; position = n }) entry stands) valid held)
