-- What an operation read through, as each moment of a tape shows it: the first entries of a log, through a position at or above each that its own node had
-- decided before it began.
use Rattle.std.specs.Prelude.{ℕ, ◌≤◌, List}
use Rattle.mega_base.specs.declared.names.GroupId.{GroupId}
use Rattle.mega_base.specs.declared.names.NodeId.{NodeId}
use Rattle.mega_base.specs.declared.names.OpId.{OpId}
use Rattle.mega_base.specs.declared.names.Position.{Position}
use Rattle.mega_cluster.specs.declared.cluster.Cluster.{Cluster}
use Rattle.mega_entry.specs.declared.content.Content.{Content}
use Rattle.mega_handler.specs.Named.{Meanings}
use Rattle.mega_fresh_laws.specs.of_leased_laws.of_settled_laws.of_run_laws.of_tape_laws.of_promises.of_transcript.declared.item.Item.{Item}
use Rattle.mega_fresh_laws.specs.of_leased_laws.of_settled_laws.of_run_laws.of_tape_laws.of_promises.of_transcript.declared.item.Item.TheVariants.{Decide}
use Rattle.mega_fresh_laws.specs.of_leased_laws.of_settled_laws.of_run_laws.of_tape_laws.of_promises.of_rules.Steps.{applied_at}
use Rattle.mega_fresh_laws.specs.of_leased_laws.of_settled_laws.of_run_laws.of_tape_laws.of_promises.Runs.{Happening, IsRun, goes_on, opening}
use Rattle.mega_fresh_laws.specs.of_leased_laws.of_settled_laws.of_run_laws.of_tape_laws.of_promises.Promises.{Stands}
use Rattle.mega_fresh_laws.specs.of_leased_laws.of_settled_laws.of_run_laws.of_tape_laws.Writes.{Usage}
use Rattle.mega_fresh_laws.specs.Covering.{before_begin}
use Rattle.mega_fresh_laws.specs.FarEnough.{IsFarItem}

-- a position is at or above each that the operation's own node had decided of the group before the operation began
abbrev pub Reaches : List Item → OpId → GroupId → ℕ → Type 0
Reaches tape op group p = (n : Position) (entry : Content) → Stands (Decide op.node group n entry) (before_begin tape op) → n.0 ≤ p

-- how many entries of a group a node has applied where a run has come to its end
abbrev pub applied_by : (c : Cluster) (first : Meanings) (events : List Happening) (tape : List Item) → IsRun c first events tape → NodeId → GroupId → ℕ
applied_by c first events tape run node group = applied_at ((goes_on c run.cuts (opening c first) events).node node.0).met ((goes_on c run.cuts (opening c first) events).node node.0).stored group

-- each answer and each proposal, by what stood before it: what an operation read through reaches each position that its own node had decided before it began
abbrev pub IsReachingItem : Cluster → Usage → List Item → Item → Type 0
IsReachingItem c usage = IsFarItem Reaches c usage
