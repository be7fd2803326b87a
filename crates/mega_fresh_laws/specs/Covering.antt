-- What an operation read through, as each moment of a tape shows it: the first entries of a log, through a position that covers each that was decided before
-- the operation began, as long as leases are safe by then (CIDR 2011, current reads).
use Rattle.std.specs.Prelude.{◌≡◌, ℕ, ◌≤◌, false, if◌then◌else◌, List, [], ◌∷◌}
use Rattle.mega_base.specs.declared.names.GroupId.{GroupId}
use Rattle.mega_base.specs.declared.names.NodeId.{NodeId}
use Rattle.mega_base.specs.declared.names.OpId.{OpId}
use Rattle.mega_base.specs.declared.names.Position.{Position}
use Rattle.mega_cluster.specs.declared.cluster.Cluster.{Cluster}
use Rattle.mega_entry.specs.declared.content.Content.{Content}
use Rattle.mega_wal.specs.Same.{same_op}
use Rattle.mega_leased_laws.specs.of_settled_laws.of_run_laws.of_tape_laws.of_promises.of_transcript.declared.item.Item.{Item}
use Rattle.mega_leased_laws.specs.of_settled_laws.of_run_laws.of_tape_laws.of_promises.of_transcript.declared.item.Item.TheVariants.{Begin, Decide}
use Rattle.mega_leased_laws.specs.of_settled_laws.of_run_laws.of_tape_laws.of_promises.Messages.{is_unsafe}
use Rattle.mega_leased_laws.specs.of_settled_laws.of_run_laws.of_tape_laws.of_promises.Promises.{Stands}
use Rattle.mega_leased_laws.specs.of_settled_laws.of_run_laws.of_tape_laws.Writes.{Usage}
use Rattle.mega_fresh_laws.specs.FarEnough.{IsFarItem}

-- what stood before an operation began; nothing where it did not begin
abbrev pub before_begin : List Item → OpId → List Item
before_begin [] op = []
before_begin (Begin began text ∷ before) op = if same_op began op then before else before_begin before op
before_begin (_ ∷ before) op = before_begin before op

-- a position covers each that was decided before the operation began, if leases are safe by this moment
abbrev pub Covers : List Item → OpId → GroupId → ℕ → Type 0
Covers tape op group p = is_unsafe tape ≡ false → (node : NodeId) (n : Position) (entry : Content) → Stands (Decide node group n entry) (before_begin tape op) → n.0 ≤ p

-- each answer and each proposal, by what stood before it: what an operation read through covers each position that was decided before it began
abbrev pub IsFreshItem : Cluster → Usage → List Item → Item → Type 0
IsFreshItem c usage = IsFarItem Covers c usage
