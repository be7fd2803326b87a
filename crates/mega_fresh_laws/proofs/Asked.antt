-- A poll covers each position that was decided before its operation first asked about the group.
use Rattle.std.proofs.Common.{ℕ, ◌≡◌, ◌≤◌, false, List, subst, arith}
use Rattle.mega_base.specs.declared.names.GroupId.{GroupId}
use Rattle.mega_base.specs.declared.names.NodeId.{NodeId}
use Rattle.mega_base.specs.declared.names.OpId.{OpId}
use Rattle.mega_base.specs.declared.names.Position.{Position}
use Rattle.mega_cluster.specs.declared.cluster.Cluster.{Cluster}
use Rattle.mega_entry.specs.declared.content.Content.{Content}
use Rattle.mega_handler.specs.Named.{Meanings}
use Rattle.mega_wire.specs.declared.message.Body.TheVariants.{Top}
use Rattle.mega_leased_laws.specs.of_settled_laws.of_run_laws.of_tape_laws.of_promises.of_transcript.declared.item.Item.{Item}
use Rattle.mega_leased_laws.specs.of_settled_laws.of_run_laws.of_tape_laws.of_promises.of_transcript.declared.item.Item.TheVariants.{Decide, Sent}
use Rattle.mega_leased_laws.specs.of_settled_laws.of_run_laws.of_tape_laws.of_promises.Promises.{Stands}
use Rattle.mega_leased_laws.specs.of_settled_laws.of_run_laws.of_tape_laws.of_promises.Runs.{Happening, IsRun}
use Rattle.mega_leased_laws.specs.of_settled_laws.of_run_laws.of_tape_laws.Chosen.{Chosen}
use Rattle.mega_leased_laws.specs.of_settled_laws.of_run_laws.of_tape_laws.Lawful.{Lawful, message}
use Rattle.mega_leased_laws.specs.of_settled_laws.of_run_laws.of_tape_laws.Places.{Place}
use Rattle.mega_leased_laws.specs.of_settled_laws.of_run_laws.of_tape_laws.Polls.{ArePolls, IsPolled}
use Rattle.mega_leased_laws.proofs.of_settled_laws.of_run_laws.of_tape_laws.Agreement.{decided_chosen}
use Rattle.mega_leased_laws.proofs.of_settled_laws.of_run_laws.of_tape_laws.Majorities.{Shared, meet}
use Rattle.mega_leased_laws.proofs.of_settled_laws.of_run_laws.Runs.{run_lawful, run_polls}
use Rattle.mega_leased_laws.specs.of_settled_laws.Covering.{Earlier}
use Rattle.mega_leased_laws.proofs.of_settled_laws.of_run_laws.of_tape_laws.Earlier.{lawful_before}
use Rattle.mega_leased_laws.specs.of_valid_laws.Leases.{has_polled}
use Rattle.mega_leased_laws.proofs.of_valid_laws.Joint.{told_above}

most_of : (a b d : ℕ) → a ≤ b → b ≤ d → a ≤ d
most_of a b d h k = omega (arith, h, k)

pub poll_covers : (c : Cluster) (tape : List Item) → Lawful c tape → ArePolls tape → (op : OpId) (group : GroupId) (n p : Position) (moment : List Item) → Earlier moment tape → has_polled moment op group ≡ false → (node : NodeId) (entry : Content)
    → Stands (Decide node group n entry) moment → IsPolled c tape op group p → n.0 ≤ p.0
poll_covers c tape l w op group n p moment e none node entry stands polled =
    let told = (polled.heard) voter.node voter.second in
    most_of n.0 (told.0).0 p.0
    (told_above e.later moment op group n told.0 voter.node (told.1).number op.node.0 chosen.ballot entry (subst ArePolls e.is w) none ((chosen.each) voter.node voter.first)
    (subst (Stands (Sent (told.1).number (message voter.node op.node.0 (Top op group told.0)))) e.is (told.1).sent)) told.2
  where
    place : Place
    place = record { group = group; position = n }

    chosen : Chosen c place moment entry
    chosen = decided_chosen c place moment (lawful_before c e.later moment (subst (Lawful c) e.is l)) node entry stands

    voter : Shared chosen.test polled.test
    voter = meet c chosen.test polled.test chosen.majority polled.majority

pub run_poll_covers : (c : Cluster) (first : Meanings) (events : List Happening) (tape : List Item) → IsRun c first events tape → (op : OpId) (group : GroupId) (n p : Position) (moment : List Item) → Earlier moment tape → has_polled moment op group ≡ false
    → (node : NodeId) (entry : Content) → Stands (Decide node group n entry) moment → IsPolled c tape op group p → n.0 ≤ p.0
run_poll_covers c first events tape run = poll_covers c tape (run_lawful c first events tape run) (run_polls c first events tape run)
