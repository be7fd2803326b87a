use Rattle.std.proofs.Common.{◌≡◌, ◌++◌, ℕ, List}
use Rattle.std.specs.List.{All}
use Rattle.mega_cluster.specs.declared.cluster.Cluster.{Cluster}
use Rattle.mega_places.specs.of_promises.of_transcript.declared.item.Item.{Item}
use Rattle.mega_places.specs.of_promises.of_transcript.Lines.{HasLine}
use Rattle.mega_places.specs.of_promises.of_transcript.Tape.{newest}
use Rattle.mega_places.specs.of_voter.of_rules.Operations.{Node as RuleNode}
use Rattle.mega_places.specs.of_promises.Runs.{with_items}
use Rattle.mega_safety.specs.Lapses.{KnowsLeases}
use Rattle.mega_places.specs.Members.{AreMembers}
use Rattle.mega_world.specs.Shown.{notes_shown}
use Rattle.mega_world.proofs.showing.put_all.Given as goal

abbrev pub invariant-loop-note : goal.invariant-loop-note
invariant-loop-note l =
    record {
      tape :
          (c : Cluster) (ruled : ℕ → RuleNode) (earlier : List Item) → AreMembers c l.places ruled → KnowsLeases l.initial.safety ruled (newest (earlier ++ l.initial.tape.items))
          → newest (earlier ++ l.tape.items) ≡ with_items c ruled (newest (earlier ++ l.initial.tape.items)) (notes_shown l.me l.yielded);
      leases : (c : Cluster) (ruled : ℕ → RuleNode) (earlier : List Item) → AreMembers c l.places ruled → KnowsLeases l.initial.safety ruled (newest (earlier ++ l.initial.tape.items)) → KnowsLeases l.safety ruled (newest (earlier ++ l.tape.items));
      lines : All HasLine l.initial.tape.items → All HasLine (notes_shown l.me l.yielded) → All HasLine l.tape.items;
    }
