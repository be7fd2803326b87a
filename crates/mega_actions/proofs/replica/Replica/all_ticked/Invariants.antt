use Rattle.std.proofs.Common.{◌≡◌, true, All, fold}
use Rattle.std.specs.Prelude.{None}
use Rattle.std.specs.Vec.Iter.{into_iter_items}
use Rattle.mega_handler.specs.Named.{Meanings}
use Rattle.mega_meanings.specs.Means.{Means}
use Rattle.mega_answers.specs.of_node_laws.About.{IsAbout}
use Rattle.mega_rules.specs.Operations.{Now}
use Rattle.mega_rules.specs.Steps.{ticked}
use Rattle.mega_actions.specs.IsAt.{IsAt, setting_of}
use Rattle.mega_actions.specs.Leaves.{Leaves}
use Rattle.mega_actions.specs.Turns.{IsServable}
use Rattle.mega_answers.specs.of_step_work.Working.{work_of}
use Rattle.mega_actions.proofs.replica.Replica.all_ticked.Given as goal

abbrev pub invariant-loop-operation : goal.invariant-loop-operation
invariant-loop-operation g l = record {
  state : (h : Meanings) (now : Now) → g.V.Versions.is_told ≡ true → Means (g.H.QueueHandlers.meant l.initial.handlers) h → All IsAbout l.yielded
      → IsAt g.V.Versions.version h l.initial.self now.met now.stored
      → IsAt g.V.Versions.version h l.self
      (fold (ticked (setting_of l.initial.self h) l.fn.clock) now l.yielded).met (fold (ticked (setting_of l.initial.self h) l.fn.clock) now l.yielded).stored;
  work : (h : Meanings) (now : Now) → g.V.Versions.is_told ≡ true → Means (g.H.QueueHandlers.meant l.initial.handlers) h → All IsAbout l.yielded
      → IsAt g.V.Versions.version h l.initial.self now.met now.stored
      → l.initial.work ≡ work_of now → l.work ≡ work_of (fold (ticked (setting_of l.initial.self h) l.fn.clock) now l.yielded);
  leaves : Leaves g.V.Versions None (g.H.QueueHandlers.meant l.initial.handlers) (g.H.QueueHandlers.meant l.handlers) l.initial.self l.self;
  built : All IsServable l.fn.operations → All IsServable (into_iter_items l.operation-iterator);
}
