use Rattle.std.proofs.Common.{◌≡◌, ◌-◌, true}
use Rattle.std.specs.Prelude.{None}
use Rattle.mega_handler.specs.Named.{Meanings}
use Rattle.mega_meanings.specs.Means.{Means}
use Rattle.mega_answers.specs.of_node_laws.About.{IsAbout}
use Rattle.mega_rules.specs.Operations.{Now}
use Rattle.mega_actions.specs.IsAt.{IsAt, setting_of}
use Rattle.mega_actions.specs.Leaves.{Leaves}
use Rattle.mega_actions.proofs.Turned.{Goes}
use Rattle.mega_actions.proofs.replica.Replica.acts_within.Given as goal

abbrev pub invariant-loop-turn : goal.invariant-loop-turn
invariant-loop-turn g l = record {
  goes : (h : Meanings) (now : Now) → g.V.Versions.is_told ≡ true → Means (g.H.QueueHandlers.meant l.initial.handlers) h → IsAbout l.initial.next
      → IsAt g.V.Versions.version h l.initial.self now.met now.stored
      → Goes g.V.Versions.version h l.self l.initial.work l.work (setting_of l.initial.self h) now l.initial.next l.most (l.most - l._turn) l.next;
  leaves : Leaves g.V.Versions None (g.H.QueueHandlers.meant l.initial.handlers) (g.H.QueueHandlers.meant l.handlers) l.initial.self l.self;
  asked : l.next.request ≡ l.initial.next.request;
}
