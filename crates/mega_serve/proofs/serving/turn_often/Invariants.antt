use Rattle.std.proofs.Common.{◌≡◌, ℕ, ◌≤◌, ◌-◌, List, Option, length}
use Rattle.mega_link.specs.Datagrams.{Datagram}
use Rattle.mega_page.specs.Causes.{HaveGone}
use Rattle.mega_serve.specs.Turns.{HasTurned, Runs}
use Rattle.mega_serve.proofs.serving.turn_often.Given as goal

abbrev pub invariant-loop-done : goal.invariant-loop-done
invariant-loop-done g l = record {
  within : l.done ≤ l.turns;
  room : 65507 ≤ length l.room;
  members : g.S.Steps.members l.node ≡ g.S.Steps.members l.fn.node;
  me : g.S.Steps.me l.node ≡ g.S.Steps.me l.fn.node;
  later : HaveGone (g.S.Steps.devices l.fn.node) (g.S.Steps.devices l.node);
  count : g.O.Sink.faults l.fn.out ≤ g.O.Sink.faults l.out;
  run : (given : List (ℕ × Option Datagram)) × (HasTurned l.done (g.C.Clock.readings l.fn.clock) (g.C.Clock.readings l.clock) (g.L.Link.taken l.fn.link) (g.L.Link.taken l.link) given ×
      Runs g.S.Steps l.fn.node l.fn.waiting.items l.node l.waiting.items (g.O.Sink.held l.fn.out) (g.O.Sink.held l.out) (g.L.Link.sent l.fn.link) (g.L.Link.sent l.link) given);
}

abbrev pub decreases-loop-done : goal.decreases-loop-done
decreases-loop-done g l = l.turns - l.done
