use Rattle.std.proofs.Common.{◌≡◌, ℕ, ◌≤◌, ◌-◌, List, Option, length}
use Rattle.mega_link.specs.Datagrams.{Datagram}
use Rattle.mega_two_turns.specs.Turns.{Drives}
use Rattle.mega_two_turns.proofs.turns.turn_often.Given as goal

abbrev pub invariant-loop-done : goal.invariant-loop-done
invariant-loop-done g l = record {
  within : l.done ≤ l.turns;
  room : 65507 ≤ length l.room;
  faults : g.L.Link.faults l.link ≡ g.L.Link.faults l.fn.link;
  run : (given : List (ℕ × Option Datagram)) × ((length given ≡ l.done) × Drives l.node l.patience l.fn.driving l.driving (g.C.Clock.readings l.fn.clock) (g.C.Clock.readings l.clock) (g.L.Link.taken l.fn.link) (g.L.Link.taken l.link) (g.L.Link.sent l.fn.link) (g.L.Link.sent l.link) given);
}

abbrev pub decreases-loop-done : goal.decreases-loop-done
decreases-loop-done g l = l.turns - l.done
