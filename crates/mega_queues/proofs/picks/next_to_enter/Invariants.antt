use Rattle.std.proofs.Common.{◌≡◌, drop}
use Rattle.std.specs.Prelude.{find, flat_map}
use Rattle.mega_queues.specs.Boxes.{sent_at}
use Rattle.mega_queues.specs.Picks.{can_enter}
use Rattle.mega_queues.proofs.picks.next_to_enter.Given as goal

abbrev pub invariant-loop-group : goal.invariant-loop-group
invariant-loop-group l =
    find (can_enter l.op l.boxes) (flat_map (sent_at l.outboxes) (drop l.group-index l.groups)) ≡ find (can_enter l.op l.boxes) (flat_map (sent_at l.outboxes) l.groups)
