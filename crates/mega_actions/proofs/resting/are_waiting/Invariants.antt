use Rattle.std.proofs.Common.{take}
use Rattle.std.specs.Prelude.{All}
use Rattle.mega_actions.specs.Waiting.{Waits}
use Rattle.mega_actions.proofs.resting.are_waiting.Given as goal

abbrev pub invariant-loop-operation : goal.invariant-loop-operation
invariant-loop-operation g l = All (Waits l.voter.logs.kept) (take l.operation-index l.operations)
