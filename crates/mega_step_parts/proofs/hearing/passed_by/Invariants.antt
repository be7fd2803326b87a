use Rattle.std.proofs.Common.{◌≡◌, take}
use Rattle.std.specs.Prelude.{All}
use Rattle.mega_step_parts.specs.Listening.{IsPassedBy}
use Rattle.mega_step_parts.proofs.hearing.passed_by.Given as goal

abbrev pub invariant-loop-operation : goal.invariant-loop-operation
invariant-loop-operation l = record {
  count : l.count ≡ l.operation-index;
  passed : All (IsPassedBy l.body) (take l.operation-index l.operations);
}
