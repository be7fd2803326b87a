-- An operation by what stays of it and its phase.
use Rattle.mega_operations.specs.declared.kept.OperationBase.{OperationBase}
use Rattle.mega_rules.specs.Operations as rules

abbrev pub whole : OperationBase → rules.Phase → rules.Operation
whole kept phase = record { id = kept.id; request = kept.request; began = kept.began; visited = kept.visited; message = kept.message; phase = phase }
