use Rattle.std.proofs.Common.{◌≡◌, drop}
use Rattle.mega_keys.specs.Reading.{with_front, values_at}
use Rattle.mega_keys.proofs.read.KeyReader.take_values.Given as goal

abbrev pub invariant-loop-kind : goal.invariant-loop-kind
invariant-loop-kind l = with_front l.values (values_at (drop l.kind-index l.kinds) l.self) ≡ values_at l.kinds l.initial.self
