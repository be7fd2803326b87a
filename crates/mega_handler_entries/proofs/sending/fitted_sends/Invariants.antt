use Rattle.std.proofs.Common.{◌≡◌, ◌++◌}
use Rattle.std.specs.Vec.Iter.{into_iter_items}
use Rattle.mega_index.specs.Fitted.{fitted_sends}
use Rattle.mega_handler_entries.proofs.sending.fitted_sends.Given as goal

abbrev pub invariant-loop-send : goal.invariant-loop-send
invariant-loop-send l = l.kept.items ++ fitted_sends l.schema l.group (into_iter_items l.send-iterator) ≡ fitted_sends l.schema l.group (into_iter_items l.initial.send-iterator)
