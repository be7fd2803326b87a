use Rattle.mega_index.specs.Forgetting.{Spares}
use Rattle.mega_index.proofs.forget.drop_all_stale.Given as goal

abbrev pub invariant-loop-entry : goal.invariant-loop-entry
invariant-loop-entry l = Spares l.group l.key l.now l.initial.hints l.hints
