use Rattle.mega_index.proofs.Ordered.{Ascends}
use Rattle.mega_index.proofs.Wanting.{After, LeftWants}
use Rattle.mega_index.proofs.wanted.wanted.Given as goal

abbrev pub invariant-loop-entry : goal.invariant-loop-entry
invariant-loop-entry l = record {
  up : Ascends l.entry-iterator;
  after : After l.front l.entry-iterator;
  wants : LeftWants l.front l.initial.entry-iterator l.wanted l.entry-iterator;
}
