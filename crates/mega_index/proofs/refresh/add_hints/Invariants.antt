use Rattle.std.proofs.Common.{◌≡◌, true}
use Rattle.std.specs.List.{list_all}
use Rattle.mega_index.specs.Hints.{KeepsHints, is_hinted}
use Rattle.mega_index.proofs.refresh.add_hints.Given as goal

abbrev pub invariant-loop-entry : goal.invariant-loop-entry
invariant-loop-entry l = record {
  kept : KeepsHints l.initial.hints l.hints;
  there : list_all (λ entry. is_hinted l.hints entry l.group l.key) l.yielded ≡ true;
}
