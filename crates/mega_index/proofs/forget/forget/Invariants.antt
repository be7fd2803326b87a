use Rattle.std.proofs.Common.{◌≡◌, true}
use Rattle.mega_index.specs.Hints.{all_hinted}
use Rattle.mega_index.specs.Keeping.{marks_in}
use Rattle.mega_index.proofs.forget.forget.Given as goal

abbrev pub invariant-loop-one : goal.invariant-loop-one
invariant-loop-one l = all_hinted l.schema l.initial.hints (marks_in l.groups.entries) ≡ true → all_hinted l.schema l.hints (marks_in l.groups.entries) ≡ true
