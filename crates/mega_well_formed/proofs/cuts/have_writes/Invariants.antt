use Rattle.std.proofs.Common.{◌≡◌, drop}
use Rattle.std.specs.Prelude.{sum_by}
use Rattle.mega_entry.specs.declared.content.Cut.{Cut}
use Rattle.mega_well_formed.proofs.Deciding.{Decides}
use Rattle.mega_well_formed.proofs.cuts.have_writes.Given as goal

abbrev pub invariant-loop-cut : goal.invariant-loop-cut
invariant-loop-cut l = Decides (sum_by (λ (cut : Cut). cut.writes) (drop l.cut-index l.cuts) ≡ l.left) (sum_by (λ (cut : Cut). cut.writes) l.cuts ≡ l.writes)
