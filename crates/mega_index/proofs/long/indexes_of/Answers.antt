use Rattle.std.proofs.Common.{◌∙◌, ap, sym, take, arith}
use Rattle.std.proofs.lemmas.List.{take_all}
use Rattle.mega_index.proofs.long.indexes_of.Goals as goal

pub returns-then-indexes-le64-clause-exact : goal.returns-then-indexes-le64-clause-exact
returns-then-indexes-le64-clause-exact c =
    sym (take_all 64 c.as_slice-indexes.result.now (omega arith)) ∙ ap (λ indexes. take 64 indexes) c.as_slice-indexes.ensures
