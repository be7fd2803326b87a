use Rattle.std.proofs.Common.{List, subst}
use Rattle.mega_runs.specs.declared.index.Block.{Block}
use Rattle.mega_runs.specs.Index.{spot_of_block}
use Rattle.mega_runs.specs.Ranges.{IsBetween}
use Rattle.mega_runs.proofs.Ranging.{range_spanned}
use Rattle.mega_runs.proofs.span.span_within.Goals as goal

pub returns : goal.returns
returns c file end versions is =
    let run = c.args.run.now in
    range_spanned file end versions run c.args.from.now c.args.to.now c.between.result.now c.span_of.result is
    (subst (λ (l : List Block). IsBetween spot_of_block c.args.from.now c.args.to.now l c.between.result.now) c.as_slice.ensures.value c.between.ensures) c.span_of.ensures.none c.span_of.ensures.some
