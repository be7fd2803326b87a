use Rattle.mega_entry.specs.declared.content.Cut.{Cut}
use Rattle.mega_well_formed.proofs.Deciding.{sum_end, sum_fails, sum_step}
use Rattle.mega_well_formed.proofs.cuts.have_writes.Goals as goal

pub loop-cut-preserved : goal.loop-cut-preserved
loop-cut-preserved c =
    sum_step (λ (cut : Cut). cut.writes) c.args.cuts.now c.loop-cut.cut-index _ c.loop-cut.left c.in-Some.less _ c.loop-cut-test.true c.loop-cut.invariant c.in-Some.ensures

pub returns-in-None : goal.returns-in-None
returns-in-None c = sum_fails (λ (cut : Cut). cut.writes) c.args.cuts.now c.loop-cut.cut-index (record { index = 0; writes = 0; sends = 0 }) c.loop-cut.left _ c.loop-cut-test.true c.loop-cut.invariant c.in-None.ensures

pub returns : goal.returns
returns c = sum_end (λ (cut : Cut). cut.writes) c.args.cuts.now c.loop-cut.cut-index c.loop-cut.left _ c.loop-cut-test.false c.loop-cut.invariant
