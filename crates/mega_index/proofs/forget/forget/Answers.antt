use Rattle.mega_index.specs.Keeping.{marks_in}
use Rattle.mega_index.proofs.Forgetting.{all_spared}
use Rattle.mega_index.proofs.forget.forget.Goals as goal

pub loop-one-preserved : goal.loop-one-preserved
loop-one-preserved c = λ h.
    all_spared c.args.schema.now c.loop-one.hints c.forget_row.new.hints c.args.group.now c.one-item.result.key _ (marks_in c.args.groups.now.entries)
    c.forget_row.ensures c.row_at-row.ensures (c.loop-one.invariant h)
