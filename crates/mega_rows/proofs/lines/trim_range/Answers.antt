use Rattle.std.proofs.Common.{◌∙◌}
use Rattle.mega_rows.proofs.Cleans.{range_cleaned, range_drops, range_drops_all}
use Rattle.mega_rows.proofs.lines.trim_range.Goals as goal

pub returns-in_err-trim_keys-clause-drops : goal.returns-in_err-trim_keys-clause-drops
returns-in_err-trim_keys-clause-drops c = range_drops c.args.lines.now c.trim_keys.new.lines c.args.from.now c.args.to.now c.args.below c.in_err-trim_keys.ensures.err.0 c.as_slice.result.now
    (c.as_slice.ensures.value ∙ c.in_ok-keys.ensures) c.in_err-trim_keys.ensures.err.1

pub returns-clause-exact : goal.returns-clause-exact
returns-clause-exact c = range_cleaned c.args.lines.now c.trim_keys.new.lines c.args.from.now c.args.to.now c.args.below c.as_slice.result.now (c.as_slice.ensures.value ∙ c.in_ok-keys.ensures) c.in_ok-trim_keys.ensures.ok

pub returns-clause-drops : goal.returns-clause-drops
returns-clause-drops c = range_drops_all c.args.lines.now c.trim_keys.new.lines c.args.from.now c.args.to.now c.args.below c.as_slice.result.now (c.as_slice.ensures.value ∙ c.in_ok-keys.ensures) c.in_ok-trim_keys.ensures.ok
