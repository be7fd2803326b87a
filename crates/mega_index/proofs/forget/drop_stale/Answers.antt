use Rattle.std.proofs.Common.{◌∙◌, sym}
use Rattle.mega_index.proofs.Forgetting.{spared}
use Rattle.mega_index.proofs.forget.drop_stale.Goals as goal

pub returns : goal.returns
returns c = spared c.args.entry.now c.args.group.now c.args.key.now c.args.now.now c.args.hints.now c.drop_hint.new.hints (sym c.is_among.ensures ∙ c.if-is_among.false) c.drop_hint.ensures
