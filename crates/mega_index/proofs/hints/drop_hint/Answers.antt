use Rattle.std.proofs.Common.{◌∙◌, ap, sym}
use Rattle.mega_index.specs.Forgetting.{are_only}
use Rattle.mega_index.proofs.Forgetting.{dropped}
use Rattle.mega_index.proofs.hints.drop_hint.Goals as goal

pub returns-then-is_only : goal.returns-then-is_only
returns-then-is_only c =
    dropped c.args.hints.now c.remove.new.self c.args.entry.now c.args.group.now c.args.key.now
    (ap (are_only c.args.group.now c.args.key.now) (sym c.get.ensures.value) ∙ sym c.is_only.ensures ∙ c.if-is_only.true)
    c.remove.ensures.updates.0
