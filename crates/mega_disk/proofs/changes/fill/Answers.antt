use Rattle.std.proofs.Common.{sym, ◌∙◌, arith}
use Rattle.std.proofs.lemmas.Grind.{common_steps}
use Rattle.mega_disk.proofs.Filled.{filled_split}
use Rattle.mega_disk.proofs.changes.fill.Goals as goal

pub returns-in-Written : goal.returns-in-Written
returns-in-Written c =
    rw c.in-Written.is (c.fill_range.ensures ∙ sym (filled_split c.in-Written.at c.in-Written.count c.min-from.result c.min-many.result c.args.content.now.items (grind (arith, common_steps)) (grind (arith, common_steps))))
