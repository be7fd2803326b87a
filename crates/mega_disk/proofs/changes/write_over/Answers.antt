use Rattle.std.proofs.Common.{◌≡◌, length, take, drop, refl, rules, arith}
use Rattle.std.proofs.lemmas.Grind.{common_steps}
use Rattle.mega_disk.specs.Images.{overwritten}
use Rattle.mega_disk.specs.declared.changes.Change.TheVariants.{Written}
use Rattle.mega_disk.proofs.Changed.{undo_write}
use Rattle.mega_disk.proofs.changes.write_over.Goals as goal

pub returns-clause-changed : goal.returns-clause-changed
returns-clause-changed c =
    let is : c.overwrite.new.content.items ≡ overwritten c.args.at c.args.bytes.now c.args.held.now.content.items = grind (arith, common_steps) in
    let long : c.len-size.result ≡ length c.args.held.now.content.items = grind (arith, common_steps) in
    let before : c.in_ok-before.before.items ≡ take c.min-over.result (drop c.args.at c.args.held.now.content.items) = grind (arith, common_steps) in (
      Written c.args.at (length c.args.bytes.now) c.in_ok-before.before c.len-size.result,
      (refl, refl, undo_write c.args.held.now.content.items c.args.bytes.now c.args.at c.min-over.result (grind (arith, common_steps)) (grind (arith, common_steps)) (length c.args.bytes.now) c.len-size.result c.in_ok-before.before c.overwrite.new.content.items is long before),
      search rules,
    )
