use Rattle.std.proofs.Common.{◌≡◌, false, rules}
use Rattle.mega_backup.specs.Restoring.{is_large}
use Rattle.mega_backup.proofs.Adding.{added}
use Rattle.mega_backup.proofs.puts.add.Goals as goal

pub returns-in-Ok-false : goal.returns-in-Ok-false
returns-in-Ok-false c =
    let small : false ≡ is_large c.args.schema.now c.args.txn = search rules in
    added c.args.schema.now c.args.key.now c.args.txn c.args.txns.now.items c.push.new.txns.items c.push.result small c.push.ensures.ok c.push.ensures.memory
