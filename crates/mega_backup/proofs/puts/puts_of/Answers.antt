use Rattle.std.proofs.Common.{◌≡◌, ◌∙◌, Vec, Global, Err, ap, sym, subst, rules}
use Rattle.mega_outcome.specs.declared.transaction.Transaction.{Transaction}
use Rattle.mega_backup.specs.Faults.{GivesOrKey}
use Rattle.mega_backup.specs.Restoring.{prepended, puts_of}
use Rattle.mega_backup.proofs.Refused.{refused}
use Rattle.mega_backup.proofs.puts.puts_of.Goals as goal

pub returns-in_err-add_put : goal.returns-in_err-add_put
returns-in_err-add_put c =
    let s = c.args.schema.now in
    let group = c.args.group.now in
    let same : c.from_residual.result ≡ Err c.in_err-add_put.field-0.0 = search rules in
    let parted = ap (λ listed. prepended c.loop-key.txns.items (puts_of s group listed)) (sym c.in-Some.ensures.steps) ∙ c.loop-key.invariant in
    subst (λ r. GivesOrKey {X = Vec Transaction Global} (λ txns. txns.items) r (puts_of s group c.args.rows.now.entries)) (sym same)
    (refused {X = Vec Transaction Global} (λ txns. txns.items) s group c.in-Some.key.now c.in-Some.row.now c.next.new.self c.args.rows.now.entries c.loop-key.txns.items c.add_put.new.txns.items c.in_err-add_put.field-0.0 c.in_err-add_put.ensures parted)
