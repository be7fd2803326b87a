use Rattle.std.proofs.Common.{arith, rules}
use Rattle.std.specs.Prelude.{Some}
use Rattle.std.proofs.lemmas.Grind.{common_steps}
use Rattle.mega_outcome.specs.Looks.{Looks}
use Rattle.mega_outcome.proofs.OneMore.{looks_then}
use Rattle.mega_outcome.proofs.checking.all_checks.Goals as goal

pub returns-in_err-turn-clause-looks : goal.returns-in_err-turn-clause-looks
returns-in_err-turn-clause-looks g c =
    let h : Looks g.V.Versions (Some c.in_err-turn.field-0.0) c.args.rows.now c.check.new.rows =
    looks_then g.V.Versions _ c.args.rows.now c.loop-one.rows c.check.new.rows c.loop-one.invariant.looks c.in_err-turn.ensures.looks in
    first_of (search (rules, h), grind (arith, common_steps, h))
