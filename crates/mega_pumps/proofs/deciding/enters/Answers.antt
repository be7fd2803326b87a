use Rattle.std.proofs.Common.{◌≡◌, ◌∙◌, true, ap, sym}
use Rattle.std.specs.Option.{option_copied}
use Rattle.mega_pumps.specs.Owns.{own_by}
use Rattle.mega_rules.specs.Acting.{enters}
use Rattle.mega_pumps.proofs.Entered.{enters_known, enters_new}
use Rattle.mega_pumps.proofs.deciding.enters.Goals as goal

pub returns-then-entered : goal.returns-then-entered
returns-then-entered g c s now o r tells notes within same =
    enters_known s now o c.args.group.now r c.args.through c.in-Some.message.now c.in_ok-entered-in-Some.entered (c.in_ok-entered-in-Some.ensures now.met tells notes within) c.if-entered.true
    ∙ (λ i. enters s now o c.args.group.now r c.args.through (option_copied (sym c.in-Some.is i)))

pub returns-in_ok-own-in-Some : goal.returns-in_ok-own-in-Some
returns-in_ok-own-in-Some g c s now o r tells notes within same =
    ap (own_by true s now o c.args.group.now r c.args.through) c.in_ok-own-in-Some.ensures
    ∙ enters_new s now o c.args.group.now r c.args.through c.in-Some.message.now c.in_ok-entered-in-Some.entered (c.in_ok-entered-in-Some.ensures now.met tells notes within) c.args.op c.if-entered.false same
    ∙ (λ i. enters s now o c.args.group.now r c.args.through (option_copied (sym c.in-Some.is i)))
