use Rattle.std.proofs.Common.{◌≡◌, ◌∙◌, ap, sym}
use Rattle.mega_rules.specs.Acting.{handles}
use Rattle.mega_pumps.proofs.deciding.handles.Goals as goal

pub returns-in_ok-own-in-Some-clause-own : goal.returns-in_ok-own-in-Some-clause-own
returns-in_ok-own-in-Some-clause-own g c told s now o r means schema tells notes within shows same =
    c.in_ok-own-in-Some.ensures.own told s now o r means schema shows same
    ∙ ap (handles s now o c.args.group.now r c.args.through) (sym c.in-Some.is ∙ c.in_ok-oldest.ensures now.met tells notes within)

pub returns-in-None-clause-own : goal.returns-in-None-clause-own
returns-in-None-clause-own g c told s now o r means schema tells notes within shows same =
    ap (handles s now o c.args.group.now r c.args.through) (sym c.in-None.is ∙ c.in_ok-oldest.ensures now.met tells notes within)
