use Rattle.std.proofs.Common.{◌∙◌, ap, sym}
use Rattle.mega_pumps.specs.Owns.{own_by}
use Rattle.mega_rules.specs.Acting.{Rests, proposes}
use Rattle.mega_rules.specs.Operations.{Replies}
use Rattle.mega_answers.specs.Pumping.{is_entering}
use Rattle.mega_step_work.specs.Reaching.{operation_of}
use Rattle.mega_step_work.specs.Settings.{setting}
use Rattle.mega_answers.proofs.pumping.does_own.Goals as goal

pub returns-in_ok-pumped-in-Picks-clause-pumped : goal.returns-in_ok-pumped-in-Picks-clause-pumped
returns-in_ok-pumped-in-Picks-clause-pumped g c me h now stands noted =
    let reached = c.args.reached in
    c.in_ok-pumped-in-Picks.ensures.pumped me h now stands noted
    ∙ ap (own_by (is_entering reached.kept.request) (setting c.args.members.now me h) now (operation_of reached) reached.group reached.reading reached.position) (sym c.in-Picks.is)

pub returns-in-Ends-clause-pumped : goal.returns-in-Ends-clause-pumped
returns-in-Ends-clause-pumped g c me h now stands noted =
    let reached = c.args.reached in
    ap Rests (c.ends.ensures now) ∙ ap (own_by (is_entering reached.kept.request) (setting c.args.members.now me h) now (operation_of reached) reached.group reached.reading reached.position) (sym c.in-Ends.is)

pub returns-in_ok-action-in-Proposes-clause-pumped : goal.returns-in_ok-action-in-Proposes-clause-pumped
returns-in_ok-action-in-Proposes-clause-pumped g c me h now stands noted =
    let reached = c.args.reached in
    let s = setting c.args.members.now me h in
    ap Rests (c.in_ok-action-in-Proposes.ensures me h now stands.tells (c.now-clock.ensures c.args.members.now me now.met stands.leased))
    ∙ ap (λ replies. Rests (proposes s now (operation_of reached) reached.group reached.reading reached.position c.in-Proposes.entry (Replies replies))) c.new.ensures
    ∙ ap (own_by (is_entering reached.kept.request) s now (operation_of reached) reached.group reached.reading reached.position) (sym c.in-Proposes.is)
