use Rattle.std.proofs.Common.{◌≡◌, ◌∙◌, true, rules, sym}
use Rattle.mega_answers.specs.of_step_work.Servable.{is_indexed}
use Rattle.mega_actions.proofs.replica.Replica.begins.Goals as goal

pub returns-in-Ok-clause-indexed : goal.returns-in-Ok-clause-indexed
returns-in-Ok-clause-indexed g c h now told stands indexed =
    let is : is_indexed c.args.request ≡ true = search rules in
    c.in-Ok.ensures.indexed h now told is stands indexed

pub returns-then-is_pump-clause-state : goal.returns-then-is_pump-clause-state
returns-then-is_pump-clause-state g c h now told means at = c.in_ok-begins_pump.ensures.state h now told means (sym c.is_pump.ensures ∙ c.if-is_pump.true) at

pub returns-then-is_pump-clause-work : goal.returns-then-is_pump-clause-work
returns-then-is_pump-clause-work g c h now told means at indexed was = c.in_ok-begins_pump.ensures.work h now told means (sym c.is_pump.ensures ∙ c.if-is_pump.true) at was
