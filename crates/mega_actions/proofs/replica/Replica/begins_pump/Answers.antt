use Rattle.std.proofs.Common.{◌∙◌, ap, subst, sym, length, ◌+◌}
use Rattle.mega_answers.specs.of_pumps.Owns.{picks_by}
use Rattle.mega_rules.specs.Logs.{groups_of}
use Rattle.mega_rules.specs.Acting.{rests_within}
use Rattle.mega_rules.specs.Clock.{clock_of}
use Rattle.mega_rules.specs.Operations.{Now}
use Rattle.mega_rules.specs.Steps.{new_operation}
use Rattle.mega_answers.specs.declared.pumping.Pumped.{Pumped}
use Rattle.mega_answers.specs.Asked.{IsAsked}
use Rattle.mega_answers.specs.of_step_work.Servable.{is_pump}
use Rattle.mega_replica.specs.Following.{progress_at}
use Rattle.mega_actions.specs.IsAt.{IsAt}
use Rattle.mega_actions.specs.StandsAt.{StandsAt}
use Rattle.mega_answers.specs.Pumping.{pumped_by}
use Rattle.mega_answers.specs.of_step_work.Settings.{setting}
use Rattle.mega_answers.specs.of_step_work.Working.{work_of}
use Rattle.mega_answers.proofs.of_step_work.Doing.{does_met, does_stored}
use Rattle.mega_answers.proofs.Serving.{pump_about, pump_begins}
use Rattle.mega_actions.proofs.replica.Replica.begins_pump.Goals as goal

pub returns-in_ok-does-in-Done-clause-state : goal.returns-in_ok-does-in-Done-clause-state
returns-in_ok-does-in-Done-clause-state g c h now told means pump at =
    let before = c.args.self.now in
    let s = setting before.members before.me h in
    let o = new_operation c.args.op c.args.request (clock_of now.met) in
    let began = c.now-began.ensures before.members before.me now.met at.stands.leased in
    let is =
    pump_begins s now c.args.op c.args.request (clock_of now.met) pump
    ∙ ap (rests_within (length (groups_of now.met) + 2) s) ((λ i. picks_by (sym c.is_entering-entering.ensures i) s now (record { id = o.id; request = o.request; began = sym began i; visited = sym c.new-visited.ensures i; message = o.message; phase = o.phase }) (sym c.new-asked.ensures i))
    ∙ sym (c.in_ok-pumped.ensures.pumped before.me h now o.phase at.stands at.noted)
    ∙ ap (pumped_by now) c.in-Done.is) in
    let action = c.in-Done.action in
    let digest = c.picks.new.digest in
    let noted = c.in_ok-pumped.ensures.noted now.met now.stored at.stands.tells at.stands.follows at.noted in
    subst (λ (then : Now). StandsAt s before.voter.logs.kept before.leases digest (g.V.Versions.version before.rows.rows) (progress_at before.rows.progress) then.met then.stored) (sym is)
    (coe 0 1 (i. StandsAt s before.voter.logs.kept before.leases digest (g.V.Versions.version before.rows.rows) (progress_at before.rows.progress) (sym (does_met now action) i) (sym (does_stored now action) i))
    (record { stands = at.stands; noted = noted }))

pub returns-in_ok-does-in-Done-clause-work : goal.returns-in_ok-does-in-Done-clause-work
returns-in_ok-does-in-Done-clause-work g c h now told means pump at was =
    let before = c.args.self.now in
    let s = setting before.members before.me h in
    let o = new_operation c.args.op c.args.request (clock_of now.met) in
    let began = c.now-began.ensures before.members before.me now.met at.stands.leased in
    let is =
    pump_begins s now c.args.op c.args.request (clock_of now.met) pump
    ∙ ap (rests_within (length (groups_of now.met) + 2) s) ((λ i. picks_by (sym c.is_entering-entering.ensures i) s now (record { id = o.id; request = o.request; began = sym began i; visited = sym c.new-visited.ensures i; message = o.message; phase = o.phase }) (sym c.new-asked.ensures i))
    ∙ sym (c.in_ok-pumped.ensures.pumped before.me h now o.phase at.stands at.noted)
    ∙ ap (pumped_by now) c.in-Done.is) in
    c.in_ok-does-in-Done.ensures now was ∙ ap work_of (sym is)

pub returns-in_ok-acts_in_turn-in-Again-clause-state : goal.returns-in_ok-acts_in_turn-in-Again-clause-state
returns-in_ok-acts_in_turn-in-Again-clause-state g c h now told means pump at =
    let before = c.args.self.now in
    let new = c.acts_in_turn.new.self in
    let s = setting before.members before.me h in
    let o = new_operation c.args.op c.args.request (clock_of now.met) in
    let began = c.now-began.ensures before.members before.me now.met at.stands.leased in
    let heard = c.in-Again.heard in
    let is =
    pump_begins s now c.args.op c.args.request (clock_of now.met) pump
    ∙ ap (rests_within (length (groups_of now.met) + 2) s) ((λ i. picks_by (sym c.is_entering-entering.ensures i) s now (record { id = o.id; request = o.request; began = sym began i; visited = sym c.new-visited.ensures i; message = o.message; phase = o.phase }) (sym c.new-asked.ensures i))
    ∙ sym (c.in_ok-pumped.ensures.pumped before.me h now o.phase at.stands at.noted)
    ∙ ap (pumped_by now) c.in-Again.is) in
    let noted = c.in_ok-pumped.ensures.noted now.met now.stored at.stands.tells at.stands.follows at.noted in
    let asked = subst (λ (pumped : Pumped). IsAsked pumped c.args.request) c.in-Again.is c.in_ok-pumped.ensures.asked in
    subst (λ (then : Now). IsAt g.V.Versions.version h new then.met then.stored) (sym is)
    (c.in_ok-acts_in_turn-in-Again.ensures.state h now told means (pump_about heard.operation (ap is_pump asked ∙ pump)) (record { stands = at.stands; noted = noted }))

pub returns-in_ok-acts_in_turn-in-Again-clause-work : goal.returns-in_ok-acts_in_turn-in-Again-clause-work
returns-in_ok-acts_in_turn-in-Again-clause-work g c h now told means pump at was =
    let before = c.args.self.now in
    let s = setting before.members before.me h in
    let o = new_operation c.args.op c.args.request (clock_of now.met) in
    let began = c.now-began.ensures before.members before.me now.met at.stands.leased in
    let heard = c.in-Again.heard in
    let is =
    pump_begins s now c.args.op c.args.request (clock_of now.met) pump
    ∙ ap (rests_within (length (groups_of now.met) + 2) s) ((λ i. picks_by (sym c.is_entering-entering.ensures i) s now (record { id = o.id; request = o.request; began = sym began i; visited = sym c.new-visited.ensures i; message = o.message; phase = o.phase }) (sym c.new-asked.ensures i))
    ∙ sym (c.in_ok-pumped.ensures.pumped before.me h now o.phase at.stands at.noted)
    ∙ ap (pumped_by now) c.in-Again.is) in
    let noted = c.in_ok-pumped.ensures.noted now.met now.stored at.stands.tells at.stands.follows at.noted in
    let asked = subst (λ (pumped : Pumped). IsAsked pumped c.args.request) c.in-Again.is c.in_ok-pumped.ensures.asked in
    c.in_ok-acts_in_turn-in-Again.ensures.work h now told means (pump_about heard.operation (ap is_pump asked ∙ pump)) (record { stands = at.stands; noted = noted }) was ∙ ap work_of (sym is)
