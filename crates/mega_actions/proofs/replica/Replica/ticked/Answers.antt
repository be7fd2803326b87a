use Rattle.std.proofs.Common.{◌≡◌, ◌∙◌, [], false, sym, ap, refl, rules, subst}
use Rattle.mega_rules.specs.Operations.{Now}
use Rattle.mega_rules.specs.Acting.{ends}
use Rattle.mega_rules.specs.Steps.{Heard, acts_in_turn}
use Rattle.mega_answers.proofs.of_node_laws.Lasting.{does_due_about}
use Rattle.mega_replica.specs.Following.{progress_at}
use Rattle.mega_answers.specs.of_step_work.Servable.{is_open}
use Rattle.mega_actions.specs.IsAt.{IsAt}
use Rattle.mega_actions.specs.StandsAt.{StandsAt}
use Rattle.mega_answers.specs.of_step_work.Settings.{setting}
use Rattle.mega_actions.specs.Turns.{IsHeardAbout}
use Rattle.mega_answers.specs.of_step_work.Working.{work_of}
use Rattle.mega_actions.proofs.InTurn.{due_request, ticked_due, ticked_out}
use Rattle.mega_actions.proofs.replica.Replica.ticked.Goals as goal

pub returns-then-is_out-clause-state : goal.returns-then-is_out-clause-state
returns-then-is_out-clause-state g c h now told means about stands =
    let self = c.args.self.now in
    let s = setting self.members self.me h in
    subst (λ (then : Now). StandsAt s self.voter.logs.kept self.leases self.digest (g.V.Versions.version self.rows.rows) (progress_at self.rows.progress) then.met then.stored)
    (sym (ticked_out s c.args.clock now c.args.operation (sym (c.is_out.ensures s refl) ∙ c.if-is_out.true))) stands

pub returns-then-is_out-clause-work : goal.returns-then-is_out-clause-work
returns-then-is_out-clause-work g c h now told means about stands same =
    let s = setting c.args.self.now.members c.args.self.now.me h in
    c.in_ok-does.ensures now same
    ∙ (λ i. work_of (ends now (c.operation.view_is i).id (c.last_answer-answer.ensures i)))
    ∙ sym (ap work_of (ticked_out s c.args.clock now c.args.operation (sym (c.is_out.ensures s refl) ∙ c.if-is_out.true)))

pub returns-in_err-acts_in_turn-clause-unserved : goal.returns-in_err-acts_in_turn-clause-unserved
returns-in_err-acts_in_turn-clause-unserved g c is =
    let s = setting c.args.self.now.members c.args.self.now.me [] in
    let none : is_open c.in_ok-heard.heard.operation.request ≡ false = search rules in
    ap is_open (sym (ap (λ (t : Heard). t.operation.request) (c.in_ok-heard.ensures s refl) ∙ due_request s c.args.clock c.args.operation)) ∙ none

pub returns-clause-state : goal.returns-clause-state
returns-clause-state g c h now told means about stands =
    let self = c.acts_in_turn.new.self in
    let s = setting c.args.self.now.members c.args.self.now.me h in
    let is = c.in_ok-heard.ensures s refl in
    subst (λ (then : Now). IsAt g.V.Versions.version h self then.met then.stored)
    (ap (acts_in_turn s now) is ∙ sym (ticked_due s c.args.clock now c.args.operation (sym (c.is_out.ensures s refl) ∙ c.if-is_out.false)))
    (c.in_ok-acts_in_turn.ensures.state h now told means (subst IsHeardAbout (sym is) (does_due_about s c.args.clock c.args.operation about)) stands)

pub returns-clause-work : goal.returns-clause-work
returns-clause-work g c h now told means about stands same =
    let s = setting c.args.self.now.members c.args.self.now.me h in
    let is = c.in_ok-heard.ensures s refl in
    c.in_ok-acts_in_turn.ensures.work h now told means (subst IsHeardAbout (sym is) (does_due_about s c.args.clock c.args.operation about)) stands same
    ∙ ap work_of (ap (acts_in_turn s now) is ∙ sym (ticked_due s c.args.clock now c.args.operation (sym (c.is_out.ensures s refl) ∙ c.if-is_out.false)))
