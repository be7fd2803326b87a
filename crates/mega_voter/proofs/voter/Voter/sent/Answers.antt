use Rattle.std.proofs.Common.{sym, ap, ◌∙◌}
use Rattle.mega_wire.specs.declared.message.Body.TheVariants.{Accepted}
use Rattle.mega_voter.proofs.KeptTells.{accept_staged, accept_told, promise_staged, promise_told}
use Rattle.mega_voter.proofs.voter.Voter.sent.Goals as goal

pub returns-in_ok-_answer-in-Promise-clause-state : goal.returns-in_ok-_answer-in-Promise-clause-state
returns-in_ok-_answer-in-Promise-clause-state g c =
    promise_told c.args.self.now.logs.kept c.promise.new.self.kept c.args.message.now c.in_ok-_answer-in-Promise._answer c.in-Promise.op c.in-Promise.group c.in-Promise.position c.in-Promise.ballot c.in-Promise.accepted c.in-Promise.is
    c.in_ok-_answer-in-Promise.ensures.exact c.in_ok-_answer-in-Promise.ensures.state

pub returns-in_ok-_answer-in-Promise-clause-staged : goal.returns-in_ok-_answer-in-Promise-clause-staged
returns-in_ok-_answer-in-Promise-clause-staged g c =
    promise_staged c.args.self.now.logs.kept c.args.message.now c.in_ok-_answer-in-Promise._answer c.in-Promise.op c.in-Promise.group c.in-Promise.position c.in-Promise.ballot c.in-Promise.accepted
    c.args.self.now.logs.staged.items c.promise.new.self.staged.items c.in-Promise.is
    c.in_ok-_answer-in-Promise.ensures.exact c.in_ok-_answer-in-Promise.ensures.staged

pub returns-in_ok-_answer-in-Accepted-clause-state : goal.returns-in_ok-_answer-in-Accepted-clause-state
returns-in_ok-_answer-in-Accepted-clause-state g c =
    accept_told c.args.self.now.logs.kept c.accept.new.self.kept c.args.message.now c.in_ok-_answer-in-Accepted._answer c.in-Accepted.op c.in-Accepted.group c.in-Accepted.position c.in-Accepted.ballot c.in_ok-entry-in-Accepted.entry
    (c.in-Accepted.is ∙ ap (Accepted c.in-Accepted.op c.in-Accepted.group c.in-Accepted.position c.in-Accepted.ballot) (sym c.in_ok-entry-in-Accepted.ensures))
    c.in_ok-_answer-in-Accepted.ensures.exact c.in_ok-_answer-in-Accepted.ensures.state

pub returns-in_ok-_answer-in-Accepted-clause-staged : goal.returns-in_ok-_answer-in-Accepted-clause-staged
returns-in_ok-_answer-in-Accepted-clause-staged g c =
    accept_staged c.args.self.now.logs.kept c.args.message.now c.in_ok-_answer-in-Accepted._answer c.in-Accepted.op c.in-Accepted.group c.in-Accepted.position c.in-Accepted.ballot c.in_ok-entry-in-Accepted.entry
    c.args.self.now.logs.staged.items c.accept.new.self.staged.items
    (c.in-Accepted.is ∙ ap (Accepted c.in-Accepted.op c.in-Accepted.group c.in-Accepted.position c.in-Accepted.ballot) (sym c.in_ok-entry-in-Accepted.ensures))
    c.in_ok-_answer-in-Accepted.ensures.exact c.in_ok-_answer-in-Accepted.ensures.staged
