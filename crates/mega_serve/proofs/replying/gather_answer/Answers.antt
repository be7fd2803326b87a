use Rattle.mega_serve.proofs.Gathered.{none_more, one_more}
use Rattle.mega_serve.proofs.replying.gather_answer.Goals as goal

pub returns-in_ok-push-in-Some : goal.returns-in_ok-push-in-Some
returns-in_ok-push-in-Some c = λ me.
    one_more me c.args.schema.now c.args.answer.now c.args.one c.in-Some.one _ c.args.replies.now.items c.push.new.self.items c.in-Some.is c.in_ok-words-in-Some.ensures c.in_ok-push-in-Some.ensures.items

pub returns-in-None : goal.returns-in-None
returns-in-None c = λ me. none_more me c.args.schema.now c.args.answer.now c.args.one c.args.replies.now.items c.in-None.is
