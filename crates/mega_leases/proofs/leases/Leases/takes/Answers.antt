use Rattle.std.proofs.Common.{ap, sym, ◌∙◌}
use Rattle.std.proofs.lemmas.Result.{IfOk-weaker, on_ok_weaker}
use Rattle.mega_rules.specs.Steps.{told_notes}
use Rattle.mega_leases.specs.Taking.{reply_of}
use Rattle.mega_leases.proofs.Bodies.{taken_as}
use Rattle.mega_leases.proofs.leases.Leases.takes.Goals as goal

pub returns-in-Acquire-clause-state : goal.returns-in-Acquire-clause-state
returns-in-Acquire-clause-state c = on_ok_weaker c.acquired.result (λ state s met tells. taken_as s _ c.args.message.now _ met c.in-Acquire.is (state s.cluster s.me met tells)) c.acquired.ensures.state

pub returns-in-Dead-clause-reply : goal.returns-in-Dead-clause-reply
returns-in-Dead-clause-reply c =
    IfOk-weaker c.asked.result _ _ (λ made reply cluster me met tells. reply cluster me met c.args.message.now.from tells ∙ ap (reply_of cluster me met c.args.message.now.from) (sym c.in-Dead.is)) c.asked.ensures.reply

pub returns-in-Granted-clause-notes : goal.returns-in-Granted-clause-notes
returns-in-Granted-clause-notes c =
    IfOk-weaker c.granted.result _ _ (λ made notes s met tells. notes s met c.args.message.now.from tells ∙ ap (told_notes s met c.args.message.now.from) (sym c.in-Granted.is)) c.granted.ensures.notes

pub returns-in-Granted-clause-state : goal.returns-in-Granted-clause-state
returns-in-Granted-clause-state c =
    on_ok_weaker c.granted.result (λ state s met tells. taken_as s _ c.args.message.now _ met c.in-Granted.is (state s.cluster s.me met c.args.message.now.from tells)) c.granted.ensures.state

pub returns-in-Past-clause-state : goal.returns-in-Past-clause-state
returns-in-Past-clause-state c s met tells = taken_as s _ c.args.message.now _ met c.in-Past.is (c.past.ensures s.cluster s.me met c.args.message.now.from c.in-Past.greatest tells)

pub returns-in-Invalidate-clause-notes : goal.returns-in-Invalidate-clause-notes
returns-in-Invalidate-clause-notes c =
    IfOk-weaker c.invalidated.result _ _ (λ made notes s met tells. notes s met c.args.message.now.from tells ∙ ap (told_notes s met c.args.message.now.from) (sym c.in-Invalidate.is)) c.invalidated.ensures.notes

pub returns-in-Invalidate-clause-reply : goal.returns-in-Invalidate-clause-reply
returns-in-Invalidate-clause-reply c =
    IfOk-weaker c.invalidated.result _ _ (λ made reply cluster me met tells. reply cluster me met c.args.message.now.from tells ∙ ap (reply_of cluster me met c.args.message.now.from) (sym c.in-Invalidate.is)) c.invalidated.ensures.reply

pub returns-in-Invalidate-clause-state : goal.returns-in-Invalidate-clause-state
returns-in-Invalidate-clause-state c =
    on_ok_weaker c.invalidated.result (λ state s met tells. taken_as s _ c.args.message.now _ met c.in-Invalidate.is (state s.cluster s.me met c.args.message.now.from tells)) c.invalidated.ensures.state
