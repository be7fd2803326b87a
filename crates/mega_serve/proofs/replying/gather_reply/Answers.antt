use Rattle.std.proofs.Common.{◌≡◌, ◌++◌, ◌∙◌, List, Option, ap, append-nil, map, subst, sym}
use Rattle.std.specs.Prelude.{option_map}
use Rattle.mega_transcript.specs.declared.item.Item.{Item}
use Rattle.mega_promises.specs.Served.{Line, Waiting, answered_line}
use Rattle.mega_serve.specs.Replies.{item_reply, put_reply, waiting_of}
use Rattle.mega_serve.proofs.Stepped.{found_waiting, no_reply}
use Rattle.mega_serve.proofs.replying.gather_reply.Goals as goal

pub returns-in_ok-gather_answer-in-Answer : goal.returns-in_ok-gather_answer-in-Answer
returns-in_ok-gather_answer-in-Answer c = λ me.
    let before = map (put_reply me) c.args.replies.now.items in
    let after = map (put_reply me) c.gather_answer.new.replies.items in
    subst (λ (item : Item). after ≡ before ++ item_reply c.args.schema.now me (map waiting_of c.args.waiting.now) item) (sym c.in-Answer.is)
    (subst (λ (found : Option Waiting). after ≡ before ++ answered_line c.args.schema.now me c.in-Answer.answer found) (ap (option_map waiting_of) c.waits_for.ensures ∙ sym (found_waiting c.in-Answer.op c.args.waiting.now))
    (c.in_ok-gather_answer-in-Answer.ensures me))

pub returns-in_default : goal.returns-in_default
returns-in_default c = λ me.
    let before = map (put_reply me) c.args.replies.now.items in
    sym (append-nil before)
    ∙ ap (λ (more : List Line). before ++ more) (sym (no_reply c.args.schema.now me (map waiting_of c.args.waiting.now) c.args.item.now (λ op answer is. c.in_default.not-Answer op answer is)))
