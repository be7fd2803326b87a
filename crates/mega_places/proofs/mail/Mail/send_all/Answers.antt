use Rattle.std.proofs.Common.{◌+◌, ◌++◌, ◌∷◌, [], ◌∙◌, ap, length, subst, append_assoc}
use Rattle.mega_promises.specs.Items.{numbered}
use Rattle.mega_transcript.specs.declared.item.Item.TheVariants.{Sent}
use Rattle.mega_transcript.specs.Tape.{onto}
use Rattle.mega_places.specs.Carries.{Carries}
use Rattle.mega_places.proofs.Carrying.{sent_next, shown_next}
use Rattle.mega_places.proofs.mail.Mail.send_all.Goals as goal

pub loop-message-preserved : goal.loop-message-preserved
loop-message-preserved c =
    let first = c.args.self.now.messages in
    let yielded = c.loop-message.yielded in
    let messages = c.loop-message.self.messages in
    let message = c.in-Some.message in (
      λ before r. sent_next c.send.new.self first yielded messages message before c.loop-message.invariant.1
          (subst (λ m. Carries c.send.new.self (Sent (length messages + 1) m ∷ onto (numbered (length first + 1) yielded) before)) c.in_ok-kept.ensures
          (c.in_ok-send.ensures.carried (onto (numbered (length first + 1) yielded) before) (c.loop-message.invariant.0 before r))),
      c.in_ok-send.ensures.messages ∙ ap (λ m. messages ++ m ∷ []) c.in_ok-kept.ensures ∙ ap (λ ms. ms ++ message ∷ []) c.loop-message.invariant.1 ∙ append_assoc first yielded (message ∷ []),
      shown_next c.args.tape.now.items c.loop-message.tape.items c.push.new.self first yielded messages message (length c.as_slice.result.now + 1) (ap (λ ms. length ms + 1) c.as_slice.ensures)
          c.loop-message.invariant.1 c.loop-message.invariant.2 c.in_ok-push.ensures.ok,
    )
