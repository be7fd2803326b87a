use Rattle.std.proofs.Common.{◌+◌, ap, length, refl}
use Rattle.mega_places.proofs.Sending.{sent_on}
use Rattle.mega_places.proofs.mail.Mail.send.Goals as goal

pub returns-clause-carried : goal.returns-clause-carried
returns-clause-carried c tape r =
    sent_on c.args.self.now (record { messages = c.push.new.self; waiting = c.keep.new.waiting; dropped = c.args.self.now.dropped }) tape (length c.as_slice.result.now + 1) c.args.message r
    (ap (λ ms. length ms + 1) c.as_slice.ensures) c.in_ok-push.ensures.ok (λ to n. c.in_ok-keep.ensures to n) refl
