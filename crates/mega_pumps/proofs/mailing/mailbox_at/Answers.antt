use Rattle.std.proofs.Common.{◌≡◌, ◌≤◌, ◌<◌, ◌+◌, ◌∙◌, Some, ap, subst, take, arith, refl}
use Rattle.mega_entry.specs.declared.content.Content.{Content}
use Rattle.mega_queues.specs.Mail.{mail_of, seen, with_entry}
use Rattle.mega_rules.specs.Logs.{decided, log_of, prefix_of}
use Rattle.mega_pumps.proofs.Noted.{always_there, mail_more}
use Rattle.mega_pumps.proofs.mailing.mailbox_at.Goals as goal

pub loop-count-init : goal.loop-count-init
loop-count-init g c = λ met tells within. (omega arith, c.new-mailbox.ensures)

pub loop-count-preserved : goal.loop-count-preserved
loop-count-preserved g c = λ met tells within.
    let group = c.args.group.now in
    let n = c.loop-count.count in
    let test = c.loop-count-test.true in
    let lt : n < prefix_of met group = omega (arith, within, test) in
    let so = c.loop-count.invariant met tells within in
    let entry = c.in-Some.entry.now in
    (omega (arith, test), mail_more met group n entry (seen c.loop-count.mailbox) (seen c.note.new.self) lt (c.in-Some.ensures met tells) so.1 (c.in_ok-note-in-Some.ensures ∙ ap (λ (e : Content). with_entry e (seen c.loop-count.mailbox)) c.content.ensures))

pub returns-in-None : goal.returns-in-None
returns-in-None g c = λ met tells within.
    let test = c.loop-count-test.true in
    absurd (always_there met c.args.group.now c.loop-count.count (omega (arith, within, test)) (c.in-None.ensures met tells))

pub returns : goal.returns
returns g c = λ met tells within.
    let so = c.loop-count.invariant met tells within in
    let test = c.loop-count-test.false in
    let at = so.0 in
    let same : c.loop-count.count ≡ c.args.through = omega (arith, at, test) in
    so.1 ∙ ap (λ n. mail_of (take n (log_of met c.args.group.now))) same
