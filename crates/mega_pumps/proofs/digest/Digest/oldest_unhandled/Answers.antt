use Rattle.std.proofs.Common.{◌≡◌, ◌∙◌, ap, sym, take}
use Rattle.mega_queues.proofs.Picking.{oldest_is}
use Rattle.mega_queues.specs.Mail.{seen}
use Rattle.mega_rules.specs.Logs.{log_of}
use Rattle.mega_rules.specs.Queues.{oldest_unhandled}
use Rattle.mega_pumps.specs.Reach.{fronts, through_at}
use Rattle.mega_pumps.proofs.digest.Digest.oldest_unhandled.Goals as goal

pub returns-then-through_of-through : goal.returns-then-through_of-through
returns-then-through_of-through g c = λ met tells kept within.
    let group = c.args.group.now in
    c.in_ok-oldest.ensures
    ∙ c.oldest_unhandled.ensures (fronts (log_of met) (through_at c.args.self.now.through)) (kept.noted met tells).queues
    ∙ ap (λ n. oldest_unhandled (take n (log_of met group))) (sym c.through_of.ensures ∙ c.if-through_of-through.true)

pub returns : goal.returns
returns g c = λ met tells kept within.
    c.in_ok-oldest-2.ensures ∙ c.oldest_unhandled-2.ensures ∙ oldest_is (take c.args.through (log_of met c.args.group.now)) (seen c.in_ok-mailbox.mailbox) (c.in_ok-mailbox.ensures met tells within)
