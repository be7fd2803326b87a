use Rattle.std.proofs.Common.{◌∙◌, ◌++◌, ap, sym}
use Rattle.std.specs.Prelude.{is_some}
use Rattle.mega_rules.specs.Queues.{posted}
use Rattle.mega_queues.proofs.Placing.{sent_noted}
use Rattle.mega_queues.proofs.outboxes.post_there.Goals as goal

pub returns-in_ok-post_all-in-Some : goal.returns-in_ok-post_all-in-Some
returns-in_ok-post_all-in-Some c =
    let there = c.in-Some.ensures.value in
    sent_noted c.args.outboxes.now (c.get_mut.follows.lender c.post_all.new.outbox) c.args.group.now (posted c.args.group.now c.args.position.0 0 c.args.entry.now.sends) c.in-Some.own.now c.post_all.new.outbox (sym there)
    ((c.get_mut.follows.holds c.post_all.new.outbox).3 (ap is_some (sym there))).0
    (c.in_ok-post_all-in-Some.ensures ∙ ap (λ sends. c.in-Some.own.now.items ++ posted c.args.group.now c.args.position.0 0 sends) c.as_slice.ensures)
