use Rattle.std.proofs.Common.{◌≡◌, ◌∙◌, ◌≤◌, ap, sym, take, subst}
use Rattle.mega_rules.specs.Logs.{log_of}
use Rattle.mega_pumps.specs.Reach.{fronts, through_at}
use Rattle.mega_pumps.proofs.Caught.{caught_in, stays_in}
use Rattle.mega_pumps.proofs.digest.Digest.catch_up_in.Goals as goal

pub returns-then-from-applied-clause-through : goal.returns-then-from-applied-clause-through
returns-then-from-applied-clause-through g c = stays_in (through_at c.args.self.now.through) c.args.group.now c.args.applied (sym c.through_of-from.ensures ∙ c.if-from-applied.true)

pub returns-clause-queues : goal.returns-clause-queues
returns-clause-queues g c = λ met tells le within kept.
    let was = through_at c.args.self.now.through in
    let group = c.args.group.now in
    let from : c.through_of-from.result ≡ was group = c.through_of-from.ensures in
    caught_in (log_of met) was (through_at c.set.new.all) group c.args.applied c.note_from.new.queues c.in_ok-set.ensures
    (c.in_ok-note_from.ensures met (fronts (log_of met) was) tells (subst (λ n. n ≤ c.args.applied) (sym from) le) within kept (ap (λ n. take n (log_of met group)) (sym from)))
