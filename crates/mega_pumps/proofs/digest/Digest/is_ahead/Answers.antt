use Rattle.std.proofs.Common.{◌≡◌, ◌≤◌, ◌∙◌, ◌+◌, true, ap, arith, take}
use Rattle.std.proofs.lemmas.List.{take_all}
use Rattle.mega_replica.specs.Applying.{applied}
use Rattle.mega_rules.specs.Logs.{groups_of, log_of}
use Rattle.mega_voter.specs.Journal.{journal_of}
use Rattle.mega_node_laws.proofs.Logs.{log_is}
use Rattle.mega_rules.proofs.Groups.{has}
use Rattle.mega_pumps.specs.Reach.{through_at}
use Rattle.mega_pumps.proofs.Fronts.{front_more}
use Rattle.mega_pumps.proofs.Lasting.{none_ahead, none_ahead_more}
use Rattle.mega_pumps.proofs.digest.Digest.is_ahead.Goals as goal

pub loop-group-init : goal.loop-group-init
loop-group-init g c = λ met stored tells follows other there. absurd (cc)

pub loop-group-preserved : goal.loop-group-preserved
loop-group-preserved g c = λ met stored tells follows.
    let groups = c.args.groups.now in
    let at = c.loop-group.group-index in
    let group = c.group-item.result in
    let through = through_at c.args.self.now.through in
    let n = c.applied-applied.result.0 in
    let is : n ≡ applied (log_of met group) (stored group) = c.applied-applied.ensures (journal_of met) (log_of met) stored tells.journal (log_is met group) follows in
    let noted : c.through_of.result ≡ through group = c.through_of.ensures in
    let test = c.if-applied-through_of.false in
    let le : through group ≤ applied (log_of met group) (stored group) = omega (arith, is, noted, test) in
    none_ahead_more (log_of met) stored through group (take at groups) (take (at + 1) groups) (front_more groups at group c.loop-group-test.true c.group-item.is) le (c.loop-group.invariant met stored tells follows)

pub returns : goal.returns
returns g c = λ met stored tells follows kept is none.
    let groups = c.args.groups.now in
    let at = c.loop-group.group-index in
    let test = c.loop-group-test.false in
    let all : take at groups ≡ groups_of met = take_all at groups (omega (arith, test)) ∙ is in
    none_ahead met stored c.args.self.now (λ other there. c.loop-group.invariant met stored tells follows other (ap (has other) all ∙ there)) (kept.noted met tells)
