use Rattle.std.proofs.Common.{◌≡◌, ◌≤◌, ◌∙◌, ◌++◌, ◌∷◌, [], ◌+◌, ℕ, List, true, ap, sym, subst, take, arith, refl}
use Rattle.std.specs.Prelude.{length}
use Rattle.std.proofs.lemmas.List.{take_all}
use Rattle.mega_base.specs.declared.names.GroupId.{GroupId}
use Rattle.mega_replica.specs.Applying.{applied}
use Rattle.mega_rules.specs.Logs.{groups_of, log_of, prefix_of}
use Rattle.mega_voter.specs.Journal.{journal_of}
use Rattle.mega_node_laws.proofs.Applied.{applied_within}
use Rattle.mega_node_laws.proofs.Logs.{log_is}
use Rattle.mega_rules.proofs.Groups.{has}
use Rattle.mega_pumps.specs.Reach.{through_at}
use Rattle.mega_pumps.specs.Notes.{Notes}
use Rattle.mega_pumps.proofs.Caught.{all_noted, looked_at, within_still}
use Rattle.mega_pumps.proofs.Fronts.{front_more}
use Rattle.mega_pumps.proofs.digest.Digest.catch_up.Goals as goal

pub loop-group-init : goal.loop-group-init
loop-group-init g c = λ met stored tells follows kept. (kept, λ other there. absurd (cc))

pub loop-group-preserved : goal.loop-group-preserved
loop-group-preserved g c = λ met stored tells follows kept.
    let groups = c.args.groups.now in
    let at = c.loop-group.group-index in
    let group = c.group-item.result in
    let was = c.loop-group.self in
    let new = c.catch_up_in.new.self in
    let n = c.applied-applied.result.0 in
    let is : n ≡ applied (log_of met group) (stored group) = c.applied-applied.ensures (journal_of met) (log_of met) stored tells.journal (log_is met group) follows in
    let so = c.loop-group.invariant met stored tells follows kept in
    let set = c.in_ok-catch_up_in.ensures.through in
    let before : through_at was.through group ≤ n = subst (λ m. through_at was.through group ≤ m) (sym is) (so.0.within group) in
    let inside : n ≤ prefix_of met group = subst (λ m. m ≤ prefix_of met group) (sym is) (applied_within (log_of met group) (stored group)) in (
      record {
        queues = c.in_ok-catch_up_in.ensures.queues met tells before inside so.0.queues;
        within = within_still (log_of met) stored (through_at was.through) (through_at new.through) group n is set so.0.within;
      },
      looked_at (log_of met) stored (through_at was.through) (through_at new.through) group n (take at groups) (take (at + 1) groups) (front_more groups at group c.loop-group-test.true c.group-item.is) is set so.1,
    )

pub returns-clause-notes : goal.returns-clause-notes
returns-clause-notes g c = λ met stored tells follows kept. (c.loop-group.invariant met stored tells follows kept).0

pub returns-clause-applied : goal.returns-clause-applied
returns-clause-applied g c = λ met stored tells follows kept is.
    let groups = c.args.groups.now in
    let at = c.loop-group.group-index in
    let test = c.loop-group-test.false in
    let so = c.loop-group.invariant met stored tells follows kept in
    let all : take at groups ≡ groups_of met = take_all at groups (omega (arith, test)) ∙ is in
    all_noted met stored (through_at c.loop-group.self.through) c.loop-group.self.queues (λ other there. so.1 other (ap (has other) all ∙ there)) so.0.queues
