use Rattle.std.proofs.Common.{◌≡◌, ◌≤◌, arith}
use Rattle.mega_rules.specs.Logs.{log_of, prefix_of}
use Rattle.mega_pumps.specs.Reach.{through_at}
use Rattle.mega_pumps.proofs.Lasting.{noted_by, within_set}
use Rattle.mega_pumps.proofs.digest.Digest.note_through.Goals as goal

pub returns : goal.returns
returns g c = λ met tells le kept.
    let old = c.args.self.now in
    let new = c.catch_up_in.new.self in
    let group = c.args.group.now in
    let was = through_at old.through in
    let is = kept.noted met tells in
    let noted : c.through_of.result ≡ was group = c.through_of.ensures in
    let test = c.if-through-through_of.false in
    let behind : was group ≤ c.args.through = omega (arith, noted, test) in
    noted_by c.args.voter.now.logs.kept met new tells
    (record {
      queues = c.in_ok-catch_up_in.ensures.queues met tells behind le is.queues;
      within = within_set (prefix_of met) was (through_at new.through) group c.args.through le c.in_ok-catch_up_in.ensures.through is.within;
    })
