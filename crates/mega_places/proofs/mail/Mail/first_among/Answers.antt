use Rattle.std.proofs.Common.{◌≡◌, ◌+◌, ◌&&◌, length, subst, arith}
use Rattle.mega_verdicts.specs.Least.{IsLeast}
use Rattle.mega_places.specs.Members.{is_up_at}
use Rattle.mega_places.specs.Waits.{waits_among}
use Rattle.mega_verdicts.specs.Waiting.{waits_for}
use Rattle.mega_places.proofs.Least.{among_more}
use Rattle.mega_places.proofs.mail.Mail.first_among.Goals as goal

pub loop-before-preserved : goal.loop-before-preserved
loop-before-preserved c =
    let waiting = c.args.self.now.waiting.items in
    let places = c.args.places.now in
    let before = c.loop-before.before in
    let less = c.loop-before-test.true in record {
      least = among_more waiting places before c.lesser-first.result
          (c.lesser-first.ensures (waits_among waiting places before) (λ n. is_up_at places (before + 1) && waits_for waiting (before + 1) n) c.loop-before.invariant.least c.first_at.ensures);
      most = omega (arith, less);
    }

pub returns : goal.returns
returns c =
    let places = c.args.places.now in
    let most = c.loop-before.invariant.most in
    let past = c.loop-before-test.false in
    let whole : c.loop-before.before ≡ length places = omega (arith, most, past) in
    subst (λ k. IsLeast (waits_among c.args.self.now.waiting.items places k) c.loop-before.first) whole c.loop-before.invariant.least
