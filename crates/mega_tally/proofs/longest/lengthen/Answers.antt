use Rattle.std.proofs.Common.{◌∙◌, ◌==◌, ap, arith, max, rules}
use Rattle.std.proofs.lemmas.Bool.Decides.{nat_tests}
use Rattle.mega_tally.proofs.Adding.{lengthened_is}
use Rattle.mega_tally.proofs.longest.lengthen.Goals as goal

pub returns : goal.returns
returns c =
    lengthened_is c.args.longest.now.entries c.insert.new.self.entries c.args.group.now c.in_ok-own.own c.args.prefix c.longest_of-before.result (let h = c.if-prefix-eq0.false in grind (arith, nat_tests)) c.in_ok-own.ensures (search rules) c.longest_of-before.ensures
