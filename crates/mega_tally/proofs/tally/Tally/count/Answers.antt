use Rattle.mega_tally.specs.declared.tally.Tally.{Tally}
use Rattle.mega_tally.proofs.Adding.{counts_on}
use Rattle.mega_tally.proofs.tally.Tally.count.Goals as goal

pub returns : goal.returns
returns c items r =
    counts_on c.args.self.now (record { kinds = c.in_ok-kinds.kinds; is_unsafe = c.unsafe_with-self.result; decided = c.count.new.self }) c.args.item.now c.in_ok-kinds.ensures c.unsafe_with-self.ensures c.in_ok-count.ensures items r
