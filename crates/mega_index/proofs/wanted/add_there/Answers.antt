use Rattle.std.proofs.Common.{ap, sym}
use Rattle.std.specs.Prelude.{is_some}
use Rattle.mega_index.proofs.Wanting.{wanted_kept, set_kept}
use Rattle.mega_index.proofs.wanted.add_there.Goals as goal

pub returns-in_ok-insert-in-Some-clause-kept : goal.returns-in_ok-insert-in-Some-clause-kept
returns-in_ok-insert-in-Some-clause-kept c =
    let there = c.in-Some.ensures.value in
    wanted_kept c.args.wanted.now (c.get_mut.follows.lender c.insert.new.self) c.args.group.now c.in-Some.keys.now c.insert.new.self (sym there)
    ((c.get_mut.follows.holds c.insert.new.self).3 (ap is_some (sym there))).0
    (set_kept c.in-Some.keys.now c.insert.new.self c.args.key c.in_ok-insert-in-Some.ensures.updates.0)
