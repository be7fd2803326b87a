use Rattle.std.proofs.Common.{ap, sym}
use Rattle.std.specs.Prelude.{is_some, Some}
use Rattle.mega_wal.specs.Kept.{Same}
use Rattle.mega_wal.proofs.Placed.{entries_same, log_puts, log_same, on_err}
use Rattle.mega_wal.proofs.groups.put_there.Goals as goal

pub returns-in_ok-set-in-Some-clause-ok : goal.returns-in_ok-set-in-Some-clause-ok
returns-in_ok-set-in-Some-clause-ok c =
    let there = c.in-Some.ensures.value in
    log_puts c.args.groups.now (c.get_mut.follows.lender c.set.new.self) c.args.group.now c.set.new.self (Some c.in-Some.log.now) there
    ((c.get_mut.follows.holds c.set.new.self).3 (ap is_some (sym there))).0
    c.args.at c.args.slot c.args.marks c.in_ok-set-in-Some.ensures.ok c.in_ok-set-in-Some.ensures.marks

pub returns-in_err-set-in-Some-clause-err : goal.returns-in_err-set-in-Some-clause-err
returns-in_err-set-in-Some-clause-err c =
    let there = c.in-Some.ensures.value in
    on_err c.from_residual.result (Same c.args.groups.now (c.get_mut.follows.lender c.set.new.self))
    (log_same c.args.groups.now (c.get_mut.follows.lender c.set.new.self) c.args.group.now c.set.new.self (Some c.in-Some.log.now) there
    ((c.get_mut.follows.holds c.set.new.self).3 (ap is_some (sym there))).0
    (entries_same c.set.new.self.slots c.in-Some.log.now.slots c.in_err-set-in-Some.ensures.err) c.in_err-set-in-Some.ensures.kept)
