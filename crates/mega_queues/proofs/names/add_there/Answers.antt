use Rattle.std.proofs.Common.{ap, sym}
use Rattle.std.specs.Prelude.{is_some}
use Rattle.std.specs.BTreeSet.{contains}
use Rattle.mega_queues.specs.Named.{is_in, place_cmp}
use Rattle.mega_queues.proofs.Naming.{added}
use Rattle.mega_queues.proofs.names.add_there.Goals as goal

pub returns-in_ok-insert-in-Some : goal.returns-in_ok-insert-in-Some
returns-in_ok-insert-in-Some c =
    let there = c.in-Some.ensures.value in
    added c.args.names.now (c.get_mut.follows.lender c.insert.new.self) c.args.name.now (contains place_cmp c.in-Some.places.now) c.insert.new.self
    (λ k. ap (is_in k) (sym there))
    ((c.get_mut.follows.holds c.insert.new.self).3 (ap is_some (sym there))).0
    c.in_ok-insert-in-Some.ensures.updates.0
