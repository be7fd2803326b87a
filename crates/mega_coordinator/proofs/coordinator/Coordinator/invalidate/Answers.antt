use Rattle.mega_coordinator.proofs.Kept.{invalidated}
use Rattle.mega_coordinator.proofs.coordinator.Coordinator.invalidate.Goals as goal

pub returns-clause-state : goal.returns-clause-state
returns-clause-state c = λ start cells calls kept. record {
  start_is = kept.start_is;
  cells_are = kept.cells_are;
  lease = kept.lease;
  groups = invalidated start cells calls c.args.self.now.groups c.keep.new.groups kept.groups c.args.group.now _ c.standing.ensures c.args.n.0 _ c.max.ensures c.in_ok-keep.ensures.ok;
}
