use Rattle.mega_coordinator.proofs.Kept.{nothing_refuses, validated}
use Rattle.mega_coordinator.proofs.coordinator.Coordinator.validate.Goals as goal

pub returns-in_ok-keep-in-None-clause-state : goal.returns-in_ok-keep-in-None-clause-state
returns-in_ok-keep-in-None-clause-state c = λ start cells calls kept. record {
  start_is = kept.start_is;
  cells_are = kept.cells_are;
  lease = kept.lease;
  groups = validated start cells calls c.args.self.now.groups c.keep.new.groups kept.groups c.args.group.now _ c.standing.ensures c.args.p.0 c.args.begun
      (nothing_refuses start cells calls c.args.group.now _ _ _ c.args.p.0 c.args.begun kept.start_is kept.lease (kept.groups c.args.group.now) c.in-None.ensures)
      c.in_ok-keep-in-None.ensures.ok;
}
