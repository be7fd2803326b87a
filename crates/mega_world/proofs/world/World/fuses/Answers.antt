use Rattle.std.proofs.Common.{refl, subst, sym}
use Rattle.mega_disk.specs.declared.pair.Device.{Device}
use Rattle.mega_disk.specs.declared.pair.Device.TheVariants.{Data, Log}
use Rattle.mega_places.specs.of_promises.Runs.{fused}
use Rattle.mega_world.specs.declared.world.World.{World}
use Rattle.mega_world.specs.AtRun.{StandsWith}
use Rattle.mega_world.proofs.Fused.{data_nodes, fused_at, log_nodes}
use Rattle.mega_world.proofs.world.World.fuses.Goals as goal

pub returns-in-Log : goal.returns-in-Log
returns-in-Log c = record {
  state = λ cluster h items now r.
      let old = c.args.self.now in
      let new : World = record old { places = c.fuse_at.new.places } in
      subst (λ (device : Device). StandsWith cluster new items (fused now c.args.node.0 c.args.calls c.args.image device)) (sym c.in-Log.is)
      (fused_at cluster now c.args.node.0 c.args.calls c.args.image Log old new items r
      (log_nodes cluster old.places.items c.fuse_at.new.places.items now c.args.node.0 c.args.calls c.args.image r.nodes c.requires.least c.requires.most c.fuse_at.ensures) refl refl refl);
}

pub returns-in-Data : goal.returns-in-Data
returns-in-Data c = record {
  state = λ cluster h items now r.
      let old = c.args.self.now in
      subst (λ (device : Device). StandsWith cluster old items (fused now c.args.node.0 c.args.calls c.args.image device)) (sym c.in-Data.is)
      (fused_at cluster now c.args.node.0 c.args.calls c.args.image Data old old items r (data_nodes cluster old.places.items now c.args.node.0 c.args.calls c.args.image r.nodes) refl refl refl);
}
