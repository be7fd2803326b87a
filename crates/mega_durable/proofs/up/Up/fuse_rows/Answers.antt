use Rattle.std.proofs.Common.{refl}
use Rattle.mega_durable.proofs.AfterSpill.{still_up}
use Rattle.mega_durable.proofs.up.Up.fuse_rows.Goals as goal

pub returns-clause-state : goal.returns-clause-state
returns-clause-state g c = λ h node up. still_up g.R.Records g.V.Versions.version h c.args.self.now.node (record c.args.self.now.node.replica.rows { rows = c.fuse.new.self }) node c.fuse.ensures.versions refl up

pub returns-clause-rows : goal.returns-clause-rows
returns-clause-rows g c = record { versions = c.fuse.ensures.versions; cleaned = c.fuse.ensures.cleaned; marks = c.fuse.ensures.marks; full = c.fuse.ensures.full; same = c.fuse.ensures.same; faults = c.fuse.ensures.faults; bad_stays = c.fuse.ensures.bad_stays; fuse = c.fuse.ensures.fuse; by_fuse = c.fuse.ensures.by_fuse }
