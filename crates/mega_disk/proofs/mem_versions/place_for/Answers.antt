use Rattle.std.proofs.Common.{arith, sym}
use Rattle.mega_disk.proofs.Rows.{below_more, place_here, place_last, key_there}
use Rattle.mega_disk.proofs.mem_versions.place_for.Goals as goal

pub returns-in-Equal-clause-none : goal.returns-in-Equal-clause-none
returns-in-Equal-clause-none c = key_there c.args.rows.now c.args.key.now c.loop-i.i c.index-rows-i.result (omega arith) c.index-rows-i.is (sym c.in-Equal.ensures)

pub returns-in-Greater-clause-place : goal.returns-in-Greater-clause-place
returns-in-Greater-clause-place c = place_here c.args.rows.now c.args.key.now c.loop-i.i c.index-rows-i.result (omega arith) c.index-rows-i.is (sym c.in-Greater.ensures) c.loop-i.invariant

pub loop-i-preserved : goal.loop-i-preserved
loop-i-preserved c = below_more c.args.rows.now c.args.key.now c.loop-i.i c.index-rows-i.result (omega arith) c.index-rows-i.is (sym c.in-Less.ensures) c.loop-i.invariant

pub returns-clause-place : goal.returns-clause-place
returns-clause-place c = place_last c.args.rows.now c.args.key.now c.loop-i.i (omega arith) (omega arith) c.loop-i.invariant
