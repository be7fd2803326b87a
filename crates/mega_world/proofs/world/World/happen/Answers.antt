use Rattle.std.proofs.Common.{◌++◌}
use Rattle.std.proofs.lemmas.Result.{on_ok_weaker}
use Rattle.mega_world.proofs.world.World.happen.Goals as goal

pub deliver-requires : goal.deliver-requires
deliver-requires g c = record { known = rw c.in-Deliver.is at c.requires.known }

pub start-requires : goal.start-requires
start-requires g c = record { known = (_, rw c.in-Start.is at c.requires.known) }

pub returns-in-Deliver-clause-refused : goal.returns-in-Deliver-clause-refused
returns-in-Deliver-clause-refused g c = rw c.in-Deliver.is c.deliver.ensures.refused

pub returns-in-Begin-clause-refused : goal.returns-in-Begin-clause-refused
returns-in-Begin-clause-refused g c = rw c.in-Begin.is c.begin.ensures.refused

pub returns-in-Drop-clause-state : goal.returns-in-Drop-clause-state
returns-in-Drop-clause-state g c = rw c.in-Drop.is (on_ok_weaker c.drop_message.result (λ state cluster h earlier now r sound. state cluster h earlier now r) c.drop_message.ensures.state)

pub returns-in-Tick-clause-refused : goal.returns-in-Tick-clause-refused
returns-in-Tick-clause-refused g c = rw c.in-Tick.is c.tick.ensures.refused

pub returns-in-Crash-clause-state : goal.returns-in-Crash-clause-state
returns-in-Crash-clause-state g c = rw c.in-Crash.is (on_ok_weaker c.crash.result (λ state cluster h earlier now r sound. state cluster h earlier now r) c.crash.ensures.state)

pub returns-in-Fuse-clause-state : goal.returns-in-Fuse-clause-state
returns-in-Fuse-clause-state g c = rw c.in-Fuse.is (on_ok_weaker c.fuse.result (λ state cluster h earlier now r sound. state cluster h (earlier ++ c.args.tape.now.items) now r) c.fuse.ensures.state)

pub returns-in-Deliver-clause-state : goal.returns-in-Deliver-clause-state
returns-in-Deliver-clause-state g c = rw c.in-Deliver.is c.deliver.ensures.state

pub returns-in-Begin-clause-state : goal.returns-in-Begin-clause-state
returns-in-Begin-clause-state g c = rw c.in-Begin.is c.begin.ensures.state

pub returns-in-Drain-clause-state : goal.returns-in-Drain-clause-state
returns-in-Drain-clause-state g c = rw c.in-Drain.is c.drain.ensures.state

pub returns-in-Tick-clause-state : goal.returns-in-Tick-clause-state
returns-in-Tick-clause-state g c = rw c.in-Tick.is c.tick.ensures.state

pub returns-in-Start-clause-lines : goal.returns-in-Start-clause-lines
returns-in-Start-clause-lines g c = rw c.in-Start.is (on_ok_weaker c.start.result (λ lines cluster h earlier now r sound lined. lines cluster earlier now r sound.formed lined) c.start.ensures.lines)

pub returns-in-Start-clause-state : goal.returns-in-Start-clause-state
returns-in-Start-clause-state g c = rw c.in-Start.is (on_ok_weaker c.start.result (λ state cluster h earlier now r sound. state cluster h earlier now r) c.start.ensures.state)
