use Rattle.mega_places.specs.of_promises.Runs.{opening}
use Rattle.mega_world.proofs.Behind.{at_is}
use Rattle.mega_world.proofs.Opened.{opening_leases, opening_mail, opening_nodes, opening_tape}
use Rattle.mega_world.proofs.world.World.new.Goals as goal

pub returns-clause-state : goal.returns-clause-state
returns-clause-state c h =
    let cluster = c.args.cluster.now in
    at_is cluster (record { cluster = c.in_ok-own.own; places = c.in-Ok.places; mail = c.new.result; safety = c.new-2.result }) c.start_all.new.tape.items (opening cluster h) (record {
      cluster = c.in_ok-own.ensures;
      served = c.requires.served;
      nodes = opening_nodes cluster h c.in-Ok.places.items c.in-Ok.ensures.count c.in-Ok.ensures.nodes;
      mail = opening_mail cluster h c.new.result c.new.ensures;
      tape = opening_tape cluster h c.start_all.new.tape.items c.in-Ok.ensures.tape;
      leases = opening_leases cluster h c.new-2.result c.new-2.ensures.lapses c.new-2.ensures.told;
    })

pub returns-clause-tape : goal.returns-clause-tape
returns-clause-tape c h = opening_tape c.args.cluster.now h c.start_all.new.tape.items c.in-Ok.ensures.tape
