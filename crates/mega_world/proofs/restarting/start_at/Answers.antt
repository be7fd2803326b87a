use Rattle.std.proofs.Common.{◌≡◌, Err, ap}
use Rattle.mega_places.specs.declared.fault.WorldFault.TheVariants.{Limit}
use Rattle.mega_world.proofs.Again.{fallen_at_place}
use Rattle.mega_world.proofs.restarting.start_at.Goals as goal

pub restarted-requires-clause-known : goal.restarted-requires-clause-known
restarted-requires-clause-known c =
    let k = c.requires.known in
    let me = c.args.me in
    let is = fallen_at_place c.args.cluster c.args.places.now.items k.now me c.take_place.result c.in-Down.fallen k.nodes c.requires.least c.take_place.ensures.found c.in-Down.is in
    record { starts = k.now.starts me; owed = k.now.owed me; met = (k.now.node me).met; fuse = k.now.log_fuse me; is = is }

pub returns-in-Ok-clause-reopens : goal.returns-in-Ok-clause-reopens
returns-in-Ok-clause-reopens c now all =
    c.in-Ok.ensures.reopens now c.args.places.now.items all c.requires.most c.take_place.ensures.left
    (fallen_at_place c.args.cluster c.args.places.now.items now c.args.me c.take_place.result c.in-Down.fallen all c.requires.least c.take_place.ensures.found c.in-Down.is)

pub returns-in-Err-clause-limit : goal.returns-in-Err-clause-limit
returns-in-Err-clause-limit c limit now all =
    let same : c.in-Err.fault ≡ Limit = cc in
    let me = c.args.me in
    c.in-Err.ensures.limit (ap Err same) (now.starts me) (now.owed me) (now.node me).met (now.log_fuse me)
    (fallen_at_place c.args.cluster c.args.places.now.items now me c.take_place.result c.in-Down.fallen all c.requires.least c.take_place.ensures.found c.in-Down.is)
