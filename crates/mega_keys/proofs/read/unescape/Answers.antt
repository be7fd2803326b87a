use Rattle.mega_keys.proofs.Escapes.{unit_fails, unit_ends, unit_more, unit_less}
use Rattle.mega_keys.proofs.read.unescape.Goals as goal

pub returns-in-Err : goal.returns-in-Err
returns-in-Err c = unit_fails c.in-Err.stop c.units.found c.units.left.now _ c.in-Err.ensures c.units.invariant

pub returns-in-Ok-None-default : goal.returns-in-Ok-None-default
returns-in-Ok-None-default c =
    unit_ends c.units.found c.units.left.now c.in-Ok-None-default.rest.now _ (rw c.in-Ok-None-default.field-0-0-is at c.in-Ok-None-default.ensures) c.units.invariant

pub units-smaller : goal.units-smaller
units-smaller c = unit_less c.units.left.now c.in-Ok-Some-default.rest.now _ c.in-Ok-Some-default.ensures

pub units-preserved : goal.units-preserved
units-preserved c =
    let more = unit_more c.units.found c.units.left.now c.in-Ok-Some-default.rest.now _ _ (rw c.in-Ok-Some-default.field-0-0-is at c.in-Ok-Some-default.ensures) c.units.invariant in
    rw c.in_ok-push-in-Ok-Some-default.ensures.ok more
