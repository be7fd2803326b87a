use Rattle.std.proofs.Common.{◌≡◌, take}
use Rattle.mega_schema.proofs.places.Places.of_names.Given as goal

abbrev pub invariant-loop-name : goal.invariant-loop-name
invariant-loop-name l = l.places ≡ take l.name-index l.names
