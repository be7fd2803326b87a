use Rattle.std.proofs.Common.{◌≡◌, take, drop}
use Rattle.mega_schema.specs.Lookup.{stands_twice}
use Rattle.mega_schema.proofs.Naming.{twice_behind}
use Rattle.mega_schema.proofs.places.Places.stands_twice.Given as goal

abbrev pub invariant-loop-name : goal.invariant-loop-name
invariant-loop-name l = (l.place ≡ l.name-index) × (twice_behind (take l.name-index l.self) (drop l.name-index l.self) ≡ stands_twice l.self)
