use Rattle.std.proofs.Common.{◌≡◌, ◌++◌, take}
use Rattle.mega_schema.specs.Rules.{words_names}
use Rattle.mega_schema.proofs.places.Places.and.Given as goal

abbrev pub invariant-loop-property : goal.invariant-loop-property
invariant-loop-property l = l.places ≡ l.fn.self ++ words_names (take l.property-index l.words)
