-- What holds of each item of a tape, by what stood before it.
use Rattle.std.specs.Prelude.{List, [], ◌∷◌}
use Rattle.mega_lease_laws.specs.of_run_laws.of_tape_laws.of_promises.of_transcript.declared.item.Item.{Item}

abbrev pub Are : (List Item → Item → Type 0) → List Item → Type 0
Are P [] = Unit {0}
Are P (item ∷ before) = P before item × Are P before
