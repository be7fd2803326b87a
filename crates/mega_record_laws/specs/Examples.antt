-- The first lines of a record: a start, a tick, what a client sent, and a reply to it.
use Rattle.std.specs.Prelude.{List, [], ◌∷◌}
use Rattle.mega_transcript.specs.declared.item.Item.TheVariants.{Start, Tick}
use Rattle.mega_promises.specs.Served.{Got, Line, Noted, OfClient, OfNode, Put}

abbrev pub first_lines : List Line
first_lines =
    Noted (Start (record { 0 = 2 }) 1) ∷ Noted (Tick (record { 0 = 2 }) 10) ∷ Got (OfClient 1) (0x4D ∷ 0x0A ∷ []) ∷ Put (OfNode 3) [] ∷ Put (OfClient 1) (0xFF ∷ []) ∷ []
