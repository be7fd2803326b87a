-- A worked run that shows a row, of which events and tape are of the format.
use Rattle.std.specs.Prelude.{ℕ, List, [], ◌∷◌, map, codes, Option, Some, None}
use Rattle.mega_outcome.specs.declared.request.Request.{Request}
use Rattle.mega_rules.specs.Examples.{put}
use Rattle.mega_promises.specs.Runs.{Happening}
use Rattle.mega_promises.specs.Worked.{drain, happens}
use Rattle.mega_tape_laws.specs.Writes.{Usage}
use Rattle.mega_answer_laws.specs.Examples.{at_node, snapshot}

-- a text of two bytes means the put of a user, and a longer one a snapshot of that user
abbrev pub meant_by : List ℕ → Option Request
meant_by [] = None
meant_by (a ∷ []) = None
meant_by (a ∷ b ∷ []) = Some put
meant_by (a ∷ b ∷ c ∷ more) = Some snapshot

abbrev pub two_words : Usage
two_words = record { meaning = meant_by; handlers = λ moment. [] }

-- a user is put, and read at the node that put it
abbrev pub put_and_shown : List Happening
put_and_shown = map happens (at_node 1 put (codes "{}") ∷ drain ∷ at_node 1 snapshot (codes "{\"a\":true}") ∷ [])
