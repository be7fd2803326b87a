-- What the input of the word `two` tells: the cluster of its header, and the change, or how the run ends.
use Rattle.std.specs.Prelude.{◌≡◌, ◌⊎◌, ℕ, ◌<◌, ◌==◌, if◌then◌else◌, Bool, List, [], ◌∷◌, length, Option, Some, None, Result, Ok, Err}
use Rattle.mega_io.specs.TextLines.{lines_of}
use Rattle.mega_cluster.specs.declared.cluster.Cluster.{Cluster}
use Rattle.mega_schema.specs.declared.schema.Schema.{Schema}
use Rattle.mega_header.specs.Parts.{cluster_in, lines_behind}
use Rattle.mega_two_driver.specs.declared.two.Two.{Two}
use Rattle.mega_two_driver.specs.Driver.{begun, recovered}
use Rattle.mega_two_words.specs.declared.last.Last.{Last}
use Rattle.mega_two_words.specs.declared.start.Start.{Start}
use Rattle.mega_two_words.specs.declared.last.Last.TheVariants.{Header, Refused}

-- a missing line counts as an empty one
abbrev pub first_of : List (List ℕ) → List ℕ
first_of [] = []
first_of (line ∷ lines) = line

-- a line that is too long is not read to its end
abbrev pub IsLine : List ℕ → List ℕ → Type 0
IsLine read line = (read ≡ line) ⊎ ((16384 < length read) × (16384 < length line))

abbrev pub or_refused : Result Two ℕ → Result Two Last
or_refused (Ok two) = Ok two
or_refused (Err reason) = Err (Refused reason)

-- the change that the first line tells, or the one with this name
abbrev pub told_behind : Schema → Option (List (List ℕ)) → Result Two Last
told_behind s None = Err (Header 9)
told_behind s (Some lines) = or_refused (begun s (first_of lines))

abbrev pub told_by : Schema → Option (List ℕ) → Option (List (List ℕ)) → Result Two Last
told_by s None lines = told_behind s lines
told_by s (Some name) lines = or_refused (recovered s name)

-- an address for each node
abbrev pub has_addresses : Cluster → Bool
has_addresses c = length c.addresses == length c.nodes

abbrev pub told_in : Cluster → Option (List ℕ) → Option (List (List ℕ)) → Result Two Last
told_in c name lines = if has_addresses c then told_by c.schema name lines else Err (Header 8)

abbrev pub with_cluster : Cluster → Result Two Last → Result Start Last
with_cluster c (Ok two) = Ok (record { cluster = c; two = two })
with_cluster c (Err last) = Err last

abbrev pub starts_with : Option (List ℕ) → Result Cluster ℕ → Option (List (List ℕ)) → Result Start Last
starts_with name (Err rule) lines = Err (Header rule)
starts_with name (Ok c) lines = with_cluster c (told_in c name lines)

-- by an input, whose header has at least so many nodes
abbrev pub starts : ℕ → Option (List ℕ) → List ℕ → Result Start Last
starts number name input = starts_with name (cluster_in number input) (lines_behind (lines_of input))
