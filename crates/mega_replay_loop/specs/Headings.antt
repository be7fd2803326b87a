-- The two parts of an input: the header, and the lines of the schedule, which stand behind the line `---`.
use Rattle.std.specs.Prelude.{ℕ, List, Option, Some, None, Result, Ok, Err}
use Rattle.mega_io.specs.TextLines.{lines_of}
use Rattle.mega_cluster.specs.declared.cluster.Cluster.{Cluster}
use Rattle.mega_cluster.specs.Header.{read_of, ◌>>=◌}
use Rattle.mega_header.specs.Parts.{lines_behind, text_before}

-- the cluster of the header and the lines of the schedule, or the rule that the header breaks; where that line is missing, the whole input is
-- the header, and it breaks rule 9 where it breaks no other
abbrev pub parts_of : List ℕ → List (List ℕ) → Option (List (List ℕ)) → Result (Cluster × List (List ℕ)) ℕ
parts_of input lines None = read_of 1 input >>= λ cluster. Err 9
parts_of input lines (Some schedule) = read_of 1 (text_before lines) >>= λ cluster. Ok (cluster, schedule)

abbrev pub heading_of : List ℕ → Result (Cluster × List (List ℕ)) ℕ
heading_of input = parts_of input (lines_of input) (lines_behind (lines_of input))
