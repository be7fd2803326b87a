-- The parts of an input: its header, up to the line `---` or the end, and what stands behind that line.
use Rattle.std.specs.Prelude.{ℕ, Bool, ◌||◌, nat_eq, if◌then◌else◌, codes, List, [], ◌∷◌, ◌++◌, Option, Some, None, Result}
use Rattle.std.specs.Cmp.Lexicographic.{pointwise}
use Rattle.mega_io.specs.TextLines.{lines_of}
use Rattle.mega_cluster.specs.declared.cluster.Cluster.{Cluster}
use Rattle.mega_cluster.specs.Header.{read_of}

-- the line between them; a carriage return may stand at its end
abbrev pub is_mark : List ℕ → Bool
is_mark line = pointwise nat_eq line (codes "---") || pointwise nat_eq line (codes "---" ++ 13 ∷ [])

-- the text of the lines before it, each with its line feed
abbrev pub text_before : List (List ℕ) → List ℕ
text_before [] = []
text_before (line ∷ lines) = if is_mark line then [] else line ++ 10 ∷ text_before lines

-- the lines behind it, where it is there
abbrev pub lines_behind : List (List ℕ) → Option (List (List ℕ))
lines_behind [] = None
lines_behind (line ∷ lines) = if is_mark line then Some lines else lines_behind lines

-- the text of the header: of the lines before the line `---`, or, where it is missing, the whole input
abbrev pub header_before : List ℕ → List (List ℕ) → Option (List (List ℕ)) → List ℕ
header_before input lines None = input
header_before input lines (Some behind) = text_before lines

abbrev pub header_text : List ℕ → List ℕ
header_text input = header_before input (lines_of input) (lines_behind (lines_of input))

-- the cluster of the header, which has at least so many nodes, or the first rule that it breaks
abbrev pub cluster_in : ℕ → List ℕ → Result Cluster ℕ
cluster_in least input = read_of least (header_text input)
