-- The parts of an input: the header of a cluster, and the lines of a transcript, which stand behind the line `---`.
use Rattle.std.specs.Prelude.{ℕ, Bool, ◌||◌, nat_eq, codes, List, [], ◌∷◌, ◌++◌, Option, Result, Ok, Err}
use Rattle.std.specs.List.{position_from}
use Rattle.std.specs.Cmp.Lexicographic.{pointwise}
use Rattle.mega_cluster.specs.declared.cluster.Cluster.{Cluster}
use Rattle.mega_cluster.specs.Header.{read_of}
use Rattle.picture.specs.declared.refusal.Refusal.{Refusal}
use Rattle.picture.specs.declared.refusal.Refusal.TheVariants.{Header}

-- the line between them; a carriage return may stand at its end
abbrev pub is_mark : List ℕ → Bool
is_mark line = pointwise nat_eq line (codes "---") || pointwise nat_eq line (codes "---" ++ 13 ∷ [])

-- where it stands first
abbrev pub mark_place : List (List ℕ) → Option ℕ
mark_place lines = position_from is_mark 0 lines

-- the text of lines, each with its line feed
abbrev pub text_of : List (List ℕ) → List ℕ
text_of [] = []
text_of (line ∷ lines) = line ++ 10 ∷ text_of lines

abbrev pub cluster_or : Result Cluster ℕ → Result Cluster Refusal
cluster_or (Ok cluster) = Ok cluster
cluster_or (Err rule) = Err (Header rule)

-- the cluster of a header's lines, or the rule that the header breaks
unfoldable pub cluster_of : List (List ℕ) → Result Cluster Refusal
cluster_of lines = cluster_or (read_of 1 (text_of lines))
