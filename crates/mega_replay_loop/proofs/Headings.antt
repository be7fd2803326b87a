-- The header of a replay, and the lines of its schedule behind it.
use Rattle.std.proofs.Common.{◌≡◌, ℕ, Option, Some, None, Result, Ok, Err, List, ◌∙◌, ap}
use Rattle.mega_cluster.specs.declared.cluster.Cluster.{Cluster}
use Rattle.mega_cluster.specs.Header.{◌>>=◌, read_of}
use Rattle.mega_io.specs.TextLines.{lines_of}
use Rattle.mega_header.specs.Parts.{header_before, lines_behind}
use Rattle.mega_header.specs.Known.{Breaks, HasHeader}
use Rattle.mega_replay_loop.specs.Headings.{parts_of}
use Rattle.mega_replay_loop.specs.Known.{IsBroken, IsHeaded}

pub headed : (first left : Option (List ℕ)) (text : List ℕ) (c : Cluster) → HasHeader first left text → read_of 1 text ≡ Ok c → IsHeaded first left c
headed None left text c header reads = tt
headed (Some first) None text c header reads = absurd header
headed (Some first) (Some left) text c header reads =
    (ap (parts_of first (lines_of first)) header.0.1 ∙ ap (λ r. r >>= λ cluster. Ok (cluster, lines_of left)) (ap (read_of 1) header.0.0 ∙ reads), (text, reads, header.0, header.1))

breaks : (input : List ℕ) (lines : List (List ℕ)) (behind : Option (List (List ℕ))) (rule : ℕ) → read_of 1 (header_before input lines behind) ≡ Err rule → parts_of input lines behind ≡ Err rule
breaks input lines None rule reads = ap (λ r. r >>= λ cluster. Err 9) reads
breaks input lines (Some schedule) rule reads = ap (λ r. r >>= λ cluster. Ok (cluster, schedule)) reads

pub header_breaks : (first : Option (List ℕ)) (rule : ℕ) → Breaks 1 first rule → IsBroken first rule
header_breaks None rule broken = tt
header_breaks (Some first) rule broken = breaks first (lines_of first) (lines_behind (lines_of first)) rule broken
