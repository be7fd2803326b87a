-- An input of whose first line too much was read.
use Rattle.std.proofs.Common.{ℕ, Option, Some, None, List}
use Rattle.mega_io.specs.declared.lines.Ended.TheVariants.{Long}
use Rattle.mega_io.specs.TextLines.{ReadsLine}
use Rattle.mega_header.proofs.Inputs.{long_line}
use Rattle.mega_replay_loop.specs.Known.{IsTooLong}

pub too_long : (old new : Option (List ℕ)) (line : List ℕ) → ReadsLine 65536 old new line Long → IsTooLong old
too_long None new line reads = tt
too_long (Some old) None line reads = absurd reads.0.1
too_long (Some old) (Some new) line reads =
    long_line 65536 old line reads.0.0 new reads.0.1 reads.1 reads.2
