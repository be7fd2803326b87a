-- The length of an entry of writes alone.
use Rattle.std.proofs.Common.{◌≡◌, ◌+◌, ℕ, List, [], ◌∙◌, arith}
use Rattle.mega_entry.specs.declared.content.Write.{Write}
use Rattle.mega_outcome.specs.Lengths.{writes_length}
use Rattle.mega_outcome.specs.Outcome.{entry_length}
use Rattle.mega_outcome.proofs.Sizes.{entry_length as whole_length}

pub writes_alone : (writes : List Write) → 28 + writes_length writes ≡ entry_length writes [] []
writes_alone writes = omega (arith, whole_length writes [] [])
