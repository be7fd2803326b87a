-- A write with its local index writes, where it is kept.
use Rattle.std.specs.Prelude.{List, [], ◌∷◌, Option, Some, None}
use Rattle.mega_entry.specs.declared.content.Write.{Write}

abbrev pub kept_with : Write → Option (List Write) → List Write
kept_with write None = []
kept_with write (Some more) = write ∷ more
