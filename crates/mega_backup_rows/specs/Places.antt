-- Whether a group that is spelled is this one.
use Rattle.std.specs.Prelude.{ℕ, Bool, false, List, Result, Ok, Err}
use Rattle.mega_keys.specs.declared.fault.KeyFault.{KeyFault}
use Rattle.mega_index.specs.Rows.{same_key}

abbrev pub is_group : List ℕ → Result (List ℕ) KeyFault → Bool
is_group group (Ok own) = same_key own group
is_group group (Err fault) = false
