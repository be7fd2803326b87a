-- The mark of a group, where any of its entries are applied.
use Rattle.std.specs.Prelude.{ℕ, nat_lt, if◌then◌else◌, List, [], ◌∷◌}
use Rattle.mega_base.specs.declared.names.GroupId.{GroupId}
use Rattle.mega_outcome.specs.declared.answer.Mark.{Mark}

abbrev pub mark_if : GroupId → ℕ → List Mark
mark_if group applied = if nat_lt 0 applied then record { group = group; position = record { 0 = applied } } ∷ [] else []
