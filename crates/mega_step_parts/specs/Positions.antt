-- The applied positions of groups before a step, and what is noted of those of which more is applied then.
use Rattle.std.specs.Prelude.{ℕ, nat_lt, if◌then◌else◌, List, [], ◌∷◌}
use Rattle.mega_base.specs.declared.names.GroupId.{GroupId}
use Rattle.mega_rules.specs.Met.{Met, Applies}
use Rattle.mega_rules.specs.Steps.{applied_at}
use Rattle.mega_step_parts.specs.declared.applying.Before.{Before}

-- the applied position of a group
abbrev pub before_at : List Met → (GroupId → ℕ) → GroupId → Before
before_at met stored group = record { group = group; position = applied_at met stored group }

-- a group is noted of which more is applied than before
abbrev pub note_since : List Met → (GroupId → ℕ) → Before → List Met
note_since met stored before = if nat_lt before.position (applied_at met stored before.group) then Applies before.group (applied_at met stored before.group) ∷ [] else []
