-- What a node met of its epochs and its valid groups, item by item, as its tape shows it.
use Rattle.std.specs.Prelude.{Bool, true, false, if◌then◌else◌, List, [], ◌∷◌, Option, Some, None}
use Rattle.mega_base.specs.declared.names.Epoch.{Epoch}
use Rattle.mega_base.specs.declared.names.GroupId.{GroupId}
use Rattle.mega_wal.specs.Same.{same_group}
use Rattle.mega_settled_laws.specs.of_tape_laws.of_promises.of_rules.Met.{Met, Crashes, Invalidates, Loses, Serves, Starts, Validates}

abbrev pub next_serving : Met → Option Epoch → Option Epoch
next_serving (Serves epoch) before = Some epoch
next_serving (Loses epoch) before = None
next_serving (Starts start) before = None
next_serving Crashes before = None
next_serving _ before = before

abbrev pub next_valid : GroupId → Met → Bool → Bool
next_valid group (Validates g position) before = if same_group g group then true else before
next_valid group (Invalidates g position) before = if same_group g group then false else before
next_valid group (Loses epoch) before = false
next_valid group (Starts start) before = false
next_valid group Crashes before = false
next_valid group _ before = before

abbrev pub serving_met : List Met → Option Epoch
serving_met [] = None
serving_met (one ∷ before) = next_serving one (serving_met before)

abbrev pub valid_met : List Met → GroupId → Bool
valid_met [] group = false
valid_met (one ∷ before) group = next_valid group one (valid_met before group)
