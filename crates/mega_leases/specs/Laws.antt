-- Which items of what a node met tell nothing to its clock, its cell and its coordinator.
use Rattle.std.specs.Prelude.{Bool, true, false}
use Rattle.mega_rules.specs.Met.{Met, Starts, Crashes, Ticks, Begins, Takes, Sends, Unsends, Grants, Lapses, Counts, Forgets, Serves, Loses, Validates, Invalidates, Decides, Applies, Answers}

-- an item that tells them nothing, wherever it stands
abbrev pub is_apart : Met → Bool
is_apart (Starts start) = false
is_apart Crashes = false
is_apart (Ticks now) = false
is_apart (Begins op text) = true
is_apart (Takes message) = false
is_apart (Sends message) = true
is_apart (Unsends message) = true
is_apart (Grants node epoch) = false
is_apart (Lapses node epoch) = false
is_apart (Counts cell epoch) = true
is_apart (Forgets cell epoch) = true
is_apart (Serves epoch) = true
is_apart (Loses epoch) = true
is_apart (Validates group position) = false
is_apart (Invalidates group position) = true
is_apart (Decides group position entry) = true
is_apart (Applies group position) = true
is_apart (Answers op answer) = true

-- the same of items past the opening of a start, where a grant and a lapse only show what was told before
abbrev pub shows_only : Met → Bool
shows_only (Grants node epoch) = true
shows_only (Lapses node epoch) = true
shows_only item = is_apart item
