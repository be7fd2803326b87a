-- What a node replies to, which follows from its role alone, and what of a step the next start owes.
use Rattle.std.specs.Prelude.{◌≡◌, ℕ, ◌==◌, ◌&&◌, Bool, false, List, ◌++◌, map}
use Rattle.mega_cluster.specs.declared.cluster.Cluster.{Cluster}
use Rattle.mega_wire.specs.declared.message.Body.{Body}
use Rattle.mega_wire.specs.declared.message.Body.TheVariants.{Where, Accept, Prepare, Invalidate, Dead, Fetch, Acquire}
use Rattle.mega_rules.specs.Members.{is_cell, is_full, is_voter}
use Rattle.mega_rules.specs.Met.{Met, Unsends}
use Rattle.mega_core.specs.of_step_parts.Notes.{met_of}
use Rattle.mega_durable.specs.declared.cut.Cut.{Cut}

abbrev pub replies_at : Cluster → ℕ → Body → Bool
replies_at c me (Where op group) = is_voter c me
replies_at c me (Accept op group position ballot entry) = is_voter c me
replies_at c me (Prepare op group position ballot) = is_voter c me
replies_at c me (Fetch op group position) = is_voter c me
replies_at c me (Invalidate op group position) = is_full c me
replies_at c me (Dead op cell node) = cell == me && is_cell c me
replies_at c me (Acquire cell epoch clock) = cell == me && is_cell c me
replies_at c me _ = false

-- what the next start owes of a step that was cut off, where its record was kept
abbrev pub owed_by : Cut → List Met
owed_by cut = map met_of cut.notes ++ map Unsends cut.replies
