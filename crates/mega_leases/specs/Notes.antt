-- What a node notes of its cell and its coordinator.
use Rattle.std.specs.Prelude.{ℕ, Bool, if◌then◌else◌, List, [], ◌∷◌, Option, Some, None}
use Rattle.mega_base.specs.declared.names.Epoch.{Epoch}
use Rattle.mega_leases.specs.declared.note.LeaseNote.{LeaseNote}
use Rattle.mega_leases.specs.declared.note.LeaseNote.TheVariants as note
use Rattle.mega_rules.specs.Met.{Met, Grants, Lapses, Counts, Forgets, Serves, Loses, Invalidates}

-- a note as an item of what the node met
abbrev pub met_of : LeaseNote → Met
met_of (note.Grants node epoch) = Grants node.0 epoch
met_of (note.Lapses node epoch) = Lapses node.0 epoch
met_of (note.Counts cell epoch) = Counts cell epoch
met_of (note.Forgets cell epoch) = Forgets cell epoch
met_of (note.Serves epoch) = Serves epoch
met_of (note.Loses epoch) = Loses epoch
met_of (note.Invalidates group position) = Invalidates group position.0

-- a cell that is counted is noted the first time
abbrev pub count_notes : ℕ → Epoch → Bool → List LeaseNote
count_notes cell epoch was_counted = if was_counted then [] else note.Counts cell epoch ∷ []

abbrev pub forgotten_note : Epoch → ℕ → LeaseNote
forgotten_note epoch cell = note.Forgets cell epoch

abbrev pub lapsed_notes : ℕ → Option Epoch → List LeaseNote
lapsed_notes node None = []
lapsed_notes node (Some epoch) = note.Lapses (record { 0 = node }) epoch ∷ []
