-- What leases note begins nothing, and decides nothing.
use Rattle.std.proofs.Common.{◌≡◌, false, List, [], ◌∷◌, map, refl, ◌∙◌}
use Rattle.mega_base.specs.declared.names.GroupId.{GroupId}
use Rattle.mega_rules.specs.Met.{Met}
use Rattle.mega_rules.specs.Clock.{begun_of}
use Rattle.mega_rules.specs.Logs.{groups_of, log_of}
use Rattle.mega_rules.specs.Steps.{onto}
use Rattle.mega_step_parts.specs.of_leases.declared.note.LeaseNote.{LeaseNote}
use Rattle.mega_step_parts.specs.of_leases.declared.note.LeaseNote.TheVariants as note
use Rattle.mega_step_parts.specs.of_leases.Notes.{met_of}
use Rattle.mega_actions.specs.of_node_laws.Deciding.{is_decision}
use Rattle.mega_actions.proofs.of_node_laws.Logs.{log_stays}

-- what leases note begins nothing
note_begun : (one : LeaseNote) (met : List Met) → begun_of (met_of one ∷ met) ≡ begun_of met
note_begun (note.Grants node epoch) met = refl
note_begun (note.Lapses node epoch) met = refl
note_begun (note.Counts cell epoch) met = refl
note_begun (note.Forgets cell epoch) met = refl
note_begun (note.Serves epoch) met = refl
note_begun (note.Loses epoch) met = refl
note_begun (note.Invalidates group position) met = refl

pub leases_begun : (notes : List LeaseNote) (met : List Met) → begun_of (onto (map met_of notes) met) ≡ begun_of met
leases_begun [] met = refl
leases_begun (one ∷ notes) met = leases_begun notes (met_of one ∷ met) ∙ note_begun one met

-- and decides nothing
note_groups : (one : LeaseNote) (met : List Met) → groups_of (met_of one ∷ met) ≡ groups_of met
note_groups (note.Grants node epoch) met = refl
note_groups (note.Lapses node epoch) met = refl
note_groups (note.Counts cell epoch) met = refl
note_groups (note.Forgets cell epoch) met = refl
note_groups (note.Serves epoch) met = refl
note_groups (note.Loses epoch) met = refl
note_groups (note.Invalidates group position) met = refl

pub leases_groups : (notes : List LeaseNote) (met : List Met) → groups_of (onto (map met_of notes) met) ≡ groups_of met
leases_groups [] met = refl
leases_groups (one ∷ notes) met = leases_groups notes (met_of one ∷ met) ∙ note_groups one met

note_plain : (one : LeaseNote) → is_decision (met_of one) ≡ false
note_plain (note.Grants node epoch) = refl
note_plain (note.Lapses node epoch) = refl
note_plain (note.Counts cell epoch) = refl
note_plain (note.Forgets cell epoch) = refl
note_plain (note.Serves epoch) = refl
note_plain (note.Loses epoch) = refl
note_plain (note.Invalidates group position) = refl

pub leases_log : (notes : List LeaseNote) (met : List Met) (group : GroupId) → log_of (onto (map met_of notes) met) group ≡ log_of met group
leases_log [] met group = refl
leases_log (one ∷ notes) met group = leases_log notes (met_of one ∷ met) group ∙ log_stays (met_of one) met group (note_plain one)
