use Rattle.std.proofs.Common.{ℕ, List, drop, map}
use Rattle.mega_rules.specs.Met.{Met}
use Rattle.mega_rules.specs.Steps.{onto}
use Rattle.mega_step_parts.specs.Notes.{met_of}
use Rattle.mega_safety.specs.Lapses.{AreLapsesOf}
use Rattle.mega_safety.proofs.Lapsing.{KeptSo}
use Rattle.mega_safety.proofs.safety.keep_lapses.Given as goal

abbrev pub invariant-loop-note : goal.invariant-loop-note
invariant-loop-note l =
    (met : ℕ → List Met) → AreLapsesOf l.initial.lapses met → KeptSo l.lapses met l.cell (drop l.note-index l.notes) (onto (map met_of l.notes) (met l.cell))
