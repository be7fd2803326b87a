use Rattle.std.proofs.Common.{◌∙◌, ◌++◌, List, ap, sym, map, flat_map, append_assoc}
use Rattle.std.specs.Vec.Iter.{into_iter_items}
use Rattle.mega_rules.specs.Met.{Met}
use Rattle.mega_step_parts.specs.declared.applying.Before.{Before}
use Rattle.mega_step_parts.specs.Notes.{met_of}
use Rattle.mega_step_parts.specs.Positions.{note_since}
use Rattle.mega_step_parts.proofs.applying.apply_notes.Goals as goal

pub loop-one-preserved : goal.loop-one-preserved
loop-one-preserved g c = λ met stored keeps.
    let since = note_since met stored in
    let notes = map met_of c.loop-one.notes in
    let rest = flat_map since (into_iter_items c.next.new.self) in
    ap (λ (all : List Met). all ++ rest) (c.in_ok-note_applied.ensures met stored keeps)
    ∙ (append_assoc notes (since c.in-Some.one) rest
    ∙ (ap (λ (some : List Before). notes ++ flat_map since some) (sym c.in-Some.ensures.steps.0)
    ∙ c.loop-one.invariant met stored keeps))
