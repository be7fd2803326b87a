use Rattle.std.proofs.Common.{◌≡◌, List, ap, filter, map, rules, ◌∙◌}
use Rattle.std.proofs.lemmas.Fn.{filter_same}
use Rattle.mega_core.specs.of_step_parts.declared.note.Note.{Note}
use Rattle.mega_core.specs.of_step_parts.Notes.{met_of}
use Rattle.mega_promises.specs.Runs.{is_durable}
use Rattle.mega_durable.proofs.Stepping.{kept_notes}
use Rattle.mega_durable.proofs.cut.durable.Goals as goal

pub returns : goal.returns
returns c =
    ap (λ (notes : List Note). map met_of notes) (c.from_vec.ensures ∙ (filter_same _ (λ note. is_durable (met_of note)) _ (λ x b f' k. search rules) _ _ c.retain.ensures.filtered ∙ ap (λ (notes : List Note). filter (λ note. is_durable (met_of note)) notes) c.into_vec-kept.ensures))
    ∙ kept_notes c.args.notes
