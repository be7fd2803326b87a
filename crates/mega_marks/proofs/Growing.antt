-- What a node meets later leaves what its indexes have at their marks.
use Rattle.std.proofs.Common.{◌≡◌, ◌≤◌, List, [], ◌∷◌, take, map, refl, sym, ap, ◌∙◌, arith}
use Rattle.std.proofs.lemmas.List.{take-append-le}
use Rattle.mega_schema.specs.declared.schema.Schema.{Schema}
use Rattle.mega_entry.specs.declared.content.Content.{Content}
use Rattle.mega_index.specs.Rows.{list_after}
use Rattle.mega_outcome.specs.declared.answer.Mark.{Mark}
use Rattle.mega_rules.specs.Logs.{log_of, prefix_of}
use Rattle.mega_rules.specs.Met.{Met}
use Rattle.mega_rules.specs.Steps.{onto}
use Rattle.mega_node_laws.proofs.Logs.{log_more, prefix_grows}
use Rattle.mega_marks.specs.declared.indexed.Indexed.{Indexed}
use Rattle.mega_marks.specs.Marked.{AreWithin, marked_at}
use Rattle.mega_marks.specs.AreMarked.{AreMarked}

within_grows : (one : Met) (met : List Met) (marks : List Mark) → AreWithin met marks → AreWithin (one ∷ met) marks
within_grows one met [] within = tt
within_grows one met (mark ∷ marks) within = (let more = prefix_grows one met mark.group in let old = within.0 in omega (arith, more, old), within_grows one met marks within.1)

mark_stays : (one : Met) (met : List Met) (mark : Mark) → (mark.position).0 ≤ prefix_of met mark.group → marked_at (one ∷ met) mark ≡ marked_at met mark
mark_stays one met mark le =
    ap (λ (entries : List Content). (mark.group.key, record { position = (mark.position).0; rows = list_after entries [] }))
    (ap (take (mark.position).0) (log_more one met mark.group).1 ∙ take-append-le (mark.position).0 (log_of met mark.group) (log_more one met mark.group).0 le)

marks_stay : (one : Met) (met : List Met) (marks : List Mark) → AreWithin met marks → map (marked_at (one ∷ met)) marks ≡ map (marked_at met) marks
marks_stay one met [] within = refl
marks_stay one met (mark ∷ marks) within = (λ i. mark_stays one met mark within.0 i ∷ marks_stay one met marks within.1 i)

marked_more : (schema : Schema) (indexed : Indexed) (one : Met) (met : List Met) (marks : List Mark) → AreMarked schema indexed met marks → AreMarked schema indexed (one ∷ met) marks
marked_more schema indexed one met marks are = record {
  at = record {
    kept = are.at.kept;
    within = within_grows one met marks are.at.within;
    marked = are.at.marked ∙ sym (marks_stay one met marks are.at.within);
  };
  shown = are.shown;
}

pub marked_after : (schema : Schema) (indexed : Indexed) (items met : List Met) (marks : List Mark) → AreMarked schema indexed met marks → AreMarked schema indexed (onto items met) marks
marked_after schema indexed [] met marks are = are
marked_after schema indexed (one ∷ items) met marks are = marked_after schema indexed items (one ∷ met) marks (marked_more schema indexed one met marks are)
