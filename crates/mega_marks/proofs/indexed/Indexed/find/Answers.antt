use Rattle.std.proofs.Common.{◌∙◌, [], sym, ap}
use Rattle.mega_index.specs.Finding.{found_over}
use Rattle.mega_index.specs.Marks.{rows_marked}
use Rattle.mega_rules.specs.Finding.{find_answer, refreshed_marks}
use Rattle.mega_marks.proofs.Found.{found_is, rows_are}
use Rattle.mega_marks.proofs.indexed.Indexed.find.Goals as goal

pub returns : goal.returns
returns c met small are =
    let s = c.args.schema.now in
    let find = c.args.find.now in
    let marks = refreshed_marks met in
    let marks_is = c.in_ok-marks.ensures ∙ c.as_slice-2.ensures ∙ are.shown in
    let found = c.in_ok-found.ensures are.at.kept small
    ∙ (λ i. found_over s find.index [] (c.as_slice.ensures i) (rows_marked (are.at.marked i)))
    ∙ ap (found_over s find.index [] find.values) (rows_are met marks) in
    c.in_ok-answer.ensures ∙ (λ i. find_answer (marks_is i) (found i)) ∙ sym (found_is s met find)
