use Rattle.std.proofs.Common.{◌≡◌, ◌∙◌, [], Option, Some, Ok, Result, List, ℕ, sym, ap, subst}
use Rattle.mega_schema.specs.declared.schema.Index.{Index}
use Rattle.mega_index.specs.declared.found.Found.{Found}
use Rattle.mega_index.specs.Answers.{GivesOrPlace}
use Rattle.mega_index.specs.Finding.{found_over}
use Rattle.mega_index.specs.Fits.{numbered}
use Rattle.mega_index.specs.Keeping.{marks_of}
use Rattle.mega_index.specs.Marks.{rows_marked}
use Rattle.mega_view.proofs.Elsewhere.{global_there, local_there}
use Rattle.mega_view.proofs.Found.{none_some, past, some_same}
use Rattle.mega_view.proofs.marked.find_marked.Goals as goal

pub returns-then-there : goal.returns-then-there
returns-then-there c kept small =
    let s = c.args.schema.now in
    let n = c.args.number in
    let rows = rows_marked (marks_of c.args.index.now) in
    let there : numbered s.indexes n ≡ Some c.in-Some.there.now = sym c.in-Some.ensures in
    let global = global_there s n c.args.values.now rows small (λ x is. ap (λ (found : Index). found.global) (some_same x c.in-Some.there.now (sym is ∙ there)) ∙ c.if-there.true) in
    c.told.ensures (found_over s n [] c.args.values.now rows) (subst (GivesOrPlace (λ found. found.items) c.find.result) global (c.find.ensures kept))

pub returns-then-number-gt64 : goal.returns-then-number-gt64
returns-then-number-gt64 c kept small = absurd (none_some c.in-Some.there.now (sym (past (c.args.schema.now).indexes c.args.number small.indexes c.if-number-gt64.true) ∙ sym c.in-Some.ensures))

pub returns : goal.returns
returns c kept small =
    let s = c.args.schema.now in
    let n = c.args.number in
    let rows = rows_marked (marks_of c.args.index.now) in
    let there : numbered s.indexes n ≡ Some c.in-Some.there.now = sym c.in-Some.ensures in
    c.told-2.ensures (found_over s n [] c.args.values.now rows) (subst (GivesOrPlace (λ found. found.items) c.find_over.result) (local_there s n c.in-Some.there.now c.args.values.now rows small there c.if-there.false) c.find_over.ensures)
