use Rattle.std.proofs.Common.{◌∙◌, ap, sym, List, Ok}
use Rattle.mega_base.specs.declared.values.Kind.{Kind}
use Rattle.mega_keys.specs.Fit.{misplaced}
use Rattle.mega_index.specs.Marks.{rows_marked}
use Rattle.mega_index.specs.Keeping.{marks_in}
use Rattle.mega_index.proofs.Fronted.{long_found}
use Rattle.mega_index.proofs.find.find_in.Goals as goal

pub returns : goal.returns
returns c = λ hinted.
    let none = ap (λ (ks : List Kind). misplaced ks c.args.values.now 0) (sym (c.as_slice.ensures.value ∙ c.in_ok-kinds.ensures)) ∙ sym c.misplaced.ensures ∙ c.in_default.is in
    long_found c.args.schema.now c.args.number c.args.index.now c.args.values.now (rows_marked (marks_in c.args.groups.now.entries)) c.requires.global none (sym c.in_ok-front.ensures ∙ c.in-None.is)
    ∙ ap Ok (sym c.new.ensures.items)
