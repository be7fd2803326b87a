use Rattle.std.proofs.Common.{◌∙◌, ap, sym, List, Ok}
use Rattle.std.specs.Prelude.{Option, ℕ}
use Rattle.mega_base.specs.declared.values.Kind.{Kind}
use Rattle.mega_keys.specs.Fit.{misplaced}
use Rattle.mega_index.specs.Entries.{index_of}
use Rattle.mega_index.specs.Finding.{begun_by, front_of, unless_misplaced}
use Rattle.mega_index.proofs.Fronted.{long_finds, not_short}
use Rattle.mega_index.proofs.listed.find_in.Goals as goal

pub returns : goal.returns
returns c =
    let s = c.args.schema.now in
    let x = c.args.index.now in
    let front = front_of c.args.number x c.args.group.now c.args.values.now in
    let none = ap (λ (ks : List Kind). misplaced ks c.args.values.now 0) (sym (c.as_slice.ensures.value ∙ c.in_ok-kinds.ensures)) ∙ sym c.misplaced.ensures ∙ c.in_default.is in
    ap (λ (o : Option ℕ). unless_misplaced o (begun_by front (index_of s c.args.number x c.args.rows.now))) none
    ∙ ap Ok (long_finds front s c.args.number x c.args.rows.now (not_short front (sym c.in_ok-front.ensures ∙ c.in-None.is)))
    ∙ ap Ok (sym c.new.ensures.items)
