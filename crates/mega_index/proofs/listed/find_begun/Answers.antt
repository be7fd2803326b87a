use Rattle.std.proofs.Common.{◌∙◌, ap, sym}
use Rattle.mega_index.specs.Keeping.{values_in}
use Rattle.mega_index.proofs.Fronted.{begun-fronts}
use Rattle.mega_index.proofs.Wanting.{if_ok}
use Rattle.mega_index.proofs.listed.find_begun.Goals as goal

pub returns : goal.returns
returns c =
    if_ok c.values_in.result
    (λ found is.
    is ∙ ap values_in c.in_ok-entries.ensures
    ∙ sym (begun-fronts c.args.front.now c.args.schema.now c.args.number c.args.index.now c.args.rows.now))
    c.values_in.ensures
