use Rattle.std.proofs.Common.{◌∙◌, ap}
use Rattle.mega_index.specs.Keeping.{marks_in, values_in}
use Rattle.mega_index.proofs.Fronted.{wanted_found}
use Rattle.mega_index.proofs.Wanting.{if_ok}
use Rattle.mega_index.proofs.find.find_begun.Goals as goal

pub returns : goal.returns
returns c = λ hinted.
    if_ok c.values_in.result
    (λ found is.
    is ∙ ap values_in c.in_ok-entries.ensures
    ∙ wanted_found c.args.front.now c.args.schema.now c.args.number c.args.index.now c.args.hints.now c.in_ok-places.places (marks_in c.args.groups.now.entries)
    c.requires.there c.requires.global c.in_ok-places.ensures hinted)
    c.values_in.ensures
