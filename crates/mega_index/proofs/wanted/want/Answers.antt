use Rattle.std.proofs.Common.{◌∙◌, ap, sym}
use Rattle.mega_index.specs.Wanted.{is_wanted}
use Rattle.mega_index.proofs.Wanting.{place_wanted, on_ok}
use Rattle.mega_index.proofs.wanted.want.Goals as goal

pub returns-then-contains_key-clause-there : goal.returns-then-contains_key-clause-there
returns-then-contains_key-clause-there c =
    on_ok c.add_there.result
    (λ there. place_wanted c.add_there.new.wanted c.args.place.now (ap (is_wanted c.add_there.new.wanted c.args.place.now.group) (sym c.in_ok-key.ensures) ∙ there))
    c.add_there.ensures.there

pub returns-else-contains_key-clause-there : goal.returns-else-contains_key-clause-there
returns-else-contains_key-clause-there c =
    on_ok c.add_new.result
    (λ there. place_wanted c.add_new.new.wanted c.args.place.now (ap (is_wanted c.add_new.new.wanted c.args.place.now.group) (sym c.in_ok-key.ensures) ∙ there))
    c.add_new.ensures.there
