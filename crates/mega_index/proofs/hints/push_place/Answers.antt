use Rattle.std.proofs.Common.{◌∙◌, ap, ◌∷◌, ◌++◌, []}
use Rattle.std.specs.List.{list_any}
use Rattle.mega_index.specs.Hints.{is_place}
use Rattle.mega_index.proofs.Hinting.{place_pushed}
use Rattle.mega_index.proofs.hints.push_place.Goals as goal

pub returns-clause-there : goal.returns-clause-there
returns-clause-there c =
    ap (list_any (is_place c.args.group.now c.args.key.now)) (c.in_ok-push.ensures.ok ∙ ap (λ p. c.args.places.now ++ p ∷ []) (λ i. record { group = c.in_ok-group.ensures i; key = c.in_ok-key.ensures i }))
    ∙ place_pushed c.args.group.now c.args.key.now c.args.places.now
