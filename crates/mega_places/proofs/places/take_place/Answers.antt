use Rattle.std.proofs.Common.{◌-◌, ◌∙◌, ap, set}
use Rattle.mega_places.proofs.Joining.{set_twice}
use Rattle.mega_places.proofs.places.take_place.Goals as goal

pub returns-clause-left : goal.returns-clause-left
returns-clause-left c place =
    let at = ap (λ n. n - 1) c.from.ensures in
    ap (λ k. set (set c.args.places.now.items k c.replace.new.dest) (c.args.me - 1) place) at ∙ set_twice c.args.places.now.items (c.args.me - 1) c.replace.new.dest place
