use Rattle.std.proofs.Common.{◌-◌, ◌∙◌, ap, sym}
use Rattle.mega_rules.specs.Operations.{Setting}
use Rattle.mega_rules.specs.Steps.{op_of}
use Rattle.mega_places.proofs.Joining.{not_down}
use Rattle.mega_places.proofs.Outcomes.{stands_at}
use Rattle.mega_places.proofs.StepsMade.{found, own_setting}
use Rattle.mega_places.proofs.stepping.op_at.Goals as goal

pub returns : goal.returns
returns c cluster h now all =
    let me = c.args.me in
    let places = c.args.places.now in
    let i = c.from.result - 1 in
    let at = ap (λ n. n - 1) c.from.ensures in
    let there = found places i me c.index-places-from.result at c.requires.least c.requires.most c.index-places-from.is in
    let stands = stands_at cluster places now me i c.index-places-from.result c.in-Up.member all at c.requires.least there c.in-Up.is in
    let member = c.in-Up.member in
    c.next_op.ensures h (now.node me) (stands.is.up h)
    ∙ ap (λ (s : Setting). op_of s (now.node me).met) (sym (own_setting cluster h me member (now.node me) stands.is))

pub unreachable-requires : goal.unreachable-requires
unreachable-requires c =
    let me = c.args.me in
    let places = c.args.places.now in
    let i = c.from.result - 1 in
    let at = ap (λ n. n - 1) c.from.ensures in
    let there = found places i me c.index-places-from.result at c.requires.least c.requires.most c.index-places-from.is in
    not_down places me i c.index-places-from.result c.in-Down.field-0 at c.requires.least there c.in-Down.is c.requires.up
