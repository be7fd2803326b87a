use Rattle.std.proofs.Common.{◌≡◌, ◌+◌, ◌-◌, ◌++◌, flat_map, get_or, map, take, ap, subst, sym, ◌∙◌, arith}
use Rattle.std.specs.Prelude.{None}
use Rattle.mega_locks.specs.History.{nodes}
use Rattle.mega_leases.specs.Notes.{lapsed_notes, met_of}
use Rattle.mega_leases.proofs.Ticked.{lapses_are, one_node_more}
use Rattle.mega_leases.proofs.noting.lapse_notes.Goals as goal

pub loop-before-preserved : goal.loop-before-preserved
loop-before-preserved c =
    let lapsed = c.args.lapsed.now in
    let before = c.loop-before.before in
    let place : c.from.result ≡ (before + 1) - 1 = omega (arith, c.from.ensures) in
    c.in_ok-notes.ensures
    ∙ ((λ i. c.loop-before.invariant i ++ lapsed_notes (before + 1) (get_or lapsed (place i) None))
    ∙ sym (one_node_more (λ node. lapsed_notes node (get_or lapsed (node - 1) None)) before c.loop-before-test.true))

pub returns : goal.returns
returns c =
    let lapsed = c.args.lapsed.now in
    let ended : c.loop-before.before ≡ 9 = omega arith in
    ap (map met_of) (subst (λ before. c.loop-before.notes ≡ flat_map (λ node. lapsed_notes node (get_or lapsed (node - 1) None)) (take before nodes)) ended c.loop-before.invariant)
    ∙ lapses_are lapsed nodes
