use Rattle.std.proofs.Common.{◌∙◌, ap, sym, List, [], ℕ}
use Rattle.std.specs.BTreeSet.{BTreeSet}
use Rattle.mega_row_writes.specs.Rows.{Listed}
use Rattle.mega_index.specs.Wanted.{with_fronts}
use Rattle.mega_index.proofs.Ordered.{ascends-sorted}
use Rattle.mega_index.proofs.Joined.{picked_groups, groups-wanted}
use Rattle.mega_index.proofs.gather.gather.Goals as goal

pub returns : goal.returns
returns c =
    let groups = c.args.groups.now.entries in
    let gives = c.into_iter-group-iterator.ensures.into_iter_gives in
    ap (λ (ws : List (List ℕ × BTreeSet (List ℕ))). with_fronts c.args.front.now c.args.schema.now c.args.number c.args.index.now c.loop-group.entries.entries (picked_groups groups ws)) (sym c.in-None.ensures.steps.0)
    ∙ c.loop-group.invariant
    ∙ ap (λ es. with_fronts c.args.front.now c.args.schema.now c.args.number c.args.index.now es (picked_groups groups c.into_iter-group-iterator.result)) c.new-entries.ensures.empty
    ∙ ap (λ (ws : List (List ℕ × BTreeSet (List ℕ))). with_fronts c.args.front.now c.args.schema.now c.args.number c.args.index.now [] (picked_groups groups ws)) gives.0
    ∙ ap (λ (rows : Listed). with_fronts c.args.front.now c.args.schema.now c.args.number c.args.index.now [] rows)
    (groups-wanted groups c.args.wanted.now (ascends-sorted groups c.len.ensures.ordered) (ascends-sorted c.args.wanted.now.entries gives.5))
