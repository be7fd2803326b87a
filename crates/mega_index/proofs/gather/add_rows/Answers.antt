use Rattle.std.proofs.Common.{◌∙◌, ap, sym, List, ℕ}
use Rattle.mega_row_writes.specs.Rows.{Listed}
use Rattle.mega_index.specs.Wanted.{with_fronts}
use Rattle.mega_index.proofs.Ordered.{ascends-sorted}
use Rattle.mega_index.proofs.Joined.{picked, picked-wanted}
use Rattle.mega_index.proofs.gather.add_rows.Goals as goal

pub returns : goal.returns
returns c =
    let slots = c.args.rows.now.entries in
    let gives = c.into_iter-key-iterator.ensures.into_iter_gives in
    ap (λ (ks : List (List ℕ)). with_fronts c.args.front.now c.args.schema.now c.args.number c.args.index.now c.loop-key.entries.entries (picked slots ks)) (sym c.in-None.ensures.steps.0)
    ∙ c.loop-key.invariant
    ∙ ap (λ (ks : List (List ℕ)). with_fronts c.args.front.now c.args.schema.now c.args.number c.args.index.now c.args.entries.now.entries (picked slots ks)) gives.0
    ∙ ap (λ (rows : Listed). with_fronts c.args.front.now c.args.schema.now c.args.number c.args.index.now c.args.entries.now.entries rows)
    (picked-wanted slots c.args.keys.now (ascends-sorted slots c.len.ensures.ordered) gives.4)
