use Rattle.std.proofs.Common.{◌∙◌, sym, ap, take, List, arith}
use Rattle.mega_runs.specs.Finding.{behind_at}
use Rattle.mega_runs.proofs.search.between.Goals as goal

pub returns : goal.returns
returns g c = record {
  first = c.saturating_sub-first.result;
  count = c.place_of-2.result;
  found_is = c.split_at-2.ensures.front ∙ ap (take c.place_of-2.result) c.split_at.ensures.back;
  low = λ some. ap (behind_at g.T.Placed.spot (c.args.from.now, 0) c.args.items.now) c.saturating_sub-first.ensures ∙ c.place_of.ensures.before (omega (arith, some, c.saturating_sub-first.ensures));
  high = ap (λ (l : List g.row.T.Denot). behind_at g.T.Placed.spot (c.args.to.now, 0) l c.place_of-2.result) (sym c.split_at.ensures.back) ∙ c.place_of-2.ensures.behind;
}
