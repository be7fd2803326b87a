use Rattle.std.proofs.Common.{◌∙◌, List, ap, sym, subst}
use Rattle.mega_runs.specs.declared.body.Version.{Version}
use Rattle.mega_runs.specs.Bodies.{ascends}
use Rattle.mega_runs.specs.Fronts.{kept}
use Rattle.mega_runs.specs.Ranges.{AgreeWithin}
use Rattle.mega_runs.specs.Reads.{versions_in}
use Rattle.mega_runs.proofs.Mixing.{merged_ascends}
use Rattle.mega_runs.proofs.Ranging.{between_agrees, between_ascends, agree_merged}
use Rattle.mega_runs.proofs.keeping.versions_around.Goals as goal

pub merge-requires-clause-newer : goal.merge-requires-clause-newer
merge-requires-clause-newer g c = ap ascends c.in-Ok.ensures ∙ between_ascends c.args.from.now c.args.to.now c.args.recent.now c.between.result.now c.requires c.between.ensures

pub returns-in-Ok-merge-clause-in_order : goal.returns-in-Ok-merge-clause-in_order
returns-in-Ok-merge-clause-in_order g c = ap ascends c.in-Ok-merge.ensures ∙ merged_ascends c.in-Ok.newer.items c.in_ok-all.all.items c.in_ok-all.ensures.in_order

pub returns-in-Ok-merge-clause-value : goal.returns-in-Ok-merge-clause-value
returns-in-Ok-merge-clause-value g c told =
    let file = c.args.file.now in
    let from = c.args.from.now in
    let to = c.args.to.now in
    let recent = c.args.recent.now in
    let near : AgreeWithin from to (versions_in c.in-Ok.newer.items) (versions_in recent) =
    subst (λ (l : List Version). AgreeWithin from to (versions_in l) (versions_in recent)) (sym c.in-Ok.ensures) (between_agrees from to recent c.between.result.now c.requires c.between.ensures) in
    agree_merged from to c.in-Ok.newer.items recent c.in_ok-all.all.items c.merge.new.older.items (kept g.D.Disk.is_told (g.D.Disk.seen file.disk) file.opened.end) near (c.in_ok-all.ensures.value told) c.in-Ok-merge.ensures
