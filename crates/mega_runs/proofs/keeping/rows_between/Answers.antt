use Rattle.std.proofs.Common.{◌∷◌, List, sym, subst}
use Rattle.mega_runs.specs.declared.body.Version.{Version}
use Rattle.mega_runs.specs.Fronts.{kept}
use Rattle.mega_runs.specs.Ranges.{AgreeWithin}
use Rattle.mega_runs.specs.Reads.{versions_in, layered}
use Rattle.mega_runs.proofs.Ranging.{scan_agrees}
use Rattle.mega_runs.proofs.keeping.rows_between.Goals as goal

pub returns-in-Ok-clause-value : goal.returns-in-Ok-clause-value
returns-in-Ok-clause-value g c told =
    let file = c.args.file.now in
    let lists = c.args.recent.now ∷ kept g.D.Disk.is_told (g.D.Disk.seen file.disk) file.opened.end in
    let agree : AgreeWithin c.args.from.now c.args.to.now (versions_in c.as_slice.result.now) (layered lists) =
    subst (λ (l : List Version). AgreeWithin c.args.from.now c.args.to.now (versions_in l) (layered lists)) (sym c.as_slice.ensures.value) (c.in_ok-versions.ensures.value told) in
    scan_agrees (versions_in c.as_slice.result.now) (layered lists) c.args.from.now c.args.to.now c.args.at.0 c.in-Ok.rows.items agree c.in-Ok.ensures
