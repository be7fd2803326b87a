use Rattle.mega_runs.specs.Fronts.{kept}
use Rattle.mega_runs.proofs.Keepings.{latest_among, kept_orderly}
use Rattle.mega_runs.proofs.keeping.latest_of.Goals as goal

pub returns-clause-value : goal.returns-clause-value
returns-clause-value g c told =
    let file = c.args.file.now in
    let lists = kept g.D.Disk.is_told (g.D.Disk.seen file.disk) file.opened.end in
    latest_among c.args.recent.now lists c.args.key.now c.in_ok-row.row c.requires.bounded (kept_orderly g.D.Disk.is_told (g.D.Disk.seen file.disk) file.opened.end) (c.in_ok-row.ensures.value told)
