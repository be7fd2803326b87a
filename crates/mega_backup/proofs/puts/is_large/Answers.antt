use Rattle.std.proofs.Common.{◌∙◌, refl, Ok}
use Rattle.mega_disk.specs.MemVersions.{version_in}
use Rattle.mega_backup.proofs.Emptied.{large_by, large_turn}
use Rattle.mega_backup.proofs.puts.is_large.Goals as goal

pub returns-in-Ok : goal.returns-in-Ok
returns-in-Ok c = large_by c.args.schema.now c.args.txn.now (version_in c.new-rows.result.versions.items) c.new-rows.ensures (Ok c.in-Ok.field-0) (c.in-Ok.ensures.exact refl)

pub returns : goal.returns
returns c =
    c.in_ok-large-in-Err.ensures.exact
    ∙ large_turn c.args.schema.now c.args.txn.now (version_in c.new-rows.result.versions.items) c.new-rows.ensures c.in-Err.turn (c.in-Err.ensures.exact refl) c.in_ok-large-in-Err.ensures.inside
