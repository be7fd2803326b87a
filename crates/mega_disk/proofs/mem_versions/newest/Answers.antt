use Rattle.std.proofs.Common.{inl, inr, sym, ◌∙◌, ap, arith}
use Rattle.std.specs.Option.{option_copied}
use Rattle.mega_disk.proofs.Best.{goes_newest, ended_newest}
use Rattle.mega_disk.proofs.mem_versions.newest.Goals as goal
use Rattle.mega_disk.proofs.mem_versions.newest.Goals.{then-counts, else-counts}

pub loop-version-preserved : goal.loop-version-preserved
loop-version-preserved c =
    goes_newest c.args.versions.now c.loop-version.version-index c.version-item.result c.args.key.now (option_copied c.loop-version.best) (option_copied c.if-counts.best) (omega arith) c.version-item.is c.loop-version.invariant
    (elim c.if-counts.branch [
      | then-counts w ↦ inl (sym c.counts.ensures ∙ w.if-counts.true, ap option_copied w.best-is)
      | else-counts w ↦ inr (sym c.counts.ensures ∙ w.if-counts.false, ap option_copied w.best-is)
    ])

pub returns : goal.returns
returns c = ended_newest c.args.versions.now c.loop-version.version-index c.args.key.now c.loop-version.best (omega arith) c.loop-version.invariant
