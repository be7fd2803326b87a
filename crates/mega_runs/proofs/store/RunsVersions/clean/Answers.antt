use Rattle.std.proofs.Common.{sym, subst, List}
use Rattle.std.specs.Prelude.{map}
use Rattle.mega_disk.specs.VersionMaps.{Cleaned, IsAbove}
use Rattle.mega_runs.specs.Stores.{cleaned_of}
use Rattle.mega_runs.proofs.Readable.{above_with}
use Rattle.mega_runs.proofs.store.RunsVersions.clean.Goals as goal

pub returns-in-Ok-clause-cleaned : goal.returns-in-Ok-clause-cleaned
returns-in-Ok-clause-cleaned g c key p above more =
    subst (λ (cs : List Cleaned). IsAbove cs key p) (sym c.in-Ok.ensures.ok) (above_with c.args.from.now c.args.to.now c.args.below.0 (map cleaned_of c.args.self.now.cleanings.items) key p above more)
