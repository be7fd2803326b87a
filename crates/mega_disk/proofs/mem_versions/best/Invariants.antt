use Rattle.std.proofs.Common.{take}
use Rattle.std.specs.Option.{option_copied}
use Rattle.mega_disk.specs.MemVersions.{version_in}
use Rattle.mega_disk.proofs.Best.{IsBest}
use Rattle.mega_disk.proofs.mem_versions.best.Given as goal

abbrev pub invariant-loop-version : goal.invariant-loop-version
invariant-loop-version l = IsBest (version_in (take l.version-index l.versions) l.key) l.at.0 (option_copied l.best)
