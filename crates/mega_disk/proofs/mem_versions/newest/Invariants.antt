use Rattle.std.proofs.Common.{take}
use Rattle.std.specs.Option.{option_copied}
use Rattle.mega_disk.specs.MemVersions.{version_in}
use Rattle.mega_disk.proofs.Best.{IsNewest}
use Rattle.mega_disk.proofs.mem_versions.newest.Given as goal

abbrev pub invariant-loop-version : goal.invariant-loop-version
invariant-loop-version l = IsNewest (version_in (take l.version-index l.versions) l.key) (option_copied l.best)
