use Rattle.std.proofs.Common.{take}
use Rattle.mega_disk.specs.MemVersions.{version_in}
use Rattle.mega_disk.proofs.Scanned.{Scanned}
use Rattle.mega_disk.proofs.mem_versions.rows_at.Given as goal

abbrev pub invariant-loop-version : goal.invariant-loop-version
invariant-loop-version l = Scanned (version_in l.versions) l.from l.to l.at.0 (take l.version-index l.versions) l.rows.items
