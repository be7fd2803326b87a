use Rattle.std.proofs.Common.{take}
use Rattle.mega_disk.specs.VersionMaps.{SameVersions}
use Rattle.mega_rows.specs.Lines.{version_in}
use Rattle.mega_rows.specs.Trims.{trimmed_keys}
use Rattle.mega_rows.proofs.lines.trim_keys.Given as goal

abbrev pub invariant-loop-key : goal.invariant-loop-key
invariant-loop-key l = SameVersions (trimmed_keys (take l.key-index l.keys) l.below (version_in l.fn.lines)) (version_in l.lines)
