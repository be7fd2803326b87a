use Rattle.std.proofs.Common.{take}
use Rattle.std.specs.Prelude.{All}
use Rattle.mega_runs.specs.Bodies.{IsVersion}
use Rattle.mega_runs.proofs.writable.are_versions.Given as goal

abbrev pub invariant-loop-version : goal.invariant-loop-version
invariant-loop-version l = All IsVersion (take l.version-index l.versions)
