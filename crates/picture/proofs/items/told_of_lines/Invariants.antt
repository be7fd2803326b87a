use Rattle.std.proofs.Common.{◌≡◌, ◌≤◌, length, drop}
use Rattle.picture.specs.Drawings.{told_from}
use Rattle.picture.proofs.Reading.{onto}
use Rattle.picture.proofs.items.told_of_lines.Given as goal

abbrev pub invariant-loop-index : goal.invariant-loop-index
invariant-loop-index l = (onto l.told (told_from l.schema l.first l.index (drop l.index l.lines)) ≡ told_from l.schema l.first 0 l.lines) × (length l.told ≤ l.index)
