use Rattle.std.proofs.Common.{◌≡◌, drop}
use Rattle.std.specs.List.{position_from}
use Rattle.picture.specs.Inputs.{is_mark, mark_place}
use Rattle.picture.proofs.header.mark_place.Given as goal

abbrev pub invariant-loop-index : goal.invariant-loop-index
invariant-loop-index l = position_from is_mark l.index (drop l.index l.lines) ≡ mark_place l.lines
