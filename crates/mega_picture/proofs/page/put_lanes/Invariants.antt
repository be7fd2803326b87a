use Rattle.std.proofs.Common.{◌≡◌, ◌++◌}
use Rattle.mega_picture.specs.Texts.{all_to}
use Rattle.mega_picture.specs.Pages.{lane_bands}
use Rattle.mega_picture.proofs.page.put_lanes.Given as goal

abbrev pub invariant-loop-index : goal.invariant-loop-index
invariant-loop-index l = l.out ≡ l.initial.out ++ all_to (lane_bands l.sheet l.groups l.told) l.index
