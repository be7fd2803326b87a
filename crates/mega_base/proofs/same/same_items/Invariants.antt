use Rattle.std.proofs.Common.{◌≡◌, take}
use Rattle.mega_base.proofs.same.same_items.Given as goal

abbrev pub invariant-loop-place : goal.invariant-loop-place
invariant-loop-place g l = take l.place l.mine ≡ take l.place l.others
