use Rattle.std.proofs.Common.{◌≡◌, ◌≤◌, drop, length}
use Rattle.mega_picture.specs.Named.{keys_from, keys_of}
use Rattle.mega_picture.proofs.groups.Groups.new.Given as goal

abbrev pub invariant-loop-one : goal.invariant-loop-one
invariant-loop-one l = (keys_from l.groups (drop l.one-index l.told) ≡ keys_of l.told) × (length l.groups ≤ l.one-index)
