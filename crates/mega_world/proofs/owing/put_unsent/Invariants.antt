use Rattle.std.proofs.Common.{◌≡◌, ◌++◌, flat_map, map}
use Rattle.mega_places.specs.of_voter.of_rules.Met.{Unsends}
use Rattle.mega_places.specs.of_promises.Items.{shown}
use Rattle.mega_world.proofs.owing.put_unsent.Given as goal

abbrev pub invariant-loop-message : goal.invariant-loop-message
invariant-loop-message l = l.tape.items ≡ l.initial.tape.items ++ flat_map (shown l.me) (map Unsends l.yielded)
