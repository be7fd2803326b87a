use Rattle.std.proofs.Common.{◌≡◌, filter}
use Rattle.std.specs.List.{range_with_len}
use Rattle.mega_rules.specs.Members.{is_voter}
use Rattle.mega_operations.proofs.members.voters.Given as goal

abbrev pub invariant-loop-before : goal.invariant-loop-before
invariant-loop-before l = l.nodes ≡ filter (is_voter l.cluster) (range_with_len 1 l.before)
