use Rattle.std.proofs.Common.{◌≡◌, ◌++◌, List, flat_map, length}
use Rattle.std.specs.Vec.Iter.{into_iter_items, into_iter_len}
use Rattle.mega_rules.specs.Met.{Met}
use Rattle.mega_rules.specs.Logs.{groups_of}
use Rattle.mega_rules.specs.Operations.{Setting}
use Rattle.mega_rules.specs.Steps.{fetches_for}
use Rattle.mega_step_work.specs.of_voter.Telling.{Tells}
use Rattle.mega_step_parts.proofs.fetching.all_fetches.Given as goal

abbrev pub invariant-loop-group : goal.invariant-loop-group
invariant-loop-group g l = record {
  count : into_iter_len l.group-iterator ≡ length (into_iter_items l.group-iterator);
  all : (s : Setting) (met : List Met) → s.cluster ≡ l.members → s.me ≡ l.me → Tells l.voter.logs.kept met
      → l.sends ++ flat_map (fetches_for s met) (into_iter_items l.group-iterator) ≡ flat_map (fetches_for s met) (groups_of met);
}
