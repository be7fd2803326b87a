use Rattle.std.proofs.Common.{◌≡◌, drop}
use Rattle.toml.specs.View.{items_view}
use Rattle.mega_cluster.specs.Header.{kinds_of}
use Rattle.mega_cluster.proofs.Lists.{with_front}
use Rattle.mega_cluster.proofs.nodes.kinds_of.Given as goal

abbrev pub invariant-loop-value : goal.invariant-loop-value
invariant-loop-value l = with_front l.kinds (kinds_of (items_view (drop l.value-index l.values))) ≡ kinds_of (items_view l.values)
