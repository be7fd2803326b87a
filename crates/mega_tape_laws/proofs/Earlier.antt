-- What holds of each item by what stood before it holds of earlier moments.
use Rattle.std.proofs.Common.{◌++◌, List, [], ◌∷◌}
use Rattle.mega_cluster.specs.declared.cluster.Cluster.{Cluster}
use Rattle.mega_promises.specs.of_transcript.declared.item.Item.{Item}
use Rattle.mega_tape_laws.specs.Lawful.{Lawful}

pub lawful_before : (c : Cluster) (later tape : List Item) → Lawful c (later ++ tape) → Lawful c tape
lawful_before c [] tape l = l
lawful_before c (item ∷ later) tape l = lawful_before c later tape l.1
