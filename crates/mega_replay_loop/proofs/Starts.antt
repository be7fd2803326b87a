-- What is known of a cluster that was read from a header.
use Rattle.mega_cluster.specs.declared.cluster.Cluster.{Cluster}
use Rattle.mega_line_events.specs.of_line_laws.Clusters.{CanStart}
use Rattle.mega_line_events.specs.of_world.of_core.Served.{IsServed}
use Rattle.mega_line_events.proofs.of_line_laws.Starting.{can_start}
use Rattle.mega_replay_loop.specs.Known.{IsRead}

pub starts : (c : Cluster) → IsRead c → CanStart c
starts c read = can_start 1 read.0 c read.1

pub served : (c : Cluster) → IsRead c → IsServed c
served c read = (starts c read).served
