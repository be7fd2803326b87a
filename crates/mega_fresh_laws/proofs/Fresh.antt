-- All that is promised of the freshness of a run, as one record.
use Rattle.std.proofs.Common.{◌≤◌, List, length}
use Rattle.mega_cluster.specs.declared.cluster.Cluster.{Cluster}
use Rattle.mega_handler.specs.Named.{Meanings}
use Rattle.mega_leased_laws.specs.of_settled_laws.of_run_laws.of_tape_laws.of_promises.of_transcript.declared.item.Item.{Item}
use Rattle.mega_leased_laws.specs.of_settled_laws.of_run_laws.of_tape_laws.of_promises.Fresh.{IsFresh}
use Rattle.mega_leased_laws.specs.of_settled_laws.of_run_laws.of_tape_laws.of_promises.Runs.{Happening, IsRun}
use Rattle.mega_leased_laws.specs.of_settled_laws.of_run_laws.of_tape_laws.Writes.{Usage}
use Rattle.mega_leased_laws.specs.of_settled_laws.of_run_laws.Usages.{Fits}
use Rattle.mega_fresh_laws.proofs.Polled as polled
use Rattle.mega_fresh_laws.proofs.Promised as promised

pub run_is_fresh : (c : Cluster) (usage : Usage) (first : Meanings) (events : List Happening) (tape : List Item) → length c.nodes ≤ 9 → c.cells ≤ 5 → IsRun c first events tape → Fits usage events → IsFresh c usage.meaning tape
run_is_fresh c usage first events tape few five run fits = record {
  reads = promised.reads c usage first events tape few five run fits;
  finds = promised.finds c usage first events tape few five run fits;
  turned = promised.turned c usage first events tape few five run fits;
  all_turned = promised.all_turned c usage first events tape few five run fits;
  full = promised.full c usage first events tape few five run fits;
  proposals = promised.proposals c usage first events tape few five run fits;
  polled = polled.polled c usage first events tape few five run fits;
}
