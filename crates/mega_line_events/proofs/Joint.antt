-- As long as leases are safe, a node where a group is valid has each position that was settled.
use Rattle.std.proofs.Common.{◌≡◌, ◌≤◌, ◌<◌, ℕ, true, List, length, refl, sym, ◌∙◌}
use Rattle.mega_base.specs.declared.names.GroupId.{GroupId}
use Rattle.mega_cluster.specs.declared.cluster.Cluster.{Cluster}
use Rattle.mega_coordinator.specs.Laws.{ValidatedAbove}
use Rattle.mega_coordinator.proofs.Validity.{validated_above}
use Rattle.mega_handler.specs.Named.{Meanings}
use Rattle.mega_rules.specs.Clock.{start_of}
use Rattle.mega_rules.specs.Coordinators.{coordinator_calls, valid_at}
use Rattle.mega_shown_laws.specs.of_promises.Runs.{Happening, IsRun, Standing, by_fuse, goes_on, opening}
use Rattle.mega_valid_laws.proofs.Joint.{valid_has}
use Rattle.mega_valid_laws.proofs.Shows.{run_serves, run_valid}
use Rattle.mega_fresh_laws.proofs.of_leased_laws.Held.{full_in, run_held}
use Rattle.mega_fresh_laws.proofs.of_leased_laws.Leased.{run_leased}
use Rattle.mega_fresh_laws.proofs.of_leased_laws.of_run_laws.Runs.{run_polls}
use Rattle.mega_line_events.specs.Running.{HoldsSettled}

pub run_joint : (c : Cluster) (first : Meanings) (events : List Happening) → length c.nodes ≤ 9 → c.cells ≤ 5 → HoldsSettled c (goes_on c by_fuse (opening c first) events)
run_joint c first events few five un node full up group valid n entry above settled =
    valid_has c last.tape (run_leased c first events last.tape few run) (run_polls c first events last.tape run) node group n entry found.epoch (full_in c node full) above
    settled (run_valid c first events last.tape run node full up group ∙ valid)
    (run_held c first events last.tape few five run un node found.epoch (run_serves c first events last.tape run node full up ∙ found.serves))
  where
    last : Standing
    last = goes_on c by_fuse (opening c first) events

    run : IsRun c first events last.tape
    run = record { cuts = by_fuse; tape_is = refl }

    found : ValidatedAbove (start_of (last.node node).met) c.cells (coordinator_calls c (last.node node).met) group
    found = validated_above (start_of (last.node node).met) c.cells (coordinator_calls c (last.node node).met) group valid
