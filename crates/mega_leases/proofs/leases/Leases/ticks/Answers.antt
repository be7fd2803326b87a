use Rattle.std.proofs.Common.{◌&&◌, ◌∷◌, [], ap, if◌then◌else◌, ◌∙◌}
use Rattle.mega_coordinator.specs.History.{Ticks as CoordinatorTicks, epoch_after}
use Rattle.mega_rules.specs.Clock.{start_of}
use Rattle.mega_rules.specs.Members.{is_full}
use Rattle.mega_rules.specs.Coordinators.{acquires, coordinator_calls}
use Rattle.mega_leases.proofs.Ticked.{lapse_notes_are, lease_notes_are, ticked_on}
use Rattle.mega_leases.proofs.leases.Leases.ticks.Goals as goal

pub returns-in_err-of_coordinator-clause-state : goal.returns-in_err-of_coordinator-clause-state
returns-in_err-of_coordinator-clause-state c s met tells = ticked_on s _ met c.args.now (c.advance-due.ensures.state s.cluster s.me _ _ _ _ tells)

pub returns-in_err-of_cell-clause-state : goal.returns-in_err-of_cell-clause-state
returns-in_err-of_cell-clause-state c s met tells = ticked_on s _ met c.args.now (c.advance-due.ensures.state s.cluster s.me _ _ _ _ tells)

pub returns-in_err-sends-clause-state : goal.returns-in_err-sends-clause-state
returns-in_err-sends-clause-state c s met tells = ticked_on s _ met c.args.now (c.advance-due.ensures.state s.cluster s.me _ _ _ _ tells)

pub returns-clause-lease_notes : goal.returns-clause-lease_notes
returns-clause-lease_notes c s met tells =
    lease_notes_are s met c.args.now _ _ _ _ (c.advance-due.ensures.state s.cluster s.me _ _ _ _ tells).numbers_are
    (c.advance-due.ensures.epoch s.cluster s.me _ _ _ _ tells) (c.advance-due.ensures.told s.cluster s.me _ _ _ _ tells) c.in_ok-of_coordinator.ensures

pub returns-clause-lapse_notes : goal.returns-clause-lapse_notes
returns-clause-lapse_notes c s met tells =
    lapse_notes_are s met c.args.now _ _ _ (c.advance-due.ensures.state s.cluster s.me _ _ _ _ tells).numbers_are (c.advance-due.ensures.lapsed s.cluster s.me _ _ _ _ tells) c.in_ok-of_cell.ensures

pub returns-clause-acquires : goal.returns-clause-acquires
returns-clause-acquires c cluster me met tells =
    c.in_ok-sends.ensures cluster me _ _ _ _ (c.advance-due.ensures.state cluster me _ _ _ _ tells)
    ∙ ap (λ due. if is_full cluster me && due then acquires cluster me (CoordinatorTicks c.args.now ∷ coordinator_calls cluster met) (start_of met) c.args.now (epoch_after (start_of met) cluster.cells (CoordinatorTicks c.args.now ∷ coordinator_calls cluster met)) else [])
    (c.advance-due.ensures.again cluster me _ _ _ _ tells)

pub returns-clause-state : goal.returns-clause-state
returns-clause-state c s met tells = ticked_on s _ met c.args.now (c.advance-due.ensures.state s.cluster s.me _ _ _ _ tells)
