use Rattle.std.proofs.Common.{subst, sym}
use Rattle.mega_checkpoint.specs.Format.{list_of}
use Rattle.mega_rules.specs.Clock.{start_of}
use Rattle.mega_voter.specs.Holding.{HoldsMet}
use Rattle.mega_node.proofs.Over.{halted, ran}
use Rattle.mega_node.proofs.Turned.{err_then, ok_then}
use Rattle.mega_node.proofs.running.serve_begun.Goals as goal

pub returns-clause-ran : goal.returns-clause-ran
returns-clause-ran g c =
    ok_then c.record_and_turn-ended.result
    (λ turned makes members me log found are started.
    ran g.D.Disk _ makes members me c.args.turns log c.log_of.result _ _ found c.args.begun.server c.record_and_turn-ended.new.node c.args.begun.start c.args.begun.notes (λ s node event may. may) are started turned
    (λ h waiting now serving told.
    subst (λ device. HoldsMet (list_of (g.D.Disk.seen device)) (start_of now.node.met) now.node.met) (sym c.log_of.ensures) (serving.at.up.holds told)))
    c.record_and_turn-ended.ensures.on

pub returns-clause-halted : goal.returns-clause-halted
returns-clause-halted g c =
    err_then c.record_and_turn-ended.result
    (λ turned makes members me log found are started. halted g.D.Disk _ makes members me log _ _ found c.args.begun.server c.args.begun.start c.args.begun.notes (λ s node event may. may) are started turned)
    c.record_and_turn-ended.ensures.off
