use Rattle.std.proofs.Common.{ap, ◌∙◌}
use Rattle.mega_durable.specs.Spilling.{AreSpilled, marks_of, rows_in}
use Rattle.mega_server.proofs.Compacted.{at_spilled}
use Rattle.mega_server.proofs.server.readied.Goals as goal

pub returns-in-Ok-spill-clause-state : goal.returns-in-Ok-spill-clause-state
returns-in-Ok-spill-clause-state g c = λ told whole.
    at_spilled g.R.Records g.V.Versions.version c.args.up.now.node c.compact.new.self.node c.spill.new.self.node c.in-Ok.ensures.state
    (c.in-Ok-spill.ensures.state told (ap (λ (rows : _). g.V.Versions.cleaned rows.rows) c.in-Ok.ensures.rows ∙ whole))

pub returns-in-Ok-spill-clause-spilled : goal.returns-in-Ok-spill-clause-spilled
returns-in-Ok-spill-clause-spilled g c = λ full h node up.
    coe 0 1 (i. AreSpilled g.V.Versions (marks_of node.met node.stored) (c.in-Ok.ensures.rows i).rows (rows_in c.spill.new.self.node))
    (c.in-Ok-spill.ensures.spilled (ap (λ (rows : _). g.V.Versions.is_full rows.rows) c.in-Ok.ensures.rows ∙ full) h node (c.in-Ok.ensures.state h node up))
