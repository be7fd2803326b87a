use Rattle.std.proofs.Common.{◌+◌, ◌∙◌, ap}
use Rattle.mega_operations.specs.Phases.{promised_of}
use Rattle.mega_operations.specs.Whole.{whole}
use Rattle.mega_propose.specs.Rounds.{asks}
use Rattle.mega_read.specs.Catching.{asked_by, site}
use Rattle.mega_rules.specs.Acting.{reader_of, sends_more, unless_decided}
use Rattle.mega_rules.specs.Operations.{Proposes}
use Rattle.mega_step_choices.specs.Settings.{setting}
use Rattle.mega_step_work.proofs.complete_read.CompleteRead.asks.Goals as goal

pub returns-in-Ok : goal.returns-in-Ok
returns-in-Ok g c me h now tells clock =
    let self = c.args.self in
    let promised = promised_of c.args.promised in
    let round = c.in-Ok.ensures.round me h ∙ ap (λ k. asks (site (reader_of (setting c.args.members.now me h) self.kept.id self.group) (asked_by self.reading) (self.position + 1)) c.args.leader c.args.own k) clock in
    let asked = c.in-Ok.ensures.asked in
    let found = c.decided-found.ensures now.met tells in
    c.proposing.ensures now
    ∙ (λ i. unless_decided (sends_more now (round i).sends) (whole self.kept (Proposes self.group (self.position + 1) (asked i) (round i).proposal promised)) (self.position + 1) promised (found i))
