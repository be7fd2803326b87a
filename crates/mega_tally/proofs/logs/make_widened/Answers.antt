use Rattle.mega_tally.proofs.logs.make_widened.Goals as goal

pub returns-in-Ok : goal.returns-in-Ok
returns-in-Ok c = record { on = λ test most stands. c.in-Ok.ensures.reaches test most (c.reach_of-reach.ensures test most stands); through = c.in-Ok.ensures.prefix }
