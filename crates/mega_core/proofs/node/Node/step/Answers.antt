use Rattle.mega_core.proofs.node.Node.step.Goals as goal

pub returns-in-Take-clause-notes : goal.returns-in-Take-clause-notes
returns-in-Take-clause-notes g c = rw c.in-Take.is c.take.ensures.notes

pub returns-in-Take-clause-sends : goal.returns-in-Take-clause-sends
returns-in-Take-clause-sends g c = rw c.in-Take.is c.take.ensures.sends

pub returns-in-Take-clause-state : goal.returns-in-Take-clause-state
returns-in-Take-clause-state g c = rw c.in-Take.is c.take.ensures.state

pub returns-in-Take-clause-staged : goal.returns-in-Take-clause-staged
returns-in-Take-clause-staged g c = rw c.in-Take.is c.take.ensures.staged

pub returns-in-Take-clause-unserved : goal.returns-in-Take-clause-unserved
returns-in-Take-clause-unserved g c = rw c.in-Take.is c.take.ensures.built

pub returns-in-Take-clause-stranger : goal.returns-in-Take-clause-stranger
returns-in-Take-clause-stranger g c = rw c.in-Take.is c.take.ensures.stranger

pub returns-in-Take-clause-late : goal.returns-in-Take-clause-late
returns-in-Take-clause-late g c = rw c.in-Take.is c.take.ensures.late

pub returns-in-Begin-clause-notes : goal.returns-in-Begin-clause-notes
returns-in-Begin-clause-notes g c = rw c.in-Begin.is c.begin.ensures.notes

pub returns-in-Begin-clause-sends : goal.returns-in-Begin-clause-sends
returns-in-Begin-clause-sends g c = rw c.in-Begin.is c.begin.ensures.sends

pub returns-in-Begin-clause-state : goal.returns-in-Begin-clause-state
returns-in-Begin-clause-state g c = rw c.in-Begin.is c.begin.ensures.state

pub returns-in-Begin-clause-staged : goal.returns-in-Begin-clause-staged
returns-in-Begin-clause-staged g c = rw c.in-Begin.is c.begin.ensures.staged

pub returns-in-Begin-clause-unserved : goal.returns-in-Begin-clause-unserved
returns-in-Begin-clause-unserved g c = rw c.in-Begin.is c.begin.ensures.unserved

pub returns-in-Begin-clause-stranger : goal.returns-in-Begin-clause-stranger
returns-in-Begin-clause-stranger g c = λ is. absurd (c.begin.ensures.stranger is)

pub returns-in-Begin-clause-late : goal.returns-in-Begin-clause-late
returns-in-Begin-clause-late g c = λ is. absurd (c.begin.ensures.late is)

pub returns-in-Tick-clause-notes : goal.returns-in-Tick-clause-notes
returns-in-Tick-clause-notes g c = rw c.in-Tick.is c.tick.ensures.notes

pub returns-in-Tick-clause-sends : goal.returns-in-Tick-clause-sends
returns-in-Tick-clause-sends g c = rw c.in-Tick.is c.tick.ensures.sends

pub returns-in-Tick-clause-state : goal.returns-in-Tick-clause-state
returns-in-Tick-clause-state g c = rw c.in-Tick.is c.tick.ensures.state

pub returns-in-Tick-clause-staged : goal.returns-in-Tick-clause-staged
returns-in-Tick-clause-staged g c = rw c.in-Tick.is c.tick.ensures.staged

pub returns-in-Tick-clause-unserved : goal.returns-in-Tick-clause-unserved
returns-in-Tick-clause-unserved g c = rw c.in-Tick.is c.tick.ensures.built

pub returns-in-Tick-clause-stranger : goal.returns-in-Tick-clause-stranger
returns-in-Tick-clause-stranger g c = λ is. absurd (c.tick.ensures.stranger is)

pub returns-in-Tick-clause-late : goal.returns-in-Tick-clause-late
returns-in-Tick-clause-late g c = λ is. absurd (c.tick.ensures.late is)
