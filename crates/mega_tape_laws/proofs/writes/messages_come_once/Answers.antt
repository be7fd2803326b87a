use Rattle.mega_tape_laws.proofs.Sending.{entered_sent}
use Rattle.mega_tape_laws.proofs.Messages.{entered_once, handled_once, handles_oldest}
use Rattle.mega_tape_laws.proofs.writes.messages_come_once.Goals as goal

pub returns-clause-entered : goal.returns-clause-entered
returns-clause-entered c = entered_once

pub returns-clause-handled : goal.returns-clause-handled
returns-clause-handled c = handled_once

pub returns-clause-oldest : goal.returns-clause-oldest
returns-clause-oldest c = handles_oldest

pub returns-clause-sent : goal.returns-clause-sent
returns-clause-sent c = entered_sent
