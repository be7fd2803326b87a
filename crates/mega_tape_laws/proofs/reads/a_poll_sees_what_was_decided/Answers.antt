use Rattle.mega_tape_laws.proofs.Polled.{polled_above}
use Rattle.mega_tape_laws.proofs.reads.a_poll_sees_what_was_decided.Goals as goal

pub returns : goal.returns
returns c = polled_above
