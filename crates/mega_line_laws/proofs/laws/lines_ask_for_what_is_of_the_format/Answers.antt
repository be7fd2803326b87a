use Rattle.mega_line_laws.proofs.Asking.{clock_asked, request_asked}
use Rattle.mega_line_laws.proofs.laws.lines_ask_for_what_is_of_the_format.Goals as goal

pub returns-clause-requests : goal.returns-clause-requests
returns-clause-requests c = request_asked

pub returns-clause-ticks : goal.returns-clause-ticks
returns-clause-ticks c = clock_asked
