use Rattle.mega_line_laws.proofs.Clients.{client_asked}
use Rattle.mega_line_laws.proofs.laws.clients_ask_for_what_is_of_the_format.Goals as goal

pub returns : goal.returns
returns c = client_asked
