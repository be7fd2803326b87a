use Rattle.mega_line_laws.proofs.Asking.{meant_typed}
use Rattle.mega_line_laws.proofs.laws.meanings_are_typed.Goals as goal

pub returns : goal.returns
returns c = meant_typed
