use Rattle.mega_line_laws.proofs.Again.{means}
use Rattle.mega_line_laws.proofs.laws.texts_mean_their_requests.Goals as goal

pub returns : goal.returns
returns c = means
