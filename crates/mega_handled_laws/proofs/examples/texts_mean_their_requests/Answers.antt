use Rattle.std.proofs.Common.{refl}
use Rattle.mega_handled_laws.proofs.examples.texts_mean_their_requests.Goals as goal

pub returns : goal.returns
returns c = (refl, (tt, (refl, (tt, (refl, (tt, (tt, tt)))))))
