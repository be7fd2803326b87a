use Rattle.mega_served_laws.proofs.Since.{pasts_same}
use Rattle.mega_served_laws.proofs.laws.what_is_kept_is_enough.Goals as goal

pub returns : goal.returns
returns c = λ cluster me number first past other inputs h. pasts_same cluster me past other first number inputs h
