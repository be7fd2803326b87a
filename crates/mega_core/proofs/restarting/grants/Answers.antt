use Rattle.std.proofs.Common.{◌∷◌, []}
use Rattle.mega_core.proofs.restarting.grants.Goals as goal

pub returns : goal.returns
returns g c = λ met tells i.
    c.granted.ensures met tells i ∷ c.granted-2.ensures met tells i ∷ c.granted-3.ensures met tells i ∷ c.granted-4.ensures met tells i ∷ c.granted-5.ensures met tells i
    ∷ c.granted-6.ensures met tells i ∷ c.granted-7.ensures met tells i ∷ c.granted-8.ensures met tells i ∷ c.granted-9.ensures met tells i ∷ []
