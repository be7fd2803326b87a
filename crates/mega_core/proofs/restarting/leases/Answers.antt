use Rattle.std.proofs.Common.{◌∙◌, ◌∷◌, map, refl}
use Rattle.mega_locks.specs.History.{nodes}
use Rattle.mega_rules.specs.Met.{Starts}
use Rattle.mega_rules.specs.Steps.{onto}
use Rattle.mega_core.proofs.Anew.{grant_on}
use Rattle.mega_core.proofs.restarting.leases.Goals as goal

pub start-requires-clause-cells : goal.start-requires-clause-cells
start-requires-clause-cells g c = c.requires.served.cells

pub start-requires-clause-fits : goal.start-requires-clause-fits
start-requires-clause-fits g c = c.requires.served.fits

pub returns : goal.returns
returns g c = λ met owed are tells.
    let started = Starts c.args.start ∷ met in
    c.start.ensures met owed are (c.grants-grants.ensures (onto owed started) tells ∙ (λ i. map (λ node. grant_on owed started met node refl i) nodes))
