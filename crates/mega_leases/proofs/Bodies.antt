-- A message that is taken, by what it says.
use Rattle.std.proofs.Common.{◌≡◌, ℕ, List, ◌∷◌, refl, sym, subst}
use Rattle.mega_cluster.specs.declared.cluster.Cluster.{Cluster}
use Rattle.mega_wire.specs.declared.message.Message.{Message}
use Rattle.mega_wire.specs.declared.message.Body.{Body}
use Rattle.mega_rules.specs.Met.{Met, Takes}
use Rattle.mega_rules.specs.Steps.{onto, told_notes}
use Rattle.mega_rules.specs.Operations.{Setting}
use Rattle.mega_leases.specs.declared.leases.Leases.{Leases}
use Rattle.mega_leases.specs.Tells.{Tells, TellsTaken}
use Rattle.mega_leases.proofs.Noted.{told_show}
use Rattle.mega_leases.proofs.Shown.{all_shown}

-- a message by what it says
of_body : (c : Cluster) (me : ℕ) (leases : Leases) (m : Message) (body : Body) (met : List Met) → m.body ≡ body → TellsTaken c me leases m.from body met → Tells c me leases (Takes m ∷ met)
of_body c me leases m body met is tells = subst (λ (n : Message). Tells c me leases (Takes n ∷ met)) (λ i. record { from = m.from; to = m.to; body = sym is i }) (tells m.to)

-- what is noted of it shows only what was told
taken : (s : Setting) (leases : Leases) (m : Message) (met : List Met) → Tells s.cluster s.me leases (Takes m ∷ met) → Tells s.cluster s.me leases (onto (told_notes s met m.from m.body) (Takes m ∷ met))
taken s leases m met tells = all_shown s.cluster s.me leases (told_notes s met m.from m.body) (Takes m ∷ met) (told_show s met m.from m.body) refl tells

pub taken_as : (s : Setting) (leases : Leases) (m : Message) (body : Body) (met : List Met) → m.body ≡ body → TellsTaken s.cluster s.me leases m.from body met
    → Tells s.cluster s.me leases (onto (told_notes s met m.from m.body) (Takes m ∷ met))
taken_as s leases m body met is tells = taken s leases m met (of_body s.cluster s.me leases m body met is tells)
