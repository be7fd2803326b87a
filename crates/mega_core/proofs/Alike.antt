-- What was met tells the leases of a node the same wherever things stand that tell them nothing.
use Rattle.std.proofs.Common.{◌≡◌, ℕ, true, List, [], ◌∷◌, ◌++◌, refl, sym, ◌∙◌}
use Rattle.std.specs.List.{All}
use Rattle.std.proofs.lemmas.List.Elements.{All-head, All-tail}
use Rattle.mega_cluster.specs.declared.cluster.Cluster.{Cluster}
use Rattle.mega_coordinator.specs.History.{serving}
use Rattle.mega_rules.specs.Met.{Met, Starts, Crashes, Ticks, Begins, Takes, Sends, Unsends, Grants, Lapses, Counts, Forgets, Serves, Loses, Validates, Invalidates, Decides, Applies, Answers}
use Rattle.mega_rules.specs.Clock.{start_of, ticks_of}
use Rattle.mega_rules.specs.Locks.{cell_calls}
use Rattle.mega_rules.specs.Coordinators.{coordinator_calls, validated}
use Rattle.mega_rules.specs.Steps.{onto}
use Rattle.mega_step_parts.specs.of_leases.declared.leases.Leases.{Leases}
use Rattle.mega_step_parts.specs.of_leases.Laws.{is_apart}
use Rattle.mega_step_parts.specs.of_leases.Tells.{Holds, Tells}
use Rattle.mega_core.specs.Acted.{IsValidate}

-- both tell the same
pub record Alike (c : Cluster) (me : ℕ) (old new : List Met) : Type 0 where
  pub start : start_of new ≡ start_of old
  pub asked : cell_calls c me new ≡ cell_calls c me old
  pub told : coordinator_calls c new ≡ coordinator_calls c old
  pub ticks : ticks_of new ≡ ticks_of old

pub alike_tells : (c : Cluster) (me : ℕ) (leases : Leases) (old new : List Met) → Alike c me old new → Tells c me leases old → Tells c me leases new
alike_tells c me leases old new a tells = coe 0 1 (i. Holds c me leases (sym a.start i) (sym a.asked i) (sym a.told i) (sym a.ticks i)) tells

pub alike_self : (c : Cluster) (me : ℕ) (met : List Met) → Alike c me met met
alike_self c me met = record { start = refl; asked = refl; told = refl; ticks = refl }

pub alike_then : (c : Cluster) (me : ℕ) (a b d : List Met) → Alike c me a b → Alike c me b d → Alike c me a d
alike_then c me a b d x y = record { start = y.start ∙ x.start; asked = y.asked ∙ x.asked; told = y.told ∙ x.told; ticks = y.ticks ∙ x.ticks }

abbrev pub IsApart : Met → Type 0
IsApart one = is_apart one ≡ true

apart_alike : (c : Cluster) (me : ℕ) (one : Met) (met : List Met) → IsApart one → Alike c me met (one ∷ met)
apart_alike c me (Starts start) met is = absurd (cc)
apart_alike c me Crashes met is = absurd (cc)
apart_alike c me (Ticks now) met is = absurd (cc)
apart_alike c me (Begins op text) met is = record { start = refl; asked = refl; told = refl; ticks = refl }
apart_alike c me (Takes message) met is = absurd (cc)
apart_alike c me (Sends message) met is = record { start = refl; asked = refl; told = refl; ticks = refl }
apart_alike c me (Unsends message) met is = record { start = refl; asked = refl; told = refl; ticks = refl }
apart_alike c me (Grants node epoch) met is = absurd (cc)
apart_alike c me (Lapses node epoch) met is = absurd (cc)
apart_alike c me (Counts cell epoch) met is = record { start = refl; asked = refl; told = refl; ticks = refl }
apart_alike c me (Forgets cell epoch) met is = record { start = refl; asked = refl; told = refl; ticks = refl }
apart_alike c me (Serves epoch) met is = record { start = refl; asked = refl; told = refl; ticks = refl }
apart_alike c me (Loses epoch) met is = record { start = refl; asked = refl; told = refl; ticks = refl }
apart_alike c me (Validates group position) met is = absurd (cc)
apart_alike c me (Invalidates group position) met is = record { start = refl; asked = refl; told = refl; ticks = refl }
apart_alike c me (Decides group position entry) met is = record { start = refl; asked = refl; told = refl; ticks = refl }
apart_alike c me (Applies group position) met is = record { start = refl; asked = refl; told = refl; ticks = refl }
apart_alike c me (Answers op answer) met is = record { start = refl; asked = refl; told = refl; ticks = refl }

pub all_apart_alike : (c : Cluster) (me : ℕ) (items met : List Met) → All IsApart items → Alike c me met (onto items met)
all_apart_alike c me [] met apart = alike_self c me met
all_apart_alike c me (one ∷ items) met apart =
    alike_then c me met (one ∷ met) (onto items (one ∷ met)) (apart_alike c me one met (All-head IsApart one items apart)) (all_apart_alike c me items (one ∷ met) (All-tail IsApart one items apart))

-- where both tell the same, they do with a validate more
validate_alike : (c : Cluster) (me : ℕ) (one : Met) (old new : List Met) → IsValidate one → Alike c me old new → Alike c me (one ∷ old) (one ∷ new)
validate_alike c me (Validates group p) old new is a = record {
  start = a.start;
  asked = a.asked;
  told = λ i. validated group p (serving (a.start i) c.cells (a.told i)) ++ a.told i;
  ticks = a.ticks;
}
validate_alike c me _ old new is a = absurd is

pub validates_alike : (c : Cluster) (me : ℕ) (items old new : List Met) → All IsValidate items → Alike c me old new → Alike c me (onto items old) (onto items new)
validates_alike c me [] old new are a = a
validates_alike c me (one ∷ items) old new are a =
    validates_alike c me items (one ∷ old) (one ∷ new) (All-tail IsValidate one items are) (validate_alike c me one old new (All-head IsValidate one items are) a)
