-- What a start shows of a step that a crash cut off after its record was kept.
use Rattle.std.specs.Prelude.{◌≡◌, Bool, true, false, List, [], ◌∷◌, Some}
use Rattle.mega_rules.specs.Met.{Met, Unsends, Grants, Lapses, Decides}
use Rattle.mega_rules.specs.Locks.{last_grant}

abbrev pub is_owed : Met → Bool
is_owed (Unsends message) = true
is_owed (Grants node epoch) = true
is_owed (Lapses node epoch) = true
is_owed (Decides group position entry) = true
is_owed _ = false

-- grants, lapses of what is held, a decision, and replies that were not sent
abbrev pub AreOwed : List Met → List Met → Type 0
AreOwed [] met = Unit {0}
AreOwed (Lapses node epoch ∷ owed) met = (last_grant met node ≡ Some (epoch, true)) × AreOwed owed (Lapses node epoch ∷ met)
AreOwed (item ∷ owed) met = (is_owed item ≡ true) × AreOwed owed (item ∷ met)
