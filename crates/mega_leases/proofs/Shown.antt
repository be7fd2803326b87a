-- Items that tell nothing to the clock, the cell and the coordinator of a node.
use Rattle.std.proofs.Common.{◌≡◌, ℕ, Bool, true, false, ◌&&◌, if◌then◌else◌, List, [], ◌∷◌, ◌++◌, refl, sym, subst}
use Rattle.std.specs.List.{list_all}
use Rattle.mega_cluster.specs.declared.cluster.Cluster.{Cluster}
use Rattle.mega_locks.specs.History.{Reopens}
use Rattle.mega_rules.specs.Met.{Met, Starts, Crashes, Ticks, Begins, Takes, Sends, Unsends, Grants, Lapses, Counts, Forgets, Serves, Loses, Validates, Invalidates, Decides, Applies, Answers}
use Rattle.mega_rules.specs.Clock.{is_opening, start_of, ticks_of}
use Rattle.mega_rules.specs.Locks.{cell_calls}
use Rattle.mega_rules.specs.Coordinators.{coordinator_calls}
use Rattle.mega_rules.specs.Steps.{onto}
use Rattle.mega_leases.specs.declared.leases.Leases.{Leases}
use Rattle.mega_leases.specs.Laws.{is_apart, shows_only}
use Rattle.mega_leases.specs.Tells.{Holds, Tells}

pub apart : (c : Cluster) (me : ℕ) (leases : Leases) (item : Met) (met : List Met) → is_apart item ≡ true → Tells c me leases met → Tells c me leases (item ∷ met)
apart c me leases (Starts start) met is tells = cc
apart c me leases Crashes met is tells = cc
apart c me leases (Ticks now) met is tells = cc
apart c me leases (Begins op text) met is tells = tells
apart c me leases (Takes message) met is tells = cc
apart c me leases (Sends message) met is tells = tells
apart c me leases (Unsends message) met is tells = tells
apart c me leases (Grants node epoch) met is tells = cc
apart c me leases (Lapses node epoch) met is tells = cc
apart c me leases (Counts cell epoch) met is tells = tells
apart c me leases (Forgets cell epoch) met is tells = tells
apart c me leases (Serves epoch) met is tells = tells
apart c me leases (Loses epoch) met is tells = tells
apart c me leases (Validates group position) met is tells = cc
apart c me leases (Invalidates group position) met is tells = tells
apart c me leases (Decides group position entry) met is tells = tells
apart c me leases (Applies group position) met is tells = tells
apart c me leases (Answers op answer) met is tells = tells

-- the opening of a start is over, and stays so
closed : (item : Met) (met : List Met) → shows_only item ≡ true → is_opening met ≡ false → is_opening (item ∷ met) ≡ false
closed (Starts start) met is over = cc
closed Crashes met is over = cc
closed (Ticks now) met is over = cc
closed (Begins op text) met is over = refl
closed (Takes message) met is over = cc
closed (Sends message) met is over = over
closed (Unsends message) met is over = over
closed (Grants node epoch) met is over = over
closed (Lapses node epoch) met is over = over
closed (Counts cell epoch) met is over = over
closed (Forgets cell epoch) met is over = over
closed (Serves epoch) met is over = over
closed (Loses epoch) met is over = over
closed (Validates group position) met is over = cc
closed (Invalidates group position) met is over = over
closed (Decides group position entry) met is over = over
closed (Applies group position) met is over = over
closed (Answers op answer) met is over = over

shown : (c : Cluster) (me : ℕ) (leases : Leases) (item : Met) (met : List Met) → shows_only item ≡ true → is_opening met ≡ false → Tells c me leases met → Tells c me leases (item ∷ met)
shown c me leases (Starts start) met is over tells = cc
shown c me leases Crashes met is over tells = cc
shown c me leases (Ticks now) met is over tells = cc
shown c me leases (Begins op text) met is over tells = tells
shown c me leases (Takes message) met is over tells = cc
shown c me leases (Sends message) met is over tells = tells
shown c me leases (Unsends message) met is over tells = tells
shown c me leases (Grants node epoch) met is over tells =
    subst (λ (opening : Bool). Holds c me leases (start_of met) ((if opening then Reopens node epoch true ∷ [] else []) ++ cell_calls c me met) (coordinator_calls c met) (ticks_of met)) (sym over) tells
shown c me leases (Lapses node epoch) met is over tells =
    subst (λ (opening : Bool). Holds c me leases (start_of met) ((if opening then Reopens node epoch false ∷ [] else []) ++ cell_calls c me met) (coordinator_calls c met) (ticks_of met)) (sym over) tells
shown c me leases (Counts cell epoch) met is over tells = tells
shown c me leases (Forgets cell epoch) met is over tells = tells
shown c me leases (Serves epoch) met is over tells = tells
shown c me leases (Loses epoch) met is over tells = tells
shown c me leases (Validates group position) met is over tells = cc
shown c me leases (Invalidates group position) met is over tells = tells
shown c me leases (Decides group position entry) met is over tells = tells
shown c me leases (Applies group position) met is over tells = tells
shown c me leases (Answers op answer) met is over tells = tells

first_of : (a b : Bool) → (a && b) ≡ true → a ≡ true
first_of true b h = refl
first_of false b h = h

second_of : (a b : Bool) → (a && b) ≡ true → b ≡ true
second_of true b h = h
second_of false b h = cc

pub all_shown : (c : Cluster) (me : ℕ) (leases : Leases) (notes met : List Met) → list_all shows_only notes ≡ true → is_opening met ≡ false → Tells c me leases met → Tells c me leases (onto notes met)
all_shown c me leases [] met are over tells = tells
all_shown c me leases (item ∷ notes) met are over tells =
    all_shown c me leases notes (item ∷ met) (second_of (shows_only item) (list_all shows_only notes) are)
    (closed item met (first_of (shows_only item) (list_all shows_only notes) are) over)
    (shown c me leases item met (first_of (shows_only item) (list_all shows_only notes) are) over tells)

-- such lists, one after another
pub both_show : (xs ys : List Met) → list_all shows_only xs ≡ true → list_all shows_only ys ≡ true → list_all shows_only (xs ++ ys) ≡ true
both_show [] ys p q = q
both_show (x ∷ xs) ys p q = joined (shows_only x) (list_all shows_only (xs ++ ys)) (first_of (shows_only x) (list_all shows_only xs) p) (both_show xs ys (second_of (shows_only x) (list_all shows_only xs) p) q)
  where
    joined : (a b : Bool) → a ≡ true → b ≡ true → (a && b) ≡ true
    joined true true e f = refl
    joined true false e f = f
    joined false b e f = e
