-- Places are added to those that are wanted, and none is lost.
use Rattle.std.proofs.Common.{◌≡◌, ◌∙◌, ap, sym, refl, ℕ, Bool, true, false, cond, List, [], ◌∷◌, ◌||◌, ◌&&◌}
use Rattle.std.specs.Prelude.{Option, Some, None, Result, Ok, Err, OnOk, OnErr, IfOk, filter}
use Rattle.std.specs.Ordering.{is_le}
use Rattle.std.specs.List.{list_any}
use Rattle.std.specs.Map.{lookup}
use Rattle.std.specs.BTreeMap.{get}
use Rattle.std.specs.BTreeSet.{BTreeSet, contains}
use Rattle.std.proofs.lemmas.Map.Entries.{lookup-filter-keys}
use Rattle.std.proofs.lemmas.Bool.{and_parts}
use Rattle.mega_index.specs.declared.hints.Place.{Place}
use Rattle.mega_row_writes.specs.Rows.{key_cmp, same_key}
use Rattle.mega_index.specs.Hints.{is_place, is_among}
use Rattle.mega_index.specs.Wanted.{Wanted, is_in, is_wanted, begins, KeepsWanted, PlacesWanted}
use Rattle.mega_index.proofs.Ordered.{Below, Ascends, by_test}
use Rattle.mega_index.proofs.Fronts.{at_or_after, between}
use Rattle.mega_row_writes.proofs.Turning.{same_key-Decides}

never : {P : Type 0} → false ≡ true → P
never e = cc

pub wanted_kept : (old new : Wanted) (group : List ℕ) (was now : BTreeSet (List ℕ)) → get key_cmp old group ≡ Some was
    → ((q : List ℕ) → get key_cmp new q ≡ cond (same_key group q) (Some now) (get key_cmp old q))
    → ((k : List ℕ) → contains key_cmp was k ≡ true → contains key_cmp now k ≡ true)
    → KeepsWanted old new
wanted_kept old new group was now there updated more g k h =
    by_test (same_key group g) (is_wanted new g k ≡ true)
    (λ same.
    let here : get key_cmp old g ≡ Some was = ap (get key_cmp old) (sym ((same_key-Decides group g).0 same)) ∙ there in
    ap (is_in k) (updated g ∙ ap (λ b. cond b (Some now) (get key_cmp old g)) same) ∙ more k (ap (is_in k) (sym here) ∙ h))
    (λ apart. ap (is_in k) (updated g ∙ ap (λ b. cond b (Some now) (get key_cmp old g)) apart) ∙ h)

none_in : (k : List ℕ) (o : Option (BTreeSet (List ℕ))) (P : Type 0) → o ≡ None → is_in k o ≡ true → P
none_in k None P e h = never h
none_in k (Some s) P e h = cc

pub wanted_new : (old new : Wanted) (group : List ℕ) (now : BTreeSet (List ℕ)) → get key_cmp old group ≡ None
    → ((q : List ℕ) → get key_cmp new q ≡ cond (same_key group q) (Some now) (get key_cmp old q))
    → KeepsWanted old new
wanted_new old new group now none updated g k h =
    by_test (same_key group g) (is_wanted new g k ≡ true)
    (λ same. none_in k (get key_cmp old g) _ (ap (get key_cmp old) (sym ((same_key-Decides group g).0 same)) ∙ none) h)
    (λ apart. ap (is_in k) (updated g ∙ ap (λ b. cond b (Some now) (get key_cmp old g)) apart) ∙ h)

pub set_kept : (old new : BTreeSet (List ℕ)) (key : List ℕ) → ((q : List ℕ) → contains key_cmp new q ≡ cond (same_key key q) true (contains key_cmp old q))
    → (k : List ℕ) → contains key_cmp old k ≡ true → contains key_cmp new k ≡ true
set_kept old new key updated k h = updated k ∙ by (same_key key k)
  where
    by : (b : Bool) → cond b true (contains key_cmp old k) ≡ true
    by true = refl
    by false = h

-- the one place is wanted
pub place_wanted : (wanted : Wanted) (place : Place) → is_wanted wanted place.group place.key ≡ true
    → (group key : List ℕ) → is_place group key place ≡ true → is_wanted wanted group key ≡ true
place_wanted wanted place h group key is =
    let parts : (same_key group place.group ≡ true) × (same_key key place.key ≡ true) = and_parts (same_key group place.group) (same_key key place.key) is in
    ap (λ g. is_wanted wanted g key) ((same_key-Decides group place.group).0 parts.0)
    ∙ ap (is_wanted wanted place.group) ((same_key-Decides key place.key).0 parts.1) ∙ h

abbrev pub Left : Type 0
Left = List (List ℕ × List Place)

-- all are at or after the front
abbrev pub After : List ℕ → Left → Type 0
After front [] = Unit {0}
After front (e ∷ es) = (is_le (key_cmp front e.0) ≡ true) × After front es

-- what is hinted in these entries and is not wanted is hinted in those that are left
abbrev pub LeftWants : List ℕ → Left → Wanted → Left → Type 0
LeftWants front all wanted left = (entry group key : List ℕ) → is_among group key (lookup (same_key entry) all) ≡ true → begins front entry ≡ true
    → is_wanted wanted group key ≡ false → is_among group key (lookup (same_key entry) left) ≡ true

true-false : (b : Bool) → b ≡ true → b ≡ false → ⊥
true-false b t f = differ (sym t ∙ f)
  where
    differ : true ≡ false → ⊥
    differ e = cc

-- an entry after one that does not begin so is no entry that begins so
past : (front : List ℕ) (e : List ℕ × List Place) (entry g k : List ℕ) (left : Left) → Below e.0 left → is_le (key_cmp front e.0) ≡ true → begins front e.0 ≡ false → begins front entry ≡ true
    → is_among g k (lookup (same_key entry) left) ≡ true → ⊥
past front e entry g k [] below after stop begin among = never among
past front e entry g k (f ∷ left) below after stop begin among =
    by_test (same_key entry f.0) _
    (λ same. true-false (begins front e.0) (between front e.0 f.0 (ap (begins front) (sym ((same_key-Decides entry f.0).0 same)) ∙ begin) after below.0) stop)
    (λ apart. past front e entry g k left below.1 after stop begin (sym (ap (λ b. is_among g k (cond b (Some f.1) (lookup (same_key entry) left))) apart) ∙ among))

pub stops : (front : List ℕ) (all : Left) (wanted : Wanted) (e : List ℕ × List Place) (left : Left) → Ascends (e ∷ left) → After front (e ∷ left) → begins front e.0 ≡ false
    → LeftWants front all wanted (e ∷ left)
    → (entry g k : List ℕ) → is_among g k (lookup (same_key entry) all) ≡ true → begins front entry ≡ true → is_wanted wanted g k ≡ true
stops front all wanted e left up after stop wants entry g k among begin = by (is_wanted wanted g k) refl
  where
    by : (b : Bool) → is_wanted wanted g k ≡ b → is_wanted wanted g k ≡ true
    by true h = h
    by false h =
        let was : is_among g k (lookup (same_key entry) (e ∷ left)) ≡ true = wants entry g k among begin h in
        by_test (same_key entry e.0) _
        (λ same. absurd (true-false (begins front e.0) (ap (begins front) (sym ((same_key-Decides entry e.0).0 same)) ∙ begin) stop))
        (λ apart. absurd (past front e entry g k left up.0 after.0 stop begin (sym (ap (λ b. is_among g k (cond b (Some e.1) (lookup (same_key entry) left))) apart) ∙ was)))

pub ends : (front : List ℕ) (all : Left) (wanted : Wanted) → LeftWants front all wanted []
    → (entry g k : List ℕ) → is_among g k (lookup (same_key entry) all) ≡ true → begins front entry ≡ true → is_wanted wanted g k ≡ true
ends front all wanted wants entry g k among begin = by (is_wanted wanted g k) refl
  where
    by : (b : Bool) → is_wanted wanted g k ≡ b → is_wanted wanted g k ≡ true
    by true h = h
    by false h = never (wants entry g k among begin h)

-- the entries from a front on
pub below-filter : {X : Type 0} (p : List ℕ × X → Bool) (k : List ℕ) (es : List (List ℕ × X)) → Below k es → Below k (filter p es)
below-filter p k [] below = tt
below-filter p k (e ∷ es) below = elim (p e) as (λ b. Below k (cond b (e ∷ filter p es) (filter p es))) [ true ↦ (below.0, below-filter p k es below.1) | false ↦ below-filter p k es below.1 ]

pub ascends-filter : {X : Type 0} (p : List ℕ × X → Bool) (es : List (List ℕ × X)) → Ascends es → Ascends (filter p es)
ascends-filter p [] up = tt
ascends-filter p (e ∷ es) up = elim (p e) as (λ b. Ascends (cond b (e ∷ filter p es) (filter p es))) [ true ↦ (below-filter p e.0 es up.0, ascends-filter p es up.1) | false ↦ ascends-filter p es up.1 ]

abbrev pub from_front : List ℕ → List ℕ × List Place → Bool
from_front front e = is_le (key_cmp front e.0) && true

pub after-filter : (front : List ℕ) (es : Left) → After front (filter (from_front front) es)
after-filter front [] = tt
after-filter front (e ∷ es) = by_test (is_le (key_cmp front e.0)) _
    (λ h. coe 1 0 (i. After front (cond (h i && true) (e ∷ filter (from_front front) es) (filter (from_front front) es))) (h, after-filter front es))
    (λ h. coe 1 0 (i. After front (cond (h i && true) (e ∷ filter (from_front front) es) (filter (from_front front) es))) (after-filter front es))

-- what begins with the front is from it on
pub from_start : (front entry : List ℕ) (es : Left) → begins front entry ≡ true → lookup (same_key entry) (filter (from_front front) es) ≡ lookup (same_key entry) es
from_start front entry es begin =
    lookup-filter-keys (same_key entry) (λ k. is_le (key_cmp front k) && true) true
    (λ k same. ap (λ k. is_le (key_cmp front k) && true) (sym ((same_key-Decides entry k).0 same)) ∙ ap (λ b. b && true) (at_or_after front entry begin)) es

pub on_ok : {X E P Q : Type 0} (r : Result X E) → (P → Q) → OnOk r P → OnOk r Q
on_ok (Ok x) f h = f h
on_ok (Err e) f h = tt

pub on_err : {X E P Q : Type 0} (r : Result X E) → (P → Q) → OnErr r P → OnErr r Q
on_err (Ok x) f h = tt
on_err (Err e) f h = f h

pub if_ok : {X E : Type 0} {P Q : X → Type 0} (r : Result X E) → ((x : X) → P x → Q x) → IfOk r P → IfOk r Q
if_ok (Ok x) f h = f x h
if_ok (Err e) f h = tt
