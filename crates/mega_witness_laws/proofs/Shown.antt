-- What a tape that is written out shows: that nothing of a kind stands on it, what all its items have, and that no moment of it passes a test.
use Rattle.std.proofs.Common.{◌≡◌, inl, inr, ◌&&◌, Bool, true, false, not, List, [], ◌∷◌, ◌++◌, refl, ap, sym, ◌∙◌, subst}
use Rattle.std.specs.List.{list_any}
use Rattle.std.proofs.lemmas.Bool.{or_left, or_right, not-true}
use Rattle.mega_base.specs.declared.names.OpId.{OpId}
use Rattle.mega_valid_laws.specs.of_settled_laws.of_tape_laws.of_transcript.declared.item.Item.{Item}
use Rattle.mega_valid_laws.specs.of_settled_laws.of_tape_laws.of_promises.Promises.{Stands}
use Rattle.mega_valid_laws.specs.of_settled_laws.Covering.{Earlier}
use Rattle.mega_valid_laws.proofs.of_settled_laws.of_tape_laws.Ballots.{clash}

-- ---- truth values

first_of : (a b : Bool) → (a && b) ≡ true → a ≡ true
first_of true b h = refl
first_of false b h = h

second_of : (a b : Bool) → (a && b) ≡ true → b ≡ true
second_of true b h = h
second_of false b h = cc

-- ---- items

-- what stands on a tape is found there
pub finds : (test : Item → Bool) (item : Item) (tape : List Item) → Stands item tape → test item ≡ true → list_any test tape ≡ true
finds test item [] s t = absurd s
finds test item (other ∷ before) (inl same) t = or_left (test other) (list_any test before) (ap test same ∙ t)
finds test item (other ∷ before) (inr earlier) t = or_right (test other) (list_any test before) (finds test item before earlier t)

-- where nothing passes a test, nothing that passes it stands
pub none_stands : (test : Item → Bool) (item : Item) (tape : List Item) → list_any test tape ≡ false → test item ≡ true → Stands item tape → ⊥
none_stands test item tape none t s = clash (list_any test tape) (finds test item tape s t) none

-- all items of a tape are of this operation, by what names it in each
abbrev pub AllOf : (Item → OpId) → OpId → List Item → Type 0
AllOf names op [] = Unit {0}
AllOf names op (item ∷ before) = (names item ≡ op) × AllOf names op before

pub stands_of : (names : Item → OpId) (op : OpId) (item : Item) (tape : List Item) → AllOf names op tape → Stands item tape → names item ≡ op
stands_of names op item [] all s = absurd s
stands_of names op item (other ∷ before) all (inl same) = ap names (sym same) ∙ all.0
stands_of names op item (other ∷ before) all (inr earlier) = stands_of names op item before all.1 earlier

-- ---- moments

-- no moment of a tape passes a test
abbrev pub never : (List Item → Bool) → List Item → Bool
never test [] = not (test [])
never test (item ∷ before) = not (test (item ∷ before)) && never test before

fails : (test : List Item → Bool) (later moment : List Item) → never test (later ++ moment) ≡ true → test moment ≡ false
fails test [] [] h = not-true (test []) h
fails test [] (item ∷ before) h = not-true (test (item ∷ before)) (first_of (not (test (item ∷ before))) (never test before) h)
fails test (item ∷ later) moment h = fails test later moment (second_of (not (test (item ∷ (later ++ moment)))) (never test (later ++ moment)) h)

pub no_moment : (test : List Item → Bool) (moment tape : List Item) → never test tape ≡ true → Earlier moment tape → test moment ≡ true → ⊥
no_moment test moment tape none earlier t = clash (test moment) t (fails test earlier.later moment (subst (λ (x : List Item). never test x ≡ true) earlier.is none))
