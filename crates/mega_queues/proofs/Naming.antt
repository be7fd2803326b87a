-- A name that is added to those that are known.
use Rattle.std.proofs.Common.{◌≡◌, ◌∙◌, ap, sym, refl, ℕ, ◌==◌, ◌&&◌, ◌||◌, Bool, true, false, cond, List, [], ◌∷◌, ◌++◌, arith, Ordering, Less, Equal, Greater, nat_cmp}
use Rattle.std.specs.Prelude.{Some}
use Rattle.std.specs.List.{list_any}
use Rattle.std.specs.Ordering.{is_eq, ordering_then}
use Rattle.std.specs.BTreeMap.{get, is_at}
use Rattle.std.specs.BTreeSet.{BTreeSet, contains}
use Rattle.std.proofs.lemmas.Bool.Decides.{nat_tests}
use Rattle.mega_base.specs.declared.names.GroupId.{GroupId}
use Rattle.mega_entry.specs.declared.content.Name.{Name}
use Rattle.mega_wal.specs.Same.{same_group, same_name}
use Rattle.mega_wal.specs.History.{group_cmp}
use Rattle.mega_wal.specs.Kept.{is_group}
use Rattle.mega_wal.proofs.Sames.{same_group_equal, same_group_self}
use Rattle.mega_wal.proofs.Orders.{is_group_equal, is_group_is}
use Rattle.mega_rules.specs.Queues.{is_named}
use Rattle.mega_queues.specs.Named.{Adds, AddsAll, Names, Place, is_in, is_known, place_cmp}

then_is : (o p : Ordering) → is_eq (ordering_then o p) ≡ (is_eq o && is_eq p)
then_is Less p = refl
then_is Equal p = refl
then_is Greater p = refl

nat_is : (a b : ℕ) → is_eq (nat_cmp a b) ≡ (b == a)
nat_is a b = grind (arith, nat_tests)

place_is : (a b : Place) → is_eq (place_cmp a b) ≡ (b.0 == a.0 && b.1 == a.1)
place_is a b = then_is (nat_cmp a.0 b.0) (nat_cmp a.1 b.1) ∙ (ap (λ t. t && is_eq (nat_cmp a.1 b.1)) (nat_is a.0 b.0) ∙ ap (λ t. b.0 == a.0 && t) (nat_is a.1 b.1))

pub swapped : (a b : GroupId) → same_group a b ≡ same_group b a
swapped a b = go (same_group a b) (same_group b a) refl refl
  where
    go : (x y : Bool) → same_group a b ≡ x → same_group b a ≡ y → x ≡ y
    go true true e f = refl
    go false false e f = refl
    go true false e f = let is : a ≡ b = same_group_equal a b e in let s : same_group b a ≡ true = ap (same_group b) is ∙ same_group_self b in absurd (cc)
    go false true e f = let is : b ≡ a = same_group_equal b a f in let s : same_group a b ≡ true = ap (same_group a) is ∙ same_group_self a in absurd (cc)

or_false : (a : Bool) → a ≡ (a || false)
or_false true = refl
or_false false = refl

or_cond : (t a : Bool) → cond t true a ≡ (a || t)
or_cond true true = refl
or_cond true false = refl
or_cond false true = refl
or_cond false false = refl

pub added : (old new : Names) (name : Name) (was : Place → Bool) (now : BTreeSet Place)
    → ((k : Place) → is_in k (get group_cmp old name.group) ≡ was k)
    → ((q : GroupId) → get group_cmp new q ≡ cond (is_group name.group q) (Some now) (get group_cmp old q))
    → ((k : Place) → contains place_cmp now k ≡ cond (is_eq (place_cmp (name.position.0, name.place) k)) true (was k))
    → Adds old new name
added old new name was now before updated put other = go (is_group name.group other.group) refl
  where
    place : Place
    place = (other.position.0, other.place)

    own : Place
    own = (name.position.0, name.place)

    go : (t : Bool) → is_group name.group other.group ≡ t → is_known new other ≡ (is_known old other || same_name other name)
    go true e =
        let same : name.group ≡ other.group = is_group_equal name.group other.group e in
        let first : same_group other.group name.group ≡ true = ap (same_group other.group) same ∙ same_group_self other.group in
        ap (is_in place) (updated other.group ∙ ap (λ t. cond t (Some now) (get group_cmp old other.group)) e)
        ∙ (put place
        ∙ (or_cond (is_eq (place_cmp own place)) (was place)
        ∙ (ap (λ t. was place || t) (place_is own place)
        ∙ (ap (λ t. t || (place.0 == own.0 && place.1 == own.1)) (sym (before place) ∙ ap (λ g. is_in place (get group_cmp old g)) same)
        ∙ ap (λ t. is_known old other || (t && other.position.0 == name.position.0 && other.place == name.place)) (sym first)))))
    go false e =
        let first : same_group other.group name.group ≡ false = swapped other.group name.group ∙ (sym (is_group_is name.group other.group) ∙ e) in
        ap (is_in place) (updated other.group ∙ ap (λ t. cond t (Some now) (get group_cmp old other.group)) e)
        ∙ (or_false (is_known old other)
        ∙ ap (λ t. is_known old other || (t && other.position.0 == name.position.0 && other.place == name.place)) (sym first))

-- ---- several names

-- ---- a set's first place
pub put_first : (old new : BTreeSet Place) (one : Place) → old.keys ≡ [] → ((k : Place) → contains place_cmp new k ≡ cond (is_eq (place_cmp one k)) true (contains place_cmp old k)) → (k : Place) → contains place_cmp new k ≡ cond (is_eq (place_cmp one k)) true false
put_first old new one none put k = put k ∙ ap (λ ks. cond (is_eq (place_cmp one k)) true (list_any (is_at (place_cmp k)) ks)) none
