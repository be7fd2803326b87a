-- What stands on a tape, and in the lists that a tape tells.
use Rattle.std.proofs.Common.{◌≡◌, ◌⊎◌, inl, inr, List, [], ◌∷◌, Option, Some, None, refl, ap, ◌∙◌, subst}
use Rattle.std.specs.Prelude.{filter_map}
use Rattle.std.specs.List.{cons_option}
use Rattle.mega_cluster.specs.declared.cluster.Cluster.{Cluster}
use Rattle.mega_promises.specs.of_transcript.declared.item.Item.{Item}
use Rattle.mega_promises.specs.Promises.{Stands}
use Rattle.mega_tape_laws.specs.Places.{In}
use Rattle.mega_tape_laws.specs.Lawful.{Allowed, Lawful}

pub some_is : {X : Type 0} (x y : X) → Some x ≡ Some y → x ≡ y
some_is x y h = cc

pub from_cons : {X : Type 0} (o : Option X) (xs : List X) (x : X) → In x (cons_option o xs) → (o ≡ Some x) ⊎ In x xs
from_cons None xs x i = inr i
from_cons (Some y) xs x (inl e) = inl (ap Some e)
from_cons (Some y) xs x (inr i) = inr i

pub in_tail : {X : Type 0} (o : Option X) (xs : List X) (x : X) → In x xs → In x (cons_option o xs)
in_tail None xs x i = i
in_tail (Some y) xs x i = inr i

pub in_head : {X : Type 0} (o : Option X) (xs : List X) (x : X) → o ≡ Some x → In x (cons_option o xs)
in_head None xs x e = cc
in_head (Some y) xs x e = inl (some_is y x e)

-- what an item that stands tells is in the list
pub kept : {X : Type 0} (f : Item → Option X) (item : Item) (x : X) (tape : List Item) → f item ≡ Some x → Stands item tape → In x (filter_map f tape)
kept f item x [] e s = absurd s
kept f item x (other ∷ before) e (inl same) = in_head (f other) (filter_map f before) x (ap f same ∙ e)
kept f item x (other ∷ before) e (inr s) = in_tail (f other) (filter_map f before) x (kept f item x before e s)

-- an item that stands and tells it
pub record Source {X : Type 0} (f : Item → Option X) (x : X) (tape : List Item) : Type 0 where
  pub item : Item
  pub stands : Stands item tape
  pub tells : f item ≡ Some x

-- what is in the list was told by an item that stands
pub source : {X : Type 0} (f : Item → Option X) (x : X) (tape : List Item) → In x (filter_map f tape) → Source f x tape
source f x [] i = absurd i
source f x (other ∷ before) i = elim (from_cons (f other) (filter_map f before) x i) [
  | inl e ↦ record { item = other; stands = inl refl; tells = e }
  | inr j ↦ let r = source f x before j in record { item = r.item; stands = inr r.stands; tells = r.tells }
]

-- what lasts, and held when an item was allowed, holds where that item stands
pub lookback : (c : Cluster) (Q : List Item → Type 0) (item : Item)
    → ((other : Item) (before : List Item) → Q before → Q (other ∷ before))
    → ((before : List Item) → Allowed c before item → Q before)
    → (tape : List Item) → Lawful c tape → Stands item tape → Q tape
lookback c Q item lasts held [] l s = absurd s
lookback c Q item lasts held (other ∷ before) l (inl e) = lasts other before (held before (subst (Allowed c before) e l.0))
lookback c Q item lasts held (other ∷ before) l (inr s) = lasts other before (lookback c Q item lasts held before l.1 s)
