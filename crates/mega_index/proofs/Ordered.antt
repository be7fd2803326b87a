-- Entries in order of key, and what an insertion makes of them.
use Rattle.std.proofs.Common.{◌≡◌, ◌∙◌, ap, refl, ℕ, Bool, true, false, cond, List, [], ◌∷◌}
use Rattle.std.specs.Prelude.{Some, None}
use Rattle.std.specs.declared.cmp.Ordering.{Ordering}
use Rattle.std.specs.declared.cmp.Ordering.TheVariants.{Less, Equal, Greater}
use Rattle.std.specs.Ordering.{is_eq, ordering_reverse, match_ordering}
use Rattle.std.specs.List.{AllByRecursion, list_all}
use Rattle.std.specs.List.Sorted.{IsStrictlySortedBy}
use Rattle.std.specs.Map.{lookup, keys_of}
use Rattle.std.specs.BTreeMap.{insert_entry}
use Rattle.std.specs.Cmp.Lexicographic.{nat_list_cmp_total}
use Rattle.std.proofs.lemmas.Map.Keys.{sorted_head, sorted_tail}
use Rattle.std.proofs.lemmas.Map.Lookups.{exact_bytes}
use Rattle.std.proofs.lemmas.Bool.{and_parts, and_from}
use Rattle.mega_row_writes.specs.Rows.{key_cmp, same_key}

pub turn_less : (k q : List ℕ) → key_cmp k q ≡ Greater → key_cmp q k ≡ Less
turn_less k q h = nat_list_cmp_total.antisymm q k ∙ ap ordering_reverse h

pub turn_greater : (k q : List ℕ) → key_cmp k q ≡ Less → key_cmp q k ≡ Greater
turn_greater k q h = nat_list_cmp_total.antisymm q k ∙ ap ordering_reverse h

module _ {X : Type 0} where
  -- the key is before all of these
  abbrev pub Below : List ℕ → List (List ℕ × X) → Type 0
  Below k [] = Unit {0}
  Below k (e ∷ es) = (key_cmp k e.0 ≡ Less) × Below k es

  abbrev pub Ascends : List (List ℕ × X) → Type 0
  Ascends [] = Unit {0}
  Ascends (e ∷ es) = Below e.0 es × Ascends es

  pub below-trans : (k q : List ℕ) (es : List (List ℕ × X)) → key_cmp k q ≡ Less → Below q es → Below k es
  below-trans k q [] h below = tt
  below-trans k q (e ∷ es) h below = (nat_list_cmp_total.trans k q e.0 h below.0, below-trans k q es h below.1)

  insert-below : (k q : List ℕ) (v : X) (es : List (List ℕ × X)) → key_cmp k q ≡ Less → Below k es → Below k (insert_entry key_cmp es q v)
  insert-below k q v [] h below = (h, tt)
  insert-below k q v (e ∷ es) h below =
      elim (key_cmp q e.0) as (λ o. Below k (match_ordering o ((q, v) ∷ e ∷ es) ((e.0, v) ∷ es) (e ∷ insert_entry key_cmp es q v)))
      [ Less ↦ (h, below) | Equal ↦ below | Greater ↦ (below.0, insert-below k q v es h below.1) ]

  placed_one : (q : List ℕ) (v : X) (e : List ℕ × X) (es : List (List ℕ × X)) → Below e.0 es → Ascends es → Ascends (insert_entry key_cmp es q v)
      → (o : Ordering) → key_cmp q e.0 ≡ o → Ascends (match_ordering o ((q, v) ∷ e ∷ es) ((e.0, v) ∷ es) (e ∷ insert_entry key_cmp es q v))
  placed_one q v e es below up more Less is = ((is, below-trans q e.0 es is below), (below, up))
  placed_one q v e es below up more Equal is = (below, up)
  placed_one q v e es below up more Greater is = (insert-below e.0 q v es (turn_less q e.0 is) below, more)

  pub insert-ascends : (q : List ℕ) (v : X) (es : List (List ℕ × X)) → Ascends es → Ascends (insert_entry key_cmp es q v)
  insert-ascends q v [] up = (tt, tt)
  insert-ascends q v (e ∷ es) up = placed_one q v e es up.0 up.1 (insert-ascends q v es up.1) (key_cmp q e.0) refl

  pub below-none : (k : List ℕ) (es : List (List ℕ × X)) → Below k es → lookup (same_key k) es ≡ None
  below-none k [] below = refl
  below-none k (e ∷ es) below = ap (λ o. cond (is_eq o) (Some e.1) (lookup (same_key k) es)) below.0 ∙ below-none k es below.1

  -- a key before all others goes to the front
  pub insert-front : (k : List ℕ) (v : X) (es : List (List ℕ × X)) → Below k es → insert_entry key_cmp es k v ≡ (k, v) ∷ es
  insert-front k v [] below = refl
  insert-front k v (e ∷ es) below = ap (λ o. match_ordering o ((k, v) ∷ e ∷ es) ((e.0, v) ∷ es) (e ∷ insert_entry key_cmp es k v)) below.0

  pub below-sorted : (k : List ℕ) (es : List (List ℕ × X)) → AllByRecursion (λ y. key_cmp k y ≡ Less) (keys_of es) → Below k es
  below-sorted k [] all = tt
  below-sorted k (e ∷ es) all = (all.0, below-sorted k es all.1)

  -- the entries of an ordered map ascend
  pub ascends-sorted : (es : List (List ℕ × X)) → IsStrictlySortedBy key_cmp (keys_of es) → Ascends es
  ascends-sorted [] sorted = tt
  ascends-sorted (e ∷ es) sorted =
      (below-sorted e.0 es (sorted_head key_cmp e.0 (keys_of es) sorted), ascends-sorted es (sorted_tail key_cmp e.0 (keys_of es) sorted))

-- a decided case, with its equation
pub by_order : (o : Ordering) (P : Type 0) → (o ≡ Less → P) → (o ≡ Equal → P) → (o ≡ Greater → P) → P
by_order Less P less equal greater = less refl
by_order Equal P less equal greater = equal refl
by_order Greater P less equal greater = greater refl

pub by_test : (b : Bool) (P : Type 0) → (b ≡ true → P) → (b ≡ false → P) → P
by_test true P on_true on_false = on_true refl
by_test false P on_true on_false = on_false refl

pub equal_keys : (k q : List ℕ) → key_cmp k q ≡ Equal → k ≡ q
equal_keys k q h = exact_bytes k q h

-- a test that implies another, of all
pub all_imply : {X : Type 0} (p q : X → Bool) (xs : List X) → ((x : X) → p x ≡ true → q x ≡ true) → list_all p xs ≡ true → list_all q xs ≡ true
all_imply p q [] imply h = refl
all_imply p q (x ∷ xs) imply h =
    let parts : (p x ≡ true) × (list_all p xs ≡ true) = and_parts (p x) (list_all p xs) h in
    and_from (q x) (list_all q xs) (imply x parts.0) (all_imply p q xs imply parts.1)
