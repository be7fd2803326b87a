-- What a list of items, the oldest first, does to a value that each item changes.
use Rattle.std.proofs.Common.{◌≡◌, Bool, true, false, cond, List, [], ◌∷◌, ◌++◌, Option, Some, None, refl, sym, ap, ◌∙◌, append-nil}
use Rattle.std.specs.Prelude.{reverse}
use Rattle.std.specs.List.{flat_map, AllByRecursion}
use Rattle.std.specs.List.Sorted.{IsStrictlySortedBy}
use Rattle.std.specs.Cmp.{IsTotalOrder, eq_by_cmp_equiv}
use Rattle.std.specs.Map.{keys_of, lookup}
use Rattle.std.specs.BTreeMap.{is_at}
use Rattle.std.specs.declared.cmp.Ordering.{Ordering}
use Rattle.std.proofs.lemmas.Map.{NonePasses}
use Rattle.std.proofs.lemmas.Map.Keys.{sorted_tail, IsDistinct-from_sorted}
use Rattle.std.proofs.lemmas.Map.Entries.{none_past_head}
use Rattle.mega_wal.specs.declared.item.JournalItem.{JournalItem}
use Rattle.mega_wal.proofs.Loading.{reverse_onto}

abbrev pub run : {S : Type 0} → (JournalItem → S → S) → S → List JournalItem → S
run f s [] = s
run f s (x ∷ xs) = run f (f x s) xs

pub run_append : {S : Type 0} (f : JournalItem → S → S) (s : S) (xs ys : List JournalItem) → run f s (xs ++ ys) ≡ run f (run f s xs) ys
run_append f s [] ys = refl
run_append f s (x ∷ xs) ys = run_append f (f x s) xs ys

-- what a history says is what its items do, one after another
pub view_is : {S : Type 0} (f : JournalItem → S → S) (view : List JournalItem → S) → ((x : JournalItem) (xs : List JournalItem) → view (x ∷ xs) ≡ f x (view xs))
    → (xs before : List JournalItem) → view (reverse xs ++ before) ≡ run f (view before) xs
view_is f view step [] before = refl
view_is f view step (x ∷ xs) before = ap view (reverse_onto x xs before) ∙ (view_is f view step xs (x ∷ before) ∙ ap (λ s. run f s xs) (step x before))

pub view_all : {S : Type 0} (f : JournalItem → S → S) (view : List JournalItem → S) → ((x : JournalItem) (xs : List JournalItem) → view (x ∷ xs) ≡ f x (view xs))
    → (xs : List JournalItem) → view (reverse xs) ≡ run f (view []) xs
view_all f view step xs = ap view (sym (append-nil (reverse xs))) ∙ view_is f view step xs []

-- lists that change nothing
pub all_same : {S A : Type 0} (f : JournalItem → S → S) (F : A → List JournalItem) → ((a : A) (s : S) → run f s (F a) ≡ s) → (xs : List A) (s : S) → run f s (flat_map F xs) ≡ s
all_same f F same [] s = refl
all_same f F same (a ∷ xs) s = run_append f s (F a) (flat_map F xs) ∙ (ap (λ t. run f t (flat_map F xs)) (same a s) ∙ all_same f F same xs s)

abbrev pub option_else : {X S : Type 0} → S → (X → S) → Option X → S
option_else s g None = s
option_else s g (Some x) = g x

module _ {K X S : Type 0} (f : JournalItem → S → S) (R : K → K → Ordering) (o : IsTotalOrder R) (F : K × X → List JournalItem) (q : K) (apart : (e : K × X) → is_at (R q) e.0 ≡ false → (s : S) → run f s (F e) ≡ s) where
  untouched : (es : List (K × X)) → NonePasses (is_at (R q)) es → (s : S) → run f s (flat_map F es) ≡ s
  untouched [] none s = refl
  untouched (e ∷ es) none s = run_append f s (F e) (flat_map F es) ∙ (ap (λ t. run f t (flat_map F es)) (apart e none.0 s) ∙ untouched es none.1 s)

  -- of the entries of a map, in order of key, that of one key alone changes the value
  pub gathered : (P : K × X → Type 0) (s : S) (g : X → S) → ((e : K × X) → P e → is_at (R q) e.0 ≡ true → run f s (F e) ≡ g e.1)
      → (es : List (K × X)) → IsStrictlySortedBy R (keys_of es) → AllByRecursion P es → run f s (flat_map F es) ≡ option_else s g (lookup (is_at (R q)) es)
  gathered P s g here [] sorted all = refl
  gathered P s g here (e ∷ es) sorted all = run_append f s (F e) (flat_map F es) ∙ go (is_at (R q) e.0) refl (gathered P s g here es (sorted_tail R e.0 (keys_of es) sorted) all.1)
    where
      go : (test : Bool) → is_at (R q) e.0 ≡ test → run f s (flat_map F es) ≡ option_else s g (lookup (is_at (R q)) es) → run f (run f s (F e)) (flat_map F es) ≡ option_else s g (cond test (Some e.1) (lookup (is_at (R q)) es))
      go true t rest = ap (λ v. run f v (flat_map F es)) (here e all.0 t) ∙ untouched es (none_past_head (eq_by_cmp_equiv o) q e es (IsDistinct-from_sorted R (e.0 ∷ keys_of es) sorted) t) (g e.1)
      go false t rest = ap (λ v. run f v (flat_map F es)) (apart e t s) ∙ rest

pub anything : {A : Type 0} (xs : List A) → AllByRecursion (λ (a : A). Unit {0}) xs
anything [] = tt
anything (a ∷ xs) = (tt, anything xs)
