-- What stands under a key among entries with one value under several keys, and in lists one behind the other.
use Rattle.std.proofs.Common.{◌≡◌, ◌⊎◌, inl, inr, ◌∙◌, ap, sym, refl, ℕ, Bool, true, false, cond, List, [], ◌∷◌, ◌++◌, Some, None}
use Rattle.std.specs.BTreeMap.{insert_entry}
use Rattle.mega_index.specs.Rows.{key_cmp, same_key}
use Rattle.mega_index.specs.Entries.{placed}
use Rattle.mega_index.proofs.Ordered.{Ascends, below-none}
use Rattle.mega_index.proofs.KeyLists.{key_is, same_self, same_or_not, under, under-insert}
use Rattle.mega_tape_laws.specs.Places.{In}

abbrev pub There : {A : Type 0} → List (List ℕ × A) → List ℕ → Type 0
There {A} es key = (value : A) × (under es key ≡ Some value)

-- ---- entries with one value under several keys

pub placed_from : {A : Type 0} (keys : List (List ℕ)) (es : List (List ℕ × A)) (v w : A) (k : List ℕ) → under (placed es v keys) k ≡ Some w → (In k keys × (w ≡ v)) ⊎ (under es k ≡ Some w)
placed_from [] es v w k h = inr h
placed_from {A} (q ∷ qs) es v w k h = by (placed_from qs (insert_entry key_cmp es q v) v w k h)
  where
    by : (In k qs × (w ≡ v)) ⊎ (under (insert_entry key_cmp es q v) k ≡ Some w) → (In k (q ∷ qs) × (w ≡ v)) ⊎ (under es k ≡ Some w)
    by (inl both) = inl (inr both.0, both.1)
    by (inr g) = elim (same_or_not k q) [
      | inl same ↦ inl (inl (sym same), (let is : Some v ≡ Some w = sym (ap (λ b. cond b (Some v) (under es k)) (ap (λ x. same_key x q) same ∙ same_self q)) ∙ sym (under-insert es q v k) ∙ g in cc))
      | inr apart ↦ inr (sym (ap (λ b. cond b (Some v) (under es k)) apart) ∙ sym (under-insert es q v k) ∙ g)
    ]

insert_there : {A : Type 0} (es : List (List ℕ × A)) (q : List ℕ) (v : A) (k : List ℕ) → There es k → There (insert_entry key_cmp es q v) k
insert_there es q v k there = elim (same_or_not k q) [
  | inl same ↦ (v, under-insert es q v k ∙ ap (λ b. cond b (Some v) (under es k)) (ap (λ x. same_key x q) same ∙ same_self q))
  | inr apart ↦ (there.0, under-insert es q v k ∙ ap (λ b. cond b (Some v) (under es k)) apart ∙ there.1)
]

pub placed_keeps : {A : Type 0} (keys : List (List ℕ)) (es : List (List ℕ × A)) (v : A) (k : List ℕ) → There es k → There (placed es v keys) k
placed_keeps [] es v k there = there
placed_keeps (q ∷ qs) es v k there = placed_keeps qs (insert_entry key_cmp es q v) v k (insert_there es q v k there)

pub placed_there : {A : Type 0} (keys : List (List ℕ)) (es : List (List ℕ × A)) (v : A) (k : List ℕ) → In k keys → There (placed es v keys) k
placed_there [] es v k i = absurd i
placed_there (q ∷ qs) es v k (inl same) =
    placed_keeps qs (insert_entry key_cmp es q v) v k (v, under-insert es q v k ∙ ap (λ b. cond b (Some v) (under es k)) (ap (same_key k) same ∙ same_self k))
placed_there (q ∷ qs) es v k (inr i) = placed_there qs (insert_entry key_cmp es q v) v k i

-- ---- lists one behind the other

pub append_from : {A : Type 0} (es fs : List (List ℕ × A)) (k : List ℕ) (w : A) → under (es ++ fs) k ≡ Some w → (under es k ≡ Some w) ⊎ (under fs k ≡ Some w)
append_from [] fs k w h = inr h
append_from (e ∷ es) fs k w h = by (same_key k e.0) (append_from es fs k w) h
  where
    by : (b : Bool) → (under (es ++ fs) k ≡ Some w → (under es k ≡ Some w) ⊎ (under fs k ≡ Some w)) → cond b (Some e.1) (under (es ++ fs) k) ≡ Some w
        → (cond b (Some e.1) (under es k) ≡ Some w) ⊎ (under fs k ≡ Some w)
    by true more g = inl g
    by false more g = more g

pub append_front : {A : Type 0} (es fs : List (List ℕ × A)) (k : List ℕ) → There es k → There (es ++ fs) k
append_front [] fs k there = absurd (none there.1)
  where
    none : {A : Type 0} {x : A} → None ≡ Some x → ⊥
    none h = cc
append_front {A} (e ∷ es) fs k there = by (same_key k e.0) (append_front es fs k) there.1
  where
    by : (b : Bool) → (There es k → There (es ++ fs) k) → cond b (Some e.1) (under es k) ≡ Some there.0 → (value : A) × (cond b (Some e.1) (under (es ++ fs) k) ≡ Some value)
    by true more g = (e.1, refl)
    by false more g = more (there.0, g)

pub append_back : {A : Type 0} (es fs : List (List ℕ × A)) (k : List ℕ) → There fs k → There (es ++ fs) k
append_back [] fs k there = there
append_back {A} (e ∷ es) fs k there = by (same_key k e.0) (append_back es fs k there)
  where
    by : (b : Bool) → There (es ++ fs) k → (value : A) × (cond b (Some e.1) (under (es ++ fs) k) ≡ Some value)
    by true more = (e.1, refl)
    by false more = more

-- an entry of a list that has its key once stands there
pub in_under : {A : Type 0} (es : List (List ℕ × A)) (e : List ℕ × A) → Ascends es → In e es → under es e.0 ≡ Some e.1
in_under [] e up i = absurd i
in_under {A} (d ∷ es) e up (inl same) = ap (λ (x : List ℕ × A). cond (same_key e.0 x.0) (Some x.1) (under es e.0)) same ∙ ap (λ b. cond b (Some e.1) (under es e.0)) (same_self e.0)
in_under (d ∷ es) e up (inr i) = elim (same_or_not e.0 d.0) [
  | inl same ↦ absurd (none (sym (below-none d.0 es up.0) ∙ ap (under es) (sym same) ∙ in_under es e up.1 i))
  | inr apart ↦ ap (λ b. cond b (Some d.1) (under es e.0)) apart ∙ in_under es e up.1 i
]
  where
    none : {A : Type 0} {x : A} → None ≡ Some x → ⊥
    none h = cc

-- what stands under a key is an entry of the list
pub under_in : {A : Type 0} (es : List (List ℕ × A)) (k : List ℕ) (w : A) → under es k ≡ Some w → In (k, w) es
under_in [] k w h = cc
under_in (e ∷ es) k w h = by (same_key k e.0) refl (under_in es k w) h
  where
    by : (b : Bool) → same_key k e.0 ≡ b → (under es k ≡ Some w → In (k, w) es) → cond b (Some e.1) (under es k) ≡ Some w → In (k, w) (e ∷ es)
    by true is more g = let row : e.1 ≡ w = cc in let at : e.0 ≡ k = sym (key_is k e.0 is) in inl (λ i. (at i, row i))
    by false is more g = inr (more g)
