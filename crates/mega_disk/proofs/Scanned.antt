-- The rows of a range, as a list of versions is gone through.
use Rattle.std.proofs.Common.{◌≡◌, ◌⊎◌, inl, inr, ⊎_elim, ℕ, zero, suc, ◌+◌, ◌<◌, ◌≤◌, List, [], ◌∷◌, ◌++◌, length, get_or, take, refl, sym, ◌∙◌, ap, subst, Bool, true, false, cond}
use Rattle.std.specs.Prelude.{Option, Some, None, ◌==◌, ◌&&◌, nat_eq}
use Rattle.std.specs.Cmp.{Equal-is}
use Rattle.std.specs.Cmp.Lexicographic.{pointwise, slice_cmp, texts_ties}
use Rattle.std.specs.Ordering.{nat_cmp}
use Rattle.std.proofs.lemmas.List.{take_more, take_all}
use Rattle.std.proofs.lemmas.Map.Lookups.{exact_bytes}
use Rattle.mega_base.specs.declared.values.Row.{Row}
use Rattle.mega_disk.specs.declared.mem_versions.Version.{Version}
use Rattle.mega_disk.specs.VersionMaps.{Versions, or_else, version_at, row_of, row_at, IsWithin, HasRow, HasAscendingKeys, IsScan}
use Rattle.mega_disk.specs.MemVersions.{version_in, AddsVisible}

abbrev Pairs : Type 0
Pairs = List (List ℕ × Row)

-- one of the versions has this key
abbrev pub Occurs : List Version → List ℕ → Type 0
Occurs [] key = ⊥
Occurs (version ∷ versions) key = (version.key ≡ key) ⊎ Occurs versions key

-- the rows of the range under the keys of these versions
pub record Scanned (f : Versions) (from to : List ℕ) (p : ℕ) (seen : List Version) (rows : Pairs) : Type 0 where
  pub ordered : HasAscendingKeys rows
  pub each : (k : List ℕ) (r : Row) → HasRow rows k r → IsWithin from to k × (row_at f k p ≡ Some r)
  pub all : (k : List ℕ) (r : Row) → IsWithin from to k → row_at f k p ≡ Some r → Occurs seen k → HasRow rows k r

occurs_push : (seen : List Version) (version : Version) (k : List ℕ) → Occurs (seen ++ version ∷ []) k → Occurs seen k ⊎ (version.key ≡ k)
occurs_push [] version k (inl here) = inr here
occurs_push [] version k (inr none) = absurd none
occurs_push (first ∷ seen) version k (inl here) = inl (inl here)
occurs_push (first ∷ seen) version k (inr there) = ⊎_elim (λ old. inl (inr old)) (λ it. inr it) (occurs_push seen version k there)

same_row : (r s : Row) → Some r ≡ Some s → r ≡ s
same_row r s is = cc

module _ (f : Versions) (from to : List ℕ) (p : ℕ) where
  pub begun : Scanned f from to p [] []
  begun = record { ordered = tt; each = λ k r none. absurd none; all = λ k r within is none. absurd none }

  pub adds_visible : (seen : List Version) (version : Version) (old new : Pairs) → Scanned f from to p seen old → AddsVisible f from to p old version.key new → Scanned f from to p (seen ++ version ∷ []) new
  adds_visible seen version old new so_far adds = record { ordered = adds.ordered so_far.ordered; each = each; all = all }
    where
      each : (k : List ℕ) (r : Row) → HasRow new k r → IsWithin from to k × (row_at f k p ≡ Some r)
      each k r has = ⊎_elim (so_far.each k r) (λ it. it) (adds.nothing_else k r has)

      all : (k : List ℕ) (r : Row) → IsWithin from to k → row_at f k p ≡ Some r → Occurs (seen ++ version ∷ []) k → HasRow new k r
      all k r within is occurs =
          ⊎_elim (λ old_key. adds.kept k r (so_far.all k r within is old_key))
          (λ same.
          let there = adds.has r (subst (IsWithin from to) (sym same) within) (ap (λ (l : List ℕ). row_at f l p) same ∙ is) in
          let has : HasRow new k there.0 = subst (λ (l : List ℕ). HasRow new l there.0) same there.1 in
          let same_one : there.0 ≡ r = same_row there.0 r (sym (each k there.0 has).1 ∙ is) in
          subst (HasRow new k) same_one has)
          (occurs_push seen version k occurs)

  pub turn : (all_versions : List Version) (i : ℕ) (version : Version) (old new : Pairs) → i < length all_versions → version ≡ get_or all_versions i version → Scanned f from to p (take i all_versions) old → AddsVisible f from to p old version.key new
      → Scanned f from to p (take (i + 1) all_versions) new
  turn all_versions i version old new lt item so_far adds =
      subst (λ (l : List Version). Scanned f from to p l new) (ap (λ (v : Version). take i all_versions ++ v ∷ []) item ∙ sym (take_more all_versions i version lt)) (adds_visible (take i all_versions) version old new so_far adds)

keys_same : (a b : List ℕ) → pointwise nat_eq a b ≡ true → a ≡ b
keys_same a b is = exact_bytes a b ((Equal-is (slice_cmp nat_cmp a b)).0 (sym (texts_ties a b) ∙ is))

-- a key stands among the versions, or has none
occurs_or_not : (versions : List Version) (k : List ℕ) → Occurs versions k ⊎ ((q : ℕ) → version_in versions k q ≡ None)
occurs_or_not [] k = inr (λ q. refl)
occurs_or_not (version ∷ versions) k = either (pointwise nat_eq version.key k) refl (occurs_or_not versions k)
  where
    either : (b : Bool) → pointwise nat_eq version.key k ≡ b → Occurs versions k ⊎ ((q : ℕ) → version_in versions k q ≡ None) → Occurs (version ∷ versions) k ⊎ ((q : ℕ) → version_in (version ∷ versions) k q ≡ None)
    either true is rest = inl (inl (keys_same version.key k is))
    either false is (inl occurs) = inl (inr occurs)
    either false is (inr none) = inr (λ q. ap (λ (b : Bool). cond (b && (version.at.0 == q)) (Some version.row) (version_in versions k q)) is ∙ none q)

no_version_at : (f : ℕ → Option (Option Row)) (p : ℕ) → ((q : ℕ) → f q ≡ None) → version_at f p ≡ None
unfolding version_at
no_version_at f zero none = none 0
no_version_at f (suc p) none = ap (λ (v : Option (Option Row)). or_else v (version_at f p)) (none (suc p)) ∙ no_version_at f p none

no_row : (r : Row) → None ≡ Some r → ⊥
no_row r is = cc

pub is_scan : (versions : List Version) (i : ℕ) (from to : List ℕ) (p : ℕ) (rows : Pairs) → length versions ≤ i → Scanned (version_in versions) from to p (take i versions) rows → IsScan (version_in versions) from to p rows
is_scan versions i from to p rows done so_far =
    let whole = subst (λ (l : List Version). Scanned (version_in versions) from to p l rows) (take_all i versions done) so_far in
    record {
      ordered = whole.ordered;
      each = whole.each;
      all = λ k r within is.
          ⊎_elim (whole.all k r within is) (λ none. absurd (no_row r (sym (ap row_of (no_version_at (version_in versions k) p none)) ∙ is))) (occurs_or_not versions k);
    }
