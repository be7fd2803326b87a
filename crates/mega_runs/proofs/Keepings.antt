-- Versions in memory over those of runs.
use Rattle.std.proofs.Common.{◌≡◌, ◌⊎◌, ⊎_elim, inl, inr, ℕ, zero, suc, ◌<◌, ◌≤◌, ◌^◌, List, [], ◌∷◌, Bool, true, false, cond, refl, sym, ◌∙◌, ap, subst, arith}
use Rattle.std.specs.Prelude.{◌&&◌, nat_eq, ◌==◌, Option, Some, None, All}
use Rattle.std.proofs.lemmas.Bool.Decides.{nat_tests}
use Rattle.std.proofs.lemmas.List.Elements.{All-head, All-tail}
use Rattle.std.specs.List.{AllByRecursion}
use Rattle.std.specs.Cmp.Lexicographic.{pointwise}
use Rattle.std.specs.declared.cmp.Ordering.{Ordering}
use Rattle.std.specs.declared.cmp.Ordering.TheVariants.{Less, Equal, Greater}
use Rattle.mega_base.specs.declared.values.Row.{Row}
use Rattle.mega_base.specs.declared.names.Position.{Position}
use Rattle.mega_disk.specs.Images.{Within}
use Rattle.mega_disk.specs.VersionMaps.{Marks, Cleaned, Puts, IsLatest, or_else, version_at, row_of, row_at}
use Rattle.mega_runs.specs.declared.body.Version.{Version}
use Rattle.mega_runs.specs.declared.body.Run.{Run}
use Rattle.mega_runs.specs.Bodies.{spot_of, spot_cmp, IsVersion}
use Rattle.mega_runs.specs.Fronts.{kept, kept_with, front_of, HoldsOr}
use Rattle.mega_runs.specs.Index.{IsOrderly}
use Rattle.mega_runs.specs.Merging.{put_by, with_version}
use Rattle.mega_runs.specs.Reads.{is_version, versions_in, layered, held_in}
use Rattle.mega_runs.specs.Stores.{IsSpillOf, SpilledOr, IsBounded}
use Rattle.mega_runs.proofs.Fronting.{held_orderly}
use Rattle.mega_runs.proofs.Mixing.{with_version_is, spot_there, spot_here}
use Rattle.mega_runs.proofs.Readable.{spill_stored}

-- ---- a version is put
pub put_puts : (key : List ℕ) (at : Position) (row : Option Row) (vs : List Version) (lists : List (List Version)) → Puts key at.0 row (layered (vs ∷ lists)) (layered (with_version (record { key = key; at = at; row = row }) vs ∷ lists))
put_puts key at row vs lists = record { here = here; elsewhere = elsewhere }
  where
    v : Version
    v = record { key = key; at = at; row = row }

    here : layered (with_version v vs ∷ lists) key at.0 ≡ Some row
    here =
        ap (λ (r : Option (Option Row)). or_else r (layered lists key at.0)) (with_version_is v vs key at.0 ∙ ap (λ (b : Bool). cond b (Some row) (versions_in vs key at.0)) (spot_here key at.0))

    elsewhere : (other : List ℕ) (p : ℕ) → (other ≡ key → p ≡ at.0 → ⊥) → layered (with_version v vs ∷ lists) other p ≡ layered (vs ∷ lists) other p
    elsewhere other p apart = ap (λ (r : Option (Option Row)). or_else r (layered lists other p)) (with_version_is v vs other p ∙ go (is_version other p v) refl)
      where
        go : (b : Bool) → is_version other p v ≡ b → cond b (Some row) (versions_in vs other p) ≡ versions_in vs other p
        go false e = refl
        go true e = (let same = spot_there other p (spot_of v) e in absurd (apart (sym (ap (λ (s : List ℕ × ℕ). s.0) same)) (sym (ap (λ (s : List ℕ × ℕ). s.1) same))))

pub with_all : (P : Version → Type 0) (v : Version) (vs : List Version) → P v → AllByRecursion P vs → AllByRecursion P (with_version v vs)
with_all P v [] p all = (p, tt)
with_all P v (w ∷ ws) p all = go (with_all P v ws p all.1) (spot_cmp (spot_of v) (spot_of w))
  where
    go : AllByRecursion P (with_version v ws) → (o : Ordering) → AllByRecursion P (put_by o v w ws (with_version v ws))
    go more Less = (p, all)
    go more Equal = (p, all.1)
    go more Greater = (all.0, more)

-- ---- the latest version
pub latest_is : (f : ℕ → Option (Option Row)) (m : ℕ) → ((q : ℕ) → m < q → f q ≡ None) → IsLatest f (row_of (version_at f m))
unfolding version_at
latest_is f zero none = go (f 0) refl
  where
    go : (v : Option (Option Row)) → f 0 ≡ v → IsLatest f (row_of v)
    go (Some row) e = inr (0, e, none)
    go None e = inl (all, refl)
      where
        all : (p : ℕ) → f p ≡ None
        all zero = e
        all (suc p) = none (suc p) (omega arith)
latest_is f (suc m) none = go (f (suc m)) refl (λ e. latest_is f m (below e))
  where
    below : f (suc m) ≡ None → (q : ℕ) → m < q → f q ≡ None
    below e q lt = by (q == suc m) refl
      where
        by : (b : Bool) → (q == suc m) ≡ b → f q ≡ None
        by true is = (let same : q ≡ suc m = grind (arith, nat_tests) in ap f same ∙ e)
        by false is = none q (grind (arith, nat_tests))

    go : (v : Option (Option Row)) → f (suc m) ≡ v → (f (suc m) ≡ None → IsLatest f (row_of (version_at f m))) → IsLatest f (row_of (or_else v (version_at f m)))
    go (Some row) e rest = inr (suc m, e, none)
    go None e rest = rest e

none_above : (vs : List Version) (key : List ℕ) (q : ℕ) → AllByRecursion IsBounded vs → 2 ^ 64 ≤ q → versions_in vs key q ≡ None
none_above [] key q all high = refl
none_above (v ∷ vs) key q all high = go (pointwise nat_eq v.key key) (none_above vs key q all.1 high)
  where
    other : (v.at.0 == q) ≡ false
    other = (let low : v.at.0 < 2 ^ 64 = all.0 in grind (arith, nat_tests))

    go : (b : Bool) → versions_in vs key q ≡ None → cond (b && (v.at.0 == q)) (Some v.row) (versions_in vs key q) ≡ None
    go true rest = ap (λ (t : Bool). cond t (Some v.row) (versions_in vs key q)) other ∙ rest
    go false rest = rest

orderly_bounded : (vs : List Version) → All IsVersion vs → AllByRecursion IsBounded vs
orderly_bounded [] all = tt
orderly_bounded (v ∷ vs) all = ((let fits = All-head IsVersion v vs all in omega (arith, fits.1.1)), orderly_bounded vs (All-tail IsVersion v vs all))

none_above_lists : (lists : List (List Version)) (key : List ℕ) (q : ℕ) → AllByRecursion IsOrderly lists → 2 ^ 64 ≤ q → layered lists key q ≡ None
none_above_lists [] key q all high = refl
none_above_lists (vs ∷ lists) key q all high =
    ap (λ (r : Option (Option Row)). or_else r (layered lists key q)) (none_above vs key q (orderly_bounded vs all.0.fits) high) ∙ none_above_lists lists key q all.1 high

pub kept_orderly : (told : Bool) (file : List ℕ) (end : ℕ) → AllByRecursion IsOrderly (kept told file end)
kept_orderly true file end = held_orderly (front_of file end)
kept_orderly false file end = tt

pub latest_among : (vs : List Version) (lists : List (List Version)) (key : List ℕ) (row : Option Row) → AllByRecursion IsBounded vs → AllByRecursion IsOrderly lists → row ≡ row_at (layered (vs ∷ lists)) key 18446744073709551615 → IsLatest (layered (vs ∷ lists) key) row
latest_among vs lists key row bounded orderly is =
    subst (IsLatest (layered (vs ∷ lists) key)) (sym is)
    (latest_is (layered (vs ∷ lists) key) 18446744073709551615 (λ q lt. ap (λ (r : Option (Option Row)). or_else r (layered lists key q)) (none_above vs key q bounded (omega arith)) ∙ none_above_lists lists key q orderly (omega arith)))

-- ---- a spill
pub spilled_or : (marks : Marks) (cs : List Cleaned) (recent : List Version) (lists : List (List Version)) (run : Run) (images : List ℕ → Type 0) (file : List ℕ) → IsSpillOf marks cs recent lists run → HoldsOr images (kept_with run lists) file
    → SpilledOr images marks cs (layered (recent ∷ lists)) file
spilled_or marks cs recent lists run images file spill holds = ⊎_elim inl (λ new. inr (spill_stored marks cs recent lists run (held_in file) spill new)) holds

-- the same over what was only read before
pub spilled_later : (marks : Marks) (cs : List Cleaned) (recent : List Version) (lists later : List (List Version)) (run : Run) (images others : List ℕ → Type 0) (file : List ℕ) → IsSpillOf marks cs recent lists run → later ≡ lists → Within images others → HoldsOr others (kept_with run later) file
    → SpilledOr images marks cs (layered (recent ∷ lists)) file
spilled_later marks cs recent lists later run images others file spill same within holds =
    spilled_or marks cs recent lists run images file spill (⊎_elim (λ old. inl (old.0, within old.0 old.1, old.2)) (λ new. inr (new ∙ ap (kept_with run) same)) holds)
