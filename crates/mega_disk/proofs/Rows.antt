-- Rows in order of key, with one more in its place.
use Rattle.std.proofs.Common.{◌≡◌, ◌⊎◌, inl, inr, ⊎_elim, ℕ, zero, suc, ◌+◌, ◌<◌, ◌≤◌, List, [], ◌∷◌, ◌++◌, length, get_or, take, drop, refl, sym, ◌∙◌, ap, subst, arith}
use Rattle.std.proofs.lemmas.Cmp.{nat_list_cmp_total}
use Rattle.std.proofs.lemmas.List.{drop_more, drop_all}
use Rattle.std.proofs.lemmas.Map.Lookups.{exact_bytes}
use Rattle.std.specs.Cmp.Lexicographic.{slice_cmp}
use Rattle.std.specs.Ordering.{nat_cmp, ordering_reverse}
use Rattle.std.specs.declared.cmp.Ordering.TheVariants.{Less, Equal, Greater}
use Rattle.mega_base.specs.declared.values.Row.{Row}
use Rattle.mega_disk.specs.VersionMaps.{HasRow, HasAscendingKeys}
use Rattle.mega_disk.specs.MemVersions.{HasKey, IsPlaceFor, AddsRow}

abbrev Pairs : Type 0
Pairs = List (List ℕ × Row)

turned : (a b : List ℕ) → slice_cmp nat_cmp a b ≡ Greater → slice_cmp nat_cmp b a ≡ Less
turned a b is = nat_list_cmp_total.antisymm b a ∙ ap ordering_reverse is

abbrev put_at : Pairs → ℕ → List ℕ × Row → Pairs
put_at rows place one = take place rows ++ one ∷ drop place rows

ordered : (rows : Pairs) (key : List ℕ) (row : Row) (place : ℕ) → IsPlaceFor rows key place → HasAscendingKeys rows → HasAscendingKeys (put_at rows place (key, row))
ordered [] key row zero is asc = tt
ordered [] key row (suc place) is asc = absurd (omega arith)
ordered (one ∷ more) key row zero is asc = (turned one.0 key is, asc)
ordered (one ∷ []) key row (suc zero) is asc = (is.0, tt)
ordered (one ∷ []) key row (suc (suc place)) is asc = let none = is.1 in absurd (omega arith)
ordered (one ∷ two ∷ more) key row (suc zero) is asc = (is.0, (turned two.0 key is.1, asc.1))
ordered (one ∷ two ∷ more) key row (suc (suc place)) is asc = (asc.0, ordered (two ∷ more) key row (suc place) is.1 asc.1)

new_rows : (rows : Pairs) (place : ℕ) (x : List ℕ × Row) (k : List ℕ) (r : Row) → HasRow (put_at rows place x) k r → HasRow rows k r ⊎ ((k ≡ x.0) × (r ≡ x.1))
new_rows [] zero x k r (inl here) = inr (sym here.0, sym here.1)
new_rows [] zero x k r (inr none) = absurd none
new_rows [] (suc place) x k r (inl here) = inr (sym here.0, sym here.1)
new_rows [] (suc place) x k r (inr none) = absurd none
new_rows (one ∷ more) zero x k r (inl here) = inr (sym here.0, sym here.1)
new_rows (one ∷ more) zero x k r (inr there) = inl there
new_rows (one ∷ more) (suc place) x k r (inl here) = inl (inl here)
new_rows (one ∷ more) (suc place) x k r (inr there) = ⊎_elim (λ old. inl (inr old)) (λ it. inr it) (new_rows more place x k r there)

old_rows : (rows : Pairs) (place : ℕ) (x : List ℕ × Row) (k : List ℕ) (r : Row) → HasRow rows k r → HasRow (put_at rows place x) k r
old_rows [] place x k r none = absurd none
old_rows (one ∷ more) zero x k r has = inr has
old_rows (one ∷ more) (suc place) x k r (inl here) = inl here
old_rows (one ∷ more) (suc place) x k r (inr there) = inr (old_rows more place x k r there)

its_row : (rows : Pairs) (place : ℕ) (x : List ℕ × Row) → HasRow (put_at rows place x) x.0 x.1
its_row [] zero x = inl (refl, refl)
its_row [] (suc place) x = inl (refl, refl)
its_row (one ∷ more) zero x = inl (refl, refl)
its_row (one ∷ more) (suc place) x = inr (its_row more place x)

pub adds : (rows others : Pairs) (key : List ℕ) (row : Row) (place : ℕ) → IsPlaceFor rows key place → others ≡ put_at rows place (key, row) → AddsRow rows key row others
adds rows others key row place is put = subst (λ (l : Pairs). AddsRow rows key row l) (sym put) (record {
  ordered = ordered rows key row place is;
  nothing_else = λ k r has. new_rows rows place (key, row) k r has;
  kept = λ k r has. old_rows rows place (key, row) k r has;
  has = (row, its_row rows place (key, row));
})

-- the rows so far have smaller keys
abbrev pub AreBelow : Pairs → List ℕ → ℕ → Type 0
AreBelow rows key i = (m : ℕ) → IsPlaceFor (drop i rows) key m → IsPlaceFor rows key (i + m)

pub below_more : (rows : Pairs) (key : List ℕ) (i : ℕ) (one : List ℕ × Row) → i < length rows → one ≡ get_or rows i one → slice_cmp nat_cmp one.0 key ≡ Less → AreBelow rows key i → AreBelow rows key (i + 1)
below_more rows key i one lt item less below m is =
    let front : one ∷ drop (i + 1) rows ≡ drop i rows = ap (λ (x : List ℕ × Row). x ∷ drop (i + 1) rows) item ∙ sym (drop_more rows i one lt) in
    subst (IsPlaceFor rows key) (let e : i + suc m ≡ i + 1 + m = omega arith in e) (below (suc m) (subst (λ (l : Pairs). IsPlaceFor l key (suc m)) front (less, is)))

pub place_here : (rows : Pairs) (key : List ℕ) (i : ℕ) (one : List ℕ × Row) → i < length rows → one ≡ get_or rows i one → slice_cmp nat_cmp one.0 key ≡ Greater → AreBelow rows key i → IsPlaceFor rows key i
place_here rows key i one lt item greater below =
    let front : one ∷ drop (i + 1) rows ≡ drop i rows = ap (λ (x : List ℕ × Row). x ∷ drop (i + 1) rows) item ∙ sym (drop_more rows i one lt) in
    subst (IsPlaceFor rows key) (let e : i + 0 ≡ i = omega arith in e) (below 0 (subst (λ (l : Pairs). IsPlaceFor l key 0) front greater))

pub place_last : (rows : Pairs) (key : List ℕ) (i : ℕ) → length rows ≤ i → i ≤ length rows → AreBelow rows key i → IsPlaceFor rows key (length rows)
place_last rows key i done within below =
    subst (IsPlaceFor rows key) (let e : i + 0 ≡ length rows = omega arith in e) (below 0 (subst (λ (l : Pairs). IsPlaceFor l key 0) (sym (drop_all i rows done)) refl))

has_at : (rows : Pairs) (i : ℕ) (one : List ℕ × Row) → i < length rows → one ≡ get_or rows i one → HasRow rows one.0 one.1
has_at [] i one lt item = absurd (omega arith)
has_at (first ∷ rows) zero one lt item = inl (ap (λ (x : List ℕ × Row). x.0) (sym item), ap (λ (x : List ℕ × Row). x.1) (sym item))
has_at (first ∷ rows) (suc i) one lt item = inr (has_at rows i one (omega arith) item)

pub key_there : (rows : Pairs) (key : List ℕ) (i : ℕ) (one : List ℕ × Row) → i < length rows → one ≡ get_or rows i one → slice_cmp nat_cmp one.0 key ≡ Equal → HasKey rows key
key_there rows key i one lt item equal = (one.1, subst (λ (k : List ℕ). HasRow rows k one.1) (exact_bytes one.0 key equal) (has_at rows i one lt item))
