-- The best version so far, as a list of versions is gone through.
use Rattle.std.proofs.Common.{◌≡◌, ◌⊎◌, inl, inr, ⊎_elim, ℕ, zero, suc, ◌+◌, ◌<◌, ◌≤◌, List, [], ◌∷◌, ◌++◌, length, get_or, take, Bor, refl, sym, ◌∙◌, ap, subst, arith, Bool, true, false, cond}
use Rattle.std.specs.Prelude.{Option, Some, None, ◌==◌, ◌&&◌, nat_eq, nat_lt, nat_le, if◌then◌else◌}
use Rattle.std.specs.Option.{option_map, option_copied}
use Rattle.std.specs.Cmp.Lexicographic.{pointwise}
use Rattle.std.proofs.lemmas.Bool.{cases_eq}
use Rattle.std.proofs.lemmas.List.{take_more, take_all}
use Rattle.std.proofs.lemmas.Bool.Decides.{nat_tests}
use Rattle.mega_base.specs.declared.values.Row.{Row}
use Rattle.mega_disk.specs.declared.mem_versions.Version.{Version}
use Rattle.mega_disk.specs.VersionMaps.{or_else, row_of, version_at, IsLatest}
use Rattle.mega_disk.specs.MemVersions.{is_version, version_in, beats, counts}

-- this version, or none, is what is seen at the position
abbrev pub IsBest : (ℕ → Option (Option Row)) → ℕ → Option Version → Type 0
IsBest f p None = (q : ℕ) → q ≤ p → f q ≡ None
IsBest f p (Some best) = (best.at.0 ≤ p) × (f best.at.0 ≡ Some best.row) × ((q : ℕ) → best.at.0 < q → q ≤ p → f q ≡ None)

either : (b : Bool) (row : Option Row) (front back last : Option (Option Row)) → front ≡ or_else back last → cond b (Some row) front ≡ or_else (cond b (Some row) back) last
either true row front back last is = refl
either false row front back last is = is

-- one version more at the end
pub version_in-push : (versions : List Version) (version : Version) (key : List ℕ) (q : ℕ) → version_in (versions ++ version ∷ []) key q ≡ or_else (version_in versions key q) (if is_version version key q then Some version.row else None)
version_in-push [] version key q = refl
version_in-push (first ∷ versions) version key q = either (is_version first key q) first.row _ _ _ (version_in-push versions version key q)

here : (f : ℕ → Option (Option Row)) (p at : ℕ) (row : Option Row) → f at ≡ Some row → at ≡ suc p → or_else (f (suc p)) (version_at f p) ≡ Some row
here f p at row there same = ap (λ (v : Option (Option Row)). or_else v (version_at f p)) (ap f (sym same) ∙ there)

-- what is best is what a read sees
pub seen_best : (f : ℕ → Option (Option Row)) (p : ℕ) (best : Option Version) → IsBest f p best → version_at f p ≡ option_map (λ version. version.row) best
unfolding version_at
seen_best f zero None none = none 0 (omega arith)
seen_best f zero (Some best) is = let first : best.at.0 ≡ 0 = (let le = is.0 in omega arith) in ap f (sym first) ∙ is.1
seen_best f (suc p) None none =
    ap (λ (v : Option (Option Row)). or_else v (version_at f p)) (none (suc p) (omega arith)) ∙ seen_best f p None (λ q le. none q (omega arith))
seen_best f (suc p) (Some best) is =
    let again : best.at.0 ≤ p → version_at f p ≡ Some best.row = λ le. seen_best f p (Some best) (le, is.1, λ q lt top. is.2 q lt (omega arith)) in
    ⊎_elim (here f p best.at.0 best.row is.1)
    (λ other. let le : best.at.0 ≤ p = (let top = is.0 in let apart = other in omega arith) in ap (λ (v : Option (Option Row)). or_else v (version_at f p)) (is.2 (suc p) (omega arith) (omega arith)) ∙ again le)
    (cases_eq best.at.0 (suc p))

no_version : (version : Version) (key : List ℕ) (q : ℕ) (front : Option (Option Row)) → front ≡ None → is_version version key q ≡ false → or_else front (if is_version version key q then Some version.row else None) ≡ None
no_version version key q front none other = ap (λ (v : Option (Option Row)). or_else v (if is_version version key q then Some version.row else None)) none ∙ ap (λ (b : Bool). cond b (Some version.row) None) other

both_true : (a b : Bool) → a && b ≡ true → (a ≡ true) × (b ≡ true)
both_true true true is = (refl, refl)
both_true true false is = absurd (cc)
both_true false b is = absurd (cc)

true_both : (a b : Bool) → a ≡ true → b ≡ true → a && b ≡ true
true_both true true x y = refl
true_both true false x y = absurd (cc)
true_both false b x y = absurd (cc)

same_number : (m n : ℕ) → (m == n) ≡ true → m ≡ n
same_number m n test = grind (arith, nat_tests)

number_same : (n : ℕ) → (n == n) ≡ true
number_same n = grind (arith, nat_tests)

le_test : (m n : ℕ) → nat_le m n ≡ true → m ≤ n
le_test m n test = grind (arith, nat_tests)

test_le : (m n : ℕ) → m ≤ n → nat_le m n ≡ true
test_le m n le = grind (arith, nat_tests)

lt_test : (m n : ℕ) → nat_lt m n ≡ true → m < n
lt_test m n test = grind (arith, nat_tests)

test_lt : (m n : ℕ) → m < n → nat_lt m n ≡ true
test_lt m n lt = grind (arith, nat_tests)

decide : (b : Bool) → (b ≡ true → ⊥) → b ≡ false
decide true not_it = absurd (not_it refl)
decide false not_it = refl

-- the version is not at this position, or not of this key, unless it counts
apart : (version : Version) (key : List ℕ) (q : ℕ) → (pointwise nat_eq version.key key ≡ true → version.at.0 ≡ q → ⊥) → is_version version key q ≡ false
apart version key q no_match = decide (is_version version key q) (λ is. let b = both_true (pointwise nat_eq version.key key) (version.at.0 == q) is in no_match b.0 (same_number version.at.0 q b.1))

version_here : (version : Version) (key : List ℕ) (front : Option (Option Row)) → pointwise nat_eq version.key key ≡ true → front ≡ None → or_else front (if is_version version key version.at.0 then Some version.row else None) ≡ Some version.row
version_here version key front same none =
    ap (λ (v : Option (Option Row)). or_else v (if is_version version key version.at.0 then Some version.row else None)) none
    ∙ ap (λ (b : Bool). cond b (Some version.row) None) (true_both (pointwise nat_eq version.key key) (version.at.0 == version.at.0) same (number_same version.at.0))

-- a version that counts is the best from then on
pub taken : (versions : List Version) (version : Version) (key : List ℕ) (p : ℕ) (best : Option Version) → IsBest (version_in versions key) p best → counts version key p best ≡ true → IsBest (version_in (versions ++ version ∷ []) key) p (Some version)
taken versions version key p None none test =
    let t = both_true (pointwise nat_eq version.key key) (nat_le version.at.0 p && true) test in
    let low : version.at.0 ≤ p = le_test version.at.0 p (both_true (nat_le version.at.0 p) true t.1).0 in (
      low,
      version_in-push versions version key version.at.0 ∙ version_here version key (version_in versions key version.at.0) t.0 (none version.at.0 low),
      λ q lt top. version_in-push versions version key q ∙ no_version version key q (version_in versions key q) (none q top) (apart version key q (λ same there. absurd (omega arith))),
    )
taken versions version key p (Some best) is test =
    let t = both_true (pointwise nat_eq version.key key) (nat_le version.at.0 p && nat_lt best.at.0 version.at.0) test in
    let u = both_true (nat_le version.at.0 p) (nat_lt best.at.0 version.at.0) t.1 in
    let low : version.at.0 ≤ p = le_test version.at.0 p u.0 in
    let above : best.at.0 < version.at.0 = lt_test best.at.0 version.at.0 u.1 in (
      low,
      version_in-push versions version key version.at.0 ∙ version_here version key (version_in versions key version.at.0) t.0 (is.2 version.at.0 above low),
      λ q lt top. version_in-push versions version key q ∙ no_version version key q (version_in versions key q) (is.2 q (omega arith) top) (apart version key q (λ same there. absurd (omega arith))),
    )

true_false : (b : Bool) → b ≡ true → b ≡ false → ⊥
true_false b is never = cc

-- one that does not leaves the best
pub left : (versions : List Version) (version : Version) (key : List ℕ) (p : ℕ) (best : Option Version) → IsBest (version_in versions key) p best → counts version key p best ≡ false → IsBest (version_in (versions ++ version ∷ []) key) p best
left versions version key p None none test = λ q top.
    version_in-push versions version key q
    ∙ no_version version key q (version_in versions key q) (none q top) (apart version key q (λ same there. true_false (counts version key p None) (true_both (pointwise nat_eq version.key key) (nat_le version.at.0 p && true) same (true_both (nat_le version.at.0 p) true (test_le version.at.0 p (omega arith)) refl)) test))
left versions version key p (Some best) is test = (
  is.0,
  version_in-push versions version key best.at.0 ∙ ap (λ (v : Option (Option Row)). or_else v (if is_version version key best.at.0 then Some version.row else None)) is.1,
  λ q lt top. version_in-push versions version key q
      ∙ no_version version key q (version_in versions key q) (is.2 q lt top) (apart version key q (λ same there. true_false (counts version key p (Some best)) (true_both (pointwise nat_eq version.key key) (nat_le version.at.0 p && nat_lt best.at.0 version.at.0) same (true_both (nat_le version.at.0 p) (nat_lt best.at.0 version.at.0) (test_le version.at.0 p (omega arith)) (test_lt best.at.0 version.at.0 (omega arith)))) test)),
)

-- one turn
pub goes : (all : List Version) (i : ℕ) (version : Version) (key : List ℕ) (p : ℕ) (old new : Option Version) → i < length all → version ≡ get_or all i version → IsBest (version_in (take i all) key) p old
    → ((counts version key p old ≡ true) × (new ≡ Some version)) ⊎ ((counts version key p old ≡ false) × (new ≡ old)) → IsBest (version_in (take (i + 1) all) key) p new
goes all i version key p old new lt item so_far turn =
    let more : take i all ++ version ∷ [] ≡ take (i + 1) all = ap (λ (v : Version). take i all ++ v ∷ []) item ∙ sym (take_more all i version lt) in
    subst (λ (l : List Version). IsBest (version_in l key) p new) more
    (⊎_elim (λ t. subst (IsBest (version_in (take i all ++ version ∷ []) key) p) (sym t.1) (taken (take i all) version key p old so_far t.0))
    (λ t. subst (IsBest (version_in (take i all ++ version ∷ []) key) p) (sym t.1) (left (take i all) version key p old so_far t.0)) turn)

-- after the last
pub ended : (all : List Version) (i : ℕ) (key : List ℕ) (p : ℕ) (best : Option Version) → length all ≤ i → IsBest (version_in (take i all) key) p best → option_map (λ version. version.row) best ≡ version_at (version_in all key) p
ended all i key p best done is = sym (seen_best (version_in all key) p best (subst (λ (l : List Version). IsBest (version_in l key) p best) (take_all i all done) is))

-- a reference to a version stands for it
pub rows_copied : (best : Option (Bor Version)) → option_map (λ version. version.now.row) best ≡ option_map (λ version. version.row) (option_copied best)
rows_copied None = refl
rows_copied (Some best) = refl

-- this version, or none, is the best at each position from its own on
abbrev pub IsNewest : (ℕ → Option (Option Row)) → Option Version → Type 0
IsNewest f None = (p : ℕ) → f p ≡ None
IsNewest f (Some best) = (p : ℕ) → best.at.0 ≤ p → IsBest f p (Some best)

newest_best : (f : ℕ → Option (Option Row)) (p : ℕ) (best : Option Version) → IsNewest f best → ((version : Version) → best ≡ Some version → version.at.0 ≤ p) → IsBest f p best
newest_best f p None none low = λ q le. none q
newest_best f p (Some best) is low = is p (low best refl)

best_newest : (f : ℕ → Option (Option Row)) (best : Option Version) → ((p : ℕ) → ((version : Version) → best ≡ Some version → version.at.0 ≤ p) → IsBest f p best) → IsNewest f best
best_newest f None all = λ p. all p (λ version none. absurd (cc)) p (omega arith)
best_newest f (Some best) all = λ p le. all p (λ version same. let e : best ≡ version = cc in subst (λ (v : Version). v.at.0 ≤ p) e le)

raised : (version : Version) (key : List ℕ) (p : ℕ) (best : Option Version) → counts version key version.at.0 best ≡ true → version.at.0 ≤ p → counts version key p best ≡ true
raised version key p best test le =
    let t = both_true (pointwise nat_eq version.key key) (nat_le version.at.0 version.at.0 && beats version best) test in
    let u = both_true (nat_le version.at.0 version.at.0) (beats version best) t.1 in
    true_both (pointwise nat_eq version.key key) (nat_le version.at.0 p && beats version best) t.0 (true_both (nat_le version.at.0 p) (beats version best) (test_le version.at.0 p le) u.1)

lowered : (version : Version) (key : List ℕ) (p : ℕ) (best : Option Version) → counts version key version.at.0 best ≡ false → counts version key p best ≡ false
lowered version key p best test = decide (counts version key p best) (λ is.
    let t = both_true (pointwise nat_eq version.key key) (nat_le version.at.0 p && beats version best) is in
    let u = both_true (nat_le version.at.0 p) (beats version best) t.1 in
    true_false (counts version key version.at.0 best) (true_both (pointwise nat_eq version.key key) (nat_le version.at.0 version.at.0 && beats version best) t.0 (true_both (nat_le version.at.0 version.at.0) (beats version best) (test_le version.at.0 version.at.0 (omega arith)) u.1)) test)

above : (version : Version) (key : List ℕ) (best : Option Version) (old : Version) → counts version key version.at.0 best ≡ true → best ≡ Some old → old.at.0 < version.at.0
above version key None old test is = absurd (cc)
above version key (Some best) old test is =
    let t = both_true (pointwise nat_eq version.key key) (nat_le version.at.0 version.at.0 && nat_lt best.at.0 version.at.0) test in
    let u = both_true (nat_le version.at.0 version.at.0) (nat_lt best.at.0 version.at.0) t.1 in
    let e : best ≡ old = cc in
    subst (λ (v : Version). v.at.0 < version.at.0) e (lt_test best.at.0 version.at.0 u.1)

pub goes_newest : (all : List Version) (i : ℕ) (version : Version) (key : List ℕ) (old new : Option Version) → i < length all → version ≡ get_or all i version → IsNewest (version_in (take i all) key) old
    → ((counts version key version.at.0 old ≡ true) × (new ≡ Some version)) ⊎ ((counts version key version.at.0 old ≡ false) × (new ≡ old)) → IsNewest (version_in (take (i + 1) all) key) new
goes_newest all i version key old new lt item so_far (inl t) =
    best_newest (version_in (take (i + 1) all) key) new (λ p low.
    let top : version.at.0 ≤ p = low version t.1 in
    goes all i version key p old new lt item (newest_best (version_in (take i all) key) p old so_far (λ v is. let under = above version key old v t.0 is in omega arith)) (inl (raised version key p old t.0 top, t.1)))
goes_newest all i version key old new lt item so_far (inr t) =
    best_newest (version_in (take (i + 1) all) key) new (λ p low.
    goes all i version key p old new lt item (newest_best (version_in (take i all) key) p old so_far (λ v is. low v (t.1 ∙ is))) (inr (lowered version key p old t.0, t.1)))

latest : (f : ℕ → Option (Option Row)) (best : Option Version) → IsNewest f best → IsLatest f (row_of (option_map (λ version. version.row) best))
latest f None none = inl (none, refl)
latest f (Some best) is = inr (best.at.0, (is best.at.0 (omega arith)).1, λ q lt. (is q (omega arith)).2 q lt (omega arith))

pub ended_newest : (all : List Version) (i : ℕ) (key : List ℕ) (best : Option (Bor Version)) → length all ≤ i → IsNewest (version_in (take i all) key) (option_copied best) → IsLatest (version_in all key) (row_of (option_map (λ version. version.now.row) best))
ended_newest all i key best done is =
    subst (λ (v : Option (Option Row)). IsLatest (version_in all key) (row_of v)) (sym (rows_copied best))
    (latest (version_in all key) (option_copied best) (subst (λ (l : List Version). IsNewest (version_in l key) (option_copied best)) (take_all i all done) is))
