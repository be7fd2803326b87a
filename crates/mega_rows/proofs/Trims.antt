-- Versions of one key that are let go.
use Rattle.std.proofs.Common.{◌≡◌, ℕ, zero, suc, ◌<◌, ◌≤◌, ◌==◌, List, [], ◌∷◌, Bool, true, false, cond, refl, sym, ap, subst, ◌∙◌, arith}
use Rattle.std.specs.Prelude.{Option, Some, None, is_some, nat_lt, filter}
use Rattle.std.specs.Ordering.{nat_cmp, is_eq, is_le}
use Rattle.std.specs.Map.{lookup}
use Rattle.std.specs.BTreeMap.{get, is_at}
use Rattle.std.proofs.lemmas.Bool.Decides.{nat_tests}
use Rattle.mega_base.specs.declared.values.Row.{Row}
use Rattle.mega_disk.specs.VersionMaps.{or_else, version_at}
use Rattle.mega_rows.specs.Lines.{Line}
use Rattle.mega_rows.specs.Trims.{HasNone, IsFloor, floor, trimmed}

abbrev pub OneKey : Type 0
OneKey = ℕ → Option (Option Row)

-- ---- the greatest position
none_is : (o : Option (Option Row)) → o ≡ None → is_some o ≡ false
none_is o e = ap is_some e

pub floor_none : (f : OneKey) (at : ℕ) → HasNone f at → floor f at ≡ 0
floor_none f zero none = refl
floor_none f (suc p) none = ap (λ test. cond test (suc p) (floor f p)) (none_is (f (suc p)) (none (suc p) (omega arith))) ∙ floor_none f p (λ q le. none q (omega arith))

pub floor_is : (f : OneKey) (at p : ℕ) → IsFloor f at p → floor f at ≡ p
floor_is f zero p is = let le = is.within in omega arith
floor_is f (suc k) p is = go (p == suc k) refl (λ below. floor_is f k p (record { within = below; stands = is.stands; none_later = λ q more less. is.none_later q more (omega arith) }))
  where
    go : (test : Bool) → (p == suc k) ≡ test → (p ≤ k → floor f k ≡ p) → cond (is_some (f (suc k))) (suc k) (floor f k) ≡ p
    go true t rest = let same : p ≡ suc k = grind (arith, nat_tests) in ap (λ test. cond test (suc k) (floor f k)) (subst (λ q. is_some (f q) ≡ true) same is.stands) ∙ sym same
    go false t rest =
        let le = is.within in
        let below : p ≤ k = grind (arith, nat_tests) in
        ap (λ test. cond test (suc k) (floor f k)) (none_is (f (suc k)) (is.none_later (suc k) (omega arith) (omega arith))) ∙ rest below

floor_same : (f g : OneKey) (at : ℕ) → ((q : ℕ) → f q ≡ g q) → floor f at ≡ floor g at
floor_same f g zero same = refl
floor_same f g (suc p) same = ap (λ o. cond (is_some o) (suc p) (floor f p)) (same (suc p)) ∙ ap (λ n. cond (is_some (g (suc p))) (suc p) n) (floor_same f g p same)

pub floor_bound : (f : OneKey) (at : ℕ) → floor f at ≤ at
floor_bound f zero = omega arith
floor_bound f (suc p) = go (is_some (f (suc p))) (floor_bound f p)
  where
    go : (test : Bool) → floor f p ≤ p → cond test (suc p) (floor f p) ≤ suc p
    go true h = omega arith
    go false h = omega arith

-- ---- trimmed versions
pub version_same : (f g : OneKey) (p : ℕ) → ((q : ℕ) → f q ≡ g q) → version_at f p ≡ version_at g p
unfolding version_at
version_same f g zero same = same 0
version_same f g (suc p) same = ap (λ v. or_else v (version_at f p)) (same (suc p)) ∙ ap (λ w. or_else (g (suc p)) w) (version_same f g p same)

not_below : (p least : ℕ) → least ≤ p → nat_lt p least ≡ false
not_below p least le = grind (arith, nat_tests)

pub trimmed_same : (below : ℕ) (f g : OneKey) → ((q : ℕ) → f q ≡ g q) → (p : ℕ) → trimmed below f p ≡ trimmed below g p
trimmed_same below f g same p = ap (λ n. cond (nat_lt p n) None (f p)) (floor_same f g below same) ∙ ap (λ o. cond (nat_lt p (floor g below)) None o) (same p)

pub trimmed_kept : (below : ℕ) (f : OneKey) (p : ℕ) → floor f below ≤ p → trimmed below f p ≡ f p
trimmed_kept below f p le = ap (λ test. cond test None (f p)) (not_below p (floor f below) le)

pub trimmed_none : (below : ℕ) (f : OneKey) → HasNone f below → (p : ℕ) → trimmed below f p ≡ f p
trimmed_none below f none p = trimmed_kept below f p (subst (λ n. n ≤ p) (sym (floor_none f below none)) (omega arith))

-- above the greatest position none stands, and at it one does
not_some : (o : Option (Option Row)) → is_some o ≡ false → o ≡ None
not_some None h = refl
not_some (Some v) h = cc

floor_later : (f : OneKey) (at q : ℕ) → floor f at < q → q ≤ at → f q ≡ None
floor_later f zero q more le = absurd (omega arith)
floor_later f (suc p) q more le = go (is_some (f (suc p))) refl more (λ later. floor_later f p q later)
  where
    go : (test : Bool) → is_some (f (suc p)) ≡ test → cond test (suc p) (floor f p) < q → (floor f p < q → q ≤ p → f q ≡ None) → f q ≡ None
    go true t more rest = absurd (omega arith)
    go false t more rest = at_top (q == suc p) refl
      where
        at_top : (same : Bool) → (q == suc p) ≡ same → f q ≡ None
        at_top true s = let is : suc p ≡ q = grind (arith, nat_tests) in subst (λ k. f k ≡ None) is (not_some (f (suc p)) t)
        at_top false s = let below : q ≤ p = grind (arith, nat_tests) in rest more below

floor_stands : (f : OneKey) (at : ℕ) → 0 < floor f at → is_some (f (floor f at)) ≡ true
floor_stands f zero more = absurd (omega arith)
floor_stands f (suc p) more = go (is_some (f (suc p))) refl more (floor_stands f p)
  where
    go : (test : Bool) → is_some (f (suc p)) ≡ test → 0 < cond test (suc p) (floor f p) → (0 < floor f p → is_some (f (floor f p)) ≡ true) → is_some (f (cond test (suc p) (floor f p))) ≡ true
    go true t more rest = t
    go false t more rest = rest more

twice : (test : Bool) (o : Option (Option Row)) → cond test None (cond test None o) ≡ cond test None o
twice true o = refl
twice false o = refl

-- a trim of what a trim leaves changes nothing
pub trimmed_twice : (below : ℕ) (f : OneKey) (p : ℕ) → trimmed below (trimmed below f) p ≡ trimmed below f p
trimmed_twice below f p = go (floor f below) refl
  where
    go : (n : ℕ) → floor f below ≡ n → trimmed below (trimmed below f) p ≡ trimmed below f p
    go zero e = trimmed_same below (trimmed below f) f (λ q. trimmed_kept below f q (subst (λ n. n ≤ q) (sym e) (omega arith))) p
    go (suc n) e = ap (λ m. cond (nat_lt p m) None (trimmed below f p)) again ∙ twice (nat_lt p (floor f below)) (f p)
      where
        more : 0 < floor f below
        more = omega (arith, e)

        again : floor (trimmed below f) below ≡ floor f below
        again = floor_is (trimmed below f) below (floor f below) (record {
          within = floor_bound f below;
          stands = ap is_some (trimmed_kept below f (floor f below) (omega arith)) ∙ floor_stands f below more;
          none_later = λ q later le. trimmed_kept below f q (omega arith) ∙ floor_later f below q later le;
        })

pub trimmed_no_more : (below : ℕ) (f : OneKey) (p : ℕ) (row : Option Row) → trimmed below f p ≡ Some row → f p ≡ Some row
trimmed_no_more below f p row h = go (nat_lt p (floor f below)) h
  where
    go : (test : Bool) → cond test None (f p) ≡ Some row → f p ≡ Some row
    go true h = cc
    go false h = h

-- a read that sees something sees the version at the greatest position
cut_reads : (least : ℕ) (f : OneKey) (v : Option Row) → f least ≡ Some v → (p : ℕ) → least ≤ p → version_at (λ q. cond (nat_lt q least) None (f q)) p ≡ version_at f p
unfolding version_at
cut_reads least f v here zero le = ap (λ test. cond test None (f 0)) (not_below 0 least le)
cut_reads least f v here (suc p) le = go (least == suc p) refl (λ below. cut_reads least f v here p below)
  where
    kept : (p : ℕ) → least ≤ p → cond (nat_lt p least) None (f p) ≡ f p
    kept p le = ap (λ test. cond test None (f p)) (not_below p least le)

    go : (test : Bool) → (least == suc p) ≡ test → (least ≤ p → version_at (λ q. cond (nat_lt q least) None (f q)) p ≡ version_at f p) → or_else (cond (nat_lt (suc p) least) None (f (suc p))) (version_at (λ q. cond (nat_lt q least) None (f q)) p) ≡ or_else (f (suc p)) (version_at f p)
    go true t rest =
        let same : least ≡ suc p = grind (arith, nat_tests) in
        let top : f (suc p) ≡ Some v = subst (λ k. f k ≡ Some v) same here in
        ap (λ w. or_else w (version_at (λ q. cond (nat_lt q least) None (f q)) p)) (kept (suc p) le ∙ top) ∙ ap (λ w. or_else w (version_at f p)) (sym top)
    go false t rest =
        let below : least ≤ p = grind (arith, nat_tests) in
        ap (λ w. or_else w (version_at (λ q. cond (nat_lt q least) None (f q)) p)) (kept (suc p) le) ∙ ap (λ w. or_else (f (suc p)) w) (rest below)

-- a read at or above the position sees what it saw
pub trimmed_reads : (below : ℕ) (f : OneKey) (p : ℕ) → below ≤ p → version_at (trimmed below f) p ≡ version_at f p
trimmed_reads below f p le = go (floor f below) refl
  where
    there : (o : Option (Option Row)) → is_some o ≡ true → (v : Option Row) × (o ≡ Some v)
    there None h = cc
    there (Some v) h = (v, refl)

    go : (n : ℕ) → floor f below ≡ n → version_at (trimmed below f) p ≡ version_at f p
    go zero e = version_same (trimmed below f) f p (λ q. trimmed_kept below f q (subst (λ n. n ≤ q) (sym e) (omega arith)))
    go (suc n) e =
        let stands = there (f (floor f below)) (floor_stands f below (omega arith)) in
        let bound = floor_bound f below in
        cut_reads (floor f below) f stands.0 stands.1 p (omega arith)

-- ---- the versions from a position on, in a map
abbrev none_here : Option (Option Row)
none_here = None

none_both : (test : Bool) → none_here ≡ cond test none_here none_here
none_both true = refl
none_both false = refl

lookup_cut : (es : List (ℕ × Option Row)) (least p : ℕ) → lookup (is_at (nat_cmp p)) (filter (λ (e : ℕ × Option Row). is_le (nat_cmp least e.0)) es) ≡ cond (nat_lt p least) None (lookup (is_at (nat_cmp p)) es)
lookup_cut [] least p = none_both (nat_lt p least)
lookup_cut (e ∷ es) least p = go (is_le (nat_cmp least e.0)) (is_eq (nat_cmp p e.0)) refl refl (lookup_cut es least p)
  where
    rest : List (ℕ × Option Row)
    rest = filter (λ (e : ℕ × Option Row). is_le (nat_cmp least e.0)) es

    low : is_le (nat_cmp least e.0) ≡ true → is_eq (nat_cmp p e.0) ≡ true → nat_lt p least ≡ false
    low s h = grind (arith, nat_tests)

    high : is_le (nat_cmp least e.0) ≡ false → is_eq (nat_cmp p e.0) ≡ true → nat_lt p least ≡ true
    high s h = grind (arith, nat_tests)

    go : (stays here : Bool) → is_le (nat_cmp least e.0) ≡ stays → is_eq (nat_cmp p e.0) ≡ here
        → lookup (is_at (nat_cmp p)) rest ≡ cond (nat_lt p least) None (lookup (is_at (nat_cmp p)) es)
        → lookup (is_at (nat_cmp p)) (cond stays (e ∷ rest) rest) ≡ cond (nat_lt p least) None (cond here (Some e.1) (lookup (is_at (nat_cmp p)) es))
    go true true s h ih = ap (λ b. cond b (Some e.1) (lookup (is_at (nat_cmp p)) rest)) h ∙ sym (ap (λ test. cond test None (Some e.1)) (low s h))
    go true false s h ih = ap (λ b. cond b (Some e.1) (lookup (is_at (nat_cmp p)) rest)) h ∙ ih
    go false true s h ih = ih ∙ (ap (λ test. cond test None (lookup (is_at (nat_cmp p)) es)) (high s h) ∙ sym (ap (λ test. cond test None (Some e.1)) (high s h)))
    go false false s h ih = ih

pub cut_is : (line kept : Line) (least below : ℕ) → IsFloor (get nat_cmp line) below least → kept.entries ≡ filter (λ (e : ℕ × Option Row). is_le (nat_cmp least e.0)) line.entries → (p : ℕ) → get nat_cmp kept p ≡ trimmed below (get nat_cmp line) p
cut_is line kept least below is from p =
    ap (λ es. lookup (is_at (nat_cmp p)) es) from ∙ (lookup_cut line.entries least p ∙ ap (λ n. cond (nat_lt p n) None (get nat_cmp line p)) (sym (floor_is (get nat_cmp line) below least is)))
