-- What stays of versions in order after cleanings.
use Rattle.std.proofs.Common.{◌≡◌, ℕ, zero, suc, ◌<◌, ◌≤◌, List, [], ◌∷◌, ◌++◌, Bool, true, false, cond, take, drop, slice_set, refl, sym, ◌∙◌, ap, subst, arith}
use Rattle.std.specs.Prelude.{max, nat_eq, nat_le, Option, Some, None, option_map, if◌then◌else◌, map}
use Rattle.std.proofs.lemmas.Bool.Decides.{nat_tests}
use Rattle.std.specs.List.{slice_get}
use Rattle.std.specs.Cmp.Lexicographic.{pointwise}
use Rattle.mega_base.specs.declared.values.Row.{Row}
use Rattle.mega_disk.specs.VersionMaps.{Marks, Cleaned, IsAbove, IsWithin, Drops, IsSpilled, or_else, version_at}
use Rattle.mega_runs.specs.declared.body.Version.{Version}
use Rattle.mega_runs.specs.declared.body.Run.{Run}
use Rattle.mega_runs.specs.declared.cleaning.Cleaning.{Cleaning}
use Rattle.mega_runs.specs.Bodies.{Spot, is_before, spot_of, ascends_from, ascends}
use Rattle.mega_runs.specs.Finding.{Found, later_of, one_found, found_in}
use Rattle.mega_runs.specs.Fronts.{kept_with}
use Rattle.mega_runs.specs.Merging.{merged, all_merged}
use Rattle.mega_runs.specs.Reads.{Held, is_version, versions_in, layered, stored_of, mark_in}
use Rattle.mega_runs.specs.Scanning.{is_within, is_hidden}
use Rattle.mega_runs.specs.Stores.{HasRangeAt, cleaned_of, mark_of_pair, base_run, is_range, with_cleaned, is_void_by, is_void, readable, IsSpillOf}
use Rattle.mega_runs.proofs.Order.{both, before_trans, same_key, ascends_tail, position_before}
use Rattle.mega_runs.proofs.Found.{latest, latest_or, list_latest}
use Rattle.mega_runs.proofs.Mixing.{spot_there, merged_is, all_merged_is}
use Rattle.mega_runs.proofs.Showing.{and_true, within_is, other_key, hidden_adds}

-- ---- one version
hidden_up : (below p : ℕ) (v : Version) (next : Option Version) → below ≤ p → is_hidden below v next ≡ true → is_hidden p v next ≡ true
hidden_up below p v None le e = absurd (cc)
hidden_up below p v (Some next) le e =
    let tests = both (pointwise nat_eq next.key v.key) (nat_le next.at.0 below) e in
    and_true (pointwise nat_eq next.key v.key) (nat_le next.at.0 p) tests.0 (let t : nat_le next.at.0 below ≡ true = tests.1 in grind (arith, nat_tests))

void_hidden : (cs : List Cleaned) (v : Version) (next : Option Version) (p : ℕ) → IsAbove cs v.key p → is_void cs v next ≡ true → is_hidden p v next ≡ true
void_hidden [] v next p above e = absurd (cc)
void_hidden (c ∷ cs) v next p above e = go (void_hidden cs v next p above.1) (is_void_by v next c) refl e
  where
    go : (is_void cs v next ≡ true → is_hidden p v next ≡ true) → (b : Bool) → is_void_by v next c ≡ b → cond b true (is_void cs v next) ≡ true → is_hidden p v next ≡ true
    go rest true is e =
        let tests = both (is_hidden c.below v next) (is_within c.from c.to v.key) is in
        hidden_up c.below p v next (above.0 (within_is c.from c.to v.key tests.1)) tests.0
    go rest false is e = rest e

hidden_below : (p : ℕ) (v : Version) (vs : List Version) → ascends_from v vs ≡ true → is_hidden p v (slice_get vs 0) ≡ true → v.at.0 < p
hidden_below p v [] asc e = absurd (cc)
hidden_below p v (w ∷ ws) asc e =
    let tests = both (pointwise nat_eq w.key v.key) (nat_le w.at.0 p) e in
    let key : w.key ≡ v.key = same_key w.key v.key tests.0 in
    let before : is_before (v.key, v.at.0) (v.key, w.at.0) ≡ true = ap (λ (l : List ℕ). is_before (spot_of v) (l, w.at.0)) (sym key) ∙ (both (is_before (spot_of v) (spot_of w)) (ascends_from w ws) asc).0 in
    let lt : v.at.0 < w.at.0 = position_before v.key v.at.0 w.at.0 before in
    let t : nat_le w.at.0 p ≡ true = tests.1 in
    grind (arith, nat_tests)

-- ---- in order
ascends_skip : (u v : Version) (vs : List Version) → is_before (spot_of u) (spot_of v) ≡ true → ascends_from v vs ≡ true → ascends_from u vs ≡ true
ascends_skip u v [] uv asc = refl
ascends_skip u v (w ∷ ws) uv asc =
    let tests = both (is_before (spot_of v) (spot_of w)) (ascends_from w ws) asc in
    and_true (is_before (spot_of u) (spot_of w)) (ascends_from w ws) (before_trans (spot_of u) (spot_of v) (spot_of w) uv tests.0) tests.1

-- ---- what is found
readable_found : (cs : List Cleaned) (key : List ℕ) (p : ℕ) (vs : List Version) → ascends vs ≡ true → IsAbove cs key p → found_in key p (readable cs vs) ≡ found_in key p vs
readable_found cs key p [] asc above = refl
readable_found cs key p (v ∷ vs) asc above = go (readable_found cs key p vs (ascends_tail v vs asc) above) (is_void cs v (slice_get vs 0)) refl
  where
    go : found_in key p (readable cs vs) ≡ found_in key p vs → (b : Bool) → is_void cs v (slice_get vs 0) ≡ b → found_in key p ((if b then [] else v ∷ []) ++ readable cs vs) ≡ found_in key p (v ∷ vs)
    go rest false e = ap (later_of (one_found key p v)) rest
    go rest true e = by_key (pointwise nat_eq v.key key) refl
      where
        by_key : (b : Bool) → pointwise nat_eq v.key key ≡ b → found_in key p (readable cs vs) ≡ found_in key p (v ∷ vs)
        by_key false other = rest ∙ sym (other_key key p v vs other)
        by_key true same = rest ∙ sym (hidden_adds key p v vs asc (void_hidden cs v (slice_get vs 0) p (subst (λ (l : List ℕ). IsAbove cs l p) (sym (same_key v.key key same)) above) e))

readable_kept : (cs : List Cleaned) (key : List ℕ) (p : ℕ) (vs : List Version) → ascends vs ≡ true → IsAbove cs key p → versions_in (readable cs vs) key p ≡ versions_in vs key p
readable_kept cs key p [] asc above = refl
readable_kept cs key p (v ∷ vs) asc above = go (readable_kept cs key p vs (ascends_tail v vs asc) above) (is_void cs v (slice_get vs 0)) refl
  where
    go : versions_in (readable cs vs) key p ≡ versions_in vs key p → (b : Bool) → is_void cs v (slice_get vs 0) ≡ b → versions_in ((if b then [] else v ∷ []) ++ readable cs vs) key p ≡ versions_in (v ∷ vs) key p
    go rest false e = ap (λ (r : Option (Option Row)). cond (is_version key p v) (Some v.row) r) rest
    go rest true e = by (is_version key p v) refl
      where
        by : (b : Bool) → is_version key p v ≡ b → versions_in (readable cs vs) key p ≡ cond b (Some v.row) (versions_in vs key p)
        by false is = rest
        by true is =
            let same : spot_of v ≡ (key, p) = spot_there key p (spot_of v) is in
            let keys : v.key ≡ key = ap (λ (s : Spot). s.0) same in
            let at : v.at.0 ≡ p = ap (λ (s : Spot). s.1) same in
            let lt : v.at.0 < p = hidden_below p v vs asc (void_hidden cs v (slice_get vs 0) p (subst (λ (l : List ℕ). IsAbove cs l p) (sym keys) above) e) in
            absurd (omega (arith, lt, at))

not_before_itself : {X : Type 0} (s : Spot) → is_before s s ≡ true → X
not_before_itself s e = (let lt : s.1 < s.1 = position_before s.0 s.1 s.1 e in absurd (omega (arith, lt)))

none_here : (key : List ℕ) (p : ℕ) (v : Version) (vs : List Version) → ascends_from v vs ≡ true → is_version key p v ≡ true → versions_in vs key p ≡ None
none_here key p v [] asc is = refl
none_here key p v (w ∷ ws) asc is =
    let tests = both (is_before (spot_of v) (spot_of w)) (ascends_from w ws) asc in
    go tests.0 (none_here key p v ws (ascends_skip v w ws tests.0 tests.1) is) (is_version key p w) refl
  where
    go : is_before (spot_of v) (spot_of w) ≡ true → versions_in ws key p ≡ None → (b : Bool) → is_version key p w ≡ b → cond b (Some w.row) (versions_in ws key p) ≡ None
    go vw rest false other = rest
    go vw rest true same = not_before_itself (spot_of v) (ap (is_before (spot_of v)) (spot_there key p (spot_of v) is ∙ sym (spot_there key p (spot_of w) same)) ∙ vw)

readable_new : (cs : List Cleaned) (key : List ℕ) (p : ℕ) (row : Option Row) (vs : List Version) → ascends vs ≡ true → versions_in (readable cs vs) key p ≡ Some row → versions_in vs key p ≡ Some row
readable_new cs key p row [] asc has = has
readable_new cs key p row (v ∷ vs) asc has = go (λ more. readable_new cs key p row vs (ascends_tail v vs asc) more) (is_void cs v (slice_get vs 0)) has
  where
    go : (versions_in (readable cs vs) key p ≡ Some row → versions_in vs key p ≡ Some row) → (b : Bool) → versions_in ((if b then [] else v ∷ []) ++ readable cs vs) key p ≡ Some row → versions_in (v ∷ vs) key p ≡ Some row
    go rest false has = by (is_version key p v) has
      where
        by : (b : Bool) → cond b (Some v.row) (versions_in (readable cs vs) key p) ≡ Some row → cond b (Some v.row) (versions_in vs key p) ≡ Some row
        by true is = is
        by false is = rest is
    go rest true has = by (is_version key p v) refl
      where
        by : (b : Bool) → is_version key p v ≡ b → cond b (Some v.row) (versions_in vs key p) ≡ Some row
        by false is = rest has
        by true is = absurd (let wrong : None ≡ Some row = sym (none_here key p v vs asc is) ∙ rest has in cc)

-- ---- the version that a read sees
version_of : (p : ℕ) (v : Option (Option Row)) (rest : Found) (later : Option (Option Row)) → later ≡ option_map (λ (f : ℕ × Option Row). f.1) rest → or_else v later ≡ option_map (λ (f : ℕ × Option Row). f.1) (latest_or p v rest)
version_of p None rest later e = e
version_of p (Some row) rest later e = refl

first_of : (v : Option (Option Row)) → v ≡ option_map (λ (f : ℕ × Option Row). f.1) (latest_or 0 v None)
first_of None = refl
first_of (Some row) = refl

version_latest : (f : ℕ → Option (Option Row)) (p : ℕ) → version_at f p ≡ option_map (λ (f : ℕ × Option Row). f.1) (latest f p)
unfolding version_at
version_latest f zero = first_of (f zero)
version_latest f (suc p) = version_of (suc p) (f (suc p)) (latest f p) (version_at f p) (version_latest f p)

readable_reads : (cs : List Cleaned) (key : List ℕ) (p : ℕ) (vs : List Version) → ascends vs ≡ true → IsAbove cs key p → version_at (versions_in (readable cs vs) key) p ≡ version_at (versions_in vs key) p
readable_reads cs key p vs asc above =
    version_latest (versions_in (readable cs vs) key) p
    ∙ ap (option_map (λ (f : ℕ × Option Row). f.1)) (list_latest key p (readable cs vs) ∙ readable_found cs key p vs asc above ∙ sym (list_latest key p vs))
    ∙ sym (version_latest (versions_in vs key) p)

readable_drops : (cs : List Cleaned) (vs : List Version) → ascends vs ≡ true → Drops cs (versions_in vs) (versions_in (readable cs vs))
readable_drops cs vs asc = record {
  nothing_new = λ key p row has. readable_new cs key p row vs asc has;
  kept = λ key p above. readable_kept cs key p vs asc above;
  reads = λ key p above. readable_reads cs key p vs asc above;
}

-- ---- runs that are spilled
or_none : (x : Option (Option Row)) → or_else x None ≡ x
or_none None = refl
or_none (Some row) = refl

pub merged_layered : (recent : List Version) (lists : List (List Version)) → versions_in (merged recent (all_merged lists)) ≡ layered (recent ∷ lists)
merged_layered recent lists i key p = (merged_is recent (all_merged lists) key p ∙ ap (or_else (versions_in recent key p)) (all_merged_is lists key p)) i

pub base_spills : (marks : Marks) (cs : List Cleaned) (recent : List Version) (lists : List (List Version)) (run : Run) → ascends (merged recent (all_merged lists)) ≡ true → run ≡ base_run marks (readable cs (merged recent (all_merged lists))) → IsSpillOf marks cs recent lists run
base_spills marks cs recent lists run asc is = subst (IsSpillOf marks cs recent lists) (sym is) (record {
  marks_are = refl;
  drops = coe 0 1 (i. Drops cs (merged_layered recent lists i) (after i)) (readable_drops cs all asc);
})
  where
    all : List Version
    all = merged recent (all_merged lists)

    after : versions_in (readable cs all) ≡ layered (readable cs all ∷ [])
    after i key p = sym (or_none (versions_in (readable cs all) key p)) i

pub marks_back : (marks : Marks) → map mark_in (map mark_of_pair marks) ≡ marks
marks_back [] = refl
marks_back (mark ∷ marks) = ap (λ l. mark ∷ l) (marks_back marks)

pub spill_stored : (marks : Marks) (cs : List Cleaned) (recent : List Version) (lists : List (List Version)) (run : Run) (held : Held) → IsSpillOf marks cs recent lists run → held ≡ kept_with run lists → IsSpilled marks cs (layered (recent ∷ lists)) (stored_of held)
spill_stored marks cs recent lists run held spill is = record {
  same_marks = ap (λ (h : Held). h.marks) is ∙ ap (map mark_in) spill.marks_are ∙ marks_back marks;
  drops = subst (λ (h : Held). Drops cs (layered (recent ∷ lists)) (layered h.lists)) (sym is) spill.drops;
}

-- ---- cleanings
-- a cleaning of this range is raised in its place
pub raises : (from to : List ℕ) (below : ℕ) (ds : List Cleaning) (k : ℕ) (d e : Cleaning) → slice_get ds k ≡ Some d → HasRangeAt from to (slice_get ds k) → e ≡ record { from = d.from; to = d.to; below = max d.below below }
    → map cleaned_of (take k ds) ++ with_cleaned from to below (map cleaned_of (drop k ds)) ≡ map cleaned_of (slice_set ds k e)
raises from to below [] k d e there here is = absurd (cc)
raises from to below (x ∷ ds) zero d e there here is =
    let same : x ≡ d = cc in
    ap (λ (b : Bool). cond b ((record { from = x.from; to = x.to; below = max x.below below }) ∷ map cleaned_of ds) (cleaned_of x ∷ with_cleaned from to below (map cleaned_of ds))) here
    ∙ (λ i. (record { from = (same i).from; to = (same i).to; below = max (same i).below below }) ∷ map cleaned_of ds)
    ∙ ap (λ (c : Cleaning). cleaned_of c ∷ map cleaned_of ds) (sym is)
raises from to below (x ∷ ds) (suc k) d e there here is = ap (λ (l : List Cleaned). cleaned_of x ∷ l) (raises from to below ds k d e there here is)

max_up_to : (a b p : ℕ) → a ≤ p → b ≤ p → max a b ≤ p
max_up_to a b p x y = omega (arith, x, y)

pub above_with : (from to : List ℕ) (below : ℕ) (cs : List Cleaned) (key : List ℕ) (p : ℕ) → IsAbove cs key p → (IsWithin from to key → below ≤ p) → IsAbove (with_cleaned from to below cs) key p
above_with from to below [] key p above more = (more, tt)
above_with from to below (c ∷ cs) key p above more = go (above_with from to below cs key p above.1 more) (is_range from to c) refl
  where
    go : IsAbove (with_cleaned from to below cs) key p → (b : Bool) → is_range from to c ≡ b
        → IsAbove (cond b ((record { from = c.from; to = c.to; below = max c.below below }) ∷ cs) (c ∷ with_cleaned from to below cs)) key p
    go rest false e = (above.0, rest)
    go rest true e =
        let tests = both (pointwise nat_eq c.from from) (pointwise nat_eq c.to to) e in
        let froms : c.from ≡ from = same_key c.from from tests.0 in
        let tos : c.to ≡ to = same_key c.to to tests.1 in
        ((λ within. max_up_to c.below below p (above.0 within) (more (coe 0 1 (i. IsWithin (froms i) (tos i) key) within))), above.1)
