-- The versions of a range of keys that are let go.
use Rattle.std.proofs.Common.{◌≡◌, ℕ, zero, suc, ◌⊎◌, inl, inr, ◌+◌, ◌<◌, List, [], ◌∷◌, take, get_or, Bool, true, false, ◌||◌, cond, length, refl, sym, ap, subst, ◌∙◌, arith}
use Rattle.std.specs.Prelude.{Option, Some, None, Contains}
use Rattle.std.specs.List.{list_any}
use Rattle.std.specs.Ordering.{nat_cmp, is_gt, ordering_reverse}
use Rattle.std.specs.declared.cmp.Ordering.{Ordering}
use Rattle.std.specs.declared.cmp.Ordering.TheVariants.{Less, Equal, Greater}
use Rattle.std.specs.declared.ops.Bound.TheVariants.{Included, Excluded}
use Rattle.std.specs.Cmp.Lexicographic.{slice_cmp, nat_list_cmp_total}
use Rattle.std.specs.Map.{keys_of}
use Rattle.std.specs.BTreeMap.Range.{entries_between}
use Rattle.std.proofs.lemmas.List.Folds.{list_any_more}
use Rattle.mega_base.specs.declared.values.Row.{Row}
use Rattle.mega_disk.specs.VersionMaps.{Drops, IsAbove, IsScan, IsWithin, Versions, version_at}
use Rattle.mega_rows.specs.Lines.{Entry, Line, in_line, version_in}
use Rattle.mega_rows.specs.Trims.{cleaned_range, is_key, is_within, trimmed, trimmed_keys}
use Rattle.mega_rows.proofs.Changed.{Lines, key_self, line_of, same_key}
use Rattle.mega_rows.proofs.Scans.{In, filter_in, in_filter, lookup_in, reversed, within_of}
use Rattle.mega_rows.proofs.Trims.{floor_bound, trimmed_kept, trimmed_no_more, trimmed_none, trimmed_reads, trimmed_same, trimmed_twice, version_same}

abbrev pub Same : Versions → Versions → Type 0
Same one two = (key : List ℕ) (p : ℕ) → one key p ≡ two key p

-- ---- key after key
pub trims_more : (old cur new : Versions) (keys : List (List ℕ)) (i : ℕ) (key : List ℕ) (below : ℕ) → key ≡ get_or keys i key → i < length keys → Same cur (trimmed_keys (take i keys) below old)
    → ((other : List ℕ) (p : ℕ) → new other p ≡ cond (is_key key other) (trimmed below (cur other) p) (cur other p)) → Same new (trimmed_keys (take (i + 1) keys) below old)
trims_more old cur new keys i key below is lt so_far step other p = step other p ∙ (go (list_any (λ k. is_key k other) (take i keys)) (is_key key other) (so_far other) ∙ sym (ap (λ test. cond test (trimmed below (old other) p) (old other p)) any_is))
  where
    any_is : list_any (λ k. is_key k other) (take (i + 1) keys) ≡ (list_any (λ k. is_key k other) (take i keys) || is_key key other)
    any_is = list_any_more (λ (k : List ℕ). is_key k other) keys i key lt ∙ ap (λ (k : List ℕ). list_any (λ k. is_key k other) (take i keys) || is_key k other) (sym is)

    go : (a b : Bool) → ((q : ℕ) → cur other q ≡ cond a (trimmed below (old other) q) (old other q)) → cond b (trimmed below (cur other) p) (cur other p) ≡ cond (a || b) (trimmed below (old other) p) (old other p)
    go true true h = trimmed_same below (cur other) (trimmed below (old other)) h p ∙ trimmed_twice below (old other) p
    go true false h = h p
    go false true h = trimmed_same below (cur other) (old other) h p
    go false false h = h p

-- ---- only versions that no read sees
pub drops_of : (old new : Versions) (keys : List (List ℕ)) (from to : List ℕ) (below : ℕ) → ((key : List ℕ) → list_any (λ k. is_key k key) keys ≡ true → IsWithin from to key) → Same new (trimmed_keys keys below old) → Drops (record { from = from; to = to; below = below } ∷ []) old new
drops_of old new keys from to below within same = record { nothing_new = nothing_new; kept = kept; reads = reads }
  where
    nothing_new : (key : List ℕ) (p : ℕ) (row : Option Row) → new key p ≡ Some row → old key p ≡ Some row
    nothing_new key p row h = go (list_any (λ k. is_key k key) keys) (sym (same key p) ∙ h)
      where
        go : (test : Bool) → cond test (trimmed below (old key) p) (old key p) ≡ Some row → old key p ≡ Some row
        go true e = trimmed_no_more below (old key) p row e
        go false e = e

    kept : (key : List ℕ) (p : ℕ) → IsAbove (record { from = from; to = to; below = below } ∷ []) key p → new key p ≡ old key p
    kept key p above = same key p ∙ go (list_any (λ k. is_key k key) keys) refl
      where
        go : (test : Bool) → list_any (λ k. is_key k key) keys ≡ test → cond test (trimmed below (old key) p) (old key p) ≡ old key p
        go true e = let high = above.0 (within key e) in let bound = floor_bound (old key) below in trimmed_kept below (old key) p (omega arith)
        go false e = refl

    reads : (key : List ℕ) (p : ℕ) → IsAbove (record { from = from; to = to; below = below } ∷ []) key p → version_at (new key) p ≡ version_at (old key) p
    reads key p above = go (list_any (λ k. is_key k key) keys) refl (same key)
      where
        go : (test : Bool) → list_any (λ k. is_key k key) keys ≡ test → ((q : ℕ) → new key q ≡ cond test (trimmed below (old key) q) (old key q)) → version_at (new key) p ≡ version_at (old key) p
        go true e h = version_same (new key) (trimmed below (old key)) p h ∙ trimmed_reads below (old key) p (above.0 (within key e))
        go false e h = version_same (new key) (old key) p h

-- ---- the keys of a range
any_key : (es : List Entry) (key : List ℕ) (line : Line) → In (key, line) es → list_any (λ k. is_key k key) (keys_of es) ≡ true
any_key [] key line h = absurd h
any_key (e ∷ es) key line (inl same) = ap (λ b. b || list_any (λ k. is_key k key) (keys_of es)) (ap (λ (f : Entry). is_key f.0 key) same ∙ key_self key)
any_key (e ∷ es) key line (inr h) = go (is_key e.0 key) (any_key es key line h)
  where
    go : (b : Bool) → list_any (λ k. is_key k key) (keys_of es) ≡ true → (b || list_any (λ k. is_key k key) (keys_of es)) ≡ true
    go true rest = refl
    go false rest = rest

any_in : (es : List Entry) (key : List ℕ) → list_any (λ k. is_key k key) (keys_of es) ≡ true → (line : Line) × In (key, line) es
any_in [] key h = cc
any_in (e ∷ es) key h = go (is_key e.0 key) refl h (any_in es key)
  where
    go : (b : Bool) → is_key e.0 key ≡ b → (b || list_any (λ k. is_key k key) (keys_of es)) ≡ true → (list_any (λ k. is_key k key) (keys_of es) ≡ true → (line : Line) × In (key, line) es) → (line : Line) × ((e ≡ (key, line)) ⊎ In (key, line) es)
    go true t h rest = (e.1, inl (λ i. (same_key e.0 key t i, e.1)))
    go false t h rest = let there = rest h in (there.0, inr there.1)

any_take : (keys : List (List ℕ)) (n : ℕ) (key : List ℕ) → list_any (λ k. is_key k key) (take n keys) ≡ true → list_any (λ k. is_key k key) keys ≡ true
any_take [] zero key h = cc
any_take [] (suc n) key h = cc
any_take (k ∷ keys) zero key h = cc
any_take (k ∷ keys) (suc n) key h = go (is_key k key) h (any_take keys n key)
  where
    go : (b : Bool) → (b || list_any (λ k. is_key k key) (take n keys)) ≡ true → (list_any (λ k. is_key k key) (take n keys) ≡ true → list_any (λ k. is_key k key) keys ≡ true) → (b || list_any (λ k. is_key k key) keys) ≡ true
    go true h rest = refl
    go false h rest = rest h

abbrev range_entries : Lines → List ℕ → List ℕ → List Entry
range_entries lines from to = entries_between (slice_cmp nat_cmp) (Included from) (Excluded to) lines.entries

any_within : (lines : Lines) (from to key : List ℕ) → list_any (λ k. is_key k key) (keys_of (range_entries lines from to)) ≡ true → is_within from to key ≡ true
any_within lines from to key h = let there = any_in (range_entries lines from to) key h in (in_filter (λ (e : Entry). is_within from to e.0) lines.entries (key, there.0) there.1).1

-- a key of the range that has no entry has no versions
no_entry : (lines : Lines) (from to key : List ℕ) → is_within from to key ≡ true → list_any (λ k. is_key k key) (keys_of (range_entries lines from to)) ≡ false → (p : ℕ) → version_in lines key p ≡ None
no_entry lines from to key within none p = go (line_of lines key) refl
  where
    go : (o : Option Line) → line_of lines key ≡ o → version_in lines key p ≡ None
    go None e = ap (λ (o : Option Line). in_line o p) e
    go (Some line) e = let there = any_key (range_entries lines from to) key line (filter_in (λ (e : Entry). is_within from to e.0) lines.entries (key, line) (lookup_in lines.entries key line e) within) in cc

-- ---- the whole range
pub range_cleaned : (lines new : Lines) (from to : List ℕ) (below : ℕ) (keys : List (List ℕ)) → keys ≡ keys_of (range_entries lines from to) → Same (version_in new) (trimmed_keys keys below (version_in lines)) → Same (version_in new) (cleaned_range from to below (version_in lines))
range_cleaned lines new from to below keys is same key p = same key p ∙ (ap (λ ks. cond (list_any (λ k. is_key k key) ks) (trimmed below (version_in lines key) p) (version_in lines key p)) is ∙ go (list_any (λ k. is_key k key) (keys_of (range_entries lines from to))) (is_within from to key) refl refl)
  where
    go : (a w : Bool) → list_any (λ k. is_key k key) (keys_of (range_entries lines from to)) ≡ a → is_within from to key ≡ w → cond a (trimmed below (version_in lines key) p) (version_in lines key p) ≡ cond w (trimmed below (version_in lines key) p) (version_in lines key p)
    go true true t u = refl
    go false false t u = refl
    go true false t u = let there = any_within lines from to key t in cc
    go false true t u = sym (trimmed_none below (version_in lines key) (λ q le. no_entry lines from to key u t q) p)

pub range_drops : (lines new : Lines) (from to : List ℕ) (below count : ℕ) (keys : List (List ℕ)) → keys ≡ keys_of (range_entries lines from to) → Same (version_in new) (trimmed_keys (take count keys) below (version_in lines)) → Drops (record { from = from; to = to; below = below } ∷ []) (version_in lines) (version_in new)
range_drops lines new from to below count keys is same =
    drops_of (version_in lines) (version_in new) (take count keys) from to below
    (λ key there. within_of from to key (any_within lines from to key (subst (λ ks. list_any (λ k. is_key k key) ks ≡ true) is (any_take keys count key there)))) same

pub range_drops_all : (lines new : Lines) (from to : List ℕ) (below : ℕ) (keys : List (List ℕ)) → keys ≡ keys_of (range_entries lines from to) → Same (version_in new) (trimmed_keys keys below (version_in lines)) → Drops (record { from = from; to = to; below = below } ∷ []) (version_in lines) (version_in new)
range_drops_all lines new from to below keys is same =
    drops_of (version_in lines) (version_in new) keys from to below
    (λ key there. within_of from to key (any_within lines from to key (subst (λ ks. list_any (λ k. is_key k key) ks ≡ true) is there))) same

-- ---- a range that ends before it begins
none_within : (from to key : List ℕ) → is_gt (slice_cmp nat_cmp from to) ≡ true → IsWithin from to key → ⊥
none_within from to key gt within = within.0 (nat_list_cmp_total.trans key to from within.1 (go (slice_cmp nat_cmp from to) gt (reversed to from)))
  where
    go : (o : Ordering) → is_gt o ≡ true → slice_cmp nat_cmp to from ≡ ordering_reverse o → slice_cmp nat_cmp to from ≡ Less
    go Less h e = cc
    go Equal h e = cc
    go Greater h e = e

pub no_range_cleaned : (versions : Versions) (from to : List ℕ) (below : ℕ) → is_gt (slice_cmp nat_cmp from to) ≡ true → Same versions (cleaned_range from to below versions)
no_range_cleaned versions from to below gt key p = go (is_within from to key) refl
  where
    go : (test : Bool) → is_within from to key ≡ test → versions key p ≡ cond test (trimmed below (versions key) p) (versions key p)
    go true e = absurd (none_within from to key gt (within_of from to key e))
    go false e = refl

pub no_range_scan : (versions : Versions) (from to : List ℕ) (p : ℕ) → is_gt (slice_cmp nat_cmp from to) ≡ true → IsScan versions from to p []
no_range_scan versions from to p gt = record { ordered = tt; each = λ key row there. absurd there; all = λ key row within reads. absurd (none_within from to key gt within) }

-- the answer of a comparison
pub is_greater : (from to : List ℕ) (o : Ordering) (test : Bool) → o ≡ slice_cmp nat_cmp from to → test ≡ is_gt o → test ≡ true → is_gt (slice_cmp nat_cmp from to) ≡ true
is_greater from to o test is t gt = ap is_gt (sym is) ∙ (sym t ∙ gt)
