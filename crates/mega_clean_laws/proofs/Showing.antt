-- Rows of which versions were let go below a position show the log to every read at or above it.
use Rattle.std.proofs.Common.{◌≡◌, ◌⊎◌, ℕ, zero, suc, ◌≤◌, ◌<◌, List, [], take, Option, Some, None, refl, sym, ap, ◌∙◌, subst, arith, inl, inr}
use Rattle.std.proofs.lemmas.Bool.{cases_lt}
use Rattle.mega_base.specs.declared.values.Row.{Row}
use Rattle.mega_base.specs.declared.names.GroupId.{GroupId}
use Rattle.mega_disk.specs.VersionMaps.{IsLatest, IsScan, IsWithin, Versions, or_else, row_at, row_of, version_at}
use Rattle.mega_index.specs.Rows.{Listed, after, list_after, no_rows, written}
use Rattle.mega_replica.specs.Applying.{applied, stored_writes}
use Rattle.mega_replica.specs.declared.progress.Progress.{Progress}
use Rattle.mega_replica.specs.Following.{Follows}
use Rattle.mega_replica.specs.Stored.{Counts, GroupLogs, IsOwn, IsUnwritten}
use Rattle.mega_replica.proofs.Listing.{scan_is}
use Rattle.mega_replica.proofs.Reading.{newest_is, read_is}
use Rattle.mega_rows.proofs.VersionAt.{last_through, none_through}
use Rattle.mega_clean_laws.specs.Keeping.{KeepsFrom, OneKey}

-- ---- reads

same_row : (version kept : Versions) (key : List ℕ) (below p : ℕ) → KeepsFrom below (version key) (kept key) → below ≤ p → row_at kept key p ≡ row_at version key p
same_row version kept key below p keeps le = ap row_of (keeps.reads p le)

pub read_shows : (version kept : Versions) (progress : GroupId → Progress) (log : GroupLogs) (stored : Counts) (group : GroupId) (key : List ℕ) (below p : ℕ) → Follows version progress log stored → IsOwn log group key
    → KeepsFrom below (version key) (kept key) → below ≤ p → p ≤ applied (log group) (stored group) → row_at kept key p ≡ after (take p (log group)) no_rows key
read_shows version kept progress log stored group key below p follows own keeps le within =
    same_row version kept key below p keeps le ∙ read_is version progress log stored group key p follows own within

-- ---- scans

same_scan : (version kept : Versions) (from to : List ℕ) (below p : ℕ) (rows : Listed) → ((key : List ℕ) → IsWithin from to key → KeepsFrom below (version key) (kept key)) → below ≤ p → IsScan kept from to p rows → IsScan version from to p rows
same_scan version kept from to below p rows keeps le scan = record {
  ordered = scan.ordered;
  each = λ key row has. let found = scan.each key row has in (found.0, sym (same_row version kept key below p (keeps key found.0) le) ∙ found.1);
  all = λ key row within is. scan.all key row within (same_row version kept key below p (keeps key within) le ∙ is);
}

pub scan_shows : (version kept : Versions) (progress : GroupId → Progress) (log : GroupLogs) (stored : Counts) (group : GroupId) (from to : List ℕ) (below p : ℕ) (rows : Listed) → Follows version progress log stored
    → ((key : List ℕ) → IsWithin from to key → IsOwn log group key) → ((key : List ℕ) → IsWithin from to key ⊎ IsUnwritten key (log group))
    → ((key : List ℕ) → IsWithin from to key → KeepsFrom below (version key) (kept key)) → below ≤ p → p ≤ applied (log group) (stored group) → IsScan kept from to p rows → rows ≡ list_after (take p (log group)) []
scan_shows version kept progress log stored group from to below p rows follows own all keeps le within scan =
    scan_is version progress log stored group from to p rows follows own all within (same_scan version kept from to below p rows keeps le scan)

-- ---- the newest version

-- what a read sees that sees nothing, or a row
all_none : (f : OneKey) (p : ℕ) → version_at f p ≡ None → (q : ℕ) → q ≤ p → f q ≡ None
unfolding version_at
all_none f zero none q le = subst (λ n. f n ≡ None) (let is : 0 ≡ q = omega (arith, le) in is) none
all_none f (suc p) none q le = elim (cases_lt q (suc p)) [
  | inl lt ↦ all_none f p (both (f (suc p)) (version_at f p) none).1 q (omega (arith, lt))
  | inr top ↦ subst (λ n. f n ≡ None) (let is : suc p ≡ q = omega (arith, le, top) in is) (both (f (suc p)) (version_at f p) none).0
]
  where
    both : (a b : Option (Option Row)) → or_else a b ≡ None → (a ≡ None) × (b ≡ None)
    both None b is = (refl, is)
    both (Some row) b is = absurd cc

record Last (f : OneKey) (p : ℕ) (row : Option Row) : Type 0 where
  at : ℕ
  within : at ≤ p
  here : f at ≡ Some row
  none_later : (q : ℕ) → at < q → q ≤ p → f q ≡ None

last_seen : (f : OneKey) (p : ℕ) (row : Option Row) → version_at f p ≡ Some row → Last f p row
unfolding version_at
last_seen f zero row is = record { at = 0; within = omega arith; here = is; none_later = λ q more less. absurd (omega (arith, more, less)) }
last_seen f (suc p) row is = by (f (suc p)) refl (λ h. last_seen f p row h) is
  where
    by : (o : Option (Option Row)) → f (suc p) ≡ o → (version_at f p ≡ Some row → Last f p row) → or_else o (version_at f p) ≡ Some row → Last f (suc p) row
    by (Some top) e again h = record { at = suc p; within = omega arith; here = e ∙ h; none_later = λ q more less. absurd (omega (arith, more, less)) }
    by None e again h =
        let before = again h in
        record {
          at = before.at;
          within = let le = before.within in omega (arith, le);
          here = before.here;
          none_later = λ q more less. elim (cases_lt q (suc p)) [
            | inl lt ↦ before.none_later q more (omega (arith, lt))
            | inr top ↦ subst (λ n. f n ≡ None) (let same : suc p ≡ q = omega (arith, less, top) in same) e
          ];
        }

none_kept : (below : ℕ) (all kept : OneKey) → KeepsFrom below all kept → ((p : ℕ) → kept p ≡ None) → (p : ℕ) → all p ≡ None
none_kept below all kept keeps none p = elim (cases_lt p below) [
  | inl lt ↦ all_none all below (sym (keeps.reads below (omega arith)) ∙ none_through kept below (λ q le. none q)) p (omega (arith, lt))
  | inr le ↦ sym (keeps.versions p le) ∙ none p
]

pub same_latest : (below : ℕ) (all kept : OneKey) (row : Option Row) → KeepsFrom below all kept → IsLatest kept row → IsLatest all row
same_latest below all kept row keeps (inl none) = inl (none_kept below all kept keeps none.0, none.1)
same_latest below all kept row keeps (inr last) = elim (cases_lt last.0 below) [
  | inl lt ↦
      let seen = last_seen all below row (sym (keeps.reads below (omega arith)) ∙ last_through kept below last.0 row (omega (arith, lt)) last.1 (λ q more less. last.2 q more)) in
      inr (
        seen.at,
        seen.here,
        λ q more. elim (cases_lt q below) [
          | inl under ↦ seen.none_later q more (omega (arith, under))
          | inr over ↦ sym (keeps.versions q over) ∙ last.2 q (omega (arith, lt, over))
        ],
      )
  | inr le ↦ inr (last.0, sym (keeps.versions last.0 le) ∙ last.1, λ q more. sym (keeps.versions q (omega (arith, le, more))) ∙ last.2 q more)
]

pub newest_shows : (version kept : Versions) (progress : GroupId → Progress) (log : GroupLogs) (stored : Counts) (group : GroupId) (key : List ℕ) (below : ℕ) (row : Option Row) → Follows version progress log stored → IsOwn log group key
    → KeepsFrom below (version key) (kept key) → IsLatest (kept key) row → row ≡ written (stored_writes (log group) (stored group)) no_rows key
newest_shows version kept progress log stored group key below row follows own keeps latest =
    newest_is version progress log stored group key row follows own (same_latest below (version key) (kept key) row keeps latest)
