-- A scan of the range of a group's keys is the list of its rows.
use Rattle.std.proofs.Common.{◌≡◌, ◌⊎◌, inl, inr, ⊎_elim, ◌∙◌, ap, sym, ℕ, ◌≤◌, List, [], take, Some, None}
use Rattle.mega_base.specs.declared.values.Row.{Row}
use Rattle.mega_base.specs.declared.names.GroupId.{GroupId}
use Rattle.mega_disk.specs.VersionMaps.{IsScan, IsWithin, Versions, row_at}
use Rattle.mega_index.specs.Rows.{Listed, Rows, after, list_after, list_written, no_rows, row_under, written}
use Rattle.mega_index.proofs.Ordered.{Ascends}
use Rattle.mega_index.proofs.KeyLists.{after-ascends, after_is, list_written_is, written-ascends}
use Rattle.mega_replica.specs.Applying.{applied, stored_writes, writes_of}
use Rattle.mega_replica.specs.declared.progress.Progress.{Progress}
use Rattle.mega_replica.specs.Stored.{Counts, GroupLogs, IsOwn, IsUnwritten}
use Rattle.mega_replica.specs.Following.{Follows}
use Rattle.mega_replica.proofs.Reading.{read_is, stored_is, unwritten_front}
use Rattle.mega_replica.proofs.RowLists.{Covers, after_writes, ascends, has_row, row_is, same_rows, unwritten_rows, unwritten_through}

-- a scan is the list that has the rows of its range, and no others
module _ (version : Versions) (from to : List ℕ) (p : ℕ) (rows list : Listed) (all : Rows) (up : Ascends list) (listed : (key : List ℕ) → row_under list key ≡ all key)
    (read : (key : List ℕ) → IsWithin from to key → row_at version key p ≡ all key) (outside : (key : List ℕ) → IsWithin from to key ⊎ (all key ≡ None)) (scan : IsScan version from to p rows) where
  no_row : (row : Row) → None ≡ Some row → ⊥
  no_row row is = cc

  into : Covers rows list
  into key row has = let found = scan.each key row has in has_row list key row (listed key ∙ sym (read key found.0) ∙ found.1)

  back : Covers list rows
  back key row has =
      let under = row_is list key row up has in
      ⊎_elim (λ is. scan.all key row is (read key is ∙ sym (listed key) ∙ under)) (λ none. absurd (no_row row (sym none ∙ sym (listed key) ∙ under))) (outside key)

  scan_lists : rows ≡ list
  scan_lists = same_rows rows list (ascends rows scan.ordered) up into back

module _ (version : Versions) (progress : GroupId → Progress) (log : GroupLogs) (stored : Counts) (group : GroupId) (from to : List ℕ) (p : ℕ) (rows : Listed)
    (follows : Follows version progress log stored) (own : (key : List ℕ) → IsWithin from to key → IsOwn log group key) (within : (key : List ℕ) → IsWithin from to key ⊎ IsUnwritten key (log group)) where
  -- the rows of the range are those of the log
  pub scan_is : p ≤ applied (log group) (stored group) → IsScan version from to p rows → rows ≡ list_after (take p (log group)) []
  scan_is le =
      scan_lists version from to p rows (list_after (take p (log group)) []) (after (take p (log group)) no_rows) (after-ascends (take p (log group)) [] tt)
      (λ key. ap (λ (all : Rows). all key) (after_is (take p (log group)) [] tt))
      (λ key is. read_is version progress log stored group key p follows (own key is) le)
      (λ key. ⊎_elim (λ is. inl is)
      (λ none. inr (ap (λ (all : Rows). all key) (after_writes (take p (log group)) no_rows) ∙ unwritten_rows (writes_of (take p (log group))) key (unwritten_through (log group) p key none))) (within key))

  -- or those of the writes that are stored
  pub scan_stored : IsScan version from to p rows → rows ≡ list_written (stored_writes (take p (log group)) (stored group)) []
  scan_stored =
      scan_lists version from to p rows (list_written (stored_writes (take p (log group)) (stored group)) []) (written (stored_writes (take p (log group)) (stored group)) no_rows)
      (written-ascends (stored_writes (take p (log group)) (stored group)) [] tt)
      (λ key. ap (λ (all : Rows). all key) (list_written_is (stored_writes (take p (log group)) (stored group)) [] tt))
      (λ key is. stored_is version progress log stored group key p follows (own key is))
      (λ key. ⊎_elim (λ is. inl is)
      (λ none. inr (unwritten_rows (stored_writes (take p (log group)) (stored group)) key (unwritten_front key (stored group) (writes_of (take p (log group))) (unwritten_through (log group) p key none)))) (within key))
