-- What the versions that follow a node's logs show of a group's tables is what its log wrote.
use Rattle.std.proofs.Common.{◌≡◌, ◌∙◌, ℕ, ◌≤◌, Bool, true, false, List, [], length, take, drop, refl, sym, ap, arith, Option, Some, None, Ok}
use Rattle.std.proofs.Math.Seq.{take-append_seam}
use Rattle.std.proofs.lemmas.Grind.{flat_map-append}
use Rattle.std.proofs.lemmas.List.{take-append-drop, take_all}
use Rattle.mega_base.specs.declared.names.GroupId.{GroupId}
use Rattle.mega_base.specs.declared.values.Row.{Row}
use Rattle.mega_base.specs.declared.values.Value.{Value}
use Rattle.mega_entry.specs.declared.content.Content.{Content}
use Rattle.mega_entry.specs.declared.content.Write.{Write}
use Rattle.mega_disk.specs.VersionMaps.{HasRow, Versions, or_else}
use Rattle.mega_schema.specs.declared.schema.Schema.{Schema}
use Rattle.mega_schema.specs.declared.schema.Table.{Table}
use Rattle.mega_index.specs.Cells.{key_values}
use Rattle.mega_index.specs.Fits.{group_of, numbered, stands_in}
use Rattle.mega_index.specs.Rows.{Listed, Rows, after, list_after, list_written, no_rows, row_under, same_key, written}
use Rattle.mega_index.proofs.Ordered.{Ascends}
use Rattle.mega_outcome.specs.Answers.{rows_at}
use Rattle.mega_outcome.specs.Places.{key_in}
use Rattle.mega_replica.specs.Applying.{applied, stored_writes, writes_of}
use Rattle.mega_replica.specs.declared.progress.Progress.{Progress}
use Rattle.mega_replica.specs.Stored.{Counts, GroupLogs, IsUnwritten, last_write}
use Rattle.mega_replica.specs.Following.{Follows}
use Rattle.mega_replica.proofs.Reading.{read_is, stored_is}
use Rattle.mega_replica.proofs.Writing.{last_write-append}
use Rattle.mega_marks.specs.of_node_laws.Own.{HasOwnRows}
use Rattle.mega_view.specs.Shows.{Shows}
use Rattle.mega_view.proofs.Found.{key_named, stands_key}
use Rattle.mega_view.proofs.Grouped.{has_group}
use Rattle.mega_index.proofs.KeyLists.{after-ascends, after_is, key_is, list_written_is, same_self, written-ascends}
use Rattle.mega_replica.proofs.RowLists.{after_writes, ascending, row_is, unwritten_rows, unwritten_through}

-- the writes of the first entries are first among all
first_writes : (p : ℕ) (log : List Content) → take (length (writes_of (take p log))) (writes_of log) ≡ writes_of (take p log)
first_writes p log =
    ap (λ (entries : List Content). take (length (writes_of (take p log))) (writes_of entries)) (sym (take-append-drop p log))
    ∙ ap (take (length (writes_of (take p log)))) (flat_map-append (λ (entry : Content). entry.writes) (take p log) (drop p log))
    ∙ take-append_seam (writes_of (take p log)) (writes_of (drop p log))

none_is : {A : Type 0} (a : A) → None ≡ Some a → ⊥
none_is a h = cc

no_version : (a b : Option (Option Row)) → or_else a b ≡ None → b ≡ None
no_version None b is = is
no_version (Some row) b is = absurd cc

-- what no write writes the first do not
unwritten_first : (count : ℕ) (writes : List Write) (key : List ℕ) → last_write key writes ≡ None → last_write key (take count writes) ≡ None
unwritten_first count writes key none =
    no_version (last_write key (drop count writes)) (last_write key (take count writes))
    (sym (last_write-append key (take count writes) (drop count writes)) ∙ ap (last_write key) (take-append-drop count writes) ∙ none)

module _ (s : Schema) (version : Versions) (progress : GroupId → Progress) (log : GroupLogs) (stored : Counts) (group : GroupId)
    (follows : Follows version progress log stored) (owns : HasOwnRows s log) where
  -- a row that the group's entries left under its own key is one of the group
  own_row : (key : List ℕ) (row : Row) (n : ℕ) (t : Table) → (IsUnwritten key (log group) → ⊥) → numbered s.tables n ≡ Some t → stands_in s n (Some t) key row ≡ true
      → group_of s n t (key_values t.primary row) ≡ Ok group.key
  own_row key row n t written there stand = by (same_key found.0 group.key) refl
    where
      values : List Value
      values = key_values t.primary row

      found : (own : List ℕ) × (group_of s n t values ≡ Ok own)
      found = has_group s n t values key (stands_key s n t key row stand)

      named : key_in s found.0 0 n values ≡ Ok key
      named = key_named s n t found.0 key values there found.1 (stands_key s n t key row stand)

      by : (b : Bool) → same_key found.0 group.key ≡ b → group_of s n t values ≡ Ok group.key
      by true is = found.1 ∙ ap Ok (key_is found.0 group.key is)
      by false is = absurd (written (owns.own (record { key = found.0 }) 0 n values key named group
          (λ same. let both : true ≡ false = sym (same_self found.0) ∙ ap (λ (own : GroupId). same_key found.0 own.key) (sym same) ∙ is in absurd (cc))))

  -- at a position that is applied
  pub shows_log : (p : ℕ) → p ≤ applied (log group) (stored group) → Shows s group (rows_at version p) (list_after (take p (log group)) [])
  shows_log p le = record {
    ordered = ascending listed up;
    named = λ key row n has of. owns.named group key n (length (writes_of entries)) row of (there key row has);
    under = λ key n named. read_is version progress log stored group key p follows (owns.own group 0 n named.0 key named.1) le ∙ sym (under key);
    own = λ key row n t has. own_row key row n t (written_there key row has);
  }
    where
      entries : List Content
      entries = take p (log group)

      listed : Listed
      listed = list_after entries []

      up : Ascends listed
      up = after-ascends entries [] tt

      under : (key : List ℕ) → row_under listed key ≡ after entries no_rows key
      under key = ap (λ (all : Rows). all key) (after_is entries [] tt)

      there : (key : List ℕ) (row : Row) → HasRow listed key row → written (take (length (writes_of entries)) (writes_of (log group))) no_rows key ≡ Some row
      there key row has =
          ap (λ (writes : List Write). written writes no_rows key) (first_writes p (log group))
          ∙ sym (ap (λ (all : Rows). all key) (after_writes entries no_rows))
          ∙ sym (under key) ∙ row_is listed key row up has

      written_there : (key : List ℕ) (row : Row) → HasRow listed key row → IsUnwritten key (log group) → ⊥
      written_there key row has none =
          none_is row
          (sym (unwritten_rows (writes_of entries) key (unwritten_through (log group) p key none)) ∙ sym (ap (λ (all : Rows). all key) (after_writes entries no_rows)) ∙ sym (under key) ∙ row_is listed key row up has)

  -- behind the whole log, what is stored
  pub shows_stored : Shows s group (rows_at version (length (log group))) (list_written (stored_writes (log group) (stored group)) [])
  shows_stored = record {
    ordered = ascending listed up;
    named = λ key row n has of. owns.named group key n (stored group) row of (sym (under key) ∙ row_is listed key row up has);
    under = λ key n named.
        stored_is version progress log stored group key (length (log group)) follows (owns.own group 0 n named.0 key named.1)
        ∙ ap (λ (entries : List Content). written (stored_writes entries (stored group)) no_rows key) (take_all (length (log group)) (log group) (omega arith))
        ∙ sym (under key);
    own = λ key row n t has. own_row key row n t (written_there key row has);
  }
    where
      writes : List Write
      writes = stored_writes (log group) (stored group)

      listed : Listed
      listed = list_written writes []

      up : Ascends listed
      up = written-ascends writes [] tt

      under : (key : List ℕ) → row_under listed key ≡ written writes no_rows key
      under key = ap (λ (all : Rows). all key) (list_written_is writes [] tt)

      written_there : (key : List ℕ) (row : Row) → HasRow listed key row → IsUnwritten key (log group) → ⊥
      written_there key row has none =
          none_is row (sym (unwritten_rows writes key (unwritten_first (stored group) (writes_of (log group)) key none)) ∙ sym (under key) ∙ row_is listed key row up has)
