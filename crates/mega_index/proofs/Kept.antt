-- After a refresh the entries of all rows are hinted still.
use Rattle.std.proofs.Common.{◌≡◌, ◌∙◌, ap, sym, refl, ℕ, ◌+◌, ◌-◌, ◌^◌, min, Bool, true, cond, List, [], ◌∷◌, ◌++◌, length}
use Rattle.std.specs.Prelude.{Option, Some, None}
use Rattle.std.specs.Option.{unwrap_or}
use Rattle.std.specs.Ordering.{match_ordering}
use Rattle.std.specs.List.{list_all}
use Rattle.std.specs.Map.{lookup, remove_entry}
use Rattle.std.specs.BTreeMap.{insert_entry}
use Rattle.std.proofs.lemmas.Bool.{and_parts, and_from}
use Rattle.mega_base.specs.declared.values.Row.{Row}
use Rattle.mega_row_writes.specs.of_entry.declared.content.Write.{Write}
use Rattle.mega_row_writes.specs.of_entry.declared.content.Content.{Content}
use Rattle.mega_schema.specs.declared.schema.Schema.{Schema}
use Rattle.mega_row_writes.specs.Rows.{Listed, key_cmp, same_key, list_changed, list_written, list_after}
use Rattle.mega_index.specs.Marks.{Marked, Marks, unmarked, marked_in, advanced, writes_of}
use Rattle.mega_index.specs.Hints.{Hints, KeepsHints, is_hinted, global_keys, row_is_hinted, rows_are_hinted, all_hinted, write_is_hinted, writes_are_hinted}
use Rattle.mega_index.specs.Keeping.{moved}
use Rattle.mega_index.proofs.Ordered.{by_order, by_test, equal_keys, all_imply}
use Rattle.mega_row_writes.proofs.Turning.{same_key-Decides}

pub row_more : (s : Schema) (old new : Hints) (g : List ℕ) (e : List ℕ × Row) → KeepsHints old new → row_is_hinted s old g e ≡ true → row_is_hinted s new g e ≡ true
row_more s old new g e kept = all_imply (λ entry. is_hinted old entry g e.0) (λ entry. is_hinted new entry g e.0) (global_keys s e.0 e.1) (λ entry. kept entry g e.0)

pub write_more : (s : Schema) (old new : Hints) (g : List ℕ) (k : List ℕ) (o : Option Row) → KeepsHints old new
    → write_is_hinted s old g (record { key = k; row = o }) ≡ true → write_is_hinted s new g (record { key = k; row = o }) ≡ true
write_more s old new g k None kept h = h
write_more s old new g k (Some row) kept h = row_more s old new g (k, row) kept h

pub writes_more : (s : Schema) (old new : Hints) (g : List ℕ) (ws : List Write) → KeepsHints old new → writes_are_hinted s old g ws ≡ true → writes_are_hinted s new g ws ≡ true
writes_more s old new g ws kept = all_imply (write_is_hinted s old g) (write_is_hinted s new g) ws (λ w. write_more s old new g w.key w.row kept)

pub marks_more : (s : Schema) (old new : Hints) (marks : Marks) → KeepsHints old new → all_hinted s old marks ≡ true → all_hinted s new marks ≡ true
marks_more s old new marks kept =
    all_imply (λ (m : List ℕ × Marked). rows_are_hinted s old m.0 m.1.rows) (λ (m : List ℕ × Marked). rows_are_hinted s new m.0 m.1.rows) marks
    (λ m. all_imply (row_is_hinted s old m.0) (row_is_hinted s new m.0) m.1.rows (λ e. row_more s old new m.0 e kept))

module _ {X : Type 0} (p : List ℕ × X → Bool) where
  all-insert : (es : List (List ℕ × X)) (k : List ℕ) (v : X) → list_all p es ≡ true → p (k, v) ≡ true → list_all p (insert_entry key_cmp es k v) ≡ true
  all-insert [] k v all one = and_from (p (k, v)) true one refl
  all-insert (e ∷ es) k v all one =
      let parts : (p e ≡ true) × (list_all p es ≡ true) = and_parts (p e) (list_all p es) all in
      by_order (key_cmp k e.0) _
      (λ h. ap (λ o. list_all p (match_ordering o ((k, v) ∷ e ∷ es) ((e.0, v) ∷ es) (e ∷ insert_entry key_cmp es k v))) h ∙ and_from (p (k, v)) (list_all p (e ∷ es)) one all)
      (λ h. ap (λ o. list_all p (match_ordering o ((k, v) ∷ e ∷ es) ((e.0, v) ∷ es) (e ∷ insert_entry key_cmp es k v))) h
      ∙ and_from (p (e.0, v)) (list_all p es) (ap (λ k. p (k, v)) (sym (equal_keys k e.0 h)) ∙ one) parts.1)
      (λ h. ap (λ o. list_all p (match_ordering o ((k, v) ∷ e ∷ es) ((e.0, v) ∷ es) (e ∷ insert_entry key_cmp es k v))) h
      ∙ and_from (p e) (list_all p (insert_entry key_cmp es k v)) parts.0 (all-insert es k v parts.1 one))

  all-remove : (es : List (List ℕ × X)) (test : List ℕ → Bool) → list_all p es ≡ true → list_all p (remove_entry test es) ≡ true
  all-remove [] test all = refl
  all-remove (e ∷ es) test all =
      let parts : (p e ≡ true) × (list_all p es ≡ true) = and_parts (p e) (list_all p es) all in
      by_test (test e.0) _
      (λ h. ap (λ b. list_all p (cond b es (e ∷ remove_entry test es))) h ∙ parts.1)
      (λ h. ap (λ b. list_all p (cond b es (e ∷ remove_entry test es))) h ∙ and_from (p e) (list_all p (remove_entry test es)) parts.0 (all-remove es test parts.1))

changed-hinted : (s : Schema) (h : Hints) (g : List ℕ) (rows : Listed) (k : List ℕ) (o : Option Row) → rows_are_hinted s h g rows ≡ true
    → write_is_hinted s h g (record { key = k; row = o }) ≡ true → rows_are_hinted s h g (list_changed rows (record { key = k; row = o })) ≡ true
changed-hinted s h g rows k None all one = all-remove (row_is_hinted s h g) rows (same_key k) all
changed-hinted s h g rows k (Some row) all one = all-insert (row_is_hinted s h g) rows k row all one

written-hinted : (s : Schema) (h : Hints) (g : List ℕ) (ws : List Write) (rows : Listed) → rows_are_hinted s h g rows ≡ true
    → writes_are_hinted s h g ws ≡ true → rows_are_hinted s h g (list_written ws rows) ≡ true
written-hinted s h g [] rows all more = all
written-hinted s h g (w ∷ ws) rows all more =
    let parts : (write_is_hinted s h g w ≡ true) × (writes_are_hinted s h g ws ≡ true) = and_parts (write_is_hinted s h g w) (writes_are_hinted s h g ws) more in
    written-hinted s h g ws (list_changed rows w) (changed-hinted s h g rows w.key w.row all parts.0) parts.1

marked-hinted : (s : Schema) (h : Hints) (marks : Marks) (g : List ℕ) → all_hinted s h marks ≡ true → rows_are_hinted s h g (marked_in marks g).rows ≡ true
marked-hinted s h [] g all = refl
marked-hinted s h (m ∷ marks) g all =
    let parts : (rows_are_hinted s h m.0 m.1.rows ≡ true) × (all_hinted s h marks ≡ true) = and_parts (rows_are_hinted s h m.0 m.1.rows) (all_hinted s h marks) all in
    by_test (same_key g m.0) _
    (λ is. ap (λ b. rows_are_hinted s h g (unwrap_or (cond b (Some m.1) (lookup (same_key g) marks)) unmarked).rows) is
    ∙ ap (λ g. rows_are_hinted s h g m.1.rows) ((same_key-Decides g m.0).0 is) ∙ parts.0)
    (λ other. ap (λ b. rows_are_hinted s h g (unwrap_or (cond b (Some m.1) (lookup (same_key g) marks)) unmarked).rows) other ∙ marked-hinted s h marks g parts.1)

pub moved-hinted : (s : Schema) (h : Hints) (marks : Marks) (g : List ℕ) (count : ℕ) (ws : List Write) → all_hinted s h marks ≡ true → writes_are_hinted s h g ws ≡ true
    → all_hinted s h (insert_entry key_cmp marks g (moved count ws (marked_in marks g))) ≡ true
moved-hinted s h marks g count ws all more =
    all-insert (λ (m : List ℕ × Marked). rows_are_hinted s h m.0 m.1.rows) marks g (moved count ws (marked_in marks g)) all
    (written-hinted s h g ws (marked_in marks g).rows (marked-hinted s h marks g all) more)

written-append : (a b : List Write) (rows : Listed) → list_written (a ++ b) rows ≡ list_written b (list_written a rows)
written-append [] b rows = refl
written-append (w ∷ a) b rows = written-append a b (list_changed rows w)

after-written : (log : List Content) (rows : Listed) → list_written (writes_of log) rows ≡ list_after log rows
after-written [] rows = refl
after-written (entry ∷ log) rows = written-append entry.writes (writes_of log) rows ∙ after-written log (list_written entry.writes rows)

-- a mark that moves by the writes of entries advances by the entries
pub moved-advanced : (log : List Content) (m : Marked) → moved (length log) (writes_of log) m ≡ advanced log m
moved-advanced log m = λ i. record { position = min (m.position + length log) (2 ^ 64 - 1); rows = after-written log m.rows i }
