-- What the put of one row does over rows under whose key none stands.
use Rattle.std.proofs.Common.{◌≡◌, ℕ, cond, Bool, true, false, if◌then◌else◌, List, [], ◌++◌, refl, sym, ap, ◌∙◌, append-nil, Some, None, Result, Ok, Err}
use Rattle.std.specs.Prelude.{nat_lt}
use Rattle.mega_base.specs.declared.names.GroupId.{GroupId}
use Rattle.mega_base.specs.declared.values.Value.{Value}
use Rattle.mega_base.specs.declared.values.Row.{Row}
use Rattle.mega_entry.specs.declared.content.Write.{Write}
use Rattle.mega_keys.specs.Spelling.{root_part, group_bytes}
use Rattle.mega_schema.specs.declared.schema.Table.{Table}
use Rattle.mega_schema.specs.declared.schema.Schema.{Schema}
use Rattle.mega_schema.specs.Shaping.{shape_of}
use Rattle.mega_index.specs.Rows.{Rows, no_rows, written}
use Rattle.mega_index.specs.Cells.{key_values}
use Rattle.mega_index.specs.Fits.{numbered, group_of, fits, fits_in}
use Rattle.mega_index.specs.Fitted.{most_bytes}
use Rattle.mega_outcome.specs.declared.answer.Done.{Done}
use Rattle.mega_outcome.specs.declared.answer.Turn.{Turn}
use Rattle.mega_outcome.specs.declared.answer.Turn.TheVariants.{OtherGroup, BadRow, TooLarge}
use Rattle.mega_outcome.specs.Places.{◌>>=◌, spelled, placed, key_in, key_in_table}
use Rattle.mega_outcome.specs.Changes.{replaced, put_in}
use Rattle.mega_outcome.specs.Outcome.{longest, outcome, unless_large}
use Rattle.mega_index.proofs.KeyLists.{same_self}
use Rattle.mega_tape_laws.proofs.RowKeys.{Standing, IsKeyOf, group_of_key, of_ok, group_is}
use Rattle.mega_backup.specs.Restoring.{put_of, is_large, is_large_turn, done_writes, after_one}

module _ (s : Schema) (group : GroupId) (n : ℕ) (t : Table) (key : List ℕ) (row : Row)
    (at : numbered s.tables n ≡ Some t) (st : Standing s n t key row) (is_key : IsKeyOf s n t group.key key) where
  abbrev values : List Value
  values = key_values t.primary row

  group_ok : group_of s n t values ≡ Ok group.key
  group_ok =
      let own = group_of_key s n t values key st.own in
      let same : group_bytes (shape_of s n t) (root_part (shape_of s n t) values) ≡ group.key = sym (ap of_ok own) ∙ group_is s n t group.key key row st is_key in
      own ∙ ap Ok same

  key_ok : key_in s group.key 0 n values ≡ Ok key
  key_ok =
      ap (λ o. key_in_table s group.key 0 n o values) at ∙ (λ i. placed 0 group.key (group_ok i) (st.own i))
      ∙ ap (λ b. cond b (spelled 0 (Ok key)) (Err (OtherGroup 0))) (same_self group.key)

  fits_ok : fits s n row ≡ true
  fits_ok = ap (λ o. fits_in s n o row) at ∙ st.fits

  put_ok : (rows : Rows) → put_in s group.key rows 0 n (numbered s.tables n) row ≡ Ok (replaced s n key (rows key) (Some row))
  put_ok rows =
      ap (λ o. put_in s group.key rows 0 n o row) at
      ∙ ap (λ r. r >>= λ k. if fits s n row then Ok (replaced s n k (rows k) (Some row)) else Err (BadRow 0)) key_ok
      ∙ ap (λ b. cond b (Ok (replaced s n key (rows key) (Some row))) (Err (BadRow 0))) fits_ok

  -- the outcome with these writes
  abbrev with_writes : List Write → Result Done Turn
  with_writes writes = unless_large (longest group.key (writes ++ []) []) (record { replies = []; writes = writes ++ []; sends = [] })

  outcome_is : (rows : Rows) → outcome s (put_of group n row) rows ≡ with_writes (replaced s n key (rows key) (Some row))
  outcome_is rows =
      ap (λ (r : Result (List Write) Turn). (r >>= λ first. Ok (first ++ [])) >>= λ writes. unless_large (longest group.key writes []) (record { replies = []; writes = writes; sends = [] })) (put_ok rows)

  abbrev new : List Write
  new = replaced s n key None (Some row)

  -- it is not too large over no rows, and then neither over rows under whose key none stands
  pub one_put : (rows : Rows) → rows key ≡ None → is_large s (put_of group n row) ≡ false → after_one s rows (put_of group n row) ≡ written (replaced s n key (rows key) (Some row)) rows
  one_put rows none small =
      ap (λ r. written (done_writes r) rows) (outcome_is rows ∙ ap (λ o. with_writes (replaced s n key o (Some row))) none)
      ∙ ap (λ writes. written writes rows) (by_large (nat_lt most_bytes (longest group.key (new ++ []) [])) (sym (ap is_large_turn (outcome_is no_rows)) ∙ small) ∙ append-nil new)
      ∙ ap (λ o. written (replaced s n key o (Some row)) rows) (sym none)
    where
      by_large : (b : Bool) → is_large_turn (cond b (Err (TooLarge (longest group.key (new ++ []) []))) (Ok (record { replies = []; writes = new ++ []; sends = [] }))) ≡ false
          → done_writes (cond b (Err (TooLarge (longest group.key (new ++ []) []))) (Ok (record { replies = []; writes = new ++ []; sends = [] }))) ≡ new ++ []
      by_large true h = absurd (cc)
      by_large false h = refl
