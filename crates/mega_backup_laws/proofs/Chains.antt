-- What a list of puts leaves, one after another, over rows that are kept along with their index rows.
use Rattle.std.proofs.Common.{◌≡◌, ◌⊎◌, inl, inr, ℕ, cond, Bool, true, false, List, [], ◌∷◌, fold, refl, sym, ap, ◌∙◌, subst, Option, Some, None, Result, Ok, Err}
use Rattle.std.specs.declared.cmp.Ordering.TheVariants.{Less}
use Rattle.std.specs.Ordering.{is_eq}
use Rattle.mega_base.specs.declared.names.GroupId.{GroupId}
use Rattle.mega_base.specs.declared.values.Value.{Value}
use Rattle.mega_base.specs.declared.values.Row.{Row}
use Rattle.mega_schema.specs.declared.schema.Table.{Table}
use Rattle.mega_schema.specs.declared.schema.Schema.{Schema}
use Rattle.mega_index.specs.Rows.{Rows, Listed, key_cmp, same_key, changed, written}
use Rattle.mega_index.specs.Fits.{numbered, key_of, stands_in}
use Rattle.mega_index.specs.Fitted.{table_of}
use Rattle.mega_index.specs.Entries.{local_entries}
use Rattle.mega_index.specs.LocalWrites.{index_writes_in}
use Rattle.mega_outcome.specs.declared.transaction.Transaction.{Transaction}
use Rattle.mega_outcome.specs.Changes.{replaced}
use Rattle.mega_tape_laws.specs.Places.{In}
use Rattle.mega_tape_laws.specs.Indexed.{IsDeclared}
use Rattle.mega_index.proofs.Ordered.{Below, Ascends}
use Rattle.mega_index.proofs.KeyLists.{same_self, same_or_not, not_key, key_apart, under}
use Rattle.mega_tape_laws.proofs.Placed.{in_under, under_in}
use Rattle.mega_tape_laws.proofs.RowKeys.{Standing, stands}
use Rattle.mega_tape_laws.proofs.RootKeys.{no_entry}
use Rattle.mega_tape_laws.proofs.IndexKept.{IndexExact, key_of_table, turned_leaves, replaced_kept}
use Rattle.mega_backup.specs.Restoring.{put_of, put_at, put_before, is_large, with_put, puts_of, after_one}
use Rattle.mega_backup_laws.proofs.Puts.{one_put}

-- a key below all others is none of them
not_below : (k : List ℕ) (es : Listed) (w : Row) → Below k es → In (k, w) es → ⊥
not_below k [] w below of = of
not_below k (e ∷ es) w below (inl is) =
    let less : key_cmp k k ≡ Less = ap (key_cmp k) (sym (ap (λ (x : List ℕ × Row). x.0) is)) ∙ below.0 in
    let no : true ≡ false = sym (same_self k) ∙ ap is_eq less in
    cc
not_below k (e ∷ es) w below (inr of) = not_below k es w below.1 of

under_more : (one : List ℕ × Row) (more : Listed) (k : List ℕ) (w : Row) → Ascends (one ∷ more) → under more k ≡ Some w → under (one ∷ more) k ≡ Some w
under_more one more k w up there = in_under (one ∷ more) (k, w) up (inr (under_in more k w there))

none_first : (one : List ℕ × Row) (more : Listed) → Ascends (one ∷ more) → under more one.0 ≡ None
none_first one more up = by (under more one.0) refl
  where
    by : (o : Option Row) → under more one.0 ≡ o → under more one.0 ≡ None
    by None is = is
    by (Some w) is = absurd (not_below one.0 more w up.0 (under_in more one.0 w is))

under_first : (one : List ℕ × Row) (more : Listed) → under (one ∷ more) one.0 ≡ Some one.1
under_first one more = ap (λ b. cond b (Some one.1) (under more one.0)) (same_self one.0)

abbrev pub or_old : Option Row → Option Row → Option Row
or_old (Some row) old = Some row
or_old None old = old

module _ (s : Schema) (d : IsDeclared s) (group : GroupId) where
  -- rows under row keys stand there
  abbrev pub Stand : Listed → Type 0
  Stand listed = (k : List ℕ) (n : ℕ) (row : Row) → table_of s group.key k ≡ Some n → under listed k ≡ Some row → (t : Table) × (numbered s.tables n ≡ Some t) × Standing s n t k row

  abbrev pub Free : Listed → Rows → Type 0
  Free listed rows = (k : List ℕ) (n : ℕ) (row : Row) → table_of s group.key k ≡ Some n → under listed k ≡ Some row → rows k ≡ None

  -- the rows are kept, and under each row key stands the listed row, or what stood there
  pub record Chain (rows : Rows) (listed : Listed) (final : Rows) : Type 0 where
    pub kept : IndexExact s group.key final
    pub at : (m k_table : ℕ) (u : Table) (values : List Value) (k : List ℕ) → table_of s group.key k ≡ Some k_table → numbered s.tables m ≡ Some u → key_of s m u values ≡ Ok k → final k ≡ or_old (under listed k) (rows k)

  -- what stands under a row key once a row of a table is put
  row_now : (rows : Rows) (n : ℕ) (t : Table) (key : List ℕ) (old new : Option Row) → numbered s.tables n ≡ Some t → (m : ℕ) (u : Table) (values : List Value) (k : List ℕ) → numbered s.tables m ≡ Some u
      → key_of s m u values ≡ Ok k → written (replaced s n key old new) rows k ≡ cond (same_key key k) new (rows k)
  row_now rows n t key old new at m u values k there own =
      ap (λ o. written (index_writes_in s n o old new) (changed rows (record { key = key; row = new })) k) at
      ∙ turned_leaves (local_entries s n t old) (local_entries s n t new) (changed rows (record { key = key; row = new })) k (no_entry s d n m t u values k at there own old) (no_entry s d n m t u values k at there own new)

  -- a put at the front of others
  record Parted (txn : Transaction) (more : Result (List Transaction) (List ℕ)) (txns : List Transaction) : Type 0 where
    rest : List Transaction
    small : is_large s txn ≡ false
    rest_is : more ≡ Ok rest
    whole : txn ∷ rest ≡ txns

  parted : (key : List ℕ) (txn : Transaction) (more : Result (List Transaction) (List ℕ)) (txns : List Transaction) → with_put s key (Some txn) more ≡ Ok txns → Parted txn more txns
  parted key txn more txns h = by (is_large s txn) refl more refl h
    where
      by : (b : Bool) → is_large s txn ≡ b → (r : Result (List Transaction) (List ℕ)) → more ≡ r → cond b (Err key) (put_before txn r) ≡ Ok txns → Parted txn more txns
      by true is r more_is g = absurd (cc)
      by false is (Err large) more_is g = absurd (cc)
      by false is (Ok rest) more_is g = record { rest = rest; small = is; rest_is = more_is; whole = let e : txn ∷ rest ≡ txns = cc in e }

  -- what the puts of rows leave, over any rows
  abbrev On : Listed → Type 0
  On listed = (txns : List Transaction) (rows : Rows) → IndexExact s group.key rows → Stand listed → Free listed rows → puts_of s group listed ≡ Ok txns → Chain rows listed (fold (after_one s) rows txns)

  pub chain : (listed : Listed) (txns : List Transaction) (rows : Rows) → Ascends listed → IndexExact s group.key rows → Stand listed → Free listed rows → puts_of s group listed ≡ Ok txns → Chain rows listed (fold (after_one s) rows txns)
  chain [] txns rows up kept stand free h =
      let none : [] ≡ txns = cc in
      subst (λ (ts : List Transaction). Chain rows [] (fold (after_one s) rows ts)) none (record { kept = kept; at = λ m n u values k of there own. refl })
  chain (one ∷ more) txns rows up kept stand free h = by (λ txns rows kept stand free h. chain more txns rows up.1 kept stand free h) (table_of s group.key one.0) refl h
    where
      stand_more : Stand more
      stand_more k n row of is = stand k n row of (under_more one more k row up is)

      -- a row under no row key is left out
      left_out : (o : Option ℕ) → o ≡ None → table_of s group.key one.0 ≡ o → Chain rows more (fold (after_one s) rows txns) → Chain rows (one ∷ more) (fold (after_one s) rows txns)
      left_out o none is c = record {
        kept = c.kept;
        at = λ m n u values k of there own. c.at m n u values k of there own ∙ ap (λ b. or_old (cond b (Some one.1) (under more k)) (rows k)) (sym (not_key k one.0 (λ same. other k n of same)));
      }
        where
          other : (k : List ℕ) (n : ℕ) → table_of s group.key k ≡ Some n → k ≡ one.0 → ⊥
          other k n of same = let e : None ≡ Some n = sym none ∙ sym is ∙ ap (table_of s group.key) (sym same) ∙ of in cc

      put : On more → (n : ℕ) → table_of s group.key one.0 ≡ Some n → with_put s one.0 (put_at s group (Some n) one.0 one.1) (puts_of s group more) ≡ Ok txns → Chain rows (one ∷ more) (fold (after_one s) rows txns)
      put go n of g =
          subst (λ (ts : List Transaction). Chain rows (one ∷ more) (fold (after_one s) rows ts)) p.whole
          (subst (λ (R : Rows). Chain rows (one ∷ more) (fold (after_one s) R p.rest)) (sym now_is) put_first)
        where
          st : (t : Table) × (numbered s.tables n ≡ Some t) × Standing s n t one.0 one.1
          st = stand one.0 n one.1 of (under_first one more)

          stands_there : stands_in s n (numbered s.tables n) one.0 one.1 ≡ true
          stands_there = ap (λ o. stands_in s n o one.0 one.1) st.1 ∙ stands s n st.0 one.0 one.1 st.2

          p : Parted (put_of group n one.1) (puts_of s group more) txns
          p = parted one.0 (put_of group n one.1) (puts_of s group more) txns (ap (λ b. with_put s one.0 (cond b (Some (put_of group n one.1)) None) (puts_of s group more)) (sym stands_there) ∙ g)

          nothing : rows one.0 ≡ None
          nothing = free one.0 n one.1 of (under_first one more)

          now : Rows
          now = written (replaced s n one.0 (rows one.0) (Some one.1)) rows

          now_is : after_one s rows (put_of group n one.1) ≡ written (replaced s n one.0 (rows one.0) (Some one.1)) rows
          now_is = one_put s group n st.0 one.0 one.1 st.1 st.2 (key_of_table s group.key one.0 n st.0 d.most of st.1) rows nothing p.small

          fits : (row : Row) → Some one.1 ≡ Some row → Standing s n st.0 one.0 row
          fits row e = let same : one.1 ≡ row = cc in subst (Standing s n st.0 one.0) same st.2

          kept_now : IndexExact s group.key (written (replaced s n one.0 (rows one.0) (Some one.1)) rows)
          kept_now = replaced_kept s d.most group.key rows kept one.0 n st.0 of st.1 (Some one.1) fits

          free_now : Free more (written (replaced s n one.0 (rows one.0) (Some one.1)) rows)
          free_now k m row k_of is =
              let k_st = stand_more k m row k_of is in
              row_now rows n st.0 one.0 (rows one.0) (Some one.1) st.1 m k_st.0 _ k k_st.1 (k_st.2).own
              ∙ ap (λ b. cond b (Some one.1) (rows k)) (not_key one.0 k (λ same. first_again k row same is))
              ∙ free k m row k_of (under_more one more k row up is)
            where
              first_again : (k : List ℕ) (row : Row) → one.0 ≡ k → under more k ≡ Some row → ⊥
              first_again k row same is = let e : None ≡ Some row = sym (none_first one more up) ∙ ap (under more) same ∙ is in cc

          rest : Chain (written (replaced s n one.0 (rows one.0) (Some one.1)) rows) more (fold (after_one s) (written (replaced s n one.0 (rows one.0) (Some one.1)) rows) p.rest)
          rest = go p.rest (written (replaced s n one.0 (rows one.0) (Some one.1)) rows) kept_now stand_more free_now p.rest_is

          put_first : Chain rows (one ∷ more) (fold (after_one s) (written (replaced s n one.0 (rows one.0) (Some one.1)) rows) p.rest)
          put_first = record {
            kept = rest.kept;
            at = λ m k_n u values k k_of there own.
                rest.at m k_n u values k k_of there own
                ∙ ap (or_old (under more k)) (row_now rows n st.0 one.0 (rows one.0) (Some one.1) st.1 m u values k there own)
                ∙ joined k (same_or_not one.0 k);
          }
            where
              joined : (k : List ℕ) → (one.0 ≡ k) ⊎ (same_key one.0 k ≡ false) → or_old (under more k) (cond (same_key one.0 k) (Some one.1) (rows k)) ≡ or_old (cond (same_key k one.0) (Some one.1) (under more k)) (rows k)
              joined k (inl same) =
                  ap (λ o. or_old o (cond (same_key one.0 k) (Some one.1) (rows k))) (ap (under more) (sym same) ∙ none_first one more up)
                  ∙ ap (λ b. cond b (Some one.1) (rows k)) (ap (same_key one.0) (sym same) ∙ same_self one.0)
                  ∙ ap (λ b. or_old (cond b (Some one.1) (under more k)) (rows k)) (sym (ap (λ x. same_key x one.0) (sym same) ∙ same_self one.0))
              joined k (inr apart) =
                  ap (λ b. or_old (under more k) (cond b (Some one.1) (rows k))) apart
                  ∙ ap (λ b. or_old (cond b (Some one.1) (under more k)) (rows k)) (sym (not_key k one.0 (λ same. key_apart one.0 k apart (sym same))))

      by : On more → (o : Option ℕ) → table_of s group.key one.0 ≡ o → with_put s one.0 (put_at s group o one.0 one.1) (puts_of s group more) ≡ Ok txns → Chain rows (one ∷ more) (fold (after_one s) rows txns)
      by go None is g = left_out None refl is (go txns rows kept stand_more (λ k n row of there. free k n row of (under_more one more k row up there)) g)
      by go (Some n) is g = put go n is g
