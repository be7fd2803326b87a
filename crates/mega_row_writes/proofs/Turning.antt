-- The writes turn the old rows into the new ones.
use Rattle.std.proofs.Common.{◌≡◌, ◌∙◌, ap, sym, subst, refl, ℕ, Bool, true, false, cond, List, [], ◌∷◌, ◌++◌}
use Rattle.std.specs.Prelude.{Option, Some, None, is_none}
use Rattle.std.specs.Bool.{Decides}
use Rattle.std.proofs.lemmas.Map.Text.{is_eq-slice_cmp}
use Rattle.std.proofs.lemmas.Slice.Eq.{bytes_eq-Decides}
use Rattle.std.proofs.lemmas.List.Sums.{fold-append}
use Rattle.mega_base.specs.declared.values.Row.{Row}
use Rattle.mega_entry.specs.declared.content.Write.{Write}
use Rattle.mega_entry.proofs.Sames.{rows}
use Rattle.mega_row_writes.specs.Rows.{Rows, Listed, same_key, changed, written, row_under}
use Rattle.mega_row_writes.specs.RowWrites.{is_row, gone_one, gone, fresh_one, fresh, turned, Apart}

pub same_key-Decides : (a b : List ℕ) → Decides (same_key a b) (a ≡ b)
same_key-Decides a b = subst (λ (r : Bool). Decides r (a ≡ b)) (sym (is_eq-slice_cmp a b)) (bytes_eq-Decides a b)

same_key-sym : (a b : List ℕ) → same_key a b ≡ false → same_key b a ≡ false
same_key-sym a b h = by (same_key b a) refl
  where
    by : (r : Bool) → same_key b a ≡ r → same_key b a ≡ false
    by false e = e
    by true e = absurd (differ (sym h ∙ (same_key-Decides a b).1 (sym ((same_key-Decides b a).0 e))))
      where
        differ : false ≡ true → ⊥
        differ e = cc

-- what stands under a key after one more entry
under-here : (e : List ℕ × Row) (es : Listed) (k : List ℕ) → same_key k e.0 ≡ true → row_under (e ∷ es) k ≡ Some e.1
under-here e es k h = ap (λ b. cond b (Some e.1) (row_under es k)) h

under-there : (e : List ℕ × Row) (es : Listed) (k : List ℕ) → same_key k e.0 ≡ false → row_under (e ∷ es) k ≡ row_under es k
under-there e es k h = ap (λ b. cond b (Some e.1) (row_under es k)) h

-- a write under another key leaves the row
changed-there : (R : Rows) (w : Write) (k : List ℕ) → same_key w.key k ≡ false → changed R w k ≡ R k
changed-there R w k h = ap (λ b. cond b w.row (R k)) h

changed-here : (R : Rows) (w : Write) (k : List ℕ) → same_key w.key k ≡ true → changed R w k ≡ w.row
changed-here R w k h = ap (λ b. cond b w.row (R k)) h

-- a decided case, with its equation
by_case : (b : Bool) (P : Type 0) → (b ≡ true → P) → (b ≡ false → P) → P
by_case true P on_true on_false = on_true refl
by_case false P on_true on_false = on_false refl

none-some : {A : Type 0} (x : A) → Some x ≡ None → ⊥
none-some x e = cc

is_none-none : {A : Type 0} (o : Option A) → is_none o ≡ true → o ≡ None
is_none-none None h = refl
is_none-none (Some x) h = cc

is_none-is : {A : Type 0} (o : Option A) → o ≡ None → is_none o ≡ true
is_none-is None h = refl
is_none-is (Some x) h = cc

one_gone : (new : Listed) (e : List ℕ × Row) (b : Bool) → is_none (row_under new e.0) ≡ b → gone_one new e ≡ cond b (record { key = e.0; row = None } ∷ []) []
one_gone new e b h = ap (λ (b : Bool). cond b (record { key = e.0; row = None } ∷ []) []) h

-- a key that is among the new entries is not cleared
pub gone-keeps : (new es : Listed) (R : Rows) (k : List ℕ) (r : Row) → row_under new k ≡ Some r → written (gone new es) R k ≡ R k
gone-keeps new [] R k r h = refl
gone-keeps new (e ∷ es) R k r h =
    by_case (is_none (row_under new e.0)) (written (gone new (e ∷ es)) R k ≡ R k)
    (λ none.
    let split : written (gone new (e ∷ es)) R k ≡ written (gone new es) (changed R (record { key = e.0; row = None })) k = ap (λ ws. written (ws ++ gone new es) R k) (one_gone new e true none) in
    split ∙ gone-keeps new es (changed R (record { key = e.0; row = None })) k r h
    ∙ by_case (same_key e.0 k) (changed R (record { key = e.0; row = None }) k ≡ R k)
    (λ same. absurd (none-some r (sym h ∙ ap (row_under new) (sym ((same_key-Decides e.0 k).0 same)) ∙ is_none-none (row_under new e.0) none)))
    (λ apart. changed-there R (record { key = e.0; row = None }) k apart))
    (λ some. ap (λ ws. written (ws ++ gone new es) R k) (one_gone new e false some) ∙ gone-keeps new es R k r h)

-- a key that is not among the new entries is cleared
pub gone-clears : (new es : Listed) (R : Rows) (k : List ℕ) → row_under new k ≡ None → (row_under es k ≡ None → R k ≡ None) → written (gone new es) R k ≡ None
gone-clears new [] R k h left = left refl
gone-clears new (e ∷ es) R k h left =
    by_case (same_key e.0 k) (written (gone new (e ∷ es)) R k ≡ None)
    (λ same.
    let none : is_none (row_under new e.0) ≡ true = is_none-is (row_under new e.0) (ap (row_under new) ((same_key-Decides e.0 k).0 same) ∙ h) in
    let split : written (gone new (e ∷ es)) R k ≡ written (gone new es) (changed R (record { key = e.0; row = None })) k = ap (λ ws. written (ws ++ gone new es) R k) (one_gone new e true none) in
    split ∙ gone-clears new es (changed R (record { key = e.0; row = None })) k h (λ _. changed-here R (record { key = e.0; row = None }) k same))
    (λ apart.
    by_case (is_none (row_under new e.0)) (written (gone new (e ∷ es)) R k ≡ None)
    (λ none.
    let split : written (gone new (e ∷ es)) R k ≡ written (gone new es) (changed R (record { key = e.0; row = None })) k = ap (λ ws. written (ws ++ gone new es) R k) (one_gone new e true none) in
    split ∙ gone-clears new es (changed R (record { key = e.0; row = None })) k h
    (λ rest. changed-there R (record { key = e.0; row = None }) k apart ∙ left (under-there e es k (same_key-sym e.0 k apart) ∙ rest)))
    (λ some.
    ap (λ ws. written (ws ++ gone new es) R k) (one_gone new e false some)
    ∙ gone-clears new es R k h (λ rest. left (under-there e es k (same_key-sym e.0 k apart) ∙ rest))))

one_fresh : (old : Listed) (e : List ℕ × Row) (b : Bool) → is_row (row_under old e.0) e.1 ≡ b → fresh_one old e ≡ cond b [] (record { key = e.0; row = Some e.1 } ∷ [])
one_fresh old e b h = ap (λ (b : Bool). cond b [] (record { key = e.0; row = Some e.1 } ∷ [])) h

-- a key that is not among these entries is left
pub fresh-keeps : (old es : Listed) (R : Rows) (k : List ℕ) → row_under es k ≡ None → written (fresh old es) R k ≡ R k
fresh-keeps old [] R k h = refl
fresh-keeps old (e ∷ es) R k h =
    by_case (same_key k e.0) (written (fresh old (e ∷ es)) R k ≡ R k)
    (λ same. absurd (none-some e.1 (sym (under-here e es k same) ∙ h)))
    (λ apart.
    let rest : row_under es k ≡ None = sym (under-there e es k apart) ∙ h in
    by_case (is_row (row_under old e.0) e.1) (written (fresh old (e ∷ es)) R k ≡ R k)
    (λ there. ap (λ ws. written (ws ++ fresh old es) R k) (one_fresh old e true there) ∙ fresh-keeps old es R k rest)
    (λ other.
    let split : written (fresh old (e ∷ es)) R k ≡ written (fresh old es) (changed R (record { key = e.0; row = Some e.1 })) k = ap (λ ws. written (ws ++ fresh old es) R k) (one_fresh old e false other) in
    split ∙ fresh-keeps old es (changed R (record { key = e.0; row = Some e.1 })) k rest
    ∙ changed-there R (record { key = e.0; row = Some e.1 }) k (same_key-sym k e.0 apart)))

is_row-is : (o : Option Row) (r : Row) → is_row o r ≡ true → o ≡ Some r
is_row-is None r h = cc
is_row-is (Some old) r h = ap Some (rows.equal old r h)

-- a key that is among them has its row then
pub fresh-sets : (old es : Listed) (R : Rows) (k : List ℕ) (r : Row) → Apart es → row_under es k ≡ Some r → R k ≡ row_under old k → written (fresh old es) R k ≡ Some r
fresh-sets old [] R k r apart h kept = absurd (none-some r (sym h))
fresh-sets old (e ∷ es) R k r apart h kept =
    by_case (same_key k e.0) (written (fresh old (e ∷ es)) R k ≡ Some r)
    (λ same.
    let is : k ≡ e.0 = (same_key-Decides k e.0).0 same in
    let rest : row_under es k ≡ None = ap (row_under es) is ∙ apart.0 in
    let row : Some e.1 ≡ Some r = sym (under-here e es k same) ∙ h in
    by_case (is_row (row_under old e.0) e.1) (written (fresh old (e ∷ es)) R k ≡ Some r)
    (λ there.
    ap (λ ws. written (ws ++ fresh old es) R k) (one_fresh old e true there)
    ∙ fresh-keeps old es R k rest ∙ kept ∙ ap (row_under old) is ∙ is_row-is (row_under old e.0) e.1 there ∙ row)
    (λ other.
    let split : written (fresh old (e ∷ es)) R k ≡ written (fresh old es) (changed R (record { key = e.0; row = Some e.1 })) k = ap (λ ws. written (ws ++ fresh old es) R k) (one_fresh old e false other) in
    split ∙ fresh-keeps old es (changed R (record { key = e.0; row = Some e.1 })) k rest
    ∙ changed-here R (record { key = e.0; row = Some e.1 }) k ((same_key-Decides e.0 k).1 (sym is)) ∙ row))
    (λ not_here.
    let rest : row_under es k ≡ Some r = sym (under-there e es k not_here) ∙ h in
    by_case (is_row (row_under old e.0) e.1) (written (fresh old (e ∷ es)) R k ≡ Some r)
    (λ there. ap (λ ws. written (ws ++ fresh old es) R k) (one_fresh old e true there) ∙ fresh-sets old es R k r apart.1 rest kept)
    (λ other.
    let split : written (fresh old (e ∷ es)) R k ≡ written (fresh old es) (changed R (record { key = e.0; row = Some e.1 })) k = ap (λ ws. written (ws ++ fresh old es) R k) (one_fresh old e false other) in
    split ∙ fresh-sets old es (changed R (record { key = e.0; row = Some e.1 })) k r apart.1 rest
    (changed-there R (record { key = e.0; row = Some e.1 }) k (same_key-sym k e.0 not_here) ∙ kept)))

-- the writes of both, one after another
both : (new old : Listed) (R : Rows) (k : List ℕ) → written (turned old new) R k ≡ written (fresh old new) (written (gone new old) R) k
both new old R k = ap (λ (S : Rows). S k) (fold-append changed R (gone new old) (fresh old new))

pub turned_turns : (old new : Listed) (k : List ℕ) → Apart new → written (turned old new) (row_under old) k ≡ row_under new k
turned_turns old new k apart = both new old (row_under old) k ∙ by (row_under new k) refl
  where
    by : (o : Option Row) → row_under new k ≡ o → written (fresh old new) (written (gone new old) (row_under old)) k ≡ row_under new k
    by None e = fresh-keeps old new (written (gone new old) (row_under old)) k e ∙ gone-clears new old (row_under old) k e (λ h. h) ∙ sym e
    by (Some r) e = fresh-sets old new (written (gone new old) (row_under old)) k r apart e (gone-keeps new old (row_under old) k r e) ∙ sym e
