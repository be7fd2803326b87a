-- What an item of a transaction does to the rows: it replaces a row of a table by one that fits, along with its local index writes.
use Rattle.std.proofs.Common.{◌≡◌, ◌⊎◌, inl, inr, ℕ, cond, Bool, true, false, ◌&&◌, not, ◌==◌, if◌then◌else◌, ℤ, ◌+ℤ◌, List, [], ◌∷◌, find, is_some, refl, sym, ap, ◌∙◌, subst, Option, Some, None, Result, Ok, Err}
use Rattle.std.specs.Option.{option_map_or}
use Rattle.mega_base.specs.declared.values.Value.{Value}
use Rattle.mega_base.specs.declared.values.Kind.{Kind}
use Rattle.mega_base.specs.declared.values.Cell.{Cell}
use Rattle.mega_base.specs.declared.values.Row.{Row}
use Rattle.mega_entry.specs.declared.content.Write.{Write}
use Rattle.mega_schema.specs.declared.schema.Property.{Property}
use Rattle.mega_schema.specs.declared.schema.Table.{Table}
use Rattle.mega_schema.specs.declared.schema.Schema.{Schema}
use Rattle.mega_keys.specs.declared.fault.KeyFault.{KeyFault}
use Rattle.mega_keys.specs.Fit.{AreValues}
use Rattle.mega_index.specs.Rows.{Rows, same_key}
use Rattle.mega_index.specs.Cells.{values_of, key_values, leading, is_listed, row_set}
use Rattle.mega_index.specs.Fits.{numbered, group_of, key_of, row_fits, fits, fits_in, long_key}
use Rattle.mega_outcome.specs.declared.answer.Turn.{Turn}
use Rattle.mega_outcome.specs.declared.answer.Turn.TheVariants.{BadRow, OtherGroup}
use Rattle.mega_outcome.specs.declared.transaction.Change.{Change}
use Rattle.mega_outcome.specs.declared.transaction.Change.TheVariants.{Put, Delete, Add}
use Rattle.mega_outcome.specs.declared.transaction.RowRef.{RowRef}
use Rattle.mega_outcome.specs.Places.{◌>>=◌, spelled, placed, key_in_table, key_in}
use Rattle.mega_outcome.specs.Changes.{replaced, put_in, delete_at, is_number, number_of, number_value, or_overflow, sum_of, add_to, add_in, add_at, change}
use Rattle.mega_tape_laws.specs.Indexed.{HoldValues, PutsValues}
use Rattle.mega_index.proofs.KeyLists.{key_is}
use Rattle.mega_tape_laws.proofs.RowKeys.{Standing}
use Rattle.mega_tape_laws.proofs.IndexKeys.{values_in}
use Rattle.mega_tape_laws.proofs.IndexAdd.{number_facts, add_stands}

-- ---- results

pub bind_turn : {A B : Type 0} (r : Result A Turn) (f : A → Result B Turn) (y : B) → (r >>= f) ≡ Ok y → (x : A) × (r ≡ Ok x) × (f x ≡ Ok y)
bind_turn (Ok x) f y h = (x, refl, h)
bind_turn (Err e) f y h = absurd (cc)

guarded : {A : Type 0} (b : Bool) (x y : A) (e : Turn) → cond b (Ok x) (Err e) ≡ Ok y → (b ≡ true) × (x ≡ y)
guarded true x y e h = (refl, cc)
guarded false x y e h = absurd (cc)

-- ---- values that the program can hold

held_values : (cells : List Cell) → HoldValues cells → (n : ℕ) → AreValues (values_in cells n)
held_values [] h n = tt
held_values (c ∷ cs) h n = by (c.property == n) (held_values cs h.1 n)
  where
    by : (b : Bool) → AreValues (values_in cs n) → AreValues (option_map_or (λ (c : Cell). c.values) (cond b (Some c) (find (λ (c : Cell). c.property == n) cs)) [])
    by true more = h.0
    by false more = more

held_lead : (vs others : List Value) → AreValues vs → AreValues others → AreValues (leading vs others)
held_lead [] others h g = tt
held_lead (v ∷ []) others h g = (h.0, g)
held_lead (v ∷ w ∷ vs) others h g = tt

held_keys : (row : Row) → HoldValues row.cells → (ns : List ℕ) → AreValues (key_values ns row)
held_keys row h [] = tt
held_keys row h (n ∷ ns) = held_lead (values_of row n) (key_values ns row) (held_values row.cells h n) (held_keys row h ns)

-- ---- the key that an item names

placed_ok : (i : ℕ) (group : List ℕ) (g k : Result (List ℕ) KeyFault) (key : List ℕ) → placed i group g k ≡ Ok key → (g ≡ Ok group) × (k ≡ Ok key)
placed_ok i group (Err fault) k key h = absurd (cc)
placed_ok i group (Ok own) k key h = let r = by (same_key own group) refl k h in (ap Ok r.0, r.1)
  where
    by : (b : Bool) → same_key own group ≡ b → (k : Result (List ℕ) KeyFault) → cond b (spelled i k) (Err (OtherGroup i)) ≡ Ok key → (own ≡ group) × (k ≡ Ok key)
    by true is (Ok x) g = (key_is own group is, let same : x ≡ key = cc in ap Ok same)
    by true is (Err fault) g = absurd (cc)
    by false is k g = absurd (cc)

pub key_in_at : (s : Schema) (group : List ℕ) (i n : ℕ) (t : Table) (values : List Value) (key : List ℕ) → numbered s.tables n ≡ Some t → key_in s group i n values ≡ Ok key
    → (group_of s n t values ≡ Ok group) × (key_of s n t values ≡ Ok key)
key_in_at s group i n t values key is h = placed_ok i group (group_of s n t values) (key_of s n t values) key (sym (ap (λ o. key_in_table s group i n o values) is) ∙ h)

pub key_in_table_of : (s : Schema) (group : List ℕ) (i n : ℕ) (values : List Value) (key : List ℕ) → key_in s group i n values ≡ Ok key → (t : Table) × (numbered s.tables n ≡ Some t)
key_in_table_of s group i n values key h = by (numbered s.tables n) h
  where
    by : (o : Option Table) → key_in_table s group i n o values ≡ Ok key → (t : Table) × (o ≡ Some t)
    by None g = absurd (cc)
    by (Some t) g = (t, refl)

-- ---- what an item replaces

-- a row under a key of the group is replaced, by one that stands there where the old one did; a row that is put has values that the
-- program can hold where its change has, and another item finds a row
pub record Replaces (s : Schema) (group : List ℕ) (rows : Rows) (c : Change) (writes : List Write) : Type 0 where
  pub number : ℕ
  pub table : Table
  pub values : List Value
  pub key : List ℕ
  pub new : Option Row
  pub numbered_is : numbered s.tables number ≡ Some table
  pub of_group : group_of s number table values ≡ Ok group
  pub own : key_of s number table values ≡ Ok key
  pub is : replaced s number key (rows key) new ≡ writes
  pub fits : ((old : Row) → rows key ≡ Some old → Standing s number table key old) → (row : Row) → new ≡ Some row → Standing s number table key row
  pub held : PutsValues c → AreValues values ⊎ ((old : Row) × (rows key ≡ Some old))

module _ (s : Schema) (group : List ℕ) (rows : Rows) (i : ℕ) (writes : List Write) where
  put_replaces : (n : ℕ) (row : Row) → put_in s group rows i n (numbered s.tables n) row ≡ Ok writes → Replaces s group rows (Put n row) writes
  put_replaces n row h = by (numbered s.tables n) refl h
    where
      by : (o : Option Table) → numbered s.tables n ≡ o → put_in s group rows i n o row ≡ Ok writes → Replaces s group rows (Put n row) writes
      by None at g = absurd (cc)
      by (Some t) at g =
          let k = bind_turn (key_in s group i n (key_values t.primary row)) (λ key. if fits s n row then Ok (replaced s n key (rows key) (Some row)) else Err (BadRow i)) writes g in
          let parts = key_in_at s group i n t (key_values t.primary row) k.0 at k.1 in
          let q = guarded (fits s n row) (replaced s n k.0 (rows k.0) (Some row)) writes (BadRow i) k.2 in
          let fit : row_fits s n t row ≡ true = sym (ap (λ o. fits_in s n o row) at) ∙ q.0 in
          record {
            number = n;
            table = t;
            values = key_values t.primary row;
            key = k.0;
            new = Some row;
            numbered_is = at;
            of_group = parts.0;
            own = parts.1;
            is = q.1;
            fits = λ old other same. (let e : row ≡ other = cc in subst (Standing s n t k.0) e (record { own = parts.1; fits = fit }));
            held = λ held. inl (held_keys row held t.primary);
          }

  delete_replaces : (row : RowRef) → (key_in s group i row.table row.key >>= λ key. delete_at s i row.table key (rows key)) ≡ Ok writes → Replaces s group rows (Delete row) writes
  delete_replaces row h =
      let k = bind_turn (key_in s group i row.table row.key) (λ key. delete_at s i row.table key (rows key)) writes h in
      let t = key_in_table_of s group i row.table row.key k.0 k.1 in
      by k.0 t.0 t.1 (key_in_at s group i row.table t.0 row.key k.0 t.1 k.1) (rows k.0) refl k.2
    where
      no_some : (x : Row) → None ≡ Some x → ⊥
      no_some x e = cc

      by : (key : List ℕ) (t : Table) → numbered s.tables row.table ≡ Some t → (group_of s row.table t row.key ≡ Ok group) × (key_of s row.table t row.key ≡ Ok key) → (o : Option Row) → rows key ≡ o
          → delete_at s i row.table key o ≡ Ok writes → Replaces s group rows (Delete row) writes
      by key t at parts None stands g = absurd (cc)
      by key t at parts (Some old) stands g =
          let same : replaced s row.table key (Some old) None ≡ writes = cc in
          record {
            number = row.table;
            table = t;
            values = row.key;
            key = key;
            new = None;
            numbered_is = at;
            of_group = parts.0;
            own = parts.1;
            is = ap (λ o. replaced s row.table key o None) stands ∙ same;
            fits = λ old other none. absurd (no_some other none);
            held = λ held. inr (old, stands);
          }

  summed : (kind : Kind) (sum : ℤ) (o : Option ℤ) (long : Bool) (v : Value) → sum_of i kind o long sum ≡ Ok v → (z : ℤ) × (o ≡ Some z) × (number_value kind (z +ℤ sum) ≡ Some v)
  summed kind sum None long v e = absurd (cc)
  summed kind sum (Some z) true v e = absurd (cc)
  summed kind sum (Some z) false v e = (z, refl, found (number_value kind (z +ℤ sum)) e)
    where
      found : (o : Option Value) → or_overflow i o ≡ Ok v → o ≡ Some v
      found None e = absurd (cc)
      found (Some u) e = let same : u ≡ v = cc in ap Some same

  add_replaces : (row : RowRef) (property : ℕ) (sum : ℤ)
      → (key_in s group i row.table row.key >>= λ key. add_at s i row.table (numbered s.tables row.table) key property (rows key) sum) ≡ Ok writes → Replaces s group rows (Add row property sum) writes
  add_replaces row property sum h =
      let n = row.table in
      let k = bind_turn (key_in s group i n row.key) (λ key. add_at s i n (numbered s.tables n) key property (rows key) sum) writes h in
      let t = key_in_table_of s group i n row.key k.0 k.1 in
      to_table k.0 t.0 t.1 (key_in_at s group i n t.0 row.key k.0 t.1 k.1) (numbered (t.0).properties property) refl
      (sym (ap (λ o. add_at s i n o k.0 property (rows k.0) sum) t.1) ∙ k.2)
    where
      to_row : (key : List ℕ) (t : Table) → numbered s.tables row.table ≡ Some t → (group_of s row.table t row.key ≡ Ok group) × (key_of s row.table t row.key ≡ Ok key) → (p : Property) → numbered t.properties property ≡ Some p
          → is_number p.kind p.need ≡ true → is_listed t.primary property ≡ false → (o : Option Row) → rows key ≡ o → add_to s i row.table t key property p.kind o sum ≡ Ok writes → Replaces s group rows (Add row property sum) writes
      to_row key t at parts p of number free None stands g = absurd (cc)
      to_row key t at parts p of number free (Some old) stands g =
          let n = row.table in
          let v = bind_turn (sum_of i p.kind (number_of p.kind (values_of old property)) (is_some (long_key s n t old)) sum) (λ v. Ok (replaced s n key (Some old) (Some (row_set old property v)))) writes g in
          let same : replaced s n key (Some old) (Some (row_set old property v.0)) ≡ writes = (let e = v.2 in cc) in
          let sums = summed p.kind sum (number_of p.kind (values_of old property)) (is_some (long_key s n t old)) v.0 v.1 in
          let facts = number_facts p.kind (values_of old property) sums.0 (sums.0 +ℤ sum) v.0 sums.1 sums.2 in
          record {
            number = n;
            table = t;
            values = row.key;
            key = key;
            new = Some (row_set old property v.0);
            numbered_is = at;
            of_group = parts.0;
            own = parts.1;
            is = ap (λ o. replaced s n key o (Some (row_set old property v.0))) stands ∙ same;
            fits = λ standing other e. (let f : row_set old property v.0 ≡ other = cc in
                subst (Standing s n t key) f (add_stands s n t key old property p v.0 facts.0 (standing old stands) of number free facts.1 facts.2 facts.3));
            held = λ held. inr (old, stands);
          }

      to_table : (key : List ℕ) (t : Table) → numbered s.tables row.table ≡ Some t → (group_of s row.table t row.key ≡ Ok group) × (key_of s row.table t row.key ≡ Ok key) → (o : Option Property) → numbered t.properties property ≡ o
          → add_in s i row.table t key property o (rows key) sum ≡ Ok writes → Replaces s group rows (Add row property sum) writes
      to_table key t at parts None of g = absurd (cc)
      to_table key t at parts (Some p) of g = tested (is_number p.kind p.need) (is_listed t.primary property) refl refl g
        where
          tested : (b l : Bool) → is_number p.kind p.need ≡ b → is_listed t.primary property ≡ l → cond (b && not l) (add_to s i row.table t key property p.kind (rows key) sum) (Err (BadRow i)) ≡ Ok writes
              → Replaces s group rows (Add row property sum) writes
          tested true false number free e = to_row key t at parts p of number free (rows key) refl e
          tested true true number free e = absurd (cc)
          tested false l number free e = absurd (cc)

  pub change_replaces : (c : Change) → change s group rows i c ≡ Ok writes → Replaces s group rows c writes
  change_replaces (Put n row) h = put_replaces n row h
  change_replaces (Delete row) h = delete_replaces row h
  change_replaces (Add row property sum) h = add_replaces row property sum h
