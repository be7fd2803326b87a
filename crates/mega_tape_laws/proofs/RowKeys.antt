-- Row keys of a group: each is that of one table alone, and behind the group's bytes it has the table's number.
use Rattle.std.proofs.Common.{◌≡◌, ℕ, zero, suc, ◌+◌, ◌-◌, ◌≤◌, cond, ltb, eqb, Bool, true, false, ◌&&◌, List, [], ◌∷◌, ◌++◌, length, take, drop, slice_get, refl, sym, ap, ◌∙◌, subst, arith, length-append, take_at, take_all, le-ltb, ltb-false, Option, Some, None, Result, Ok, Err}
use Rattle.std.proofs.lemmas.Bool.Decides.{nat_tests}
use Rattle.std.proofs.lemmas.Bool.{and_parts}
use Rattle.mega_base.specs.declared.values.Value.{Value}
use Rattle.mega_base.specs.declared.values.Kind.{Kind}
use Rattle.mega_base.specs.declared.values.Shape.{Shape}
use Rattle.mega_base.specs.declared.values.Row.{Row}
use Rattle.mega_schema.specs.declared.schema.Table.{Table}
use Rattle.mega_schema.specs.declared.schema.Schema.{Schema}
use Rattle.mega_schema.specs.Shaping.{shape_of}
use Rattle.mega_keys.specs.declared.fault.KeyFault.{KeyFault}
use Rattle.mega_keys.specs.declared.fault.KeyFault.TheVariants.{Missing, TooLong, NotKey}
use Rattle.mega_keys.specs.Spelling.{spell_all, scattered, scatter_of, head_bytes, root_part, rest_part, row_bytes, group_bytes}
use Rattle.mega_keys.specs.Fit.{has_kind, misplaced, key_kinds, AreValues}
use Rattle.mega_keys.specs.Answers.{limited, fault_or_missing, fault_of, unless_fault, row_key_of, group_key_of}
use Rattle.mega_keys.specs.Reading.{◌>>=◌, values_at, byte_at, marks_at, agree, root_at, key_front_at, key_at, answer_of, read_key_of}
use Rattle.mega_keys.proofs.Takes.{bind_ok, ok_parts}
use Rattle.mega_keys.proofs.Keys.{byte_takes, read_only, key_read_back}
use Rattle.mega_index.specs.Rows.{same_key}
use Rattle.mega_index.specs.Cells.{key_values}
use Rattle.mega_index.specs.Fits.{numbered, group_of, key_of, group_bytes_of, row_fits, stands_in}
use Rattle.mega_index.specs.Fitted.{is_key_of, table_in, table_of}
use Rattle.mega_index.proofs.KeyLists.{key_is, same_self}
use Rattle.mega_tape_laws.proofs.Spelled.{Alike, AreOf, fronts, Passed, values_pass, values_reread, RereadAll, alike_head}

-- ---- values that have no fault

placed_kinds : (ks : List Kind) (vs : List Value) (i : ℕ) → misplaced ks vs i ≡ None → length ks ≤ length vs → AreOf ks vs
placed_kinds [] [] i e le = tt
placed_kinds [] (v ∷ vs) i e le = absurd (cc)
placed_kinds (k ∷ ks) [] i e le = absurd (omega (arith, le))
placed_kinds (k ∷ ks) (v ∷ vs) i e le = by (has_kind k v) refl (λ g. placed_kinds ks vs (i + 1) g (omega (arith, le))) e
  where
    by : (t : Bool) → has_kind k v ≡ t → (misplaced ks vs (i + 1) ≡ None → AreOf ks vs) → cond t (misplaced ks vs (i + 1)) (Some i) ≡ None → AreOf (k ∷ ks) (v ∷ vs)
    by true is more g = (is, more g)
    by false is more g = absurd (cc)

pub record Spelt (ks : List Kind) (vs : List Value) (bytes key : List ℕ) : Type 0 where
  pub kinds : AreOf ks vs
  pub is : key ≡ bytes
  pub short : length key ≤ 1024

limit : (bytes key : List ℕ) → limited bytes ≡ Ok key → (key ≡ bytes) × (length key ≤ 1024)
limit bytes key e = by (ltb 1024 (length bytes)) refl e
  where
    by : (t : Bool) → ltb 1024 (length bytes) ≡ t → cond {A = Result (List ℕ) KeyFault} t (Err (TooLong (length bytes))) (Ok bytes) ≡ Ok key → (key ≡ bytes) × (length key ≤ 1024)
    by true is g = absurd (cc)
    by false is g = let same : bytes ≡ key = cc in (sym same, omega (arith, ap length same, ltb-false 1024 (length bytes) is))

spelt : (ks : List Kind) (vs : List Value) (bytes key : List ℕ) → unless_fault (fault_of ks vs) bytes ≡ Ok key → Spelt ks vs bytes key
spelt ks vs bytes key e = by (misplaced ks vs 0) refl e
  where
    counted : (t : Bool) → ltb (length vs) (length ks) ≡ t → misplaced ks vs 0 ≡ None → unless_fault (cond t (Err (Missing (length vs))) (Ok tt)) bytes ≡ Ok key → Spelt ks vs bytes key
    counted true is none g = absurd (cc)
    counted false is none g = let l = limit bytes key g in record { kinds = placed_kinds ks vs 0 none (ltb-false _ _ is); is = l.0; short = l.1 }

    by : (m : Option ℕ) → misplaced ks vs 0 ≡ m → unless_fault (fault_or_missing m (length vs) (length ks)) bytes ≡ Ok key → Spelt ks vs bytes key
    by (Some i) is g = absurd (cc)
    by None is g = counted (ltb (length vs) (length ks)) refl is g

pub key_spelt : (shape : Shape) (vs : List Value) (key : List ℕ) → row_key_of shape vs ≡ Ok key → Spelt (key_kinds shape) vs (row_bytes shape vs) key
key_spelt shape vs key e = spelt (key_kinds shape) vs (row_bytes shape vs) key e

pub group_spelt : (shape : Shape) (vs : List Value) (group : List ℕ) → group_key_of shape vs ≡ Ok group → Spelt shape.root_kinds vs (group_bytes shape vs) group
group_spelt shape vs group e = spelt shape.root_kinds vs (group_bytes shape vs) group e

-- ---- what stands behind the bytes of the group

-- behind as many bytes as the group has stands this one
pub record Behind (group key : List ℕ) (byte : ℕ) : Type 0 where
  pub front : List ℕ
  pub rest : List ℕ
  pub is : key ≡ front ++ byte ∷ rest
  pub length_is : length front ≡ length group

pub behind_one : (group key : List ℕ) (b c : ℕ) → Behind group key b → Behind group key c → b ≡ c
behind_one group key b c x y =
    let same = (fronts x.front y.front (b ∷ x.rest) (c ∷ y.rest) (x.length_is ∙ sym y.length_is) (sym x.is ∙ y.is)).1 in cc

-- a key that is spelled
pub spelt_behind : (shape : Shape) (vs : List Value) → Behind (group_bytes shape (root_part shape vs)) (row_bytes shape vs) shape.table
spelt_behind shape vs = record {
  front = head_bytes shape.space shape.scatter (root_part shape vs);
  rest = spell_all (rest_part shape vs);
  is = refl;
  length_is = refl;
}

-- a key that is read
root_passes : (s : Bool) (ks : List Kind) (bytes : List ℕ) (vs : List Value) (left : List ℕ) → root_at s ks bytes ≡ Ok (vs, left) → Passed bytes (length (scatter_of s vs ++ spell_all vs)) left × (length vs ≡ length ks)
unfolding root_at marks_at scattered
root_passes false ks bytes vs left h = let p = values_pass ks bytes vs left h in (p.passed, p.count)
root_passes true ks [] vs left h = absurd (cc)
root_passes true ks (a ∷ []) vs left h = absurd (cc)
root_passes true ks (a ∷ b ∷ marked) vs left h =
    let r = bind_ok (values_at ks marked) (λ root. agree (a ∷ b ∷ []) (scattered root.0) (length (a ∷ b ∷ marked)) >>= λ _. Ok root) (vs, left) h in
    let g = bind_ok (agree (a ∷ b ∷ []) (scattered (r.0).0) (length (a ∷ b ∷ marked))) (λ _. Ok r.0) (vs, left) r.2 in
    let parts = ok_parts g.2 in
    let p = values_pass ks marked (r.0).0 (r.0).1 r.1 in
    rw (← parts.0) (record { front = a ∷ b ∷ (p.passed).front; is = ap (λ x. a ∷ b ∷ x) ((p.passed).is ∙ ap (λ x. (p.passed).front ++ x) parts.1); length_is = ap (λ n. suc (suc n)) (p.passed).length_is }, p.count)

front_behind : (shape : Shape) (key : List ℕ) (vs : List Value) (left : List ℕ) → key_front_at shape key ≡ Ok (vs, left) → Behind (group_bytes shape (root_part shape vs)) key shape.table
unfolding key_front_at
front_behind shape key vs left h =
    let a = bind_ok (byte_at shape.space key) (λ head. root_at shape.scatter shape.root_kinds head >>= λ a. byte_at shape.table a.1 >>= λ table. values_at shape.rest_kinds table >>= λ b. Ok (a.0 ++ b.0, b.1)) (vs, left) h in
    let first = byte_takes shape.space key a.0 a.1 in
    let r = bind_ok (root_at shape.scatter shape.root_kinds a.0) (λ a. byte_at shape.table a.1 >>= λ table. values_at shape.rest_kinds table >>= λ b. Ok (a.0 ++ b.0, b.1)) (vs, left) a.2 in
    let root = root_passes shape.scatter shape.root_kinds a.0 (r.0).0 (r.0).1 r.1 in
    let t = bind_ok (byte_at shape.table (r.0).1) (λ table. values_at shape.rest_kinds table >>= λ b. Ok ((r.0).0 ++ b.0, b.1)) (vs, left) r.2 in
    let table = byte_takes shape.table (r.0).1 t.0 t.1 in
    let b = bind_ok (values_at shape.rest_kinds t.0) (λ b. Ok ((r.0).0 ++ b.0, b.1)) (vs, left) t.2 in
    let parts = ok_parts b.2 in
    let root_is : root_part shape vs ≡ (r.0).0 = ap (root_part shape) (sym parts.0) ∙ take_at (r.0).0 (b.0).0 (length shape.root_kinds) root.1 in
    record {
      front = shape.space ∷ (root.0).front;
      rest = t.0;
      is = first ∙ ap (λ x. shape.space ∷ x) ((root.0).is ∙ ap (λ x. (root.0).front ++ x) table);
      length_is = ap suc ((root.0).length_is ∙ ap (λ x. length (scatter_of shape.scatter x ++ spell_all x)) (sym root_is));
    }

-- what was read of a key, and of which bytes
pub record ReadFront (shape : Shape) (key : List ℕ) (vs : List Value) : Type 0 where
  pub left : List ℕ
  pub read : key_front_at shape key ≡ Ok (vs, left)

pub read_front : (shape : Shape) (key : List ℕ) (vs : List Value) → read_key_of shape key ≡ Ok vs → ReadFront shape key vs
unfolding key_at
read_front shape key vs h =
    let a = answer_ok (key_at shape (take 1024 key)) h in
    let all : take 1024 key ≡ key = take_all 1024 key a.1 in
    let k = bind_ok (key_front_at shape (take 1024 key)) (λ key. cond (eqb (length key.1) 0) (Ok key.0) (Err (length key.1))) vs a.0 in
    let is = end_is (eqb (length (k.0).1) 0) (length (k.0).1) (k.0).0 k.2 in
    record { left = (k.0).1; read = ap (key_front_at shape) (sym all) ∙ k.1 ∙ ap (λ x. Ok (x, (k.0).1)) is }
  where
    end_is : (t : Bool) (n : ℕ) (ws : List Value) → cond {A = Result (List Value) ℕ} t (Ok ws) (Err n) ≡ Ok vs → ws ≡ vs
    end_is true n ws g = cc
    end_is false n ws g = absurd (cc)

    answer_ok : (r : Result (List Value) ℕ) → answer_of key r ≡ Ok vs → (r ≡ Ok vs) × (length key ≤ 1024)
    answer_ok (Ok ws) g = by (ltb 1024 (length key)) refl g
      where
        by : (t : Bool) → ltb 1024 (length key) ≡ t → cond {A = Result (List Value) KeyFault} t (Err (NotKey 1024)) (Ok ws) ≡ Ok vs → (◌≡◌ {A = Result (List Value) ℕ} (Ok ws) (Ok vs)) × (length key ≤ 1024)
        by true e f = absurd (cc)
        by false e f = (let same : ws ≡ vs = cc in ap Ok same, ltb-false 1024 (length key) e)
    answer_ok (Err n) g = absurd (cc)

read_behind : (shape : Shape) (key : List ℕ) (vs : List Value) (group : List ℕ) → read_key_of shape key ≡ Ok vs → group_key_of shape (root_part shape vs) ≡ Ok group → Behind group key shape.table
read_behind shape key vs group h g =
    let r = read_front shape key vs h in
    subst (λ x. Behind x key shape.table) (sym (group_spelt shape (root_part shape vs) group g).is) (front_behind shape key vs r.left r.read)

-- what is read where a key was spelled is alike
pub root_reread : (s : Bool) (ks : List Kind) (vs ws : List Value) (rest left : List ℕ) → AreOf ks vs → root_at s ks ((scatter_of s vs ++ spell_all vs) ++ rest) ≡ Ok (ws, left) → RereadAll vs ws rest left
unfolding root_at marks_at scattered
root_reread false ks vs ws rest left h e = values_reread ks vs ws rest left h e
root_reread true ks vs ws rest left h e =
    let r = bind_ok (values_at ks (spell_all vs ++ rest)) (λ root. agree (scattered vs) (scattered root.0) (length ((scattered vs ++ spell_all vs) ++ rest)) >>= λ _. Ok root) (ws, left) e in
    let g = bind_ok (agree (scattered vs) (scattered (r.0).0) (length ((scattered vs ++ spell_all vs) ++ rest))) (λ _. Ok r.0) (ws, left) r.2 in
    let parts = ok_parts g.2 in
    values_reread ks vs ws rest left h (r.1 ∙ (λ i. Ok (parts.0 i, parts.1 i)))

pub of_front : (ks ls : List Kind) (vs : List Value) → AreOf (ks ++ ls) vs → AreOf ks (take (length ks) vs)
of_front [] ls vs h = tt
of_front (k ∷ ks) ls [] h = absurd h
of_front (k ∷ ks) ls (v ∷ vs) h = (h.0, of_front ks ls vs h.1)

read_group : (shape : Shape) (vs ws : List Value) (key group : List ℕ) → row_key_of shape vs ≡ Ok key → read_key_of shape key ≡ Ok ws → group_key_of shape (root_part shape ws) ≡ Ok group
    → group_bytes shape (root_part shape vs) ≡ group
unfolding key_front_at
read_group shape vs ws key group spelled read is =
    let s = key_spelt shape vs key spelled in
    let r = read_front shape key ws read in
    let root = root_part shape vs in
    let behind = shape.table ∷ spell_all (rest_part shape vs) in
    let root_bytes = scatter_of shape.scatter root ++ spell_all root in
    let whole : key_front_at shape (shape.space ∷ (root_bytes ++ behind)) ≡ Ok (ws, r.left) = ap (key_front_at shape) (sym s.is) ∙ r.read in
    let a = bind_ok (byte_at shape.space (shape.space ∷ (root_bytes ++ behind))) (λ head. root_at shape.scatter shape.root_kinds head >>= λ a. byte_at shape.table a.1 >>= λ table. values_at shape.rest_kinds table >>= λ b. Ok (a.0 ++ b.0, b.1)) (ws, r.left) whole in
    let first = byte_takes shape.space (shape.space ∷ (root_bytes ++ behind)) a.0 a.1 in
    let head_is : root_bytes ++ behind ≡ a.0 = ap (drop 1) first in
    let b = bind_ok (root_at shape.scatter shape.root_kinds a.0) (λ a. byte_at shape.table a.1 >>= λ table. values_at shape.rest_kinds table >>= λ b. Ok (a.0 ++ b.0, b.1)) (ws, r.left) a.2 in
    let again = root_reread shape.scatter shape.root_kinds root (b.0).0 behind (b.0).1 (of_front shape.root_kinds shape.rest_kinds vs s.kinds) (ap (root_at shape.scatter shape.root_kinds) head_is ∙ b.1) in
    let long = (root_passes shape.scatter shape.root_kinds a.0 (b.0).0 (b.0).1 b.1).1 in
    let t = bind_ok (byte_at shape.table (b.0).1) (λ table. values_at shape.rest_kinds table >>= λ c. Ok ((b.0).0 ++ c.0, c.1)) (ws, r.left) b.2 in
    let c = bind_ok (values_at shape.rest_kinds t.0) (λ c. Ok ((b.0).0 ++ c.0, c.1)) (ws, r.left) t.2 in
    let parts = ok_parts c.2 in
    let root_is : root_part shape ws ≡ (b.0).0 = ap (root_part shape) (sym parts.0) ∙ take_at (b.0).0 (c.0).0 (length shape.root_kinds) long in
    alike_heads root (b.0).0 again.alike ∙ ap (group_bytes shape) (sym root_is) ∙ sym (group_spelt shape (root_part shape ws) group is).is
  where
    alike_heads : (a b : List Value) → Alike a b → group_bytes shape a ≡ group_bytes shape b
    alike_heads a b h = alike_head shape.root shape.scatter a b h

-- ---- a row that stands

-- what `stands_in` tells
pub record Standing (s : Schema) (n : ℕ) (t : Table) (key : List ℕ) (row : Row) : Type 0 where
  pub own : key_of s n t (key_values t.primary row) ≡ Ok key
  pub fits : row_fits s n t row ≡ true

abbrev is_own : List ℕ → Result (List ℕ) KeyFault → Bool
is_own key (Ok own) = same_key key own
is_own key (Err fault) = false

own_is : (key : List ℕ) (r : Result (List ℕ) KeyFault) → is_own key r ≡ true → r ≡ Ok key
own_is key (Ok own) h = ap Ok (sym (key_is key own h))
own_is key (Err fault) h = cc

pub standing : (s : Schema) (n : ℕ) (t : Table) (key : List ℕ) (row : Row) → stands_in s n (Some t) key row ≡ true → Standing s n t key row
standing s n t key row h =
    let parts = and_parts (is_own key (key_of s n t (key_values t.primary row))) (row_fits s n t row) h in
    record { own = own_is key (key_of s n t (key_values t.primary row)) parts.0; fits = parts.1 }

pub stands : (s : Schema) (n : ℕ) (t : Table) (key : List ℕ) (row : Row) → Standing s n t key row → stands_in s n (Some t) key row ≡ true
stands s n t key row h = own (key_of s n t (key_values t.primary row)) h.own
  where
    own : (r : Result (List ℕ) KeyFault) → r ≡ Ok key → is_own key r && row_fits s n t row ≡ true
    own (Ok k) e = let same : k ≡ key = cc in ap (λ b. b && row_fits s n t row) (ap (same_key key) same ∙ same_self key) ∙ h.fits
    own (Err fault) e = cc

-- ---- the tables of keys

-- what `is_key_of` tells
pub record IsKeyOf (s : Schema) (n : ℕ) (t : Table) (group key : List ℕ) : Type 0 where
  pub values : List Value
  pub read : read_key_of (shape_of s n t) key ≡ Ok values
  pub group_is : group_of s n t values ≡ Ok group

abbrev in_own : List ℕ → Result (List ℕ) KeyFault → Bool
in_own group (Ok own) = same_key own group
in_own group (Err fault) = false

abbrev in_read : Schema → ℕ → Table → List ℕ → Result (List Value) KeyFault → Bool
in_read s n t group (Ok values) = in_own group (group_of s n t values)
in_read s n t group (Err fault) = false

key_tells : (s : Schema) (n : ℕ) (t : Table) (group key : List ℕ) → is_key_of s n t group key ≡ true → IsKeyOf s n t group key
key_tells s n t group key h = by (read_key_of (shape_of s n t) key) refl h
  where
    own : (r : Result (List ℕ) KeyFault) → in_own group r ≡ true → r ≡ Ok group
    own (Ok k) g = ap Ok (key_is k group g)
    own (Err fault) g = cc

    by : (r : Result (List Value) KeyFault) → read_key_of (shape_of s n t) key ≡ r → in_read s n t group r ≡ true → IsKeyOf s n t group key
    by (Ok values) e g = record { values = values; read = e; group_is = own (group_of s n t values) g }
    by (Err fault) e g = cc

tells_key : (s : Schema) (n : ℕ) (t : Table) (group key : List ℕ) → IsKeyOf s n t group key → is_key_of s n t group key ≡ true
tells_key s n t group key h = ap (in_read s n t group) h.read ∙ ap (in_own group) h.group_is ∙ same_self group

pub key_behind : (s : Schema) (n : ℕ) (t : Table) (group key : List ℕ) → IsKeyOf s n t group key → Behind group key n
key_behind s n t group key h = read_behind (shape_of s n t) key h.values group h.read h.group_is

-- the item with a number
pub record Numbered {A : Type 0} (items : List A) (n : ℕ) (item : A) : Type 0 where
  pub place : ℕ
  pub number_is : n ≡ 1 + place
  pub there : slice_get items place ≡ Some item

numbered_suc : {A : Type 0} (items : List A) (n : ℕ) → numbered items (suc n) ≡ slice_get items n
numbered_suc items n =
    let none : eqb (suc n) 0 ≡ false = grind (arith, nat_tests) in
    let back : suc n - 1 ≡ n = omega arith in
    ap (λ b. cond b None (slice_get items (suc n - 1))) none ∙ ap (slice_get items) back

pub numbered_at : {A : Type 0} (items : List A) (n : ℕ) (item : A) → numbered items n ≡ Some item → Numbered items n item
numbered_at items zero item h = cc
numbered_at items (suc n) item h = record { place = n; number_is = omega arith; there = sym (numbered_suc items n) ∙ h }

pub at_number : {A : Type 0} (items : List A) (place : ℕ) (item : A) → slice_get items place ≡ Some item → numbered items (1 + place) ≡ Some item
at_number items place item h = let same : 1 + place ≡ suc place = omega arith in ap (numbered items) same ∙ numbered_suc items place ∙ h

-- what `table_in` tells
pub record TableAt (s : Schema) (number : ℕ) (ts : List Table) (group key : List ℕ) (n : ℕ) : Type 0 where
  pub place : ℕ
  pub table : Table
  pub there : slice_get ts place ≡ Some table
  pub number_is : n ≡ number + place
  pub is_key : IsKeyOf s n table group key

table_at : (s : Schema) (number : ℕ) (ts : List Table) (group key : List ℕ) (n : ℕ) → table_in s number ts group key ≡ Some n → TableAt s number ts group key n
table_at s number [] group key n h = cc
table_at s number (t ∷ ts) group key n h = by (is_key_of s number t group key) refl (table_at s (number + 1) ts group key n) h
  where
    by : (b : Bool) → is_key_of s number t group key ≡ b → (table_in s (number + 1) ts group key ≡ Some n → TableAt s (number + 1) ts group key n)
        → cond b (Some number) (table_in s (number + 1) ts group key) ≡ Some n → TableAt s number (t ∷ ts) group key n
    by true is more g =
        let same : number ≡ n = cc in
        record { place = 0; table = t; there = refl; number_is = omega (arith, same); is_key = subst (λ m. IsKeyOf s m t group key) same (key_tells s number t group key is) }
    by false is more g =
        let r = more g in
        record { place = suc r.place; table = r.table; there = r.there; number_is = omega (arith, r.number_is); is_key = r.is_key }

at_table : (s : Schema) (number : ℕ) (ts : List Table) (group key : List ℕ) (place : ℕ) (t : Table) → slice_get ts place ≡ Some t → IsKeyOf s (number + place) t group key
    → table_in s number ts group key ≡ Some (number + place)
at_table s number [] group key place t there is = cc
at_table s number (u ∷ ts) group key zero t there is =
    let same : u ≡ t = cc in
    let here : is_key_of s number u group key ≡ true = ap (λ x. is_key_of s number x group key) same ∙ tells_key s number t group key (subst (λ m. IsKeyOf s m t group key) (let e : number + 0 ≡ number = omega arith in e) is) in
    ap (λ b. cond b (Some number) (table_in s (number + 1) ts group key)) here ∙ ap Some (let e : number ≡ number + 0 = omega arith in e)
at_table s number (u ∷ ts) group key (suc place) t there is =
    let moved : number + suc place ≡ (number + 1) + place = omega arith in
    by (is_key_of s number u group key) refl (at_table s (number + 1) ts group key place t there (subst (λ m. IsKeyOf s m t group key) moved is) ∙ ap Some (sym moved))
  where
    by : (b : Bool) → is_key_of s number u group key ≡ b → table_in s (number + 1) ts group key ≡ Some (number + suc place) → cond b (Some number) (table_in s (number + 1) ts group key) ≡ Some (number + suc place)
    by true here more =
        let one = behind_one group key number (number + suc place) (key_behind s number u group key (key_tells s number u group key here)) (key_behind s (number + suc place) t group key is) in
        absurd (omega (arith, one))
    by false here more = more

-- the table of a key of the group
pub record OfTable (s : Schema) (group key : List ℕ) (n : ℕ) : Type 0 where
  pub table : Table
  pub numbered_is : numbered s.tables n ≡ Some table
  pub is_key : IsKeyOf s n table group key

pub of_table : (s : Schema) (group key : List ℕ) (n : ℕ) → length s.tables ≤ 64 → table_of s group key ≡ Some n → OfTable s group key n
of_table s group key n most h =
    let r = table_at s 1 (take 64 s.tables) group key n h in
    let there : slice_get s.tables r.place ≡ Some r.table = ap (λ ts. slice_get ts r.place) (sym (take_all 64 s.tables most)) ∙ r.there in
    record { table = r.table; numbered_is = ap (numbered s.tables) r.number_is ∙ at_number s.tables r.place r.table there; is_key = r.is_key }

pub table_is : (s : Schema) (group key : List ℕ) (n : ℕ) (t : Table) → length s.tables ≤ 64 → numbered s.tables n ≡ Some t → IsKeyOf s n t group key → table_of s group key ≡ Some n
table_is s group key n t most at is =
    let r = numbered_at s.tables n t at in
    ap (λ ts. table_in s 1 ts group key) (take_all 64 s.tables most)
    ∙ at_table s 1 s.tables group key r.place t r.there (subst (λ m. IsKeyOf s m t group key) r.number_is is) ∙ ap Some (sym r.number_is)

-- a row of this group whose values the program can hold stands under a key of its table
pub put_key : (s : Schema) (n : ℕ) (t : Table) (group key : List ℕ) (values : List Value) → AreValues values → key_of s n t values ≡ Ok key → group_of s n t values ≡ Ok group → IsKeyOf s n t group key
put_key s n t group key values held own of_group = record {
  values = values;
  read = read_only (shape_of s n t) key values (key_read_back (shape_of s n t) values key held own);
  group_is = of_group;
}

-- the group of a row that stands under a row key of the group is the group
standing_group : (s : Schema) (n : ℕ) (t : Table) (group key : List ℕ) (row : Row) → Standing s n t key row → IsKeyOf s n t group key
    → group_bytes (shape_of s n t) (root_part (shape_of s n t) (key_values t.primary row)) ≡ group
standing_group s n t group key row st is = read_group (shape_of s n t) (key_values t.primary row) is.values key group st.own is.read is.group_is

-- values of the kinds have no fault
misplaced_none : (ks : List Kind) (vs : List Value) (i : ℕ) → AreOf ks vs → misplaced ks vs i ≡ None
misplaced_none [] [] i h = refl
misplaced_none [] (v ∷ vs) i h = absurd h
misplaced_none (k ∷ ks) [] i h = absurd h
misplaced_none (k ∷ ks) (v ∷ vs) i h = ap (λ b. cond b (misplaced ks vs (i + 1)) (Some i)) h.0 ∙ misplaced_none ks vs (i + 1) h.1

of_length : (ks : List Kind) (vs : List Value) → AreOf ks vs → length vs ≡ length ks
of_length [] [] h = refl
of_length [] (v ∷ vs) h = absurd h
of_length (k ∷ ks) [] h = absurd h
of_length (k ∷ ks) (v ∷ vs) h = ap suc (of_length ks vs h.1)

spells : (ks : List Kind) (vs : List Value) (bytes : List ℕ) → AreOf ks vs → length bytes ≤ 1024 → unless_fault (fault_of ks vs) bytes ≡ Ok bytes
spells ks vs bytes h short =
    ap (λ m. unless_fault (fault_or_missing m (length vs) (length ks)) bytes) (misplaced_none ks vs 0 h)
    ∙ ap (λ b. unless_fault (cond b (Err (Missing (length vs))) (Ok tt)) bytes) (le-ltb (length vs) (length ks) (let long = of_length ks vs h in omega (arith, long)))
    ∙ ap (λ b. cond b (Err (TooLong (length bytes))) (Ok bytes)) (le-ltb 1024 (length bytes) short)

-- where key values spell a row key, those of the root spell a group
pub group_of_key : (s : Schema) (n : ℕ) (t : Table) (values : List Value) (key : List ℕ) → key_of s n t values ≡ Ok key → group_of s n t values ≡ Ok (group_bytes (shape_of s n t) (root_part (shape_of s n t) values))
group_of_key s n t values key own =
    let shape = shape_of s n t in
    let sp = key_spelt shape values key own in
    let short : length (group_bytes shape (root_part shape values)) ≤ 1024 =
    omega (arith, sp.short, ap length sp.is, length-append (head_bytes shape.space shape.scatter (root_part shape values)) (shape.table ∷ spell_all (rest_part shape values))) in
    spells shape.root_kinds (root_part shape values) (group_bytes shape (root_part shape values)) (of_front shape.root_kinds shape.rest_kinds values sp.kinds) short

standing_group_of : (s : Schema) (n : ℕ) (t : Table) (group key : List ℕ) (row : Row) → Standing s n t key row → IsKeyOf s n t group key → group_of s n t (key_values t.primary row) ≡ Ok group
standing_group_of s n t group key row st is = group_of_key s n t (key_values t.primary row) key st.own ∙ ap Ok (standing_group s n t group key row st is)

abbrev pub of_ok : Result (List ℕ) KeyFault → List ℕ
of_ok (Ok group) = group
of_ok (Err fault) = []

pub group_is : (s : Schema) (n : ℕ) (t : Table) (group key : List ℕ) (row : Row) → Standing s n t key row → IsKeyOf s n t group key → group_bytes_of s n t row ≡ group
group_is s n t group key row st is = ap of_ok (standing_group_of s n t group key row st is)
