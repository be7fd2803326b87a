-- What a transaction comes to under a schema that grew.
use Rattle.std.proofs.Common.{◌≡◌, ◌∙◌, ap, refl, ℕ, zero, suc, ◌+◌, ◌-◌, Bool, true, false, List, [], ◌∷◌, ◌++◌, length, drop}
use Rattle.std.specs.Prelude.{Option, Some, None, Result, Ok, Err, is_some, is_none, is_ok, ◌==◌, ◌&&◌, if◌then◌else◌, nat_le, slice_get, option_map}
use Rattle.std.specs.List.{list_all}
use Rattle.std.specs.Option.{option_to_list}
use Rattle.mega_base.specs.declared.values.Kind.{Kind}
use Rattle.mega_base.specs.declared.values.Shape.{Shape}
use Rattle.mega_base.specs.declared.values.Value.{Value}
use Rattle.mega_base.specs.declared.values.Row.{Row}
use Rattle.mega_index.specs.of_entry.declared.content.Send.{Send}
use Rattle.mega_index.specs.of_schema.declared.schema.Property.{Property}
use Rattle.mega_index.specs.of_schema.declared.schema.Table.{Table}
use Rattle.mega_index.specs.of_schema.declared.schema.Schema.{Schema}
use Rattle.mega_index.specs.of_schema.Rules.{kind_at}
use Rattle.mega_index.specs.of_schema.Lookup.{is_root_table}
use Rattle.mega_index.specs.of_schema.Shaping.{kinds_of, root_kinds, rest_kinds, space_of, shape_of}
use Rattle.mega_index.specs.of_keys.Spelling.{root_part}
use Rattle.mega_index.specs.of_keys.Answers.{row_key_of, group_key_of}
use Rattle.mega_index.specs.of_keys.Reading.{key_at}
use Rattle.mega_index.specs.Rows.{Rows}
use Rattle.mega_index.specs.Fits.{numbered}
use Rattle.mega_index.specs.Fitted.{is_root_group, is_group, is_queue, send_fits}
use Rattle.mega_outcome.specs.declared.answer.Turn.{Turn}
use Rattle.mega_outcome.specs.declared.answer.Turn.TheVariants.{BadRow}
use Rattle.mega_outcome.specs.declared.answer.Shown.{Shown}
use Rattle.mega_outcome.specs.declared.transaction.RowRef.{RowRef}
use Rattle.mega_outcome.specs.declared.transaction.Check.{Check}
use Rattle.mega_outcome.specs.declared.transaction.Check.TheVariants.{There, Gone, Is}
use Rattle.mega_outcome.specs.Places.{◌>>=◌, placed, key_in_table, key_in, row_in}
use Rattle.mega_outcome.specs.Checks.{holds, may_be, may_be_in, has_values, check, all_checks}
use Rattle.mega_outcome.specs.Reads.{shown, read, all_reads}
use Rattle.mega_outcome.specs.Outcome.{all_sends}
use Rattle.mega_outcome.specs.Extends.{is_known, ExtendsTable, ExtendTables, Extends}

pub both-true : (a b : Bool) → a && b ≡ true → (a ≡ true) × (b ≡ true)
both-true true b h = (refl, h)
both-true false b h = cc

slice_more : {A : Type 0} (ps more : List A) (k : ℕ) → is_some (slice_get ps k) ≡ true → slice_get (ps ++ more) k ≡ slice_get ps k
slice_more [] more k h = cc
slice_more (p ∷ ps) more zero h = refl
slice_more (p ∷ ps) more (suc k) h = slice_more ps more k h

pub numbered_more : {A : Type 0} (ps more : List A) (n : ℕ) → is_some (numbered ps n) ≡ true → numbered (ps ++ more) n ≡ numbered ps n
numbered_more {A} ps more n = by (n == 0)
  where
    by : (b : Bool) → is_some {T = A} (if b then None else slice_get ps (n - 1)) ≡ true → (if b then None else slice_get (ps ++ more) (n - 1)) ≡ (if b then None else slice_get ps (n - 1))
    by true h = refl
    by false h = slice_more ps more (n - 1) h

kind_in : Option Property → Option Kind
kind_in None = None
kind_in (Some p) = Some p.kind

kinds_more : (ps more : List Property) (ns : List ℕ) → list_all (is_known ps) ns ≡ true → kinds_of (ps ++ more) ns ≡ kinds_of ps ns
unfolding kind_in
kinds_more ps more [] h = refl
kinds_more ps more (n ∷ ns) h =
    let both = both-true (is_known ps n) (list_all (is_known ps) ns) h in
    ap (λ (o : Option Property). option_to_list (kind_in o) ++ kinds_of (ps ++ more) ns) (numbered_more ps more n both.0)
    ∙ ap (λ (ks : List Kind). option_to_list (kind_at ps n) ++ ks) (kinds_more ps more ns both.1)

all_drop : {A : Type 0} (test : A → Bool) (k : ℕ) (xs : List A) → list_all test xs ≡ true → list_all test (drop k xs) ≡ true
all_drop test zero xs h = h
all_drop test (suc k) [] h = refl
all_drop test (suc k) (x ∷ xs) h = all_drop test k xs (both-true (test x) (list_all test xs) h).1

-- the table with more properties and another name
abbrev pub grown : Table → List Property → List ℕ → Table
grown t more name = record {
  name = name;
  properties = t.properties ++ more;
  primary = t.primary;
  root = t.root;
  group = t.group;
  inside = t.inside;
  scatter = t.scatter;
}

pub is_grown : (t u : Table) (e : ExtendsTable t u) → u ≡ grown t e.added u.name
is_grown t u e i = record {
  name = u.name;
  properties = e.properties i;
  primary = e.primary i;
  root = e.root i;
  group = e.group i;
  inside = e.inside i;
  scatter = e.scatter i;
}

-- what stands at one place of both
abbrev pub ExtendsAt : Option Table → Option Table → Type 0
ExtendsAt None None = Unit {0}
ExtendsAt None (Some u) = ⊥
ExtendsAt (Some t) None = ⊥
ExtendsAt (Some t) (Some u) = ExtendsTable t u

slice_extends : (ts us : List Table) → ExtendTables ts us → (k : ℕ) → ExtendsAt (slice_get ts k) (slice_get us k)
slice_extends [] [] e k = tt
slice_extends [] (u ∷ us) e k = absurd e
slice_extends (t ∷ ts) [] e k = absurd e
slice_extends (t ∷ ts) (u ∷ us) e zero = e.0
slice_extends (t ∷ ts) (u ∷ us) e (suc k) = slice_extends ts us e.1 k

pub table_extends : (s new : Schema) → Extends s new → (n : ℕ) → ExtendsAt (numbered s.tables n) (numbered new.tables n)
table_extends s new e n = by (n == 0)
  where
    by : (b : Bool) → ExtendsAt (if b then None else slice_get s.tables (n - 1)) (if b then None else slice_get new.tables (n - 1))
    by true = tt
    by false = slice_extends s.tables new.tables e.tables (n - 1)

root_same : (o p : Option Table) → ExtendsAt o p → root_kinds p ≡ root_kinds o
root_same None None e = refl
root_same None (Some u) e = absurd e
root_same (Some t) None e = absurd e
root_same (Some t) (Some u) e = ap (λ (u : Table). root_kinds (Some u)) (is_grown t u e) ∙ kinds_more t.properties e.added t.primary e.keyed

rest_same : (t u : Table) (e : ExtendsTable t u) → rest_kinds (grown t e.added u.name) ≡ rest_kinds t
rest_same t u e = ap (λ (ks : List Kind). if is_root_table t then [] else ks)
    (kinds_more t.properties e.added (drop (length t.group) t.primary) (all_drop (is_known t.properties) (length t.group) t.primary e.keyed))

pub shape_same : (s new : Schema) → Extends s new → (n : ℕ) (t u : Table) → ExtendsTable t u → shape_of new n u ≡ shape_of s n t
shape_same s new e n t u at = ap (shape_of new n) (is_grown t u at) ∙ fields
  where
    fields : shape_of new n (grown t at.added u.name) ≡ shape_of s n t
    fields i = record {
      space = space_of n t;
      root = t.root;
      root_kinds = root_same (numbered s.tables t.root) (numbered new.tables t.root) (table_extends s new e t.root) i;
      table = n;
      rest_kinds = rest_same t u at i;
      scatter = t.scatter;
    }

key_in_at : (s new : Schema) → Extends s new → (group : List ℕ) (i n : ℕ) (o p : Option Table) → ExtendsAt o p → (key : List Value)
    → key_in_table new group i n p key ≡ key_in_table s group i n o key
key_in_at s new e group i n None None at key = refl
key_in_at s new e group i n None (Some u) at key = absurd at
key_in_at s new e group i n (Some t) None at key = absurd at
key_in_at s new e group i n (Some t) (Some u) at key =
    ap (λ (shape : Shape). placed i group (group_key_of shape (root_part shape key)) (row_key_of shape key)) (shape_same s new e n t u at)

pub key_in_same : (s new : Schema) → Extends s new → (group : List ℕ) (i n : ℕ) (key : List Value) → key_in new group i n key ≡ key_in s group i n key
key_in_same s new e group i n key = key_in_at s new e group i n (numbered s.tables n) (numbered new.tables n) (table_extends s new e n) key

pub row_in_same : (s new : Schema) → Extends s new → (group : List ℕ) (rows : Rows) (i n : ℕ) (key : List Value) → row_in new group rows i n key ≡ row_in s group rows i n key
row_in_same s new e group rows i n key = ap (λ (k : Result (List ℕ) Turn). k >>= λ found. Ok (rows found)) (key_in_same s new e group i n key)

pub reads_same : (s new : Schema) → Extends s new → (group : List ℕ) (rows : Rows) (i : ℕ) (rs : List RowRef) → all_reads new group rows i rs ≡ all_reads s group rows i rs
reads_same s new e group rows i [] = refl
reads_same s new e group rows i (r ∷ rs) =
    ap (λ (m : Result (Option Row) Turn). (m >>= λ there. Ok (option_map (shown r.table) there)) >>= λ one. all_reads new group rows (i + 1) rs >>= λ others. Ok (one ∷ others)) (row_in_same s new e group rows i r.table r.key)
    ∙ ap (λ (m : Result (List (Option Shown)) Turn). read s group rows i r >>= λ one. m >>= λ others. Ok (one ∷ others)) (reads_same s new e group rows (i + 1) rs)

may_more : (o p : Option Table) → ExtendsAt o p → (property : ℕ) (values : List Value) → may_be_in o property values ≡ true → may_be_in p property values ≡ true
may_more None p at property values h = cc
may_more (Some t) None at property values h = absurd at
may_more (Some t) (Some u) at property values h =
    ap (λ (ps : List Property). may_be (numbered ps property) values) at.properties
    ∙ ap (λ (o : Option Property). may_be o values) (numbered_more t.properties at.added property (some (numbered t.properties property) h))
    ∙ h
  where
    some : (o : Option Property) → may_be o values ≡ true → is_some o ≡ true
    some None h = cc
    some (Some p) h = refl

-- a step that is taken
pub then_ok : {A B : Type 0} (m : Result A Turn) (f : A → Result B Turn) (y : B) → (m >>= f) ≡ Ok y → (x : A) × (m ≡ Ok x) × (f x ≡ Ok y)
then_ok (Ok x) f y h = (x, refl, h)
then_ok (Err turn) f y h = cc

asked : (i : ℕ) (b c : Bool) (truth : Bool) → (b ≡ true → c ≡ true) → (if b then holds i truth else Err (BadRow i)) ≡ Ok tt → (if c then holds i truth else Err (BadRow i)) ≡ Ok tt
asked i true c truth more h = ap (λ (c : Bool). if c then holds i truth else Err (BadRow i)) (more refl) ∙ h
asked i false c truth more h = cc

check_same : (s new : Schema) → Extends s new → (group : List ℕ) (rows : Rows) (i : ℕ) (c : Check) → check s group rows i c ≡ Ok tt → check new group rows i c ≡ Ok tt
check_same s new e group rows i (There row) h = ap (λ (m : Result (Option Row) Turn). m >>= λ there. holds i (is_some there)) (row_in_same s new e group rows i row.table row.key) ∙ h
check_same s new e group rows i (Gone row) h = ap (λ (m : Result (Option Row) Turn). m >>= λ there. holds i (is_none there)) (row_in_same s new e group rows i row.table row.key) ∙ h
check_same s new e group rows i (Is row property values) h =
    let was = then_ok (row_in s group rows i row.table row.key) (λ there. if may_be_in (numbered s.tables row.table) property values then holds i (has_values there property values) else Err (BadRow i)) tt h in
    ap (λ (m : Result (Option Row) Turn). m >>= λ there. if may_be_in (numbered new.tables row.table) property values then holds i (has_values there property values) else Err (BadRow i)) (row_in_same s new e group rows i row.table row.key ∙ was.1)
    ∙ asked i (may_be_in (numbered s.tables row.table) property values) (may_be_in (numbered new.tables row.table) property values) (has_values was.0 property values)
    (may_more (numbered s.tables row.table) (numbered new.tables row.table) (table_extends s new e row.table) property values) was.2

pub checks_same : (s new : Schema) → Extends s new → (group : List ℕ) (rows : Rows) (i : ℕ) (cs : List Check) → all_checks s group rows i cs ≡ Ok tt → all_checks new group rows i cs ≡ Ok tt
checks_same s new e group rows i [] h = refl
checks_same s new e group rows i (c ∷ cs) h =
    let was = then_ok (check s group rows i c) (λ _. all_checks s group rows (i + 1) cs) tt h in
    ap (λ (m : Result (Unit {0}) Turn). m >>= λ _. all_checks new group rows (i + 1) cs) (check_same s new e group rows i c was.1)
    ∙ checks_same s new e group rows (i + 1) cs was.2

root_group_same : (s new : Schema) → Extends s new → (n : ℕ) (o p : Option Table) → ExtendsAt o p → (bytes : List ℕ) → is_root_group new n p bytes ≡ is_root_group s n o bytes
root_group_same s new e n None None at bytes = refl
root_group_same s new e n None (Some u) at bytes = absurd at
root_group_same s new e n (Some t) None at bytes = absurd at
root_group_same s new e n (Some t) (Some u) at bytes =
    ap (λ (root : ℕ). (root == n) && nat_le (length bytes) 1024 && is_ok (key_at (shape_of new n u) (bytes ++ n ∷ []))) at.root
    ∙ ap (λ (shape : Shape). (t.root == n) && nat_le (length bytes) 1024 && is_ok (key_at shape (bytes ++ n ∷ []))) (shape_same s new e n t u at)

group_same : (s new : Schema) → Extends s new → (bytes : List ℕ) → is_group new bytes ≡ is_group s bytes
group_same s new e [] = refl
group_same s new e (n ∷ bytes) = root_group_same s new e n (numbered s.tables n) (numbered new.tables n) (table_extends s new e n) (n ∷ bytes)

pub sends_same : (s new : Schema) → Extends s new → (i : ℕ) (sends : List Send) → all_sends new i sends ≡ all_sends s i sends
sends_same s new e i [] = refl
sends_same s new e i (send ∷ sends) =
    ap (λ (b : Bool). if b && is_queue send.queue then all_sends new (i + 1) sends else Err (BadRow i)) (group_same s new e (send.to).key)
    ∙ ap (λ (m : Result (Unit {0}) Turn). if send_fits s send then m else Err (BadRow i)) (sends_same s new e (i + 1) sends)
