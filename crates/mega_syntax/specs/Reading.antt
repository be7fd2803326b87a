-- Reading the texts of tokens from left to right. A fault is told by how many tokens are left from it on.
use Rattle.std.specs.Prelude.{ℕ, zero, suc, Bool, true, false, List, [], ◌∷◌, ◌++◌, length, drop, codes, Option, Some, None, Result, Ok, Err, if◌then◌else◌}
use Rattle.std.specs.List.{list_any}
use Rattle.mega_syntax.specs.declared.need.Need.{Need}
use Rattle.mega_syntax.specs.declared.need.Need.TheVariants.{Required, Optional, Repeated}
use Rattle.mega_syntax.specs.declared.words.PropertyWords.{PropertyWords}
use Rattle.mega_syntax.specs.declared.words.Clause.{Clause}
use Rattle.mega_syntax.specs.declared.words.Clause.TheVariants.{Root, Scatter, Inside, Group}
use Rattle.mega_syntax.specs.declared.words.TableWords.{TableWords}
use Rattle.mega_syntax.specs.declared.words.IndexWords.{IndexWords}
use Rattle.mega_syntax.specs.declared.words.ChangeWords.{ChangeWords}
use Rattle.mega_syntax.specs.declared.words.Statement.{Statement}
use Rattle.mega_syntax.specs.declared.words.Statement.TheVariants.{Table, Index, Change}
use Rattle.mega_syntax.specs.declared.words.Placed.{Placed}
use Rattle.mega_syntax.specs.declared.words.SchemaWords.{SchemaWords}
use Rattle.mega_syntax.specs.Names.{is_name, same}
pub use Rattle.mega_base.specs.Reading.{◌>>=◌}

abbrev pub Texts : Type 0
Texts = List (List ℕ)

-- what was read and the tokens behind it, or how many tokens are left at the fault
abbrev pub Read : Type 0 → Type 0
Read A = Result (A × Texts) ℕ

-- this word or mark
unfoldable pub word_at : List ℕ → Texts → Read (Unit {0})
word_at w [] = Err 0
word_at w (t ∷ ts) = if same t w then Ok (tt, ts) else Err (suc (length ts))

-- whether this word or mark stands next
abbrev pub is_next : List ℕ → Texts → Bool
is_next w [] = false
is_next w (t ∷ ts) = same t w

unfoldable pub name_at : Texts → Read (List ℕ)
name_at [] = Err 0
name_at (t ∷ ts) = if is_name t then Ok (t, ts) else Err (suc (length ts))

-- what is done where a step finds no more, else the items with its one
abbrev pub go_on : {A : Type 0} → List A → (List A → Texts → Read (List A)) → Option A → Texts → Read (List A)
go_on done more None ts = Ok (done, ts)
go_on done more (Some a) ts = more (done ++ a ∷ []) ts

-- items up to a step that finds no more, in at most n steps
unfoldable pub items_at : {A : Type 0} → (List A → Texts → Read (Option A)) → ℕ → List A → Texts → Read (List A)
items_at step zero done ts = Err (length ts)
items_at step (suc n) done ts = step done ts >>= λ x. go_on done (λ more us. items_at step n more us) x.0 x.1

-- each step takes a token, so these are enough
abbrev pub all_items_at : {A : Type 0} → (List A → Texts → Read (Option A)) → Texts → Read (List A)
all_items_at step ts = items_at step (suc (length ts)) [] ts

abbrev pub refused_if : {A : Type 0} → Bool → ℕ → Read A → Read A
refused_if b left read = if b then Err left else read

-- names in parentheses, behind the first
abbrev pub comma_at : List (List ℕ) → Texts → Read (Unit {0})
comma_at [] ts = Ok (tt, ts)
comma_at (n ∷ ns) ts = word_at (codes ",") ts

unfoldable pub name_step : List (List ℕ) → Texts → Read (Option (List ℕ))
name_step done ts =
    if is_next (codes ")") ts then Ok (None, drop 1 ts) else (comma_at done ts >>= λ comma. name_at comma.1 >>= λ name. Ok (Some name.0, name.1))

unfoldable pub names_at : Texts → Read (List (List ℕ))
names_at ts = do
  open_ ← word_at (codes "(") ts
  all_items_at name_step open_.1

-- properties in braces, behind the first
unfoldable pub need_at : Texts → Read Need
need_at [] = Err 0
need_at (t ∷ ts) =
    if same t (codes "required") then Ok (Required, ts)
    else (if same t (codes "optional") then Ok (Optional, ts)
    else (if same t (codes "repeated") then Ok (Repeated, ts) else Err (suc (length ts))))

unfoldable pub property_at : Texts → Read PropertyWords
property_at ts = do
  need ← need_at ts
  kind ← name_at need.1
  name ← name_at kind.1
  end ← word_at (codes ";") name.1
  Ok (record { need = need.0; kind = kind.0; name = name.0 }, end.1)

abbrev pub some_of : {A : Type 0} → Read A → Read (Option A)
some_of r = r >>= λ x. Ok (Some x.0, x.1)

unfoldable pub property_step : List PropertyWords → Texts → Read (Option PropertyWords)
property_step done ts = if is_next (codes "}") ts then Ok (None, drop 1 ts) else some_of (property_at ts)

unfoldable pub properties_at : Texts → Read (List PropertyWords)
properties_at ts = do
  open_ ← word_at (codes "{") ts
  all_items_at property_step open_.1

abbrev pub is_root : Clause → Bool
is_root Root = true
is_root _ = false

abbrev pub is_scatter : Clause → Bool
is_scatter Scatter = true
is_scatter _ = false

abbrev pub is_inside : Clause → Bool
is_inside (Inside n) = true
is_inside _ = false

abbrev pub is_group : Clause → Bool
is_group (Group ns n) = true
is_group _ = false

unfoldable pub group_at : Texts → Read Clause
group_at ts = do
  key ← names_at ts
  references ← word_at (codes "REFERENCES") key.1
  root ← name_at references.1
  Ok (Group key.0 root.0, root.1)

unfoldable pub inside_at : Texts → Read Clause
inside_at ts = do
  table ← word_at (codes "TABLE") ts
  name ← name_at table.1
  Ok (Inside name.0, name.1)

-- behind ENTITY GROUP; so many tokens are left from ENTITY on
unfoldable pub entity_at : List Clause → ℕ → Texts → Read Clause
entity_at done left ts =
    if is_next (codes "ROOT") ts then refused_if (list_any is_root done) left (Ok (Root, drop 1 ts))
    else (if is_next (codes "KEY") ts then refused_if (list_any is_group done) left (group_at (drop 1 ts))
    else Err (length ts))

-- a clause of a kind that stands already is refused at its first word
unfoldable pub clause_at : List Clause → Texts → Read Clause
clause_at done ts =
    if is_next (codes "ENTITY") ts then word_at (codes "GROUP") (drop 1 ts) >>= (λ group. entity_at done (length ts) group.1)
    else (if is_next (codes "IN") ts then refused_if (list_any is_inside done) (length ts) (inside_at (drop 1 ts))
    else (if is_next (codes "SCATTER") ts then refused_if (list_any is_scatter done) (length ts) (Ok (Scatter, drop 1 ts))
    else Err (length ts)))

unfoldable pub clause_step : List Clause → Texts → Read (Option Clause)
clause_step done ts =
    if is_next (codes ";") ts then Ok (None, drop 1 ts) else (word_at (codes ",") ts >>= λ comma. some_of (clause_at done comma.1))

unfoldable pub table_at : Texts → Read TableWords
table_at ts = do
  name ← name_at ts
  properties ← properties_at name.1
  primary ← word_at (codes "PRIMARY") properties.1
  key ← word_at (codes "KEY") primary.1
  names ← names_at key.1
  clauses ← all_items_at clause_step names.1
  Ok (record { name = name.0; properties = properties.0; primary = names.0; clauses = clauses.0 }, clauses.1)

unfoldable pub storing_at : Texts → Read (Option (List (List ℕ)))
storing_at ts = if is_next (codes "STORING") ts then some_of (names_at (drop 1 ts)) else Ok (None, ts)

unfoldable pub index_at : Bool → Texts → Read IndexWords
index_at global ts = do
  index ← word_at (codes "INDEX") ts
  name ← name_at index.1
  on ← word_at (codes "ON") name.1
  table ← name_at on.1
  indexed ← names_at table.1
  storing ← storing_at indexed.1
  end ← word_at (codes ";") storing.1
  Ok (record { name = name.0; global = global; table = table.0; indexed = indexed.0; storing = storing.0 }, end.1)

unfoldable pub change_at : Texts → Read ChangeWords
change_at ts = do
  table ← word_at (codes "TABLE") ts
  name ← name_at table.1
  add ← word_at (codes "ADD") name.1
  properties ← properties_at add.1
  end ← word_at (codes ";") properties.1
  Ok (record { table = name.0; properties = properties.0 }, end.1)

abbrev pub by : {A B : Type 0} → (A → B) → Read A → Read B
by make r = r >>= λ x. Ok (make x.0, x.1)

unfoldable pub created_at : Texts → Read Statement
created_at ts =
    if is_next (codes "TABLE") ts then by Table (table_at (drop 1 ts))
    else (if is_next (codes "LOCAL") ts then by Index (index_at false (drop 1 ts))
    else (if is_next (codes "GLOBAL") ts then by Index (index_at true (drop 1 ts)) else Err (length ts)))

unfoldable pub statement_at : Texts → Read Statement
statement_at ts =
    if is_next (codes "CREATE") ts then created_at (drop 1 ts)
    else (if is_next (codes "ALTER") ts then by Change (change_at (drop 1 ts)) else Err (length ts))

unfoldable pub placed_step : List Placed → Texts → Read (Option Placed)
placed_step done [] = Ok (None, [])
placed_step done (t ∷ ts) = statement_at (t ∷ ts) >>= λ x. Ok (Some (record { left = suc (length ts); statement = x.0 }), x.1)

unfoldable pub schema_at : Texts → Read SchemaWords
schema_at ts = do
  create ← word_at (codes "CREATE") ts
  schema ← word_at (codes "SCHEMA") create.1
  name ← name_at schema.1
  end ← word_at (codes ";") name.1
  statements ← all_items_at placed_step end.1
  Ok (record { name = name.0; statements = statements.0 }, statements.1)
