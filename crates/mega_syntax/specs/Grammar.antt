-- How each part of a text is spelled in tokens, and which parts have a spelling.
use Rattle.std.specs.Prelude.{◌≡◌, ℕ, Bool, true, false, List, [], ◌∷◌, ◌++◌, length, codes, Option, Some, None}
use Rattle.std.specs.List.{list_any, AllByRecursion}
use Rattle.mega_syntax.specs.declared.need.Need.{Need}
use Rattle.mega_syntax.specs.declared.need.Need.TheVariants.{Required, Optional, Repeated}
use Rattle.mega_syntax.specs.declared.words.PropertyWords.{PropertyWords}
use Rattle.mega_syntax.specs.declared.words.Clause.{Clause}
use Rattle.mega_syntax.specs.declared.words.Clause.TheVariants.{Root, Scatter, Inside, Group}
use Rattle.mega_syntax.specs.declared.words.TableWords.{TableWords}
use Rattle.mega_syntax.specs.declared.words.IndexWords.{IndexWords}
use Rattle.mega_syntax.specs.declared.words.ChangeWords.{ChangeWords}
use Rattle.mega_syntax.specs.declared.words.Statement.{Statement}
use Rattle.mega_syntax.specs.declared.words.Statement.TheVariants.{Table, Index, Change}
use Rattle.mega_syntax.specs.declared.words.Placed.{Placed}
use Rattle.mega_syntax.specs.declared.words.SchemaWords.{SchemaWords}
use Rattle.mega_syntax.specs.Names.{is_name}
use Rattle.mega_syntax.specs.Reading.{Texts, is_root, is_scatter, is_inside, is_group}

-- items in turn, each by those before it, and what closes them
abbrev pub spell_items : {A : Type 0} → (List A → A → Texts) → Texts → List A → List A → Texts
spell_items item close done [] = close
spell_items item close done (a ∷ more) = item done a ++ spell_items item close (done ++ a ∷ []) more

-- each item fits those before it and the tokens from it on
abbrev pub FitItems : {A : Type 0} → (List A → A → Texts → Type 0) → (List A → A → Texts) → Texts → List A → List A → Texts → Type 0
FitItems Fit item close done [] rest = Unit {0}
FitItems Fit item close done (a ∷ more) rest =
    Fit done a (spell_items item close done (a ∷ more) ++ rest) × FitItems Fit item close (done ++ a ∷ []) more rest

abbrev pub IsName : List ℕ → Type 0
IsName n = is_name n ≡ true

-- names = [ name { "," name } ]
abbrev pub spell_name : List (List ℕ) → List ℕ → Texts
spell_name [] n = n ∷ []
spell_name (m ∷ ms) n = codes "," ∷ n ∷ []

abbrev pub spell_names : List (List ℕ) → Texts
spell_names ns = codes "(" ∷ spell_items spell_name (codes ")" ∷ []) [] ns

abbrev pub FitsName : List (List ℕ) → List ℕ → Texts → Type 0
FitsName done n ts = IsName n

abbrev pub AreNames : List (List ℕ) → Type 0
AreNames ns = AllByRecursion IsName ns

-- property = ("required" | "optional" | "repeated") name name ";"
abbrev pub need_word : Need → List ℕ
need_word Required = codes "required"
need_word Optional = codes "optional"
need_word Repeated = codes "repeated"

abbrev pub spell_property : List PropertyWords → PropertyWords → Texts
spell_property done p = need_word p.need ∷ p.kind ∷ p.name ∷ codes ";" ∷ []

abbrev pub spell_properties : List PropertyWords → Texts
spell_properties ps = codes "{" ∷ spell_items spell_property (codes "}" ∷ []) [] ps

abbrev pub IsProperty : PropertyWords → Type 0
IsProperty p = IsName p.kind × IsName p.name

abbrev pub FitsProperty : List PropertyWords → PropertyWords → Texts → Type 0
FitsProperty done p ts = IsProperty p

-- clause = "ENTITY" "GROUP" "ROOT" | "SCATTER" | "IN" "TABLE" name
--        | "ENTITY" "GROUP" "KEY" "(" names ")" "REFERENCES" name
abbrev pub spell_clause : Clause → Texts
spell_clause Root = codes "ENTITY" ∷ codes "GROUP" ∷ codes "ROOT" ∷ []
spell_clause Scatter = codes "SCATTER" ∷ []
spell_clause (Inside n) = codes "IN" ∷ codes "TABLE" ∷ n ∷ []
spell_clause (Group ns n) = codes "ENTITY" ∷ codes "GROUP" ∷ codes "KEY" ∷ (spell_names ns ++ codes "REFERENCES" ∷ n ∷ [])

abbrev pub spell_clause_item : List Clause → Clause → Texts
spell_clause_item done c = codes "," ∷ spell_clause c

-- no clause of its kind stands before it, and its names are names
abbrev pub FitsClause : List Clause → Clause → Texts → Type 0
FitsClause done Root ts = list_any is_root done ≡ false
FitsClause done Scatter ts = list_any is_scatter done ≡ false
FitsClause done (Inside n) ts = (list_any is_inside done ≡ false) × IsName n
FitsClause done (Group ns n) ts = (list_any is_group done ≡ false) × AreNames ns × IsName n

-- table = "CREATE" "TABLE" name "{" { property } "}" "PRIMARY" "KEY" "(" names ")" { "," clause } ";"
abbrev pub spell_table : TableWords → Texts
spell_table t =
    t.name ∷ (spell_properties t.properties ++ codes "PRIMARY" ∷ codes "KEY" ∷ (spell_names t.primary ++ spell_items spell_clause_item (codes ";" ∷ []) [] t.clauses))

abbrev pub IsTable : TableWords → Type 0
IsTable t = IsName t.name × AllByRecursion IsProperty t.properties × AreNames t.primary × FitItems FitsClause spell_clause_item (codes ";" ∷ []) [] t.clauses []

-- index = "CREATE" ("LOCAL" | "GLOBAL") "INDEX" name "ON" name "(" names ")" [ "STORING" "(" names ")" ] ";"
abbrev pub spell_storing : Option (List (List ℕ)) → Texts
spell_storing None = []
spell_storing (Some ns) = codes "STORING" ∷ spell_names ns

abbrev pub spell_index : IndexWords → Texts
spell_index i =
    codes "INDEX" ∷ i.name ∷ codes "ON" ∷ i.table ∷ (spell_names i.indexed ++ (spell_storing i.storing ++ codes ";" ∷ []))

abbrev pub IsStoring : Option (List (List ℕ)) → Type 0
IsStoring None = Unit {0}
IsStoring (Some ns) = AreNames ns

abbrev pub IsIndex : IndexWords → Type 0
IsIndex i = IsName i.name × IsName i.table × AreNames i.indexed × IsStoring i.storing

-- change = "ALTER" "TABLE" name "ADD" "{" { property } "}" ";"
abbrev pub spell_change : ChangeWords → Texts
spell_change c = codes "TABLE" ∷ c.table ∷ codes "ADD" ∷ (spell_properties c.properties ++ codes ";" ∷ [])

abbrev pub IsChange : ChangeWords → Type 0
IsChange c = IsName c.table × AllByRecursion IsProperty c.properties

abbrev pub index_word : Bool → List ℕ
index_word true = codes "GLOBAL"
index_word false = codes "LOCAL"

abbrev pub spell_statement : Statement → Texts
spell_statement (Table t) = codes "CREATE" ∷ codes "TABLE" ∷ spell_table t
spell_statement (Index i) = codes "CREATE" ∷ index_word i.global ∷ spell_index i
spell_statement (Change c) = codes "ALTER" ∷ spell_change c

abbrev pub IsStatement : Statement → Type 0
IsStatement (Table t) = IsTable t
IsStatement (Index i) = IsIndex i
IsStatement (Change c) = IsChange c

-- schema = "CREATE" "SCHEMA" name ";" { table | index | change }
abbrev pub spell_placed : List Placed → Placed → Texts
spell_placed done p = spell_statement p.statement

-- so many tokens are left from the statement on
abbrev pub FitsPlaced : List Placed → Placed → Texts → Type 0
FitsPlaced done p ts = IsStatement p.statement × (p.left ≡ length ts)

abbrev pub spell_schema : SchemaWords → Texts
spell_schema s = codes "CREATE" ∷ codes "SCHEMA" ∷ s.name ∷ codes ";" ∷ spell_items spell_placed [] [] s.statements

-- the tokens spell this schema, and its statements stand where they say
pub record Spells (ts : Texts) (s : SchemaWords) : Type 0 where
  pub spelled : ts ≡ spell_schema s
  pub name : IsName s.name
  pub statements : FitItems FitsPlaced spell_placed [] [] s.statements []
