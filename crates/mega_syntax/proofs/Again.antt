-- What was spelled is read again, whatever follows it.
use Rattle.std.proofs.Common.{◌≡◌, ℕ, suc, ◌<◌, Bool, true, false, cond, List, [], ◌∷◌, ◌++◌, length, drop, refl, sym, ap, ◌∙◌, arith, append_assoc, append-nil, length-append, Option, Some, None, Ok, Err}
use Rattle.std.specs.Prelude.{codes}
use Rattle.std.specs.List.{list_any, AllByRecursion}
use Rattle.std.proofs.lemmas.Slice.Eq.{bytes_eq-Decides}
use Rattle.std.proofs.lemmas.Bool.{false≢true}
use Rattle.mega_syntax.specs.declared.need.Need.{Need}
use Rattle.mega_syntax.specs.declared.need.Need.TheVariants.{Required, Optional, Repeated}
use Rattle.mega_syntax.specs.declared.words.PropertyWords.{PropertyWords}
use Rattle.mega_syntax.specs.declared.words.Clause.{Clause}
use Rattle.mega_syntax.specs.declared.words.Clause.TheVariants.{Root, Scatter, Inside, Group}
use Rattle.mega_syntax.specs.declared.words.TableWords.{TableWords}
use Rattle.mega_syntax.specs.declared.words.IndexWords.{IndexWords}
use Rattle.mega_syntax.specs.declared.words.ChangeWords.{ChangeWords}
use Rattle.mega_syntax.specs.declared.words.Statement.{Statement}
use Rattle.mega_syntax.specs.declared.words.Statement.TheVariants.{Table, Index, Change}
use Rattle.mega_syntax.specs.declared.words.Placed.{Placed}
use Rattle.mega_syntax.specs.declared.words.SchemaWords.{SchemaWords}
use Rattle.mega_syntax.specs.Names.{is_name, same}
use Rattle.mega_syntax.specs.Reading.{Texts, Read, ◌>>=◌, items_at, all_items_at, word_at, name_at, refused_if, name_step, names_at, need_at, property_at, some_of, property_step, properties_at, is_root, is_scatter, is_inside, is_group, group_at, inside_at, entity_at, clause_at, clause_step, table_at, storing_at, index_at, change_at, created_at, statement_at, placed_step, schema_at}
use Rattle.mega_syntax.specs.Grammar.{spell_items, FitItems, IsName, spell_name, spell_names, FitsName, AreNames, need_word, spell_property, spell_properties, IsProperty, FitsProperty, spell_clause, spell_clause_item, FitsClause, spell_table, IsTable, spell_storing, spell_index, IsStoring, IsIndex, spell_change, IsChange, index_word, spell_statement, IsStatement, spell_placed, FitsPlaced, Spells}
use Rattle.mega_syntax.proofs.Takes.{clauses_fit}
use Rattle.mega_syntax.proofs.Items.{StepAgain, items_again, items_long}

pub name_again : (n : List ℕ) (rest : Texts) → IsName n → name_at (n ∷ rest) ≡ Ok (n, rest)
unfolding name_at
name_again n rest h = ap (λ b. cond b (Ok (n, rest)) (Err (suc (length rest)))) h

-- a name is no mark
name_no_mark : (n w : List ℕ) (b : Bool) → same n w ≡ b → IsName n → is_name w ≡ false → b ≡ false
name_no_mark n w true e h unlike = absurd (false≢true (sym unlike ∙ ap is_name (sym ((bytes_eq-Decides n w).0 e)) ∙ h))
name_no_mark n w false e h unlike = refl

pub no_mark : (n w : List ℕ) → IsName n → is_name w ≡ false → same n w ≡ false
no_mark n w h unlike = name_no_mark n w (same n w) refl h unlike

abbrev named_of : List ℕ × Texts → Read (Option (List ℕ))
named_of x = Ok (Some x.0, x.1)

pub name_step_again : StepAgain name_step FitsName spell_name
unfolding name_step word_at
name_step_again [] n more h =
    ap (λ b. cond b (Ok (None, more)) (name_at (n ∷ more) >>= named_of)) (no_mark n (codes ")") h refl) ∙ ap (λ (r : Read (List ℕ)). r >>= named_of) (name_again n more h)
name_step_again (m ∷ ms) n more h = ap (λ (r : Read (List ℕ)). r >>= named_of) (name_again n more h)

name_some : (done : List (List ℕ)) (n : List ℕ) → 0 < length (spell_name done n)
name_some [] n = omega arith
name_some (m ∷ ms) n = omega arith

fit_names : (done more : List (List ℕ)) (rest : Texts) → AreNames more → FitItems FitsName spell_name (codes ")" ∷ []) done more rest
fit_names done [] rest h = tt
fit_names done (n ∷ more) rest h = (h.0, fit_names (done ++ n ∷ []) more rest h.1)

pub names_again : (ns : List (List ℕ)) (rest : Texts) → AreNames ns → names_at (spell_names ns ++ rest) ≡ Ok (ns, rest)
unfolding names_at word_at name_step
names_again ns rest h =
    let spelled = spell_items spell_name (codes ")" ∷ []) [] ns in
    let enough : length ns < suc (length (spelled ++ rest)) = omega (arith, items_long spell_name (codes ")" ∷ []) name_some [] ns, length-append spelled rest) in
    items_again name_step FitsName spell_name (codes ")" ∷ []) rest name_step_again (λ done. refl) (suc (length (spelled ++ rest))) [] ns enough (fit_names [] ns rest h)

need_1 : (ts : Texts) → need_at (codes "required" ∷ ts) ≡ Ok (Required, ts)
unfolding need_at
need_1 ts = refl

need_2 : (ts : Texts) → need_at (codes "optional" ∷ ts) ≡ Ok (Optional, ts)
unfolding need_at
need_2 ts = refl

need_3 : (ts : Texts) → need_at (codes "repeated" ∷ ts) ≡ Ok (Repeated, ts)
unfolding need_at
need_3 ts = refl

abbrev property_made : Need → List ℕ → List ℕ × Texts → Read PropertyWords
property_made need kind name = word_at (codes ";") name.1 >>= λ end. Ok (record { need = need; kind = kind; name = name.0 }, end.1)

abbrev kind_made : Need → List ℕ × Texts → Read PropertyWords
kind_made need kind = name_at kind.1 >>= property_made need kind.0

property_again : (p : PropertyWords) (rest : Texts) → IsProperty p → property_at (spell_property [] p ++ rest) ≡ Ok (p, rest)
unfolding property_at word_at
property_again p rest h =
    let behind = p.name ∷ codes ";" ∷ rest in
    ap (λ (r : Read Need). r >>= λ need. name_at need.1 >>= kind_made need.0) (needed p.need (p.kind ∷ behind))
    ∙ ap (λ (r : Read (List ℕ)). r >>= kind_made p.need) (name_again p.kind behind h.0)
    ∙ ap (λ (r : Read (List ℕ)). r >>= property_made p.need p.kind) (name_again p.name (codes ";" ∷ rest) h.1)
  where
    needed : (need : Need) (ts : Texts) → need_at (need_word need ∷ ts) ≡ Ok (need, ts)
    needed Required ts = need_1 ts
    needed Optional ts = need_2 ts
    needed Repeated ts = need_3 ts

need_no : (need : Need) → same (need_word need) (codes "}") ≡ false
need_no Required = refl
need_no Optional = refl
need_no Repeated = refl

abbrev some_made : {A : Type 0} → A × Texts → Read (Option A)
some_made x = Ok (Some x.0, x.1)

property_step_again : StepAgain property_step FitsProperty spell_property
unfolding property_step
property_step_again done p more h =
    let ts = spell_property done p ++ more in
    ap (λ b. cond b (Ok (None, drop 1 ts)) (some_of (property_at ts))) (need_no p.need) ∙ ap (λ (r : Read PropertyWords). r >>= some_made) (property_again p more h)

property_some : (done : List PropertyWords) (p : PropertyWords) → 0 < length (spell_property done p)
property_some done p = omega arith

fit_properties : (done more : List PropertyWords) (rest : Texts) → AllByRecursion IsProperty more → FitItems FitsProperty spell_property (codes "}" ∷ []) done more rest
fit_properties done [] rest h = tt
fit_properties done (p ∷ more) rest h = (h.0, fit_properties (done ++ p ∷ []) more rest h.1)

pub properties_again : (ps : List PropertyWords) (rest : Texts) → AllByRecursion IsProperty ps → properties_at (spell_properties ps ++ rest) ≡ Ok (ps, rest)
unfolding properties_at word_at property_step
properties_again ps rest h =
    let spelled = spell_items spell_property (codes "}" ∷ []) [] ps in
    let enough : length ps < suc (length (spelled ++ rest)) = omega (arith, items_long spell_property (codes "}" ∷ []) property_some [] ps, length-append spelled rest) in
    items_again property_step FitsProperty spell_property (codes "}" ∷ []) rest property_step_again (λ done. refl) (suc (length (spelled ++ rest))) [] ps enough (fit_properties [] ps rest h)

abbrev group_made : List (List ℕ) → List ℕ × Texts → Read Clause
group_made key root = Ok (Group key root.0, root.1)

abbrev key_made : List (List ℕ) × Texts → Read Clause
key_made key = word_at (codes "REFERENCES") key.1 >>= λ references. name_at references.1 >>= group_made key.0

group_again : (ns : List (List ℕ)) (n : List ℕ) (rest : Texts) → AreNames ns → IsName n → group_at ((spell_names ns ++ codes "REFERENCES" ∷ n ∷ []) ++ rest) ≡ Ok (Group ns n, rest)
unfolding group_at word_at
group_again ns n rest h g =
    let behind = codes "REFERENCES" ∷ n ∷ rest in
    ap group_at (append_assoc (spell_names ns) (codes "REFERENCES" ∷ n ∷ []) rest) ∙ ap (λ (r : Read (List (List ℕ))). r >>= key_made) (names_again ns behind h) ∙ ap (λ (r : Read (List ℕ)). r >>= group_made ns) (name_again n rest g)

abbrev inside_made : List ℕ × Texts → Read Clause
inside_made name = Ok (Inside name.0, name.1)

not_refused : {A : Type 0} (b : Bool) (left : ℕ) (r : Read A) → b ≡ false → refused_if b left r ≡ r
not_refused b left r h = ap (λ c. refused_if c left r) h

clause_again : (done : List Clause) (c : Clause) (rest ts : Texts) → FitsClause done c ts → clause_at done (spell_clause c ++ rest) ≡ Ok (c, rest)
unfolding clause_at entity_at inside_at word_at
clause_again done Root rest ts h = not_refused (list_any is_root done) _ (Ok (Root, rest)) h
clause_again done Scatter rest ts h = not_refused (list_any is_scatter done) _ (Ok (Scatter, rest)) h
clause_again done (Inside n) rest ts h = not_refused (list_any is_inside done) _ (name_at (n ∷ rest) >>= inside_made) h.0 ∙ ap (λ (r : Read (List ℕ)). r >>= inside_made) (name_again n rest h.1)
clause_again done (Group ns n) rest ts h = not_refused (list_any is_group done) _ (group_at ((spell_names ns ++ codes "REFERENCES" ∷ n ∷ []) ++ rest)) h.0 ∙ group_again ns n rest h.1 h.2

clause_step_again : StepAgain clause_step FitsClause spell_clause_item
unfolding clause_step word_at
clause_step_again done c more h = ap (λ (r : Read Clause). r >>= some_made) (clause_again done c more (spell_clause_item done c ++ more) h)

clause_some : (done : List Clause) (c : Clause) → 0 < length (spell_clause_item done c)
clause_some done c = omega arith

clauses_again : (cs : List Clause) (rest : Texts) → FitItems FitsClause spell_clause_item (codes ";" ∷ []) [] cs rest → all_items_at clause_step (spell_items spell_clause_item (codes ";" ∷ []) [] cs ++ rest) ≡ Ok (cs, rest)
unfolding clause_step
clauses_again cs rest h =
    let spelled = spell_items spell_clause_item (codes ";" ∷ []) [] cs in
    let enough : length cs < suc (length (spelled ++ rest)) = omega (arith, items_long spell_clause_item (codes ";" ∷ []) clause_some [] cs, length-append spelled rest) in
    items_again clause_step FitsClause spell_clause_item (codes ";" ∷ []) rest clause_step_again (λ done. refl) (suc (length (spelled ++ rest))) [] cs enough h

abbrev clauses_made : List ℕ → List PropertyWords → List (List ℕ) → List Clause × Texts → Read TableWords
clauses_made n ps ns cs = Ok (record { name = n; properties = ps; primary = ns; clauses = cs.0 }, cs.1)

abbrev primary_made : List ℕ → List PropertyWords → List (List ℕ) × Texts → Read TableWords
primary_made n ps ns = all_items_at clause_step ns.1 >>= clauses_made n ps ns.0

abbrev table_properties_made : List ℕ → List PropertyWords × Texts → Read TableWords
table_properties_made n ps = word_at (codes "PRIMARY") ps.1 >>= λ primary. word_at (codes "KEY") primary.1 >>= λ key. names_at key.1 >>= primary_made n ps.0

abbrev table_named_made : List ℕ × Texts → Read TableWords
table_named_made n = properties_at n.1 >>= table_properties_made n.0

table_again : (t : TableWords) (rest : Texts) → IsTable t → table_at (spell_table t ++ rest) ≡ Ok (t, rest)
unfolding table_at word_at
table_again t rest h =
    let clauses = spell_items spell_clause_item (codes ";" ∷ []) [] t.clauses in
    let keyed = spell_names t.primary ++ clauses in
    let behind_names = clauses ++ rest in
    let behind_properties = codes "PRIMARY" ∷ codes "KEY" ∷ (spell_names t.primary ++ behind_names) in
    let split : spell_table t ++ rest ≡ t.name ∷ (spell_properties t.properties ++ behind_properties) =
    ap (λ x. t.name ∷ x) (append_assoc (spell_properties t.properties) (codes "PRIMARY" ∷ codes "KEY" ∷ keyed) rest ∙ ap (λ x. spell_properties t.properties ++ codes "PRIMARY" ∷ codes "KEY" ∷ x) (append_assoc (spell_names t.primary) clauses rest)) in
    ap table_at split
    ∙ ap (λ (r : Read (List ℕ)). r >>= table_named_made) (name_again t.name (spell_properties t.properties ++ behind_properties) h.0)
    ∙ ap (λ (r : Read (List PropertyWords)). r >>= table_properties_made t.name) (properties_again t.properties behind_properties h.1)
    ∙ ap (λ (r : Read (List (List ℕ))). r >>= primary_made t.name t.properties) (names_again t.primary behind_names h.2)
    ∙ ap (λ (r : Read (List Clause)). r >>= clauses_made t.name t.properties t.primary) (clauses_again t.clauses rest (clauses_fit [] t.clauses [] rest h.3))

-- what stands behind the stored names is the statement's end
storing_again : (o : Option (List (List ℕ))) (rest : Texts) → IsStoring o → storing_at (spell_storing o ++ codes ";" ∷ rest) ≡ Ok (o, codes ";" ∷ rest)
unfolding storing_at
storing_again None rest h = refl
storing_again (Some ns) rest h = ap (λ (r : Read (List (List ℕ))). r >>= some_made) (names_again ns (codes ";" ∷ rest) h)

abbrev storing_made : Bool → List ℕ → List ℕ → List (List ℕ) → Option (List (List ℕ)) × Texts → Read IndexWords
storing_made global n t ns o = word_at (codes ";") o.1 >>= λ end. Ok (record { name = n; global = global; table = t; indexed = ns; storing = o.0 }, end.1)

abbrev indexed_made : Bool → List ℕ → List ℕ → List (List ℕ) × Texts → Read IndexWords
indexed_made global n t ns = storing_at ns.1 >>= storing_made global n t ns.0

abbrev on_made : Bool → List ℕ → List ℕ × Texts → Read IndexWords
on_made global n t = names_at t.1 >>= indexed_made global n t.0

abbrev index_named_made : Bool → List ℕ × Texts → Read IndexWords
index_named_made global n = word_at (codes "ON") n.1 >>= λ on. name_at on.1 >>= on_made global n.0

index_again : (x : IndexWords) (rest : Texts) → IsIndex x → index_at x.global (spell_index x ++ rest) ≡ Ok (x, rest)
unfolding index_at word_at
index_again x rest h =
    let ends = codes ";" ∷ rest in
    let behind_names = spell_storing x.storing ++ ends in
    let behind_table = spell_names x.indexed ++ behind_names in
    let split : spell_index x ++ rest ≡ codes "INDEX" ∷ x.name ∷ codes "ON" ∷ x.table ∷ behind_table =
    ap (λ y. codes "INDEX" ∷ x.name ∷ codes "ON" ∷ x.table ∷ y) (append_assoc (spell_names x.indexed) (spell_storing x.storing ++ codes ";" ∷ []) rest ∙ ap (λ y. spell_names x.indexed ++ y) (append_assoc (spell_storing x.storing) (codes ";" ∷ []) rest)) in
    ap (index_at x.global) split
    ∙ ap (λ (r : Read (List ℕ)). r >>= index_named_made x.global) (name_again x.name (codes "ON" ∷ x.table ∷ behind_table) h.0)
    ∙ ap (λ (r : Read (List ℕ)). r >>= on_made x.global x.name) (name_again x.table behind_table h.1)
    ∙ ap (λ (r : Read (List (List ℕ))). r >>= indexed_made x.global x.name x.table) (names_again x.indexed behind_names h.2)
    ∙ ap (λ (r : Read (Option (List (List ℕ)))). r >>= storing_made x.global x.name x.table x.indexed) (storing_again x.storing rest h.3)

abbrev change_properties_made : List ℕ → List PropertyWords × Texts → Read ChangeWords
change_properties_made n ps = word_at (codes ";") ps.1 >>= λ end. Ok (record { table = n; properties = ps.0 }, end.1)

abbrev change_named_made : List ℕ × Texts → Read ChangeWords
change_named_made n = word_at (codes "ADD") n.1 >>= λ add. properties_at add.1 >>= change_properties_made n.0

change_again : (c : ChangeWords) (rest : Texts) → IsChange c → change_at (spell_change c ++ rest) ≡ Ok (c, rest)
unfolding change_at word_at
change_again c rest h =
    let ends = codes ";" ∷ rest in
    let split : spell_change c ++ rest ≡ codes "TABLE" ∷ c.table ∷ codes "ADD" ∷ (spell_properties c.properties ++ ends) =
    ap (λ y. codes "TABLE" ∷ c.table ∷ codes "ADD" ∷ y) (append_assoc (spell_properties c.properties) (codes ";" ∷ []) rest) in
    ap change_at split
    ∙ ap (λ (r : Read (List ℕ)). r >>= change_named_made) (name_again c.table (codes "ADD" ∷ (spell_properties c.properties ++ ends)) h.0)
    ∙ ap (λ (r : Read (List PropertyWords)). r >>= change_properties_made c.table) (properties_again c.properties ends h.1)

abbrev made_by : {A B : Type 0} → (A → B) → A × Texts → Read B
made_by make x = Ok (make x.0, x.1)

index_created : (x : IndexWords) (rest : Texts) → IsIndex x → created_at (index_word x.global ∷ (spell_index x ++ rest)) ≡ Ok (Index x, rest)
unfolding created_at
index_created x rest h = by_global x.global (ap (λ (r : Read IndexWords). r >>= made_by Index) (index_again x rest h))
  where
    by_global : (g : Bool) → (index_at g (spell_index x ++ rest) >>= made_by Index) ≡ Ok (Index x, rest) → created_at (index_word g ∷ (spell_index x ++ rest)) ≡ Ok (Index x, rest)
    by_global true e = e
    by_global false e = e

statement_again : (s : Statement) (rest : Texts) → IsStatement s → statement_at (spell_statement s ++ rest) ≡ Ok (s, rest)
unfolding statement_at created_at
statement_again (Table t) rest h = ap (λ (r : Read TableWords). r >>= made_by Table) (table_again t rest h)
statement_again (Index x) rest h = index_created x rest h
statement_again (Change c) rest h = ap (λ (r : Read ChangeWords). r >>= made_by Change) (change_again c rest h)

abbrev pub placed_made : ℕ → Statement × Texts → Read (Option Placed)
placed_made left x = Ok (Some (record { left = left; statement = x.0 }), x.1)

pub placed_on : (done : List Placed) (ts : Texts) → 0 < length ts → placed_step done ts ≡ (statement_at ts >>= placed_made (length ts))
unfolding placed_step
placed_on done [] lt = absurd (omega (arith, lt))
placed_on done (t ∷ ts) lt = refl

some_tokens : (s : Statement) (more : Texts) → 0 < length (spell_statement s ++ more)
some_tokens (Table t) more = omega arith
some_tokens (Index x) more = omega arith
some_tokens (Change c) more = omega arith

placed_step_again : StepAgain placed_step FitsPlaced spell_placed
placed_step_again done p more h =
    let ts = spell_statement p.statement ++ more in
    placed_on done ts (some_tokens p.statement more) ∙ ap (λ (r : Read Statement). r >>= placed_made (length ts)) (statement_again p.statement more h.0) ∙ ap (λ n. placed_made n (p.statement, more)) (sym h.1)

placed_some : (done : List Placed) (p : Placed) → 0 < length (spell_placed done p)
placed_some done p = some_of_statement p.statement
  where
    some_of_statement : (s : Statement) → 0 < length (spell_statement s)
    some_of_statement (Table t) = omega arith
    some_of_statement (Index x) = omega arith
    some_of_statement (Change c) = omega arith

placed_closes : (done : List Placed) → placed_step done [] ≡ Ok (None, [])
unfolding placed_step
placed_closes done = refl

statements_again : (ps : List Placed) → FitItems FitsPlaced spell_placed [] [] ps [] → all_items_at placed_step (spell_items spell_placed [] [] ps) ≡ Ok (ps, [])
statements_again ps h =
    let spelled = spell_items spell_placed [] [] ps in
    let enough : length ps < suc (length spelled) = omega (arith, items_long spell_placed [] placed_some [] ps) in
    ap (items_at placed_step (suc (length spelled)) []) (sym (append-nil spelled)) ∙ items_again placed_step FitsPlaced spell_placed [] [] placed_step_again placed_closes (suc (length spelled)) [] ps enough h

abbrev statements_made : List ℕ → List Placed × Texts → Read SchemaWords
statements_made n ps = Ok (record { name = n; statements = ps.0 }, ps.1)

abbrev schema_named_made : List ℕ × Texts → Read SchemaWords
schema_named_made n = word_at (codes ";") n.1 >>= λ end. all_items_at placed_step end.1 >>= statements_made n.0

pub schema_again : (ts : Texts) (w : SchemaWords) → Spells ts w → schema_at ts ≡ Ok (w, [])
unfolding schema_at word_at
schema_again ts w h =
    let statements = spell_items spell_placed [] [] w.statements in
    ap schema_at h.spelled
    ∙ ap (λ (r : Read (List ℕ)). r >>= schema_named_made) (name_again w.name (codes ";" ∷ statements) h.name)
    ∙ ap (λ (r : Read (List Placed)). r >>= statements_made w.name) (statements_again w.statements h.statements)
