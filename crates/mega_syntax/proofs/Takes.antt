-- What was read was spelled so.
use Rattle.std.proofs.Common.{◌≡◌, ℕ, zero, suc, ◌<◌, Bool, true, false, cond, List, [], ◌∷◌, ◌++◌, length, drop, refl, sym, ap, ◌∙◌, subst, arith, append_assoc, append-nil, length-append, Option, Some, None, Result, Ok, Err}
use Rattle.std.specs.Prelude.{codes}
use Rattle.std.specs.List.{list_any, AllByRecursion}
use Rattle.std.proofs.lemmas.Slice.Eq.{bytes_eq-Decides}
use Rattle.mega_syntax.specs.declared.need.Need.{Need}
use Rattle.mega_syntax.specs.declared.need.Need.TheVariants.{Required, Optional, Repeated}
use Rattle.mega_syntax.specs.declared.words.PropertyWords.{PropertyWords}
use Rattle.mega_syntax.specs.declared.words.Clause.{Clause}
use Rattle.mega_syntax.specs.declared.words.Clause.TheVariants.{Root, Scatter, Inside, Group}
use Rattle.mega_syntax.specs.declared.words.TableWords.{TableWords}
use Rattle.mega_syntax.specs.declared.words.IndexWords.{IndexWords}
use Rattle.mega_syntax.specs.declared.words.ChangeWords.{ChangeWords}
use Rattle.mega_syntax.specs.declared.words.Statement.{Statement}
use Rattle.mega_syntax.specs.declared.words.Statement.TheVariants.{Table, Index, Change}
use Rattle.mega_syntax.specs.declared.words.Placed.{Placed}
use Rattle.mega_syntax.specs.declared.words.SchemaWords.{SchemaWords}
use Rattle.mega_syntax.specs.Names.{is_name, same}
use Rattle.mega_syntax.specs.Reading.{Texts, Read, ◌>>=◌, go_on, items_at, all_items_at, is_next, word_at, name_at, refused_if, comma_at, name_step, names_at, need_at, property_at, some_of, property_step, properties_at, is_root, is_scatter, is_inside, is_group, group_at, inside_at, entity_at, clause_at, clause_step, table_at, storing_at, index_at, change_at, by, created_at, statement_at, placed_step, schema_at}
use Rattle.mega_syntax.specs.Grammar.{spell_items, FitItems, IsName, spell_name, spell_names, FitsName, AreNames, need_word, spell_property, spell_properties, IsProperty, FitsProperty, spell_clause, spell_clause_item, FitsClause, spell_table, IsTable, spell_storing, spell_index, IsStoring, IsIndex, spell_change, IsChange, index_word, spell_statement, IsStatement, spell_placed, FitsPlaced, Spells}
use Rattle.mega_syntax.proofs.Items.{bind_ok, ok_parts, StepTells, StepTakes, items_take}

-- ts is a spelling, and the rest behind it; the value fits
pub record HasSpelling (ts spelling rest : Texts) (Fit : Type 0) : Type 0 where
  pub spelled : ts ≡ spelling ++ rest
  pub fit : Fit

same_is : (a b : List ℕ) → same a b ≡ true → a ≡ b
same_is a b h = (bytes_eq-Decides a b).0 h

guard_ok : {A : Type 0} (b : Bool) (n : ℕ) (x y : A) → cond {A = Result A ℕ} b (Ok x) (Err n) ≡ Ok y → (b ≡ true) × (x ≡ y)
guard_ok true n x y h = (refl, cc)
guard_ok false n x y h = absurd (cc)

pub word_taken : (w : List ℕ) (ts : Texts) (u : Unit {0}) (rest : Texts) → word_at w ts ≡ Ok (u, rest) → ts ≡ w ∷ rest
unfolding word_at
word_taken w [] u rest h = absurd (cc)
word_taken w (t ∷ ts) u rest h =
    let g = guard_ok (same t w) (suc (length ts)) (tt, ts) (u, rest) h in
    λ i. same_is t w g.0 i ∷ (ap (λ (x : Unit {0} × Texts). x.1) g.1) i

pub name_taken : (ts : Texts) (n : List ℕ) (rest : Texts) → name_at ts ≡ Ok (n, rest) → HasSpelling ts (n ∷ []) rest (IsName n)
unfolding name_at
name_taken [] n rest h = absurd (cc)
name_taken (t ∷ ts) n rest h =
    let g = guard_ok (is_name t) (suc (length ts)) (t, ts) (n, rest) h in
    let name : t ≡ n = ap (λ (x : List ℕ × Texts). x.0) g.1 in
    record { spelled = λ i. name i ∷ (ap (λ (x : List ℕ × Texts). x.1) g.1) i; fit = ap is_name (sym name) ∙ g.0 }

pub next_is : (w : List ℕ) (ts : Texts) → is_next w ts ≡ true → ts ≡ w ∷ drop 1 ts
next_is w [] h = absurd (cc)
next_is w (t ∷ ts) h = ap (λ x. x ∷ ts) (same_is t w h)

comma_taken : (done : List (List ℕ)) (ts : Texts) (u : Unit {0}) (rest : Texts) (n : List ℕ) (after : Texts) → comma_at done ts ≡ Ok (u, rest) → rest ≡ n ∷ after → ts ≡ spell_name done n ++ after
comma_taken [] ts u rest n after h e = let p = ok_parts tt u ts rest h in p.1 ∙ e
comma_taken (m ∷ ms) ts u rest n after h e = word_taken (codes ",") ts u rest h ∙ ap (λ x. codes "," ∷ x) e

name_shorter : (done : List (List ℕ)) (n : List ℕ) (rest : Texts) → length rest < length (spell_name done n ++ rest)
name_shorter [] n rest = omega arith
name_shorter (m ∷ ms) n rest = omega arith

pub name_step_takes : StepTakes name_step FitsName spell_name (codes ")" ∷ [])
unfolding name_step
name_step_takes done ts o rest h = pick (is_next (codes ")") ts) refl h
  where
    named : Read (Option (List ℕ))
    named = comma_at done ts >>= λ comma. name_at comma.1 >>= λ name. Ok (Some name.0, name.1)

    pick : (b : Bool) → is_next (codes ")") ts ≡ b → cond b (Ok (None, drop 1 ts)) named ≡ Ok (o, rest) → StepTells FitsName spell_name (codes ")" ∷ []) done ts o rest
    pick true e g = let p = ok_parts None o (drop 1 ts) rest g in rw (← p.0) (next_is (codes ")") ts e ∙ ap (λ x. codes ")" ∷ x) p.1)
    pick false e g =
        let c = bind_ok (comma_at done ts) (λ comma. name_at comma.1 >>= λ name. Ok (Some name.0, name.1)) (o, rest) g in
        let n = bind_ok (name_at c.0.1) (λ name. Ok (Some name.0, name.1)) (o, rest) c.2 in
        let p = ok_parts (Some n.0.0) o n.0.1 rest n.2 in
        let taken = name_taken c.0.1 n.0.0 n.0.1 n.1 in
        let spelled : ts ≡ spell_name done n.0.0 ++ rest = comma_taken done ts c.0.0 c.0.1 n.0.0 rest c.1 (taken.spelled ∙ ap (λ x. n.0.0 ∷ x) p.1) in
        rw (← p.0) (spelled, taken.fit, rw spelled (name_shorter done n.0.0 rest))

shorter_by : (ts spelling rest : Texts) → ts ≡ spelling ++ rest → 0 < length spelling → length rest < length ts
shorter_by ts spelling rest e h = omega (arith, ap length e, length-append spelling rest)

-- a list of names is a list of items
all_names : (done more : List (List ℕ)) (rest : Texts) → FitItems FitsName spell_name (codes ")" ∷ []) done more rest → AreNames more
all_names done [] rest h = tt
all_names done (n ∷ more) rest h = (h.0, all_names (done ++ n ∷ []) more rest h.1)

pub names_taken : (ts : Texts) (ns : List (List ℕ)) (rest : Texts) → names_at ts ≡ Ok (ns, rest) → HasSpelling ts (spell_names ns) rest (AreNames ns)
unfolding names_at
names_taken ts ns rest h =
    let a = bind_ok (word_at (codes "(") ts) (λ a. all_items_at name_step a.1) (ns, rest) h in
    let r = items_take name_step FitsName spell_name (codes ")" ∷ []) name_step_takes _ [] a.0.1 ns rest a.2 in
    let first = word_taken (codes "(") ts a.0.0 a.0.1 a.1 in
    rw r.all (record { spelled = first ∙ ap (λ x. codes "(" ∷ x) r.spelled; fit = all_names [] r.more rest r.fit })

pick_need : (a b c : Bool) (t : List ℕ) (ts : Texts) (need : Need) (rest : Texts) → same t (codes "required") ≡ a → same t (codes "optional") ≡ b → same t (codes "repeated") ≡ c → cond {A = Read Need} a (Ok (Required, ts)) (cond b (Ok (Optional, ts)) (cond c (Ok (Repeated, ts)) (Err (suc (length ts))))) ≡ Ok (need, rest) → t ∷ ts ≡ need_word need ∷ rest
pick_need true b c t ts need rest e f g h = let p = ok_parts Required need ts rest h in rw (← p.0) (λ i. same_is t (codes "required") e i ∷ p.1 i)
pick_need false true c t ts need rest e f g h = let p = ok_parts Optional need ts rest h in rw (← p.0) (λ i. same_is t (codes "optional") f i ∷ p.1 i)
pick_need false false true t ts need rest e f g h = let p = ok_parts Repeated need ts rest h in rw (← p.0) (λ i. same_is t (codes "repeated") g i ∷ p.1 i)
pick_need false false false t ts need rest e f g h = absurd (cc)

need_taken : (ts : Texts) (need : Need) (rest : Texts) → need_at ts ≡ Ok (need, rest) → ts ≡ need_word need ∷ rest
unfolding need_at
need_taken [] need rest h = absurd (cc)
need_taken (t ∷ ts) need rest h = pick_need (same t (codes "required")) (same t (codes "optional")) (same t (codes "repeated")) t ts need rest refl refl refl h

property_taken : (done : List PropertyWords) (ts : Texts) (p : PropertyWords) (rest : Texts) → property_at ts ≡ Ok (p, rest) → HasSpelling ts (spell_property done p) rest (IsProperty p)
unfolding property_at
property_taken done ts p rest h =
    let a = bind_ok (need_at ts) _ _ h in
    let k = bind_ok (name_at a.0.1) _ _ a.2 in
    let n = bind_ok (name_at k.0.1) _ _ k.2 in
    let e = bind_ok (word_at (codes ";") n.0.1) _ _ n.2 in
    let parts = ok_parts (record { need = a.0.0; kind = k.0.0; name = n.0.0 }) p e.0.1 rest e.2 in
    let kt = name_taken a.0.1 k.0.0 k.0.1 k.1 in
    let nt = name_taken k.0.1 n.0.0 n.0.1 n.1 in
    rw (← parts.0) (record {
      spelled = need_taken ts a.0.0 a.0.1 a.1 ∙ ap (λ x. need_word a.0.0 ∷ x) (kt.spelled ∙ ap (λ x. k.0.0 ∷ x) (nt.spelled ∙ ap (λ x. n.0.0 ∷ x) (word_taken (codes ";") n.0.1 e.0.0 e.0.1 e.1 ∙ ap (λ x. codes ";" ∷ x) parts.1)));
      fit = (kt.fit, nt.fit);
    })

some_ok : {A : Type 0} (r : Read A) (o : Option A) (rest : Texts) → some_of r ≡ Ok (o, rest) → (a : A) × (r ≡ Ok (a, rest)) × (o ≡ Some a)
some_ok (Ok x) o rest h = let p = ok_parts (Some x.0) o x.1 rest h in (x.0, ap (λ y. Ok (x.0, y)) p.1, sym p.0)
some_ok (Err n) o rest h = absurd (cc)

pub property_step_takes : StepTakes property_step FitsProperty spell_property (codes "}" ∷ [])
unfolding property_step
property_step_takes done ts o rest h = pick (is_next (codes "}") ts) refl h
  where
    pick : (b : Bool) → is_next (codes "}") ts ≡ b → cond b (Ok (None, drop 1 ts)) (some_of (property_at ts)) ≡ Ok (o, rest) → StepTells FitsProperty spell_property (codes "}" ∷ []) done ts o rest
    pick true e g = let p = ok_parts None o (drop 1 ts) rest g in rw (← p.0) (next_is (codes "}") ts e ∙ ap (λ x. codes "}" ∷ x) p.1)
    pick false e g =
        let s = some_ok (property_at ts) o rest g in
        let t = property_taken done ts s.0 rest s.1 in
        rw s.2 (t.spelled, t.fit, shorter_by ts (spell_property done s.0) rest t.spelled (omega arith))

all_properties : (done more : List PropertyWords) (rest : Texts) → FitItems FitsProperty spell_property (codes "}" ∷ []) done more rest → AllByRecursion IsProperty more
all_properties done [] rest h = tt
all_properties done (n ∷ more) rest h = (h.0, all_properties (done ++ n ∷ []) more rest h.1)

pub properties_taken : (ts : Texts) (ps : List PropertyWords) (rest : Texts) → properties_at ts ≡ Ok (ps, rest) → HasSpelling ts (spell_properties ps) rest (AllByRecursion IsProperty ps)
unfolding properties_at
properties_taken ts ps rest h =
    let a = bind_ok (word_at (codes "{") ts) (λ a. all_items_at property_step a.1) (ps, rest) h in
    let r = items_take property_step FitsProperty spell_property (codes "}" ∷ []) property_step_takes _ [] a.0.1 ps rest a.2 in
    let first = word_taken (codes "{") ts a.0.0 a.0.1 a.1 in
    rw r.all (record { spelled = first ∙ ap (λ x. codes "{" ∷ x) r.spelled; fit = all_properties [] r.more rest r.fit })

inside_taken : (ts : Texts) (c : Clause) (rest : Texts) → inside_at ts ≡ Ok (c, rest) → (n : List ℕ) × (c ≡ Inside n) × IsName n × (ts ≡ codes "TABLE" ∷ n ∷ rest)
unfolding inside_at
inside_taken ts c rest h =
    let a = bind_ok (word_at (codes "TABLE") ts) _ _ h in
    let n = bind_ok (name_at a.0.1) _ _ a.2 in
    let parts = ok_parts (Inside n.0.0) c n.0.1 rest n.2 in
    let nt = name_taken a.0.1 n.0.0 n.0.1 n.1 in
    (n.0.0, sym parts.0, nt.fit, word_taken (codes "TABLE") ts a.0.0 a.0.1 a.1 ∙ ap (λ x. codes "TABLE" ∷ x) (nt.spelled ∙ ap (λ x. n.0.0 ∷ x) parts.1))

group_taken : (ts : Texts) (c : Clause) (rest : Texts) → group_at ts ≡ Ok (c, rest) → (ns : List (List ℕ)) × (n : List ℕ) × (c ≡ Group ns n) × AreNames ns × IsName n × (ts ≡ (spell_names ns ++ codes "REFERENCES" ∷ n ∷ []) ++ rest)
unfolding group_at
group_taken ts c rest h =
    let k = bind_ok (names_at ts) _ _ h in
    let r = bind_ok (word_at (codes "REFERENCES") k.0.1) _ _ k.2 in
    let n = bind_ok (name_at r.0.1) _ _ r.2 in
    let parts = ok_parts (Group k.0.0 n.0.0) c n.0.1 rest n.2 in
    let kt = names_taken ts k.0.0 k.0.1 k.1 in
    let nt = name_taken r.0.1 n.0.0 n.0.1 n.1 in
    let back = word_taken (codes "REFERENCES") k.0.1 r.0.0 r.0.1 r.1 ∙ ap (λ x. codes "REFERENCES" ∷ x) (nt.spelled ∙ ap (λ x. n.0.0 ∷ x) parts.1) in
    (k.0.0, n.0.0, sym parts.0, kt.fit, nt.fit, kt.spelled ∙ ap (λ x. spell_names k.0.0 ++ x) back ∙ sym (append_assoc (spell_names k.0.0) (codes "REFERENCES" ∷ n.0.0 ∷ []) rest))

refused_ok : {A : Type 0} (b : Bool) (left : ℕ) (r : Read A) (x : A) (rest : Texts) → refused_if b left r ≡ Ok (x, rest) → (b ≡ false) × (r ≡ Ok (x, rest))
refused_ok true left r x rest h = absurd (cc)
refused_ok false left r x rest h = (refl, h)

-- a clause behind the words that lead to it
abbrev ClauseIs : List Clause → Texts → Clause → Texts → Type 0
ClauseIs done ts c rest = (ts ≡ spell_clause c ++ rest) × FitsClause done c []

entity_taken : (done : List Clause) (left : ℕ) (ts : Texts) (c : Clause) (rest : Texts) → entity_at done left ts ≡ Ok (c, rest) → ClauseIs done (codes "ENTITY" ∷ codes "GROUP" ∷ ts) c rest
unfolding entity_at
entity_taken done left ts c rest h = pick (is_next (codes "ROOT") ts) (is_next (codes "KEY") ts) refl refl h
  where
    pick : (a b : Bool) → is_next (codes "ROOT") ts ≡ a → is_next (codes "KEY") ts ≡ b → cond {A = Read Clause} a (refused_if (list_any is_root done) left (Ok (Root, drop 1 ts))) (cond b (refused_if (list_any is_group done) left (group_at (drop 1 ts))) (Err (length ts))) ≡ Ok (c, rest) → ClauseIs done (codes "ENTITY" ∷ codes "GROUP" ∷ ts) c rest
    pick true b e f g =
        let r = refused_ok (list_any is_root done) left (Ok (Root, drop 1 ts)) c rest g in
        let p = ok_parts Root c (drop 1 ts) rest r.1 in
        rw (← p.0) (ap (λ x. codes "ENTITY" ∷ codes "GROUP" ∷ x) (next_is (codes "ROOT") ts e ∙ ap (λ x. codes "ROOT" ∷ x) p.1), r.0)
    pick false true e f g =
        let r = refused_ok (list_any is_group done) left (group_at (drop 1 ts)) c rest g in
        let t = group_taken (drop 1 ts) c rest r.1 in
        rw t.2 (ap (λ x. codes "ENTITY" ∷ codes "GROUP" ∷ x) (next_is (codes "KEY") ts f ∙ ap (λ x. codes "KEY" ∷ x) t.5), (r.0, t.3, t.4))
    pick false false e f g = absurd (cc)

clause_taken : (done : List Clause) (ts : Texts) (c : Clause) (rest : Texts) → clause_at done ts ≡ Ok (c, rest) → ClauseIs done ts c rest
unfolding clause_at
clause_taken done ts c rest h = pick (is_next (codes "ENTITY") ts) (is_next (codes "IN") ts) (is_next (codes "SCATTER") ts) refl refl refl h
  where
    pick : (a b d : Bool) → is_next (codes "ENTITY") ts ≡ a → is_next (codes "IN") ts ≡ b → is_next (codes "SCATTER") ts ≡ d
        → cond {A = Read Clause} a (word_at (codes "GROUP") (drop 1 ts) >>= λ group. entity_at done (length ts) group.1) (cond b (refused_if (list_any is_inside done) (length ts) (inside_at (drop 1 ts))) (cond d (refused_if (list_any is_scatter done) (length ts) (Ok (Scatter, drop 1 ts))) (Err (length ts)))) ≡ Ok (c, rest) → ClauseIs done ts c rest
    pick true b d e f i g =
        let w = bind_ok (word_at (codes "GROUP") (drop 1 ts)) (λ group. entity_at done (length ts) group.1) (c, rest) g in
        let t = entity_taken done (length ts) w.0.1 c rest w.2 in
        let head : ts ≡ codes "ENTITY" ∷ codes "GROUP" ∷ w.0.1 = next_is (codes "ENTITY") ts e ∙ ap (λ x. codes "ENTITY" ∷ x) (word_taken (codes "GROUP") (drop 1 ts) w.0.0 w.0.1 w.1) in
        (head ∙ t.0, t.1)
    pick false true d e f i g =
        let r = refused_ok (list_any is_inside done) (length ts) (inside_at (drop 1 ts)) c rest g in
        let t = inside_taken (drop 1 ts) c rest r.1 in
        rw t.1 (next_is (codes "IN") ts f ∙ ap (λ x. codes "IN" ∷ x) t.3, (r.0, t.2))
    pick false false true e f i g =
        let r = refused_ok (list_any is_scatter done) (length ts) (Ok (Scatter, drop 1 ts)) c rest g in
        let p = ok_parts Scatter c (drop 1 ts) rest r.1 in
        rw (← p.0) (next_is (codes "SCATTER") ts i ∙ ap (λ x. codes "SCATTER" ∷ x) p.1, r.0)
    pick false false false e f i g = absurd (cc)

-- what a clause needs doesn't depend on the tokens from it on
pub clause_fits : (done : List Clause) (c : Clause) (ts us : Texts) → FitsClause done c ts → FitsClause done c us
clause_fits done Root ts us h = h
clause_fits done Scatter ts us h = h
clause_fits done (Inside n) ts us h = h
clause_fits done (Group ns n) ts us h = h

pub clauses_fit : (done more : List Clause) (rest others : Texts) → FitItems FitsClause spell_clause_item (codes ";" ∷ []) done more rest → FitItems FitsClause spell_clause_item (codes ";" ∷ []) done more others
clauses_fit done [] rest others h = tt
clauses_fit done (c ∷ more) rest others h = (clause_fits done c _ _ h.0, clauses_fit (done ++ c ∷ []) more rest others h.1)

pub clause_step_takes : StepTakes clause_step FitsClause spell_clause_item (codes ";" ∷ [])
unfolding clause_step
clause_step_takes done ts o rest h = pick (is_next (codes ";") ts) refl h
  where
    pick : (b : Bool) → is_next (codes ";") ts ≡ b → cond b (Ok (None, drop 1 ts)) (word_at (codes ",") ts >>= λ comma. some_of (clause_at done comma.1)) ≡ Ok (o, rest) → StepTells FitsClause spell_clause_item (codes ";" ∷ []) done ts o rest
    pick true e g = let p = ok_parts None o (drop 1 ts) rest g in rw (← p.0) (next_is (codes ";") ts e ∙ ap (λ x. codes ";" ∷ x) p.1)
    pick false e g =
        let w = bind_ok (word_at (codes ",") ts) (λ comma. some_of (clause_at done comma.1)) (o, rest) g in
        let s = some_ok (clause_at done w.0.1) o rest w.2 in
        let t = clause_taken done w.0.1 s.0 rest s.1 in
        let spelled : ts ≡ spell_clause_item done s.0 ++ rest = word_taken (codes ",") ts w.0.0 w.0.1 w.1 ∙ ap (λ x. codes "," ∷ x) t.0 in
        rw s.2 (spelled, clause_fits done s.0 [] ts t.1, shorter_by ts (spell_clause_item done s.0) rest spelled (omega arith))

table_taken : (ts : Texts) (t : TableWords) (rest : Texts) → table_at ts ≡ Ok (t, rest) → HasSpelling ts (spell_table t) rest (IsTable t)
unfolding table_at
table_taken ts t rest h =
    let n = bind_ok (name_at ts) _ _ h in
    let ps = bind_ok (properties_at n.0.1) _ _ n.2 in
    let p = bind_ok (word_at (codes "PRIMARY") ps.0.1) _ _ ps.2 in
    let k = bind_ok (word_at (codes "KEY") p.0.1) _ _ p.2 in
    let ns = bind_ok (names_at k.0.1) _ _ k.2 in
    let cs = bind_ok (all_items_at clause_step ns.0.1) _ _ ns.2 in
    let made : TableWords = record { name = n.0.0; properties = ps.0.0; primary = ns.0.0; clauses = cs.0.0 } in
    let parts = ok_parts made t cs.0.1 rest cs.2 in
    let nt = name_taken ts n.0.0 n.0.1 n.1 in
    let pt = properties_taken n.0.1 ps.0.0 ps.0.1 ps.1 in
    let kt = names_taken k.0.1 ns.0.0 ns.0.1 ns.1 in
    let ct = items_take clause_step FitsClause spell_clause_item (codes ";" ∷ []) clause_step_takes _ [] ns.0.1 cs.0.0 cs.0.1 cs.1 in
    let clauses_spelled : ns.0.1 ≡ spell_items spell_clause_item (codes ";" ∷ []) [] cs.0.0 ++ rest = ct.spelled ∙ (λ i. spell_items spell_clause_item (codes ";" ∷ []) [] (sym ct.all i) ++ parts.1 i) in
    let tail = spell_items spell_clause_item (codes ";" ∷ []) [] cs.0.0 in
    let keyed : k.0.1 ≡ (spell_names ns.0.0 ++ tail) ++ rest = kt.spelled ∙ ap (λ x. spell_names ns.0.0 ++ x) clauses_spelled ∙ sym (append_assoc (spell_names ns.0.0) tail rest) in
    let words : ps.0.1 ≡ codes "PRIMARY" ∷ codes "KEY" ∷ ((spell_names ns.0.0 ++ tail) ++ rest) = word_taken (codes "PRIMARY") ps.0.1 p.0.0 p.0.1 p.1 ∙ ap (λ x. codes "PRIMARY" ∷ x) (word_taken (codes "KEY") p.0.1 k.0.0 k.0.1 k.1 ∙ ap (λ x. codes "KEY" ∷ x) keyed) in
    let body : n.0.1 ≡ (spell_properties ps.0.0 ++ codes "PRIMARY" ∷ codes "KEY" ∷ (spell_names ns.0.0 ++ tail)) ++ rest = pt.spelled ∙ ap (λ x. spell_properties ps.0.0 ++ x) words ∙ sym (append_assoc (spell_properties ps.0.0) (codes "PRIMARY" ∷ codes "KEY" ∷ (spell_names ns.0.0 ++ tail)) rest) in
    let F : List Clause → Type 0 = λ l. FitItems FitsClause spell_clause_item (codes ";" ∷ []) [] l [] in
    rw (← parts.0) (record {
      spelled = nt.spelled ∙ ap (λ x. n.0.0 ∷ x) body;
      fit = (nt.fit, pt.fit, kt.fit, subst F (sym ct.all) (clauses_fit [] ct.more cs.0.1 [] ct.fit));
    })

storing_taken : (ts : Texts) (o : Option (List (List ℕ))) (rest : Texts) → storing_at ts ≡ Ok (o, rest) → HasSpelling ts (spell_storing o) rest (IsStoring o)
unfolding storing_at
storing_taken ts o rest h = pick (is_next (codes "STORING") ts) refl h
  where
    pick : (b : Bool) → is_next (codes "STORING") ts ≡ b → cond b (some_of (names_at (drop 1 ts))) (Ok (None, ts)) ≡ Ok (o, rest) → HasSpelling ts (spell_storing o) rest (IsStoring o)
    pick true e g =
        let s = some_ok (names_at (drop 1 ts)) o rest g in
        let t = names_taken (drop 1 ts) s.0 rest s.1 in
        rw s.2 (record { spelled = next_is (codes "STORING") ts e ∙ ap (λ x. codes "STORING" ∷ x) t.spelled; fit = t.fit })
    pick false e g = let p = ok_parts None o ts rest g in rw (← p.0) (record { spelled = p.1; fit = tt })

index_taken : (global : Bool) (ts : Texts) (x : IndexWords) (rest : Texts) → index_at global ts ≡ Ok (x, rest) → HasSpelling ts (spell_index x) rest (IsIndex x × (x.global ≡ global))
unfolding index_at
index_taken global ts x rest h =
    let w = bind_ok (word_at (codes "INDEX") ts) _ _ h in
    let n = bind_ok (name_at w.0.1) _ _ w.2 in
    let o = bind_ok (word_at (codes "ON") n.0.1) _ _ n.2 in
    let t = bind_ok (name_at o.0.1) _ _ o.2 in
    let ns = bind_ok (names_at t.0.1) _ _ t.2 in
    let s = bind_ok (storing_at ns.0.1) _ _ ns.2 in
    let e = bind_ok (word_at (codes ";") s.0.1) _ _ s.2 in
    let made : IndexWords = record { name = n.0.0; global = global; table = t.0.0; indexed = ns.0.0; storing = s.0.0 } in
    let parts = ok_parts made x e.0.1 rest e.2 in
    let nt = name_taken w.0.1 n.0.0 n.0.1 n.1 in
    let tt_ = name_taken o.0.1 t.0.0 t.0.1 t.1 in
    let kt = names_taken t.0.1 ns.0.0 ns.0.1 ns.1 in
    let st = storing_taken ns.0.1 s.0.0 s.0.1 s.1 in
    let ends : s.0.1 ≡ (codes ";" ∷ []) ++ rest = word_taken (codes ";") s.0.1 e.0.0 e.0.1 e.1 ∙ ap (λ y. codes ";" ∷ y) parts.1 in
    let stored : ns.0.1 ≡ (spell_storing s.0.0 ++ codes ";" ∷ []) ++ rest = st.spelled ∙ ap (λ y. spell_storing s.0.0 ++ y) ends ∙ sym (append_assoc (spell_storing s.0.0) (codes ";" ∷ []) rest) in
    let listed : t.0.1 ≡ (spell_names ns.0.0 ++ (spell_storing s.0.0 ++ codes ";" ∷ [])) ++ rest = kt.spelled ∙ ap (λ y. spell_names ns.0.0 ++ y) stored ∙ sym (append_assoc (spell_names ns.0.0) (spell_storing s.0.0 ++ codes ";" ∷ []) rest) in
    let named : n.0.1 ≡ codes "ON" ∷ t.0.0 ∷ ((spell_names ns.0.0 ++ (spell_storing s.0.0 ++ codes ";" ∷ [])) ++ rest) = word_taken (codes "ON") n.0.1 o.0.0 o.0.1 o.1 ∙ ap (λ y. codes "ON" ∷ y) (tt_.spelled ∙ ap (λ y. t.0.0 ∷ y) listed) in
    rw (← parts.0) (record {
      spelled = word_taken (codes "INDEX") ts w.0.0 w.0.1 w.1 ∙ ap (λ y. codes "INDEX" ∷ y) (nt.spelled ∙ ap (λ y. n.0.0 ∷ y) named);
      fit = ((nt.fit, tt_.fit, kt.fit, st.fit), refl);
    })

change_taken : (ts : Texts) (c : ChangeWords) (rest : Texts) → change_at ts ≡ Ok (c, rest) → HasSpelling ts (spell_change c) rest (IsChange c)
unfolding change_at
change_taken ts c rest h =
    let t = bind_ok (word_at (codes "TABLE") ts) _ _ h in
    let n = bind_ok (name_at t.0.1) _ _ t.2 in
    let a = bind_ok (word_at (codes "ADD") n.0.1) _ _ n.2 in
    let ps = bind_ok (properties_at a.0.1) _ _ a.2 in
    let e = bind_ok (word_at (codes ";") ps.0.1) _ _ ps.2 in
    let made : ChangeWords = record { table = n.0.0; properties = ps.0.0 } in
    let parts = ok_parts made c e.0.1 rest e.2 in
    let nt = name_taken t.0.1 n.0.0 n.0.1 n.1 in
    let pt = properties_taken a.0.1 ps.0.0 ps.0.1 ps.1 in
    let ends : ps.0.1 ≡ (codes ";" ∷ []) ++ rest = word_taken (codes ";") ps.0.1 e.0.0 e.0.1 e.1 ∙ ap (λ y. codes ";" ∷ y) parts.1 in
    let added : a.0.1 ≡ (spell_properties ps.0.0 ++ codes ";" ∷ []) ++ rest = pt.spelled ∙ ap (λ y. spell_properties ps.0.0 ++ y) ends ∙ sym (append_assoc (spell_properties ps.0.0) (codes ";" ∷ []) rest) in
    let named : n.0.1 ≡ codes "ADD" ∷ ((spell_properties ps.0.0 ++ codes ";" ∷ []) ++ rest) = word_taken (codes "ADD") n.0.1 a.0.0 a.0.1 a.1 ∙ ap (λ y. codes "ADD" ∷ y) added in
    rw (← parts.0) (record {
      spelled = word_taken (codes "TABLE") ts t.0.0 t.0.1 t.1 ∙ ap (λ y. codes "TABLE" ∷ y) (nt.spelled ∙ ap (λ y. n.0.0 ∷ y) named);
      fit = (nt.fit, pt.fit);
    })

by_ok : {A B : Type 0} (make : A → B) (r : Read A) (y : B) (rest : Texts) → by make r ≡ Ok (y, rest) → (a : A) × (r ≡ Ok (a, rest)) × (y ≡ make a)
by_ok make (Ok x) y rest h = let p = ok_parts (make x.0) y x.1 rest h in (x.0, ap (λ z. Ok (x.0, z)) p.1, sym p.0)
by_ok make (Err n) y rest h = absurd (cc)

StatementIs : Texts → Statement → Texts → Type 0
StatementIs ts s rest = (ts ≡ spell_statement s ++ rest) × IsStatement s

created_taken : (ts us : Texts) (s : Statement) (rest : Texts) → ts ≡ codes "CREATE" ∷ us → created_at us ≡ Ok (s, rest) → StatementIs ts s rest
unfolding created_at StatementIs
created_taken ts us s rest start h = pick (is_next (codes "TABLE") us) (is_next (codes "LOCAL") us) (is_next (codes "GLOBAL") us) refl refl refl h
  where
    pick : (a b c : Bool) → is_next (codes "TABLE") us ≡ a → is_next (codes "LOCAL") us ≡ b → is_next (codes "GLOBAL") us ≡ c
        → cond {A = Read Statement} a (by Table (table_at (drop 1 us))) (cond b (by Index (index_at false (drop 1 us))) (cond c (by Index (index_at true (drop 1 us))) (Err (length us)))) ≡ Ok (s, rest) → (ts ≡ spell_statement s ++ rest) × IsStatement s
    pick true b c e f g h =
        let m = by_ok Table (table_at (drop 1 us)) s rest h in
        let t = table_taken (drop 1 us) m.0 rest m.1 in
        rw m.2 (start ∙ ap (λ x. codes "CREATE" ∷ x) (next_is (codes "TABLE") us e ∙ ap (λ x. codes "TABLE" ∷ x) t.spelled), t.fit)
    pick false true c e f g h =
        let m = by_ok Index (index_at false (drop 1 us)) s rest h in
        let t = index_taken false (drop 1 us) m.0 rest m.1 in
        let word : index_word m.0.global ≡ codes "LOCAL" = ap index_word t.fit.1 in
        rw m.2 (start ∙ ap (λ x. codes "CREATE" ∷ x) (next_is (codes "LOCAL") us f ∙ (λ i. sym word i ∷ t.spelled i)), t.fit.0)
    pick false false true e f g h =
        let m = by_ok Index (index_at true (drop 1 us)) s rest h in
        let t = index_taken true (drop 1 us) m.0 rest m.1 in
        let word : index_word m.0.global ≡ codes "GLOBAL" = ap index_word t.fit.1 in
        rw m.2 (start ∙ ap (λ x. codes "CREATE" ∷ x) (next_is (codes "GLOBAL") us g ∙ (λ i. sym word i ∷ t.spelled i)), t.fit.0)
    pick false false false e f g h = absurd (cc)

statement_taken : (ts : Texts) (s : Statement) (rest : Texts) → statement_at ts ≡ Ok (s, rest) → StatementIs ts s rest
unfolding statement_at StatementIs
statement_taken ts s rest h = pick (is_next (codes "CREATE") ts) (is_next (codes "ALTER") ts) refl refl h
  where
    pick : (a b : Bool) → is_next (codes "CREATE") ts ≡ a → is_next (codes "ALTER") ts ≡ b → cond {A = Read Statement} a (created_at (drop 1 ts)) (cond b (by Change (change_at (drop 1 ts))) (Err (length ts))) ≡ Ok (s, rest) → (ts ≡ spell_statement s ++ rest) × IsStatement s
    pick true b e f h = created_taken ts (drop 1 ts) s rest (next_is (codes "CREATE") ts e) h
    pick false true e f h =
        let m = by_ok Change (change_at (drop 1 ts)) s rest h in
        let t = change_taken (drop 1 ts) m.0 rest m.1 in
        rw m.2 (next_is (codes "ALTER") ts f ∙ ap (λ x. codes "ALTER" ∷ x) t.spelled, t.fit)
    pick false false e f h = absurd (cc)

pub spelled_some : (s : Statement) → 0 < length (spell_statement s)
spelled_some (Table t) = omega arith
spelled_some (Index i) = omega arith
spelled_some (Change c) = omega arith

pub placed_step_takes : StepTakes placed_step FitsPlaced spell_placed []
unfolding placed_step StatementIs
placed_step_takes done [] o rest h = let p = ok_parts None o [] rest h in rw (← p.0) p.1
placed_step_takes done (t ∷ ts) o rest h =
    let s = bind_ok (statement_at (t ∷ ts)) _ _ h in
    let placed : Placed = record { left = suc (length ts); statement = s.0.0 } in
    let p = ok_parts (Some placed) o s.0.1 rest s.2 in
    let taken = statement_taken (t ∷ ts) s.0.0 s.0.1 s.1 in
    let spelled : t ∷ ts ≡ spell_statement s.0.0 ++ rest = taken.0 ∙ ap (λ x. spell_statement s.0.0 ++ x) p.1 in
    rw (← p.0) (spelled, (taken.1, refl), shorter_by (t ∷ ts) (spell_statement s.0.0) rest spelled (spelled_some s.0.0))

abbrev placed_of : Texts → Statement × Texts → Read (Option Placed)
placed_of ts x = Ok (Some (record { left = suc (length ts); statement = x.0 }), x.1)

-- the last step finds nothing, so nothing is left
placed_all : (n : ℕ) (done : List Placed) (ts : Texts) (xs : List Placed) (rest : Texts) → items_at placed_step n done ts ≡ Ok (xs, rest) → rest ≡ []
unfolding items_at placed_step
placed_all zero done ts xs rest h = absurd (cc)
placed_all (suc n) done [] xs rest h = let p = ok_parts done xs [] rest h in sym p.1
placed_all (suc n) done (t ∷ ts) xs rest h =
    let s = bind_ok (statement_at (t ∷ ts)) (λ x. items_at placed_step n (done ++ record { left = suc (length ts); statement = x.0 } ∷ []) x.1) (xs, rest) (joins (statement_at (t ∷ ts)) h) in
    placed_all n _ s.0.1 xs rest s.2
  where
    joins : (r : Read Statement) → ((r >>= placed_of ts) >>= λ y. go_on done (λ more us. items_at placed_step n more us) y.0 y.1) ≡ Ok (xs, rest) → (r >>= λ x. items_at placed_step n (done ++ record { left = suc (length ts); statement = x.0 } ∷ []) x.1) ≡ Ok (xs, rest)
    joins (Ok x) h = h
    joins (Err e) h = h

pub schema_taken : (ts : Texts) (s : SchemaWords) (rest : Texts) → schema_at ts ≡ Ok (s, rest) → Spells ts s
unfolding schema_at
schema_taken ts s rest h =
    let c = bind_ok (word_at (codes "CREATE") ts) _ _ h in
    let w = bind_ok (word_at (codes "SCHEMA") c.0.1) _ _ c.2 in
    let n = bind_ok (name_at w.0.1) _ _ w.2 in
    let e = bind_ok (word_at (codes ";") n.0.1) _ _ n.2 in
    let st = bind_ok (all_items_at placed_step e.0.1) _ _ e.2 in
    let made : SchemaWords = record { name = n.0.0; statements = st.0.0 } in
    let parts = ok_parts made s st.0.1 rest st.2 in
    let nt = name_taken w.0.1 n.0.0 n.0.1 n.1 in
    let t = items_take placed_step FitsPlaced spell_placed [] placed_step_takes _ [] e.0.1 st.0.0 st.0.1 st.1 in
    let none : st.0.1 ≡ [] = placed_all _ [] e.0.1 st.0.0 st.0.1 st.1 in
    let spelled : e.0.1 ≡ spell_items spell_placed [] [] st.0.0 = t.spelled ∙ (λ i. spell_items spell_placed [] [] (sym t.all i) ++ none i) ∙ append-nil (spell_items spell_placed [] [] st.0.0) in
    let F : List Placed → Texts → Type 0 = λ l r. FitItems FitsPlaced spell_placed [] [] l r in
    rw (← parts.0) (record {
      spelled = word_taken (codes "CREATE") ts c.0.0 c.0.1 c.1 ∙ ap (λ x. codes "CREATE" ∷ x) (word_taken (codes "SCHEMA") c.0.1 w.0.0 w.0.1 w.1 ∙ ap (λ x. codes "SCHEMA" ∷ x) (nt.spelled ∙ ap (λ x. n.0.0 ∷ x) (word_taken (codes ";") n.0.1 e.0.0 e.0.1 e.1 ∙ ap (λ x. codes ";" ∷ x) spelled)));
      name = nt.fit;
      statements = subst (λ l. F l []) (sym t.all) (subst (F t.more) none t.fit);
    })
