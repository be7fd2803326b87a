-- The own writes of a part stand under no key of a plan, a lock or an end.
use Rattle.std.proofs.Common.{◌≡◌, ℕ, ◌||◌, true, false, List, [], ◌∷◌, ◌++◌, refl, sym, ap, ◌∙◌, Option, Some, None}
use Rattle.std.specs.Prelude.{codes, not}
use Rattle.std.specs.List.{list_any, list_all}
use Rattle.std.proofs.lemmas.Bool.{and_parts, false≢true, not-true, or_parts}
use Rattle.mega_entry.specs.declared.content.Write.{Write}
use Rattle.mega_schema.specs.declared.schema.Table.{Table}
use Rattle.mega_schema.specs.declared.schema.Schema.{Schema}
use Rattle.mega_schema.proofs.Naming.{same_self}
use Rattle.mega_syntax.specs.Names.{same}
use Rattle.mega_keys.specs.Spelling.{spell}
use Rattle.mega_base.specs.declared.values.Value.TheVariants.{Str}
use Rattle.mega_index.specs.Fits.{numbered}
use Rattle.mega_outcome.specs.declared.transaction.Change.{Change}
use Rattle.mega_schedule.specs.Values.{table_number}
use Rattle.mega_two_driver.specs.Tables.{is_local_over, is_own_table, table_is_free, may_write}
use Rattle.mega_two_driver.specs.Texts.{lock_table, end_table}
use Rattle.mega_two_driver.specs.Fits.{table_of, write_of, with_write, writes_of}
use Rattle.mega_two_outcome_laws.specs.Places.{plans, root_of, place, plan_place, lock_place, end_place}
use Rattle.mega_two_outcome_laws.proofs.Keyed.{one_table}
use Rattle.mega_two_outcome_laws.proofs.Changing.{AreBare, AreMade}
use Rattle.mega_two_outcome_laws.proofs.Named.{has_name}
use Rattle.mega_two_outcome_laws.proofs.Kept.{Spare}
use Rattle.mega_two_outcome_laws.proofs.Finishing.{AreOwn}

-- ---- a table that may be written

pub record IsFree (s : Schema) (group : List ℕ) (n : ℕ) : Type 0 where
  pub table : Table
  pub there : numbered s.tables n ≡ Some table
  pub no_plan : same table.name (codes "TwoPlan") ≡ false
  pub no_lock : same table.name (lock_table (root_of s group)) ≡ false
  pub no_end : same table.name (end_table (root_of s group)) ≡ false
  pub bare : list_any (is_local_over n) s.indexes ≡ false

pub is_free : (s : Schema) (group : List ℕ) (n : ℕ) → may_write s group n ≡ true → IsFree s group n
unfolding may_write
is_free s group n e = by (numbered s.tables n) refl e
  where
    by : (o : Option Table) → numbered s.tables n ≡ o → table_is_free s (root_of s group) n o ≡ true → IsFree s group n
    by None there g = absurd (cc)
    by (Some t) there g =
        let p = and_parts (not (is_own_table (root_of s group) t.name)) (not (list_any (is_local_over n) s.indexes)) g in
        let q = or_parts (same t.name (codes "TwoPlan") || same t.name (lock_table (root_of s group))) (same t.name (end_table (root_of s group))) (not-true (is_own_table (root_of s group) t.name) p.0) in
        let r = or_parts (same t.name (codes "TwoPlan")) (same t.name (lock_table (root_of s group))) q.0 in
        record { table = t; there = there; no_plan = r.0; no_lock = r.1; no_end = q.1; bare = not-true (list_any (is_local_over n) s.indexes) p.1 }

other_table : (s : Schema) (n : ℕ) (t : Table) (name : List ℕ) → numbered s.tables n ≡ Some t → same t.name name ≡ false → n ≡ table_number s name → ⊥
other_table s n t name there other is = false≢true (sym other ∙ ap (λ (x : List ℕ). same x name) (has_name s name n t there is) ∙ same_self name)

-- ---- all own writes

pub own_bare : (s : Schema) (group : List ℕ) (cs : List Change) → list_all (λ c. may_write s group (table_of c)) cs ≡ true → AreBare s cs
own_bare s group [] e = tt
own_bare s group (c ∷ cs) e =
    let p = and_parts (may_write s group (table_of c)) (list_all (λ d. may_write s group (table_of d)) cs) e in
    ((is_free s group (table_of c) p.0).bare, own_bare s group cs p.1)

-- under no key of a table with this name
spare_all : (s : Schema) (group name rest key : List ℕ) → ((n : ℕ) → may_write s group n ≡ true → n ≡ table_number s name → ⊥) → key ≡ place s (table_number s name) group rest
    → (cs : List Change) (writes : List Write) → AreMade s group cs writes → list_all (λ c. may_write s group (table_of c)) cs ≡ true → Spare key writes
spare_all s group name rest key other is [] [] made e = tt
spare_all s group name rest key other is [] (w ∷ ws) made e = absurd made
spare_all s group name rest key other is (c ∷ cs) [] made e = absurd made
spare_all s group name rest key other is (c ∷ cs) (w ∷ ws) made e =
    let p = and_parts (may_write s group (table_of c)) (list_all (λ d. may_write s group (table_of d)) cs) e in (
      (λ same_key. other (table_of c) p.0 (one_table s (table_of c) (table_number s name) group _ rest (sym ((made.0).keyed).is ∙ same_key ∙ is))),
      spare_all s group name rest key other is cs ws made.1 p.1,
    )

pub own_apart : (s : Schema) (group : List ℕ) (cs : List Change) (writes : List Write) → AreMade s group cs writes → list_all (λ c. may_write s group (table_of c)) cs ≡ true → AreOwn s group writes
own_apart s group cs writes made e = record {
  no_plan = λ name here. spare_all s group (codes "TwoPlan") [] (plan_place s name) (λ n free is. let f = is_free s group n free in other_table s n f.table (codes "TwoPlan") f.there f.no_plan is)
      (ap (λ g. place s (plans s) g []) (sym here)) cs writes made e;
  no_lock = spare_all s group (lock_table (root_of s group)) [] (lock_place s group) (λ n free is. let f = is_free s group n free in other_table s n f.table (lock_table (root_of s group)) f.there f.no_lock is) refl cs writes made e;
  no_end = λ name. spare_all s group (end_table (root_of s group)) (spell (Str name)) (end_place s group name) (λ n free is. let f = is_free s group n free in other_table s n f.table (end_table (root_of s group)) f.there f.no_end is) refl cs writes made e;
}

-- ---- writes of one list behind those of another

pub record TwoParts (s : Schema) (group : List ℕ) (xs ys : List Change) (writes : List Write) : Type 0 where
  pub front : List Write
  pub back : List Write
  pub front_is : writes_of s group xs ≡ Some front
  pub back_is : writes_of s group ys ≡ Some back
  pub is : writes ≡ front ++ back

pub two_parts : (s : Schema) (group : List ℕ) (xs ys : List Change) (writes : List Write) → writes_of s group (xs ++ ys) ≡ Some writes → TwoParts s group xs ys writes
two_parts s group [] ys writes e = record { front = []; back = writes; front_is = refl; back_is = e; is = refl }
two_parts s group (c ∷ xs) ys writes e = by (write_of s group c) refl (writes_of s group (xs ++ ys)) refl (λ others are. two_parts s group xs ys others are) e
  where
    by : (o : Option Write) → write_of s group c ≡ o → (p : Option (List Write)) → writes_of s group (xs ++ ys) ≡ p → ((others : List Write) → writes_of s group (xs ++ ys) ≡ Some others → TwoParts s group xs ys others)
        → with_write o p ≡ Some writes → TwoParts s group (c ∷ xs) ys writes
    by None is p are rest g = absurd (cc)
    by (Some write) is None are rest g = absurd (cc)
    by (Some write) is (Some others) are rest g =
        let t = rest others are in
        let whole : write ∷ others ≡ writes = cc in
        record {
          front = write ∷ t.front;
          back = t.back;
          front_is = (λ i. with_write (is i) (t.front_is i));
          back_is = t.back_is;
          is = sym whole ∙ ap (λ ws. write ∷ ws) t.is;
        }
