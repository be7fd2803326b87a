-- What a schema with plans has: a root of plans under their names.
use Rattle.std.proofs.Common.{◌≡◌, ℕ, suc, ◌-◌, ◌<◌, ◌≤◌, ◌&&◌, true, false, List, [], ◌∷◌, ◌++◌, length, refl, sym, ap, ◌∙◌, arith, Option, Some, None}
use Rattle.std.specs.Prelude.{◌==◌, codes, nat_le, is_some}
use Rattle.std.specs.List.{list_any, list_all}
use Rattle.std.specs.Option.{option_to_list}
use Rattle.std.proofs.lemmas.Bool.{and_parts}
use Rattle.std.proofs.lemmas.Bool.Decides.{nat_tests}
use Rattle.std.proofs.lemmas.Option.{slice_get_within}
use Rattle.mega_base.specs.declared.values.Kind.TheVariants.{Int32, Str, Raw}
use Rattle.mega_syntax.specs.Names.{same, is_name}
use Rattle.mega_schema.specs.declared.schema.Property.{Property}
use Rattle.mega_schema.specs.declared.schema.Table.{Table}
use Rattle.mega_schema.specs.declared.schema.Schema.{Schema}
use Rattle.mega_schema.specs.Lookup.{is_root_table}
use Rattle.mega_schema.proofs.Naming.{same_is}
use Rattle.mega_index.specs.Fits.{numbered}
use Rattle.mega_two_driver.specs.Tables.{is_among, are_properties, properties_at, key_properties, same_names, is_table, table_named, name_property, required_property, plan_properties, is_root, is_plan_table, has_plans}
use Rattle.mega_two_outcome_laws.specs.Places.{plans}
use Rattle.mega_two_outcome_laws.specs.Ready.{has_name, is_ready, IsReady}
use Rattle.mega_two_outcome_laws.proofs.Tabled.{number_found, all_at, all_numbered, numbered_slice, HasProperty, has_property, only_wanted}

-- ---- a key of one property

pub record OneKey (ps : List Property) (primary : List ℕ) (name : List ℕ) : Type 0 where
  pub number : ℕ
  pub property : Property
  pub is : primary ≡ number ∷ []
  pub numbered_is : numbered ps number ≡ Some property
  pub named : property.name ≡ name

one_key : (ps : List Property) (primary : List ℕ) (w : Property) → list_all (λ n. is_some (numbered ps n)) primary ≡ true → same_names (properties_at ps primary) (w ∷ []) ≡ true → OneKey ps primary w.name
one_key ps [] w valid e = absurd (cc)
one_key ps (n ∷ []) w valid e = by (numbered ps n) refl (and_parts (is_some (numbered ps n)) true valid).0 e
  where
    by : (o : Option Property) → numbered ps n ≡ o → is_some o ≡ true → same_names (option_to_list o ++ []) (w ∷ []) ≡ true → OneKey ps (n ∷ []) w.name
    by None at some g = absurd (cc)
    by (Some p) at some g = record { number = n; property = p; is = refl; numbered_is = at; named = same_is p.name w.name (and_parts (same p.name w.name) true g).0 }
one_key ps (n ∷ m ∷ ns) w valid e =
    let p = and_parts (is_some (numbered ps n)) (is_some (numbered ps m) && list_all (λ k. is_some (numbered ps k)) ns) valid in
    let q = and_parts (is_some (numbered ps m)) (list_all (λ k. is_some (numbered ps k)) ns) p.1 in
    by (numbered ps n) (numbered ps m) p.0 q.0 e
  where
    by : (o q : Option Property) → is_some o ≡ true → is_some q ≡ true → same_names (option_to_list o ++ (option_to_list q ++ properties_at ps ns)) (w ∷ []) ≡ true → OneKey ps (n ∷ m ∷ ns) w.name
    by None q some more g = absurd (cc)
    by (Some x) None some more g = absurd (cc)
    by (Some x) (Some y) some more g = absurd (let p = (and_parts (same x.name w.name) false g).1 in let clash : false ≡ true = p in cc)

-- ---- the table of plans

pub record PlanTable (s : Schema) : Type 0 where
  pub table : Table
  pub there : numbered s.tables (plans s) ≡ Some table
  pub root : is_root_table table ≡ true
  pub own : table.root ≡ plans s
  pub key : OneKey table.properties table.primary (codes "gid")
  pub key_kind : (key.property).kind ≡ Str
  pub key_few : key.number - 1 < 255
  pub state : HasProperty table.properties (codes "state")
  pub state_kind : (state.property).kind ≡ Int32
  pub line : HasProperty table.properties (codes "plan")
  pub line_kind : (line.property).kind ≡ Raw

rooted : (group : List ℕ) → (length group == 0) ≡ true → (elim group [ [] ↦ true | ◌∷◌ n ns ↦ false ]) ≡ true
rooted [] e = refl
rooted (n ∷ ns) e = let clash : true ≡ false = sym e ∙ no (length ns) in cc
  where
    no : (k : ℕ) → (suc k == 0) ≡ false
    no k = grind (arith, nat_tests)

pub plan_table : (s : Schema) → IsReady s → has_plans s ≡ true → PlanTable s
unfolding has_plans
plan_table s ready e = by (table_named s (codes "TwoPlan")) refl e
  where
    by : (o : Option Table) → table_named s (codes "TwoPlan") ≡ o → is_plan_table o ≡ true → PlanTable s
    by None found g = absurd (cc)
    by (Some t) found g =
        let number = number_found (λ (u : Table). same u.name (codes "TwoPlan")) s.tables t found ready.few in
        let p = and_parts (is_root t) (is_table plan_properties (name_property ∷ []) t) g in
        let q = and_parts (are_properties plan_properties t.properties) (same_names (key_properties t) (name_property ∷ [])) p.1 in
        let a = and_parts ((length t.properties == 3) && list_all (is_among plan_properties) t.properties) (list_all (is_among t.properties) plan_properties) q.0 in
        let b = and_parts (length t.properties == 3) (list_all (is_among plan_properties) t.properties) a.0 in
        let c = and_parts (is_among t.properties name_property) (is_among t.properties (required_property (codes "state") Int32) && (is_among t.properties (required_property (codes "plan") Raw) && true)) a.1 in
        let d = and_parts (is_among t.properties (required_property (codes "state") Int32)) (is_among t.properties (required_property (codes "plan") Raw) && true) c.1 in
        let f = and_parts (is_among t.properties (required_property (codes "plan") Raw)) true d.1 in
        let ready_table = all_at is_ready s.tables number.index t ready.tables number.there in
        let r = and_parts (nat_le (length t.properties) 64 && list_all (λ n. is_some (numbered t.properties n)) t.primary) (is_name t.name && list_all has_name t.properties) ready_table in
        let valid = and_parts (nat_le (length t.properties) 64) (list_all (λ n. is_some (numbered t.properties n)) t.primary) r.0 in
        let few : length t.properties ≤ 64 = within (length t.properties) valid.0 in
        let key = one_key t.properties t.primary name_property valid.1 q.1 in
        let state = has_property t.properties (required_property (codes "state") Int32) few d.0 in
        let line = has_property t.properties (required_property (codes "plan") Raw) few f.0 in
        let root : is_root_table t ≡ true = rooted t.group p.0 in
        let slot = slice_get_within t.properties (key.number - 1) key.property (numbered_slice t.properties key.number key.property key.numbered_is) in
        record {
          table = t;
          there = number.numbered_is;
          root = root;
          own = ready.roots (plans s) t number.numbered_is root;
          key = key;
          key_kind = kind_of [] (required_property (codes "state") Int32 ∷ required_property (codes "plan") Raw ∷ []) name_property key.property key.named refl refl (all_numbered (is_among plan_properties) t.properties key.number key.property b.1 key.numbered_is);
          key_few = omega (arith, slot, few);
          state = state;
          state_kind = kind_of (name_property ∷ []) (required_property (codes "plan") Raw ∷ []) (required_property (codes "state") Int32) state.property state.named refl refl (all_at (is_among plan_properties) t.properties state.index state.property b.1 state.there);
          line = line;
          line_kind = kind_of (name_property ∷ required_property (codes "state") Int32 ∷ []) [] (required_property (codes "plan") Raw) line.property line.named refl refl (all_at (is_among plan_properties) t.properties line.index line.property b.1 line.there);
        }
      where
        within : (n : ℕ) → nat_le n 64 ≡ true → n ≤ 64
        within n h = grind (arith, nat_tests)

        kind_of : (before after : List Property) (wanted p : Property) → p.name ≡ wanted.name → list_any (λ (other : Property). same wanted.name other.name) before ≡ false
            → list_any (λ (other : Property). same wanted.name other.name) after ≡ false → is_among (before ++ wanted ∷ after) p ≡ true → p.kind ≡ wanted.kind
        kind_of before after wanted p named x y h =
            only_wanted before after wanted p (ap (λ (n : List ℕ). list_any (λ (other : Property). same n other.name) before) named ∙ x)
            (ap (λ (n : List ℕ). list_any (λ (other : Property). same n other.name) after) named ∙ y) h
