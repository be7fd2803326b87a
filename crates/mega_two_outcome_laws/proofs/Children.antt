-- The tables of a part's group: its root, the one of its locks and the one of its ends.
use Rattle.std.proofs.Common.{◌≡◌, ℕ, suc, ◌≤◌, ◌||◌, ◌&&◌, cond, Bool, true, false, List, [], ◌∷◌, ◌++◌, length, drop, refl, sym, ap, ◌∙◌, subst, arith, append_assoc, Option, Some, None, Result, Ok, Err}
use Rattle.std.specs.Prelude.{◌==◌, codes, nat_le, not, is_some}
use Rattle.std.specs.List.{list_any, list_all}
use Rattle.std.specs.Option.{option_to_list}
use Rattle.std.proofs.lemmas.Bool.{and_parts, not-true, or_parts}
use Rattle.std.proofs.lemmas.Bool.Decides.{nat_tests}
use Rattle.serde_json.specs.Data.{string, Items, no_items, item}
use Rattle.mega_base.specs.declared.names.GroupId.{GroupId}
use Rattle.mega_base.specs.declared.values.Kind.TheVariants.{Str, Bool as Truth}
use Rattle.mega_base.specs.declared.values.Value.TheVariants.{Str as Text}
use Rattle.mega_keys.specs.declared.fault.KeyFault.{KeyFault}
use Rattle.mega_keys.specs.Spelling.{group_bytes}
use Rattle.mega_keys.specs.Answers.{group_key_of}
use Rattle.mega_syntax.specs.Names.{same, is_letter, is_name_byte, is_name}
use Rattle.mega_schema.specs.declared.schema.Property.{Property}
use Rattle.mega_schema.specs.declared.schema.Table.{Table}
use Rattle.mega_schema.specs.declared.schema.Schema.{Schema}
use Rattle.mega_schema.specs.Lookup.{is_root_table, stands_twice}
use Rattle.mega_schema.specs.Rules.{property_names}
use Rattle.mega_schema.specs.Shaping.{shape_of, table_at, kinds_of, root_kinds}
use Rattle.mega_schema.proofs.Naming.{same_is, same_other}
use Rattle.mega_index.specs.Fits.{numbered}
use Rattle.mega_schedule.specs.Values.{table_number, values_at, value_of, others, key_in, group_of, group_in, group_or_none}
use Rattle.mega_two_driver.specs.Texts.{lock_table, end_table}
use Rattle.mega_two_driver.specs.Tables.{is_among, are_properties, properties_at, key_properties, same_names, is_table, table_named, name_property, required_property, is_root, is_child_table, with_name, with_end, has_locks, has_ends, root_has_tables, root_number, root_named, has_tables}
use Rattle.mega_two_outcome_laws.specs.Places.{root_of, locks, ends}
use Rattle.mega_two_outcome_laws.specs.Ready.{has_name, is_ready, IsReady, has_names_once, AreNamedOnce}
use Rattle.mega_two_outcome_laws.proofs.Keyed.{spelt, no_more}
use Rattle.mega_two_outcome_laws.proofs.Named.{has_name as named_so}
use Rattle.mega_two_outcome_laws.proofs.Tabled.{number_found, all_at, all_numbered, HasProperty, has_property, only_wanted}
use Rattle.mega_two_outcome_laws.proofs.Letters.{is_text, all_plain, name_plain}
use Rattle.mega_two_outcome_laws.proofs.Joined.{both}
use Rattle.mega_two_outcome_laws.proofs.PartLines.{group_data}
use Rattle.mega_two_outcome_laws.proofs.Apart.{named, apart, once, all_apart, are_wanted, none_before}
use Rattle.mega_two_outcome_laws.proofs.Members.{are_valid, are_plain, AreEqual, kind_in}

-- ---- counted

abbrev pub count : Items → ℕ
count no_items = 0
count (item d ds) = suc (count ds)

values_count : (ps : List Property) (ns : List ℕ) (ds : Items) → length (values_at ps ns ds) ≡ count ds
values_count ps ns no_items = refl
values_count ps ns (item d ds) = ap suc (values_count ps (others ns) ds)

kinds_count : (ps : List Property) (ns : List ℕ) → are_valid ps ns ≡ true → length (kinds_of ps ns) ≡ length ns
kinds_count ps [] valid = refl
kinds_count ps (n ∷ ns) valid = let v = and_parts (is_some (numbered ps n)) (are_valid ps ns) valid in by (numbered ps n) v.0 (kinds_count ps ns v.1)
  where
    by : (o : Option Property) → is_some o ≡ true → length (kinds_of ps ns) ≡ length ns → length (option_to_list (kind_in o) ++ kinds_of ps ns) ≡ suc (length ns)
    by None there rest = absurd (cc)
    by (Some p) there rest = ap suc rest

equal_counts : (ps : List Property) (ns : List ℕ) (ds : Items) → are_valid ps ns ≡ true → length ns ≡ count ds → AreEqual (properties_at ps ns) ds
equal_counts ps [] no_items valid e = tt
equal_counts ps [] (item d ds) valid e = absurd (omega (arith, e))
equal_counts ps (n ∷ ns) ds valid e = let v = and_parts (is_some (numbered ps n)) (are_valid ps ns) valid in by (numbered ps n) v.0 ds e (λ ds e. equal_counts ps ns ds v.1 e)
  where
    by : (o : Option Property) → is_some o ≡ true → (ds : Items) → suc (length ns) ≡ count ds → ((ds : Items) → length ns ≡ count ds → AreEqual (properties_at ps ns) ds) → AreEqual (option_to_list o ++ properties_at ps ns) ds
    by None there ds e rest = absurd (cc)
    by (Some p) there no_items e rest = absurd (omega (arith, e))
    by (Some p) there (item d ds) e rest = rest ds (omega (arith, e))

-- ---- what a table of a schema that is ready has

pub record Readied (t : Table) : Type 0 where
  pub text : is_text t.name ≡ true
  pub few : length t.properties ≤ 64
  pub valid : are_valid t.properties t.primary ≡ true
  pub plain : are_plain (key_properties t) ≡ true

plain_name : (k : List ℕ) → is_name k ≡ true → is_text k ≡ true
plain_name [] g = refl
plain_name (b ∷ k) g =
    let q = and_parts (is_letter b) (list_all is_name_byte k) g in
    (λ i. name_plain b (ap (λ x. x || (nat_le 48 b && nat_le b 57)) q.0) i && all_plain is_name_byte name_plain k q.1 i)

keys_plain : (ps : List Property) (ns : List ℕ) → list_all has_name ps ≡ true → are_plain (properties_at ps ns) ≡ true
keys_plain ps [] e = refl
keys_plain ps (n ∷ ns) e = by (numbered ps n) refl (keys_plain ps ns e)
  where
    by : (o : Option Property) → numbered ps n ≡ o → are_plain (properties_at ps ns) ≡ true → are_plain (option_to_list o ++ properties_at ps ns) ≡ true
    by None at rest = rest
    by (Some p) at rest = (λ i. plain_name p.name (all_numbered has_name ps n p e at) i && rest i)

readied : (t : Table) → is_ready t ≡ true → Readied t
readied t e =
    let r = and_parts (nat_le (length t.properties) 64 && list_all (λ n. is_some (numbered t.properties n)) t.primary) (is_name t.name && list_all has_name t.properties) e in
    let a = and_parts (nat_le (length t.properties) 64) (list_all (λ n. is_some (numbered t.properties n)) t.primary) r.0 in
    let b = and_parts (is_name t.name) (list_all has_name t.properties) r.1 in
    record { text = plain_name t.name b.0; few = within (length t.properties) a.0; valid = a.1; plain = keys_plain t.properties t.primary b.1 }
  where
    within : (n : ℕ) → nat_le n 64 ≡ true → n ≤ 64
    within n h = grind (arith, nat_tests)

-- ---- the root

pub record RootIs (s : Schema) (root : List ℕ) (values : Items) (group : List ℕ) : Type 0 where
  pub table : Table
  pub there : numbered s.tables (root_number group) ≡ Some table
  pub root_as : root_of s group ≡ root
  pub name_as : root_of s group ≡ table.name
  pub number_as : root_number group ≡ table_number s root
  pub ready : Readied table
  pub counted : length (root_kinds (table_at s.tables (root_number group))) ≡ count values
  pub equal : AreEqual (key_properties table) values

no_tables : (s : Schema) → has_tables s [] ≡ true → ⊥
unfolding has_tables
no_tables s e = cc

pub root_is : (s : Schema) → IsReady s → (root : List ℕ) (values : Items) → has_tables s (group_of s (Some (group_data root values))).key ≡ true → RootIs s root values (group_of s (Some (group_data root values))).key
root_is s ready root values has = by (table_at s.tables (table_number s root)) refl has
  where
    n : ℕ
    n = table_number s root

    fourth : (t : Table) → table_at s.tables n ≡ Some t → is_root_table t ≡ true → (key : List ℕ) → group_key_of (shape_of s n t) (key_in (Some t) values) ≡ Ok key → RootIs s root values key
    fourth t at is_one key spells =
        let sp = spelt (shape_of s n t).root_kinds (key_in (Some t) values) (group_bytes (shape_of s n t) (key_in (Some t) values)) key spells in
        let own : t.root ≡ n = ready.roots n t at is_one in
        let number : root_number key ≡ n = ap root_number sp.is ∙ own in
        let there : numbered s.tables (root_number key) ≡ Some t = ap (numbered s.tables) number ∙ at in
        let r = readied t (all_numbered is_ready s.tables n t ready.tables at) in
        let kinds : length (shape_of s n t).root_kinds ≡ length t.primary =
        ap (λ m. length (root_kinds (table_at s.tables m))) own ∙ ap (λ o. length (root_kinds o)) at ∙ kinds_count t.properties t.primary r.valid in
        let most = no_more (shape_of s n t).root_kinds (key_in (Some t) values) 0 sp.none in
        let values_are : length (key_in (Some t) values) ≡ count values = values_count t.properties t.primary values in
        let same_count : length t.primary ≡ count values = omega (arith, kinds, most, sp.enough, values_are) in
        record {
          table = t;
          there = there;
          root_as = ap root_named there ∙ named_so s root n t at refl;
          name_as = ap root_named there;
          number_as = number;
          ready = r;
          counted = ap (λ o. length (root_kinds o)) there ∙ kinds_count t.properties t.primary r.valid ∙ same_count;
          equal = equal_counts t.properties t.primary values r.valid same_count;
        }

    third : (t : Table) → table_at s.tables n ≡ Some t → is_root_table t ≡ true → (r : Result (List ℕ) KeyFault) → group_key_of (shape_of s n t) (key_in (Some t) values) ≡ r
        → has_tables s (group_or_none r).key ≡ true → RootIs s root values (group_or_none r).key
    third t at is_one (Ok key) spells g = fourth t at is_one key spells
    third t at is_one (Err fault) spells g = absurd (no_tables s g)

    second : (t : Table) → table_at s.tables n ≡ Some t → (b : Bool) → is_root_table t ≡ b
        → has_tables s (cond {A = GroupId} b (group_or_none (group_key_of (shape_of s n t) (key_in (Some t) values))) (record { key = [] })).key ≡ true
        → RootIs s root values (cond {A = GroupId} b (group_or_none (group_key_of (shape_of s n t) (key_in (Some t) values))) (record { key = [] })).key
    second t at true is_one g = third t at is_one (group_key_of (shape_of s n t) (key_in (Some t) values)) refl g
    second t at false is_one g = absurd (no_tables s g)

    by : (o : Option Table) → table_at s.tables n ≡ o → has_tables s (group_in s n o values).key ≡ true → RootIs s root values (group_in s n o values).key
    by None at g = absurd (no_tables s g)
    by (Some t) at g = second t at (is_root_table t) refl g

-- ---- its children

abbrev pub commit_property : Property
commit_property = required_property (codes "commit") Truth

pub record Child (s : Schema) (m n : ℕ) (key after names : List Property) : Type 0 where
  pub table : Table
  pub there : numbered s.tables m ≡ Some table
  pub parent : table.root ≡ n
  pub ready : Readied table
  pub keys : same_names (key_properties table) names ≡ true
  pub all : list_all (is_among table.properties) (key ++ name_property ∷ after) ≡ true
  pub apart : apart (key ++ name_property ∷ after) ≡ true
  pub gid : HasProperty table.properties (codes "gid")
  pub gids : (k : ℕ) (p : Property) → numbered table.properties k ≡ Some p → p.name ≡ codes "gid" → p.kind ≡ Str

pub all_behind : (test : Property → Bool) (xs ys : List Property) → list_all test (xs ++ ys) ≡ true → list_all test ys ≡ true
all_behind test [] ys e = e
all_behind test (x ∷ xs) ys e = all_behind test xs ys (and_parts (test x) (list_all test (xs ++ ys)) e).1

pub named_front : (k : List ℕ) (xs ys : List Property) → named k (xs ++ ys) ≡ false → named k xs ≡ false
named_front k [] ys e = refl
named_front k (x ∷ xs) ys e = let q = or_parts (same x.name k) (named k (xs ++ ys)) e in (λ i. q.0 i || named_front k xs ys q.1 i)

turned : (k : List ℕ) (ws : List Property) → named k ws ≡ false → list_any (λ (other : Property). same k other.name) ws ≡ false
turned k [] e = refl
turned k (w ∷ ws) e = let q = or_parts (same w.name k) (named k ws) e in (λ i. (same_other k w.name ∙ q.0) i || turned k ws q.1 i)

child : (s : Schema) → IsReady s → AreNamedOnce s → (name : List ℕ) (n : ℕ) (key after names : List Property) → list_any (λ (other : Property). same (codes "gid") other.name) after ≡ false
    → is_child_table n (key ++ name_property ∷ after) names (table_named s name) ≡ true → Child s (table_number s name) n key after names
child s ready onces name n key after names none_after e = by (table_named s name) refl e
  where
    wanted : List Property
    wanted = key ++ name_property ∷ after

    by : (o : Option Table) → table_named s name ≡ o → is_child_table n (key ++ name_property ∷ after) names o ≡ true → Child s (table_number s name) n key after names
    by None found g = absurd (cc)
    by (Some t) found g =
        let number = number_found (λ (u : Table). same u.name name) s.tables t found ready.few in
        let a = and_parts (not (is_root t) && (t.root == n)) (is_table wanted names t) g in
        let b = and_parts (not (is_root t)) (t.root == n) a.0 in
        let c = and_parts (are_properties wanted t.properties) (same_names (key_properties t) names) a.1 in
        let d = and_parts ((length t.properties == length wanted) && list_all (is_among wanted) t.properties) (list_all (is_among t.properties) wanted) c.0 in
        let f = and_parts (length t.properties == length wanted) (list_all (is_among wanted) t.properties) d.0 in
        let r = readied t (all_at is_ready s.tables number.index t ready.tables number.there) in
        let once_here = not-true (stands_twice (property_names t.properties)) (all_at has_names_once s.tables number.index t onces number.there) in
        let long : length wanted ≤ length t.properties = at_least (length t.properties) (length wanted) f.0 in
        let differ = all_apart wanted t.properties (once t.properties once_here) (are_wanted wanted t.properties f.1) long in
        let one = and_parts (is_among t.properties name_property) (list_all (is_among t.properties) after) (all_behind (is_among t.properties) key (name_property ∷ after) d.1) in
        record {
          table = t;
          there = number.numbered_is;
          parent = equals t.root n b.1;
          ready = r;
          keys = c.1;
          all = d.1;
          apart = differ;
          gid = has_property t.properties name_property r.few one.0;
          gids = λ k p at called. only_wanted key after name_property p
              (ap (λ (x : List ℕ). list_any (λ (other : Property). same x other.name) key) called ∙ turned (codes "gid") key (none_before key name_property after differ))
              (ap (λ (x : List ℕ). list_any (λ (other : Property). same x other.name) after) called ∙ none_after)
              (all_numbered (is_among wanted) t.properties k p f.1 at);
        }
      where
        equals : (a b : ℕ) → (a == b) ≡ true → a ≡ b
        equals a b h = grind (arith, nat_tests)

        at_least : (a b : ℕ) → (a == b) ≡ true → b ≤ a
        at_least a b h = grind (arith, nat_tests)

pub record Children (s : Schema) (group : List ℕ) (t : Table) : Type 0 where
  pub lock : Child s (locks s group) (root_number group) (key_properties t) [] (key_properties t)
  pub ending : Child s (ends s group) (root_number group) (key_properties t) (commit_property ∷ []) (key_properties t ++ name_property ∷ [])

pub children : (s : Schema) → IsReady s → AreNamedOnce s → (group : List ℕ) (t : Table) → numbered s.tables (root_number group) ≡ Some t → has_tables s group ≡ true → Children s group t
unfolding has_tables has_locks has_ends
children s ready onces group t there has =
    let n = root_number group in
    let key = key_properties t in
    let both : root_has_tables s n (Some t) ≡ true = ap (root_has_tables s n) (sym there) ∙ has in
    let p = and_parts (has_locks s n t.name key) (has_ends s n t.name key) both in
    let called : t.name ≡ root_of s group = ap root_named (sym there) in
    let as_wanted : with_end key ≡ key ++ name_property ∷ commit_property ∷ [] = append_assoc key (name_property ∷ []) (commit_property ∷ []) in
    record {
      lock = child s ready onces (lock_table (root_of s group)) n key [] key refl (subst (λ (x : List ℕ). is_child_table n (with_name key) key (table_named s (lock_table x)) ≡ true) called p.0);
      ending = child s ready onces (end_table (root_of s group)) n key (commit_property ∷ []) (key ++ name_property ∷ []) refl
          (subst (λ (ws : List Property). is_child_table n ws (with_name key) (table_named s (end_table (root_of s group))) ≡ true) as_wanted
          (subst (λ (x : List ℕ). is_child_table n (with_end key) (with_name key) (table_named s (end_table x)) ≡ true) called p.1));
    }

-- ---- the values of their keys

-- behind the values of the root's key stands the name
pub last_value : (ps : List Property) (ns : List ℕ) (ws : List Property) (ds : Items) (name : List ℕ) → are_valid ps ns ≡ true → same_names (properties_at ps ns) (ws ++ name_property ∷ []) ≡ true → AreEqual ws ds
    → ((k : ℕ) (p : Property) → numbered ps k ≡ Some p → p.name ≡ codes "gid" → p.kind ≡ Str) → drop (count ds) (values_at ps ns (both ds (item (string name) no_items))) ≡ Text name ∷ []
last_value ps [] [] ds name valid keys equal kinds = absurd (cc)
last_value ps [] (w ∷ ws) ds name valid keys equal kinds = absurd (cc)
last_value ps (n ∷ ns) ws ds name valid keys equal kinds =
    let v = and_parts (is_some (numbered ps n)) (are_valid ps ns) valid in
    by (numbered ps n) refl v.0 ws ds keys equal (λ ws ds keys equal. last_value ps ns ws ds name v.1 keys equal kinds)
  where
    by : (o : Option Property) → numbered ps n ≡ o → is_some o ≡ true → (ws : List Property) (ds : Items) → same_names (option_to_list o ++ properties_at ps ns) (ws ++ name_property ∷ []) ≡ true → AreEqual ws ds
        → ((ws : List Property) (ds : Items) → same_names (properties_at ps ns) (ws ++ name_property ∷ []) ≡ true → AreEqual ws ds → drop (count ds) (values_at ps ns (both ds (item (string name) no_items))) ≡ Text name ∷ [])
        → drop (count ds) (values_at ps (n ∷ ns) (both ds (item (string name) no_items))) ≡ Text name ∷ []
    by None at there ws ds keys equal rest = absurd (cc)
    by (Some p) at there [] no_items keys equal rest =
        let q = and_parts (same p.name (codes "gid")) (same_names (properties_at ps ns) []) keys in
        ap (λ o. value_of o (string name) ∷ []) (ap kind_in at) ∙ ap (λ k. value_of (Some k) (string name) ∷ []) (kinds n p at (same_is p.name (codes "gid") q.0))
    by (Some p) at there [] (item d ds) keys equal rest = absurd equal
    by (Some p) at there (w ∷ ws) no_items keys equal rest = absurd equal
    by (Some p) at there (w ∷ ws) (item d ds) keys equal rest =
        rest ws ds (and_parts (same p.name w.name) (same_names (properties_at ps ns) (ws ++ name_property ∷ [])) keys).1 equal

pub none_behind : (ps : List Property) (ns : List ℕ) (ds : Items) → drop (count ds) (values_at ps ns ds) ≡ []
none_behind ps ns no_items = refl
none_behind ps ns (item d ds) = none_behind ps (others ns) ds
