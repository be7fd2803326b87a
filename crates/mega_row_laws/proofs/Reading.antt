-- A key that key values of one table spell, and that is read as a key of a table, is of that one table and of one group.
use Rattle.std.proofs.Common.{◌≡◌, ℕ, Bool, true, false, ◌||◌, if◌then◌else◌, List, [], ◌∷◌, ◌++◌, length, drop, refl, sym, ap, ◌∙◌, take_at, Some, Ok}
use Rattle.mega_base.specs.declared.values.Value.{Value}
use Rattle.mega_base.specs.declared.values.Kind.{Kind}
use Rattle.mega_base.specs.declared.values.Shape.{Shape}
use Rattle.mega_schema.specs.declared.schema.Table.{Table}
use Rattle.mega_schema.specs.declared.schema.Schema.{Schema}
use Rattle.mega_schema.specs.Lookup.{is_root_table}
use Rattle.mega_schema.specs.Shaping.{root_kinds, shape_of, table_at}
use Rattle.mega_keys.specs.Spelling.{spell_all, scattered, scatter_of, root_part, rest_part, group_bytes}
use Rattle.mega_keys.specs.Answers.{group_key_of}
use Rattle.mega_keys.specs.Reading.{◌>>=◌, values_at, byte_at, marks_at, agree, root_at, key_front_at, read_key_of}
use Rattle.mega_keys.proofs.Takes.{bind_ok, ok_parts}
use Rattle.mega_keys.proofs.Keys.{byte_takes}
use Rattle.mega_index.specs.Fits.{numbered, key_of}
use Rattle.mega_run_laws.specs.of_tape_laws.Indexed.{IsDeclared}
use Rattle.mega_run_laws.proofs.of_tape_laws.Spelled.{AreOf, values_pass, alike_head}
use Rattle.mega_run_laws.proofs.of_tape_laws.RowKeys.{IsKeyOf, group_spelt, key_spelt, of_front, read_front, root_reread}
use Rattle.mega_run_laws.proofs.of_tape_laws.RootKeys.{root_of, same_first}

-- ---- what reading a key tells of its bytes

root_length : (s : Bool) (ks : List Kind) (bytes : List ℕ) (vs : List Value) (left : List ℕ) → root_at s ks bytes ≡ Ok (vs, left) → length vs ≡ length ks
unfolding root_at marks_at scattered
root_length false ks bytes vs left h = (values_pass ks bytes vs left h).count
root_length true ks [] vs left h = absurd (cc)
root_length true ks (a ∷ []) vs left h = absurd (cc)
root_length true ks (a ∷ b ∷ marked) vs left h =
    let r = bind_ok (values_at ks marked) (λ root. agree (a ∷ b ∷ []) (scattered root.0) (length (a ∷ b ∷ marked)) >>= λ _. Ok root) (vs, left) h in
    let g = bind_ok (agree (a ∷ b ∷ []) (scattered (r.0).0) (length (a ∷ b ∷ marked))) (λ _. Ok r.0) (vs, left) r.2 in
    let parts = ok_parts g.2 in
    ap length (sym parts.0) ∙ (values_pass ks marked (r.0).0 (r.0).1 r.1).count

-- a first byte, the root's key values, of which the group is, and the table's number
pub record ReadParts (shape : Shape) (key group : List ℕ) : Type 0 where
  pub head : List ℕ
  pub root : List Value
  pub left : List ℕ
  pub rest : List ℕ
  pub first_is : key ≡ shape.space ∷ head
  pub root_is : root_at shape.scatter shape.root_kinds head ≡ Ok (root, left)
  pub table_is : left ≡ shape.table ∷ rest
  pub group_is : group ≡ group_bytes shape root

pub read_parts : (shape : Shape) (key group : List ℕ) (values : List Value) → read_key_of shape key ≡ Ok values → group_key_of shape (root_part shape values) ≡ Ok group → ReadParts shape key group
unfolding key_front_at
read_parts shape key group values read is =
    let r = read_front shape key values read in
    let a = bind_ok (byte_at shape.space key) (λ head. root_at shape.scatter shape.root_kinds head >>= λ a. byte_at shape.table a.1 >>= λ table. values_at shape.rest_kinds table >>= λ b. Ok (a.0 ++ b.0, b.1)) (values, r.left) r.read in
    let b = bind_ok (root_at shape.scatter shape.root_kinds a.0) (λ a. byte_at shape.table a.1 >>= λ table. values_at shape.rest_kinds table >>= λ b. Ok (a.0 ++ b.0, b.1)) (values, r.left) a.2 in
    let long = root_length shape.scatter shape.root_kinds a.0 (b.0).0 (b.0).1 b.1 in
    let t = bind_ok (byte_at shape.table (b.0).1) (λ table. values_at shape.rest_kinds table >>= λ c. Ok ((b.0).0 ++ c.0, c.1)) (values, r.left) b.2 in
    let c = bind_ok (values_at shape.rest_kinds t.0) (λ c. Ok ((b.0).0 ++ c.0, c.1)) (values, r.left) t.2 in
    let parts = ok_parts c.2 in
    let root_is : root_part shape values ≡ (b.0).0 = ap (root_part shape) (sym parts.0) ∙ take_at (b.0).0 (c.0).0 (length shape.root_kinds) long in
    record {
      head = a.0;
      root = (b.0).0;
      left = (b.0).1;
      rest = t.0;
      first_is = byte_takes shape.space key a.0 a.1;
      root_is = b.1;
      table_is = byte_takes shape.table (b.0).1 t.0 t.1;
      group_is = (group_spelt shape (root_part shape values) group is).is ∙ ap (group_bytes shape) root_is;
    }

-- ---- the number of a table

pub one_numbered : (s : Schema) (n m : ℕ) (t u : Table) → numbered s.tables n ≡ Some t → numbered s.tables m ≡ Some u → n ≡ m → t ≡ u
one_numbered s n m t u at there same = let e : Some t ≡ Some u = sym at ∙ ap (numbered s.tables) same ∙ there in cc

-- ---- a key that is spelled and read

pub neither : (a b : Bool) → a || b ≡ false → a ≡ false
neither true b h = cc
neither false b h = refl

pub differ : false ≡ true → ⊥
differ h = cc

-- it is of one table
pub read_one_table : (s : Schema) → IsDeclared s → (n m : ℕ) (t u : Table) (values : List Value) (key group : List ℕ) → numbered s.tables n ≡ Some t → numbered s.tables m ≡ Some u
    → key_of s n t values ≡ Ok key → IsKeyOf s m u group key → n ≡ m
read_one_table s d n m t u values key group at there own of = by (is_root_table t || t.inside) (is_root_table u || u.inside) refl refl
  where
    root : List Value
    root = root_part (shape_of s n t) values

    bytes : List ℕ
    bytes = scatter_of t.scatter root ++ spell_all root

    behind : List ℕ
    behind = n ∷ spell_all (rest_part (shape_of s n t) values)

    parts : ReadParts (shape_of s m u) key group
    parts = read_parts (shape_of s m u) key group of.values of.read of.group_is

    whole : (if is_root_table t || t.inside then t.root else n) ∷ (bytes ++ behind) ≡ (if is_root_table u || u.inside then u.root else m) ∷ parts.head
    whole = sym (key_spelt (shape_of s n t) values key own).is ∙ parts.first_is

    first : (if is_root_table t || t.inside then t.root else n) ≡ (if is_root_table u || u.inside then u.root else m)
    first = same_first _ _ _ _ whole

    kinds : AreOf (root_kinds (table_at s.tables t.root)) root
    kinds = of_front (shape_of s n t).root_kinds (shape_of s n t).rest_kinds values (key_spelt (shape_of s n t) values key own).kinds

    rooted : t.root ≡ u.root → n ≡ m
    rooted same =
        let a = root_of s d n t at in
        let b = root_of s d m u there in
        let scatters : t.scatter ≡ u.scatter = a.scatter_is ∙ ap (λ (x : Table). x.scatter) (one_numbered s t.root u.root a.root b.root a.numbered_is b.numbered_is same) ∙ sym b.scatter_is in
        let read : root_at t.scatter (root_kinds (table_at s.tables t.root)) (bytes ++ behind) ≡ Ok (parts.root, parts.left) =
        (λ i. root_at (scatters i) (root_kinds (table_at s.tables (same i))) (ap (drop 1) whole i)) ∙ parts.root_is in
        let again = root_reread t.scatter (root_kinds (table_at s.tables t.root)) root parts.root behind parts.left kinds read in
        same_first n m _ _ (sym again.left_is ∙ parts.table_is)

    by : (a b : Bool) → (is_root_table t || t.inside) ≡ a → (is_root_table u || u.inside) ≡ b → n ≡ m
    by true true x y = rooted (sym (ap (λ c. if c then t.root else n) x) ∙ first ∙ ap (λ c. if c then u.root else m) y)
    by true false x y =
        let a = root_of s d n t at in
        let same : t.root ≡ m = sym (ap (λ c. if c then t.root else n) x) ∙ first ∙ ap (λ c. if c then u.root else m) y in
        absurd (differ (sym (neither (is_root_table u) u.inside y) ∙ ap is_root_table (sym (one_numbered s t.root m a.root u a.numbered_is there same)) ∙ a.is_root))
    by false true x y =
        let b = root_of s d m u there in
        let same : n ≡ u.root = sym (ap (λ c. if c then t.root else n) x) ∙ first ∙ ap (λ c. if c then u.root else m) y in
        absurd (differ (sym (neither (is_root_table t) t.inside x) ∙ ap is_root_table (one_numbered s n u.root t b.root at b.numbered_is same) ∙ b.is_root))
    by false false x y = sym (ap (λ c. if c then t.root else n) x) ∙ first ∙ ap (λ c. if c then u.root else m) y

-- and of one group
pub read_one_group : (s : Schema) (n : ℕ) (t : Table) (values : List Value) (key group : List ℕ) → key_of s n t values ≡ Ok key → IsKeyOf s n t group key
    → group_bytes (shape_of s n t) (root_part (shape_of s n t) values) ≡ group
read_one_group s n t values key group own of =
    let shape = shape_of s n t in
    let root = root_part shape values in
    let spelled = key_spelt shape values key own in
    let parts = read_parts shape key group of.values of.read of.group_is in
    let whole : (scatter_of shape.scatter root ++ spell_all root) ++ shape.table ∷ spell_all (rest_part shape values) ≡ parts.head = ap (drop 1) (sym spelled.is ∙ parts.first_is) in
    let again = root_reread shape.scatter shape.root_kinds root parts.root (shape.table ∷ spell_all (rest_part shape values)) parts.left
    (of_front shape.root_kinds shape.rest_kinds values spelled.kinds) (ap (root_at shape.scatter shape.root_kinds) whole ∙ parts.root_is) in
    alike_head shape.root shape.scatter root parts.root again.alike ∙ sym parts.group_is
