-- Checks as tests of rows, whatever numbers they have among the items.
use Rattle.std.proofs.Common.{◌≡◌, ℕ, ◌+◌, ◌&&◌, cond, Bool, true, false, List, [], ◌∷◌, refl, ap, ◌∙◌, Option, Some, None, Result, Ok, Err, is_ok}
use Rattle.std.specs.Prelude.{is_some, is_none, if◌then◌else◌}
use Rattle.std.specs.List.{list_all}
use Rattle.std.specs.Result.{result_ok}
use Rattle.mega_base.specs.declared.values.Value.{Value}
use Rattle.mega_base.specs.declared.values.Row.{Row}
use Rattle.mega_schema.specs.declared.schema.Table.{Table}
use Rattle.mega_schema.specs.declared.schema.Schema.{Schema}
use Rattle.mega_keys.specs.declared.fault.KeyFault.{KeyFault}
use Rattle.mega_index.specs.Rows.{Rows, same_key}
use Rattle.mega_index.specs.Fits.{numbered, group_of, key_of}
use Rattle.mega_outcome.specs.declared.answer.Turn.{Turn}
use Rattle.mega_outcome.specs.declared.answer.Turn.TheVariants.{OtherGroup, BadRow}
use Rattle.mega_outcome.specs.declared.transaction.Check.{Check}
use Rattle.mega_outcome.specs.declared.transaction.Check.TheVariants.{There, Gone, Is}
use Rattle.mega_outcome.specs.Places.{◌>>=◌, spelled, placed, key_in_table, key_in}
use Rattle.mega_outcome.specs.Checks.{holds, may_be_in, has_values, check, all_checks}
use Rattle.mega_two_outcome_laws.specs.Requests.{key_at}

-- ---- the key of a row

placed_any : (i j : ℕ) (group : List ℕ) (own key : Result (List ℕ) KeyFault) → result_ok (placed i group own key) ≡ result_ok (placed j group own key)
placed_any i j group (Err fault) key = refl
placed_any i j group (Ok own) key = by (same_key own group) key
  where
    by : (b : Bool) (key : Result (List ℕ) KeyFault) → result_ok (cond {A = Result (List ℕ) Turn} b (spelled i key) (Err (OtherGroup i))) ≡ result_ok (cond {A = Result (List ℕ) Turn} b (spelled j key) (Err (OtherGroup j)))
    by true (Ok k) = refl
    by true (Err fault) = refl
    by false k = refl

pub key_any : (s : Schema) (group : List ℕ) (i n : ℕ) (values : List Value) → result_ok (key_in s group i n values) ≡ key_at s group n values
key_any s group i n values = by (numbered s.tables n)
  where
    by : (o : Option Table) → result_ok (key_in_table s group i n o values) ≡ result_ok (key_in_table s group 0 n o values)
    by None = refl
    by (Some t) = placed_any i 0 group (group_of s n t values) (key_of s n t values)

-- ---- one check

abbrev pub tested : (List ℕ → Bool) → Option (List ℕ) → Bool
tested test None = false
tested test (Some key) = test key

abbrev pub passes : Schema → List ℕ → Rows → Check → Bool
passes s group rows (There row) = tested (λ key. is_some (rows key)) (key_at s group row.table row.key)
passes s group rows (Gone row) = tested (λ key. is_none (rows key)) (key_at s group row.table row.key)
passes s group rows (Is row property values) =
    tested (λ key. may_be_in (numbered s.tables row.table) property values && has_values (rows key) property values) (key_at s group row.table row.key)

holds_ok : (i : ℕ) (b : Bool) → is_ok (holds i b) ≡ b
holds_ok i true = refl
holds_ok i false = refl

may_hold : (i : ℕ) (a b : Bool) → is_ok (cond {A = Result (Unit {0}) Turn} a (holds i b) (Err (BadRow i))) ≡ a && b
may_hold i true b = holds_ok i b
may_hold i false b = refl

found : (rows : Rows) (test : Option Row → Bool) (goes : Option Row → Result (Unit {0}) Turn) (r : Result (List ℕ) Turn) → ((there : Option Row) → is_ok (goes there) ≡ test there)
    → is_ok ((r >>= λ key. Ok (rows key)) >>= goes) ≡ tested (λ key. test (rows key)) (result_ok r)
found rows test goes (Ok key) same = same (rows key)
found rows test goes (Err turn) same = refl

pub check_is : (s : Schema) (group : List ℕ) (rows : Rows) (i : ℕ) (c : Check) → is_ok (check s group rows i c) ≡ passes s group rows c
check_is s group rows i (There row) =
    found rows is_some (λ there. holds i (is_some there)) (key_in s group i row.table row.key) (λ there. holds_ok i (is_some there))
    ∙ ap (tested (λ key. is_some (rows key))) (key_any s group i row.table row.key)
check_is s group rows i (Gone row) =
    found rows is_none (λ there. holds i (is_none there)) (key_in s group i row.table row.key) (λ there. holds_ok i (is_none there))
    ∙ ap (tested (λ key. is_none (rows key))) (key_any s group i row.table row.key)
check_is s group rows i (Is row property values) =
    let may = may_be_in (numbered s.tables row.table) property values in
    found rows (λ there. may && has_values there property values) (λ there. if may then holds i (has_values there property values) else Err (BadRow i)) (key_in s group i row.table row.key)
    (λ there. may_hold i may (has_values there property values))
    ∙ ap (tested (λ key. may && has_values (rows key) property values)) (key_any s group i row.table row.key)

-- ---- all of them

then_ok : (r : Result (Unit {0}) Turn) (next : Result (Unit {0}) Turn) → is_ok (r >>= λ _. next) ≡ is_ok r && is_ok next
then_ok (Ok done) next = refl
then_ok (Err turn) next = refl

pub checks_are : (s : Schema) (group : List ℕ) (rows : Rows) (i : ℕ) (cs : List Check) → is_ok (all_checks s group rows i cs) ≡ list_all (passes s group rows) cs
checks_are s group rows i [] = refl
checks_are s group rows i (c ∷ cs) =
    then_ok (check s group rows i c) (all_checks s group rows (i + 1) cs) ∙ (λ x. check_is s group rows i c x && checks_are s group rows (i + 1) cs x)
