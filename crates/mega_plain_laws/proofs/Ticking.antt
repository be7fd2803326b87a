-- Three nodes that start, and a tick at which node 1 asks the cells.
use Rattle.std.proofs.Common.{◌≡◌, ◌&&◌, ℕ, zero, suc, ◌<◌, ◌≤◌, nat_lt, Bool, true, false, List, [], ◌∷◌, map, Some, None, codes, ◌==◌, ◌-◌, cond, length, slice_get, refl, sym, ap, ◌∙◌, subst, arith}
use Rattle.std.specs.Prelude.{All}
use Rattle.std.specs.List.{list_all}
use Rattle.std.proofs.lemmas.Bool.Decides.{nat_tests}
use Rattle.std.proofs.lemmas.Str.{is_utf8-from_IsUtf8}
use Rattle.std.specs.Str.{is_utf8}
use Rattle.std.proofs.lemmas.Bool.{and_from}
use Rattle.hex.specs.Hex.{IsBytes}
use Rattle.mega_base.specs.Codec.{number_text}
use Rattle.mega_base.specs.declared.values.Kind.TheVariants.{Int64, Str}
use Rattle.mega_syntax.specs.declared.need.Need.TheVariants.{Required}
use Rattle.mega_syntax.proofs.NameText.{name_text}
use Rattle.mega_syntax.specs.Names.{is_name}
use Rattle.mega_schema.specs.declared.schema.Property.{Property}
use Rattle.mega_schema.specs.declared.schema.Table.{Table}
use Rattle.mega_wire.specs.Messages.{message_text}
use Rattle.mega_wire.specs.declared.message.Message.{Message}
use Rattle.mega_wire.specs.declared.message.Body.TheVariants.{Acquire}
use Rattle.mega_index.specs.Fits.{numbered}
use Rattle.mega_transcript.specs.Named.{names_property, names_table, property_number, table_number}
use Rattle.mega_rules.specs.Examples.{cluster, users}
use Rattle.mega_promises.specs.Runs.{Whole, goes_on, opening}
use Rattle.mega_promises.specs.Worked.{happens, tick}
use Rattle.mega_format_laws.specs.Histories.{IsCluster}
use Rattle.mega_format_laws.specs.Rounds.{Each}
use Rattle.mega_format_laws.proofs.Each.{all_of_each}
use Rattle.mega_plain_laws.specs.Answers.{IsNamed}
use Rattle.mega_plain_laws.specs.Formed.{AreFormed}
use Rattle.mega_field_ranges.specs.Held.{HoldsItem}

pub formed : IsCluster cluster
formed = record { nodes = omega arith; cells = omega arith; limit = omega arith }

pub asked : AreFormed (map happens (tick 1 10 ∷ []))
asked = (record { handlers = tt; asked = (omega arith, omega arith) }, tt)

-- ---- names

text : (bytes : List ℕ) → is_name bytes ≡ true → is_utf8 bytes ≡ true
text bytes name = is_utf8-from_IsUtf8 bytes (name_text bytes name)

beyond : {X : Type 0} (xs : List X) (n : ℕ) → length xs ≤ n → slice_get xs n ≡ None
beyond [] n le = refl
beyond (x ∷ xs) zero le = let no : ⊥ = omega (arith, le) in absurd no
beyond (x ∷ xs) (suc n) le = beyond xs n (omega (arith, le))

-- there is none behind the last
past : {X : Type 0} (xs : List X) (k : ℕ) (y : X) → length xs ≤ k → numbered xs (suc k) ≡ Some y → ⊥
past xs k y le at =
    let first : (suc k == 0) ≡ false = grind (arith, nat_tests) in
    let less : suc k - 1 ≡ k = omega arith in
    let none : numbered xs (suc k) ≡ None = ap (λ t. cond t None (slice_get xs (suc k - 1))) first ∙ ap (slice_get xs) less ∙ beyond xs k le in
    let clash : None ≡ Some y = sym none ∙ at in
    cc

table_named : (n : ℕ) (table : Table) → numbered (users ∷ []) n ≡ Some table → names_table (users ∷ []) n table.name ≡ true
table_named zero table at = cc
table_named (suc zero) table at =
    let same : users ≡ table = cc in
    subst (λ (t : Table). names_table (users ∷ []) 1 t.name ≡ true) same (and_from (is_utf8 users.name) (table_number (users ∷ []) users.name == 1) (text users.name refl) refl)
table_named (suc (suc n)) table at = absurd (past (users ∷ []) (suc n) table (omega arith) at)

property_named : (k : ℕ) (property : Property) → numbered users.properties k ≡ Some property → names_property users.properties k property.name ≡ true
property_named zero property at = cc
property_named (suc zero) property at =
    let same : record { name = codes "user_id"; need = Required; kind = Int64 } ≡ property = cc in
    subst (λ (p : Property). names_property users.properties 1 p.name ≡ true) same (and_from (is_utf8 (codes "user_id")) (property_number users.properties (codes "user_id") == 1) (text (codes "user_id") refl) refl)
property_named (suc (suc zero)) property at =
    let same : record { name = codes "name"; need = Required; kind = Str } ≡ property = cc in
    subst (λ (p : Property). names_property users.properties 2 p.name ≡ true) same (and_from (is_utf8 (codes "name")) (property_number users.properties (codes "name") == 2) (text (codes "name") refl) refl)
property_named (suc (suc (suc k))) property at = absurd (past users.properties (suc (suc k)) property (omega arith) at)

of_users : (n : ℕ) (table : Table) → numbered (users ∷ []) n ≡ Some table → users ≡ table
of_users zero table at = cc
of_users (suc zero) table at = cc
of_users (suc (suc n)) table at = absurd (past (users ∷ []) (suc n) table (omega arith) at)

pub named : IsNamed cluster.schema
named = record {
  tables = table_named;
  properties = λ n table k property at there.
      subst (λ (t : Table). numbered t.properties k ≡ Some property → names_property t.properties k property.name ≡ true) (of_users n table at) (property_named k property) there;
}

-- ---- what is held

bytes_are : (xs : List ℕ) → list_all (λ b. nat_lt b 256) xs ≡ true → IsBytes xs
bytes_are [] h i = omega arith
bytes_are (x ∷ xs) h zero = first x (list_all (λ b. nat_lt b 256) xs) h
  where
    first : (x : ℕ) (rest : Bool) → (nat_lt x 256 && rest) ≡ true → x < 256
    first x rest h = grind (arith, nat_tests)
bytes_are (x ∷ xs) h (suc i) = bytes_are xs (rest (nat_lt x 256) (list_all (λ b. nat_lt b 256) xs) h) i
  where
    rest : (a b : Bool) → (a && b) ≡ true → b ≡ true
    rest true b h = h
    rest false b h = cc

acquire : ℕ → Message
acquire cell = record { from = 1; to = cell; body = Acquire cell (record { start = 1; count = 0 }) 10 }

bytes_of : (cell : ℕ) → list_all (λ b. nat_lt b 256) (message_text (acquire cell)) ≡ true → IsBytes (message_text (acquire cell))
bytes_of cell h = bytes_are (message_text (acquire cell)) h

each_held : Each HoldsItem (goes_on cluster (λ now me calls. Whole) (opening cluster []) (map happens (tick 1 10 ∷ []))).tape
unfolding number_text acquire
each_held = (
  (omega arith, bytes_of 3 refl),
  (
    (omega arith, bytes_of 2 refl),
    (
      (omega arith, bytes_of 1 refl),
      (
        (omega arith, omega arith),
        (
          (omega arith, omega arith),
          (
            (omega arith, omega arith),
            ((omega arith, omega arith), tt),
          ),
        ),
      ),
    ),
  ),
)

pub held : All HoldsItem (goes_on cluster (λ now me calls. Whole) (opening cluster []) (map happens (tick 1 10 ∷ []))).tape
held = all_of_each HoldsItem (goes_on cluster (λ now me calls. Whole) (opening cluster []) (map happens (tick 1 10 ∷ []))).tape each_held
