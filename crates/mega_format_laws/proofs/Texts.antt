-- Entries that are short, by the lengths of the parts of their texts.
use Rattle.std.proofs.Common.{◌≡◌, ◌∙◌, ap, ℕ, ◌+◌, List, [], ◌∷◌, ◌++◌, length, length-append, Option, Some, None, arith}
use Rattle.std.specs.List.{flat_map}
use Rattle.std.proofs.lemmas.List.Elements.{All-cons, All-nil}
use Rattle.mega_base.specs.Codec.{number_text, option_text, list_text, IsList}
use Rattle.mega_base.specs.Digits.{length_number_text}
use Rattle.mega_base.specs.Names.{op_text, node_text, u32_text, IsNode}
use Rattle.mega_base.specs.declared.names.OpId.{OpId}
use Rattle.mega_base.specs.declared.names.NodeId.{NodeId}
use Rattle.mega_entry.specs.declared.content.Content.{Content}
use Rattle.mega_entry.specs.Entries.{IsWrite, IsSend, IsEnter, IsName, write_text, send_text, enter_text, name_text, cuts_text, entry_text, most_items}
use Rattle.mega_format_laws.specs.Rounds.{IsShort}

-- a number's text, and what follows it
pub number_front : (k n : ℕ) (rest : List ℕ) → length (number_text k n ++ rest) ≡ k + length rest
number_front k n rest = length-append (number_text k n) rest ∙ ap (λ m. m + length rest) (length_number_text k n)

pub list_front : {A : Type 0} (spell : A → List ℕ) (xs : List A) (rest : List ℕ) → length (list_text spell xs ++ rest) ≡ 4 + length (flat_map spell xs) + length rest
list_front spell xs rest = length-append (list_text spell xs) rest ∙ ap (λ n. n + length rest) (number_front 4 (length xs) (flat_map spell xs))

-- the bytes of an id
abbrev pub id_length : Option OpId → ℕ
id_length None = 1
id_length (Some op) = 10

id_front : (id : Option OpId) (rest : List ℕ) → length (option_text op_text id ++ rest) ≡ id_length id + length rest
id_front None rest = omega arith
id_front (Some op) rest =
    omega (arith, length-append (u32_text op.start ++ u32_text op.number) rest, number_front 4 op.start (u32_text op.number), length_number_text 4 op.number)

-- an entry by its parts
pub parts : (e : Content) → length (entry_text e) ≡ 18 + (id_length e.id
    + (length (flat_map write_text e.writes) + (length (flat_map send_text e.sends) + (length (flat_map enter_text e.enters) + (length (flat_map name_text e.handles) + length (cuts_text e.cuts))))))
parts e =
    omega (arith, id_front e.id (node_text e.leader ++ lists), list_front write_text e.writes after_writes, list_front send_text e.sends after_sends, list_front enter_text e.enters after_enters, list_front name_text e.handles (cuts_text e.cuts))
  where
    after_enters : List ℕ
    after_enters = list_text name_text e.handles ++ cuts_text e.cuts

    after_sends : List ℕ
    after_sends = list_text enter_text e.enters ++ after_enters

    after_writes : List ℕ
    after_writes = list_text send_text e.sends ++ after_sends

    lists : List ℕ
    lists = list_text write_text e.writes ++ after_writes

-- lists of at most so many items that each are so
pub no_items : {A : Type 0} (P : A → Type 0) → IsList 0 most_items P []
no_items P = record { each = All-nil P; least = omega arith; most = omega arith }

pub no_op_short : (leader : NodeId) → IsNode leader → IsShort (record { id = None; leader = leader; writes = []; sends = []; enters = []; handles = []; cuts = [] })
no_op_short leader h = (
  record { id = tt; leader = h; writes = no_items IsWrite; sends = no_items IsSend; enters = no_items IsEnter; handles = no_items IsName; cuts = tt },
  omega (arith, parts (record { id = None; leader = leader; writes = []; sends = []; enters = []; handles = []; cuts = [] })),
)

pub one_item : {A : Type 0} (P : A → Type 0) (x : A) → P x → IsList 0 most_items P (x ∷ [])
one_item P x h = record { each = All-cons P x [] h (All-nil P); least = omega arith; most = omega arith }
