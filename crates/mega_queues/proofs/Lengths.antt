-- The length of the entry that enters a message.
use Rattle.std.proofs.Common.{◌≡◌, ◌∙◌, ap, ℕ, ◌+◌, List, [], ◌∷◌, ◌++◌, length, length-append, arith}
use Rattle.std.specs.Prelude.{Some, nat_le}
use Rattle.std.specs.List.{flat_map}
use Rattle.std.proofs.lemmas.Bool.Decides.{nat_tests}
use Rattle.mega_base.specs.Codec.{bytes_text, option_text, list_text}
use Rattle.mega_base.specs.Digits.{length_number_text}
use Rattle.mega_base.specs.Names.{op_text, node_text, u32_text, u64_text}
use Rattle.mega_base.specs.declared.names.OpId.{OpId}
use Rattle.mega_entry.specs.declared.content.Enter.{Enter}
use Rattle.mega_entry.specs.declared.content.Name.{Name}
use Rattle.mega_entry.specs.Entries.{write_text, send_text, enter_text, name_text, entry_text}
use Rattle.mega_outcome.proofs.Sizes.{number_front, bytes_text_length}
use Rattle.mega_rules.specs.Queues.{enter_entry, is_short}

bytes_front : (bytes rest : List ℕ) → length (bytes_text bytes ++ rest) ≡ 4 + length bytes + length rest
bytes_front bytes rest = length-append (bytes_text bytes) rest ∙ ap (λ n. n + length rest) (bytes_text_length bytes)

op_front : (op : OpId) (rest : List ℕ) → length (option_text op_text (Some op) ++ rest) ≡ 10 + length rest
op_front op rest =
    omega (arith, length-append (u32_text op.start ++ u32_text op.number) rest, number_front 4 op.start (u32_text op.number), length_number_text 4 op.number)

list_front : {A : Type 0} (spell : A → List ℕ) (xs : List A) (rest : List ℕ) → length (list_text spell xs ++ rest) ≡ 4 + length (flat_map spell xs) + length rest
list_front spell xs rest = length-append (list_text spell xs) rest ∙ ap (λ n. n + length rest) (number_front 4 (length xs) (flat_map spell xs))

pub name_is : (name : Name) → length (name_text name) ≡ 16 + length name.group.key
name_is name =
    omega (arith, bytes_front name.group.key (u64_text name.position.0 ++ u32_text name.place), number_front 8 name.position.0 (u32_text name.place), length_number_text 4 name.place)

enter_length : (message : Enter) → length (enter_text message) ≡ 24 + (length message.name.group.key + (length message.queue + length message.payload))
enter_length message =
    omega (arith, name_is message.name, length-append (name_text message.name) (bytes_text message.queue ++ bytes_text message.payload), bytes_front message.queue (bytes_text message.payload), bytes_text_length message.payload)

pub entry_is : (op : OpId) (message : Enter) → length (entry_text (enter_entry op message)) ≡ 52 + (length message.name.group.key + (length message.queue + length message.payload))
entry_is op message =
    omega (
      arith,
      op_front op (node_text op.node ++ after_leader),
      list_front write_text [] after_writes,
      list_front send_text [] after_sends,
      list_front enter_text (message ∷ []) after_enters,
      list_front name_text [] [],
      length-append (enter_text message) [],
      enter_length message,
    )
  where
    after_enters : List ℕ
    after_enters = list_text name_text [] ++ []

    after_sends : List ℕ
    after_sends = list_text enter_text (message ∷ []) ++ after_enters

    after_writes : List ℕ
    after_writes = list_text send_text [] ++ after_sends

    after_leader : List ℕ
    after_leader = list_text write_text [] ++ after_writes

moved : (n : ℕ) → nat_le (52 + n) 32768 ≡ nat_le n 32716
moved n = grind (arith, nat_tests)

pub short_is : (op : OpId) (message : Enter) → is_short (enter_entry op message) ≡ nat_le (length message.name.group.key + (length message.queue + length message.payload)) 32716
short_is op message = ap (λ n. nat_le n 32768) (entry_is op message) ∙ moved (length message.name.group.key + (length message.queue + length message.payload))

pub same_length : (g q p : ℕ) (message : Enter) → g ≡ length message.name.group.key → q ≡ length message.queue → p ≡ length message.payload
    → nat_le (g + (q + p)) 32716 ≡ nat_le (length message.name.group.key + (length message.queue + length message.payload)) 32716
same_length g q p message a b c = λ i. nat_le (a i + (b i + c i)) 32716
