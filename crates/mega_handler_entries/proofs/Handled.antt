-- The length of an entry that handles a message.
use Rattle.std.proofs.Common.{◌≡◌, ◌∙◌, ap, ℕ, ◌+◌, List, [], ◌∷◌, ◌++◌, length, length-append, Some, arith}
use Rattle.std.specs.List.{flat_map}
use Rattle.mega_base.specs.Codec.{bytes_text, list_text, option_text}
use Rattle.mega_base.specs.Digits.{length_number_text}
use Rattle.mega_base.specs.Names.{node_text, op_text, u32_text, u64_text}
use Rattle.mega_base.specs.declared.names.OpId.{OpId}
use Rattle.mega_entry.specs.declared.content.Name.{Name}
use Rattle.mega_entry.specs.declared.content.Send.{Send}
use Rattle.mega_entry.specs.declared.content.Write.{Write}
use Rattle.mega_entry.specs.Entries.{cuts_text, enter_text, entry_text, name_text, send_text, write_text}
use Rattle.mega_handler.specs.Effects.{entry_handling}
use Rattle.mega_outcome.specs.Lengths.{sends_length, writes_length}
use Rattle.mega_outcome.proofs.Sizes.{bytes_text_length, number_front}

list_front : {A : Type 0} (spell : A → List ℕ) (xs : List A) (rest : List ℕ) → length (list_text spell xs ++ rest) ≡ 4 + length (flat_map spell xs) + length rest
list_front spell xs rest = length-append (list_text spell xs) rest ∙ ap (λ n. n + length rest) (number_front 4 (length xs) (flat_map spell xs))

op_front : (op : OpId) (rest : List ℕ) → length (option_text op_text (Some op) ++ rest) ≡ 10 + length rest
op_front op rest =
    omega (arith, length-append (u32_text op.start ++ u32_text op.number) rest, number_front 4 op.start (u32_text op.number), length_number_text 4 op.number)

mark_length : (name : Name) → length (flat_map name_text (name ∷ [])) ≡ 16 + length (name.group).key
mark_length name =
    omega (
      arith,
      length-append (name_text name) [],
      length-append (bytes_text (name.group).key) (u64_text (name.position).0 ++ u32_text name.place),
      bytes_text_length (name.group).key,
      number_front 8 (name.position).0 (u32_text name.place),
      length_number_text 4 name.place,
    )

pub entry_length : (name : Name) (writes : List Write) (sends : List Send) (op : OpId)
    → 44 + length (name.group).key + (writes_length writes + sends_length sends) ≡ length (entry_text (entry_handling op name (writes, sends)))
entry_length name writes sends op =
    omega (
      arith,
      op_front op (node_text op.node ++ lists),
      list_front write_text writes after_writes,
      list_front send_text sends after_sends,
      list_front enter_text [] after_enters,
      list_front name_text (name ∷ []) (cuts_text []),
      mark_length name,
    )
  where
    after_enters : List ℕ
    after_enters = list_text name_text (name ∷ []) ++ cuts_text []

    after_sends : List ℕ
    after_sends = list_text enter_text [] ++ after_enters

    after_writes : List ℕ
    after_writes = list_text send_text sends ++ after_sends

    lists : List ℕ
    lists = list_text write_text writes ++ after_writes
