-- Records of items: how long they are, how they are read, and what they add to a history.
use Rattle.std.proofs.Common.{◌≡◌, ℕ, ◌+◌, ◌*◌, ◌<◌, ◌≤◌, ◌^◌, true, false, cond, List, [], ◌∷◌, ◌++◌, length, reverse, Some, None, nat_lt, Ok, refl, sym, ap, subst, ◌∙◌, inl, inr, arith, append_assoc, length-append, append-nil, add-zero}
use Rattle.std.specs.Prelude.{All}
use Rattle.std.specs.List.{flat_map}
use Rattle.std.proofs.lemmas.Bool.Decides.{nat_tests}
use Rattle.mega_base.specs.Reading.{place, items_at, list_in, whole_of}
use Rattle.mega_base.specs.Codec.{number_text, bytes_text, nested_text}
use Rattle.mega_base.specs.Digits.{length_number_text}
use Rattle.mega_base.specs.Lists.{All-head, All-tail}
use Rattle.mega_base.specs.Names.{u32_text, group_text, epoch_text, position_text}
use Rattle.mega_base.specs.NameLaws.{u32_codec}
use Rattle.mega_base.specs.declared.names.Epoch.{Epoch}
use Rattle.mega_acceptor.specs.of_ballot.declared.ballot.Ballot.{Ballot}
use Rattle.mega_acceptor.specs.of_ballot.Ballots.{ballot_text}
use Rattle.mega_acceptor.specs.of_entry.Entries.{entry_text}
use Rattle.mega_acceptor.specs.of_entry.declared.content.Content.{Content}
use Rattle.mega_disk.specs.Fuse.{Fuse, MayBurn}
use Rattle.mega_disk.specs.Fuse.Fuse.{Untold, Unset, Left}
use Rattle.mega_disk.specs.Images.{LeavesOnly, Only}
use Rattle.mega_wal.specs.declared.item.JournalItem.{JournalItem}
use Rattle.mega_wal.specs.declared.item.JournalItem.TheVariants.{Start, Promise, Accept, Decide, Grant, Lapse, Starts}
use Rattle.mega_wal.specs.Items.{IsItem, item_at, item_text, record_at, record_text}
use Rattle.mega_wal.specs.ItemLaws.{item_codec}
use Rattle.mega_wal.specs.Records.{history_of, items_in, read_items}
use Rattle.mega_wal.specs.Compaction.{if_short}
use Rattle.mega_wal.proofs.Loading.{history_push}

-- ---- how long
bytes_len : (bytes : List ℕ) → length (bytes_text bytes) ≡ 4 + length bytes
bytes_len bytes = length-append (number_text 4 (length bytes)) bytes ∙ ap (λ n. n + length bytes) (length_number_text 4 (length bytes))

nested_len : (entry : Content) → length (nested_text entry_text entry) ≡ 4 + length (entry_text entry)
nested_len entry = bytes_len (entry_text entry)

ballot_len : (ballot : Ballot) → length (ballot_text ballot) ≡ 13
ballot_len ballot =
    length-append (u32_text ballot.round) (ballot.op.node.0 ∷ (u32_text ballot.op.start ++ u32_text ballot.op.number))
    ∙ omega (arith, length_number_text 4 ballot.round, length-append (u32_text ballot.op.start) (u32_text ballot.op.number), length_number_text 4 ballot.op.start, length_number_text 4 ballot.op.number)

epoch_len : (epoch : Epoch) → length (epoch_text epoch) ≡ 8
epoch_len epoch = length-append (u32_text epoch.start) (u32_text epoch.count) ∙ omega (arith, length_number_text 4 epoch.start, length_number_text 4 epoch.count)

item_short : (item : JournalItem) → IsItem item → length (item_text item) ≤ 140000
item_short Start f = omega arith
item_short (Promise group position ballot) f =
    let a = length-append (group_text group) (position_text position ++ ballot_text ballot) in
    let b = length-append (position_text position) (ballot_text ballot) in
    let k = bytes_len group.key in let m = f.0.1 in let n = length_number_text 8 position.0 in let o = ballot_len ballot in
    omega arith
item_short (Accept group position ballot entry) f =
    let a = length-append (group_text group) (position_text position ++ (ballot_text ballot ++ nested_text entry_text entry)) in
    let b = length-append (position_text position) (ballot_text ballot ++ nested_text entry_text entry) in
    let d = length-append (ballot_text ballot) (nested_text entry_text entry) in
    let k = bytes_len group.key in let m = f.0.1 in let n = length_number_text 8 position.0 in let o = ballot_len ballot in
    let e = nested_len entry in let g = f.1.1.1.1 in
    omega arith
item_short (Decide group position entry) f =
    let a = length-append (group_text group) (position_text position ++ nested_text entry_text entry) in
    let b = length-append (position_text position) (nested_text entry_text entry) in
    let k = bytes_len group.key in let m = f.0.1 in let n = length_number_text 8 position.0 in
    let e = nested_len entry in let g = f.1.1.1 in
    omega arith
item_short (Grant node epoch) f = let e = epoch_len epoch in omega arith
item_short (Lapse node epoch) f = let e = epoch_len epoch in omega arith
item_short (Starts starts) f = let e = length_number_text 4 starts in omega arith

items_short : (items : List JournalItem) → All IsItem items → length (flat_map item_text items) ≤ length items * 140000
items_short [] each = omega arith
items_short (item ∷ items) each =
    let a = length-append (item_text item) (flat_map item_text items) in
    let b = item_short item (All-head IsItem item items each) in
    let r = items_short items (All-tail IsItem item items each) in
    omega arith

pub short_record : (items : List JournalItem) → All IsItem items → length items ≤ 1000 → length (record_text items) < 2 ^ 32
short_record items each few =
    let a = length-append (number_text 4 (length items)) (flat_map item_text items) in
    let b = length_number_text 4 (length items) in
    let r = items_short items each in
    omega arith

-- each item has at least one byte
pub long_record : (items : List JournalItem) → length items ≤ length (record_text items)
long_record items = let a = length-append (number_text 4 (length items)) (flat_map item_text items) in let r = each items in omega arith
  where
    each : (items : List JournalItem) → length items ≤ length (flat_map item_text items)
    each [] = omega arith
    each (item ∷ items) = let a = length-append (item_text item) (flat_map item_text items) in let r = each items in omega arith

-- ---- read as they were spelled
items_again : (items : List JournalItem) (at : ℕ) (rest : List ℕ) → All IsItem items → items_at item_at (length items) (place at (flat_map item_text items ++ rest)) ≡ Ok (items, place (at + length (flat_map item_text items)) rest)
unfolding items_at
items_again [] at rest each = ap (λ n. Ok ([], place n rest)) (sym (add-zero at))
items_again (item ∷ items) at rest each =
    rw (append_assoc (item_text item) (flat_map item_text items) rest, item_codec.again at item (flat_map item_text items ++ rest) (All-head IsItem item items each), items_again items (at + length (item_text item)) rest (All-tail IsItem item items each))
    (ap (λ n. Ok (item ∷ items, place n rest)) (let a = length-append (item_text item) (flat_map item_text items) in let e : at + length (item_text item) + length (flat_map item_text items) ≡ at + length (item_text item ++ flat_map item_text items) = omega arith in e))

pub record_again : (items : List JournalItem) → All IsItem items → length items < 2 ^ 32 → whole_of record_at (record_text items) ≡ Ok items
unfolding whole_of list_in
record_again items each few =
    let u = u32_codec.again 0 (length items) (flat_map item_text items) (omega arith, omega arith) in
    let l = subst (λ t. items_at item_at (length items) (place (0 + length (u32_text (length items))) t) ≡ Ok (items, place (0 + length (u32_text (length items)) + length (flat_map item_text items)) [])) (append-nil (flat_map item_text items)) (items_again items (0 + length (u32_text (length items))) [] each) in
    rw (u, l) refl

pub items_read : (items : List JournalItem) → All IsItem items → length items < 2 ^ 32 → items_in (record_text items) ≡ items
items_read items each few = ap read_items (record_again items each few)

pub flushed_history : (records : List (List ℕ)) (items : List JournalItem) → All IsItem items → length items < 2 ^ 32 → history_of (records ++ record_text items ∷ []) ≡ reverse items ++ history_of records
flushed_history records items each few = history_push records (record_text items) ∙ ap (λ xs. reverse xs ++ history_of records) (items_read items each few)

-- ---- where nothing is done
pub nothing_burns : (fuse : Fuse) → MayBurn fuse fuse
nothing_burns Untold = refl
nothing_burns Unset = refl
nothing_burns (Left n) = inr (n, refl, omega arith)

pub nothing_leaves : {S X : Type 0} (moment : S → ℕ) (since : S → ℕ → X → Type 0) (may : S → X → Type 0) (store : S) (listed : X) (P : X → Type 0)
    → ((found : X) → since store (moment store) found → may store found) → Only listed (may store) → P listed → LeavesOnly moment since store store P
nothing_leaves moment since may store listed P now only holds = record {
  later = omega arith;
  each = λ found left. subst P (sym (only found (now found left))) holds;
  before = λ t found le left. inl left;
}

-- ---- whether a text is short
pub is_short : (text : List ℕ) → length text < 2 ^ 32 → Some text ≡ if_short text
is_short text lt = ap (λ test. cond test (Some text) None) (let e : true ≡ nat_lt (length text) (2 ^ 32) = grind (arith, nat_tests) in e)

pub is_long : (text : List ℕ) → 2 ^ 32 ≤ length text → None ≡ if_short text
is_long text le = ap (λ test. cond test (Some text) None) (let e : false ≡ nat_lt (length text) (2 ^ 32) = grind (arith, nat_tests) in e)
