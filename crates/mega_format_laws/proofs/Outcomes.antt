-- What operations propose of their own is of the format: entries of transactions, of batches, and those that handle messages.
use Rattle.std.proofs.Common.{◌≡◌, ◌∙◌, ap, ℕ, ◌+◌, ◌≤◌, max, Bool, true, false, cond, List, [], ◌∷◌, ◌++◌, length, length-append, flat_map, fold, Option, Some, None, Result, Ok, Err, refl, subst, arith}
use Rattle.std.specs.Prelude.{is_some, nat_le, nat_lt, not, ℤ, ◌&&◌, ◌+ℤ◌, ◌^◌}
use Rattle.std.proofs.lemmas.Bool.Decides.{nat_tests}
use Rattle.mega_base.specs.Codec.{IsBetween, IsList, IsOption, bytes_text, option_text}
use Rattle.mega_base.specs.Values.{row_text}
use Rattle.mega_base.specs.declared.names.OpId.{OpId}
use Rattle.mega_base.specs.declared.values.Kind.{Kind}
use Rattle.mega_base.specs.declared.values.Kind.TheVariants as kinds
use Rattle.mega_base.specs.declared.values.Row.{Row}
use Rattle.mega_base.specs.declared.values.Value.{Value}
use Rattle.mega_base.specs.declared.values.Value.TheVariants.{Int32, Int64}
use Rattle.mega_entry.specs.declared.content.Content.{Content}
use Rattle.mega_entry.specs.declared.content.Cut.{Cut}
use Rattle.mega_entry.specs.declared.content.Send.{Send}
use Rattle.mega_entry.specs.declared.content.Write.{Write}
use Rattle.mega_entry.specs.Entries.{HasCuts, IsEnter, IsName, IsQueue, IsSend, IsWrite, send_text, write_text}
use Rattle.mega_schema.specs.declared.schema.Property.{Property}
use Rattle.mega_schema.specs.declared.schema.Schema.{Schema}
use Rattle.mega_schema.specs.declared.schema.Table.{Table}
use Rattle.mega_index.specs.Cells.{is_listed, key_values, row_set, values_of}
use Rattle.mega_index.specs.Fits.{fits, long_key, numbered}
use Rattle.mega_index.specs.Fitted.{enter_length, entry_of, is_group, is_queue, most_bytes, send_fits}
use Rattle.mega_index.specs.Rows.{Rows, after, no_rows, written}
use Rattle.mega_outcome.specs.declared.answer.Done.{Done}
use Rattle.mega_outcome.specs.declared.answer.Turn.{Turn}
use Rattle.mega_outcome.specs.declared.answer.Turn.TheVariants.{BadRow, TooLarge}
use Rattle.mega_outcome.specs.declared.transaction.Change.{Change}
use Rattle.mega_outcome.specs.declared.transaction.Change.TheVariants.{Put, Delete, Add}
use Rattle.mega_outcome.specs.declared.transaction.Transaction.{Transaction}
use Rattle.mega_outcome.specs.Places.{◌>>=◌, key_in}
use Rattle.mega_outcome.specs.Checks.{all_checks}
use Rattle.mega_outcome.specs.Reads.{all_reads}
use Rattle.mega_outcome.specs.Changes.{add_at, add_in, add_to, all_changes, change, delete_at, is_in_range, is_number, number_of, number_value, or_overflow, put_in, replaced, sum_of}
use Rattle.mega_outcome.specs.Outcome.{all_sends, entry_length, entry_of_done, first_change, first_read, first_send, longest, outcome, outcome_in, unless_large}
use Rattle.mega_format_laws.specs.Rounds.{Each, IsSender, IsShort}
use Rattle.mega_format_laws.specs.Requests.{IsChange, IsGiven, IsQueued, IsRowed, IsSpelled, IsSpelledRow, IsTransaction}
use Rattle.mega_format_laws.proofs.Each.{all_of_each, each_both, either}
use Rattle.mega_format_laws.proofs.Rows.{AreRows, after_rows, fits_32, fits_64, index_rowed, none_rows, set_row, written_rows}
use Rattle.mega_format_laws.proofs.Spelling.{put_row, row_short}
use Rattle.mega_format_laws.proofs.Texts.{no_items, number_front, parts}

-- what comes of it is so, unless it is turned away
abbrev pub OkIs : {A : Type 0} → (A → Type 0) → Result A Turn → Type 0
OkIs P (Ok x) = P x
OkIs P (Err turn) = Unit {0}

then_ok : {A B : Type 0} (P : A → Type 0) (Q : B → Type 0) (r : Result A Turn) (f : A → Result B Turn) → OkIs P r → ((x : A) → P x → OkIs Q (f x)) → OkIs Q (r >>= f)
then_ok P Q (Ok x) f h k = k x h
then_ok P Q (Err turn) f h k = tt

abbrev Any : {A : Type 0} → A → Type 0
Any x = Unit {0}

any_ok : {A : Type 0} (r : Result A Turn) → OkIs Any r
any_ok (Ok x) = tt
any_ok (Err turn) = tt

abbrev AreRowed : List Write → Type 0
AreRowed writes = Each IsRowed writes

-- ---- one change

replaced_ok : (s : Schema) (n : ℕ) (key : List ℕ) (old new : Option Row) → IsOption IsSpelledRow new → AreRowed (replaced s n key old new)
replaced_ok s n key old new h = (h, index_rowed s n old new h)

put_ok : (s : Schema) (group : List ℕ) (rows : Rows) (i n : ℕ) (t : Option Table) (row : Row) → Each IsGiven row.cells → OkIs AreRowed (put_in s group rows i n t row)
put_ok s group rows i n None row h = tt
put_ok s group rows i n (Some t) row h = then_ok Any AreRowed (key_in s group i n (key_values t.primary row)) (λ key. cond (fits s n row) (Ok (replaced s n key (rows key) (Some row))) (Err (BadRow i)))
    (any_ok (key_in s group i n (key_values t.primary row))) (λ key _. go key (fits s n row) refl)
  where
    go : (key : List ℕ) (b : Bool) → fits s n row ≡ b → OkIs AreRowed (cond b (Ok (replaced s n key (rows key) (Some row))) (Err (BadRow i)))
    go key true e = replaced_ok s n key (rows key) (Some row) (put_row s n row h e)
    go key false e = tt

delete_ok : (s : Schema) (i n : ℕ) (key : List ℕ) (row : Option Row) → OkIs AreRowed (delete_at s i n key row)
delete_ok s i n key None = tt
delete_ok s i n key (Some old) = replaced_ok s n key (Some old) None tt

abbrev IsMade : Option Value → Type 0
IsMade v = IsOption IsSpelled v

in_range : (t : Bool) (v : Value) → (t ≡ true → IsSpelled v) → IsMade (cond t (Some v) None)
in_range true v h = h refl
in_range false v h = tt

number_ok : (kind : Kind) (z : ℤ) → IsMade (number_value kind z)
number_ok kinds.Int32 z = in_range (is_in_range (2 ^ 31) z) (Int32 z) (fits_32 z)
number_ok kinds.Int64 z = in_range (is_in_range (2 ^ 63) z) (Int64 z) (fits_64 z)
number_ok _ z = tt

made_ok : (i : ℕ) (v : Option Value) → IsMade v → OkIs IsSpelled (or_overflow i v)
made_ok i None h = tt
made_ok i (Some v) h = h

sum_ok : (i : ℕ) (kind : Kind) (z : Option ℤ) (is_long : Bool) (by : ℤ) → OkIs IsSpelled (sum_of i kind z is_long by)
sum_ok i kind None is_long by = tt
sum_ok i kind (Some z) true by = tt
sum_ok i kind (Some z) false by = made_ok i (number_value kind (z +ℤ by)) (number_ok kind (z +ℤ by))

add_to_ok : (s : Schema) (i n : ℕ) (t : Table) (key : List ℕ) (property : ℕ) (kind : Kind) (row : Option Row) (by : ℤ) → IsOption IsSpelledRow row → OkIs AreRowed (add_to s i n t key property kind row by)
add_to_ok s i n t key property kind None by h = tt
add_to_ok s i n t key property kind (Some row) by h = then_ok IsSpelled AreRowed (sum_of i kind (number_of kind (values_of row property)) (is_some (long_key s n t row)) by)
    (λ v. Ok (replaced s n key (Some row) (Some (row_set row property v)))) (sum_ok i kind (number_of kind (values_of row property)) (is_some (long_key s n t row)) by)
    (λ v w. replaced_ok s n key (Some row) (Some (row_set row property v)) (set_row row property v h w))

add_in_ok : (s : Schema) (i n : ℕ) (t : Table) (key : List ℕ) (property : ℕ) (p : Option Property) (row : Option Row) (by : ℤ) → IsOption IsSpelledRow row → OkIs AreRowed (add_in s i n t key property p row by)
add_in_ok s i n t key property None row by h = tt
add_in_ok s i n t key property (Some p) row by h = either (OkIs AreRowed) (is_number p.kind p.need && not (is_listed t.primary property)) (add_to s i n t key property p.kind row by) (Err (BadRow i))
    (add_to_ok s i n t key property p.kind row by h) tt

add_ok : (s : Schema) (i n : ℕ) (t : Option Table) (key : List ℕ) (property : ℕ) (row : Option Row) (by : ℤ) → IsOption IsSpelledRow row → OkIs AreRowed (add_at s i n t key property row by)
add_ok s i n None key property row by h = tt
add_ok s i n (Some t) key property row by h = add_in_ok s i n t key property (numbered t.properties property) row by h

change_ok : (s : Schema) (group : List ℕ) (rows : Rows) (i : ℕ) (c : Change) → AreRows rows → IsChange c → OkIs AreRowed (change s group rows i c)
change_ok s group rows i (Put n row) h c = put_ok s group rows i n (numbered s.tables n) row c
change_ok s group rows i (Delete row) h c = then_ok Any AreRowed (key_in s group i row.table row.key) (λ key. delete_at s i row.table key (rows key)) (any_ok (key_in s group i row.table row.key))
    (λ key _. delete_ok s i row.table key (rows key))
change_ok s group rows i (Add row property by) h c = then_ok Any AreRowed (key_in s group i row.table row.key) (λ key. add_at s i row.table (numbered s.tables row.table) key property (rows key) by) (any_ok (key_in s group i row.table row.key))
    (λ key _. add_ok s i row.table (numbered s.tables row.table) key property (rows key) by (h key))

changes_ok : (s : Schema) (group : List ℕ) (rows : Rows) (i : ℕ) (cs : List Change) → AreRows rows → Each IsChange cs → OkIs AreRowed (all_changes s group rows i cs)
changes_ok s group rows i [] h e = tt
changes_ok s group rows i (c ∷ cs) h e = then_ok AreRowed AreRowed (change s group rows i c) (λ writes. all_changes s group (written writes rows) (i + 1) cs >>= λ others. Ok (writes ++ others)) (change_ok s group rows i c h e.0)
    (λ writes w. then_ok AreRowed AreRowed (all_changes s group (written writes rows) (i + 1) cs) (λ others. Ok (writes ++ others)) (changes_ok s group (written writes rows) (i + 1) cs (written_rows writes rows w h) e.1)
    (λ others o. each_both IsRowed writes others w o))

-- ---- the sends of a transaction

abbrev pub IsNamed : Send → Type 0
IsNamed send = IsQueue send.queue

pub named_by : (s : Schema) (send : Send) → IsQueued send → send_fits s send ≡ true → IsNamed send
named_by s send h e = (h, within (length send.queue) (right (is_group s (send.to).key) (is_queue send.queue) e))
  where
    right : (a b : Bool) → (a && b) ≡ true → b ≡ true
    right true b h = h
    right false b h = cc

    within : (n : ℕ) → (nat_le 1 n && nat_le n 64) ≡ true → IsBetween 1 64 n
    within n e = (least n e, most n e)
      where
        least : (n : ℕ) → (nat_le 1 n && nat_le n 64) ≡ true → 1 ≤ n
        least n e = grind (arith, nat_tests)

        most : (n : ℕ) → (nat_le 1 n && nat_le n 64) ≡ true → n ≤ 64
        most n e = grind (arith, nat_tests)

sends_ok : (s : Schema) (i : ℕ) (sends : List Send) → Each IsQueued sends → OkIs (λ _. Each IsNamed sends) (all_sends s i sends)
sends_ok s i [] h = tt
sends_ok s i (send ∷ sends) h = go (send_fits s send) refl (sends_ok s (i + 1) sends h.1)
  where
    more : (r : Result (Unit {0}) Turn) → IsNamed send → OkIs (λ _. Each IsNamed sends) r → OkIs (λ _. Each IsNamed (send ∷ sends)) r
    more (Ok done) n k = (n, k)
    more (Err turn) n k = tt

    go : (b : Bool) → send_fits s send ≡ b → OkIs (λ _. Each IsNamed sends) (all_sends s (i + 1) sends) → OkIs (λ _. Each IsNamed (send ∷ sends)) (cond b (all_sends s (i + 1) sends) (Err (BadRow i)))
    go true e k = more (all_sends s (i + 1) sends) (named_by s send h.0 e) k
    go false e k = tt

-- ---- the outcome of a transaction

pub record IsDone (done : Done) : Type 0 where
  pub writes : Each IsRowed done.writes
  pub sends : Each IsNamed done.sends
  pub short : entry_length done.writes done.sends [] ≤ 32768

at_least : (group : List ℕ) (n : ℕ) (sends : List Send) → n ≤ fold (λ most (send : Send). max most (enter_length group send)) n sends
at_least group n [] = omega arith
at_least group n (send ∷ sends) = grows n (enter_length group send) (fold (λ most (send : Send). max most (enter_length group send)) (max n (enter_length group send)) sends) (at_least group (max n (enter_length group send)) sends)
  where
    grows : (a b c : ℕ) → max a b ≤ c → a ≤ c
    grows a b c le = omega (arith, le)

large_ok : (bytes : ℕ) (done : Done) → (nat_lt most_bytes bytes ≡ false → IsDone done) → OkIs IsDone (unless_large bytes done)
large_ok bytes done h = go (nat_lt most_bytes bytes) h
  where
    go : (t : Bool) → (t ≡ false → IsDone done) → OkIs IsDone (cond t (Err (TooLarge bytes)) (Ok done))
    go true h = tt
    go false h = h refl

within : (a b : ℕ) → nat_lt 32768 b ≡ false → a ≤ b → a ≤ 32768
within a b e le = grind (arith, nat_tests)

pub outcome_ok : (s : Schema) (group : List ℕ) (t : Transaction) (rows : Rows) → AreRows rows → IsTransaction t → OkIs IsDone (outcome_in s group t rows)
outcome_ok s group t rows h f =
    then_ok Any IsDone (all_checks s group rows 0 t.checks) _ (any_ok (all_checks s group rows 0 t.checks)) (λ _ _.
    then_ok Any IsDone (all_reads s group rows (first_read t) t.reads) _ (any_ok (all_reads s group rows (first_read t) t.reads)) (λ replies _.
    then_ok AreRowed IsDone (all_changes s group rows (first_change t) t.writes) _ (changes_ok s group rows (first_change t) t.writes h f.writes) (λ writes w.
    then_ok (λ _. Each IsNamed t.sends) IsDone (all_sends s (first_send t) t.sends) _ (sends_ok s (first_send t) t.sends f.sends) (λ _ named.
    large_ok (longest group writes t.sends) (record { replies = replies; writes = writes; sends = t.sends })
    (λ e. record { writes = w; sends = named; short = within (entry_length writes t.sends []) (longest group writes t.sends) e (at_least group (entry_length writes t.sends []) t.sends) })))))

-- ---- an entry of so many bytes

pub bytes_front : (bytes rest : List ℕ) → length (bytes_text bytes ++ rest) ≡ 4 + length bytes + length rest
bytes_front bytes rest = length-append (bytes_text bytes) rest ∙ ap (λ n. n + length rest) (number_front 4 (length bytes) bytes)

writes_few : (writes : List Write) (n : ℕ) → length (flat_map write_text writes) ≤ n → n ≤ 65536 → Each IsRowed writes → Each IsWrite writes × (length writes ≤ n)
writes_few [] n le most h = (tt, omega arith)
writes_few (write ∷ writes) n le most h =
    let front = length-append (write_text write) (flat_map write_text writes) in
    let own = bytes_front write.key (option_text row_text write.row) in
    let rest : length (flat_map write_text writes) + 4 ≤ n = omega (arith, le, front, own) in
    let least : 4 ≤ n = omega (arith, rest) in
    let more = writes_few writes (length (flat_map write_text writes)) (omega arith) (omega (arith, rest, most)) h.1 in
    let count = more.1 in
    ((((omega arith, omega (arith, le, front, own, most)), row_short write.row h.0 (omega (arith, le, front, own, most))), more.0), omega (arith, rest, count))

sends_few : (sends : List Send) (n : ℕ) → length (flat_map send_text sends) ≤ n → n ≤ 65536 → Each IsNamed sends → Each IsSend sends × (length sends ≤ n)
sends_few [] n le most h = (tt, omega arith)
sends_few (send ∷ sends) n le most h =
    let front = length-append (send_text send) (flat_map send_text sends) in
    let own = bytes_front send.to.key (bytes_text send.queue ++ bytes_text send.payload) in
    let queue = bytes_front send.queue (bytes_text send.payload) in
    let payload = number_front 4 (length send.payload) send.payload in
    let rest : length (flat_map send_text sends) + 12 ≤ n = omega (arith, le, front, own, queue, payload) in
    let more = sends_few sends (length (flat_map send_text sends)) (omega arith) (omega (arith, rest, most)) h.1 in
    let count = more.1 in
    ((((omega arith, omega (arith, le, front, own, queue, payload, most)), h.0, (omega arith, omega (arith, le, front, own, queue, payload, most))), more.0), omega (arith, rest, count))

pub few_writes : (writes : List Write) → length (flat_map write_text writes) ≤ 65536 → Each IsRowed writes → IsList 0 4294967295 IsWrite writes
few_writes writes le h = let all = writes_few writes 65536 le (omega arith) h in let count = all.1 in record { each = all_of_each IsWrite writes all.0; least = omega arith; most = omega (arith, count) }

pub few_sends : (sends : List Send) → length (flat_map send_text sends) ≤ 65536 → Each IsNamed sends → IsList 0 4294967295 IsSend sends
few_sends sends le h = let all = sends_few sends 65536 le (omega arith) h in let count = all.1 in record { each = all_of_each IsSend sends all.0; least = omega arith; most = omega (arith, count) }

-- the entry of an operation that writes and sends these, with these cuts
abbrev own_entry : OpId → List Write → List Send → List Cut → Content
own_entry op writes sends cuts = record { id = Some op; leader = op.node; writes = writes; sends = sends; enters = []; handles = []; cuts = cuts }

pub own_short : (op : OpId) (writes : List Write) (sends : List Send) (cuts : List Cut) → IsSender op → Each IsRowed writes → Each IsNamed sends → HasCuts (own_entry op writes sends cuts) cuts → entry_length writes sends cuts ≤ 32768
    → IsShort (own_entry op writes sends cuts)
own_short op writes sends cuts o w s c le =
    let told = parts (entry_of writes sends [] cuts) in
    let own = parts (own_entry op writes sends cuts) in (
      record {
        id = o.0;
        leader = o.1;
        writes = few_writes writes (omega (arith, told, le)) w;
        sends = few_sends sends (omega (arith, told, le)) s;
        enters = no_items IsEnter;
        handles = no_items IsName;
        cuts = c;
      },
      omega (arith, told, own, le),
    )

pub done_short : (op : OpId) (done : Done) → IsSender op → IsDone done → IsShort (entry_of_done op done)
done_short op done o h = own_short op done.writes done.sends [] o h.writes h.sends tt h.short

pub done_of : (s : Schema) (t : Transaction) (log : List Content) (op : OpId) (done : Done) → IsTransaction t → Each IsShort log → IsSender op → outcome s t (after log no_rows) ≡ Ok done → IsShort (entry_of_done op done)
done_of s t log op done f e o comes = done_short op done o (subst (OkIs IsDone) comes (outcome_ok s t.group.key t (after log no_rows) (after_rows log no_rows e none_rows) f))
