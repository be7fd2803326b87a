-- The entry that handles a message is of the format.
use Rattle.std.proofs.Common.{◌≡◌, ℕ, ◌+◌, ◌≤◌, ◌&&◌, Bool, true, false, cond, List, [], ◌∷◌, ◌++◌, length, length-append, flat_map, Option, Some, None, refl, arith}
use Rattle.std.specs.Prelude.{find, nat_le, nat_lt, is_some}
use Rattle.std.proofs.lemmas.Bool.Decides.{nat_tests}
use Rattle.mega_base.specs.Codec.{bytes_text}
use Rattle.mega_base.specs.declared.names.GroupId.{GroupId}
use Rattle.mega_base.specs.declared.names.OpId.{OpId}
use Rattle.mega_base.specs.declared.values.Row.{Row}
use Rattle.mega_entry.specs.declared.content.Content.{Content}
use Rattle.mega_entry.specs.declared.content.Enter.{Enter}
use Rattle.mega_entry.specs.declared.content.Send.{Send}
use Rattle.mega_entry.specs.declared.content.Write.{Write}
use Rattle.mega_entry.specs.Entries.{IsEnter, IsName, IsSend, IsWrite, enter_text, entry_text, name_text}
use Rattle.mega_schema.specs.declared.schema.Schema.{Schema}
use Rattle.mega_index.specs.Fitted.{enter_length, fitted_sends, fitted_writes, is_kept, kept_write, most_bytes, send_fits, table_of}
use Rattle.mega_index.specs.LocalWrites.{index_writes}
use Rattle.mega_index.specs.Rows.{Listed, Rows, list_after, row_under, written}
use Rattle.mega_handler.specs.Effects.{Effect, entry_handling, handle_entry, handled}
use Rattle.mega_handler.specs.Named.{Meaning, Meanings, effect, effect_by, meaning_of, same_name}
use Rattle.mega_voter.specs.of_rules.Acting.{handling, table_rows}
use Rattle.mega_voter.specs.of_rules.Operations.{Setting}
use Rattle.mega_format_laws.specs.Rounds.{Each, IsSender, IsShort}
use Rattle.mega_format_laws.specs.Requests.{AreHandlers, AreListed, IsEntered, IsQueued, IsRowed, IsSpelledRow}
use Rattle.mega_format_laws.proofs.Each.{each_both, each_filter, either}
use Rattle.mega_format_laws.proofs.Rows.{after_listed, index_rowed}
use Rattle.mega_format_laws.proofs.Texts.{no_items, number_front, one_item, parts}
use Rattle.mega_format_laws.proofs.Outcomes.{IsNamed, bytes_front, few_sends, few_writes, named_by}

-- ---- what of an effect is kept

kept_rowed : (s : Schema) (n : Option ℕ) (rows : Rows) (write : Write) → IsRowed write → Each IsRowed (kept_write s n rows write)
kept_rowed s None rows write h = tt
kept_rowed s (Some n) rows write h = either (Each IsRowed) (is_kept s n write) (write ∷ index_writes s n (rows write.key) write.row) [] (h, index_rowed s n (rows write.key) write.row h) tt

fitted_rowed : (s : Schema) (group : List ℕ) (rows : Rows) (writes : List Write) → Each IsRowed writes → Each IsRowed (fitted_writes s group rows writes)
fitted_rowed s group rows [] h = tt
fitted_rowed s group rows (write ∷ writes) h = each_both IsRowed (kept_write s (table_of s group write.key) rows write) (fitted_writes s group (written (kept_write s (table_of s group write.key) rows write) rows) writes)
    (kept_rowed s (table_of s group write.key) rows write h.0) (fitted_rowed s group (written (kept_write s (table_of s group write.key) rows write) rows) writes h.1)

abbrev IsEffect : Effect → Type 0
IsEffect effect = Each IsRowed effect.0 × Each IsQueued effect.1

-- what fits the schema and the group: the queues have names then
abbrev IsKept : Effect → Type 0
IsKept effect = Each IsRowed effect.0 × Each IsNamed effect.1

named_sends : (s : Schema) (group : List ℕ) (sends : List Send) → Each IsQueued sends → Each IsNamed (fitted_sends s group sends)
named_sends s group [] h = tt
named_sends s group (send ∷ sends) h = go (send_fits s send && nat_le (enter_length group send) most_bytes) refl (named_sends s group sends h.1)
  where
    left : (a b : Bool) → (a && b) ≡ true → a ≡ true
    left true b h = refl
    left false b h = cc

    go : (t : Bool) → (send_fits s send && nat_le (enter_length group send) most_bytes) ≡ t → Each IsNamed (fitted_sends s group sends) → Each IsNamed (cond t (send ∷ fitted_sends s group sends) (fitted_sends s group sends))
    go true e k = (named_by s send h.0 (left (send_fits s send) (nat_le (enter_length group send) most_bytes) e), k)
    go false e k = k

handled_formed : (s : Schema) (group : GroupId) (rows : Listed) (effect : Effect) → IsEffect effect → IsKept (handled s group rows effect)
handled_formed s group rows effect h = (fitted_rowed s group.key (row_under rows) effect.0 h.0, named_sends s group.key effect.1 h.1)

-- what the handlers make of a message
made_formed : (test : List ℕ × Meaning → Bool) (handlers : Meanings) (message : Enter) (rows : Listed) → AreHandlers handlers → IsEnter message → AreListed rows → IsEffect (effect_by (meaning_of (find test handlers)) message rows)
made_formed test [] message rows h m r = (tt, tt)
made_formed test (one ∷ handlers) message rows h m r = go (test one) (made_formed test handlers message rows h.1 m r)
  where
    go : (t : Bool) → IsEffect (effect_by (meaning_of (find test handlers)) message rows) → IsEffect (effect_by (meaning_of (cond t (Some one) (find test handlers))) message rows)
    go true k = h.0 message rows m r
    go false k = k

effect_formed : (handlers : Meanings) (queue : List ℕ) (message : Enter) (rows : Listed) → AreHandlers handlers → IsEnter message → AreListed rows → IsEffect (effect handlers queue message rows)
effect_formed handlers queue message rows h m r = made_formed (λ (one : List ℕ × Meaning). same_name one.0 queue) handlers message rows h m r

-- ---- the entry

-- a mark alone is no longer than the message that it marks
name_length : (enter : Enter) → length (name_text enter.name) + 9 ≤ length (enter_text enter) → length (enter_text enter) + 19 ≤ 65536 → length (flat_map name_text (enter.name ∷ [])) + 28 ≤ 65536
name_length enter le most = let one = length-append (name_text enter.name) [] in omega (arith, le, most, one)

enter_longer : (enter : Enter) → 1 ≤ length enter.queue → length (name_text enter.name) + 9 ≤ length (enter_text enter)
enter_longer enter some =
    let front = length-append (name_text enter.name) (bytes_text enter.queue ++ bytes_text enter.payload) in
    let queue = bytes_front enter.queue (bytes_text enter.payload) in
    let payload = number_front 4 (length enter.payload) enter.payload in
    omega (arith, front, queue, payload, some)

marks : (op : OpId) (enter : Enter) → IsSender op → IsEntered enter → IsShort (entry_handling op enter.name ([], []))
marks op enter o h =
    let queue = (((h.message).1).1).0 in
    let le = name_length enter (enter_longer enter queue) h.short in (
      record {
        id = o.0;
        leader = o.1;
        writes = no_items IsWrite;
        sends = no_items IsSend;
        enters = no_items IsEnter;
        handles = one_item IsName enter.name (h.message).0;
        cuts = tt;
      },
      omega (arith, parts (entry_handling op enter.name ([], [])), le),
    )

does : (op : OpId) (enter : Enter) (effect : Effect) → IsSender op → IsEntered enter → IsKept effect → nat_lt most_bytes (length (entry_text (entry_handling op enter.name effect))) ≡ false → IsShort (entry_handling op enter.name effect)
does op enter effect o h e short =
    let own = parts (entry_handling op enter.name effect) in
    let le = few (length (entry_text (entry_handling op enter.name effect))) short in (
      record {
        id = o.0;
        leader = o.1;
        writes = few_writes effect.0 (omega (arith, own, le)) e.0;
        sends = few_sends effect.1 (omega (arith, own, le)) e.1;
        enters = no_items IsEnter;
        handles = one_item IsName enter.name (h.message).0;
        cuts = tt;
      },
      omega (arith, le),
    )
  where
    few : (n : ℕ) → nat_lt 32768 n ≡ false → n ≤ 32768
    few n e = grind (arith, nat_tests)

handle_short : (op : OpId) (enter : Enter) (effect : Effect) → IsSender op → IsEntered enter → IsKept effect → IsShort (handle_entry op enter.name effect)
handle_short op enter effect o h e = go (nat_lt most_bytes (length (entry_text (entry_handling op enter.name effect)))) refl
  where
    go : (t : Bool) → nat_lt most_bytes (length (entry_text (entry_handling op enter.name effect))) ≡ t → IsShort (cond t (entry_handling op enter.name ([], [])) (entry_handling op enter.name effect))
    go true is = marks op enter o h
    go false is = does op enter effect o h e is

pub handling_short : (s : Setting) (op : OpId) (group : GroupId) (enter : Enter) (log : List Content) → AreHandlers s.handlers → IsSender op → IsEntered enter → Each IsShort log
    → IsShort (handling s op group enter (table_rows s.cluster.schema group (list_after log [])))
handling_short s op group enter log a o h e =
    handle_short op enter (handled s.cluster.schema group (table_rows s.cluster.schema group (list_after log [])) (effect s.handlers enter.queue enter (table_rows s.cluster.schema group (list_after log [])))) o h
    (handled_formed s.cluster.schema group (table_rows s.cluster.schema group (list_after log [])) (effect s.handlers enter.queue enter (table_rows s.cluster.schema group (list_after log [])))
    (effect_formed s.handlers enter.queue enter (table_rows s.cluster.schema group (list_after log [])) a h.message
    (each_filter (λ (one : List ℕ × Row). IsSpelledRow one.1) (λ (one : List ℕ × Row). is_some (table_of s.cluster.schema group.key one.0)) (list_after log []) (after_listed log [] e tt))))
