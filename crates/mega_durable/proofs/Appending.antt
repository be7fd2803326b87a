-- A step has one record to append exactly where the rules say that it appends.
use Rattle.std.proofs.Common.{◌≡◌, ℕ, zero, suc, ◌+◌, ◌||◌, Bool, true, false, cond, filter, List, [], ◌∷◌, length, map, None, refl, sym, ap, subst, ◌∙◌, arith}
use Rattle.std.specs.List.{All, cons_option, list_any}
use Rattle.std.proofs.lemmas.List.{length-append, length-reverse}
use Rattle.std.proofs.lemmas.List.Elements.{All-head, All-tail}
use Rattle.mega_wal.specs.declared.item.JournalItem.{JournalItem}
use Rattle.mega_wal.specs.Records.{flushed}
use Rattle.mega_wire.specs.declared.message.Body.{Body}
use Rattle.mega_wire.specs.declared.message.Body.TheVariants.{Accepted, Promise}
use Rattle.mega_wire.specs.declared.message.Message.{Message}
use Rattle.mega_rules.specs.Met.{Met, Decides, Grants, Lapses, Sends, Starts, Unsends}
use Rattle.mega_rules.specs.Operations.{Node, Setting}
use Rattle.mega_rules.specs.Steps.{Event, Step, onto, step}
use Rattle.mega_voter.specs.Journal.{item_in, item_of, journal_of}
use Rattle.mega_core.specs.of_node_laws.Acted.{own_item}
use Rattle.mega_core.proofs.of_node_laws.Ending.{step_met}
use Rattle.mega_core.specs.of_step_parts.Staging.{Stages}
use Rattle.mega_promises.specs.Runs.{appends, is_durable, is_vote}
use Rattle.mega_durable.proofs.Noted.{IsNoted, is_noted, step_parts}
use Rattle.mega_durable.proofs.Upheld.{own_silent}

abbrev one_if : Bool → ℕ
one_if t = cond t 1 0

abbrev is_any : ℕ → Bool
is_any zero = false
is_any (suc n) = true

-- ---- each durable note and each vote is one item
note_counted : (one : Met) (met : List Met) → is_noted one ≡ true → length (journal_of (one ∷ met)) ≡ one_if (is_durable one) + length (journal_of met)
note_counted (Starts start) met noted = absurd (cc)
note_counted (Sends message) met noted = absurd (cc)
note_counted (Unsends message) met noted = absurd (cc)
note_counted (Grants node epoch) met noted = omega arith
note_counted (Lapses node epoch) met noted = omega arith
note_counted (Decides group position entry) met noted = omega arith
note_counted _ met noted = omega arith

vote_counted : (body : Body) (items : List JournalItem) → length (cons_option (item_in body) items) ≡ one_if (is_vote body) + length items
vote_counted (Promise op group position ballot report) items = omega arith
vote_counted (Accepted op group position ballot entry) items = omega arith
vote_counted _ items = omega arith

kept_more : {X : Type 0} (p : X → Bool) (x : X) (xs : List X) → length (filter p (x ∷ xs)) ≡ one_if (p x) + length (filter p xs)
kept_more p x xs = by (p x)
  where
    by : (t : Bool) → length (cond t (x ∷ filter p xs) (filter p xs)) ≡ one_if t + length (filter p xs)
    by true = omega arith
    by false = omega arith

notes_counted : (notes met : List Met) → All IsNoted notes → length (journal_of (onto notes met)) ≡ length (filter is_durable notes) + length (journal_of met)
notes_counted [] met noted = omega arith
notes_counted (note ∷ notes) met noted =
    sum (length (journal_of (onto notes (note ∷ met)))) (length (filter is_durable notes)) (length (journal_of (note ∷ met))) (one_if (is_durable note)) (length (journal_of met)) (length (filter is_durable (note ∷ notes)))
    (notes_counted notes (note ∷ met) (All-tail IsNoted note notes noted)) (note_counted note met (All-head IsNoted note notes noted)) (kept_more is_durable note notes)
  where
    sum : (now rest mid one was all : ℕ) → now ≡ rest + mid → mid ≡ one + was → all ≡ one + rest → now ≡ all + was
    sum now rest mid one was all a b c = omega arith

abbrev votes : Message → Bool
votes message = is_vote message.body

sends_counted : (sends : List Message) (met : List Met) → length (journal_of (onto (map Sends sends) met)) ≡ length (filter votes sends) + length (journal_of met)
sends_counted [] met = omega arith
sends_counted (message ∷ sends) met =
    sum (length (journal_of (onto (map Sends sends) (Sends message ∷ met)))) (length (filter votes sends)) (length (journal_of (Sends message ∷ met))) (one_if (votes message)) (length (journal_of met)) (length (filter votes (message ∷ sends)))
    (sends_counted sends (Sends message ∷ met)) (vote_counted message.body (journal_of met)) (kept_more votes message sends)
  where
    sum : (now rest mid one was all : ℕ) → now ≡ rest + mid → mid ≡ one + was → all ≡ one + rest → now ≡ all + was
    sum now rest mid one was all a b c = omega arith

any_kept : {X : Type 0} (p : X → Bool) (xs : List X) → list_any p xs ≡ is_any (length (filter p xs))
any_kept p [] = refl
any_kept p (x ∷ xs) = by (p x) (any_kept p xs)
  where
    by : (t : Bool) → list_any p xs ≡ is_any (length (filter p xs)) → (t || list_any p xs) ≡ is_any (length (cond t (x ∷ filter p xs) (filter p xs)))
    by true rest = refl
    by false rest = rest

-- ---- one record, where there are items
one_record : (staged : List JournalItem) (sent noted : ℕ) → length staged ≡ sent + noted → length (flushed staged) ≡ one_if (is_any sent || is_any noted)
one_record [] sent noted none = by sent noted none
  where
    by : (sent noted : ℕ) → 0 ≡ sent + noted → 0 ≡ one_if (is_any sent || is_any noted)
    by zero zero none = refl
    by zero (suc noted) none = absurd (omega arith)
    by (suc sent) noted none = absurd (omega arith)
one_record (item ∷ staged) sent noted some = by sent noted some
  where
    by : (sent noted : ℕ) → length (item ∷ staged) ≡ sent + noted → 1 ≡ one_if (is_any sent || is_any noted)
    by zero zero some = absurd (omega arith)
    by zero (suc noted) some = refl
    by (suc sent) noted some = refl

pub step_appends : (s : Setting) (node : Node) (event : Event) (staged : List JournalItem) → Stages staged node.met (step s node event).node.met
    → length (flushed staged) ≡ one_if (appends (step s node event))
step_appends s node event staged stages =
    one_record staged (length (filter votes made.sends)) (length (filter is_durable made.notes)) counted
    ∙ (λ i. one_if (sym (any_kept votes made.sends) i || sym (any_kept is_durable made.notes) i))
  where
    made : Step
    made = step s node event

    noted : List Met
    noted = onto made.notes (own_item s node event ∷ node.met)

    sum : (staged was now sends mid notes own : ℕ) → now ≡ staged + was → now ≡ sends + mid → mid ≡ notes + own → own ≡ was → staged ≡ sends + notes
    sum staged was now sends mid notes own a b c d = omega arith

    counted : length staged ≡ length (filter votes made.sends) + length (filter is_durable made.notes)
    counted =
        sum (length staged) (length (journal_of node.met)) (length (journal_of made.node.met)) (length (filter votes made.sends)) (length (journal_of noted)) (length (filter is_durable made.notes)) (length (journal_of (own_item s node event ∷ node.met)))
        (ap length stages.journal ∙ (length-append _ (journal_of node.met) ∙ ap (λ n. n + length (journal_of node.met)) (length-reverse staged)))
        (ap (λ (met : List Met). length (journal_of met)) (step_met s node event) ∙ sends_counted made.sends noted)
        (notes_counted made.notes (own_item s node event ∷ node.met) (step_parts s node event).notes.noted)
        (ap (λ found. length (cons_option found (journal_of node.met))) (own_silent s node event))
