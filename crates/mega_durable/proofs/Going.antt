-- What is staged goes on from what the records hold: to the whole step, and to the step that is cut off once its record is kept.
use Rattle.std.proofs.Common.{◌≡◌, ℕ, suc, ◌+◌, ◌<◌, ◌≤◌, List, [], ◌∷◌, ◌++◌, length, map, Option, Some, None, refl, sym, ap, subst, ◌∙◌, arith}
use Rattle.std.specs.Prelude.{reverse}
use Rattle.std.specs.List.{All, cons_option}
use Rattle.std.proofs.lemmas.List.{length-append, length-reverse, map-append, reverse-append, reverse-reverse}
use Rattle.std.proofs.lemmas.List.Elements.{All-append, All-cons, All-head, All-nil, All-tail}
use Rattle.mega_cluster.specs.declared.cluster.Cluster.{Cluster}
use Rattle.mega_wire.specs.declared.message.Body.{Body}
use Rattle.mega_wire.specs.declared.message.Message.{Message}
use Rattle.mega_wal.specs.declared.item.JournalItem.{JournalItem}
use Rattle.mega_wal.specs.declared.item.JournalItem.TheVariants.{Start, Promise, Accept, Decide, Grant, Lapse, Starts as Counted}
use Rattle.mega_wal.specs.Items.{IsItem}
use Rattle.mega_rules.specs.Clock.{start_of}
use Rattle.mega_rules.specs.Met.{Met, Sends}
use Rattle.mega_rules.specs.Replies.{answer_to, reply_message}
use Rattle.mega_rules.specs.Steps.{Begin, Event, Step, Take, Tick, onto}
use Rattle.mega_voter.specs.Holding.{GoesOn, starts_after}
use Rattle.mega_voter.specs.Journal.{item_in, item_of, journal_of, without_starts}
use Rattle.mega_voter.specs.Telling.{AreHonest}
use Rattle.mega_voter.proofs.Begun.{Beside}
use Rattle.mega_core.specs.of_node_laws.Asking.{Asks}
use Rattle.mega_core.proofs.of_node_laws.Ending.{onto_append}
use Rattle.mega_core.specs.of_step_parts.Staging.{Stages}
use Rattle.mega_promises.specs.Runs.{replies_in}
use Rattle.mega_durable.proofs.Noted.{HasParts}

-- ---- items that are no starts do not count any
shorter : (items : List JournalItem) → length (without_starts items) ≤ length items
shorter [] = omega arith
shorter (Start ∷ items) = let le = shorter items in omega arith
shorter (Counted starts ∷ items) = let le = shorter items in omega arith
shorter (Promise group position ballot ∷ items) = let le = shorter items in omega arith
shorter (Accept group position ballot entry ∷ items) = let le = shorter items in omega arith
shorter (Decide group position entry ∷ items) = let le = shorter items in omega arith
shorter (Grant node epoch ∷ items) = let le = shorter items in omega arith
shorter (Lapse node epoch ∷ items) = let le = shorter items in omega arith

never : (item : JournalItem) (items : List JournalItem) → without_starts items ≡ item ∷ items → ⊥
never item items same = long (length (without_starts items)) (length items) (shorter items) (ap length same)
  where
    long : (a b : ℕ) → a ≤ b → a ≡ suc b → ⊥
    long a b le is = omega arith

rest_of : List JournalItem → List JournalItem
rest_of [] = []
rest_of (item ∷ items) = items

pub none_started : (items : List JournalItem) (starts : ℕ) → without_starts items ≡ items → starts_after items starts ≡ starts
unfolding rest_of
none_started [] starts plain = refl
none_started (Start ∷ items) starts plain = absurd (never Start items plain)
none_started (Counted more ∷ items) starts plain = absurd (never (Counted more) items plain)
none_started (Promise group position ballot ∷ items) starts plain = none_started items starts (ap rest_of plain)
none_started (Accept group position ballot entry ∷ items) starts plain = none_started items starts (ap rest_of plain)
none_started (Decide group position entry ∷ items) starts plain = none_started items starts (ap rest_of plain)
none_started (Grant node epoch ∷ items) starts plain = none_started items starts (ap rest_of plain)
none_started (Lapse node epoch ∷ items) starts plain = none_started items starts (ap rest_of plain)

-- ---- the whole step, and the one that is cut off
pub whole_goes : (staged : List JournalItem) (before met : List Met) → Stages staged before met → start_of met ≡ start_of before → AreHonest met → GoesOn staged (start_of before) before met
whole_goes staged before met stages same honest = record {
  journal = ap without_starts stages.journal;
  later = least (start_of met) (start_of before) (starts_after staged (start_of before)) same (none_started staged (start_of before) stages.plain);
  honest = honest;
}
  where
    least : (a b c : ℕ) → a ≡ b → c ≡ b → a ≤ c
    least a b c one two = omega arith

pub cut_goes : (staged : List JournalItem) (before met cut : List Met) → Stages staged before met → Beside cut met → start_of cut ≡ start_of before → AreHonest met → GoesOn staged (start_of before) before cut
cut_goes staged before met cut stages beside same honest = record {
  journal = beside.journal ∙ ap without_starts stages.journal;
  later = least (start_of cut) (start_of before) (starts_after staged (start_of before)) same (none_started staged (start_of before) stages.plain);
  honest = beside.honest honest;
}
  where
    least : (a b c : ℕ) → a ≡ b → c ≡ b → a ≤ c
    least a b c one two = omega arith

-- ---- what is staged is of the format, and little
all_front : {X : Type 0} (P : X → Type 0) (xs ys : List X) → All P (xs ++ ys) → All P xs
all_front P [] ys h = All-nil P
all_front P (x ∷ xs) ys h = All-cons P x xs (All-head P x (xs ++ ys) h) (all_front P xs ys (All-tail P x (xs ++ ys) h))

all_turned : {X : Type 0} (P : X → Type 0) (xs : List X) → All P xs → All P (reverse xs)
all_turned P [] h = All-nil P
all_turned P (x ∷ xs) h = subst (All P) (sym (reverse-append (x ∷ []) xs)) (All-append P (reverse xs) (x ∷ []) (all_turned P xs (All-tail P x xs h)) (All-cons P x [] (All-head P x xs h) (All-nil P)))

pub staged_formed : (staged : List JournalItem) (before met : List Met) → Stages staged before met → All IsItem (journal_of met) → All IsItem staged
staged_formed staged before met stages each =
    subst (All IsItem) (reverse-reverse staged) (all_turned IsItem (reverse staged) (all_front IsItem (reverse staged) (journal_of before) (subst (All IsItem) stages.journal each)))

pub staged_few : (staged : List JournalItem) (before met : List Met) (most : ℕ) → Stages staged before met → length (journal_of met) ≤ most + length (journal_of before) → length staged ≤ most
staged_few staged before met most stages le =
    few (length staged) (length (journal_of before)) (length (journal_of met)) most
    (ap length stages.journal ∙ (length-append (reverse staged) (journal_of before) ∙ ap (λ n. n + length (journal_of before)) (length-reverse staged))) le
  where
    few : (a b now most : ℕ) → now ≡ a + b → now ≤ most + b → a ≤ most
    few a b now most is le = omega arith

-- ---- how many items a step has
one_option : (found : Option JournalItem) (items : List JournalItem) → length (cons_option found items) ≤ 1 + length items
one_option None items = omega arith
one_option (Some item) items = omega arith

sends_few : (sends : List Message) (met : List Met) → length (journal_of (onto (map Sends sends) met)) ≤ length sends + length (journal_of met)
sends_few [] met = omega arith
sends_few (message ∷ sends) met =
    sum (length sends) (length (journal_of met)) (length (journal_of (Sends message ∷ met))) (length (journal_of (onto (map Sends sends) (Sends message ∷ met))))
    (one_option (item_in message.body) (journal_of met)) (sends_few sends (Sends message ∷ met))
  where
    sum : (n was mid now : ℕ) → mid ≤ 1 + was → now ≤ n + mid → now ≤ suc n + was
    sum n was mid now one more = omega arith

asks_none : (sends : List Message) (met : List Met) → All Asks sends → length (journal_of (onto (map Sends sends) met)) ≡ length (journal_of met)
asks_none [] met asks = refl
asks_none (message ∷ sends) met asks =
    asks_none sends (Sends message ∷ met) (All-tail Asks message sends asks) ∙ ap (λ found. length (cons_option found (journal_of met))) (All-head Asks message sends asks)

one_reply : (me to : ℕ) (reply : Option Body) → length (reply_message me to reply) ≤ 1
one_reply me to None = omega arith
one_reply me to (Some body) = omega arith

pub one_reply_in : (c : Cluster) (me : ℕ) (met : List Met) (event : Event) → length (replies_in c me met event) ≤ 1
one_reply_in c me met (Take m) = one_reply me m.from (answer_to c me met m.from m.body)
one_reply_in c me met (Tick now) = omega arith
one_reply_in c me met (Begin request text) = omega arith

pub made_few : (made : Step) (replies : List Message) (own : Met) (met : List Met) → HasParts made replies → length replies ≤ 1 → item_of met own ≡ None
    → length (journal_of (onto (map Sends made.sends) (onto made.notes (own ∷ met)))) ≤ 11 + length (journal_of met)
made_few made replies own met parts le none =
    sum (length replies) (length (journal_of met)) (length (journal_of (own ∷ met))) (length (journal_of noted)) (length (journal_of (onto (map Sends replies) noted))) (length (journal_of (onto (map Sends made.sends) noted))) le
    (ap (λ found. length (cons_option found (journal_of met))) none) (parts.notes.few (own ∷ met)) (sends_few replies noted)
    (ap (λ (items : List Met). length (journal_of (onto items noted))) (ap (map Sends) parts.sends ∙ map-append Sends replies parts.rest)
    ∙ (ap (λ (all : List Met). length (journal_of all)) (onto_append (map Sends replies) (map Sends parts.rest) noted) ∙ asks_none parts.rest (onto (map Sends replies) noted) parts.asks))
  where
    noted : List Met
    noted = onto made.notes (own ∷ met)

    sum : (n was own noted replied now : ℕ) → n ≤ 1 → own ≡ was → noted ≤ 10 + own → replied ≤ n + noted → now ≡ replied → now ≤ 11 + was
    sum n was own noted replied now le one two three four = omega arith
