-- What the log holds of a step that is cut off, once its record is kept: the durable notes and the replies, which were not sent.
use Rattle.std.proofs.Common.{◌≡◌, ℕ, ◌&&◌, Bool, true, false, cond, filter, List, [], ◌∷◌, ◌++◌, map, Option, None, refl, sym, ap, subst, ◌∙◌}
use Rattle.std.specs.List.{All, cons_option, list_all}
use Rattle.std.proofs.lemmas.List.{map-append}
use Rattle.std.proofs.lemmas.List.Elements.{All-head, All-tail}
use Rattle.mega_base.specs.declared.names.GroupId.{GroupId}
use Rattle.mega_wire.specs.declared.message.Body.{Body}
use Rattle.mega_wire.specs.declared.message.Body.TheVariants.{Accepted, Promise}
use Rattle.mega_wire.specs.declared.message.Message.{Message}
use Rattle.mega_rules.specs.Clock.{start_of}
use Rattle.mega_rules.specs.Met.{Met, Answers, Applies, Begins, Counts, Crashes, Decides, Forgets, Grants, Invalidates, Lapses, Loses, Sends, Serves, Starts, Takes, Ticks, Unsends, Validates}
use Rattle.mega_rules.specs.Steps.{Step, onto}
use Rattle.mega_rules.specs.Voting.{act_in, act_made, acts, made_of}
use Rattle.mega_voter.specs.Holding.{is_no_start}
use Rattle.mega_voter.specs.Journal.{item_in, item_of, journal_of, without_starts}
use Rattle.mega_voter.specs.Telling.{AreHonest}
use Rattle.mega_voter.proofs.Begun.{Beside, beside_more, start_on}
use Rattle.mega_core.specs.of_node_laws.Asking.{Asks}
use Rattle.mega_core.proofs.of_node_laws.Ending.{onto_append}
use Rattle.mega_promises.specs.Runs.{is_durable, owes}
use Rattle.mega_durable.proofs.Noted.{HasParts, IsNoted, is_noted, passing_unkept}

-- ---- something more in the longer history, of which nothing is kept
abbrev Unmade : Met → Type 0
Unmade one = (group : GroupId) (n : ℕ) → act_made group n (made_of one) ≡ None

beside_past : (one two : List Met) (more : Met) → item_of two more ≡ None → Unmade more → Beside one two → Beside one (more ∷ two)
beside_past one two more unkept unmade beside = record {
  journal = beside.journal ∙ ap (λ found. without_starts (cons_option found (journal_of two))) (sym unkept);
  made = λ group n. beside.made group n ∙ ap (λ found. cons_option found (acts two group n)) (sym (unmade group n));
  honest = λ honest. beside.honest honest.1;
}

noted_unmade : (one : Met) → is_noted one ≡ true → Unmade one
noted_unmade (Starts start) noted = absurd (cc)
noted_unmade (Sends message) noted = absurd (cc)
noted_unmade (Unsends message) noted = absurd (cc)
noted_unmade _ noted = λ group n. refl

noted_no_start : (one : Met) → is_noted one ≡ true → is_no_start one ≡ true
noted_no_start (Starts start) noted = absurd (cc)
noted_no_start _ noted = refl

asking_unmade : (group : GroupId) (n : ℕ) (body : Body) → item_in body ≡ None → act_in group n body ≡ None
asking_unmade group n (Promise op g position ballot report) none = absurd (cc)
asking_unmade group n (Accepted op g position ballot entry) none = absurd (cc)
asking_unmade group n _ none = refl

-- ---- the notes: those that are durable stand in both
beside_notes : (notes one two : List Met) → All IsNoted notes → Beside one two → Beside (onto (filter is_durable notes) one) (onto notes two)
beside_notes [] one two noted beside = beside
beside_notes (note ∷ notes) one two noted beside =
    go (is_durable note) refl (λ one two. beside_notes notes one two (All-tail IsNoted note notes noted))
  where
    is : is_noted note ≡ true
    is = All-head IsNoted note notes noted

    go : (t : Bool) → is_durable note ≡ t → ((one two : List Met) → Beside one two → Beside (onto (filter is_durable notes) one) (onto notes two))
        → Beside (onto (cond t (note ∷ filter is_durable notes) (filter is_durable notes)) one) (onto notes (note ∷ two))
    go true durable rest = rest (note ∷ one) (note ∷ two) (beside_more note one two (noted_no_start note is) beside)
    go false passes rest = rest one (note ∷ two) (beside_past one two note (passing_unkept note is passes two) (noted_unmade note is) beside)

-- ---- the replies: unsent in the one, sent in the other
beside_reply : (message : Message) (one two : List Met) → Beside one two → Beside (Unsends message ∷ one) (Sends message ∷ two)
beside_reply message one two beside = let more = beside_more (Unsends message) one two refl beside in record { journal = more.journal; made = more.made; honest = more.honest }

beside_replies : (replies : List Message) (one two : List Met) → Beside one two → Beside (onto (map Unsends replies) one) (onto (map Sends replies) two)
beside_replies [] one two beside = beside
beside_replies (message ∷ replies) one two beside = beside_replies replies (Unsends message ∷ one) (Sends message ∷ two) (beside_reply message one two beside)

-- ---- what else is sent
beside_rest : (rest : List Message) (one two : List Met) → All Asks rest → Beside one two → Beside one (onto (map Sends rest) two)
beside_rest [] one two asks beside = beside
beside_rest (message ∷ rest) one two asks beside =
    let none = All-head Asks message rest asks in
    beside_rest rest one (Sends message ∷ two) (All-tail Asks message rest asks) (beside_past one two (Sends message) none (λ group n. asking_unmade group n message.body none) beside)

crashed_beside : (own : Met) (met : List Met) → Beside (Crashes ∷ own ∷ met) (own ∷ met)
crashed_beside own met = record { journal = refl; made = λ group n. refl; honest = λ honest. (tt, honest) }

-- ---- a step
pub cut_beside : (made : Step) (replies : List Message) (own : Met) (met : List Met) → HasParts made replies → Beside (onto (owes made replies) (Crashes ∷ own ∷ met)) (onto (map Sends made.sends) (onto made.notes (own ∷ met)))
cut_beside made replies own met parts =
    coe 1 0 (i. Beside (onto_append (filter is_durable made.notes) (map Unsends replies) (Crashes ∷ own ∷ met) i) (all i))
    (beside_rest parts.rest (onto (map Unsends replies) (onto (filter is_durable made.notes) (Crashes ∷ own ∷ met))) (onto (map Sends replies) (onto made.notes (own ∷ met))) parts.asks
    (beside_replies replies (onto (filter is_durable made.notes) (Crashes ∷ own ∷ met)) (onto made.notes (own ∷ met))
    (beside_notes made.notes (Crashes ∷ own ∷ met) (own ∷ met) parts.notes.noted (crashed_beside own met))))
  where
    all : onto (map Sends made.sends) (onto made.notes (own ∷ met)) ≡ onto (map Sends parts.rest) (onto (map Sends replies) (onto made.notes (own ∷ met)))
    all = ap (λ (sends : List Message). onto (map Sends sends) (onto made.notes (own ∷ met))) parts.sends
        ∙ (ap (λ (items : List Met). onto items (onto made.notes (own ∷ met))) (map-append Sends replies parts.rest)
        ∙ onto_append (map Sends replies) (map Sends parts.rest) (onto made.notes (own ∷ met)))

-- ---- none of it is a start
all_true : (t u : Bool) → t ≡ true → u ≡ true → (t && u) ≡ true
all_true true u one two = two
all_true false u one two = one

no_start_both : (first second : List Met) → list_all is_no_start first ≡ true → list_all is_no_start second ≡ true → list_all is_no_start (first ++ second) ≡ true
no_start_both [] second one two = two
no_start_both (item ∷ first) second one two = go (is_no_start item) one (no_start_both first second)
  where
    go : (t : Bool) → (t && list_all is_no_start first) ≡ true → (list_all is_no_start first ≡ true → list_all is_no_start second ≡ true → list_all is_no_start (first ++ second) ≡ true)
        → (t && list_all is_no_start (first ++ second)) ≡ true
    go true one more = more one two
    go false one more = one

notes_no_start : (notes : List Met) → All IsNoted notes → list_all is_no_start notes ≡ true
notes_no_start [] noted = refl
notes_no_start (note ∷ notes) noted = all_true (is_no_start note) (list_all is_no_start notes) (noted_no_start note (All-head IsNoted note notes noted)) (notes_no_start notes (All-tail IsNoted note notes noted))

durable_no_start : (notes : List Met) → All IsNoted notes → list_all is_no_start (filter is_durable notes) ≡ true
durable_no_start [] noted = refl
durable_no_start (note ∷ notes) noted = go (is_durable note) (durable_no_start notes (All-tail IsNoted note notes noted))
  where
    go : (t : Bool) → list_all is_no_start (filter is_durable notes) ≡ true → list_all is_no_start (cond t (note ∷ filter is_durable notes) (filter is_durable notes)) ≡ true
    go true rest = all_true (is_no_start note) (list_all is_no_start (filter is_durable notes)) (noted_no_start note (All-head IsNoted note notes noted)) rest
    go false rest = rest

sends_no_start : (sends : List Message) → list_all is_no_start (map Sends sends) ≡ true
sends_no_start [] = refl
sends_no_start (message ∷ sends) = sends_no_start sends

unsent_no_start : (replies : List Message) → list_all is_no_start (map Unsends replies) ≡ true
unsent_no_start [] = refl
unsent_no_start (message ∷ replies) = unsent_no_start replies

-- so the node is in the same start, whether the step is whole or cut off
pub whole_start : (made : Step) (own : Met) (met : List Met) → All IsNoted made.notes → is_noted own ≡ true → start_of (onto (map Sends made.sends) (onto made.notes (own ∷ met))) ≡ start_of met
whole_start made own met noted is =
    start_on (map Sends made.sends) (onto made.notes (own ∷ met)) (sends_no_start made.sends)
    ∙ (start_on made.notes (own ∷ met) (notes_no_start made.notes noted) ∙ start_on (own ∷ []) met (all_true (is_no_start own) true (noted_no_start own is) refl))

pub cut_start : (made : Step) (replies : List Message) (own : Met) (met : List Met) → All IsNoted made.notes → is_noted own ≡ true → start_of (onto (owes made replies) (Crashes ∷ own ∷ met)) ≡ start_of met
cut_start made replies own met noted is =
    start_on (owes made replies) (Crashes ∷ own ∷ met) (no_start_both (filter is_durable made.notes) (map Unsends replies) (durable_no_start made.notes noted) (unsent_no_start replies))
    ∙ (start_on (own ∷ Crashes ∷ []) met (all_true (is_no_start own) true (noted_no_start own is) refl))
