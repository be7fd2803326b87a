-- What the records hold once the record of a start is there: the node that the rules start.
use Rattle.std.proofs.Common.{◌≡◌, ◌⊎◌, inl, inr, ℕ, ◌+◌, ◌<◌, ◌≤◌, min, true, List, [], ◌∷◌, None, refl, sym, ap, subst, ◌∙◌, arith}
use Rattle.std.specs.List.{All, list_all}
use Rattle.std.proofs.lemmas.List.Elements.{All-head, All-tail, All-weaker}
use Rattle.mega_wal.specs.declared.item.JournalItem.{JournalItem}
use Rattle.mega_wal.specs.declared.item.JournalItem.TheVariants.{Start}
use Rattle.mega_rules.specs.Clock.{start_of}
use Rattle.mega_rules.specs.Met.{Met, Starts}
use Rattle.mega_rules.specs.Operations.{Setting}
use Rattle.mega_rules.specs.Steps.{onto, start, start_items, start_notes}
use Rattle.mega_voter.specs.Holding.{GoesOn, HoldsMet, is_no_start, starts_after}
use Rattle.mega_voter.specs.Telling.{AreHonest}
use Rattle.mega_voter.specs.Journal.{item_of}
use Rattle.mega_voter.proofs.Begun.{start_on}
use Rattle.mega_voter.proofs.Held.{silent_held}
use Rattle.mega_voter.proofs.KeptTells.{silent_start}
use Rattle.mega_core.proofs.of_node_laws.Ending.{onto_append}
use Rattle.mega_core.proofs.Anew.{notes_quiet}
use Rattle.mega_core.proofs.Silent.{IsMute, IsQuiet}
use Rattle.mega_promises.specs.Runs.{AsItWas, Recorded}
use Rattle.mega_durable.specs.Cut.{MayLeaveStart}

held_on : (records : List (List ℕ)) (starts : ℕ) (items met : List Met) → All IsMute items → HoldsMet records starts met → HoldsMet records starts (onto items met)
held_on records starts [] met mute holds = holds
held_on records starts (item ∷ items) met mute holds =
    held_on records starts items (item ∷ met) (All-tail IsMute item items mute) ((silent_held records starts met item ((All-head IsMute item items mute).unkept met)).0 holds)

start_stays : (items met : List Met) → All IsMute items → start_of (onto items met) ≡ start_of met
start_stays [] met mute = refl
start_stays (item ∷ items) met mute = start_stays items (item ∷ met) (All-tail IsMute item items mute) ∙ silent_start met item ((All-head IsMute item items mute).unkept met)

pub started_holds : (s : Setting) (starts : ℕ) (met owed : List Met) (records : List (List ℕ)) → list_all is_no_start owed ≡ true → starts < 4294967295
    → HoldsMet records (starts_after (Start ∷ []) starts) (onto owed (Starts (starts + 1) ∷ met))
    → HoldsMet records (start_of (start s (starts + 1) owed met).met) (start s (starts + 1) owed met).met
started_holds s starts met owed records are few holds =
    coe 0 1 (i. HoldsMet records (number i) (sym all i)) (held_on records (starts_after (Start ∷ []) starts) notes now mute holds)
  where
    now : List Met
    now = onto owed (Starts (starts + 1) ∷ met)

    notes : List Met
    notes = start_notes s now

    mute : All IsMute notes
    mute = All-weaker IsQuiet IsMute (λ one quiet. quiet.mute) notes (notes_quiet s now)

    all : onto (start_items s (starts + 1) owed met) met ≡ onto notes now
    all = onto_append (Starts (starts + 1) ∷ owed) notes met

    least : (n : ℕ) → n < 4294967295 → min (n + 1) 4294967295 ≡ n + 1
    least n lt = omega arith

    number : starts_after (Start ∷ []) starts ≡ start_of (onto (start_items s (starts + 1) owed met) met)
    number = least starts few ∙ sym (ap start_of all ∙ (start_stays notes now mute ∙ start_on owed (Starts (starts + 1) ∷ met) are))

-- ---- a start that is cut off
pub least_start : (starts : ℕ) → starts < 4294967295 → starts_after (Start ∷ []) starts ≡ starts + 1
least_start starts few = least starts few
  where
    least : (n : ℕ) → n < 4294967295 → min (n + 1) 4294967295 ≡ n + 1
    least n lt = omega arith

-- its record says that the node started once more, and nothing else
pub same_goes : (starts : ℕ) (met : List Met) (items : List JournalItem) → items ≡ Start ∷ [] → starts < 4294967295 → start_of met ≤ starts → AreHonest met → GoesOn items starts met met
same_goes starts met items one few later honest =
    subst (λ (items : List JournalItem). GoesOn items starts met met) (sym one) (record { journal = refl; later = more (start_of met) starts later few; honest = honest })
  where
    more : (a n : ℕ) → a ≤ n → n < 4294967295 → a ≤ min (n + 1) 4294967295
    more a n le lt = omega arith

pub left_by_start : (starts : ℕ) (met : List Met) (items : List JournalItem) (found : List (List ℕ)) → items ≡ Start ∷ [] → starts < 4294967295
    → HoldsMet found starts met ⊎ HoldsMet found (starts_after items starts) met → MayLeaveStart starts met found
left_by_start starts met items found one few (inl holds) = (AsItWas, holds)
left_by_start starts met items found one few (inr holds) =
    (Recorded, subst (λ (n : ℕ). HoldsMet found n met) (ap (λ (items : List JournalItem). starts_after items starts) one ∙ least_start starts few) holds)
