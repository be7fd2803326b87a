-- What a journal tells of earlier starts is what its node met.
use Rattle.std.proofs.Common.{◌≡◌, ℕ, ◌≤◌, ◌<◌, List, [], ◌∷◌, None, refl, sym, ap, ◌∙◌, arith}
use Rattle.std.specs.Prelude.{All}
use Rattle.std.proofs.lemmas.List.Elements.{All-head, All-tail}
use Rattle.mega_wal.specs.declared.item.JournalItem.{JournalItem}
use Rattle.mega_wal.specs.declared.item.JournalItem.TheVariants.{Start, Promise, Accept, Decide, Grant, Lapse, Starts as Counted}
use Rattle.mega_wal.specs.Acceptor.{best}
use Rattle.mega_wal.specs.History.{granted_of, starts_of}
use Rattle.mega_wal.specs.Items.{IsItem}
use Rattle.mega_wal.specs.Kept.{slot_of}
use Rattle.mega_wal.specs.Records.{first_bad, history_of}
use Rattle.mega_wal.proofs.Formatted.{history_fits}
use Rattle.mega_rules.specs.Clock.{start_of}
use Rattle.mega_voter.specs.Holding.{Agrees, HoldsMet}
use Rattle.mega_voter.specs.Journal.{journal_of, without_starts}
use Rattle.mega_voter.specs.Telling.{AreHonest}
use Rattle.mega_voter.proofs.Folds.{acts_is}
use Rattle.mega_voter.proofs.Opened.{granted_without, slots_without}
use Rattle.mega_promises.specs.NodeRuns.{met_of}

said : (me : ℕ) (items : List JournalItem) → without_starts items ≡ without_starts (journal_of (met_of me items))
said me [] = refl
said me (Start ∷ items) = said me items
said me (Counted starts ∷ items) = said me items
said me (Promise group position ballot ∷ items) = ap (λ more. Promise group position ballot ∷ more) (said me items)
said me (Accept group position ballot entry ∷ items) = ap (λ more. Accept group position ballot entry ∷ more) (said me items)
said me (Decide group position entry ∷ items) = ap (λ more. Decide group position entry ∷ more) (said me items)
said me (Grant node epoch ∷ items) = ap (λ more. Grant node epoch ∷ more) (said me items)
said me (Lapse node epoch ∷ items) = ap (λ more. Lapse node epoch ∷ more) (said me items)

agrees : (me : ℕ) (items : List JournalItem) → Agrees items (journal_of (met_of me items))
agrees me items = record {
  slots = λ group n. slots_without items group n ∙ ap (λ said. slot_of said group n) (said me items) ∙ sym (slots_without (journal_of (met_of me items)) group n);
  granted = λ node. granted_without items node ∙ ap (λ said. granted_of said node) (said me items) ∙ sym (granted_without (journal_of (met_of me items)) node);
}

-- the last start has no greater number than there were starts, as long as these are counted
started : (me : ℕ) (items : List JournalItem) → starts_of items < 4294967295 → start_of (met_of me items) ≤ starts_of items
started me [] few = omega arith
started me (Start ∷ items) few = omega arith
started me (Counted starts ∷ items) few = omega arith
started me (Promise group position ballot ∷ items) few = started me items few
started me (Accept group position ballot entry ∷ items) few = started me items few
started me (Decide group position entry ∷ items) few = started me items few
started me (Grant node epoch ∷ items) few = started me items few
started me (Lapse node epoch ∷ items) few = started me items few

honest : (me : ℕ) (items : List JournalItem) → starts_of items < 4294967295 → All IsItem items → AreHonest (met_of me items)
honest me [] few fits = tt
honest me (Start ∷ items) few fits =
    let fewer : starts_of items < 4294967295 = omega arith in (omega (arith, started me items fewer), honest me items fewer (All-tail IsItem Start items fits))
honest me (Counted starts ∷ items) few fits =
    let fewer : starts_of items < 4294967295 = omega arith in (omega (arith, started me items fewer), honest me items fewer (All-tail IsItem (Counted starts) items fits))
honest me (Promise group position ballot ∷ items) few fits =
    let rest = honest me items few (All-tail IsItem (Promise group position ballot) items fits) in
    (ap (λ slot. slot.accepted) ((agrees me items).slots group position.0) ∙ ap best (acts_is (met_of me items) rest group position.0), rest)
honest me (Accept group position ballot entry ∷ items) few fits = (tt, honest me items few (All-tail IsItem (Accept group position ballot entry) items fits))
honest me (Decide group position entry ∷ items) few fits =
    let one = All-head IsItem (Decide group position entry) items fits in
    (omega (arith, one.1.0.0), honest me items few (All-tail IsItem (Decide group position entry) items fits))
honest me (Grant node epoch ∷ items) few fits = (tt, honest me items few (All-tail IsItem (Grant node epoch) items fits))
honest me (Lapse node epoch ∷ items) few fits = (tt, honest me items few (All-tail IsItem (Lapse node epoch) items fits))

-- records that were found hold what their journal tells
pub found_met : (me : ℕ) (found : List (List ℕ)) → first_bad found ≡ None → starts_of (history_of found) < 4294967295 → HoldsMet found (starts_of (history_of found)) (met_of me (history_of found))
found_met me found good few = record {
  good = good;
  agrees = agrees me (history_of found);
  counted = refl;
  later = started me (history_of found) few;
  honest = honest me (history_of found) few (history_fits found 1 good);
}
