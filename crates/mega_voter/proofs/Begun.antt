-- A start, whose number is counted on, and what it shows of a step that was cut off before it.
use Rattle.std.proofs.Common.{◌≡◌, ◌↔◌, ℕ, ◌+◌, ◌&&◌, ◌<◌, ◌≤◌, min, Bool, true, false, List, [], ◌∷◌, ◌++◌, Option, Some, None, refl, sym, ap, subst, ◌∙◌, arith}
use Rattle.std.specs.List.{cons_option, list_all}
use Rattle.mega_base.specs.declared.names.GroupId.{GroupId}
use Rattle.mega_wire.specs.declared.message.Message.{Message}
use Rattle.mega_wire.specs.declared.message.Body.{Body}
use Rattle.mega_wire.specs.declared.message.Body.TheVariants.{Accepted, Promise as PromiseBody}
use Rattle.mega_wal.specs.declared.item.JournalItem.{JournalItem}
use Rattle.mega_wal.specs.declared.item.JournalItem.TheVariants.{Start, Promise, Accept, Decide, Grant, Lapse, Starts as Counted}
use Rattle.mega_wal.specs.declared.kept.Kept.{Kept}
use Rattle.mega_wal.specs.Acceptor.{best}
use Rattle.mega_wal.specs.History.{granted_of, starts_at_most, starts_of}
use Rattle.mega_wal.specs.Kept.{Represents, slot_of}
use Rattle.mega_wal.proofs.Greatest.{marks_same}
use Rattle.mega_rules.specs.Met.{Met, Starts, Crashes, Ticks, Begins, Takes, Sends, Unsends, Grants, Lapses, Counts, Forgets, Serves, Loses, Validates, Invalidates, Decides, Applies, Answers}
use Rattle.mega_rules.specs.Clock.{start_of}
use Rattle.mega_rules.specs.Steps.{onto}
use Rattle.mega_rules.specs.Voting.{act_made, acts, made_of}
use Rattle.mega_voter.specs.Holding.{GoesOn, Recalls, is_no_start}
use Rattle.mega_voter.specs.Journal.{item_in, item_of, journal_of, without_starts}
use Rattle.mega_voter.specs.Telling.{AreHonest, IsHonest, MayFollow, Tells}
use Rattle.mega_voter.proofs.Opened.{granted_without, opened_told, slots_without}

-- ---- journals without their starts
without_twice : (items : List JournalItem) → without_starts (without_starts items) ≡ without_starts items
without_twice [] = refl
without_twice (Start ∷ items) = without_twice items
without_twice (Counted starts ∷ items) = without_twice items
without_twice (Promise group position ballot ∷ items) = ap (λ rest. Promise group position ballot ∷ rest) (without_twice items)
without_twice (Accept group position ballot entry ∷ items) = ap (λ rest. Accept group position ballot entry ∷ rest) (without_twice items)
without_twice (Decide group position entry ∷ items) = ap (λ rest. Decide group position entry ∷ rest) (without_twice items)
without_twice (Grant node epoch ∷ items) = ap (λ rest. Grant node epoch ∷ rest) (without_twice items)
without_twice (Lapse node epoch ∷ items) = ap (λ rest. Lapse node epoch ∷ rest) (without_twice items)

none_counted : (items : List JournalItem) → starts_of (without_starts items) ≡ 0
none_counted [] = refl
none_counted (Start ∷ items) = none_counted items
none_counted (Counted starts ∷ items) = none_counted items
none_counted (Promise group position ballot ∷ items) = none_counted items
none_counted (Accept group position ballot entry ∷ items) = none_counted items
none_counted (Decide group position entry ∷ items) = none_counted items
none_counted (Grant node epoch ∷ items) = none_counted items
none_counted (Lapse node epoch ∷ items) = none_counted items

-- ---- what was met but for starts
pub record Beside (one two : List Met) : Type 0 where
  pub journal : without_starts (journal_of one) ≡ without_starts (journal_of two)
  pub made : (group : GroupId) (n : ℕ) → acts one group n ≡ acts two group n
  pub honest : AreHonest two → AreHonest one

said_more : (body : Body) (one two : List JournalItem) → without_starts one ≡ without_starts two → without_starts (cons_option (item_in body) one) ≡ without_starts (cons_option (item_in body) two)
said_more (PromiseBody op group position ballot report) one two same = ap (λ rest. Promise group position ballot ∷ rest) same
said_more (Accepted op group position ballot entry) one two same = ap (λ rest. Accept group position ballot entry ∷ rest) same
said_more _ one two same = same

honest_more : (one two : List Met) (body : Body) → ((group : GroupId) (n : ℕ) → acts one group n ≡ acts two group n) → IsHonest two body → IsHonest one body
honest_more one two (PromiseBody op group position ballot report) made honest = honest ∙ sym (ap best (made group position.0))
honest_more one two _ made honest = tt

made_more : (item : Met) (one two : List Met) → ((group : GroupId) (n : ℕ) → acts one group n ≡ acts two group n) → (group : GroupId) (n : ℕ) → acts (item ∷ one) group n ≡ acts (item ∷ two) group n
made_more item one two made group n = ap (λ rest. cons_option (act_made group n (made_of item)) rest) (made group n)

pub beside_more : (item : Met) (one two : List Met) → is_no_start item ≡ true → Beside one two → Beside (item ∷ one) (item ∷ two)
beside_more (Starts start) one two is beside = absurd (cc)
beside_more (Sends message) one two is beside = record {
  journal = said_more message.body (journal_of one) (journal_of two) beside.journal;
  made = made_more (Sends message) one two beside.made;
  honest = λ honest. (honest_more one two message.body beside.made honest.0, beside.honest honest.1);
}
beside_more (Unsends message) one two is beside = record {
  journal = said_more message.body (journal_of one) (journal_of two) beside.journal;
  made = made_more (Unsends message) one two beside.made;
  honest = λ honest. (honest_more one two message.body beside.made honest.0, beside.honest honest.1);
}
beside_more (Grants node epoch) one two is beside = record {
  journal = ap (λ rest. Grant (record { 0 = node }) epoch ∷ rest) beside.journal;
  made = beside.made;
  honest = λ honest. (tt, beside.honest honest.1);
}
beside_more (Lapses node epoch) one two is beside = record {
  journal = ap (λ rest. Lapse (record { 0 = node }) epoch ∷ rest) beside.journal;
  made = beside.made;
  honest = λ honest. (tt, beside.honest honest.1);
}
beside_more (Decides group position entry) one two is beside = record {
  journal = ap (λ rest. Decide group (record { 0 = position }) entry ∷ rest) beside.journal;
  made = beside.made;
  honest = λ honest. (honest.0, beside.honest honest.1);
}
beside_more Crashes one two is beside = record { journal = beside.journal; made = beside.made; honest = λ honest. (tt, beside.honest honest.1) }
beside_more (Ticks now) one two is beside = record { journal = beside.journal; made = beside.made; honest = λ honest. (tt, beside.honest honest.1) }
beside_more (Begins op text) one two is beside = record { journal = beside.journal; made = beside.made; honest = λ honest. (tt, beside.honest honest.1) }
beside_more (Takes message) one two is beside = record { journal = beside.journal; made = beside.made; honest = λ honest. (tt, beside.honest honest.1) }
beside_more (Counts cell epoch) one two is beside = record { journal = beside.journal; made = beside.made; honest = λ honest. (tt, beside.honest honest.1) }
beside_more (Forgets cell epoch) one two is beside = record { journal = beside.journal; made = beside.made; honest = λ honest. (tt, beside.honest honest.1) }
beside_more (Serves epoch) one two is beside = record { journal = beside.journal; made = beside.made; honest = λ honest. (tt, beside.honest honest.1) }
beside_more (Loses epoch) one two is beside = record { journal = beside.journal; made = beside.made; honest = λ honest. (tt, beside.honest honest.1) }
beside_more (Validates group position) one two is beside = record { journal = beside.journal; made = beside.made; honest = λ honest. (tt, beside.honest honest.1) }
beside_more (Invalidates group position) one two is beside = record { journal = beside.journal; made = beside.made; honest = λ honest. (tt, beside.honest honest.1) }
beside_more (Applies group position) one two is beside = record { journal = beside.journal; made = beside.made; honest = λ honest. (tt, beside.honest honest.1) }
beside_more (Answers op answer) one two is beside = record { journal = beside.journal; made = beside.made; honest = λ honest. (tt, beside.honest honest.1) }

both : (a b : Bool) → (a && b) ≡ true → (a ≡ true) × (b ≡ true)
both true b h = (refl, h)
both false b h = absurd (cc)

beside_on : (owed one two : List Met) → list_all is_no_start owed ≡ true → Beside one two → Beside (onto owed one) (onto owed two)
beside_on [] one two are beside = beside
beside_on (item ∷ owed) one two are beside =
    let parts = both (is_no_start item) (list_all is_no_start owed) are in
    beside_on owed (item ∷ one) (item ∷ two) parts.1 (beside_more item one two parts.0 beside)

-- a start beside none
started : (met : List Met) (start : ℕ) → start_of met ≤ start → Beside (Starts start ∷ met) met
started met start le = record { journal = refl; made = λ group n. refl; honest = λ honest. (le, honest) }

-- the number of the last start is behind what is no start
start_more : (item : Met) (met : List Met) → is_no_start item ≡ true → start_of (item ∷ met) ≡ start_of met
start_more (Starts start) met is = absurd (cc)
start_more _ met is = refl

pub start_on : (owed met : List Met) → list_all is_no_start owed ≡ true → start_of (onto owed met) ≡ start_of met
start_on [] met are = refl
start_on (item ∷ owed) met are =
    let parts = both (is_no_start item) (list_all is_no_start owed) are in
    start_on owed (item ∷ met) parts.1 ∙ start_more item met parts.0

-- ---- a start is counted
pub begun_recalled : (old new : Kept) → old.starts < 4294967295 → ((items : List JournalItem) → Represents old items → Represents new (Start ∷ items))
    → (starts : ℕ) (met owed : List Met) → list_all is_no_start owed ≡ true → Recalls old starts (onto owed met) → Tells new (onto owed (Starts (starts + 1) ∷ met))
begun_recalled old new few notes starts met owed are recalls = opened_told new (Start ∷ items) (onto owed (Starts (starts + 1) ∷ met)) after said (beside.honest recalls.honest) number
  where
    bare : List JournalItem
    bare = without_starts (journal_of (onto owed met))

    items : List JournalItem
    items = Counted starts ∷ without_starts (journal_of (onto owed met))

    slots : (group : GroupId) (n : ℕ) → slot_of (journal_of (onto owed met)) group n ≡ slot_of (Counted starts ∷ without_starts (journal_of (onto owed met))) group n
    slots group n = slots_without (journal_of (onto owed met)) group n

    count : starts_of (Counted starts ∷ without_starts (journal_of (onto owed met))) ≡ starts
    count = ap (λ n. min (n + starts) 4294967295) (none_counted (journal_of (onto owed met))) ∙ within starts recalls.most
      where
        within : (n : ℕ) → n ≤ 4294967295 → min (0 + n) 4294967295 ≡ n
        within n le = omega arith

    before : Represents old (Counted starts ∷ without_starts (journal_of (onto owed met)))
    before = record {
      groups = record {
        slots = λ group n. recalls.groups.slots group n ∙ slots group n;
        marks = λ group. recalls.groups.marks group ∙ marks_same (journal_of (onto owed met)) (Counted starts ∷ without_starts (journal_of (onto owed met))) slots group;
      };
      granted = λ node. recalls.granted node ∙ granted_without (journal_of (onto owed met)) node;
      starts = recalls.counted ∙ sym count;
    }

    after : Represents new (Start ∷ Counted starts ∷ without_starts (journal_of (onto owed met)))
    after = notes (Counted starts ∷ without_starts (journal_of (onto owed met))) before

    later : start_of met ≤ starts + 1
    later = let le = subst (λ n. n ≤ starts) (start_on owed met are) recalls.later in omega arith

    beside : Beside (onto owed (Starts (starts + 1) ∷ met)) (onto owed met)
    beside = beside_on owed (Starts (starts + 1) ∷ met) met are (started met (starts + 1) later)

    said : without_starts (Start ∷ Counted starts ∷ without_starts (journal_of (onto owed met))) ≡ without_starts (journal_of (onto owed (Starts (starts + 1) ∷ met)))
    said = without_twice (journal_of (onto owed met)) ∙ sym beside.journal

    number : new.starts ≡ start_of (onto owed (Starts (starts + 1) ∷ met))
    number = after.starts ∙ (ap (λ n. min (n + 1) 4294967295) count ∙ (least starts (subst (λ n. n < 4294967295) recalls.counted few) ∙ sym (start_on owed (Starts (starts + 1) ∷ met) are)))
      where
        least : (n : ℕ) → n < 4294967295 → min (n + 1) 4294967295 ≡ n + 1
        least n lt = omega arith

-- the record of a start: what is met goes on by it, and where nothing else is met it goes on too
pub start_goes_on : (starts : ℕ) (met owed : List Met) → list_all is_no_start owed ≡ true → starts < 4294967295 → start_of (onto owed met) ≤ starts → AreHonest (onto owed met)
    → GoesOn (Start ∷ []) starts (onto owed met) (onto owed (Starts (starts + 1) ∷ met)) × GoesOn (Start ∷ []) starts (onto owed met) (onto owed met)
start_goes_on starts met owed are few later honest = (
  record {
    journal = beside.journal;
    later = subst (λ n. n ≤ min (starts + 1) 4294967295) (sym (start_on owed (Starts (starts + 1) ∷ met) are)) (omega arith);
    honest = beside.honest honest;
  },
  record { journal = refl; later = omega arith; honest = honest },
)
  where
    beside : Beside (onto owed (Starts (starts + 1) ∷ met)) (onto owed met)
    beside = beside_on owed (Starts (starts + 1) ∷ met) met are (started met (starts + 1) (let le = subst (λ n. n ≤ starts) (start_on owed met are) later in omega arith))
