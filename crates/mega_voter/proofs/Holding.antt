-- Journals that say the same go on saying the same, and what records hold is recalled by the logs that are opened over them.
use Rattle.std.proofs.Common.{◌≡◌, ◌↔◌, ◌⊎◌, inl, inr, ℕ, ◌+◌, ◌-◌, ◌==◌, ◌<◌, ◌≤◌, ◌^◌, min, Bool, true, false, cond, List, [], ◌∷◌, ◌++◌, length, Option, Some, None, refl, sym, ap, subst, ◌∙◌, arith}
use Rattle.std.specs.Prelude.{reverse, All, is_ok}
use Rattle.std.specs.List.{cons_option, list_all}
use Rattle.std.specs.Ordering.{nat_cmp}
use Rattle.std.specs.BTreeMap.{get}
use Rattle.mega_base.specs.declared.names.GroupId.{GroupId}
use Rattle.mega_disk.specs.Images.{LeavesOnly}
use Rattle.mega_disk.specs.RecordLists.{IsBeforeOrAfter, IsOldOrReplaced}
use Rattle.mega_wire.specs.declared.message.Body.{Body}
use Rattle.mega_wal.specs.declared.item.JournalItem.{JournalItem}
use Rattle.mega_wal.specs.declared.item.JournalItem.TheVariants.{Start, Promise, Accept, Decide, Grant, Lapse, Starts as Counted}
use Rattle.mega_wal.specs.declared.answers.LogFault.{LogFault}
use Rattle.mega_wal.specs.declared.answers.LogFault.TheVariants as fault
use Rattle.mega_wal.specs.declared.kept.Kept.{Kept}
use Rattle.mega_wal.specs.Acceptor.{Act, Promised, Voted, best, greater_ballot, greater_vote, shown}
use Rattle.mega_wal.specs.History.{acts_of, after_grant, after_lapse, decided_of, first_of, granted_of, is_place, starts_at_most, starts_of}
use Rattle.mega_wal.specs.Items.{IsItem, record_text}
use Rattle.mega_wal.specs.Kept.{Holds, Represents, slot_of}
use Rattle.mega_wal.specs.Records.{bad_from, first_bad, flushed, history_of, is_record}
use Rattle.mega_wal.specs.of_acceptor.declared.slot.Slot.{Slot}
use Rattle.mega_wal.proofs.Flushed.{flushed_history, record_again}
use Rattle.mega_wal.proofs.Greatest.{marks_same}
use Rattle.mega_wal.proofs.Loading.{reverse_onto}
use Rattle.mega_rules.specs.Met.{Met, Starts, Sends, Unsends}
use Rattle.mega_rules.specs.Clock.{start_of}
use Rattle.mega_voter.specs.Holding.{Agrees, GoesOn, HoldsIf, HoldsMet, Recalls, starts_after}
use Rattle.mega_voter.specs.Journal.{item_of, journal_of, without_starts}
use Rattle.mega_voter.specs.Telling.{AreHonest, Tells}
use Rattle.mega_voter.proofs.Opened.{granted_without, slots_without, starts_is, starts_most}

-- ---- one item more, in both
slot_with : Slot → (t : Bool) → JournalItem → Slot
slot_with slot true (Promise group position ballot) = record { promised = greater_ballot slot.promised ballot; accepted = slot.accepted; decided = slot.decided }
slot_with slot true (Accept group position ballot entry) = record { promised = greater_ballot slot.promised ballot; accepted = greater_vote slot.accepted ballot entry; decided = slot.decided }
slot_with slot true (Decide group position entry) = record { promised = slot.promised; accepted = slot.accepted; decided = first_of slot.decided entry }
slot_with slot _ _ = slot

abbrev is_at : JournalItem → GroupId → ℕ → Bool
is_at (Promise other position ballot) group n = is_place other position group n
is_at (Accept other position ballot entry) group n = is_place other position group n
is_at (Decide other position entry) group n = is_place other position group n
is_at _ group n = false

slot_more : (item : JournalItem) (items : List JournalItem) (group : GroupId) (n : ℕ) → slot_of (item ∷ items) group n ≡ slot_with (slot_of items group n) (is_at item group n) item
unfolding slot_with
slot_more (Promise other position ballot) items group n = go (is_place other position group n)
  where
    go : (t : Bool) → record { promised = shown (cond t (Promised ballot (best (acts_of items group n)) ∷ acts_of items group n) (acts_of items group n)); accepted = best (cond t (Promised ballot (best (acts_of items group n)) ∷ acts_of items group n) (acts_of items group n)); decided = decided_of items group n } ≡ slot_with (slot_of items group n) t (Promise other position ballot)
    go true = refl
    go false = refl
slot_more (Accept other position ballot entry) items group n = go (is_place other position group n)
  where
    go : (t : Bool) → record { promised = shown (cond t (Voted ballot entry ∷ acts_of items group n) (acts_of items group n)); accepted = best (cond t (Voted ballot entry ∷ acts_of items group n) (acts_of items group n)); decided = decided_of items group n } ≡ slot_with (slot_of items group n) t (Accept other position ballot entry)
    go true = refl
    go false = refl
slot_more (Decide other position entry) items group n = go (is_place other position group n)
  where
    go : (t : Bool) → record { promised = shown (acts_of items group n); accepted = best (acts_of items group n); decided = cond t (first_of (decided_of items group n) entry) (decided_of items group n) } ≡ slot_with (slot_of items group n) t (Decide other position entry)
    go true = refl
    go false = refl
slot_more Start items group n = refl
slot_more (Grant node epoch) items group n = refl
slot_more (Lapse node epoch) items group n = refl
slot_more (Counted starts) items group n = refl

granted_more : (item : JournalItem) (one two : List JournalItem) (node : ℕ) → granted_of one node ≡ granted_of two node → granted_of (item ∷ one) node ≡ granted_of (item ∷ two) node
granted_more (Grant other epoch) one two node same = ap (λ o. cond (other.0 == node) (after_grant o epoch) o) same
granted_more (Lapse other epoch) one two node same = ap (λ o. cond (other.0 == node) (after_lapse o epoch) o) same
granted_more Start one two node same = same
granted_more (Promise group position ballot) one two node same = same
granted_more (Accept group position ballot entry) one two node same = same
granted_more (Decide group position entry) one two node same = same
granted_more (Counted starts) one two node same = same

agree_more : (item : JournalItem) (one two : List JournalItem) → Agrees one two → Agrees (item ∷ one) (item ∷ two)
agree_more item one two same = record {
  slots = λ group n. slot_more item one group n ∙ (ap (λ slot. slot_with slot (is_at item group n) item) (same.slots group n) ∙ sym (slot_more item two group n));
  granted = λ node. granted_more item one two node (same.granted node);
}

-- ---- more items, in both
agree_on : (items one two : List JournalItem) → Agrees one two → Agrees (reverse items ++ one) (reverse items ++ two)
agree_on [] one two same = same
agree_on (item ∷ items) one two same =
    coe 0 1 (i. Agrees (sym (reverse_onto item items one) i) (sym (reverse_onto item items two) i)) (agree_on items (item ∷ one) (item ∷ two) (agree_more item one two same))

agree_then : (one two three : List JournalItem) → Agrees one two → Agrees two three → Agrees one three
agree_then one two three first second = record {
  slots = λ group n. first.slots group n ∙ second.slots group n;
  granted = λ node. first.granted node ∙ second.granted node;
}

agree_without : (one two : List JournalItem) → without_starts one ≡ without_starts two → Agrees one two
agree_without one two same = record {
  slots = λ group n. slots_without one group n ∙ (ap (λ rest. slot_of rest group n) same ∙ sym (slots_without two group n));
  granted = λ node. granted_without one node ∙ (ap (λ rest. granted_of rest node) same ∙ sym (granted_without two node));
}

starts_on : (items before : List JournalItem) → starts_of (reverse items ++ before) ≡ starts_after items (starts_of before)
starts_on [] before = refl
starts_on (Start ∷ items) before = ap starts_of (reverse_onto Start items before) ∙ starts_on items (Start ∷ before)
starts_on (Counted starts ∷ items) before = ap starts_of (reverse_onto (Counted starts) items before) ∙ starts_on items (Counted starts ∷ before)
starts_on (Promise group position ballot ∷ items) before = ap starts_of (reverse_onto (Promise group position ballot) items before) ∙ starts_on items (Promise group position ballot ∷ before)
starts_on (Accept group position ballot entry ∷ items) before = ap starts_of (reverse_onto (Accept group position ballot entry) items before) ∙ starts_on items (Accept group position ballot entry ∷ before)
starts_on (Decide group position entry ∷ items) before = ap starts_of (reverse_onto (Decide group position entry) items before) ∙ starts_on items (Decide group position entry ∷ before)
starts_on (Grant node epoch ∷ items) before = ap starts_of (reverse_onto (Grant node epoch) items before) ∙ starts_on items (Grant node epoch ∷ before)
starts_on (Lapse node epoch ∷ items) before = ap starts_of (reverse_onto (Lapse node epoch) items before) ∙ starts_on items (Lapse node epoch ∷ before)

-- ---- a record more
good_with : (number : ℕ) (records : List (List ℕ)) (body : List ℕ) → bad_from number records ≡ None → is_record body ≡ true → bad_from number (records ++ body ∷ []) ≡ None
good_with number [] body good is = ap (λ t. cond t None (Some number)) is
good_with number (first ∷ records) body good is = go (is_record first) good (good_with (number + 1) records body)
  where
    go : (t : Bool) → cond t (bad_from (number + 1) records) (Some number) ≡ None → (bad_from (number + 1) records ≡ None → is_record body ≡ true → bad_from (number + 1) (records ++ body ∷ []) ≡ None)
        → cond t (bad_from (number + 1) (records ++ body ∷ [])) (Some number) ≡ None
    go true good rest = rest good is
    go false good rest = absurd (cc)

is_few : (n : ℕ) → n ≤ 1000 → n < 2 ^ 32
is_few n le = omega arith

pub holds_with : (records : List (List ℕ)) (items : List JournalItem) (starts : ℕ) (before met : List Met) → All IsItem items → length items ≤ 1000
    → HoldsMet records starts before → GoesOn items starts before met → HoldsMet (records ++ record_text items ∷ []) (starts_after items starts) met
holds_with records items starts before met each few holds goes = record {
  good = good_with 1 records (record_text items) holds.good (ap is_ok (record_again items each (is_few (length items) few)));
  agrees = subst (λ history. Agrees history (journal_of met)) (sym grows) said;
  counted = ap starts_of grows ∙ (starts_on items (history_of records) ∙ ap (starts_after items) holds.counted);
  later = goes.later;
  honest = goes.honest;
}
  where
    grows : history_of (records ++ record_text items ∷ []) ≡ reverse items ++ history_of records
    grows = flushed_history records items each (is_few (length items) few)

    said : Agrees (reverse items ++ history_of records) (journal_of met)
    said = agree_then (reverse items ++ history_of records) (reverse items ++ journal_of before) (journal_of met)
        (agree_on items (history_of records) (journal_of before) holds.agrees)
        (agree_without (reverse items ++ journal_of before) (journal_of met) (sym goes.journal))

pub holds_flushed : (old new : List (List ℕ)) (items : List JournalItem) → All IsItem items → length items ≤ 1000 → new ≡ old ++ flushed items
    → (starts : ℕ) (before met : List Met) → HoldsMet old starts before → GoesOn items starts before met → HoldsMet new (starts_after items starts) met
holds_flushed old new [] each few is starts before met holds goes = record {
  good = ap first_bad same ∙ holds.good;
  agrees = subst (λ records. Agrees (history_of records) (journal_of met)) (sym same) (agree_then (history_of old) (journal_of before) (journal_of met) holds.agrees (agree_without (journal_of before) (journal_of met) (sym goes.journal)));
  counted = ap (λ records. starts_of (history_of records)) same ∙ holds.counted;
  later = goes.later;
  honest = goes.honest;
}
  where
    nothing : (records : List (List ℕ)) → records ++ [] ≡ records
    nothing [] = refl
    nothing (record_ ∷ records) = ap (λ rest. record_ ∷ rest) (nothing records)

    same : new ≡ old
    same = is ∙ nothing old
holds_flushed old new (item ∷ items) each few is starts before met holds goes =
    subst (λ records. HoldsMet records (starts_after (item ∷ items) starts) met) (sym is) (holds_with old (item ∷ items) starts before met each few holds goes)

-- ---- images
leaves_more : {S X : Type 0} (moment : S → ℕ) (since : S → ℕ → X → Type 0) (old new : S) (P Q : X → Type 0) → ((found : X) → P found → Q found) → LeavesOnly moment since old new P → LeavesOnly moment since old new Q
leaves_more {X = X} moment since old new P Q more leaves = record {
  later = leaves.later;
  each = λ found left. more found (leaves.each found left);
  before = λ t found le left. go t found (leaves.before t found le left);
}
  where
    go : (t : ℕ) (found : X) → since old t found ⊎ P found → since old t found ⊎ Q found
    go t found (inl was) = inl was
    go t found (inr is) = inr (more found is)

pub leaves_flushed : {S : Type 0} (moment : S → ℕ) (since : S → ℕ → List (List ℕ) → Type 0) (old new : S) (records : List (List ℕ)) (items : List JournalItem) → All IsItem items → length items ≤ 1000
    → LeavesOnly moment since old new (IsBeforeOrAfter records (record_text items))
    → (starts : ℕ) (before met : List Met) → HoldsMet records starts before → GoesOn items starts before met
    → LeavesOnly moment since old new (λ found. HoldsMet found starts before ⊎ HoldsMet found (starts_after items starts) met)
leaves_flushed moment since old new records items each few leaves starts before met holds goes =
    leaves_more moment since old new (IsBeforeOrAfter records (record_text items)) (λ found. HoldsMet found starts before ⊎ HoldsMet found (starts_after items starts) met) found_is leaves
  where
    found_is : (found : List (List ℕ)) → IsBeforeOrAfter records (record_text items) found → HoldsMet found starts before ⊎ HoldsMet found (starts_after items starts) met
    found_is found (inl is) = inl (subst (λ one. HoldsMet one starts before) (sym is) holds)
    found_is found (inr is) = inr (subst (λ one. HoldsMet one (starts_after items starts) met) (sym is) (holds_with records items starts before met each few holds goes))

-- ---- where a fuse burns in the append
pub cut_flushed : (keeps : Bool) (old new : List (List ℕ)) (items : List JournalItem) → All IsItem items → length items ≤ 1000 → new ≡ cond keeps (old ++ record_text items ∷ []) old
    → (starts : ℕ) (before met : List Met) → HoldsMet old starts before → GoesOn items starts before met → HoldsIf keeps new items starts before met
cut_flushed true old new items each few is starts before met holds goes = subst (λ one. HoldsMet one (starts_after items starts) met) (sym is) (holds_with old items starts before met each few holds goes)
cut_flushed false old new items each few is starts before met holds goes = subst (λ one. HoldsMet one starts before) (sym is) holds

-- ---- one record in place of all
pub holds_replaced : (kept : Kept) (body : List ℕ) → Represents kept (history_of (body ∷ [])) → first_bad (body ∷ []) ≡ None
    → (met : List Met) → Tells kept met → HoldsMet (body ∷ []) (start_of met) met
holds_replaced kept body says good met told = record {
  good = good;
  agrees = record {
    slots = λ group n. sym (says.groups.slots group n) ∙ told.journal.groups.slots group n;
    granted = λ node. sym (says.granted node) ∙ told.journal.granted node;
  };
  counted = sym says.starts ∙ told.start;
  later = omega arith;
  honest = told.honest;
}

pub leaves_replaced : {S : Type 0} (moment : S → ℕ) (since : S → ℕ → List (List ℕ) → Type 0) (old new : S) (kept : Kept) (records : List (List ℕ)) (body : List ℕ)
    → LeavesOnly moment since old new (IsOldOrReplaced records body) → Represents kept (history_of (body ∷ []))
    → (met : List Met) → Tells kept met → HoldsMet records (start_of met) met → first_bad (body ∷ []) ≡ None
    → LeavesOnly moment since old new (λ found. HoldsMet found (start_of met) met)
leaves_replaced moment since old new kept records body leaves says met told holds good =
    leaves_more moment since old new (IsOldOrReplaced records body) (λ found. HoldsMet found (start_of met) met) found_is leaves
  where
    found_is : (found : List (List ℕ)) → IsOldOrReplaced records body found → HoldsMet found (start_of met) met
    found_is found (inl is) = subst (λ one. HoldsMet one (start_of met) met) (sym is) holds
    found_is found (inr is) = subst (λ one. HoldsMet one (start_of met) met) (sym is) (holds_replaced kept body says good met told)

-- ---- what is opened
recalled : (kept : Kept) (items : List JournalItem) (starts : ℕ) (met : List Met) → Represents kept items → Agrees items (journal_of met) → starts_of items ≡ starts → start_of met ≤ starts → AreHonest met → Recalls kept starts met
recalled kept items starts met says same counted later honest = record {
  groups = record {
    slots = λ group n. says.groups.slots group n ∙ same.slots group n;
    marks = λ group. says.groups.marks group ∙ marks_same items (journal_of met) same.slots group;
  };
  granted = λ node. says.granted node ∙ same.granted node;
  counted = says.starts ∙ counted;
  most = subst (λ n. n ≤ 4294967295) counted (starts_most items);
  later = later;
  honest = honest;
}

pub opened_recalls : (kept : Kept) (records : List (List ℕ)) → Represents kept (history_of records) → (starts : ℕ) (met : List Met) → HoldsMet records starts met → Recalls kept starts met
opened_recalls kept records says starts met holds = recalled kept (history_of records) starts met says holds.agrees holds.counted holds.later holds.honest

pub none_bad : (refused : LogFault) (records : List (List ℕ)) → ((n : ℕ) → refused ≡ fault.BadRecord n → first_bad records ≡ Some n)
    → (refused ≡ fault.NoMemory) ⊎ ((n : ℕ) × (refused ≡ fault.BadRecord n)) → (starts : ℕ) (met : List Met) → HoldsMet records starts met → refused ≡ fault.NoMemory
none_bad refused records bad (inl is) starts met holds = is
none_bad refused records bad (inr is) starts met holds = absurd (some_none (sym (bad is.0 is.1) ∙ holds.good))
  where
    some_none : Some is.0 ≡ None → ⊥
    some_none e = cc

pub recalled_told : (kept : Kept) (met : List Met) → Recalls kept (start_of met) met → Tells kept met
recalled_told kept met recalls = record {
  journal = record { groups = recalls.groups; granted = recalls.granted; starts = recalls.counted ∙ (within (start_of met) recalls.most ∙ sym (starts_is met recalls.honest)) };
  honest = recalls.honest;
  start = recalls.counted;
}
  where
    within : (n : ℕ) → n ≤ 4294967295 → n ≡ min n 4294967295
    within n le = omega arith

pub told_recalled : (kept : Kept) (met : List Met) → Tells kept met → Recalls kept (start_of met) met
told_recalled kept met told = record {
  groups = told.journal.groups;
  granted = told.journal.granted;
  counted = told.start;
  most = subst (λ n. n ≤ 4294967295) (sym told.journal.starts ∙ told.start) (starts_most (journal_of met));
  later = omega arith;
  honest = told.honest;
}
