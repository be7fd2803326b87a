-- What a node met has texts on its log, and a crash leaves what is owed.
use Rattle.std.proofs.Common.{◌≡◌, ℕ, ◌-◌, ◌==◌, cond, true, false, List, [], ◌∷◌, Option, Some, None, refl, ap, ◌∙◌, arith}
use Rattle.std.specs.List.{All, cons_option}
use Rattle.std.specs.Option.{option_to_list}
use Rattle.std.proofs.lemmas.List.Elements.{All-cons, All-head, All-nil}
use Rattle.mega_places.specs.of_leases.Opening.{AreOwed}
use Rattle.mega_wal.specs.declared.item.JournalItem.{JournalItem}
use Rattle.mega_wal.specs.History.{after_grant as granted_of, after_lapse as lapsed_of}
use Rattle.mega_wal.specs.Items.{IsItem as IsKeptItem}
use Rattle.mega_places.specs.of_voter.Journal.{item_in, item_of, journal_of}
use Rattle.mega_places.proofs.of_voter.KeptTells.{sent_fits}
use Rattle.mega_places.specs.of_voter.of_rules.Clock.{start_of}
use Rattle.mega_places.specs.of_voter.of_rules.Locks.{last_grant}
use Rattle.mega_places.specs.of_voter.of_rules.Met.{Met, Starts, Crashes, Ticks, Begins, Takes, Sends, Unsends, Grants, Lapses, Counts, Forgets, Serves, Loses, Validates, Invalidates, Decides, Applies, Answers}
use Rattle.mega_format_laws.specs.Histories.{IsItem, IsMet}

-- ---- what a node met has texts on its log
listed : (item : Option JournalItem) → All IsKeptItem (option_to_list item) → All IsKeptItem (cons_option item [])
listed None each = each
listed (Some item) each = each

front_item : (one : Met) (before : List Met) → IsItem one → All IsKeptItem (cons_option (item_of before one) [])
front_item (Starts start) before is = All-cons IsKeptItem _ [] (small start (start_of before) is) (All-nil IsKeptItem)
  where
    small : (a b : ℕ) → IsItem (Starts a) → IsItem (Starts (a - b))
    small a b is = let low = is.1 in (omega arith, omega (arith, low))
front_item (Sends message) before is = listed (item_in message.body) (sent_fits message.body is.body)
front_item (Unsends message) before is = listed (item_in message.body) (sent_fits message.body is.body)
front_item (Grants node epoch) before is = All-cons IsKeptItem _ [] is (All-nil IsKeptItem)
front_item (Lapses node epoch) before is = All-cons IsKeptItem _ [] is (All-nil IsKeptItem)
front_item (Decides group position entry) before is = All-cons IsKeptItem _ [] is (All-nil IsKeptItem)
front_item Crashes before is = All-nil IsKeptItem
front_item (Ticks now) before is = All-nil IsKeptItem
front_item (Begins op text) before is = All-nil IsKeptItem
front_item (Takes message) before is = All-nil IsKeptItem
front_item (Counts cell epoch) before is = All-nil IsKeptItem
front_item (Forgets cell epoch) before is = All-nil IsKeptItem
front_item (Serves epoch) before is = All-nil IsKeptItem
front_item (Loses epoch) before is = All-nil IsKeptItem
front_item (Validates group position) before is = All-nil IsKeptItem
front_item (Invalidates group position) before is = All-nil IsKeptItem
front_item (Applies group position) before is = All-nil IsKeptItem
front_item (Answers op answer) before is = All-nil IsKeptItem

join_item : (one : Option JournalItem) (items : List JournalItem) → All IsKeptItem (cons_option one []) → All IsKeptItem items → All IsKeptItem (cons_option one items)
join_item None items first rest = rest
join_item (Some item) items first rest = All-cons IsKeptItem item items (All-head IsKeptItem item [] first) rest

pub journal_items : (met : List Met) → IsMet met → All IsKeptItem (journal_of met)
journal_items [] each = All-nil IsKeptItem
journal_items (one ∷ before) each = join_item (item_of before one) (journal_of before) (front_item one before each.0) (journal_items before each.1)

-- a crash leaves what is owed
crash_same : (owed met after : List Met) → ((node : ℕ) → last_grant after node ≡ last_grant met node) → AreOwed owed met → AreOwed owed after
crash_same [] met after same are = tt
crash_same (Lapses node epoch ∷ owed) met after same are =
    (same node ∙ are.0, crash_same owed (Lapses node epoch ∷ met) (Lapses node epoch ∷ after) (λ other. ap (λ last. cond (node == other) (lapsed_of last epoch) last) (same other)) are.1)
crash_same (Grants node epoch ∷ owed) met after same are =
    (are.0, crash_same owed (Grants node epoch ∷ met) (Grants node epoch ∷ after) (λ other. ap (λ last. cond (node == other) (granted_of last epoch) last) (same other)) are.1)
crash_same (Unsends message ∷ owed) met after same are = (are.0, crash_same owed (Unsends message ∷ met) (Unsends message ∷ after) same are.1)
crash_same (Decides group position entry ∷ owed) met after same are = (are.0, crash_same owed (Decides group position entry ∷ met) (Decides group position entry ∷ after) same are.1)
crash_same (Starts start ∷ owed) met after same are = let no : false ≡ true = are.0 in let none : ⊥ = cc in absurd none
crash_same (Crashes ∷ owed) met after same are = let no : false ≡ true = are.0 in let none : ⊥ = cc in absurd none
crash_same (Ticks now ∷ owed) met after same are = let no : false ≡ true = are.0 in let none : ⊥ = cc in absurd none
crash_same (Begins op text ∷ owed) met after same are = let no : false ≡ true = are.0 in let none : ⊥ = cc in absurd none
crash_same (Takes message ∷ owed) met after same are = let no : false ≡ true = are.0 in let none : ⊥ = cc in absurd none
crash_same (Sends message ∷ owed) met after same are = let no : false ≡ true = are.0 in let none : ⊥ = cc in absurd none
crash_same (Counts cell epoch ∷ owed) met after same are = let no : false ≡ true = are.0 in let none : ⊥ = cc in absurd none
crash_same (Forgets cell epoch ∷ owed) met after same are = let no : false ≡ true = are.0 in let none : ⊥ = cc in absurd none
crash_same (Serves epoch ∷ owed) met after same are = let no : false ≡ true = are.0 in let none : ⊥ = cc in absurd none
crash_same (Loses epoch ∷ owed) met after same are = let no : false ≡ true = are.0 in let none : ⊥ = cc in absurd none
crash_same (Validates group position ∷ owed) met after same are = let no : false ≡ true = are.0 in let none : ⊥ = cc in absurd none
crash_same (Invalidates group position ∷ owed) met after same are = let no : false ≡ true = are.0 in let none : ⊥ = cc in absurd none
crash_same (Applies group position ∷ owed) met after same are = let no : false ≡ true = are.0 in let none : ⊥ = cc in absurd none
crash_same (Answers op answer ∷ owed) met after same are = let no : false ≡ true = are.0 in let none : ⊥ = cc in absurd none

pub owed_crashed : (owed met : List Met) → AreOwed owed met → AreOwed owed (Crashes ∷ met)
owed_crashed owed met are = crash_same owed met (Crashes ∷ met) (λ node. refl) are
