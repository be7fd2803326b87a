-- What records, and logs that are opened over them, hold of what a node met.
use Rattle.std.specs.Prelude.{◌≡◌, ℕ, ◌+◌, ◌≤◌, Bool, true, false, List, [], ◌∷◌, ◌++◌, reverse, None}
use Rattle.std.specs.Ordering.{nat_cmp}
use Rattle.std.specs.BTreeMap.{get}
use Rattle.mega_base.specs.declared.names.GroupId.{GroupId}
use Rattle.mega_wal.specs.declared.item.JournalItem.{JournalItem}
use Rattle.mega_wal.specs.declared.item.JournalItem.TheVariants.{Start, Starts as Counted}
use Rattle.mega_wal.specs.declared.kept.Kept.{Kept}
use Rattle.mega_wal.specs.History.{granted_of, starts_at_most, starts_of}
use Rattle.mega_wal.specs.Kept.{Holds, slot_of}
use Rattle.mega_wal.specs.Records.{first_bad, history_of}
use Rattle.mega_rules.specs.Met.{Met, Starts}
use Rattle.mega_rules.specs.Clock.{start_of}
use Rattle.mega_voter.specs.Journal.{journal_of, without_starts}
use Rattle.mega_voter.specs.Telling.{AreHonest}

-- two journals say the same of each place and of each node
pub record Agrees (one two : List JournalItem) : Type 0 where
  pub slots : (group : GroupId) (n : ℕ) → slot_of one group n ≡ slot_of two group n
  pub granted : (node : ℕ) → granted_of one node ≡ granted_of two node

-- records of the format that say what the journal of this says, and that the node started so often: a start that is cut off counts itself,
-- and nothing else is met in it
pub record HoldsMet (records : List (List ℕ)) (starts : ℕ) (met : List Met) : Type 0 where
  pub good : first_bad records ≡ None
  pub agrees : Agrees (history_of records) (journal_of met)
  pub counted : starts_of (history_of records) ≡ starts
  pub later : start_of met ≤ starts
  pub honest : AreHonest met

-- the same of what is kept in memory
pub record Recalls (kept : Kept) (starts : ℕ) (met : List Met) : Type 0 where
  pub groups : Holds kept.groups (journal_of met)
  pub granted : (node : ℕ) → get nat_cmp kept.granted node ≡ granted_of (journal_of met) node
  pub counted : kept.starts ≡ starts
  pub most : starts ≤ 4294967295
  pub later : start_of met ≤ starts
  pub honest : AreHonest met

-- the count of starts behind these items, the oldest first
abbrev pub starts_after : List JournalItem → ℕ → ℕ
starts_after [] starts = starts
starts_after (Start ∷ items) starts = starts_after items (starts_at_most (starts + 1))
starts_after (Counted more ∷ items) starts = starts_after items (starts_at_most (starts + more))
starts_after (_ ∷ items) starts = starts_after items starts

-- what was met says what was met before says, and these items, the oldest first
pub record GoesOn (items : List JournalItem) (starts : ℕ) (before met : List Met) : Type 0 where
  pub journal : without_starts (journal_of met) ≡ without_starts (reverse items ++ journal_of before)
  pub later : start_of met ≤ starts_after items starts
  pub honest : AreHonest met

-- records that hold what was met, where the record of these items is kept, and else what was met before
abbrev pub HoldsIf : Bool → List (List ℕ) → List JournalItem → ℕ → List Met → List Met → Type 0
HoldsIf true records items starts before met = HoldsMet records (starts_after items starts) met
HoldsIf false records items starts before met = HoldsMet records starts before

-- an item that is no start
abbrev pub is_no_start : Met → Bool
is_no_start (Starts start) = false
is_no_start _ = true
