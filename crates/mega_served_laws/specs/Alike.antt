-- When two histories of a node, or two journals, tell the same of all its starts.
use Rattle.std.specs.Prelude.{◌≡◌, ℕ, List}
use Rattle.mega_base.specs.declared.names.GroupId.{GroupId}
use Rattle.mega_wal.specs.declared.item.JournalItem.{JournalItem}
use Rattle.mega_wal.specs.Acceptor.{best, shown}
use Rattle.mega_wal.specs.History.{acts_of, decided_of, granted_of, newest_of as newest_in, starts_of, top_of as top_in}
use Rattle.mega_rules.specs.Met.{Met}
use Rattle.mega_rules.specs.Locks.{last_grant}
use Rattle.mega_rules.specs.Logs.{decided, groups_of, newest_of, top_of}
use Rattle.mega_rules.specs.Voting.{acts}

-- what was decided, and in which groups; how far groups are accepted or decided; what was promised and accepted; and what was granted last
pub record KeptAlike (a b : List Met) : Type 0 where
  pub decides : (group : GroupId) (n : ℕ) → decided a group n ≡ decided b group n
  pub groups : groups_of a ≡ groups_of b
  pub newest : (group : GroupId) → newest_of a group ≡ newest_of b group
  pub tops : (group : GroupId) → top_of a group ≡ top_of b group
  pub shows : (group : GroupId) (n : ℕ) → shown (acts a group n) ≡ shown (acts b group n)
  pub bests : (group : GroupId) (n : ℕ) → best (acts a group n) ≡ best (acts b group n)
  pub grants : (node : ℕ) → last_grant a node ≡ last_grant b node

-- two journals say the same, of this and of how often their node started
pub record SaySame (a b : List JournalItem) : Type 0 where
  pub decides : (group : GroupId) (n : ℕ) → decided_of a group n ≡ decided_of b group n
  pub newest : (group : GroupId) → newest_in a group ≡ newest_in b group
  pub tops : (group : GroupId) → top_in a group ≡ top_in b group
  pub shows : (group : GroupId) (n : ℕ) → shown (acts_of a group n) ≡ shown (acts_of b group n)
  pub bests : (group : GroupId) (n : ℕ) → best (acts_of a group n) ≡ best (acts_of b group n)
  pub grants : (node : ℕ) → granted_of a node ≡ granted_of b node
  pub starts : starts_of a ≡ starts_of b
