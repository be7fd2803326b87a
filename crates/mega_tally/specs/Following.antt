-- What is kept of what all nodes decided. The newest item stands first.
use Rattle.std.specs.Prelude.{◌≡◌, ℕ, max, Bool, false, List}
use Rattle.std.specs.Ordering.{is_eq, nat_cmp, ordering_then}
use Rattle.std.specs.declared.cmp.Ordering.{Ordering}
use Rattle.std.specs.BTreeMap.{BTreeMap, get}
use Rattle.mega_base.specs.declared.names.GroupId.{GroupId}
use Rattle.mega_transcript.specs.declared.item.Item.{Item}
use Rattle.mega_base.specs.Climbing.{climb}
use Rattle.mega_transcript.specs.Counts.{greatest_of, group_cmp, is_decided}
use Rattle.mega_tally.specs.declared.reach.Reach.{Reach}
use Rattle.mega_tally.specs.Reaching.{ReachesOrNone, with_position}

-- a group at a node
abbrev pub Log : Type 0
Log = GroupId × ℕ

abbrev pub log_cmp : Log → Log → Ordering
log_cmp a b = ordering_then (group_cmp a.0 b.0) (nat_cmp a.1 b.1)

abbrev pub Logs : Type 0
Logs = BTreeMap Log Reach

-- one position more is decided of a log, which is decided through this one then
pub record Decides (old new : Logs) (log : Log) (position last : ℕ) : Type 0 where
  pub own : (test : ℕ → Bool) (most : ℕ) → ReachesOrNone (get log_cmp old log) test most → ReachesOrNone (get log_cmp new log) (with_position position test) (max most position)
  pub same : (other : Log) → is_eq (log_cmp log other) ≡ false → get log_cmp new other ≡ get log_cmp old other
  pub through : (test : ℕ → Bool) (most : ℕ) → ReachesOrNone (get log_cmp new log) test most → last ≡ climb test most 0

-- what is kept is what the tape tells
abbrev pub Follows : Logs → List Item → Type 0
Follows logs tape = (log : Log) → ReachesOrNone (get log_cmp logs log) (is_decided tape log.0 log.1) (greatest_of tape log.0 log.1)
