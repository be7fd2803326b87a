-- Which things that a node meets decide an entry, and that two histories decide the same.
use Rattle.std.specs.Prelude.{◌≡◌, ℕ, Bool, true, false, List}
use Rattle.mega_base.specs.declared.names.GroupId.{GroupId}
use Rattle.mega_voter.specs.of_rules.Met.{Met, Decides}
use Rattle.mega_voter.specs.of_rules.Logs.{decided, groups_of, log_of, newest_of, prefix_of}

abbrev pub is_decision : Met → Bool
is_decision (Decides group position entry) = true
is_decision _ = false

abbrev pub IsNoDecision : Met → Type 0
IsNoDecision one = is_decision one ≡ false

-- the same is decided, and the logs are the same
pub record SameLogs (old new : List Met) : Type 0 where
  pub decisions : (group : GroupId) (n : ℕ) → decided new group n ≡ decided old group n
  pub logs : (group : GroupId) → log_of new group ≡ log_of old group
  pub prefixes : (group : GroupId) → prefix_of new group ≡ prefix_of old group
  pub newest : (group : GroupId) → newest_of new group ≡ newest_of old group
  pub groups : groups_of new ≡ groups_of old
