-- What a call leaves of a replica, and of the handlers that it is lent, where it came about and where it failed.
use Rattle.std.specs.Prelude.{◌≡◌, ℕ, List, Option}
use Rattle.mega_disk.specs.declared.versions.StoreError.{StoreError}
use Rattle.mega_disk.specs.declared.versions.Versions.{Ghosts}
use Rattle.mega_handler.specs.Named.{Meaning}
use Rattle.mega_replica.specs.Used.{StoreUsed}
use Rattle.mega_actions.specs.declared.replica.Replica.{Replica}

-- its cluster, its number, its voter and its global indexes, and what the handlers mean; its rows' store fared as its calls and what failed tell
pub record Leaves {R V : Type 0} (store : Ghosts V) (failed : Option StoreError) (meant means : List ℕ → Option Meaning) (old new : Replica R V) : Type 0 where
  pub members : new.members ≡ old.members
  pub me : new.me ≡ old.me
  pub voter : new.voter ≡ old.voter
  pub indexed : new.indexed ≡ old.indexed
  pub used : StoreUsed store failed old.rows.rows new.rows.rows
  pub handlers : means ≡ meant

-- of one that a call leaves whose clauses tell of the indexes and the handlers, the rest
pub record LeavesRest {R V : Type 0} (store : Ghosts V) (failed : Option StoreError) (old new : Replica R V) : Type 0 where
  pub members : new.members ≡ old.members
  pub me : new.me ≡ old.me
  pub voter : new.voter ≡ old.voter
  pub used : StoreUsed store failed old.rows.rows new.rows.rows
