-- A journal's file between two calls.
use Rattle.std.specs.Prelude.{◌≡◌, ◌≢◌, ◌<◌, ◌++◌, drop, None, ℕ, List, length, take, get_or}
pub use Rattle.mega_disk.specs.Chains.{is_shut}
use Rattle.mega_disk.specs.Images.{Only}
use Rattle.mega_journal.specs.Chain.{chain_of, first_record, records_of, AreShort}

-- the file is the chain of its records, and then a closed gate
pub record IsAtRest (file : List ℕ) (end : ℕ) : Type 0 where
  pub front : take end file ≡ chain_of (records_of file)
  pub place : end ≡ length (chain_of (records_of file))
  pub gate : get_or file end 1 ≢ 1
  pub short : AreShort (records_of file)

-- and all of it is on the disk
pub record IsSettled (file : List ℕ) (may_leave : List ℕ → Type 0) (end : ℕ) : Type 0 where
  pub at_rest : IsAtRest file end
  pub durable : Only file may_leave

-- the file holds the records of one of these images
abbrev pub HoldsAs : (List ℕ → Type 0) → List ℕ → Type 0
HoldsAs images file = (image : List ℕ) × images image × (records_of file ≡ records_of image)

-- a file that was read up to its last gate
pub record IsRead (file : List ℕ) (end : ℕ) : Type 0 where
  pub place : end ≡ length (chain_of (records_of file))
  pub spelled : file ≡ chain_of (records_of file) ++ drop end file
  pub closed : first_record (drop end file) ≡ None
  pub short : AreShort (records_of file)
  pub behind : 0 < length file → end < length file
