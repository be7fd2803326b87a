-- What a cell was asked, ticked and reopened with, the newest first, and what it keeps then.
use Rattle.std.specs.Prelude.{◌≡◌, ℕ, ◌==◌, Bool, if◌then◌else◌, List, [], ◌∷◌, map, Option, Some, None, unwrap_or, option_map}
use Rattle.mega_base.specs.declared.names.Epoch.{Epoch}
use Rattle.mega_locks.specs.declared.lock.Term.{Term}
use Rattle.mega_locks.specs.declared.lock.Lock.{Lock}
use Rattle.mega_locks.specs.declared.lock.Lock.TheVariants.{Free}
use Rattle.mega_locks.specs.declared.cell.Cell.{Cell}
use Rattle.mega_locks.specs.Rule.{asked, held_epoch, lapse, reopened, ticked}

-- a call of a cell in one start of its node
pub data Call : Type 0 where
  Reopens : (node : ℕ) (epoch : Epoch) (held : Bool) → Call
  Asks : (node : ℕ) (epoch : Epoch) (now keep : ℕ) → Call
  Ticks : (now keep : ℕ) → Call

abbrev pub term : ℕ → ℕ → Term
term now keep = record { from = now; keep = keep }

-- the first tick of this start, and how long it keeps what was held before it
abbrev pub first_tick : List Call → Option Term
first_tick [] = None
first_tick (Ticks now keep ∷ before) = Some (unwrap_or (first_tick before) (term now keep))
first_tick (_ ∷ before) = first_tick before

-- what a grant or a renewal counts by: the clock at or after the first tick, and before it nothing yet
abbrev pub renewal : List Call → ℕ → ℕ → Option Term
renewal calls now keep = option_map (λ _. term now keep) (first_tick calls)

-- what an epoch with no such renewal counts by, at a tick
abbrev pub first_term : List Call → ℕ → ℕ → Term
first_term calls now keep = unwrap_or (first_tick calls) (term now keep)

-- what the cell keeps for a node
abbrev pub lock_of : List Call → ℕ → Lock
lock_of [] node = Free
lock_of (Reopens other epoch held ∷ before) node = if other == node then reopened (lock_of before node) epoch held else lock_of before node
lock_of (Asks other epoch now keep ∷ before) node = if other == node then asked (lock_of before node) epoch (renewal before now keep) else lock_of before node
lock_of (Ticks now keep ∷ before) node = ticked (first_term before now keep) now (lock_of before node)

-- the epoch that is held for a node
abbrev pub held_for : List Call → ℕ → Option Epoch
held_for calls node = held_epoch (lock_of calls node)

-- the epoch of a node that lapses at a tick
abbrev pub lapse_for : List Call → ℕ → ℕ → ℕ → Option Epoch
lapse_for calls now keep node = lapse (first_term calls now keep) now (lock_of calls node)

abbrev pub nodes : List ℕ
nodes = 1 ∷ 2 ∷ 3 ∷ 4 ∷ 5 ∷ 6 ∷ 7 ∷ 8 ∷ 9 ∷ []

-- a cell keeps what these calls leave
pub record Represents (cell : Cell) (calls : List Call) : Type 0 where
  pub locks : cell.locks ≡ map (lock_of calls) nodes
  pub first : cell.first ≡ first_tick calls
