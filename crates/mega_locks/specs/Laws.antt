-- What follows from the rule of a cell, in the words of grants and lapses.
use Rattle.std.specs.Prelude.{◌≡◌, ◌≢◌, ℕ, ◌+◌, ◌<◌, ◌==◌, ◌&&◌, Bool, true, false, not, cond, if◌then◌else◌, List, [], ◌∷◌, ◌++◌, Option, Some, None, unwrap_or}
use Rattle.mega_base.specs.declared.names.Epoch.{Epoch}
use Rattle.mega_locks.specs.declared.asked.Asked.{Asked}
use Rattle.mega_locks.specs.declared.asked.Asked.TheVariants.{Granted, Renewed}
use Rattle.mega_locks.specs.declared.lock.Lock.{Lock}
use Rattle.mega_locks.specs.declared.lock.Lock.TheVariants.{Free, Held, Ended}
use Rattle.mega_locks.specs.declared.lock.Term.{Term}
use Rattle.mega_locks.specs.Rule.{answer, is_above, is_over, is_same}
use Rattle.mega_locks.specs.History.{Call, Reopens, Asks, Ticks, first_term, held_for, lapse_for, lock_of, renewal}

-- what a node was given and lost
pub data Mark : Type 0 where
  Grants : (epoch : Epoch) → Mark
  Lapses : (epoch : Epoch) → Mark

-- an epoch of an earlier start was granted in it, and ended in it or is held
abbrev pub opened_marks : Epoch → Bool → List Mark
opened_marks e true = Grants e ∷ []
opened_marks e false = Lapses e ∷ Grants e ∷ []

-- the log tells of an epoch that is new here
abbrev pub opens : Lock → Epoch → Bool
opens Free e = true
opens (Held g renewed) e = is_above e g
opens (Ended g) e = is_above e g

-- the log tells that the held epoch ended
abbrev pub closes : Lock → Epoch → Bool → Bool
closes (Held g renewed) e held = is_same e g && not held
closes _ e held = false

abbrev pub reopened_marks : Lock → Epoch → Bool → List Mark
reopened_marks lock e held = if opens lock e then opened_marks e held else (if closes lock e held then Lapses e ∷ [] else [])

abbrev pub granted_marks : Asked → Epoch → List Mark
granted_marks Granted e = Grants e ∷ []
granted_marks _ e = []

abbrev pub lapsed_marks : Option Epoch → List Mark
lapsed_marks None = []
lapsed_marks (Some e) = Lapses e ∷ []

-- the grants to a node and its lapses, the newest first
abbrev pub marks : List Call → ℕ → List Mark
marks [] node = []
marks (Reopens other epoch held ∷ before) node = if other == node then reopened_marks (lock_of before node) epoch held ++ marks before node else marks before node
marks (Asks other epoch now keep ∷ before) node = if other == node then granted_marks (answer (lock_of before node) epoch) epoch ++ marks before node else marks before node
marks (Ticks now keep ∷ before) node = lapsed_marks (lapse_for before now keep node) ++ marks before node

-- the epoch of the last grant, where no lapse follows it
abbrev pub standing : List Mark → Option Epoch
standing [] = None
standing (Grants e ∷ before) = Some e
standing (Lapses e ∷ before) = None

-- each grant is below this epoch
abbrev pub AllBelow : Epoch → List Mark → Type 0
AllBelow e [] = Unit {0}
AllBelow e (Grants g ∷ before) = (is_above e g ≡ true) × AllBelow e before
AllBelow e (Lapses g ∷ before) = AllBelow e before

-- each grant is above all before it, and each lapse ends the epoch that is held
abbrev pub IsRising : List Mark → Type 0
IsRising [] = Unit {0}
IsRising (Grants e ∷ before) = AllBelow e before × IsRising before
IsRising (Lapses e ∷ before) = (standing before ≡ Some e) × IsRising before

-- how often an epoch was granted
abbrev pub grants : Epoch → List Mark → ℕ
grants e [] = 0
grants e (Grants g ∷ before) = cond (is_same g e) 1 0 + grants e before
grants e (Lapses g ∷ before) = grants e before

-- the answer keeps the epoch that was asked for
abbrev pub is_kept : Asked → Bool
is_kept Granted = true
is_kept Renewed = true
is_kept _ = false

-- what the last grant or renewal of a node counts by, where it came at or after the first tick of this start
abbrev pub last_renewal : List Call → ℕ → Option Term
last_renewal [] node = None
last_renewal (Reopens other epoch held ∷ before) node = if other == node && opens (lock_of before node) epoch then None else last_renewal before node
last_renewal (Asks other epoch now keep ∷ before) node = if other == node && is_kept (answer (lock_of before node) epoch) then renewal before now keep else last_renewal before node
last_renewal (Ticks now keep ∷ before) node = last_renewal before node

-- the held epoch lapses exactly where its time is over, counted from its last renewal, or else from the first tick
abbrev pub due_epoch : List Call → ℕ → ℕ → ℕ → Option Epoch
due_epoch calls now keep node = if is_over (unwrap_or (last_renewal calls node) (first_term calls now keep)) now then held_for calls node else None

-- an epoch that was granted and is no longer held
pub record IsEnded (calls : List Call) (node : ℕ) (e : Epoch) : Type 0 where
  pub granted : 0 < grants e (marks calls node)
  pub ended : held_for calls node ≢ Some e

-- it is not held, and is not granted again where it is asked for
pub record StaysEnded (calls : List Call) (node : ℕ) (e : Epoch) : Type 0 where
  pub not_held : held_for calls node ≢ Some e
  pub not_granted : answer (lock_of calls node) e ≢ Granted
