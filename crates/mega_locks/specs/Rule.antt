-- The rule of one lock: what a cell answers to a node, and what it keeps for it.
use Rattle.std.specs.Prelude.{ℕ, ◌+◌, ◌==◌, ◌&&◌, ◌||◌, Bool, true, false, not, if◌then◌else◌, nat_lt, nat_le, Option, Some, None, unwrap_or}
use Rattle.mega_base.specs.declared.names.Epoch.{Epoch}
pub use Rattle.mega_base.specs.NameOrder.{is_same_epoch as is_same}
use Rattle.mega_locks.specs.declared.lock.Term.{Term}
use Rattle.mega_locks.specs.declared.lock.Lock.{Lock}
use Rattle.mega_locks.specs.declared.lock.Lock.TheVariants.{Free, Held, Ended}
use Rattle.mega_locks.specs.declared.asked.Asked.{Asked}
use Rattle.mega_locks.specs.declared.asked.Asked.TheVariants.{Granted, Renewed, GreaterHeld, Over}

-- epochs are in order of start, then of count
abbrev pub is_above : Epoch → Epoch → Bool
is_above e g = nat_lt g.start e.start || (e.start == g.start && nat_lt g.count e.count)

-- a term is over at each clock reading at or past its end
abbrev pub is_over : Term → ℕ → Bool
is_over term now = nat_le (term.from + term.keep) now

abbrev pub held_epoch : Lock → Option Epoch
held_epoch (Held e renewed) = Some e
held_epoch _ = None

-- an epoch is granted where it is above every epoch granted before, and renewed where it is held
abbrev pub answer : Lock → Epoch → Asked
answer Free e = Granted
answer (Held g renewed) e = if is_above e g then Granted else (if is_same e g then Renewed else GreaterHeld g)
answer (Ended g) e = if is_above e g then Granted else Over g

-- a grant ends what was held before; a grant or a renewal is held, and counts as told
abbrev pub after_answer : Asked → Lock → Epoch → Option Term → Lock
after_answer Granted lock e renewed = Held e renewed
after_answer Renewed lock e renewed = Held e renewed
after_answer _ lock e renewed = lock

abbrev pub asked : Lock → Epoch → Option Term → Lock
asked lock e renewed = after_answer (answer lock e) lock e renewed

-- an epoch of an earlier start, which was held at its end or not; what is held counts from the first tick
abbrev pub opened : Epoch → Bool → Lock
opened e true = Held e None
opened e false = Ended e

-- the log tells of an epoch: the greatest counts, and an epoch that ended stays ended
abbrev pub reopened : Lock → Epoch → Bool → Lock
reopened Free e held = opened e held
reopened (Held g renewed) e held = if is_above e g then opened e held else (if is_same e g && not held then Ended e else Held g renewed)
reopened (Ended g) e held = if is_above e g then opened e held else Ended g

-- the epoch that lapses at a tick: its term is that of its last renewal, or else counts from the first tick
abbrev pub lapse : Term → ℕ → Lock → Option Epoch
lapse first now (Held e renewed) = if is_over (unwrap_or renewed first) now then Some e else None
lapse first now _ = None

abbrev pub after_lapse : Option Epoch → Lock → Lock
after_lapse (Some e) lock = Ended e
after_lapse None lock = lock

abbrev pub ticked : Term → ℕ → Lock → Lock
ticked first now lock = after_lapse (lapse first now lock) lock
