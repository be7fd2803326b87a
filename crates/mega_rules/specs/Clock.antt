-- When a node is up, its clock, and what it does at some ticks only.
use Rattle.std.specs.Prelude.{ℕ, ◌+◌, min, Bool, true, false, if◌then◌else◌, nat_le, List, [], ◌∷◌, Option, Some, None, unwrap_or}
use Rattle.mega_rules.specs.Met.{Met, Starts, Crashes, Ticks, Takes, Begins}
pub use Rattle.mega_base.specs.Names.{greatest_u32 as last_number}

-- a node is up from a start to its next crash
abbrev pub is_up : List Met → Bool
is_up [] = false
is_up (Starts start ∷ before) = true
is_up (Crashes ∷ before) = false
is_up (_ ∷ before) = is_up before

-- the number of the present start, or of the last one; 0 before the first
abbrev pub start_of : List Met → ℕ
start_of [] = 0
start_of (Starts start ∷ before) = start
start_of (_ ∷ before) = start_of before

-- nothing was met since the start but what the start itself shows
abbrev pub is_opening : List Met → Bool
is_opening [] = false
is_opening (Starts start ∷ before) = true
is_opening (Ticks now ∷ before) = false
is_opening (Takes message ∷ before) = false
is_opening (Begins op text ∷ before) = false
is_opening (_ ∷ before) = is_opening before

-- the ticks of this start, the newest first
abbrev pub ticks_of : List Met → List ℕ
ticks_of [] = []
ticks_of (Starts start ∷ before) = []
ticks_of (Ticks now ∷ before) = now ∷ ticks_of before
ticks_of (_ ∷ before) = ticks_of before

-- the clock reads the last tick of this start, and 0 before the first
abbrev pub last_tick : List ℕ → ℕ
last_tick [] = 0
last_tick (now ∷ before) = now

abbrev pub clock_of : List Met → ℕ
clock_of met = last_tick (ticks_of met)

-- the last tick at which a node did what it does at its first tick, and again at each tick at or past the last such one plus retry
abbrev pub is_again : ℕ → ℕ → Option ℕ → Bool
is_again retry now None = true
is_again retry now (Some last) = nat_le (last + retry) now

abbrev pub last_done : ℕ → List ℕ → Option ℕ
last_done retry [] = None
last_done retry (now ∷ before) = if is_again retry now (last_done retry before) then Some now else last_done retry before

abbrev pub does_again : ℕ → List ℕ → ℕ → Bool
does_again retry ticks now = is_again retry now (last_done retry ticks)

-- how many operations were begun in this start, and the number of the next one: the last number stands still
abbrev pub begun_of : List Met → ℕ
begun_of [] = 0
begun_of (Starts start ∷ before) = 0
begun_of (Begins op text ∷ before) = begun_of before + 1
begun_of (_ ∷ before) = begun_of before

abbrev pub next_number : List Met → ℕ
next_number met = min (begun_of met + 1) last_number
