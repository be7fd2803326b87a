-- What the reading of a whole line gives.
use Rattle.std.specs.Prelude.{◌≡◌, ℕ, Bool, true, false, Option, Some, None, Result, Ok, Err, ⊤}
use Rattle.mega_transcript_reader.specs.declared.fault.Found.{Found}
use Rattle.mega_transcript_reader.specs.declared.fault.Found.TheVariants as founds
use Rattle.mega_transcript_reader.specs.declared.fault.ItemFault.{ItemFault}
use Rattle.mega_transcript_reader.specs.declared.fault.ItemFault.TheVariants.{NotItem, NoMemory}

-- the call gave the value, or the offset at which the line is refused, or memory was wanting
abbrev pub Gives : {A : Type 0} → Result A ItemFault → Result A ℕ → Type 0
Gives (Ok x) read = read ≡ Ok x
Gives (Err (NotItem at)) read = read ≡ Err at
Gives (Err NoMemory) read = ⊤

-- what was found is the difference, unless memory was wanting
abbrev pub Finds : Found → Option ℕ → Type 0
Finds founds.Same difference = difference ≡ None
Finds (founds.Differs at) difference = difference ≡ Some at
Finds founds.NoMemory difference = ⊤

abbrev pub is_same : Found → Bool
is_same founds.Same = true
is_same (founds.Differs at) = false
is_same founds.NoMemory = false

abbrev pub fault_of : Found → ItemFault
fault_of founds.Same = NotItem 0
fault_of (founds.Differs at) = NotItem at
fault_of founds.NoMemory = NoMemory
