-- What reading a value gives.
use Rattle.std.specs.Prelude.{◌≡◌, ℕ, List, Result, Ok, Err, ⊤}
use Rattle.mega_base.specs.Reading.{Place, Read}
use Rattle.mega_base.specs.declared.fault.FieldFault.{FieldFault}
use Rattle.mega_base.specs.declared.fault.FieldFault.TheVariants.{Malformed, NoMemory}

-- the call gave the value that reading gives, and the new place stands behind it; or reading is refused at that
-- offset; or memory was wanting
abbrev pub Reads : {A : Type 0} → Result A FieldFault → Place → Read A → Type 0
Reads (Ok x) new read = read ≡ Ok (x, new)
Reads (Err (Malformed at)) new read = read ≡ Err at
Reads (Err NoMemory) new read = ⊤

-- the same of a whole text
abbrev pub Gives : {A : Type 0} → Result A FieldFault → Result A ℕ → Type 0
Gives (Ok x) read = read ≡ Ok x
Gives (Err (Malformed at)) read = read ≡ Err at
Gives (Err NoMemory) read = ⊤

-- a fact of the offset at which a text is refused
abbrev pub OnMalformed : {A : Type 0} → Result A FieldFault → (ℕ → Type 0) → Type 0
OnMalformed (Ok x) P = ⊤
OnMalformed (Err (Malformed at)) P = P at
OnMalformed (Err NoMemory) P = ⊤
