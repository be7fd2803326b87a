-- What the calls that read words give.
use Rattle.std.specs.Prelude.{◌≡◌, ℕ, List, Result, Ok, Err, ⊤}
use Rattle.serde_json.specs.Data.{Data}
use Rattle.serde_json.specs.View.{view}
use Rattle.serde_json.specs.declared.value.Value.{Value as Json}
use Rattle.mega_transcript.specs.Reading.{Read}
use Rattle.mega_transcript_reader.specs.declared.fault.Refusal.{Refusal}
use Rattle.mega_transcript_reader.specs.declared.fault.Refusal.TheVariants.{Word, NoMemory}

-- the call gave the value that reading gives, and these bytes are left; or the same word is refused; or memory was
-- wanting
abbrev pub Takes : {A : Type 0} → Result A Refusal → List ℕ → Read A → Type 0
Takes (Ok x) left read = read ≡ Ok (x, left)
Takes (Err (Word refused)) left read = read ≡ Err refused
Takes (Err NoMemory) left read = ⊤

-- the same of JSON
abbrev pub TakesJson : Result Json Refusal → List ℕ → Read Data → Type 0
TakesJson (Ok value) left read = read ≡ Ok (view value, left)
TakesJson (Err (Word refused)) left read = read ≡ Err refused
TakesJson (Err NoMemory) left read = ⊤

-- the same, where nothing may be left
abbrev pub Tells : {A : Type 0} → Result A Refusal → Result A ℕ → Type 0
Tells (Ok x) read = read ≡ Ok x
Tells (Err (Word left)) read = read ≡ Err left
Tells (Err NoMemory) read = ⊤
