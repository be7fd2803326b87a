-- What a method of the parser gives, against the reading function of its name.
use Rattle.std.specs.Prelude.{◌≡◌, ℕ, Result, Ok, Err}
use Rattle.mega_syntax.specs.declared.parser.Stop.{Stop}
use Rattle.mega_syntax.specs.declared.parser.Stop.TheVariants.{Left, Refused}
use Rattle.mega_syntax.specs.Reading.{Texts, Read}

-- a parser that stopped so stopped where reading does
abbrev pub Fails : {A : Type 0} → Stop → Result A ℕ → Type 0
Fails Refused read = Unit {0}
Fails (Left n) read = read ≡ Err n

-- what was returned is what reading gives, and the parser stands behind it
abbrev pub Reads : {A : Type 0} → Result A Stop → Texts → Read A → Type 0
Reads (Ok x) new read = read ≡ Ok (x, new)
Reads (Err stop) new read = Fails stop read
