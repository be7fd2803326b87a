-- What is told first of several faults.
use Rattle.std.specs.Prelude.{ℕ, Result, Ok, Err}
use Rattle.mega_schedule.specs.declared.verdict.Verdict.{Verdict}
use Rattle.mega_schedule.specs.declared.verdict.Verdict.TheVariants.{Missing, Extra, WrongKind, OutOfRange, Fine}

-- of two verdicts the one that is told: a missing field, then one too many, then a wrong kind, then a range
infixl 10 ◌⊓◌
abbrev pub ◌⊓◌ : Verdict → Verdict → Verdict
Missing ⊓ other = Missing
Fine ⊓ other = other
Extra ⊓ Missing = Missing
Extra ⊓ other = Extra
WrongKind ⊓ Missing = Missing
WrongKind ⊓ Extra = Extra
WrongKind ⊓ other = WrongKind
OutOfRange ⊓ Fine = OutOfRange
OutOfRange ⊓ other = other

-- the reason of a verdict, or the answer where nothing is wrong
abbrev pub judged : {A : Type 0} → Verdict → A → Result A ℕ
judged Missing answer = Err 3
judged Extra answer = Err 6
judged WrongKind answer = Err 4
judged OutOfRange answer = Err 5
judged Fine answer = Ok answer
