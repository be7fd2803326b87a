-- The answer for a text: the schema that it declares, or the first fault.
use Rattle.std.specs.Prelude.{◌≡◌, ℕ, List, [], ◌∷◌, length, Option, Some, None, Result, Ok, Err, if◌then◌else◌}
use Rattle.mega_syntax.specs.declared.token.Token.{Token}
use Rattle.mega_schema.specs.declared.schema.Schema.{Schema}
use Rattle.mega_syntax.specs.declared.words.Placed.{Placed}
use Rattle.mega_syntax.specs.declared.words.SchemaWords.{SchemaWords}
use Rattle.mega_syntax.specs.declared.whole.SchemaText.{SchemaText}
use Rattle.mega_schema.specs.declared.fault.SchemaFault.{SchemaFault}
use Rattle.mega_schema.specs.declared.fault.SchemaFault.TheVariants.{Syntax, Rule, NoMemory}
use Rattle.mega_syntax.specs.Tokens.{texts}
use Rattle.mega_syntax.specs.Grammar.{Spells}
use Rattle.mega_syntax.specs.Whole.{offset, read_of}
use Rattle.mega_schema.specs.Rules.{is_long, broken}
use Rattle.mega_schema.specs.Declare.{declare}

-- the result is the answer, unless memory ran out
abbrev pub Refuses : SchemaFault → Result Schema SchemaFault → Type 0
Refuses NoMemory answer = Unit {0}
Refuses (Syntax at) answer = answer ≡ Err (Syntax at)
Refuses (Rule at rule) answer = answer ≡ Err (Rule at rule)

abbrev pub Gives : Result Schema SchemaFault → Result Schema SchemaFault → Type 0
Gives (Ok s) answer = answer ≡ Ok s
Gives (Err fault) answer = Refuses fault answer

-- a schema of this name that declares nothing
abbrev pub empty : List ℕ → Schema
empty name = record { name = name; tables = []; indexes = [] }

-- the refusal of a statement that breaks a rule, from which on so many tokens are left
abbrev pub refused_or : Option ℕ → ℕ → Result Schema (ℕ × ℕ) → Result Schema (ℕ × ℕ)
refused_or None left after = after
refused_or (Some rule) left after = Err (left, rule)

-- the statements in turn, up to the first that breaks a rule
abbrev pub judge : Schema → List Placed → Result Schema (ℕ × ℕ)
judge s [] = Ok s
judge s (p ∷ ps) = refused_or (broken s p.statement) p.left (judge (declare s p.statement) ps)

-- the first statement, which names the schema, breaks rule 12 by a long name
abbrev pub judge_all : SchemaWords → ℕ → Result Schema (ℕ × ℕ)
judge_all w left = if is_long w.name then Err (left, 12) else judge (empty w.name) w.statements

abbrev pub ruled : List Token → ℕ → Result Schema (ℕ × ℕ) → Result Schema SchemaFault
ruled ts end (Ok s) = Ok s
ruled ts end (Err f) = Err (Rule (offset ts end f.0) f.1)

abbrev pub answer_of : ℕ → Result SchemaText ℕ → Result Schema SchemaFault
answer_of end (Err at) = Err (Syntax at)
answer_of end (Ok r) = ruled r.tokens end (judge_all r.words (length r.tokens))

abbrev pub parse_of : List ℕ → Result Schema SchemaFault
parse_of text = answer_of (length text) (read_of text)

-- What an answer says of the text: Ok, that its tokens spell a schema whose statements break no rule and declare just this; Rule,
-- that they spell one, and which of its statements is the first to break a rule; Syntax, that they spell none.
abbrev pub Tells : List Token → ℕ → Result Schema SchemaFault → Type 0
Tells ts end (Ok s) = (w : SchemaWords) × Spells (texts ts) w × (judge_all w (length ts) ≡ Ok s)
Tells ts end (Err (Rule at rule)) =
    (w : SchemaWords) × (left : ℕ) × Spells (texts ts) w × (judge_all w (length ts) ≡ Err (left, rule)) × (at ≡ offset ts end left)
Tells ts end (Err (Syntax at)) = (w : SchemaWords) → Spells (texts ts) w → ⊥
Tells ts end (Err NoMemory) = Unit {0}
