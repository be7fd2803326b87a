-- What a whole text reads as: its tokens and what they spell, or the offset of the first that cannot stand there.
use Rattle.std.specs.Prelude.{◌≡◌, ℕ, ◌-◌, List, length, Some, None, Result, Ok, Err, slice_get}
use Rattle.mega_syntax.specs.declared.token.Token.{Token}
use Rattle.mega_syntax.specs.declared.words.SchemaWords.{SchemaWords}
use Rattle.mega_syntax.specs.declared.whole.SchemaText.{SchemaText}
use Rattle.mega_syntax.specs.declared.whole.SyntaxFault.{SyntaxFault}
use Rattle.mega_syntax.specs.declared.whole.SyntaxFault.TheVariants.{Token as BadToken, NoMemory}
use Rattle.mega_syntax.specs.Tokens.{tokens, texts}
use Rattle.mega_syntax.specs.Reading.{Read, schema_at}
use Rattle.mega_syntax.specs.Grammar.{Spells}

-- where the token begins from which on so many are left: the text's end where none is
abbrev pub offset : List Token → ℕ → ℕ → ℕ
offset ts end left = elim (slice_get ts (length ts - left)) [ None ↦ end | Some t ↦ t.at ]

-- the tokens spell these words
abbrev pub read_with : List Token → SchemaWords → Result SchemaText ℕ
read_with ts w = Ok (record { tokens = ts; words = w })

abbrev pub read_as : List Token → ℕ → Read SchemaWords → Result SchemaText ℕ
read_as ts end (Ok x) = read_with ts x.0
read_as ts end (Err left) = Err (offset ts end left)

abbrev pub read_of : List ℕ → Result SchemaText ℕ
read_of text = read_as (tokens text) (length text) (schema_at (texts (tokens text)))

-- the result is the answer, unless memory ran out
abbrev pub Refuses : SyntaxFault → Result SchemaText ℕ → Type 0
Refuses NoMemory answer = Unit {0}
Refuses (BadToken at) answer = answer ≡ Err at

abbrev pub Yields : Result SchemaText SyntaxFault → Result SchemaText ℕ → Type 0
Yields (Ok r) answer = answer ≡ Ok r
Yields (Err fault) answer = Refuses fault answer

-- what an answer says of the tokens: Ok, what they spell; a fault, that they spell nothing
abbrev pub Tells : List Token → Result SchemaText SyntaxFault → Type 0
Tells ts (Ok r) = (r.tokens ≡ ts) × Spells (texts ts) r.words
Tells ts (Err (BadToken at)) = (w : SchemaWords) → Spells (texts ts) w → ⊥
Tells ts (Err NoMemory) = Unit {0}
