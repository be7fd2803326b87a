-- From the exact answer to what it says of the text.
use Rattle.std.proofs.Common.{◌≡◌, ℕ, List, length, refl, sym, ap, ◌∙◌, subst, Result, Ok, Err}
use Rattle.mega_syntax.specs.declared.token.Token.{Token}
use Rattle.mega_syntax.specs.declared.words.SchemaWords.{SchemaWords}
use Rattle.mega_syntax.specs.declared.whole.SchemaText.{SchemaText}
use Rattle.mega_syntax.specs.declared.whole.SyntaxFault.{SyntaxFault}
use Rattle.mega_syntax.specs.declared.whole.SyntaxFault.TheVariants.{Token as BadToken, NoMemory}
use Rattle.mega_syntax.specs.Tokens.{tokens, texts}
use Rattle.mega_syntax.specs.Reading.{Read, schema_at}
use Rattle.mega_syntax.specs.Grammar.{Spells}
use Rattle.mega_syntax.specs.Whole.{read_with, read_as, read_of, Yields, Tells}
use Rattle.mega_syntax.proofs.Takes.{schema_taken}
use Rattle.mega_syntax.proofs.Again.{schema_again}

pub yields_by : (result : Result SchemaText SyntaxFault) (answer other : Result SchemaText ℕ) → Yields result answer → answer ≡ other → Yields result other
yields_by result answer other h e = let P : Result SchemaText ℕ → Type 0 = λ a. Yields result a in subst P e h

-- what is spelled is read again
pub read_again : (text : List ℕ) (w : SchemaWords) → Spells (texts (tokens text)) w → read_of text ≡ read_with (tokens text) w
read_again text w h = ap (read_as (tokens text) (length text)) (schema_again (texts (tokens text)) w h)

read_tells : (ts : List Token) (end : ℕ) (read : Read SchemaWords) (result : Result SchemaText SyntaxFault) → schema_at (texts ts) ≡ read → Yields result (read_as ts end read) → Tells ts result
read_tells ts end (Ok x) (Ok r) e h =
    let same : record { tokens = ts; words = x.0 } ≡ r = cc in
    (ap (λ (t : SchemaText). t.tokens) (sym same), subst (λ (t : SchemaText). Spells (texts ts) t.words) same (schema_taken (texts ts) x.0 x.1 e))
read_tells ts end (Err n) (Ok r) e h = absurd (cc)
read_tells ts end (Ok x) (Err (BadToken at)) e h = absurd (cc)
read_tells ts end (Err n) (Err (BadToken at)) e h = λ w spells. absurd (let unlike = sym e ∙ schema_again (texts ts) w spells in cc)
read_tells ts end read (Err NoMemory) e h = tt

pub text_tells : (text : List ℕ) (result : Result SchemaText SyntaxFault) → Yields result (read_of text) → Tells (tokens text) result
text_tells text result h = read_tells (tokens text) (length text) (schema_at (texts (tokens text))) result refl h
