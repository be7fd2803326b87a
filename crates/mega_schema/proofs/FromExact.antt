-- From the exact answer to what it says of the text.
use Rattle.std.proofs.Common.{◌≡◌, ℕ, List, length, refl, sym, ap, ◌∙◌, subst, Result, Ok, Err}
use Rattle.mega_syntax.specs.declared.token.Token.{Token}
use Rattle.mega_syntax.specs.declared.words.SchemaWords.{SchemaWords}
use Rattle.mega_syntax.specs.Tokens.{tokens, texts}
use Rattle.mega_syntax.specs.Reading.{Read, schema_at}
use Rattle.mega_syntax.specs.Grammar.{Spells}
use Rattle.mega_syntax.specs.Whole.{read_as, read_of}
use Rattle.mega_syntax.proofs.Takes.{schema_taken}
use Rattle.mega_syntax.proofs.Again.{schema_again}
use Rattle.mega_syntax.proofs.FromExact.{read_again}
use Rattle.mega_schema.specs.declared.schema.Schema.{Schema}
use Rattle.mega_schema.specs.declared.fault.SchemaFault.{SchemaFault}
use Rattle.mega_schema.specs.declared.fault.SchemaFault.TheVariants.{Syntax, Rule, NoMemory}
use Rattle.mega_schema.specs.Verdict.{Gives, judge_all, ruled, answer_of, parse_of, Tells}

pub given_by : (result answer other : Result Schema SchemaFault) → Gives result answer → answer ≡ other → Gives result other
given_by result answer other h e = let P : Result Schema SchemaFault → Type 0 = λ a. Gives result a in subst P e h

pub parse_again : (text : List ℕ) (w : SchemaWords) → Spells (texts (tokens text)) w → parse_of text ≡ ruled (tokens text) (length text) (judge_all w (length (tokens text)))
parse_again text w h = ap (answer_of (length text)) (read_again text w h)

-- what the answer says, where the texts were read
read_tells : (ts : List Token) (end : ℕ) (w : SchemaWords) (j : Result Schema (ℕ × ℕ)) → Spells (texts ts) w → judge_all w (length ts) ≡ j → Tells ts end (ruled ts end j)
read_tells ts end w (Ok s) h e = (w, h, e)
read_tells ts end w (Err f) h e = (w, f.0, h, e, refl)

answer_tells : (ts : List Token) (end : ℕ) (r : Read SchemaWords) → schema_at (texts ts) ≡ r → Tells ts end (answer_of end (read_as ts end r))
answer_tells ts end (Ok x) e = read_tells ts end x.0 (judge_all x.0 (length ts)) (schema_taken (texts ts) x.0 x.1 e) refl
answer_tells ts end (Err n) e = λ w h. absurd (let unlike = sym e ∙ schema_again (texts ts) w h in cc)

told : (ts : List Token) (end : ℕ) (result answer : Result Schema SchemaFault) → Gives result answer → Tells ts end answer → Tells ts end result
told ts end (Ok s) answer h t = let P : Result Schema SchemaFault → Type 0 = λ a. Tells ts end a in subst P h t
told ts end (Err (Syntax at)) answer h t = let P : Result Schema SchemaFault → Type 0 = λ a. Tells ts end a in subst P h t
told ts end (Err (Rule at rule)) answer h t = let P : Result Schema SchemaFault → Type 0 = λ a. Tells ts end a in subst P h t
told ts end (Err NoMemory) answer h t = tt

pub parse_tells : (text : List ℕ) (result : Result Schema SchemaFault) → Gives result (parse_of text) → Tells (tokens text) (length text) result
parse_tells text result h = told (tokens text) (length text) result (parse_of text) h (answer_tells (tokens text) (length text) (schema_at (texts (tokens text))) refl)
