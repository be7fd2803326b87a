use Rattle.std.proofs.Common.{ℕ, List, sym, ◌∙◌, subst}
use Rattle.std.specs.List.{prefix_len}
use Rattle.mega_syntax.specs.Names.{is_name_byte}
use Rattle.mega_syntax.specs.Tokens.{Splits}
use Rattle.mega_syntax.proofs.Lexing.{next_word}
use Rattle.mega_syntax.proofs.lexer.token_len.Goals as goal

pub returns-then-is_name_byte-clause-token : goal.returns-then-is_name_byte-clause-token
returns-then-is_name_byte-clause-token c = λ at.
    let text = c.args.text.now in
    let P : List ℕ → Type 0 = λ t. Splits at t (prefix_len is_name_byte t) in
    let Q : ℕ → Type 0 = λ n. Splits at text n in
    let word = next_word c.args.first c.requires.first.0 at (sym c.is_name_byte.ensures ∙ c.if-is_name_byte.true) in
    subst Q (sym c.run_len.ensures.run) (subst P (sym c.requires.first.1) word)
