use Rattle.std.proofs.Common.{◌+◌, drop, sym, ◌∙◌, ap}
use Rattle.std.specs.List.{prefix_len}
use Rattle.mega_syntax.specs.Tokens.{is_blank, tokens_from}
use Rattle.mega_syntax.proofs.Lexing.{after_blanks, no_blank_left}
use Rattle.mega_syntax.proofs.lexer.past_blanks.Goals as goal

pub returns-clause-tokens : goal.returns-clause-tokens
returns-clause-tokens c =
    let at = c.args.at in
    let text = c.args.text.now in
    after_blanks text at ∙ sym (ap (λ n. tokens_from (at + n) (drop n text)) c.blank_len-blanks.ensures.run) ∙ sym (ap (tokens_from (at + c.blank_len-blanks.result)) c.split_at.ensures.back)

pub returns-clause-no_blank : goal.returns-clause-no_blank
returns-clause-no_blank c =
    let text = c.args.text.now in
    ap (prefix_len is_blank) (c.split_at.ensures.back ∙ ap (λ n. drop n text) c.blank_len-blanks.ensures.run) ∙ no_blank_left text
