use Rattle.std.proofs.Common.{◌∙◌, ◌++◌, ◌∷◌, [], List, ℕ, ap, sym}
use Rattle.mega_transcript.specs.Answers.{answer_words}
use Rattle.mega_promises.specs.Served.{joined}
use Rattle.mega_serve.proofs.Words.{answer_line_is, enough_behind}
use Rattle.mega_serve.proofs.texts.answer_words.Goals as goal

pub words_behind-requires : goal.words_behind-requires
words_behind-requires c =
    let words = joined (answer_words c.args.schema.now c.args.answer.now) in
    enough_behind c.args.written.now c.as_slice.result.now words
    (c.requires ∙ answer_line_is c.args.schema.now c.args.op c.args.answer.now
    ∙ ap (λ (head : List ℕ). head ++ (words ++ 10 ∷ [])) (sym (c.as_slice.ensures ∙ c.in_ok-head.ensures)))

pub returns : goal.returns
returns c =
    let words = joined (answer_words c.args.schema.now c.args.answer.now) in
    c.in_ok-words.ensures words
    (c.requires ∙ answer_line_is c.args.schema.now c.args.op c.args.answer.now
    ∙ ap (λ (head : List ℕ). head ++ (words ++ 10 ∷ [])) (sym (c.as_slice.ensures ∙ c.in_ok-head.ensures)))
