use Rattle.std.proofs.Common.{◌∙◌, ◌∷◌, [], List, ℕ, ap, codes, decimal, take}
use Rattle.mega_promises.specs.Served.{joined}
use Rattle.mega_serve.proofs.texts.refusal_text.Goals as goal

pub returns-clause-text : goal.returns-clause-text
returns-clause-text c =
    c.shortened.ensures.text
    ∙ ap (λ (words : List ℕ). take 65000 words) (c.in_ok-words.ensures ∙ ap (λ (n : ℕ). joined (codes "refused" ∷ c.args.kind.now ∷ decimal n ∷ [])) c.from.ensures)

pub returns-clause-short : goal.returns-clause-short
returns-clause-short c = c.shortened.ensures.short
