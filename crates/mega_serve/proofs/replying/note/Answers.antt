use Rattle.std.proofs.Common.{◌++◌, ◌∙◌, List, ℕ, ap, refl, sym}
use Rattle.mega_transcript.specs.Lines.{line}
use Rattle.mega_serve.proofs.Gathered.{within}
use Rattle.mega_serve.proofs.replying.note.Goals as goal

pub split_at-requires : goal.split_at-requires
split_at-requires c = within c.text-at.result.now c.text.result.now (line c.args.schema.now c.args.item.now) _ refl (c.text.ensures ∙ c.in_ok-note.ensures.text ∙ ap (λ (xs : List ℕ). xs ++ line c.args.schema.now c.args.item.now) (sym c.text-at.ensures))
