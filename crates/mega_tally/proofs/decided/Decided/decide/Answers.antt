use Rattle.std.proofs.Common.{ℕ, ◌∙◌, ap}
use Rattle.mega_transcript.specs.Counts.{lengthened, longest}
use Rattle.mega_tally.proofs.decided.Decided.decide.Goals as goal

pub returns : goal.returns
returns c tape entry keeps = record {
  follows = c.in_ok-last.ensures.follows tape entry keeps.follows;
  groups = c.in_ok-lengthen.ensures ∙ ap (λ groups. lengthened c.args.group.now c.in_ok-last.last groups) keeps.groups ∙ ap (λ (n : ℕ). lengthened c.args.group.now n (longest tape)) (c.in_ok-last.ensures.through tape entry keeps.follows);
}
