use Rattle.std.proofs.Common.{◌∙◌, Bool, ap, sym}
use Rattle.mega_pumps.specs.Owns.{picks_by}
use Rattle.mega_answers.proofs.Serving.{serves_group, serves_message}
use Rattle.mega_answers.proofs.pumping.picked_of.Goals as goal

pub returns-then-entering-clause-picked : goal.returns-then-entering-clause-picked
returns-then-entering-clause-picked g c s now o asked tells follows notes groups same =
    serves_message s now o asked c.args.op c.in_ok-picked.picked same (c.in_ok-picked.ensures.picked now tells follows notes groups) ∙ ap (λ (t : Bool). picks_by t s now o asked) (sym c.if-entering.true)

pub returns-clause-picked : goal.returns-clause-picked
returns-clause-picked g c s now o asked tells follows notes groups same =
    serves_group s now o asked c.in_ok-picked-2.picked (c.in_ok-picked-2.ensures.picked now tells follows notes groups) ∙ ap (λ (t : Bool). picks_by t s now o asked) (sym c.if-entering.false)
