use Rattle.std.proofs.Common.{◌∙◌}
use Rattle.mega_answers.proofs.pumping.found_next.Goals as goal

pub returns-clause-picked : goal.returns-clause-picked
returns-clause-picked g c s now o asked tells follows noted same =
    c.in_ok-found.ensures.picked s now o asked tells follows noted (c.as_slice.ensures.value ∙ c.in_ok-groups.ensures now.met tells) same

pub returns-clause-noted : goal.returns-clause-noted
returns-clause-noted g c = λ met stored tells follows noted. c.in_ok-found.ensures.noted met stored tells follows noted (c.as_slice.ensures.value ∙ c.in_ok-groups.ensures met tells)
