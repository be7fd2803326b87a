use Rattle.std.proofs.Common.{◌≡◌, ◌∙◌, List, ap, subst, sym}
use Rattle.mega_base.specs.declared.names.GroupId.{GroupId}
use Rattle.mega_queues.specs.Applied.{applied_of}
use Rattle.mega_queues.specs.Boxes.{AreAll, logs_of}
use Rattle.mega_queues.proofs.HaveEntries.{all_applied}
use Rattle.mega_rules.specs.Queues.{next_to_handle}
use Rattle.mega_pumps.specs.Picks.{picked_group}
use Rattle.mega_pumps.proofs.digest.Digest.next_to_handle.Goals as goal

pub returns-in_ok-picked-in-Some-clause-picked : goal.returns-in_ok-picked-in-Some-clause-picked
returns-in_ok-picked-in-Some-clause-picked g c = λ now tells follows kept is.
    let logs = applied_of now in
    let rep = c.in_ok-follow.ensures.applied now.met now.stored tells follows kept is in
    c.in_ok-picked-in-Some.ensures ∙ ap picked_group (c.in-Some.ensures logs rep ∙ ap (λ (groups : List GroupId). next_to_handle (logs_of logs groups)) is)

pub returns-in-None-clause-picked : goal.returns-in-None-clause-picked
returns-in-None-clause-picked g c = λ now tells follows kept is.
    let logs = applied_of now in
    let rep = c.in_ok-follow.ensures.applied now.met now.stored tells follows kept is in
    ap picked_group (c.in-None.ensures logs rep ∙ ap (λ (groups : List GroupId). next_to_handle (logs_of logs groups)) is)
