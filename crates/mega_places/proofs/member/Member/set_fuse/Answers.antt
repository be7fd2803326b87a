use Rattle.mega_places.proofs.StepsMade.{as_member}
use Rattle.mega_places.specs.declared.member.Member.{Member}
use Rattle.std.proofs.Common.{[], Some, ◌∙◌}
use Rattle.mega_places.proofs.member.Member.set_fuse.Goals as goal

pub returns-clause-member : goal.returns-clause-member
returns-clause-member c cluster me ruled one =
    let set : Member = record { up = c.fuse.new.self; fuse = Some (record { calls = c.args.calls; image = c.args.image; appended = 0 }) } in
    as_member cluster [] me set ruled (c.fuse.ensures.members ∙ one.members) (c.fuse.ensures.me ∙ one.number) (c.fuse.ensures.state [] ruled (one.up []))
