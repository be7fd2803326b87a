use Rattle.std.proofs.Common.{subst}
use Rattle.mega_ballot.specs.Quorums.{Votes, IsSound}
use Rattle.mega_ballot.proofs.Meeting.{majorities_share}
use Rattle.mega_ballot.proofs.quorum.majorities_meet.Goals as goal

pub returns : goal.returns
returns c =
    let sound : Votes → Type 0 = λ v. IsSound v.members v.voted in
    majorities_share c.args.first.now c.args.second.now (subst sound c.first.view_is c.first.invariant) (subst sound c.second.view_is c.second.invariant) c.requires.same c.requires.first_reached c.requires.second_reached
