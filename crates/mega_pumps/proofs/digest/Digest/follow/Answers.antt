use Rattle.mega_pumps.proofs.Lasting.{follows_noted}
use Rattle.mega_pumps.proofs.digest.Digest.follow.Goals as goal

pub returns-clause-noted : goal.returns-clause-noted
returns-clause-noted g c = λ met stored tells follows kept is.
    follows_noted c.args.voter.now.logs.kept met stored c.catch_up.new.self tells (c.in_ok-catch_up.ensures.notes met stored tells follows (c.begin_if_ahead.ensures met stored tells follows kept is))

pub returns-clause-applied : goal.returns-clause-applied
returns-clause-applied g c = λ met stored tells follows kept is.
    c.in_ok-catch_up.ensures.applied met stored tells follows (c.begin_if_ahead.ensures met stored tells follows kept is) is
