use Rattle.std.proofs.Common.{[]}
use Rattle.mega_places.proofs.member.Member.clock.Goals as goal

pub returns : goal.returns
returns c cluster me ruled one = c.clock.ensures [] ruled (one.up [])
