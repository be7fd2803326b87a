use Rattle.std.proofs.Common.{sym}
use Rattle.mega_well_formed.proofs.Deciding.{cuts_length}
use Rattle.mega_well_formed.proofs.cuts.cuts_length.Goals as goal

pub returns-in-len1-up : goal.returns-in-len1-up
returns-in-len1-up c = sym (cuts_length c.args.cuts.now c.in-len1-up.len_at_least)
