use Rattle.std.proofs.Common.{rules, ◌≡◌, false, ◌∙◌, sym}
use Rattle.mega_propose.proofs.Promises.{not_counted}
use Rattle.mega_propose.proofs.round.Proposal.promised.Goals as goal

pub returns-then-not-counts : goal.returns-then-not-counts
returns-then-not-counts c =
    not_counted c.stays.result c.args.site.now c.args.self c.args.from c.args.now c.args.ballot c.args.vote.now c.in-Preparing.present c.in-Preparing.reports c.in-Preparing.sent
    c.in-Preparing.is (search rules) c.stays.ensures
