use Rattle.std.proofs.Common.{Err, ap}
use Rattle.mega_backup_words.proofs.Parts.{new_breaks, new_read}
use Rattle.mega_backup_words.proofs.header.read_header.Goals as goal

pub returns-in-Ok-clause-read : goal.returns-in-Ok-clause-read
returns-in-Ok-clause-read g c =
    let heading = c.in-Ok.heading in
    (heading.cluster, new_read c.args.least _ (g.I.Source.left c.args.input.now) _ heading.cluster heading.marked c.in_ok-reader.ensures c.in-Ok.ensures.marked c.in-Ok.ensures.unmarked)

pub returns-clause-broken : goal.returns-clause-broken
returns-clause-broken g c rule is =
    new_breaks c.args.least _ (g.I.Source.left c.args.input.now) rule c.in_ok-reader.ensures (c.in-Err.ensures.broken rule (ap Err (c.stop_of.ensures.rule rule cc)))
