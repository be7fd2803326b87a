use Rattle.std.proofs.Common.{Err, ap}
use Rattle.mega_backup_words.proofs.Parts.{all_parts, new_broken, new_unmarked}
use Rattle.mega_backup_words.proofs.Results.{if_ok_two}
use Rattle.mega_backup_words.proofs.header.read_parts.Goals as goal

pub returns-in-Ok-clause-read : goal.returns-in-Ok-clause-read
returns-in-Ok-clause-read g c =
    let heading = c.in-Ok.heading in
    if_ok_two c.read_behind.result _ _ _ (λ parts marked read.
    let takes = c.in-Ok.ensures.taken marked.0 in
    all_parts _ (g.I.Source.left c.args.input.now) _ heading.taken heading.cluster parts.cluster parts.lines.items c.in_ok-reader.ensures takes.0 marked.1 (c.in-Ok.ensures.marked marked.0) takes.1 read)
    c.read_behind.ensures.marked c.read_behind.ensures.read

pub returns-in-Ok-clause-broken : goal.returns-in-Ok-clause-broken
returns-in-Ok-clause-broken g c rule is =
    let heading = c.in-Ok.heading in
    let without = c.read_behind.ensures.unmarked rule is in
    new_unmarked _ (g.I.Source.left c.args.input.now) heading.cluster rule c.in_ok-reader.ensures without.0 (c.in-Ok.ensures.unmarked without.1)

pub returns-clause-broken : goal.returns-clause-broken
returns-clause-broken g c rule is =
    new_broken _ (g.I.Source.left c.args.input.now) rule c.in_ok-reader.ensures (c.in-Err.ensures.broken rule (ap Err (c.stop_of.ensures.rule rule cc)))
