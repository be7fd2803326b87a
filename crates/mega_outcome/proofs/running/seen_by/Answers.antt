use Rattle.mega_outcome.proofs.OneMore.{looks_then}
use Rattle.mega_outcome.proofs.running.seen_by.Goals as goal

pub returns-clause-looks : goal.returns-clause-looks
returns-clause-looks g c =
    looks_then g.V.Versions _ c.args.rows.now c.all_checks.new.rows c.all_reads.new.rows c.in_ok-turn.ensures.looks c.all_reads.ensures.looks
