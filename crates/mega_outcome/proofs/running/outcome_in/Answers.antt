use Rattle.mega_outcome.proofs.OneMore.{looks_then}
use Rattle.mega_outcome.proofs.running.outcome_in.Goals as goal

pub returns-in-Ok-clause-looks : goal.returns-in-Ok-clause-looks
returns-in-Ok-clause-looks g c =
    looks_then g.V.Versions _ c.args.rows.now c.seen_by.new.rows c.written_by.new.rows c.in_ok-replies.ensures.looks c.written_by.ensures.looks
