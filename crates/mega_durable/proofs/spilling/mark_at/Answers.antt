use Rattle.mega_rules.specs.Logs.{log_of}
use Rattle.mega_voter.specs.Journal.{journal_of}
use Rattle.mega_core.proofs.of_node_laws.Logs.{log_is}
use Rattle.mega_durable.proofs.spilling.mark_at.Goals as goal

pub returns : goal.returns
returns g c = λ met stored keeps.
    let at = c.applied-position.ensures (journal_of met) (log_of met) stored keeps.tells.journal (log_is met c.args.group) keeps.follows in
    λ i. (c.args.group, record { 0 = at i })
