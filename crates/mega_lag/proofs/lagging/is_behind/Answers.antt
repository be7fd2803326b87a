use Rattle.std.proofs.Common.{◌≡◌, ℕ, nat_lt}
use Rattle.mega_rules.specs.Logs.{log_of}
use Rattle.mega_step_parts.specs.of_voter.Journal.{journal_of}
use Rattle.mega_actions.proofs.of_node_laws.Logs.{log_is}
use Rattle.mega_lag.proofs.lagging.is_behind.Goals as goal

pub returns : goal.returns
returns g c = λ met stored keeps.
    let applied = c.applied-applied.ensures (journal_of met) (log_of met) stored keeps.tells.journal (log_is met c.args.group.now) keeps.follows in
    let prefix = c.prefix.ensures met keeps.tells in
    λ i. nat_lt (applied i) (prefix i)
