use Rattle.std.proofs.Common.{ℕ, ap, subst, ◌∙◌}
use Rattle.mega_replica.specs.Applying.{after_read}
use Rattle.mega_replica.specs.Following.{Follows, progress_at}
use Rattle.mega_replica.specs.Stored.{stored_with}
use Rattle.mega_rules.specs.Logs.{log_of}
use Rattle.mega_step_parts.specs.of_voter.Journal.{journal_of}
use Rattle.mega_actions.proofs.of_node_laws.Logs.{log_is}
use Rattle.mega_core.proofs.Anew.{read_all}
use Rattle.mega_core.proofs.restarting.apply.Goals as goal

pub returns-in-Ok-clause-follows : goal.returns-in-Ok-clause-follows
returns-in-Ok-clause-follows g c = λ met stored tells follows.
    let group = c.args.group.now in
    let new = c.apply_through.new.self in
    let is = ap (λ n. after_read n (log_of met group) (stored group)) (c.prefix-prefix.ensures met tells) ∙ read_all met group (stored group) in
    subst (λ (count : ℕ). Follows (g.V.Versions.version new.rows) (progress_at new.progress) (log_of met) (stored_with stored group count)) is
    (c.in-Ok.ensures.follows (journal_of met) (log_of met) stored tells.journal (log_is met group) follows)
