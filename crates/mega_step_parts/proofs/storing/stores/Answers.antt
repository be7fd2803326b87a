use Rattle.std.proofs.Common.{◌≡◌, ◌∙◌, ℕ, true, false, Option, Some, ap, subst, sym}
use Rattle.mega_base.specs.declared.names.GroupId.{GroupId}
use Rattle.mega_rules.specs.Logs.{log_of}
use Rattle.mega_rules.specs.Steps.{Decision, stored_after}
use Rattle.mega_replica.specs.Following.{Follows, progress_at}
use Rattle.mega_step_work.specs.of_voter.Journal.{journal_of}
use Rattle.mega_node_laws.proofs.Logs.{log_is}
use Rattle.mega_step_parts.proofs.Portions.{stored_after_is, stored_bare}
use Rattle.mega_step_parts.proofs.storing.stores.Goals as goal

pub returns-then-not-keeps-clause-follows : goal.returns-then-not-keeps-clause-follows
returns-then-not-keeps-clause-follows g c = λ s met stored rows bare apply tells follows.
    let version = g.V.Versions.version c.args.rows.now.rows in
    let progress = progress_at c.args.rows.now.progress in
    let none : c.args.keeps ≡ false = c.if-not-keeps.true in
    subst (λ (counts : GroupId → ℕ). Follows version progress (log_of met) counts)
    (λ i other. (bare none other ∙ sym (stored_bare s met stored c.args.found.now (sym rows ∙ none) (bare none) other)) i) follows

pub returns-in-Ok-clause-follows : goal.returns-in-Ok-clause-follows
returns-in-Ok-clause-follows g c = λ s met stored rows bare apply tells follows.
    let d : Decision = record { group = c.found.inside.group; position = c.found.inside.position; entry = c.found.inside.entry } in
    let is : c.args.found.now ≡ Some d = c.in-Some.is ∙ ap (λ (one : Decision). Some one) (sym c.found.view_is) in
    let version = g.V.Versions.version c.apply_some.new.self.rows in
    let progress = progress_at c.apply_some.new.self.progress in
    let there : c.args.keeps ≡ true = c.if-not-keeps.false in
    subst (λ (found : Option Decision). Follows version progress (log_of met) (stored_after s met stored found)) (sym is)
    (subst (λ (counts : GroupId → ℕ). Follows version progress (log_of met) counts) (λ i other. stored_after_is s met stored c.args.most d (sym rows ∙ there) apply other i)
    (c.in-Ok.ensures.follows (journal_of met) (log_of met) stored tells.journal (log_is met d.group) follows))

pub returns-in-None-clause-follows : goal.returns-in-None-clause-follows
returns-in-None-clause-follows g c = λ s met stored rows bare apply tells follows.
    subst (λ (found : Option Decision). Follows (g.V.Versions.version c.args.rows.now.rows) (progress_at c.args.rows.now.progress) (log_of met) (stored_after s met stored found)) (sym c.in-None.is) follows
