use Rattle.std.proofs.Common.{◌≡◌, ◌∙◌, true, Bool, ap, filter, sym}
use Rattle.mega_cluster.specs.declared.cluster.Cluster.{Cluster}
use Rattle.mega_rules.specs.Members.{has_rows}
use Rattle.mega_step_parts.specs.Behind.{is_behind}
use Rattle.mega_step_parts.specs.Touching.{behind}
use Rattle.mega_lag.proofs.Lags.{behind_is}
use Rattle.mega_lag.proofs.watching.behind.Goals as goal

pub returns-then-has_rows : goal.returns-then-has_rows
returns-then-has_rows g c = λ met stored keeps knows.
    let one = c.args.replica.now in
    let there : has_rows one.members one.me ≡ true = ap (λ (k : Cluster). has_rows k one.me) (sym c.cluster.ensures) ∙ (sym c.has_rows.ensures ∙ c.if-has_rows.true) in
    c.in_ok-found.ensures met stored keeps
    ∙ (ap (filter (is_behind met stored)) (c.into_vec.ensures ∙ c.in_ok-groups.ensures.keys)
    ∙ (behind_is c.args.lagging.now met stored c.in_ok-groups.ensures.ordered (knows there)
    ∙ ap (λ (b : Bool). behind b met stored) (sym there)))
