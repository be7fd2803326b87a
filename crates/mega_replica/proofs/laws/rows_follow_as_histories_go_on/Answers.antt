use Rattle.std.proofs.Common.{◌∷◌}
use Rattle.mega_replica.specs.Stored.{log_in}
use Rattle.mega_replica.proofs.Growing.{grows}
use Rattle.mega_replica.proofs.Logs.{log_grows}
use Rattle.mega_replica.proofs.laws.rows_follow_as_histories_go_on.Goals as goal

pub returns : goal.returns
returns c = λ version progress item items stored follows.
    grows version progress (log_in items) (log_in (item ∷ items)) stored (λ group. (log_grows item items group).0) (λ group. (log_grows item items group).1) follows
