-- The rule of a group at a coordinator: which group is meant, and why a validate is refused.
use Rattle.std.specs.Prelude.{ℕ, Bool, if◌then◌else◌, nat_lt, Option, Some, None}
use Rattle.std.specs.Ordering.{is_eq}
use Rattle.mega_base.specs.declared.names.Epoch.{Epoch}
use Rattle.mega_base.specs.declared.names.GroupId.{GroupId}
pub use Rattle.mega_base.specs.NameOrder.{is_same_epoch as is_same}
pub use Rattle.mega_base.specs.NameOrder.{group_cmp}
use Rattle.mega_coordinator.specs.declared.answers.NotValid.{NotValid}
use Rattle.mega_coordinator.specs.declared.answers.NotValid.TheVariants.{NotServing, OtherEpoch, Beaten}

abbrev pub is_group : GroupId → GroupId → Bool
is_group g h = is_eq (group_cmp g h)

-- a reader that began in an epoch validates at a position: the epoch has to serve still, and no greater position was invalidated in it
abbrev pub refusal : Option Epoch → ℕ → ℕ → Epoch → Option NotValid
refusal None beaten position begun = Some NotServing
refusal (Some now) beaten position begun =
    if is_same now begun
    then (if nat_lt position beaten then Some (Beaten (record { 0 = beaten })) else None)
    else Some (OtherEpoch now)
