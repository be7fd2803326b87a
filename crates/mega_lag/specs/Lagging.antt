-- The groups of which a node that keeps rows may not have applied all that is decided.
use Rattle.std.specs.Prelude.{◌≡◌, ℕ, Bool, true, false, List}
use Rattle.std.specs.List.{list_any}
use Rattle.std.specs.BTreeSet.{BTreeSet, contains}
use Rattle.mega_base.specs.declared.names.GroupId.{GroupId}
use Rattle.mega_cluster.specs.declared.cluster.Cluster.{Cluster}
use Rattle.mega_wal.specs.History.{group_cmp}
use Rattle.mega_wal.specs.Kept.{is_group}
use Rattle.mega_rules.specs.Members.{has_rows}
use Rattle.mega_rules.specs.Met.{Met}
use Rattle.mega_step_parts.specs.declared.applying.Before.{Before}
use Rattle.mega_step_parts.specs.Behind.{is_behind}

-- a group is among them
abbrev pub lags : BTreeSet GroupId → GroupId → Bool
lags lagging group = contains group_cmp lagging group

-- of a group that is not among them all is applied that is decided, at a node that keeps rows
abbrev pub KnowsLagging : Cluster → ℕ → BTreeSet GroupId → List Met → (GroupId → ℕ) → Type 0
KnowsLagging c me lagging met stored = has_rows c me ≡ true → (group : GroupId) → lags lagging group ≡ false → is_behind met stored group ≡ false

-- a group is one of these, of which a step may apply more
abbrev pub is_watched : List Before → GroupId → Bool
is_watched before group = list_any (λ (one : Before). is_group one.group group) before

-- the same of each group that is none of these either
abbrev pub KnowsOthers : Cluster → ℕ → BTreeSet GroupId → List Before → List Met → (GroupId → ℕ) → Type 0
KnowsOthers c me lagging before met stored = has_rows c me ≡ true → (group : GroupId) → is_watched before group ≡ false → lags lagging group ≡ false → is_behind met stored group ≡ false
