-- The lapses that a world keeps, and what it knows of whether leases are safe.
use Rattle.std.specs.Prelude.{◌≡◌, ℕ, Bool, false, List, Option, Some, None}
use Rattle.std.specs.BTreeSet.{BTreeSet, contains}
use Rattle.std.specs.Ordering.{is_eq, nat_cmp, ordering_then}
use Rattle.std.specs.declared.cmp.Ordering.{Ordering}
use Rattle.mega_base.specs.declared.names.Epoch.{Epoch}
use Rattle.mega_transcript.specs.declared.item.Item.{Item}
use Rattle.mega_rules.specs.Met.{Met, Lapses}
use Rattle.mega_rules.specs.Operations.{Node as RuleNode}
use Rattle.mega_promises.specs.Messages.{is_unsafe}
use Rattle.mega_promises.specs.Runs.{has_lapsed}
use Rattle.mega_safety.specs.declared.safety.Lapse.{Lapse}
use Rattle.mega_safety.specs.declared.safety.Safety.{Safety}

-- lapses are in the order of cell, node and epoch
abbrev pub lapse_cmp : Lapse → Lapse → Ordering
lapse_cmp a b = ordering_then (nat_cmp a.cell b.cell) (ordering_then (nat_cmp a.node.0 b.node.0) (ordering_then (nat_cmp a.epoch.start b.epoch.start) (nat_cmp a.epoch.count b.epoch.count)))

abbrev pub lapse : ℕ → ℕ → Epoch → Lapse
lapse cell node epoch = record { cell = cell; node = record { 0 = node }; epoch = epoch }

-- the lapse that the node of a cell notes
abbrev pub lapse_of : ℕ → Met → Option Lapse
lapse_of cell (Lapses node epoch) = Some (lapse cell node epoch)
lapse_of cell _ = None

abbrev pub is_lapse : Option Lapse → Lapse → Bool
is_lapse None other = false
is_lapse (Some one) other = is_eq (lapse_cmp one other)

-- the lapses of a set are those that were ever met, cell by cell
pub record AreLapsesOf (lapses : BTreeSet Lapse) (met : ℕ → List Met) : Type 0 where
  pub each : (cell node : ℕ) (epoch : Epoch) → contains lapse_cmp lapses (lapse cell node epoch) ≡ has_lapsed (met cell) node epoch

-- every lapse that the nodes met is kept, and whether the tape tells that leases are not safe is known
pub record KnowsLeases (safety : Safety) (ruled : ℕ → RuleNode) (tape : List Item) : Type 0 where
  pub lapses : AreLapsesOf safety.lapses (λ me. (ruled me).met)
  pub told : safety.is_told ≡ is_unsafe tape
