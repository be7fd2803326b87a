-- What a node's lock cell keeps of each node, and what the node's log tells that it granted.
use Rattle.std.specs.Prelude.{◌≡◌, ◌==◌, ℕ, Bool, true, false, List, Option, Some, None}
use Rattle.std.specs.List.{list_any}
use Rattle.mega_base.specs.declared.names.Epoch.{Epoch}
use Rattle.mega_cluster.specs.declared.cluster.Cluster.{Cluster}
use Rattle.mega_locks.specs.declared.lock.Lock.{Lock}
use Rattle.mega_locks.specs.declared.lock.Lock.TheVariants.{Free, Held, Ended}
use Rattle.mega_locks.specs.History.{lock_of, nodes}
use Rattle.mega_rules.specs.Locks.{cell_calls, last_grant}
use Rattle.mega_rules.specs.Members.{is_cell}
use Rattle.mega_rules.specs.Met.{Met}

-- the greatest epoch of a lock, and whether it is held
abbrev pub grant_in : Lock → Option (Epoch × Bool)
grant_in Free = None
grant_in (Held epoch renewed) = Some (epoch, true)
grant_in (Ended epoch) = Some (epoch, false)

abbrev pub is_among : ℕ → List ℕ → Bool
is_among node others = list_any (λ other. other == node) others

-- the cell of a node keeps of each node what was granted to it last
abbrev pub KeepsGrants : Cluster → ℕ → List Met → Type 0
KeepsGrants c me met = is_cell c me ≡ true → (node : ℕ) → is_among node nodes ≡ true → grant_in (lock_of (cell_calls c me met) node) ≡ last_grant met node
