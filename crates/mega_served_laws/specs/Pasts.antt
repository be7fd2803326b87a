-- A node after a start and some inputs, over what it met before, and when two such runs are the same.
use Rattle.std.specs.Prelude.{◌≡◌, ℕ, List, [], ◌++◌, fold}
use Rattle.mega_cluster.specs.declared.cluster.Cluster.{Cluster}
use Rattle.mega_handler.specs.Named.{Meanings}
use Rattle.mega_rules.specs.Met.{Met}
use Rattle.mega_rules.specs.Operations.{Node}
use Rattle.mega_rules.specs.Steps.{start, step}
use Rattle.mega_promises.specs.NodeRuns.{Input}
use Rattle.mega_promises.specs.Runs.{setting}

-- a start of this number, which owes nothing, and these inputs
abbrev pub run_over : Cluster → ℕ → Meanings → ℕ → List Met → List Input → Node
run_over c me first number past inputs = fold (λ node one. (step (setting c one.handlers me) node one.event).node) (start (setting c first me) number [] past) inputs

-- both met the same since, and have the same operations open and the same stored
pub record SameSince (x : Node) (past : List Met) (y : Node) (other : List Met) : Type 0 where
  pub since : List Met
  pub met : x.met ≡ since ++ past
  pub also : y.met ≡ since ++ other
  pub open_operations : x.open_operations ≡ y.open_operations
  pub stored : x.stored ≡ y.stored
