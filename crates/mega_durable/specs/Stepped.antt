-- What the calls of a node that is up are over: each node of the rules that it may be, and a step that is taken in memory alone.
use Rattle.std.specs.Prelude.{◌≡◌, ℕ, false, true, Bool, List, All, Option}
use Rattle.mega_disk.specs.declared.records.Records.{Ghosts}
use Rattle.mega_disk.specs.VersionMaps.{Versions}
use Rattle.mega_handler.specs.Named.{Meaning, Meanings}
use Rattle.mega_wal.specs.Items.{IsItem}
use Rattle.mega_rules.specs.Clock.{start_of}
use Rattle.mega_rules.specs.Operations.{Node as RuleNode, Setting}
use Rattle.mega_rules.specs.Steps.{Event, step}
use Rattle.mega_voter.specs.Holding.{HoldsMet}
use Rattle.mega_voter.specs.Journal.{journal_of}
use Rattle.mega_core.specs.declared.node.Node.{Node}
use Rattle.mega_core.specs.of_step_parts.Staging.{Stages}
use Rattle.mega_core.specs.Standing.{StandsFor}
use Rattle.mega_durable.specs.Granted.{KeepsGrants}
use Rattle.mega_durable.specs.Standing.{IsUp, MayHappen, records_in, setting_of}

-- of each node of the rules under which a node is up, and at which the event may happen over these handlers
abbrev pub AtEach : {R V : Type 0} → Ghosts R → (V → Versions) → (List ℕ → Option Meaning) → Node R V → Event → (Meanings → Setting → RuleNode → Type 0) → Type 0
AtEach store version makes one event Is = (h : Meanings) (node : RuleNode) → IsUp store version h one node → MayHappen makes (setting_of one h) node event → Is h (setting_of one h) node

-- a node that took a step in memory alone: it stands for that of the rules behind the step, what is staged is the step's, and its records,
-- which are these, hold what the node met before where they are told
pub record HasStepped {R V : Type 0} (store : Ghosts R) (version : V → Versions) (h : Meanings) (one : Node R V) (s : Setting) (node : RuleNode) (event : Event) (was : R) : Type 0 where
  pub stands : StandsFor version h one (step s node event).node
  pub stages : Stages one.replica.voter.logs.staged.items node.met (step s node event).node.met
  pub formed : All IsItem (journal_of (step s node event).node.met)
  pub same : records_in one ≡ was
  pub ready : store.is_spent was ≡ false
  pub holds : store.is_told ≡ true → HoldsMet (store.list was) (start_of node.met) node.met
  pub granted : KeepsGrants one.replica.members one.replica.me (step s node event).node.met

-- of each such step that the node took
abbrev pub AtStep : {R V : Type 0} → Ghosts R → (V → Versions) → Node R V → (Meanings → Setting → RuleNode → Event → R → Type 0) → Type 0
AtStep {R = R} store version one Is = (h : Meanings) (s : Setting) (node : RuleNode) (event : Event) (was : R) → HasStepped store version h one s node event was → Is h s node event was
