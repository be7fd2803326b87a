-- An open operation of a node: what was asked, and how far it has come.
use Rattle.std.specs.Prelude.{ℕ, List, Option, Result}
use Rattle.mega_base.specs.declared.names.GroupId.{GroupId}
use Rattle.mega_base.specs.declared.names.OpId.{OpId}
use Rattle.mega_cluster.specs.declared.cluster.Cluster.{Cluster}
use Rattle.mega_entry.specs.declared.content.Enter.{Enter}
use Rattle.mega_read.specs.of_wire.declared.message.Message.{Message}
use Rattle.mega_handler.specs.Named.{Meanings}
use Rattle.mega_outcome.specs.declared.answer.Shown.{Shown}
use Rattle.mega_outcome.specs.declared.answer.Turn.{Turn}
use Rattle.mega_outcome.specs.declared.request.Request.{Request}
use Rattle.mega_read.specs.of_propose.declared.round.Proposal.{Proposal}
use Rattle.mega_read.specs.declared.reading.Reading.{Reading}
use Rattle.mega_rules.specs.Met.{Met}

-- what an operation answers once its entry is decided: the replies of a transaction, none of a pump, or the results of a batch
pub data Promised : Type 0 where
  Replies : (replies : List (Option Shown)) → Promised
  Results : (results : List (Result (List (Option Shown)) Turn)) → Promised

-- an operation makes a current read of a group, or proposes its own entry at a position; `asked` are the nodes about which it asked the
-- cells while it completed earlier positions
pub data Phase : Type 0 where
  Reads : (group : GroupId) (reading : Reading) → Phase
  Proposes : (group : GroupId) (position : ℕ) (asked : List ℕ) (proposal : Proposal) (promised : Promised) → Phase

-- an open operation, with the clock of its begin; a pump with the groups that it read before, and the message that it is to enter
pub record Operation : Type 0 where
  pub id : OpId
  pub request : Request
  pub began : ℕ
  pub visited : List GroupId
  pub message : Option Enter
  pub phase : Phase

-- what a node is: its cluster and number, and the handlers that are there in this step
pub record Setting : Type 0 where
  pub cluster : Cluster
  pub me : ℕ
  pub handlers : Meanings

-- a node: what it met so far, its open operations in order of begin, and how many writes of each group's decided prefix are stored
pub record Node : Type 0 where
  pub met : List Met
  pub open_operations : List Operation
  pub stored : GroupId → ℕ

-- a node within a step: what it met with what the step brought so far, how far it has stored, the operations that stay open, and what
-- is to be noted and sent
pub record Now : Type 0 where
  pub met : List Met
  pub stored : GroupId → ℕ
  pub kept : List Operation
  pub valid : List Met
  pub answers : List Met
  pub sends : List Message
