-- What the worked examples are about: three full nodes, and a put of one user.
use Rattle.std.specs.Prelude.{ℕ, pos, Bool, true, false, List, [], ◌∷◌, ◌++◌, map, length, Option, Some, codes}
use Rattle.mega_base.specs.declared.names.Epoch.{Epoch}
use Rattle.mega_base.specs.declared.names.GroupId.{GroupId}
use Rattle.mega_base.specs.declared.names.OpId.{OpId}
use Rattle.mega_base.specs.declared.values.Cell.{Cell}
use Rattle.mega_base.specs.declared.values.Kind.TheVariants.{Int64, Str}
use Rattle.mega_base.specs.declared.values.NodeKind.TheVariants.{Full}
use Rattle.mega_base.specs.declared.values.Row.{Row}
use Rattle.mega_base.specs.declared.values.Value.TheVariants.{Int64 as Number, Str as Word}
use Rattle.mega_ballot.specs.declared.ballot.Ballot.{Ballot}
use Rattle.mega_ballot.specs.Order.{zero_ballot}
use Rattle.mega_cluster.specs.declared.cluster.Cluster.{Cluster}
use Rattle.mega_schema.specs.declared.schema.Property.{Property}
use Rattle.mega_schema.specs.declared.schema.Schema.{Schema}
use Rattle.mega_schema.specs.declared.schema.Table.{Table}
use Rattle.mega_syntax.specs.declared.need.Need.TheVariants.{Required}
use Rattle.mega_entry.specs.declared.content.Content.{Content}
use Rattle.mega_read.specs.of_wire.declared.message.Message.{Message}
use Rattle.mega_read.specs.of_wire.declared.message.Body.{Body}
use Rattle.mega_read.specs.of_wire.declared.message.Body.TheVariants.{Where, Top, Accept, Accepted, Have}
use Rattle.mega_outcome.specs.declared.request.Request.{Request}
use Rattle.mega_outcome.specs.declared.request.Request.TheVariants.{Txn}
use Rattle.mega_outcome.specs.declared.transaction.Change.TheVariants.{Put}
use Rattle.mega_outcome.specs.declared.transaction.Transaction.{Transaction}
use Rattle.mega_rules.specs.Met.{Met, Starts}
use Rattle.mega_rules.specs.Operations.{Node, Setting}
use Rattle.mega_rules.specs.Steps.{Event, Take, Tick, Begin, Step, start, step}

-- the schema with the one table of users
abbrev pub users : Table
users = record {
  name = codes "User";
  properties = (record { name = codes "user_id"; need = Required; kind = Int64 }) ∷ (record { name = codes "name"; need = Required; kind = Str }) ∷ [];
  primary = 1 ∷ [];
  root = 1;
  group = [];
  inside = false;
  scatter = false;
}

abbrev pub schema : Schema
schema = record { name = codes "S"; tables = users ∷ []; indexes = [] }

-- three full nodes and three cells
abbrev pub cluster : Cluster
cluster = record {
  nodes = Full ∷ Full ∷ Full ∷ [];
  schema = schema;
  cells = 3;
  lease = 100;
  patience = 1000;
  retry = 50;
  margin = 20;
  apply = 64;
  limit = record { 0 = 1000000 };
  addresses = [];
}

abbrev pub setting : ℕ → Setting
setting me = record { cluster = cluster; me = me; handlers = [] }

-- the group of user 101, and a put of that user
abbrev pub group : GroupId
group = record { key = 1 ∷ 128 ∷ 0 ∷ 0 ∷ 0 ∷ 0 ∷ 0 ∷ 0 ∷ 101 ∷ [] }

abbrev pub user : Row
user = record { cells = (record { property = 1; values = Number (pos 101) ∷ [] }) ∷ (record { property = 2; values = Word (codes "John") ∷ [] }) ∷ [] }

abbrev pub put : Request
put = Txn (record { group = group; checks = []; reads = []; writes = Put 1 user ∷ []; sends = [] })

-- the first operation of a node in its first start, and its entry
abbrev pub op_of : ℕ → OpId
op_of node = record { node = record { 0 = node }; start = 1; number = 1 }

abbrev pub entry_of : ℕ → Content
entry_of node = record {
  id = Some (op_of node);
  leader = record { 0 = node };
  writes = (record { key = 1 ∷ 128 ∷ 0 ∷ 0 ∷ 0 ∷ 0 ∷ 0 ∷ 0 ∷ 101 ∷ 1 ∷ []; row = Some user }) ∷ [];
  sends = [];
  enters = [];
  handles = [];
  cuts = [];
}

abbrev pub from_to : ℕ → ℕ → Body → Message
from_to from to body = record { from = from; to = to; body = body }

abbrev pub top_from : ℕ → ℕ → Message
top_from from top = from_to from 1 (Top (op_of 1) group (record { 0 = top }))

abbrev pub accept_for : ℕ → ℕ → ℕ → Ballot → Content → Message
accept_for node to n ballot entry = from_to node to (Accept (op_of node) group (record { 0 = n }) ballot entry)

abbrev pub accepted_from : ℕ → ℕ → ℕ → Ballot → Content → Message
accepted_from node from n ballot entry = from_to from node (Accepted (op_of node) group (record { 0 = n }) ballot entry)

-- a node that has started once
abbrev pub fresh : ℕ → Node
fresh me = start (setting me) 1 [] []

-- a node after these events, one after another
abbrev pub after : ℕ → Node → List Event → Node
after me node [] = node
after me node (event ∷ events) = after me (step (setting me) node event).node events

-- the step of the last event
abbrev pub last_step : ℕ → Node → List Event → Event → Step
last_step me node events event = step (setting me) (after me node events) event
