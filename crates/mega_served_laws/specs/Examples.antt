-- Three nodes of which one ticks. And two calls of a witness: it promises in the first, and in the second, under a header whose schema extends the first one's, it keeps its promise.
use Rattle.std.specs.Prelude.{ℕ, List, [], ◌∷◌, ◌++◌, Some, None, codes, filter_map}
use Rattle.mega_base.specs.declared.values.Kind.TheVariants.{Str}
use Rattle.mega_base.specs.declared.values.NodeKind.TheVariants.{Full, Witness}
use Rattle.mega_ballot.specs.declared.ballot.Ballot.{Ballot}
use Rattle.mega_cluster.specs.declared.cluster.Cluster.{Cluster}
use Rattle.mega_schema.specs.declared.schema.Schema.{Schema}
use Rattle.mega_schema.specs.declared.schema.Table.{Table}
use Rattle.mega_syntax.specs.declared.need.Need.TheVariants.{Optional}
use Rattle.mega_wal.specs.declared.item.JournalItem.{JournalItem}
use Rattle.mega_wire.specs.Messages.{message_text}
use Rattle.mega_wire.specs.declared.message.Body.TheVariants.{Prepare, Promise, Refused}
use Rattle.mega_wire.specs.declared.message.Message.{Message}
use Rattle.mega_transcript.specs.declared.item.Item.{Item}
use Rattle.mega_promises.specs.Runs.{Happening, by_fuse, goes_on, opening}
use Rattle.mega_promises.specs.Worked.{happens, tick}
use Rattle.mega_rules.specs.Examples.{cluster, from_to, group, op_of, schema, users}
use Rattle.mega_promises.specs.Records.{NodeCall}
use Rattle.mega_promises.specs.Served.{OfNode, Peer, Refuses, Turn, put_in, served}

-- the table with one property more, which may lack
abbrev pub more_users : Table
more_users = record users { properties = users.properties ++ (record { name = codes "city"; need = Optional; kind = Str }) ∷ [] }

abbrev pub more_schema : Schema
more_schema = record { name = codes "S"; tables = more_users ∷ []; indexes = [] }

-- a witness beside two full nodes
abbrev pub cluster_of : Schema → Cluster
cluster_of schema = record {
  nodes = Witness ∷ Full ∷ Full ∷ [];
  schema = schema;
  cells = 0;
  lease = 100;
  patience = 1000;
  retry = 50;
  margin = 20;
  apply = 64;
  limit = record { 0 = 1000000 };
  addresses = [];
}

-- a turn that brings a message of another node
abbrev pub brings : ℕ → Message → Turn
brings clock m = record { handlers = []; clock = clock; datagram = Some (OfNode m.from, message_text m) }

-- what a call comes to whose logs were not compacted
abbrev pub call_of : Cluster → List JournalItem → List Turn → NodeCall
call_of c before turns = record {
  cluster = c;
  wish = λ json. Refuses 1;
  first = [];
  turns = turns;
  lines = (served c 1 (λ json. Refuses 1) [] before turns).lines;
  sends = filter_map put_in (served c 1 (λ json. Refuses 1) [] before turns).lines;
  after = (served c 1 (λ json. Refuses 1) [] before turns).journal;
}

-- node 3 asks for a promise
abbrev pub ballot_of : ℕ → Ballot
ballot_of node = record { round = 1; op = op_of node }

abbrev pub asks_promise : ℕ → Message
asks_promise node = from_to node 1 (Prepare (op_of node) group (record { 0 = 1 }) (ballot_of node))

abbrev pub first_call : NodeCall
first_call = call_of (cluster_of schema) [] (brings 5 (asks_promise 3) ∷ [])

-- and then node 2 asks for one of a lower ballot
abbrev pub second_call : NodeCall
second_call = call_of (cluster_of more_schema) first_call.after (brings 7 (asks_promise 2) ∷ [])

abbrev pub two_calls : List NodeCall
two_calls = first_call ∷ second_call ∷ []

-- what it puts out: its promise, and a refusal that tells of it
abbrev pub promise_and_refusal : List (Peer × List ℕ)
promise_and_refusal =
    (OfNode 3, message_text (from_to 1 3 (Promise (op_of 3) group (record { 0 = 1 }) (ballot_of 3) None)))
    ∷ (OfNode 2, message_text (from_to 1 2 (Refused (op_of 2) group (record { 0 = 1 }) (ballot_of 2) (ballot_of 3) None)))
    ∷ []

-- three nodes start, and the first one's clock ticks
abbrev pub one_tick : List Happening
one_tick = happens (tick 1 5) ∷ []

abbrev pub ticked_tape : List Item
ticked_tape = (goes_on cluster by_fuse (opening cluster []) one_tick).tape
