-- The run of a node that is served over links: the record that it writes, what it puts out, and what its journal has then.
use Rattle.std.specs.Prelude.{◌≡◌, ◌⊎◌, ℕ, ◌+◌, ◌==◌, ◌&&◌, Bool, if◌then◌else◌, List, [], ◌∷◌, ◌++◌, codes, decimal, filter, filter_map, find, flat_map, fold, map, reverse, Option, Some, None, Result, Ok, Err}
use Rattle.std.specs.List.{list_any}
use Rattle.mega_base.specs.declared.names.OpId.{OpId}
use Rattle.mega_cluster.specs.declared.cluster.Cluster.{Cluster}
use Rattle.mega_schema.specs.declared.schema.Schema.{Schema}
use Rattle.mega_handler.specs.Named.{Meanings}
use Rattle.mega_wire.specs.declared.message.Message.{Message}
use Rattle.mega_wire.specs.declared.message.Body.TheVariants.{Request as Requests}
use Rattle.mega_wire.specs.Messages.{message_at}
use Rattle.mega_base.specs.Reading.{whole_of}
use Rattle.mega_outcome.specs.declared.answer.Answer.{Answer}
use Rattle.mega_outcome.specs.declared.request.Request.{Request}
use Rattle.mega_wal.specs.declared.item.JournalItem.{JournalItem}
use Rattle.mega_wal.specs.declared.item.JournalItem.TheVariants.{Start as Started}
use Rattle.mega_wal.specs.Same.{same_op}
use Rattle.mega_wal.specs.declared.kept.Kept.{Kept}
use Rattle.mega_wal.specs.Compaction.{compacted}
use Rattle.mega_wal.specs.History.{starts_of}
use Rattle.mega_wal.specs.Kept.{Represents}
use Rattle.mega_transcript.specs.declared.item.Item.{Item}
use Rattle.mega_transcript.specs.Answers.{answer_words}
pub use Rattle.mega_transcript.specs.Recorded.{Got, Line, Noted, OfClient, OfNode, Peer, Put, joined, put_in, put_out, reply_line}
use Rattle.mega_rules.specs.Met.{Met, Answers, Begins, Ticks}
use Rattle.mega_rules.specs.Operations.{Node, Operation}
use Rattle.mega_rules.specs.Steps.{Event, Begin, Step, Take, Tick, op_of, start, start_items, step}
pub use Rattle.mega_rules.specs.Kept.{kept_of_body, kept_of_note}
use Rattle.mega_promises.specs.Items.{shown}
use Rattle.mega_promises.specs.NodeRuns.{met_of}
use Rattle.mega_promises.specs.Runs.{names_nothing, setting}

-- a turn: a reading of the clock, and then what a receive gives, if anything, under the handlers that are there
pub record Turn : Type 0 where
  pub handlers : Meanings
  pub clock : ℕ
  pub datagram : Option (Peer × List ℕ)

-- what a client's object asks for: a request, with the text of its begin, or nothing, for the reason of this number
pub data Wish : Type 0 where
  Asks : (request : Request) (text : List ℕ) → Wish
  Refuses : (reason : ℕ) → Wish

-- an open operation of a client, which gets its answer under the token of its request
pub record Waiting : Type 0 where
  pub op : OpId
  pub client : ℕ
  pub token : ℕ

-- a served node: its record so far, oldest line first, its journal, newest item first, and the clients that wait
pub record Served : Type 0 where
  pub node : Node
  pub lines : List Line
  pub journal : List JournalItem
  pub waiting : List Waiting

-- what a step appends to the journal: its grants, its lapses and its decision, and then its promise or vote
abbrev pub kept_of : Step → List JournalItem
kept_of made = filter_map kept_of_note made.notes ++ filter_map (λ (m : Message). kept_of_body m.body) made.sends

abbrev pub noted : ℕ → List Met → List Line
noted me notes = map Noted (flat_map (shown me) notes)

abbrev pub answered_line : Schema → ℕ → Answer → Option Waiting → List Line
answered_line schema me answer None = []
answered_line schema me answer (Some one) = reply_line me one.client one.token (answer_words schema answer) ∷ []

abbrev pub answer_line : Schema → ℕ → List Waiting → Met → List Line
answer_line schema me waiting (Answers op answer) = answered_line schema me answer (find (λ (one : Waiting). same_op one.op op) waiting)
answer_line schema me waiting _ = []

-- those whose operation is open still
abbrev pub is_open_at : Node → OpId → Bool
is_open_at node op = list_any (λ (o : Operation). same_op o.id op) node.open_operations

-- a step goes into the record: the event's own lines, its notes, what it puts to nodes, and then its replies to clients
abbrev pub recorded : Cluster → ℕ → Served → List Line → List Waiting → Step → Served
recorded c me now own waiting made = record {
  node = made.node;
  lines = now.lines ++ (((own ++ noted me made.notes) ++ put_out made.sends) ++ flat_map (answer_line c.schema me waiting) made.notes);
  journal = reverse (kept_of made) ++ now.journal;
  waiting = filter (λ (one : Waiting). is_open_at made.node one.op) waiting;
}

abbrev pub ticked : Cluster → ℕ → Meanings → ℕ → Served → Served
ticked c me handlers clock now = recorded c me now (noted me (Ticks clock ∷ [])) now.waiting (step (setting c handlers me) now.node (Tick clock))

-- a datagram that is no message, or none of its sender to this node, is recorded and changes nothing
abbrev pub with_lines : Served → List Line → Served
with_lines now more = record now { lines = now.lines ++ more }

abbrev pub is_from : Peer → ℕ → Bool
is_from (OfNode node) from = node == from
is_from (OfClient client) from = from == 0

-- what a client asks for: its operation begins, or it is told why not
abbrev pub refused_by : ℕ → Served → List Line → ℕ → ℕ → List ℕ → List ℕ → Served
refused_by me now got client token kind reason = with_lines now (got ++ reply_line me client token (codes "refused" ∷ kind ∷ reason ∷ []) ∷ [])

abbrev pub wished : Cluster → ℕ → Meanings → Served → List Line → ℕ → ℕ → Wish → Served
wished c me handlers now got client token (Refuses reason) = refused_by me now got client token (codes "schedule") (decimal reason)
wished c me handlers now got client token (Asks request text) =
    if names_nothing request
    then refused_by me now got client token (codes "world") (decimal 7)
    else recorded c me now (got ++ noted me (Begins (op_of (setting c handlers me) now.node.met) text ∷ []))
    (now.waiting ++ (record { op = op_of (setting c handlers me) now.node.met; client = client; token = token }) ∷ [])
    (step (setting c handlers me) now.node (Begin request text))

abbrev pub takes_message : Cluster → ℕ → (List ℕ → Wish) → Meanings → Served → List Line → Peer → Message → Served
takes_message c me wish handlers now got (OfNode node) m = recorded c me now got now.waiting (step (setting c handlers me) now.node (Take m))
takes_message c me wish handlers now got (OfClient client) m =
    elim m.body [ Requests token json ↦ wished c me handlers now got client token (wish json) | _ ↦ with_lines now got ]

abbrev pub given : Cluster → ℕ → (List ℕ → Wish) → Meanings → Served → List Line → Peer → Result Message ℕ → Served
given c me wish handlers now got from (Err at) = with_lines now got
given c me wish handlers now got from (Ok m) =
    if is_from from m.from && m.to == me then takes_message c me wish handlers now got from m else with_lines now got

abbrev pub received : Cluster → ℕ → (List ℕ → Wish) → Meanings → Served → Option (Peer × List ℕ) → Served
received c me wish handlers now None = now
received c me wish handlers now (Some one) = given c me wish handlers now (Got one.0 one.1 ∷ []) one.0 (whole_of message_at one.1)

-- a turn: the tick of the reading, and then the step of the datagram
abbrev pub turned : Cluster → ℕ → (List ℕ → Wish) → Served → Turn → Served
turned c me wish now turn = received c me wish turn.handlers (ticked c me turn.handlers turn.clock now) turn.datagram

-- a start counts itself in the journal; what it finds of earlier starts stands in the journal, and in no line
abbrev pub served_start : Cluster → ℕ → Meanings → List JournalItem → Served
served_start c me first before = record {
  node = start (setting c first me) (starts_of before + 1) [] (met_of me before);
  lines = noted me (start_items (setting c first me) (starts_of before + 1) [] (met_of me before));
  journal = Started ∷ before;
  waiting = [];
}

abbrev pub served : Cluster → ℕ → (List ℕ → Wish) → Meanings → List JournalItem → List Turn → Served
served c me wish first before turns = fold (turned c me wish) (served_start c me first before) turns

-- the journal of a log that was compacted: one body stands in the place of all items before it, and says what they say, as the logs of a voter
-- keep it; items since stand behind it. Journals stand newest first
pub record IsCompacted (all after : List JournalItem) : Type 0 where
  pub before : List JournalItem
  pub since : List JournalItem
  pub kept : Kept
  pub all_are : all ≡ since ++ before
  pub after_are : after ≡ since ++ reverse (compacted kept)
  pub says : Represents kept before
  pub says_same : Represents kept (reverse (compacted kept))

-- a node that found these journal items, and was given these turns, wrote this record, put out these datagrams, and left this journal
pub record IsNodeRun (c : Cluster) (me : ℕ) (wish : List ℕ → Wish) (first : Meanings) (before : List JournalItem) (turns : List Turn)
    (lines : List Line) (sends : List (Peer × List ℕ)) (after : List JournalItem) : Type 0 where
  pub record_is : lines ≡ (served c me wish first before turns).lines
  pub sends_are : sends ≡ filter_map put_in lines
  pub journal_is : (after ≡ (served c me wish first before turns).journal) ⊎ IsCompacted (served c me wish first before turns).journal after
