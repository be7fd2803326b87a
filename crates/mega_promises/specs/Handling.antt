-- What handlers make of messages, where handlers change between events: an entry that handles a message is what the handler made of it that stood
-- under the queue in the step in which the entry was made.
use Rattle.std.specs.Prelude.{◌≡◌, ℕ, ◌+◌, Contains, List, [], ◌∷◌, ◌++◌, take, slice_get, Option, Some}
use Rattle.mega_base.specs.declared.names.GroupId.{GroupId}
use Rattle.mega_base.specs.declared.names.OpId.{OpId}
use Rattle.mega_base.specs.declared.names.Position.{Position}
use Rattle.mega_cluster.specs.declared.cluster.Cluster.{Cluster}
use Rattle.mega_entry.specs.declared.content.Content.{Content}
use Rattle.mega_entry.specs.declared.content.Enter.{Enter}
use Rattle.mega_entry.specs.declared.content.Name.{Name}
use Rattle.mega_handler.specs.Named.{Meanings}
use Rattle.mega_outcome.specs.declared.answer.Answer.{Answer}
use Rattle.mega_outcome.specs.declared.request.Request.{Request}
use Rattle.mega_transcript.specs.declared.item.Item.{Item}
use Rattle.mega_transcript.specs.declared.item.Item.TheVariants.{Answer as AnswerItem}
use Rattle.mega_rules.specs.Queues.{oldest_unhandled}
use Rattle.mega_promises.specs.Causes.{HasCause}
use Rattle.mega_promises.specs.Fresh.{proposes}
use Rattle.mega_promises.specs.Moments.{StoodOn}
use Rattle.mega_promises.specs.Promises.{Stands, handled_by, log_of}
use Rattle.mega_promises.specs.Runs.{Cuts, Happening, Standing, goes_on, opening}

-- a moment of a run lies in one of its events, under the handlers that are there then
pub record IsDuring (c : Cluster) (first : Meanings) (cuts : Cuts) (events : List Happening) (moment : List Item) (handlers : Meanings) : Type 0 where
  pub earlier : List Happening
  pub one : Happening
  pub later : List Happening
  pub events_are : events ≡ earlier ++ one ∷ later
  pub handlers_are : one.handlers ≡ handlers
  pub since : List Item
  pub moment_is : moment ≡ since ++ (goes_on c cuts (opening c first) earlier).tape
  pub rest : List Item
  pub piece_is : (goes_on c cuts (opening c first) (earlier ++ one ∷ [])).tape ≡ rest ++ moment

-- an operation made this entry in the step in which it first proposed it
pub record WasMade (c : Cluster) (first : Meanings) (cuts : Cuts) (events : List Happening) (tape : List Item) (op : OpId) (group : GroupId) (n : Position) (entry : Content) (handlers : Meanings) : Type 0 where
  pub number : ℕ
  pub to : ℕ
  pub moment : List Item
  pub stood : StoodOn (proposes number op to group n entry) moment tape
  pub new : (other another : ℕ) → Stands (proposes other op another group n entry) moment → ⊥
  pub during : IsDuring c first cuts events moment handlers

pub record IsHandled (c : Cluster) (first : Meanings) (cuts : Cuts) (events : List Happening) (tape : List Item) (group : GroupId) (n : ℕ) (entry : Content) (name : Name) : Type 0 where
  pub message : Enter
  pub op : OpId
  pub handlers : Meanings
  pub oldest : oldest_unhandled (take n (log_of tape group)) ≡ Some message
  pub named : message.name ≡ name
  pub made : WasMade c first cuts events tape op group (record { 0 = n + 1 }) entry handlers
  pub is : entry ≡ handled_by c.schema handlers group op message (take n (log_of tape group))

-- in a run each message is handled so, and each answer has its cause, under the handlers of its step
pub record AreHandled (c : Cluster) (meaning : List ℕ → Option Request) (first : Meanings) (cuts : Cuts) (events : List Happening) (tape : List Item) : Type 0 where
  pub messages : (group : GroupId) (n : ℕ) (entry : Content) (name : Name) → slice_get (log_of tape group) n ≡ Some entry → Contains entry.handles name
      → IsHandled c first cuts events tape group n entry name
  pub answers : (op : OpId) (answer : Answer) (before : List Item) → StoodOn (AnswerItem op answer) before tape
      → (handlers : Meanings) × IsDuring c first cuts events before handlers × HasCause c meaning handlers before op answer
