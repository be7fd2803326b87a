-- What befalls a node over all its starts, where each start makes it anew from its journal alone; and what a tape tells of a node.
use Rattle.std.specs.Prelude.{◌≡◌, ℕ, ◌+◌, ◌==◌, Bool, true, if◌then◌else◌, List, [], ◌∷◌, ◌++◌, fold, map, reverse, Option, Some, None, option_map}
use Rattle.std.specs.List.{cons_option, list_any}
use Rattle.mega_cluster.specs.declared.cluster.Cluster.{Cluster}
use Rattle.mega_handler.specs.Named.{Meanings}
use Rattle.mega_locks.specs.History.{nodes as nine}
use Rattle.mega_wire.specs.declared.message.Body.{Body}
use Rattle.mega_wire.specs.declared.message.Body.TheVariants.{Acquire, Dead}
use Rattle.mega_wire.specs.declared.message.Message.{Message}
use Rattle.mega_wal.specs.declared.item.JournalItem.{JournalItem}
use Rattle.mega_wal.specs.declared.item.JournalItem.TheVariants.{Start as Started}
use Rattle.mega_wal.specs.History.{starts_of}
use Rattle.mega_transcript.specs.declared.item.Item.{Item}
use Rattle.mega_transcript.specs.declared.item.Item.TheVariants as items
use Rattle.mega_rules.specs.Met.{Met, Starts, Crashes, Ticks, Begins, Takes, Sends, Unsends, Grants, Lapses, Counts, Forgets, Serves, Loses, Validates, Invalidates, Decides, Applies, Answers}
use Rattle.mega_rules.specs.Operations.{Node}
use Rattle.mega_rules.specs.Steps.{Step, onto, start, start_notes, step}
use Rattle.mega_promises.specs.Messages.{message_of}
use Rattle.mega_promises.specs.NodeRuns.{Input, met_of, node_run}
use Rattle.mega_promises.specs.Runs.{empty_node, met_in, owes, replies_in, setting}
use Rattle.mega_promises.specs.Served.{kept_of}

-- what befalls a node: a start; a start that is cut off, its record kept or lost; an input, its step made whole, or cut off with its record kept or
-- lost; and a crash between them
pub data Befalls : Type 0 where
  StartsUp : (handlers : Meanings) → Befalls
  FailsToStart : (is_kept : Bool) → Befalls
  Does : (input : Input) → Befalls
  FallsIn : (input : Input) (is_kept : Bool) → Befalls
  Falls : Befalls

-- the node in its present start, the journal that all starts left, newest item first, what its next start is to show of a step that was cut off, and
-- what is told of the node, newest first
pub record Life : Type 0 where
  pub node : Node
  pub journal : List JournalItem
  pub owed : List Met
  pub told : List Met

abbrev pub unborn : Life
unborn = record { node = empty_node; journal = []; owed = []; told = [] }

abbrev pub own_in : Cluster → ℕ → Life → Input → Met
own_in c me now one = met_in (setting c one.handlers me) (now.node).met one.event

-- a step that is made whole, with its items in the journal
abbrev pub done : Cluster → ℕ → Life → Input → Step → Life
done c me now one made = record {
  node = made.node;
  journal = reverse (kept_of made) ++ now.journal;
  owed = now.owed;
  told = onto (map Sends made.sends) (onto made.notes (own_in c me now one ∷ now.told));
}

-- a step that is cut off: its items are in the journal where its record was kept, and the next start owes what it has to show
abbrev pub fallen_in : Cluster → ℕ → Life → Input → Bool → Step → Life
fallen_in c me now one is_kept made = record {
  node = now.node;
  journal = if is_kept then reverse (kept_of made) ++ now.journal else now.journal;
  owed = if is_kept then owes made (replies_in c me (now.node).met one.event) else [];
  told = Crashes ∷ own_in c me now one ∷ now.told;
}

abbrev pub befallen : Cluster → ℕ → Life → Befalls → Life
befallen c me now (StartsUp handlers) = record {
  node = start (setting c handlers me) (starts_of now.journal + 1) [] (met_of me now.journal);
  journal = Started ∷ now.journal;
  owed = [];
  told = onto (start_notes (setting c handlers me) (Starts (starts_of now.journal + 1) ∷ met_of me now.journal)) (onto now.owed (Starts (starts_of now.journal + 1) ∷ now.told));
}
befallen c me now (FailsToStart is_kept) = record { node = now.node; journal = if is_kept then Started ∷ now.journal else now.journal; owed = now.owed; told = Crashes ∷ now.told }
befallen c me now (Does one) = done c me now one (step (setting c one.handlers me) now.node one.event)
befallen c me now (FallsIn one is_kept) = fallen_in c me now one is_kept (step (setting c one.handlers me) now.node one.event)
befallen c me now Falls = record { node = now.node; journal = now.journal; owed = now.owed; told = Crashes ∷ now.told }

-- all that befell it, the newest first
abbrev pub lived : Cluster → ℕ → List Befalls → Life
lived c me [] = unborn
lived c me (one ∷ before) = befallen c me (lived c me before) one

-- a start, and these inputs, the oldest first
abbrev pub with_start : List Befalls → Meanings → List Input → List Befalls
with_start before first inputs = fold (λ all one. Does one ∷ all) (StartsUp first ∷ before) inputs

-- a start is a node run from the journal that was left before it, and what is told since is what it met since; behind its start stands what it owed
pub record IsOfNodeRun (c : Cluster) (me : ℕ) (before : List Befalls) (first : Meanings) (inputs : List Input) : Type 0 where
  pub node : (lived c me (with_start before first inputs)).node ≡ node_run c me first (lived c me before).journal inputs
  pub since : List Met
  pub met : (node_run c me first (lived c me before).journal inputs).met ≡ since ++ Starts (starts_of (lived c me before).journal + 1) ∷ met_of me (lived c me before).journal
  pub told : (lived c me (with_start before first inputs)).told ≡ since ++ onto (lived c me before).owed (Starts (starts_of (lived c me before).journal + 1) ∷ (lived c me before).told)

-- ---- what a tape tells of a node

-- the node whose lines stand there: that of the last tick, begin, taken message, start or crash
abbrev pub receiver : Option Message → ℕ
receiver None = 0
receiver (Some message) = message.to

abbrev pub actor : List Item → ℕ
actor [] = 0
actor (items.Start node start ∷ before) = node.0
actor (items.Crash node ∷ before) = node.0
actor (items.Tick node now ∷ before) = node.0
actor (items.Begin op text ∷ before) = op.node.0
actor (items.Taken number ∷ before) = receiver (message_of before number)
actor (_ ∷ before) = actor before

-- what a line tells that its node met; the message of a number stands on the tape before
abbrev pub told_by : List Item → Item → Option Met
told_by before (items.Start node start) = Some (Starts start)
told_by before (items.Crash node) = Some Crashes
told_by before (items.Tick node now) = Some (Ticks now)
told_by before (items.Begin op text) = Some (Begins op text)
told_by before (items.Taken number) = option_map Takes (message_of before number)
told_by before (items.Sent number message) = Some (Sends message)
told_by before (items.Unsent node message) = Some (Unsends message)
told_by before (items.Grant cell node epoch) = Some (Grants node.0 epoch)
told_by before (items.Lapse cell node epoch) = Some (Lapses node.0 epoch)
told_by before (items.Counts node cell epoch) = Some (Counts cell epoch)
told_by before (items.Forgets node cell epoch) = Some (Forgets cell epoch)
told_by before (items.Serving node epoch) = Some (Serves epoch)
told_by before (items.Lost node epoch) = Some (Loses epoch)
told_by before (items.Valid node group position) = Some (Validates group position.0)
told_by before (items.Invalid node group position) = Some (Invalidates group position.0)
told_by before (items.Decide node group position entry) = Some (Decides group position.0 entry)
told_by before (items.Apply node group position) = Some (Applies group position.0)
told_by before (items.Answer op answer) = Some (Answers op answer)
told_by before items.Cut = None
told_by before (items.Dropped number) = None
told_by before items.Unsafe = None

-- what all lines of a node tell, the newest first
abbrev pub told_of : ℕ → List Item → List Met
told_of me [] = []
told_of me (item ∷ before) = if actor (item ∷ before) == me then cons_option (told_by before item) (told_of me before) else told_of me before

-- the tape tells of the node what its life tells
pub record IsLife (c : Cluster) (me : ℕ) (tape : List Item) : Type 0 where
  pub befalls : List Befalls
  pub told : told_of me tape ≡ (lived c me befalls).told

-- what is asked of a cell comes from, or is about, one of the nine nodes that a cluster can have
abbrev pub is_of_nine : ℕ → Body → Bool
is_of_nine from (Acquire cell epoch clock) = list_any (λ other. other == from) nine
is_of_nine from (Dead op cell node) = list_any (λ other. other == node.0) nine
is_of_nine from _ = true

abbrev pub AreOfNine : List Item → Type 0
AreOfNine [] = Unit {0}
AreOfNine (items.Sent number message ∷ before) = (is_of_nine message.from message.body ≡ true) × AreOfNine before
AreOfNine (_ ∷ before) = AreOfNine before
