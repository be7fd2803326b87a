-- A run of a cluster: its tape is the opening starts, and then one piece for each event.
use Rattle.std.specs.Prelude.{◌≡◌, ℕ, zero, suc, ◌+◌, ◌*◌, ◌/◌, ◌==◌, ◌&&◌, ◌||◌, Bool, true, false, not, if◌then◌else◌, nat_le, nat_lt, List, [], ◌∷◌, ◌++◌, map, filter, flat_map, fold, Option, Some, None, is_some, option_map}
use Rattle.std.specs.List.{list_any}
use Rattle.mega_base.specs.declared.names.Epoch.{Epoch}
pub use Rattle.mega_base.specs.ListWords.{is_empty}
pub use Rattle.mega_outcome.specs.Naming.{names_nothing}
use Rattle.mega_cluster.specs.declared.cluster.Cluster.{Cluster}
use Rattle.mega_disk.specs.declared.pair.Device.{Device}
use Rattle.mega_disk.specs.declared.pair.Device.TheVariants.{Log, Data}
use Rattle.mega_handler.specs.Named.{Meanings}
use Rattle.mega_wire.specs.declared.message.Message.{Message}
use Rattle.mega_wire.specs.declared.message.Body.{Body}
use Rattle.mega_wire.specs.declared.message.Body.TheVariants.{Accepted, Promise}
use Rattle.mega_coordinator.specs.Lease.{counted_by}
use Rattle.mega_coordinator.specs.History.{epoch_after, lease_of}
use Rattle.mega_coordinator.specs.Groups.{is_same}
use Rattle.mega_schedule.specs.declared.world_event.WorldEvent.{WorldEvent}
use Rattle.mega_schedule.specs.declared.world_event.WorldEvent.TheVariants.{Tick as TickEvent, Deliver, Drop, Drain, Crash as CrashEvent, Start as StartEvent, Fuse as FuseEvent, Begin as BeginEvent}
use Rattle.mega_transcript.specs.declared.item.Item.{Item}
use Rattle.mega_transcript.specs.declared.item.Item.TheVariants.{Taken, Dropped, Counts as CountsItem, Lapse as LapseItem, Cut as CutItem, Unsafe}
use Rattle.mega_transcript.specs.Tape.{is_sent, sent_count}
use Rattle.mega_rules.specs.Met.{Met, Starts, Crashes, Ticks, Begins, Takes, Sends, Unsends, Grants, Lapses, Decides}
use Rattle.mega_rules.specs.Members.{has_rows, is_node, nodes}
use Rattle.mega_rules.specs.Clock.{clock_of, is_up, start_of}
use Rattle.mega_rules.specs.Coordinators.{coordinator_calls}
use Rattle.mega_rules.specs.Operations.{Node, Setting}
use Rattle.mega_rules.specs.Replies.{reply_to}
use Rattle.mega_rules.specs.Steps.{Event, Tick, Take, Begin, Step, crashed, op_of, start, start_items, step}
use Rattle.mega_promises.specs.Items.{number, numbered, shown}
use Rattle.mega_promises.specs.Messages.{is_dropped, is_unsafe, message_of, next_delivery}
use Rattle.mega_promises.specs.Looks.{looks_at_rows, may_be_full}

-- a fuse that is set on a device and not burnt: the calls that it leaves, what it makes of the writes that are pending as it burns, and the
-- records appended since it was set
pub record Fuse : Type 0 where
  pub calls : ℕ
  pub image : ℕ
  pub appended : ℕ

-- what a cut leaves on the log: the list as it was; the list compacted; or the step's record too, behind the list, compacted where that was due
pub data Left : Type 0 where
  AsItWas : Left
  Compacted : Left
  Recorded : Left

-- what becomes of a step or a start: it is made whole, or the fuse of its log or of its data device cuts it and leaves this
pub data Fate : Type 0 where
  Whole : Fate
  CutByLog : (left : Left) → Fate
  CutByData : (left : Left) → Fate

-- how a run stands: its tape, the nodes, the fuses, how often each node's log tells that it started, how many records stand on the log since
-- its last compaction, and what the next start owes to a step that was cut and whose record is kept
pub record Standing : Type 0 where
  pub tape : List Item
  pub node : ℕ → Node
  pub log_fuse : ℕ → Option Fuse
  pub data_fuse : ℕ → Option Fuse
  pub starts : ℕ → ℕ
  pub records : ℕ → ℕ
  pub owed : ℕ → List Met

abbrev pub set_at : {X : Type 0} → (ℕ → X) → ℕ → X → ℕ → X
set_at f node x other = if node == other then x else f other

abbrev pub setting : Cluster → Meanings → ℕ → Setting
setting c h me = record { cluster = c; me = me; handlers = h }

-- leases are safe as long as no coordinator counts a cell under an epoch that the cell has lapsed

abbrev pub same_epoch : Option Epoch → Epoch → Bool
same_epoch None epoch = false
same_epoch (Some other) epoch = is_same other epoch

abbrev pub counts_cell : Cluster → List Met → ℕ → Epoch → Bool
counts_cell c met cell epoch =
    is_up met && same_epoch (epoch_after (start_of met) c.cells (coordinator_calls c met)) epoch
    && is_some (counted_by (lease_of (start_of met) c.cells (coordinator_calls c met)) cell)

abbrev pub has_lapsed : List Met → ℕ → Epoch → Bool
has_lapsed [] node epoch = false
has_lapsed (Lapses other e ∷ before) node epoch = (other == node && is_same e epoch) || has_lapsed before node epoch
has_lapsed (_ ∷ before) node epoch = has_lapsed before node epoch

-- the item by which leases are not safe. Within a piece nothing behind a `counts` or a `lapse` changes what is counted or has lapsed, so
-- the nodes after the piece may be looked at
abbrev pub breaks : Cluster → (ℕ → Node) → Item → Bool
breaks c node (LapseItem cell other epoch) = counts_cell c (node other.0).met cell epoch
breaks c node (CountsItem other cell epoch) = has_lapsed (node cell).met other.0 epoch
breaks c node _ = false

-- items come onto the tape; the first that shows that leases are not safe is followed by `unsafe`, once
abbrev pub with_item : Cluster → (ℕ → Node) → List Item → Item → List Item
with_item c node tape item = if breaks c node item && not (is_unsafe tape) then Unsafe ∷ item ∷ tape else item ∷ tape

abbrev pub with_items : Cluster → (ℕ → Node) → List Item → List Item → List Item
with_items c node tape items = fold (with_item c node) tape items

-- a step appends a record exactly where it answers with a promise or an acceptance, or has a decision, a grant or a lapse
abbrev pub is_vote : Body → Bool
is_vote (Promise op group position ballot vote) = true
is_vote (Accepted op group position ballot entry) = true
is_vote _ = false

abbrev pub is_durable : Met → Bool
is_durable (Grants node epoch) = true
is_durable (Lapses node epoch) = true
is_durable (Decides group position entry) = true
is_durable _ = false

abbrev pub appends : Step → Bool
appends made = list_any (λ (m : Message). is_vote m.body) made.sends || list_any is_durable made.notes

-- what a start owes to a step that was cut: its grants, lapses and decision, and its reply, which was not sent
abbrev pub owes : Step → List Message → List Met
owes made replies = filter is_durable made.notes ++ map Unsends replies

-- how a step or a start calls its devices: whether it compacts its log first, appends a record, and uses its data device; a start may use that
-- behind its append too
pub record Calls : Type 0 where
  pub compacts : Bool
  pub appends : Bool
  pub uses_data : Bool
  pub is_start : Bool

-- 4,096 records that stand on the log since its last compaction are compacted at the beginning of a step
abbrev pub compacts : Standing → ℕ → Bool
compacts now me = nat_le 4096 (now.records me)

abbrev pub calls_of : Cluster → Meanings → Standing → ℕ → Event → Step → Calls
calls_of c h now me event made = record {
  compacts = compacts now me;
  appends = appends made;
  uses_data = has_rows c me && (may_be_full (now.node me) || looks_at_rows (setting c h me) (now.node me) event made);
  is_start = false;
}

-- a start never compacts
abbrev pub start_calls : Cluster → ℕ → Calls
start_calls c me = record { compacts = false; appends = true; uses_data = has_rows c me; is_start = true }

-- a fuse on the log with so many calls cuts the append that makes one more, an append being four calls, unless it cut an earlier one
abbrev pub is_burning : Option Fuse → Bool
is_burning None = false
is_burning (Some fuse) = nat_le (fuse.calls / 4) fuse.appended

-- the log's fuse cuts a compaction, which leaves the old list or the new one, or an append; a record is kept where its gate was written and
-- the image keeps what is pending
abbrev pub is_left_by_log : Calls → Option Fuse → Left → Bool
is_left_by_log calls None left = false
is_left_by_log calls (Some fuse) AsItWas = calls.compacts || calls.appends
is_left_by_log calls (Some fuse) Compacted = calls.compacts
is_left_by_log calls (Some fuse) Recorded = calls.appends && fuse.image == 1

-- the data device's fuse cuts behind a compaction, and before the append; a start also behind it
abbrev pub is_left_by_data : Calls → Option Fuse → Left → Bool
is_left_by_data calls log_fuse AsItWas = not calls.compacts
is_left_by_data calls log_fuse Compacted = calls.compacts
is_left_by_data calls log_fuse Recorded = calls.is_start && not (is_burning log_fuse)

-- what may become of a step or a start with these calls, under the fuses of its log and its data device
abbrev pub may_become : Calls → Option Fuse → Option Fuse → Fate → Bool
may_become calls log_fuse data_fuse Whole = not (calls.appends && is_burning log_fuse)
may_become calls log_fuse data_fuse (CutByLog left) = is_left_by_log calls log_fuse left
may_become calls log_fuse data_fuse (CutByData left) = (is_some data_fuse && calls.uses_data) && is_left_by_data calls log_fuse left

abbrev pub MayBecome : Standing → ℕ → Calls → Fate → Type 0
MayBecome now me calls fate = may_become calls (now.log_fuse me) (now.data_fuse me) fate ≡ true

-- what becomes of it: this, where it may; else it is whole, or is cut at the append that its log's fuse names
abbrev pub fate_of : Standing → ℕ → Calls → Fate → Fate
fate_of now me calls cut =
    if may_become calls (now.log_fuse me) (now.data_fuse me) cut then cut else (if calls.appends && is_burning (now.log_fuse me) then CutByLog AsItWas else Whole)

-- the same of what is said for these calls
abbrev pub fate_by : Standing → ℕ → (Calls → Fate) → Calls → Fate
fate_by now me cut calls = fate_of now me calls (cut calls)

-- a fuse after an append
abbrev pub after_append : Option Fuse → Option Fuse
after_append fuse = option_map (λ (fuse : Fuse). record fuse { appended = fuse.appended + 1 }) fuse

abbrev pub log_fuse_after : Standing → ℕ → Bool → ℕ → Option Fuse
log_fuse_after now me is_appending = set_at now.log_fuse me (if is_appending then after_append (now.log_fuse me) else now.log_fuse me)

-- the records on the log after a step
abbrev pub records_after : Standing → ℕ → Bool → ℕ → ℕ
records_after now me is_appending = set_at now.records me ((if compacts now me then 0 else now.records me) + (if is_appending then 1 else 0))

-- and after a cut; of a start the record alone counts
abbrev pub records_left : Standing → ℕ → Left → ℕ → ℕ
records_left now me AsItWas = now.records
records_left now me Compacted = set_at now.records me 0
records_left now me Recorded = records_after now me true

abbrev pub is_kept : Left → Bool
is_kept Recorded = true
is_kept _ = false

-- a step is whole: the event's own item, its notes, and what it sends with the next numbers
abbrev pub whole_step : Cluster → Standing → ℕ → List Item → Step → Standing
whole_step c now me own made = record now {
  tape = with_items c (set_at now.node me made.node) now.tape ((own ++ flat_map (shown me) made.notes) ++ numbered (sent_count now.tape + 1) made.sends);
  node = set_at now.node me made.node;
  log_fuse = log_fuse_after now me (appends made);
  records = records_after now me (appends made);
}

-- a step is cut: the event's own item and the crash. Its durable changes are kept whole or not at all, and the fuse is burnt
abbrev pub cut_step : Cluster → Standing → ℕ → List Item → Met → Left → List Met → (ℕ → Option Fuse) → (ℕ → Option Fuse) → Standing
cut_step c now me own met left owed log_fuse data_fuse = record now {
  tape = with_items c (set_at now.node me (crashed (record { met = met ∷ (now.node me).met; open_operations = []; stored = (now.node me).stored }))) now.tape (own ++ shown me Crashes);
  node = set_at now.node me (crashed (record { met = met ∷ (now.node me).met; open_operations = []; stored = (now.node me).stored }));
  log_fuse = log_fuse;
  data_fuse = data_fuse;
  records = records_left now me left;
  owed = set_at now.owed me owed;
}

abbrev pub fated : Cluster → Standing → ℕ → List Item → Met → Step → List Message → Fate → Standing
fated c now me own met made replies Whole = whole_step c now me own made
fated c now me own met made replies (CutByLog left) =
    cut_step c now me own met left (if is_kept left then owes made replies else []) (set_at now.log_fuse me None) now.data_fuse
fated c now me own met made replies (CutByData left) = cut_step c now me own met left [] now.log_fuse (set_at now.data_fuse me None)

-- the reply of a step: to the message that it takes
abbrev pub replies_in : Cluster → ℕ → List Met → Event → List Message
replies_in c me met (Take message) = reply_to c me met message
replies_in c me met _ = []

abbrev pub met_in : Setting → List Met → Event → Met
met_in s met (Tick now) = Ticks now
met_in s met (Take message) = Takes message
met_in s met (Begin request text) = Begins (op_of s met) text

-- an event at a node, by what fuses may make of it
abbrev pub at_node : Cluster → Meanings → Standing → ℕ → List Item → Event → (Calls → Fate) → Standing
at_node c h now me own event cut =
    fated c now me own (met_in (setting c h me) (now.node me).met event) (step (setting c h me) (now.node me) event) (replies_in c me (now.node me).met event)
    (fate_by now me cut (calls_of c h now me event (step (setting c h me) (now.node me) event)))

-- a start counts itself on its log by one record, shows what it owes, and applies all
abbrev pub started_records : Standing → ℕ → ℕ → ℕ
started_records now me = set_at now.records me (now.records me + 1)

abbrev pub whole_start : Cluster → Standing → ℕ → List Met → Node → Standing
whole_start c now me items node = record now {
  tape = with_items c (set_at now.node me node) now.tape (flat_map (shown me) items);
  node = set_at now.node me node;
  log_fuse = log_fuse_after now me true;
  starts = set_at now.starts me (now.starts me + 1);
  records = started_records now me;
  owed = set_at now.owed me [];
}

-- a start that is cut shows the crash alone; its record is kept or lost, and it still owes what it owed
abbrev pub cut_start : Standing → ℕ → Left → (ℕ → Option Fuse) → (ℕ → Option Fuse) → Standing
cut_start now me left log_fuse data_fuse = record now {
  tape = flat_map (shown me) (Crashes ∷ []) ++ now.tape;
  node = set_at now.node me (crashed (now.node me));
  log_fuse = log_fuse;
  data_fuse = data_fuse;
  starts = set_at now.starts me (if is_kept left then now.starts me + 1 else now.starts me);
  records = if is_kept left then started_records now me else now.records;
}

abbrev pub fated_start : Cluster → Meanings → Standing → ℕ → Fate → Standing
fated_start c h now me Whole =
    whole_start c now me (start_items (setting c h me) (now.starts me + 1) (now.owed me) (now.node me).met)
    (start (setting c h me) (now.starts me + 1) (now.owed me) (now.node me).met)
fated_start c h now me (CutByLog left) = cut_start now me left (set_at now.log_fuse me None) now.data_fuse
fated_start c h now me (CutByData left) = cut_start now me left (log_fuse_after now me (is_kept left)) (set_at now.data_fuse me None)

-- the cuts of fuses that fail at the append which they name, and at no call before: its record is kept where the call that opens the record's
-- gate was the last that went well, and the image keeps what is pending; a fuse of the data device never burns
abbrev pub left_by : Option Fuse → Left
left_by None = AsItWas
left_by (Some fuse) = if fuse.calls == 4 * fuse.appended + 3 && fuse.image == 1 then Recorded else AsItWas

-- which nodes are up
abbrev pub up : Standing → ℕ → Bool
up now node = is_up (now.node node).met

-- an item that no node meets
abbrev pub marked : Standing → Item → Standing
marked now item = record now { tape = item ∷ now.tape }

-- what fuses cut: what may become of each step and start, told by how the run stands before it, by the node, and by how that calls its devices
abbrev pub Cuts : Type 0
Cuts = Standing → ℕ → Calls → Fate

abbrev pub by_fuse : Cuts
by_fuse now me calls = if calls.appends && is_burning (now.log_fuse me) then CutByLog (left_by (now.log_fuse me)) else Whole

-- message k is handed to its receiver
abbrev pub handed : Cluster → Meanings → Cuts → Standing → ℕ → Option Message → Standing
handed c h cuts now number None = now
handed c h cuts now number (Some message) = at_node c h now message.to (Taken number ∷ []) (Take message) (cuts now message.to)

abbrev pub delivered : Cluster → Meanings → Cuts → Standing → ℕ → Standing
delivered c h cuts now number = handed c h cuts now number (message_of now.tape number)

-- a drain delivers the least deliverable message again and again, at most so many times; where that many were delivered and one is left, it is cut
abbrev pub unless_none : Standing → (ℕ → Standing) → Option ℕ → Standing
unless_none now going_on None = now
unless_none now going_on (Some number) = going_on number

abbrev pub drained : Cluster → Meanings → Cuts → Standing → ℕ → Standing
drained c h cuts now zero = unless_none now (λ number. marked now CutItem) (next_delivery (up now) now.tape)
drained c h cuts now (suc most) = unless_none now (λ number. drained c h cuts (delivered c h cuts now number) most) (next_delivery (up now) now.tape)

-- a node that crashes shows it; a fuse is set in place of one that was set before on the same device
abbrev pub crashes : Standing → ℕ → Standing
crashes now me = record now { tape = flat_map (shown me) (Crashes ∷ []) ++ now.tape; node = set_at now.node me (crashed (now.node me)) }

abbrev pub new_fuse : ℕ → ℕ → Option Fuse
new_fuse calls image = Some (record { calls = calls; image = image; appended = 0 })

abbrev pub fused : Standing → ℕ → ℕ → ℕ → Device → Standing
fused now me calls image Log = record now { log_fuse = set_at now.log_fuse me (new_fuse calls image) }
fused now me calls image Data = record now { data_fuse = set_at now.data_fuse me (new_fuse calls image) }

-- what an event leads to
abbrev pub after_event : Cluster → Meanings → Cuts → Standing → WorldEvent → Standing
after_event c h cuts now (TickEvent node clock) = at_node c h now node.0 (shown node.0 (Ticks clock)) (Tick clock) (cuts now node.0)
after_event c h cuts now (Deliver message) = delivered c h cuts now message
after_event c h cuts now (Drop message) = marked now (Dropped message)
after_event c h cuts now (Drain most) = drained c h cuts now most
after_event c h cuts now (CrashEvent node) = crashes now node.0
after_event c h cuts now (StartEvent node) = fated_start c h now node.0 (fate_by now node.0 (cuts now node.0) (start_calls c node.0))
after_event c h cuts now (FuseEvent node calls image device) = fused now node.0 calls image device
after_event c h cuts now (BeginEvent node request text) =
    at_node c h now node.0 (shown node.0 (Begins (op_of (setting c h node.0) (now.node node.0).met) text)) (Begin request text) (cuts now node.0)

-- why an event is refused: 6 for no such node, 3 for no such message, 4 for a dropped one, 1 at a node that is down, 2 for a start of one
-- that is up, 5 where the clock goes back, 7 where the request names no group or index of the schema; tried in this order

abbrev pub because : Bool → ℕ → Option ℕ → Option ℕ
because is_broken why other = if is_broken then Some why else other

abbrev pub receiver_down : Standing → Option Message → Bool
receiver_down now None = false
receiver_down now (Some message) = not (up now message.to)

abbrev pub refusal : Cluster → Standing → WorldEvent → Option ℕ
refusal c now (TickEvent node clock) =
    because (not (is_node c node.0)) 6 (because (not (up now node.0)) 1 (because (nat_lt clock (clock_of (now.node node.0).met)) 5 None))
refusal c now (Deliver message) =
    because (not (is_sent now.tape message)) 3 (because (is_dropped now.tape message) 4 (because (receiver_down now (message_of now.tape message)) 1 None))
refusal c now (Drop message) = because (not (is_sent now.tape message)) 3 (because (is_dropped now.tape message) 4 None)
refusal c now (Drain most) = None
refusal c now (CrashEvent node) = because (not (is_node c node.0)) 6 (because (not (up now node.0)) 1 None)
refusal c now (StartEvent node) = because (not (is_node c node.0)) 6 (because (up now node.0) 2 None)
refusal c now (FuseEvent node calls image device) = because (not (is_node c node.0)) 6 None
refusal c now (BeginEvent node request text) =
    because (not (is_node c node.0)) 6 (because (not (up now node.0)) 1 (because (names_nothing request) 7 None))

-- an event that is refused changes nothing
abbrev pub unless_refused : Standing → Standing → Option ℕ → Standing
unless_refused now next None = next
unless_refused now next (Some why) = now

-- every node is started before the first event, in order, on empty disks
abbrev pub empty_node : Node
empty_node = record { met = []; open_operations = []; stored = λ group. 0 }

abbrev pub nothing_yet : Standing
nothing_yet = record { tape = []; node = λ me. empty_node; log_fuse = λ me. None; data_fuse = λ me. None; starts = λ me. 0; records = λ me. 0; owed = λ me. [] }

abbrev pub opening : Cluster → Meanings → Standing
opening c h = fold (λ now me. fated_start c h now me Whole) nothing_yet (nodes c)

-- an event under the handlers that are there then
pub record Happening : Type 0 where
  pub handlers : Meanings
  pub event : WorldEvent

abbrev pub goes_on : Cluster → Cuts → Standing → List Happening → Standing
goes_on c cuts now events = fold (λ now one. unless_refused now (after_event c one.handlers cuts now one.event) (refusal c now one.event)) now events

-- the tape is a run of the cluster over these events, whatever the fuses that were set cut of it
pub record IsRun (c : Cluster) (first : Meanings) (events : List Happening) (tape : List Item) : Type 0 where
  pub cuts : Cuts
  pub tape_is : tape ≡ (goes_on c cuts (opening c first) events).tape
