-- A current read of a group: it is local or polls, and then completes what its node has not decided (CIDR 2011, reads and catch-up).
use Rattle.std.specs.Prelude.{ℕ, ◌+◌, ◌==◌, ◌&&◌, ◌||◌, max, Bool, false, not, if◌then◌else◌, List, [], ◌∷◌, ◌++◌, length, map, Option, Some, None, option_map}
use Rattle.std.specs.List.{list_all}
use Rattle.mega_base.specs.declared.names.OpId.{OpId}
use Rattle.mega_base.specs.declared.names.Epoch.{Epoch}
use Rattle.mega_base.specs.declared.names.GroupId.{GroupId}
use Rattle.mega_base.specs.declared.names.Position.{Position}
use Rattle.mega_entry.specs.declared.content.Content.{Content}
use Rattle.mega_entry.specs.Entries.{entry_by}
use Rattle.mega_propose.specs.of_wire.declared.message.Message.{Message}
use Rattle.mega_propose.specs.of_wire.declared.message.Body.{Body}
use Rattle.mega_propose.specs.of_wire.declared.message.Body.TheVariants.{Where, Top, Fetch, HaveNot}
use Rattle.mega_propose.specs.of_wal.Same.{same_group, same_op}
use Rattle.mega_propose.specs.Members.{has, is_majority, joined, others, with_node, without}
use Rattle.mega_propose.specs.declared.round.Proposal.{Proposal}
use Rattle.mega_propose.specs.declared.round.Site.{Site}
use Rattle.mega_propose.specs.declared.round.Move.{Move as RoundMove}
use Rattle.mega_propose.specs.Rounds.{completes, due, is_due, settled, takes, told_in}
use Rattle.mega_read.specs.declared.reading.Reader.{Reader}
use Rattle.mega_read.specs.declared.reading.Search.{Search}
use Rattle.mega_read.specs.declared.reading.Search.TheVariants.{Fetching, Filling}
use Rattle.mega_read.specs.declared.reading.Stage.{Stage}
use Rattle.mega_read.specs.declared.reading.Stage.TheVariants.{Polling, Catching}
use Rattle.mega_read.specs.declared.reading.Reading.{Reading}
use Rattle.mega_read.specs.declared.reading.Move.{Move}

-- a read that has asked nobody yet
abbrev pub first_reading : ℕ → Reading
first_reading now = record { noted = None; asked = []; stage = Polling [] 0 now }

-- a read as it goes on

abbrev pub move : Reading → Stage → List Message → Move
move r stage sends = record { reading = record r { stage = stage }; sends = sends }

abbrev pub stays : Reading → Move
stays r = move r r.stage []

abbrev pub message : Reader → ℕ → Body → Message
message who to body = record { from = who.op.node.0; to = to; body = body }

abbrev pub where_to : Reader → ℕ → Message
where_to who to = message who to (Where who.op who.group)

abbrev pub fetch_to : Reader → ℕ → ℕ → Message
fetch_to who position to = message who to (Fetch who.op who.group (record { 0 = position }))

-- a read of a valid group is local, through the greatest position that its node accepted or decided; any other polls all voters
abbrev pub local_read : List ℕ → ℕ → Move
local_read asked top = record { reading = record { noted = None; asked = asked; stage = Catching top None }; sends = [] }

abbrev pub polled_read : Reader → Option Epoch → List ℕ → ℕ → Move
polled_read who noted asked now =
    record { reading = record { noted = noted; asked = asked; stage = Polling [] 0 now }; sends = map (where_to who) who.voters }

-- the first answer of each voter counts, and of the first majority the greatest position
abbrev pub topped : Reader → Reading → ℕ → ℕ → List ℕ → ℕ → ℕ → Move
topped who r from top heard best sent =
    if has from heard || not (has from who.voters)
    then stays r
    else (if is_majority (length who.voters) (length heard + 1)
    then move r (Catching (max best top) None) []
    else move r (Polling (heard ++ from ∷ []) (max best top) sent) [])

-- a no-op: it names its proposer's node as the next leader, and nothing else
abbrev pub no_op : Reader → Content
no_op who = record (entry_by who.op) { id = None }

abbrev pub site : Reader → List ℕ → ℕ → Site
site who asked position =
    record { op = who.op; group = who.group; position = position; voters = who.voters; full = who.full; cells = who.cells; asked = asked }

-- the round of a no-op goes on
abbrev pub filled : Reading → ℕ → ℕ → RoundMove → Move
filled r through position t = move r (Catching through (Some (Filling position t.proposal))) t.sends

-- a no-op is proposed at a position
abbrev pub fills : Reader → Reading → ℕ → ℕ → ℕ → Move
fills who r through position now = filled r through position (completes (site who r.asked position) (no_op who) now)

-- the voters that can be asked for an entry
abbrev pub helpers : Reader → List ℕ
helpers who = others who.op.node.0 who.voters

-- an entry is fetched from all other voters; where there is none, a no-op is proposed at once
abbrev pub fetches : Reader → Reading → ℕ → ℕ → ℕ → Move
fetches who r through position now = elim (helpers who) [
  | [] ↦ fills who r through position now
  | voter ∷ voters ↦ move r (Catching through (Some (Fetching position [] now))) (map (fetch_to who position) (voter ∷ voters))
]

-- a voter has not decided the position: once all others said so, a no-op is proposed
abbrev pub denied : Reader → Reading → ℕ → ℕ → ℕ → List ℕ → ℕ → ℕ → Move
denied who r from through position denials sent now =
    if list_all (λ voter. has voter (with_node from denials)) (helpers who)
    then fills who r through position now
    else move r (Catching through (Some (Fetching position (with_node from denials) sent))) []

-- what a read does that takes a message from a node
abbrev pub hears : Reader → Reading → ℕ → ℕ → Body → Move
hears who r from now body = by r.stage body
  where
    by : Stage → Body → Move
    by (Polling heard best sent) (Top op group top) =
        if same_op who.op op && same_group who.group group then topped who r from top.0 heard best sent else stays r
    by (Catching through (Some (Fetching position denials sent))) (HaveNot op group n) =
        if same_op who.op op && same_group who.group group && n.0 == position && has from (helpers who)
        then denied who r from through position denials sent now
        else stays r
    by (Catching through (Some (Filling position proposal))) other = filled r through position (takes (site who r.asked position) proposal from now other)
    by _ _ = stays r

-- what is due at a tick: a poll asks those again that have not answered, a fetch gives way to a no-op, and its round goes on
abbrev pub falls_due : Reader → Reading → ℕ → ℕ → Move
falls_due who r retry now = elim r.stage [
  | Polling heard best sent ↦
      if is_due sent retry now then move r (Polling heard best now) (map (where_to who) (without heard who.voters)) else stays r
  | Catching through None ↦ stays r
  | Catching through (Some (Fetching position denials sent)) ↦ if is_due sent retry now then fills who r through position now else stays r
  | Catching through (Some (Filling position proposal)) ↦ filled r through position (due (site who r.asked position) proposal retry now)
]

-- the entry that the read's round settled, and where
abbrev pub settled_there : ℕ → Option Content → Option (ℕ × Content)
settled_there position entry = option_map (λ (entry : Content). (position, entry)) entry

abbrev pub read_settled : Reading → Option (ℕ × Content)
read_settled r = elim r.stage [ Catching through (Some (Filling position proposal)) ↦ settled_there position (settled proposal) | _ ↦ None ]

-- the position through which the read reads, once it has it
abbrev pub through_of : Reading → Option ℕ
through_of r = elim r.stage [ Polling heard best sent ↦ None | Catching through search ↦ Some through ]

-- the nodes about which a read asked the cells, with those of its present round
abbrev pub search_told : Option Search → List ℕ
search_told (Some (Filling position proposal)) = told_in proposal
search_told _ = []

abbrev pub asked_by : Reading → List ℕ
asked_by r = elim r.stage [ Polling heard best sent ↦ r.asked | Catching through search ↦ joined r.asked (search_told search) ]

-- the position that a search completes
abbrev pub searched : Option Search → Option ℕ
searched None = None
searched (Some (Fetching position denials sent)) = Some position
searched (Some (Filling position proposal)) = Some position

abbrev pub is_position : ℕ → Option ℕ → Bool
is_position n None = false
is_position n (Some position) = position == n

-- a read turns to the least position that its node has not decided, where it does not complete that one already
abbrev pub seeks : Reader → Reading → ℕ → ℕ → Move
seeks who r least now = elim r.stage [
  | Polling heard best sent ↦ stays r
  | Catching through search ↦
      if is_position least (searched search)
      then stays r
      else fetches who (record r { asked = asked_by r }) through least now
]
