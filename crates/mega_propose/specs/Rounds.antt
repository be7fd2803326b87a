-- The round of an operation at one position: asking the leader, preparing, accepting, covering, settled
-- (Lamport 2001, the proposer; CIDR 2011, write algorithm).
use Rattle.std.specs.Prelude.{ℕ, ◌+◌, ◌==◌, ◌&&◌, ◌||◌, max, Bool, not, if◌then◌else◌, nat_le, List, [], ◌∷◌, ◌++◌, length, map, filter, flat_map, Option, Some, None}
use Rattle.std.specs.List.{list_all, list_any, range_with_len}
use Rattle.mega_base.specs.declared.names.OpId.{OpId}
use Rattle.mega_base.specs.declared.names.GroupId.{GroupId}
use Rattle.mega_base.specs.declared.names.Position.{Position}
pub use Rattle.mega_base.specs.Names.{greatest_u32 as last_round}
use Rattle.mega_ballot.specs.declared.ballot.Ballot.{Ballot}
use Rattle.mega_ballot.specs.Order.{zero_ballot}
use Rattle.mega_entry.specs.declared.content.Content.{Content}
use Rattle.mega_wire.specs.declared.message.Message.{Message}
use Rattle.mega_wire.specs.declared.message.Body.{Body}
use Rattle.mega_wire.specs.declared.message.Body.TheVariants.{Accept, Accepted, Refused, Prepare, Promise, Invalidate, Invalidated, Dead, Unheld}
use Rattle.mega_wal.specs.Same.{same_entry, same_group, same_op}
use Rattle.mega_wal.specs.Acceptor.{is_ballot_below}
pub use Rattle.mega_wal.specs.Acceptor.{is_same_ballot as same_ballot}
use Rattle.mega_propose.specs.Members.{has, is_majority, joined, others, with_node, without}
use Rattle.mega_propose.specs.declared.round.Site.{Site}
use Rattle.mega_propose.specs.declared.round.Report.{Report}
use Rattle.mega_propose.specs.declared.round.Free.{Free}
use Rattle.mega_propose.specs.declared.round.Cover.{Cover}
use Rattle.mega_propose.specs.declared.round.Round.{Round}
use Rattle.mega_propose.specs.declared.round.Round.TheVariants.{Asking, Preparing, Accepting, Covering, Settled, Waiting}
use Rattle.mega_propose.specs.declared.round.Proposal.{Proposal}
use Rattle.mega_propose.specs.declared.round.Move.{Move}

-- the messages of a round

abbrev pub message : Site → ℕ → Body → Message
message s to body = record { from = s.op.node.0; to = to; body = body }

abbrev pub accept_to : Site → Ballot → Content → ℕ → Message
accept_to s ballot entry to = message s to (Accept s.op s.group (record { 0 = s.position }) ballot entry)

abbrev pub prepare_to : Site → Ballot → ℕ → Message
prepare_to s ballot to = message s to (Prepare s.op s.group (record { 0 = s.position }) ballot)

abbrev pub invalidate_to : Site → ℕ → Message
invalidate_to s to = message s to (Invalidate s.op s.group (record { 0 = s.position }))

abbrev pub dead_to : Site → ℕ → ℕ → Message
dead_to s node cell = message s cell (Dead s.op cell (record { 0 = node }))

-- a round as it goes on

abbrev pub move : Proposal → Round → List Message → Move
move p round sends = record { proposal = record p { round = round }; sends = sends }

abbrev pub stays : Proposal → Move
stays p = move p p.round []

-- a new ballot, one round above all that were seen; after the last round there is none
abbrev pub next_ballot : Site → Proposal → Ballot
next_ballot s p = record { round = p.seen + 1; op = s.op }

abbrev pub prepares : Site → Proposal → ℕ → Move
prepares s p now =
    if nat_le last_round p.seen
    then move p Waiting []
    else record { proposal = record { own = p.own; seen = p.seen + 1; round = Preparing (next_ballot s p) [] now }; sends = map (prepare_to s (next_ballot s p)) s.voters }

-- the first of the greatest votes that were reported
abbrev pub greater_vote : Option (Ballot × Content) → Option (Ballot × Content) → Option (Ballot × Content)
greater_vote None other = other
greater_vote (Some vote) None = Some vote
greater_vote (Some vote) (Some other) = if is_ballot_below vote.0 other.0 then Some other else Some vote

abbrev pub greatest_vote : List Report → Option (Ballot × Content)
greatest_vote [] = None
greatest_vote (report ∷ reports) = greater_vote report.vote (greatest_vote reports)

-- the entry to propose: that of the greatest vote reported, or the operation's own
abbrev pub picked : Content → Option (Ballot × Content) → Content
picked own None = own
picked own (Some vote) = vote.1

-- what a covering hears more
abbrev pub is_same_free : Free → Free → Bool
is_same_free a b = a.cell == b.cell && a.node == b.node

abbrev pub with_free : Free → List Free → List Free
with_free free frees = if list_any (is_same_free free) frees then frees else frees ++ free ∷ []

abbrev pub with_accepted : Cover → ℕ → Cover
with_accepted cover node = record cover { accepted = with_node node cover.accepted }

abbrev pub with_invalidated : Cover → ℕ → Cover
with_invalidated cover node = record cover { invalidated = with_node node cover.invalidated }

abbrev pub with_cell : Cover → Free → Cover
with_cell cover free = record cover { free = with_free free cover.free }

abbrev pub with_told : Cover → List ℕ → Cover
with_told cover nodes = record cover { told = joined cover.told nodes }

-- a full node is covered: it accepted at this ballot, it is invalidated, or a majority of the cells holds nothing for it. The last two
-- count only as answers to what was sent while covering this position
abbrev pub is_free : Site → Cover → ℕ → Bool
is_free s cover node =
    has node cover.told && not (has node s.asked)
    && is_majority s.cells (length (filter (λ (free : Free). free.node == node) cover.free))

abbrev pub is_covered : Site → Cover → ℕ → Bool
is_covered s cover node = has node cover.accepted || has node cover.invalidated || is_free s cover node

abbrev pub uncovered : Site → Cover → List ℕ
uncovered s cover = filter (λ node. not (is_covered s cover node)) s.full

-- an entry that a majority accepted is settled as soon as each full node is covered
abbrev pub covers : Site → Ballot → Content → Cover → ℕ → Round
covers s ballot entry cover sent = if list_all (is_covered s cover) s.full then Settled entry cover.told else Covering ballot entry cover sent

abbrev pub first_cover : List ℕ → Cover
first_cover voted = record { accepted = voted; invalidated = []; free = []; told = [] }

abbrev pub accepts : Site → Ballot → Content → List ℕ → ℕ → Round
accepts s ballot entry voted sent =
    if is_majority (length s.voters) (length voted) then covers s ballot entry (first_cover voted) sent else Accepting ballot entry voted sent

-- a voter promised: a majority of promises leads to accepting
abbrev pub proposes : Site → Proposal → Ballot → List Report → ℕ → ℕ → Move
proposes s p ballot reports sent now =
    if is_majority (length s.voters) (length reports)
    then move p (Accepting ballot (picked p.own (greatest_vote reports)) [] now) (map (accept_to s ballot (picked p.own (greatest_vote reports))) s.voters)
    else move p (Preparing ballot reports sent) []

-- what an answer leads to

-- the entry is the one that was sent at the present ballot
abbrev pub is_sent : Ballot → Content → Ballot → Content → Bool
is_sent ballot entry b e = same_ballot ballot b && same_entry entry e

-- a voter accepted: the leader while it is asked, then the others
abbrev pub accepted : Site → Proposal → ℕ → ℕ → Ballot → Content → Move
accepted s p from now b e = elim p.round [
  | Asking leader sent ↦
      if from == leader && is_sent zero_ballot p.own b e
      then move p (accepts s zero_ballot p.own (if has leader s.voters then leader ∷ [] else []) now) (map (accept_to s zero_ballot p.own) (others leader s.voters))
      else stays p
  | Accepting ballot entry voted sent ↦
      if is_sent ballot entry b e && has from s.voters then move p (accepts s ballot entry (with_node from voted) sent) [] else stays p
  | Covering ballot entry cover sent ↦
      if is_sent ballot entry b e && has from s.voters then move p (covers s ballot entry (with_accepted cover from) sent) [] else stays p
  | _ ↦ stays p
]

-- the leader refused: the operation prepares. Elsewhere a refusal is only remembered
abbrev pub refused : Site → Proposal → ℕ → Move
refused s p now = elim p.round [ Asking leader sent ↦ prepares s p now | _ ↦ stays p ]

-- a voter promised: its first promise of the ballot counts
abbrev pub promised : Site → Proposal → ℕ → ℕ → Ballot → Option (Ballot × Content) → Move
promised s p from now b vote = elim p.round [
  | Preparing ballot reports sent ↦
      if same_ballot ballot b && has from s.voters && not (list_any (λ (report : Report). report.voter == from) reports)
      then proposes s p ballot (reports ++ record { voter = from; vote = vote } ∷ []) sent now
      else stays p
  | _ ↦ stays p
]

-- a coordinator is invalidated
abbrev pub invalidated : Site → Proposal → ℕ → Move
invalidated s p from = elim p.round [
  | Covering ballot entry cover sent ↦ if has from cover.told then move p (covers s ballot entry (with_invalidated cover from) sent) [] else stays p
  | _ ↦ stays p
]

-- a cell holds nothing for a node
abbrev pub unheld : Site → Proposal → ℕ → ℕ → Move
unheld s p cell node = elim p.round [
  | Covering ballot entry cover sent ↦
      if nat_le cell s.cells && has node cover.told
      then move p (covers s ballot entry (with_cell cover (record { cell = cell; node = node })) sent) []
      else stays p
  | _ ↦ stays p
]

-- the rounds that a message for this place shows are seen
abbrev pub vote_round : Option (Ballot × Content) → ℕ
vote_round None = 0
vote_round (Some vote) = (vote.0).round

abbrev pub sees : Proposal → ℕ → Proposal
sees p round = record p { seen = max p.seen round }

-- a message is for this place
abbrev pub is_here : Site → OpId → GroupId → Position → Bool
is_here s op group position = same_op s.op op && same_group s.group group && position.0 == s.position

-- what an operation does that takes a message from a node
abbrev pub takes : Site → Proposal → ℕ → ℕ → Body → Move
takes s p from now (Accepted op group position b e) = if is_here s op group position then accepted s (sees p b.round) from now b e else stays p
takes s p from now (Refused op group position asked shown e) =
    if is_here s op group position then refused s (sees p (max asked.round shown.round)) now else stays p
takes s p from now (Promise op group position b vote) =
    if is_here s op group position then promised s (sees p (max b.round (vote_round vote))) from now b vote else stays p
takes s p from now (Invalidated op group position) = if is_here s op group position then invalidated s p from else stays p
takes s p from now (Unheld op cell node) = if same_op s.op op && from == cell then unheld s p cell node.0 else stays p
takes s p from now (Accept op group position b e) = if is_here s op group position then stays (sees p b.round) else stays p
takes s p from now (Prepare op group position b) = if is_here s op group position then stays (sees p b.round) else stays p
takes s p from now _ = stays p

-- a round is due at a tick at or past its last sending plus retry: a covering tells each full node that is not covered, and asks the
-- cells about it; any other begins a new round
abbrev pub is_due : ℕ → ℕ → ℕ → Bool
is_due sent retry now = nat_le (sent + retry) now

abbrev pub cell_numbers : Site → List ℕ
cell_numbers s = range_with_len 1 s.cells

abbrev pub presses : Site → List ℕ → List Message
presses s nodes = map (invalidate_to s) nodes ++ flat_map (λ node. map (dead_to s node) (cell_numbers s)) nodes

abbrev pub tells : Site → Proposal → Ballot → Content → Cover → ℕ → Move
tells s p ballot entry cover now =
    move p (Covering ballot entry (with_told cover (uncovered s cover)) now)
    (presses s (uncovered s cover))

abbrev pub due : Site → Proposal → ℕ → ℕ → Move
due s p retry now = elim p.round [
  | Asking leader sent ↦ if is_due sent retry now then prepares s p now else stays p
  | Preparing ballot reports sent ↦ if is_due sent retry now then prepares s p now else stays p
  | Accepting ballot entry voted sent ↦ if is_due sent retry now then prepares s p now else stays p
  | Covering ballot entry cover sent ↦ if is_due sent retry now then tells s p ballot entry cover now else stays p
  | _ ↦ stays p
]

-- a round begins: with the leader at ballot zero, or, to complete a position, with prepares
abbrev pub asks : Site → ℕ → Content → ℕ → Move
asks s leader own now = record { proposal = record { own = own; seen = 0; round = Asking leader now }; sends = accept_to s zero_ballot own leader ∷ [] }

abbrev pub completes : Site → Content → ℕ → Move
completes s own now = prepares s (record { own = own; seen = 0; round = Waiting }) now

-- the entry that this round settled
abbrev pub settled : Proposal → Option Content
settled p = elim p.round [ Settled entry told ↦ Some entry | _ ↦ None ]

-- the nodes about which this round asked the cells
abbrev pub told_in : Proposal → List ℕ
told_in p = elim p.round [ Covering ballot entry cover sent ↦ cover.told | Settled entry told ↦ told | _ ↦ [] ]
