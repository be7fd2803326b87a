-- A tape is lawful where each item was allowed at its moment, by what stood before it (Lamport 2001, "Paxos Made Simple"; CIDR 2011,
-- write algorithm). Ballot zero is shared by all operations: it goes to the position's leader first.
use Rattle.std.specs.Prelude.{◌≡◌, ℕ, suc, ◌<◌, Bool, true, false, List, [], ◌∷◌, slice_get, Option, Some, None}
use Rattle.mega_base.specs.declared.names.OpId.{OpId}
use Rattle.mega_base.specs.declared.names.Position.{Position}
use Rattle.mega_ballot.specs.declared.ballot.Ballot.{Ballot}
use Rattle.mega_ballot.specs.Order.{zero_ballot}
use Rattle.mega_cluster.specs.declared.cluster.Cluster.{Cluster}
use Rattle.mega_entry.specs.declared.content.Content.{Content}
use Rattle.mega_wire.specs.declared.message.Message.{Message}
use Rattle.mega_wire.specs.declared.message.Body.{Body}
use Rattle.mega_wire.specs.declared.message.Body.TheVariants.{Accept, Accepted, Prepare, Promise, Refused, Have, Decide as Tell}
use Rattle.mega_wal.specs.declared.answers.Promised.TheVariants as promise
use Rattle.mega_wal.specs.declared.answers.Voted.TheVariants as vote
use Rattle.mega_wal.specs.Acceptor.{Vote, accept_answer, is_ballot_below, promise_answer}
use Rattle.mega_promises.specs.of_transcript.declared.item.Item.{Item}
use Rattle.mega_promises.specs.of_transcript.declared.item.Item.TheVariants.{Decide, Sent, Unsent}
use Rattle.mega_promises.specs.Items.{number}
use Rattle.mega_promises.specs.Promises.{Stands}
use Rattle.mega_promises.specs.of_rules.Members.{voters}
use Rattle.mega_promises.specs.of_rules.Voting.{prepared, voted}
use Rattle.mega_tape_laws.specs.Places.{IsAbove, IsMajority, Place, Prepares, Proposes, Took, acts, moves, newest}

-- a message to a node
abbrev pub message : ℕ → ℕ → Body → Message
message from to body = record { from = from; to = to; body = body }

-- the operation took such an answer of a voter
abbrev pub Heard : List Item → ℕ → OpId → Body → Type 0
Heard tape voter op body = Took tape (message voter op.node.0 body)

-- ---- the acceptor

-- it promises what it was asked to, with its best vote there, unless it showed a greater ballot
pub record MayPromise (tape : List Item) (from voter : ℕ) (op : OpId) (p : Place) (b : Ballot) (report : Option Vote) : Type 0 where
  pub asked : Took tape (message from voter (Prepare op p.group p.position b))
  pub answer : promise_answer (acts tape voter p) b ≡ promise.Yes report

-- it accepts what it was asked to, unless it showed a greater ballot, or at ballot zero accepted another entry
pub record MayAccept (tape : List Item) (from voter : ℕ) (op : OpId) (p : Place) (b : Ballot) (e : Content) : Type 0 where
  pub asked : Took tape (message from voter (Accept op p.group p.position b e))
  pub answer : accept_answer (acts tape voter p) b e ≡ vote.Yes

-- it refuses a prepare or an accept that it took, and shows why
pub data MayRefuse (tape : List Item) (from voter : ℕ) (op : OpId) (p : Place) (asked : Ballot) (body : Body) : Type 0 where
  a_prepare : Took tape (message from voter (Prepare op p.group p.position asked)) → prepared (acts tape voter p) op p.group p.position asked ≡ body → MayRefuse tape from voter op p asked body
  an_accept : (e : Content) → Took tape (message from voter (Accept op p.group p.position asked e)) → voted (acts tape voter p) op p.group p.position asked e ≡ body → MayRefuse tape from voter op p asked body

-- what a voter makes: it answers the sender of a request
abbrev pub MayMake : List Item → Message → Body → Type 0
MayMake tape m (Promise op g n b report) = MayPromise tape m.to m.from op (record { group = g; position = n }) b report
MayMake tape m (Accepted op g n b e) = MayAccept tape m.to m.from op (record { group = g; position = n }) b e
MayMake tape m (Refused op g n asked shown e) = MayRefuse tape m.to m.from op (record { group = g; position = n }) asked (Refused op g n asked shown e)
MayMake tape m _ = Unit {0}

-- ---- the proposer

-- the leader of position 1 is the lowest voter, of any other the node named by the entry that the proposer's node decided below it
pub data Leads (c : Cluster) (tape : List Item) (node : ℕ) (p : Place) (leader : ℕ) : Type 0 where
  lowest : p.position.0 ≡ 1 → slice_get (voters c) 0 ≡ Some leader → Leads c tape node p leader
  named : (below : Position) (entry : Content) → 0 < below.0 → p.position.0 ≡ suc below.0 → Stands (Decide (number node) p.group below entry) tape → (entry.leader).0 ≡ leader → Leads c tape node p leader

-- the entry is that of the greatest vote that was reported; where none was, it is the operation's own, and any
pub data Carries (test : ℕ → Bool) (report : ℕ → Option Vote) (e : Content) : Type 0 where
  own : ((voter : ℕ) → test voter ≡ true → report voter ≡ None) → Carries test report e
  greatest : (voter : ℕ) (b : Ballot) → test voter ≡ true → report voter ≡ Some (b, e)
      → ((other : ℕ) (reported : Vote) → test other ≡ true → report other ≡ Some reported → is_ballot_below b reported.0 ≡ false) → Carries test report e

-- an entry for a prepared ballot: a majority promised it, and the entry is what they report
pub record Picked (c : Cluster) (tape : List Item) (op : OpId) (p : Place) (b : Ballot) (e : Content) : Type 0 where
  pub test : ℕ → Bool
  pub report : ℕ → Option Vote
  pub majority : IsMajority c test
  pub heard : (voter : ℕ) → test voter ≡ true → Heard tape voter op (Promise op p.group p.position b (report voter))
  pub carries : Carries test report e

-- a ballot above zero names the operation
pub record IsOwn (op : OpId) (b : Ballot) : Type 0 where
  pub names : b.op ≡ op
  pub above : 0 < b.round

-- ballot zero goes to the leader, and to others once the leader accepted that entry there; a greater ballot takes what the promises
-- report, and a step says it to each voter
pub data MayPropose (c : Cluster) (tape : List Item) (node to : ℕ) (op : OpId) (p : Place) (b : Ballot) (e : Content) : Type 0 where
  asks : b ≡ zero_ballot → Leads c tape node p to → MayPropose c tape node to op p b e
  spreads : (leader : ℕ) → b ≡ zero_ballot → Leads c tape node p leader → Heard tape leader op (Accepted op p.group p.position zero_ballot e) → MayPropose c tape node to op p b e
  picks : IsOwn op b → newest (moves tape op p) ≡ Some (Prepares b) → Picked c tape op p b e → MayPropose c tape node to op p b e
  repeats : IsOwn op b → newest (moves tape op p) ≡ Some (Proposes b e) → MayPropose c tape node to op p b e

-- a new ballot has a round above those of all earlier moves, and a step says it to each voter
pub data MayPrepare (tape : List Item) (op : OpId) (p : Place) (b : Ballot) : Type 0 where
  raises : IsOwn op b → IsAbove b.round (moves tape op p) → MayPrepare tape op p b
  resends : IsOwn op b → newest (moves tape op p) ≡ Some (Prepares b) → MayPrepare tape op p b

-- ---- decisions

-- a node decides what a majority accepted at one ballot, as an operation of it heard, or what another node told or gave it
pub data MayDecide (c : Cluster) (tape : List Item) (node : ℕ) (p : Place) (e : Content) : Type 0 where
  settled : (op : OpId) (b : Ballot) (test : ℕ → Bool) → op.node.0 ≡ node → IsMajority c test
      → ((voter : ℕ) → test voter ≡ true → Heard tape voter op (Accepted op p.group p.position b e)) → MayDecide c tape node p e
  told : (from : ℕ) → Took tape (message from node (Tell p.group p.position e)) → MayDecide c tape node p e
  given : (from : ℕ) (op : OpId) → Took tape (message from node (Have op p.group p.position e)) → MayDecide c tape node p e

-- ---- tapes

-- a message that is sent: a voter's answer, an operation's proposal, or an entry that its sender decided
abbrev pub MaySend : Cluster → List Item → Message → Body → Type 0
MaySend c tape m (Accept op g n b e) = MayPropose c tape m.from m.to op (record { group = g; position = n }) b e
MaySend c tape m (Prepare op g n b) = MayPrepare tape op (record { group = g; position = n }) b
MaySend c tape m (Tell g n e) = Stands (Decide (number m.from) g n e) tape
MaySend c tape m (Have op g n e) = Stands (Decide (number m.from) g n e) tape
MaySend c tape m body = MayMake tape m body

-- what may come next
abbrev pub Allowed : Cluster → List Item → Item → Type 0
Allowed c tape (Sent number m) = MaySend c tape m m.body
Allowed c tape (Unsent node m) = MayMake tape m m.body
Allowed c tape (Decide node g n e) = MayDecide c tape node.0 (record { group = g; position = n }) e
Allowed c tape _ = Unit {0}

abbrev pub Lawful : Cluster → List Item → Type 0
Lawful c [] = Unit {0}
Lawful c (item ∷ before) = Allowed c before item × Lawful c before
