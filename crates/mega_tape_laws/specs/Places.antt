-- What a tape tells of one position of a group: what each voter made there, and which moves each operation made.
use Rattle.std.specs.Prelude.{ℕ, ◌+◌, ◌*◌, ◌<◌, ◌==◌, ◌&&◌, Bool, if◌then◌else◌, List, [], ◌∷◌, filter_map, length, Option, Some, None}
use Rattle.mega_base.specs.declared.names.GroupId.{GroupId}
use Rattle.mega_base.specs.declared.names.OpId.{OpId}
use Rattle.mega_base.specs.declared.names.Position.{Position}
pub use Rattle.mega_base.specs.ListWords.{Stands as In}
use Rattle.mega_ballot.specs.declared.ballot.Ballot.{Ballot}
use Rattle.mega_cluster.specs.declared.cluster.Cluster.{Cluster}
use Rattle.mega_entry.specs.declared.content.Content.{Content}
use Rattle.mega_wire.specs.declared.message.Message.{Message}
use Rattle.mega_wire.specs.declared.message.Body.{Body}
use Rattle.mega_wire.specs.declared.message.Body.TheVariants.{Accept, Prepare}
use Rattle.mega_wal.specs.Acceptor.{Act}
use Rattle.mega_wal.specs.Same.{same_group, same_op}
use Rattle.mega_promises.specs.of_transcript.declared.item.Item.{Item}
use Rattle.mega_promises.specs.of_transcript.declared.item.Item.TheVariants.{Sent, Unsent, Taken}
use Rattle.mega_promises.specs.Promises.{Stands}
use Rattle.mega_promises.specs.of_rules.Members.{voters}
use Rattle.mega_promises.specs.of_rules.Voting.{act_in}

-- a position of a group's log
pub record Place : Type 0 where
  pub group : GroupId
  pub position : Position

-- a node took a message: it was sent under a number that was taken
pub record Took (tape : List Item) (message : Message) : Type 0 where
  pub number : ℕ
  pub sent : Stands (Sent number message) tape
  pub taken : Stands (Taken number) tape

-- what a voter made at a place, in all its starts: what it sent, and what was shown unsent
abbrev pub act_from : ℕ → Place → Message → Option Act
act_from voter p m = if m.from == voter then act_in p.group p.position.0 m.body else None

abbrev pub act_of : ℕ → Place → Item → Option Act
act_of voter p (Sent number m) = act_from voter p m
act_of voter p (Unsent node m) = act_from voter p m
act_of voter p _ = None

abbrev pub acts : List Item → ℕ → Place → List Act
acts tape voter p = filter_map (act_of voter p) tape

-- a move of an operation at a place: it prepared a ballot, or proposed an entry at one
pub data Move : Type 0 where
  Prepares : (ballot : Ballot) → Move
  Proposes : (ballot : Ballot) (entry : Content) → Move

abbrev pub move_if : Bool → Move → Option Move
move_if is_there move = if is_there then Some move else None

abbrev pub is_move_at : OpId → Place → OpId → GroupId → Position → Bool
is_move_at op p o g n = same_op o op && same_group g p.group && n.0 == p.position.0

abbrev pub move_in : OpId → Place → Body → Option Move
move_in op p (Accept o g n b e) = move_if (is_move_at op p o g n) (Proposes b e)
move_in op p (Prepare o g n b) = move_if (is_move_at op p o g n) (Prepares b)
move_in op p _ = None

abbrev pub move_of : OpId → Place → Item → Option Move
move_of op p (Sent number m) = move_in op p m.body
move_of op p _ = None

abbrev pub moves : List Item → OpId → Place → List Move
moves tape op p = filter_map (move_of op p) tape

-- an operation's last move
abbrev pub newest : List Move → Option Move
newest [] = None
newest (move ∷ before) = Some move

-- a round is above those of all its moves
abbrev pub round_of : Move → ℕ
round_of (Prepares b) = b.round
round_of (Proposes b e) = b.round

abbrev pub IsAbove : ℕ → List Move → Type 0
IsAbove round [] = Unit {0}
IsAbove round (move ∷ before) = (round_of move < round) × IsAbove round before

-- how many nodes pass a test
abbrev pub count : (ℕ → Bool) → List ℕ → ℕ
count test [] = 0
count test (node ∷ nodes) = (if test node then 1 else 0) + count test nodes

-- the voters that pass are more than half of them
abbrev pub IsMajority : Cluster → (ℕ → Bool) → Type 0
IsMajority c test = length (voters c) < 2 * count test (voters c)
