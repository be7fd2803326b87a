-- Polls of the voters (CIDR 2011, reads): an operation asks where a group's log ends, and a voter tells the greatest position that it accepted.
use Rattle.std.specs.Prelude.{◌≡◌, ℕ, ◌≤◌, ◌||◌, Bool, true, false, List, [], ◌∷◌}
use Rattle.mega_base.specs.declared.names.GroupId.{GroupId}
use Rattle.mega_base.specs.declared.names.OpId.{OpId}
use Rattle.mega_base.specs.declared.names.Position.{Position}
use Rattle.mega_ballot.specs.declared.ballot.Ballot.{Ballot}
use Rattle.mega_cluster.specs.declared.cluster.Cluster.{Cluster}
use Rattle.mega_entry.specs.declared.content.Content.{Content}
use Rattle.mega_wire.specs.declared.message.Message.{Message}
use Rattle.mega_wire.specs.declared.message.Body.{Body}
use Rattle.mega_wire.specs.declared.message.Body.TheVariants.{Top, Where}
use Rattle.mega_wal.specs.Acceptor.{Voted}
use Rattle.mega_wal.specs.Same.{same_op}
use Rattle.mega_promises.specs.of_transcript.declared.item.Item.{Item}
use Rattle.mega_promises.specs.of_transcript.declared.item.Item.TheVariants.{Begin, Sent}
use Rattle.mega_tape_laws.specs.Lawful.{Heard, message}
use Rattle.mega_tape_laws.specs.Places.{In, IsMajority, Took, acts}

-- a voter that was asked tells a position that is none below those that it accepted
pub record MayTell (tape : List Item) (from voter : ℕ) (op : OpId) (group : GroupId) (top : Position) : Type 0 where
  pub asked : Took tape (message from voter (Where op group))
  pub most : (n : Position) (b : Ballot) (e : Content) → In (Voted b e) (acts tape voter (record { group = group; position = n })) → n.0 ≤ top.0

-- an operation asked
abbrev pub is_asking : OpId → Body → Bool
is_asking op (Where asking group) = same_op asking op
is_asking op _ = false

abbrev pub has_asked : List Item → OpId → Bool
has_asked [] op = false
has_asked (Sent number m ∷ before) op = is_asking op m.body || has_asked before op
has_asked (_ ∷ before) op = has_asked before op

-- a voter answers what it took
abbrev pub MayPoll : List Item → Message → Body → Type 0
MayPoll tape m (Top op group top) = MayTell tape m.to m.from op group top
MayPoll tape m _ = Unit {0}

-- no operation begins that asked before
abbrev pub IsPolling : List Item → Item → Type 0
IsPolling tape (Begin op text) = has_asked tape op ≡ false
IsPolling tape (Sent number m) = MayPoll tape m m.body
IsPolling tape _ = Unit {0}

abbrev pub ArePolls : List Item → Type 0
ArePolls [] = Unit {0}
ArePolls (item ∷ before) = IsPolling before item × ArePolls before

-- an operation heard of no position above this one from a majority
pub record IsPolled (c : Cluster) (tape : List Item) (op : OpId) (group : GroupId) (p : Position) : Type 0 where
  pub test : ℕ → Bool
  pub majority : IsMajority c test
  pub heard : (voter : ℕ) → test voter ≡ true → (top : Position) × Heard tape voter op (Top op group top) × (top.0 ≤ p.0)
