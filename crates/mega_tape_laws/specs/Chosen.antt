-- A chosen entry (Lamport 2001): for one ballot a majority of voters accepted it.
use Rattle.std.specs.Prelude.{◌≡◌, ℕ, Bool, true, List}
use Rattle.mega_ballot.specs.declared.ballot.Ballot.{Ballot}
use Rattle.mega_cluster.specs.declared.cluster.Cluster.{Cluster}
use Rattle.mega_entry.specs.declared.content.Content.{Content}
use Rattle.mega_wal.specs.Acceptor.{Voted}
use Rattle.mega_promises.specs.of_transcript.declared.item.Item.{Item}
use Rattle.mega_tape_laws.specs.Places.{In, IsMajority, Place, acts}

-- the ballot, and the voters that accepted the entry at it
pub record Chosen (c : Cluster) (p : Place) (tape : List Item) (e : Content) : Type 0 where
  pub ballot : Ballot
  pub test : ℕ → Bool
  pub majority : IsMajority c test
  pub each : (voter : ℕ) → test voter ≡ true → In (Voted ballot e) (acts tape voter p)
