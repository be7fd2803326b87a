-- Messages between the nodes of one cluster, and the entries that name a node of it.
use Rattle.std.specs.Prelude.{◌≡◌, ℕ, true, List, Option, Some, None}
use Rattle.mega_base.specs.Codec.{IsOption}
use Rattle.mega_ballot.specs.declared.ballot.Ballot.{Ballot}
use Rattle.mega_cluster.specs.declared.cluster.Cluster.{Cluster}
use Rattle.mega_entry.specs.declared.content.Content.{Content}
use Rattle.mega_wire.specs.declared.message.Message.{Message}
use Rattle.mega_wire.specs.declared.message.Body.{Body}
use Rattle.mega_wire.specs.declared.message.Body.TheVariants.{Where, Top, Accept, Accepted, Refused, Prepare, Promise, Invalidate, Invalidated, Dead, Held, Unheld, Decide, Fetch, Have, HaveNot, Acquire, Granted, Past, Request, Reply}
use Rattle.mega_format_laws.specs.of_rules.Members.{is_node}
use Rattle.mega_format_laws.specs.Rounds.{Each}

-- a node of the cluster
abbrev pub IsHere : Cluster → ℕ → Type 0
IsHere c n = is_node c n ≡ true

-- an entry names a node of the cluster as the leader of the next position
abbrev pub NamesHere : Cluster → Content → Type 0
NamesHere c entry = IsHere c (entry.leader).0

-- so does the entry of a vote, if there is one
abbrev pub VotesHere : Cluster → Option (Ballot × Content) → Type 0
VotesHere c None = Unit {0}
VotesHere c (Some vote) = NamesHere c vote.1

-- all entries that a message carries name nodes of the cluster
abbrev pub CarriesHere : Cluster → Body → Type 0
CarriesHere c (Accept op group position ballot entry) = NamesHere c entry
CarriesHere c (Accepted op group position ballot entry) = NamesHere c entry
CarriesHere c (Refused op group position asked shown entry) = IsOption (NamesHere c) entry
CarriesHere c (Promise op group position ballot vote) = VotesHere c vote
CarriesHere c (Decide group position entry) = NamesHere c entry
CarriesHere c (Have op group position entry) = NamesHere c entry
CarriesHere c (Where op group) = Unit {0}
CarriesHere c (Top op group position) = Unit {0}
CarriesHere c (Prepare op group position ballot) = Unit {0}
CarriesHere c (Invalidate op group position) = Unit {0}
CarriesHere c (Invalidated op group position) = Unit {0}
CarriesHere c (Dead op cell node) = Unit {0}
CarriesHere c (Held op cell node) = Unit {0}
CarriesHere c (Unheld op cell node) = Unit {0}
CarriesHere c (Fetch op group position) = Unit {0}
CarriesHere c (HaveNot op group position) = Unit {0}
CarriesHere c (Acquire cell epoch clock) = Unit {0}
CarriesHere c (Granted cell epoch clock) = Unit {0}
CarriesHere c (Past cell asked greatest) = Unit {0}
CarriesHere c (Request token json) = Unit {0}
CarriesHere c (Reply token text) = Unit {0}

-- a message between nodes of the cluster
pub record IsWithin (c : Cluster) (m : Message) : Type 0 where
  pub from : IsHere c m.from
  pub to : IsHere c m.to
  pub body : CarriesHere c m.body

abbrev pub AreWithin : Cluster → List Message → Type 0
AreWithin c messages = Each (IsWithin c) messages
