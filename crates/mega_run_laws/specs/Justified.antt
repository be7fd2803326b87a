-- A round of an operation is justified by what its tape shows: what the operation heard and moved at the place.
use Rattle.std.specs.Prelude.{◌≡◌, ◌⊎◌, ℕ, ◌+◌, ◌==◌, ◌≤◌, Bool, true, if◌then◌else◌, List, [], ◌∷◌, length, Option, Some, None}
use Rattle.std.specs.List.{list_any}
use Rattle.mega_base.specs.declared.names.OpId.{OpId}
use Rattle.mega_ballot.specs.declared.ballot.Ballot.{Ballot}
use Rattle.mega_cluster.specs.declared.cluster.Cluster.{Cluster}
use Rattle.mega_entry.specs.declared.content.Content.{Content}
use Rattle.mega_wire.specs.declared.message.Message.{Message}
use Rattle.mega_wire.specs.declared.message.Body.{Body}
use Rattle.mega_wire.specs.declared.message.Body.TheVariants.{Accept, Accepted, Prepare, Promise, Top, Where}
use Rattle.mega_wal.specs.Acceptor.{Vote}
use Rattle.mega_tape_laws.specs.of_transcript.declared.item.Item.{Item}
use Rattle.mega_tape_laws.specs.of_transcript.declared.item.Item.TheVariants.{Sent}
use Rattle.mega_tape_laws.specs.of_read.of_propose.Members.{has}
use Rattle.mega_tape_laws.specs.of_read.of_propose.declared.round.Site.{Site}
use Rattle.mega_tape_laws.specs.of_read.of_propose.declared.round.Report.{Report}
use Rattle.mega_tape_laws.specs.of_read.of_propose.declared.round.Round.{Round}
use Rattle.mega_tape_laws.specs.of_read.of_propose.declared.round.Proposal.{Proposal}
use Rattle.mega_tape_laws.specs.of_read.of_propose.declared.round.Move.{Move as RoundMove}
use Rattle.mega_tape_laws.specs.of_read.of_propose.declared.round.Round.TheVariants.{Asking, Preparing, Accepting, Covering, Settled, Waiting}
use Rattle.mega_tape_laws.specs.of_rules.Members.{full_nodes, voters}
use Rattle.mega_tape_laws.specs.Places.{IsMajority, Move, Place, Prepares, count, moves, newest, round_of}
use Rattle.mega_tape_laws.specs.Lawful.{Heard, IsOwn, Lawful, Leads}

-- messages come onto a tape, with numbers from one on
abbrev pub sent : ℕ → List Message → List Item → List Item
sent n [] tape = tape
sent n (m ∷ ms) tape = sent (n + 1) ms (Sent n m ∷ tape)

abbrev pub Each : {X : Type 0} → (X → Type 0) → List X → Type 0
Each P [] = Unit {0}
Each P (x ∷ xs) = P x × Each P xs

-- a message of an operation's round at a place: no question or answer of a poll, no answer of a voter, and no move of another operation or elsewhere
abbrev pub OfRound : OpId → Place → Body → Type 0
OfRound op p (Accept o g n b e) = (o ≡ op) × (◌≡◌ {A = Place} (record { group = g; position = n }) p)
OfRound op p (Prepare o g n b) = (o ≡ op) × (◌≡◌ {A = Place} (record { group = g; position = n }) p)
OfRound op p (Promise o g n b report) = ⊥
OfRound op p (Accepted o g n b e) = ⊥
OfRound op p (Where o g) = ⊥
OfRound op p (Top o g n) = ⊥
OfRound op p _ = Unit {0}

abbrev pub AreOfRound : OpId → Place → List Message → Type 0
AreOfRound op p ms = Each (λ (m : Message). OfRound op p m.body) ms

-- where an operation of a cluster proposes
abbrev pub here : Cluster → OpId → Place → List ℕ → Site
here c op p asked = record { op = op; group = p.group; position = p.position.0; voters = voters c; full = full_nodes c; cells = c.cells; asked = asked }

-- no move has a round above this one
abbrev pub IsWithin : ℕ → List Move → Type 0
IsWithin seen [] = Unit {0}
IsWithin seen (move ∷ before) = (round_of move ≤ seen) × IsWithin seen before

-- each of these voters was heard to accept
pub record Accepters (c : Cluster) (tape : List Item) (op : OpId) (p : Place) (b : Ballot) (e : Content) (those : List ℕ) : Type 0 where
  pub heard : (voter : ℕ) → has voter those ≡ true → Heard tape voter op (Accepted op p.group p.position b e)
  pub counted : length those ≤ count (λ voter. has voter those) (voters c)

-- a majority was heard to accept at one ballot
pub record Chosen (c : Cluster) (tape : List Item) (op : OpId) (p : Place) (e : Content) : Type 0 where
  pub ballot : Ballot
  pub test : ℕ → Bool
  pub majority : IsMajority c test
  pub heard : (voter : ℕ) → test voter ≡ true → Heard tape voter op (Accepted op p.group p.position ballot e)

-- who reported, and what
abbrev pub is_reported : List Report → ℕ → Bool
is_reported reports voter = list_any (λ (report : Report). report.voter == voter) reports

abbrev pub report_of : List Report → ℕ → Option Vote
report_of [] voter = None
report_of (report ∷ reports) voter = if report.voter == voter then report.vote else report_of reports voter

abbrev pub Among : Report → List Report → Type 0
Among report [] = ⊥
Among report (other ∷ reports) = (other ≡ report) ⊎ Among report reports

-- each of these reports is a promise that was heard, the one of its voter
pub record Reported (c : Cluster) (tape : List Item) (op : OpId) (p : Place) (b : Ballot) (reports : List Report) : Type 0 where
  pub heard : (voter : ℕ) → is_reported reports voter ≡ true → Heard tape voter op (Promise op p.group p.position b (report_of reports voter))
  pub only : (report : Report) → Among report reports → report_of reports report.voter ≡ report.vote
  pub counted : length reports ≤ count (is_reported reports) (voters c)

-- what an operation knows in its round
abbrev pub Knows : Cluster → List Item → OpId → Place → Round → Type 0
Knows c tape op p (Asking leader sent) = Leads c tape op.node.0 p leader
Knows c tape op p (Preparing b reports sent) = IsOwn op b × Reported c tape op p b reports
Knows c tape op p (Accepting b e voted sent) = Accepters c tape op p b e voted
Knows c tape op p (Covering b e cover sent) = Chosen c tape op p e
Knows c tape op p (Settled e told) = Chosen c tape op p e
Knows c tape op p Waiting = Unit {0}

-- an operation that prepares a ballot moved so last
abbrev pub Latest : Cluster → List Move → Round → Type 0
Latest c moved (Preparing b reports sent) = (voter : ℕ) → has voter (voters c) ≡ true → newest moved ≡ Some (Prepares b)
Latest c moved _ = Unit {0}

pub record Justified (c : Cluster) (tape : List Item) (op : OpId) (p : Place) (proposal : Proposal) : Type 0 where
  pub within : IsWithin proposal.seen (moves tape op p)
  pub knows : Knows c tape op p proposal.round
  pub latest : Latest c (moves tape op p) proposal.round

-- what a round sends is allowed, message by message, and it is justified then
pub record Goes (c : Cluster) (tape : List Item) (op : OpId) (p : Place) (t : RoundMove) : Type 0 where
  pub own : AreOfRound op p t.sends
  pub lawful : (n : ℕ) → Lawful c tape → Lawful c (sent n t.sends tape)
  pub within : (n : ℕ) → IsWithin t.proposal.seen (moves (sent n t.sends tape) op p)
  pub knows : Knows c tape op p t.proposal.round
  pub latest : (n : ℕ) → Latest c (moves (sent n t.sends tape) op p) t.proposal.round
