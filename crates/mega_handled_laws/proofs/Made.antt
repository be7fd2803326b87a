-- What a message of a step proposes with its operation's id: an entry that the operation proposed before, or one that it made of its own in this step.
use Rattle.std.proofs.Common.{◌≡◌, ◌⊎◌, inl, inr, ℕ, ◌+◌, ◌≤◌, List, [], length, take, Some, subst}
use Rattle.mega_base.specs.declared.names.GroupId.{GroupId}
use Rattle.mega_base.specs.declared.names.OpId.{OpId}
use Rattle.mega_base.specs.declared.names.Position.{Position}
use Rattle.mega_ballot.specs.declared.ballot.Ballot.{Ballot}
use Rattle.mega_ballot.specs.Order.{zero_ballot}
use Rattle.mega_cluster.specs.declared.cluster.Cluster.{Cluster}
use Rattle.mega_entry.specs.declared.content.Content.{Content}
use Rattle.mega_entry.specs.declared.content.Enter.{Enter}
use Rattle.mega_handler.specs.Named.{Meanings}
use Rattle.mega_wire.specs.declared.message.Body.{Body}
use Rattle.mega_wire.specs.declared.message.Body.TheVariants.{Accept}
use Rattle.mega_run_laws.specs.of_transcript.declared.item.Item.{Item}
use Rattle.mega_run_laws.specs.of_promises.Promises.{handled_by}
use Rattle.mega_run_laws.specs.of_rules.Queues.{oldest_unhandled}
use Rattle.mega_run_laws.specs.of_tape_laws.Places.{In, Place, Proposes, moves}
use Rattle.mega_run_laws.proofs.Owned.{NoAccept}

-- an operation proposed this entry at a place
pub record IsProposed (tape : List Item) (op : OpId) (p : Place) (e : Content) : Type 0 where
  pub ballot : Ballot
  pub stands : In (Proposes ballot e) (moves tape op p)

-- an entry is what these handlers make of the oldest message in the first entries of a log, right above them
pub record ByHandler (c : Cluster) (h : Meanings) (log : List Content) (op : OpId) (group : GroupId) (n : ℕ) (e : Content) : Type 0 where
  pub message : Enter
  pub below : ℕ
  pub reaches : n ≡ below + 1
  pub within : below ≤ length log
  pub oldest : oldest_unhandled (take below log) ≡ Some message
  pub is : e ≡ handled_by c.schema h group op message (take below log)

-- it handles no message, or is what they make of one
abbrev pub IsMade : Cluster → Meanings → List Content → OpId → GroupId → ℕ → Content → Type 0
IsMade c h log op group n e = (e.handles ≡ []) ⊎ ByHandler c h log op group n e

pub made_on : (c : Cluster) (h : Meanings) (log other : List Content) (op : OpId) (group : GroupId) (n : ℕ) (e : Content) → log ≡ other → IsMade c h log op group n e → IsMade c h other op group n e
made_on c h log other op group n e same (inl none) = inl none
made_on c h log other op group n e same (inr by) = inr (subst (λ l. ByHandler c h l op group n e) same by)

-- an operation of this node proposes what it made, first at ballot zero
pub record IsOpened (c : Cluster) (h : Meanings) (log : GroupId → List Content) (me from : ℕ) (op : OpId) (group : GroupId) (n : Position) (b : Ballot) (e : Content) : Type 0 where
  pub at_zero : b ≡ zero_ballot
  pub from_is : from ≡ op.node.0
  pub node : op.node.0 ≡ me
  pub made : IsMade c h (log group) op group n.0 e

abbrev pub SaysIt : Cluster → Meanings → List Item → (GroupId → List Content) → ℕ → ℕ → Body → Type 0
SaysIt c h tape log me from (Accept op group n b e) = e.id ≡ Some op → IsProposed tape op (record { group = group; position = n }) e ⊎ IsOpened c h log me from op group n b e
SaysIt c h tape log me from _ = Unit {0}

pub quiet_says : (c : Cluster) (h : Meanings) (tape : List Item) (log : GroupId → List Content) (me from : ℕ) (body : Body) → NoAccept body → SaysIt c h tape log me from body
quiet_says c h tape log me from (Accept op group n b e) quiet = absurd quiet
quiet_says c h tape log me from _ quiet = tt
