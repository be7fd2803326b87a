-- What a step decides may be decided: an operation settled it, or another node told it.
use Rattle.std.proofs.Common.{◌≡◌, inl, inr, ℕ, ◌+◌, Bool, true, false, cond, List, [], ◌∷◌, map, Option, Some, None, is_none, refl, sym, ap, ◌∙◌, subst}
use Rattle.mega_base.specs.declared.names.GroupId.{GroupId}
use Rattle.mega_base.specs.declared.names.OpId.{OpId}
use Rattle.mega_ballot.specs.declared.ballot.Ballot.{Ballot}
use Rattle.mega_cluster.specs.declared.cluster.Cluster.{Cluster}
use Rattle.mega_entry.specs.declared.content.Content.{Content}
use Rattle.mega_entry.specs.declared.content.Enter.{Enter}
use Rattle.mega_outcome.specs.declared.request.Request.{Request}
use Rattle.mega_wire.specs.declared.message.Message.{Message}
use Rattle.mega_wire.specs.declared.message.Body.{Body}
use Rattle.mega_wire.specs.declared.message.Body.TheVariants.{Accepted, Decide, Have}
use Rattle.mega_tape_laws.specs.of_transcript.declared.item.Item.{Item}
use Rattle.mega_tape_laws.specs.of_transcript.declared.item.Item.TheVariants.{Sent, Taken}
use Rattle.mega_tape_laws.specs.of_promises.Promises.{Stands}
use Rattle.mega_tape_laws.specs.of_read.of_propose.declared.round.Proposal.{Proposal}
use Rattle.mega_tape_laws.specs.of_read.of_propose.Rounds.{settled as settled_in}
use Rattle.mega_tape_laws.specs.of_read.declared.reading.Reading.{Reading}
use Rattle.mega_tape_laws.specs.of_read.declared.reading.Stage.{Stage}
use Rattle.mega_tape_laws.specs.of_read.declared.reading.Search.TheVariants.{Fetching, Filling}
use Rattle.mega_tape_laws.specs.of_read.declared.reading.Stage.TheVariants.{Polling, Catching}
use Rattle.mega_tape_laws.specs.of_read.Catching.{read_settled, settled_there}
use Rattle.mega_tape_laws.specs.of_rules.Met.{Met}
use Rattle.mega_tape_laws.specs.of_rules.Logs.{decided}
use Rattle.mega_tape_laws.specs.of_rules.Operations.{Operation, Phase, Proposes, Reads, Setting}
use Rattle.mega_tape_laws.specs.of_rules.Steps.{Decision, decision_at, decision_note, first_settled, hears_message, if_new, read_decision, settled_by, told_decision}
use Rattle.mega_tape_laws.specs.Places.{Place, Took}
use Rattle.mega_run_laws.proofs.Owned.{Users}
use Rattle.mega_tape_laws.specs.Lawful.{MayDecide, given, message, settled, told}
use Rattle.mega_tape_laws.proofs.Lists.{some_is}
use Rattle.mega_run_laws.specs.Justified.{Chosen, Each, Knows, sent}
use Rattle.mega_run_laws.proofs.Rounds.{settled_chosen}
use Rattle.mega_run_laws.proofs.Opened.{AreOfOp, Backed, BackedStage, Idle, OfOp, at_place, place_of}
use Rattle.mega_run_laws.proofs.Turns.{Held}
use Rattle.mega_run_laws.proofs.Noted.{MayBeNoted}
use Rattle.mega_run_laws.proofs.Beginning.{hears_message_acts}
use Rattle.mega_run_laws.proofs.Silent.{IsSilent}

-- an answer of a voter that stands once an operation sent stood before
not_sent : (op : OpId) (n k : ℕ) (m : Message) (from to : ℕ) (o : OpId) (p : Place) (b : Ballot) (e : Content) → OfOp op m.body → Sent n m ≡ Sent k (message from to (Accepted o p.group p.position b e)) → ⊥
not_sent op n k m from to o p b e of same = subst (OfOp op) (body_is same) of
  where
    body_is : Sent n m ≡ Sent k (message from to (Accepted o p.group p.position b e)) → m.body ≡ Accepted o p.group p.position b e
    body_is h = let m_is = message_is h in ap (λ (x : Message). x.body) m_is
      where
        message_is : Sent n m ≡ Sent k (message from to (Accepted o p.group p.position b e)) → m ≡ message from to (Accepted o p.group p.position b e)
        message_is h = cc

sent_back : (op : OpId) (n : ℕ) (ms : List Message) (tape : List Item) (k from to : ℕ) (o : OpId) (p : Place) (b : Ballot) (e : Content) → AreOfOp op ms → Stands (Sent k (message from to (Accepted o p.group p.position b e))) (sent n ms tape)
    → Stands (Sent k (message from to (Accepted o p.group p.position b e))) tape
sent_back op n [] tape k from to o p b e of s = s
sent_back op n (m ∷ ms) tape k from to o p b e of s = elim (sent_back op (n + 1) ms (Sent n m ∷ tape) k from to o p b e of.1 s) [
  | inl same ↦ absurd (not_sent op n k m from to o p b e of.0 same)
  | inr before ↦ before
]

taken_back : (n : ℕ) (ms : List Message) (tape : List Item) (k : ℕ) → Stands (Taken k) (sent n ms tape) → Stands (Taken k) tape
taken_back n [] tape k s = s
taken_back n (m ∷ ms) tape k s = elim (taken_back (n + 1) ms (Sent n m ∷ tape) k s) [ inl same ↦ cc | inr before ↦ before ]

chosen_decides : (c : Cluster) (tape : List Item) (me : ℕ) (op : OpId) (p : Place) (e : Content) (n : ℕ) (ms : List Message) → op.node.0 ≡ me → AreOfOp op ms → Chosen c (sent n ms tape) op p e → MayDecide c tape me p e
chosen_decides c tape me op p e n ms node of h = settled op h.ballot h.test node h.majority (λ voter t. let took = h.heard voter t in
    record { number = took.number; sent = sent_back op n ms tape took.number voter op.node.0 op p h.ballot e of took.sent; taken = taken_back n ms tape took.number took.taken })

-- what an operation settled
settled_at : (c : Cluster) (tape : List Item) (me : ℕ) (op : OpId) (group : GroupId) (position : ℕ) (proposal : Proposal) (n : ℕ) (ms : List Message) → op.node.0 ≡ me → AreOfOp op ms
    → Knows c (sent n ms tape) op (at_place group position) proposal.round → (o : Option Content) → settled_in proposal ≡ o → (d : Decision) → decision_at group position o ≡ Some d → MayDecide c tape me (at_place d.group d.position) d.entry
settled_at c tape me op group position proposal n ms node of k None is d h = cc
settled_at c tape me op group position proposal n ms node of k (Some entry) is d h =
    subst (λ (x : Decision). MayDecide c tape me (at_place x.group x.position) x.entry) (some_is _ d h) (chosen_decides c tape me op (at_place group position) entry n ms node of (settled_chosen c (sent n ms tape) op (at_place group position) proposal entry k is))

there_is : (group : GroupId) (position : ℕ) (o : Option Content) → read_decision group (settled_there position o) ≡ decision_at group position o
there_is group position None = refl
there_is group position (Some entry) = refl

settled_stage : (c : Cluster) (tape : List Item) (me : ℕ) (met : List Met) (op : OpId) (group : GroupId) (r : Reading) (stage : Stage) (n : ℕ) (ms : List Message) → op.node.0 ≡ me → AreOfOp op ms
    → BackedStage c (sent n ms tape) met op group stage → (d : Decision) → read_decision group (read_settled (record { noted = r.noted; asked = r.asked; stage = stage })) ≡ Some d → MayDecide c tape me (at_place d.group d.position) d.entry
settled_stage c tape me met op group r (Polling heard best at) n ms node of b d h = cc
settled_stage c tape me met op group r (Catching through None) n ms node of b d h = cc
settled_stage c tape me met op group r (Catching through (Some (Fetching position denials at))) n ms node of b d h = cc
settled_stage c tape me met op group r (Catching through (Some (Filling position proposal))) n ms node of b d h =
    settled_at c tape me op group position proposal n ms node of (b.1).knows (settled_in proposal) refl d (sym (there_is group position (settled_in proposal)) ∙ h)

settled_phase : (c : Cluster) (tape : List Item) (me : ℕ) (met : List Met) (id : OpId) (request : Request) (began : ℕ) (visited : List GroupId) (posted : Option Enter) (phase : Phase) (n : ℕ) (ms : List Message) → id.node.0 ≡ me → AreOfOp id ms
    → Backed c (sent n ms tape) met id phase → (d : Decision) → settled_by (record { id = id; request = request; began = began; visited = visited; message = posted; phase = phase }) ≡ Some d → MayDecide c tape me (at_place d.group d.position) d.entry
settled_phase c tape me met id request began visited posted (Reads group r) n ms node of b d h = settled_stage c tape me met id group r r.stage n ms node of b d h
settled_phase c tape me met id request began visited posted (Proposes group position asked proposal promised) n ms node of b d h = settled_at c tape me id group position proposal n ms node of b.knows (settled_in proposal) refl d h

-- what one that heard settled
settled_heard : (users : Users) → (s : Setting) (tape : List Item) (me st k : ℕ) (met : List Met) (clock : ℕ) (m : Message) (o : Operation) → Held users s.cluster tape me st k met o → Took tape (message m.from me m.body)
    → (d : Decision) → settled_by (hears_message s clock m o).operation ≡ Some d → MayDecide s.cluster tape me (at_place d.group d.position) d.entry
settled_heard users s tape me st k met clock m o h took d is = by_phase o.phase h.backed h.idle is
  where
    lit : Phase → Operation
    lit phase = record { id = o.id; request = o.request; began = o.began; visited = o.visited; message = o.message; phase = phase }

    took' : Took tape (message m.from (o.id).node.0 m.body)
    took' = subst (λ node. Took tape (message m.from node m.body)) (sym h.node) took

    by_phase : (phase : Phase) → Backed s.cluster tape met o.id phase → Idle tape met o.id (place_of phase) → settled_by (hears_message s clock m (lit phase)).operation ≡ Some d → MayDecide s.cluster tape me (at_place d.group d.position) d.entry
    by_phase (Reads group r) b idle e =
        let a = hears_message_acts s tape met clock m o.id o.request o.began o.visited o.message (Reads group r) b idle took' in
        settled_phase s.cluster tape me met o.id o.request o.began o.visited o.message (hears_message s clock m (lit (Reads group r))).operation.phase 0 (hears_message s clock m (lit (Reads group r))).sends h.node a.own (a.backed 0) d e
    by_phase (Proposes group n asked proposal promised) b idle e =
        let a = hears_message_acts s tape met clock m o.id o.request o.began o.visited o.message (Proposes group n asked proposal promised) b idle took' in
        settled_phase s.cluster tape me met o.id o.request o.began o.visited o.message (hears_message s clock m (lit (Proposes group n asked proposal promised))).operation.phase 0 (hears_message s clock m (lit (Proposes group n asked proposal promised))).sends h.node a.own (a.backed 0) d e

-- the first of an option and what follows
abbrev pub or_else : Option Decision → Option Decision → Option Decision
or_else None other = other
or_else (Some d) other = Some d

pub first_may : (users : Users) → (s : Setting) (tape : List Item) (me st k : ℕ) (met : List Met) (clock : ℕ) (m : Message) (os : List Operation) → Each (Held users s.cluster tape me st k met) os → Took tape (message m.from me m.body)
    → (d : Decision) → first_settled (map (hears_message s clock m) os) ≡ Some d → MayDecide s.cluster tape me (at_place d.group d.position) d.entry
first_may users s tape me st k met clock m [] h took d e = cc
first_may users s tape me st k met clock m (o ∷ os) h took d e =
    go (settled_by (hears_message s clock m o).operation) refl e (λ x. first_may users s tape me st k met clock m os h.1 took d x)
  where
    go : (one : Option Decision) → settled_by (hears_message s clock m o).operation ≡ one → or_else one (first_settled (map (hears_message s clock m) os)) ≡ Some d
        → (first_settled (map (hears_message s clock m) os) ≡ Some d → MayDecide s.cluster tape me (at_place d.group d.position) d.entry) → MayDecide s.cluster tape me (at_place d.group d.position) d.entry
    go None is x again = again x
    go (Some one) is x again = settled_heard users s tape me st k met clock m o h.0 took d (is ∙ x)

pub told_may : (c : Cluster) (tape : List Item) (me from : ℕ) (body : Body) → Took tape (message from me body) → (d : Decision) → told_decision body ≡ Some d → MayDecide c tape me (at_place d.group d.position) d.entry
told_may c tape me from (Decide group position entry) took d h = subst (λ (x : Decision). MayDecide c tape me (at_place x.group x.position) x.entry) (some_is _ d h) (told from took)
told_may c tape me from (Have op group position entry) took d h = subst (λ (x : Decision). MayDecide c tape me (at_place x.group x.position) x.entry) (some_is _ d h) (given from op took)
told_may c tape me from _ took d h = cc

pub decision_silent : (o : Option Decision) → Each IsSilent (decision_note o)
decision_silent None = tt
decision_silent (Some d) = (tt, tt)

-- a decision that is new is noted
pub new_may : (c : Cluster) (tape : List Item) (me : ℕ) (met : List Met) (o : Option Decision) → ((d : Decision) → o ≡ Some d → MayDecide c tape me (at_place d.group d.position) d.entry) → Each (MayBeNoted c tape me) (decision_note (if_new met o))
new_may c tape me met None h = tt
new_may c tape me met (Some d) h = go (is_none (decided met d.group d.position))
  where
    go : (t : Bool) → Each (MayBeNoted c tape me) (decision_note (cond t (Some d) None))
    go true = (h d refl, tt)
    go false = tt
