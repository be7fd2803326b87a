-- A poll of a majority hears of each position that was decided before its operation began, from a voter that accepted there.
use Rattle.std.proofs.Common.{◌≡◌, ◌⊎◌, inl, inr, ℕ, ◌≤◌, Bool, true, false, List, [], ◌∷◌, refl, sym, ap, ◌∙◌, subst, arith}
use Rattle.std.proofs.lemmas.Bool.{or_right, or_left}
use Rattle.mega_base.specs.declared.names.GroupId.{GroupId}
use Rattle.mega_base.specs.declared.names.NodeId.{NodeId}
use Rattle.mega_base.specs.declared.names.OpId.{OpId}
use Rattle.mega_base.specs.declared.names.Position.{Position}
use Rattle.mega_ballot.specs.declared.ballot.Ballot.{Ballot}
use Rattle.mega_cluster.specs.declared.cluster.Cluster.{Cluster}
use Rattle.mega_entry.specs.declared.content.Content.{Content}
use Rattle.mega_wire.specs.declared.message.Body.TheVariants.{Top, Where}
use Rattle.mega_wal.specs.Acceptor.{Voted}
use Rattle.mega_wal.specs.Same.{same_op}
use Rattle.mega_promises.specs.of_transcript.declared.item.Item.{Item}
use Rattle.mega_promises.specs.of_transcript.declared.item.Item.TheVariants.{Begin, Decide, Sent}
use Rattle.mega_promises.specs.Promises.{Stands, StoodBefore}
use Rattle.mega_tape_laws.specs.Lawful.{Lawful, message}
use Rattle.mega_tape_laws.specs.Places.{In, IsMajority, Place, act_of, acts}
use Rattle.mega_tape_laws.specs.Polls.{ArePolls, IsPolled, IsPolling, MayTell, has_asked, is_asking}
use Rattle.mega_wal.proofs.Sames.{same_op_self}
use Rattle.mega_tape_laws.proofs.Ballots.{clash}
use Rattle.mega_tape_laws.proofs.Lists.{in_tail}
use Rattle.mega_tape_laws.proofs.Majorities.{Shared, meet}
use Rattle.mega_tape_laws.proofs.Agreement.{decided_chosen}

-- a fact held when an item came
abbrev Since : Item → (List Item → Type 0) → List Item → Type 0
Since item P [] = ⊥
Since item P (other ∷ before) = ((other ≡ item) × P before) ⊎ Since item P before

-- a majority had accepted the entry at one ballot when the item came
record ChosenSince (c : Cluster) (p : Place) (item : Item) (e : Content) (tape : List Item) : Type 0 where
  ballot : Ballot
  test : ℕ → Bool
  majority : IsMajority c test
  each : (voter : ℕ) → test voter ≡ true → Since item (λ s. In (Voted ballot e) (acts s voter p)) tape

chosen_since : (c : Cluster) (p : Place) (item : Item) (node : NodeId) (e : Content) (tape : List Item) → Lawful c tape → StoodBefore (Decide node p.group p.position e) item tape → ChosenSince c p item e tape
chosen_since c p item node e [] l s = absurd s
chosen_since c p item node e (other ∷ before) l (inl (same, stands)) =
    let h = decided_chosen c p before l.1 node e stands in
    record { ballot = h.ballot; test = h.test; majority = h.majority; each = λ voter t. inl (same, (h.each) voter t) }
chosen_since c p item node e (other ∷ before) l (inr s) =
    let h = chosen_since c p item node e before l.1 s in
    record { ballot = h.ballot; test = h.test; majority = h.majority; each = λ voter t. inr ((h.each) voter t) }

-- a vote that was there stays
vote_stays : (p : Place) (item : Item) (voter : ℕ) (b : Ballot) (e : Content) (tape : List Item) → Since item (λ s. In (Voted b e) (acts s voter p)) tape → In (Voted b e) (acts tape voter p)
vote_stays p item voter b e [] s = absurd s
vote_stays p item voter b e (other ∷ before) (inl (same, i)) = in_tail (act_of voter p other) (acts before voter p) (Voted b e) i
vote_stays p item voter b e (other ∷ before) (inr s) = in_tail (act_of voter p other) (acts before voter p) (Voted b e) (vote_stays p item voter b e before s)

-- ---- who is told asked

asked_then : (item : Item) (before : List Item) (op : OpId) → has_asked before op ≡ true → has_asked (item ∷ before) op ≡ true
asked_then (Sent number m) before op h = or_right (is_asking op m.body) (has_asked before op) h
asked_then _ before op h = h

asked_is : (tape : List Item) (key from to : ℕ) (op : OpId) (group : GroupId) → Stands (Sent key (message from to (Where op group))) tape → has_asked tape op ≡ true
asked_is [] key from to op group s = absurd s
asked_is (item ∷ before) key from to op group (inl same) =
    subst (λ x. has_asked (x ∷ before) op ≡ true) (sym same) (or_left (same_op op op) (has_asked before op) (same_op_self op))
asked_is (item ∷ before) key from to op group (inr s) = asked_then item before op (asked_is before key from to op group s)

told_asked : (tape : List Item) → ArePolls tape → (key voter to : ℕ) (op : OpId) (group : GroupId) (top : Position) → Stands (Sent key (message voter to (Top op group top))) tape → has_asked tape op ≡ true
told_asked [] w key voter to op group top s = absurd s
told_asked (item ∷ before) w key voter to op group top (inl same) =
    let may : MayTell before to voter op group top = subst (IsPolling before) same w.0 in
    asked_then item before op (asked_is before (may.asked).number to voter op group (may.asked).sent)
told_asked (item ∷ before) w key voter to op group top (inr s) = asked_then item before op (told_asked before w.1 key voter to op group top s)

abbrev is_begin : Item → Bool
is_begin (Begin op text) = true
is_begin _ = false

-- a voter tells no position below one that it had accepted when the operation began
told_most : (p : Place) (op : OpId) (text : List ℕ) (voter : ℕ) (b : Ballot) (e : Content) (key to : ℕ) (top : Position) (tape : List Item) → ArePolls tape
    → Since (Begin op text) (λ s. In (Voted b e) (acts s voter p)) tape → Stands (Sent key (message voter to (Top op p.group top))) tape → p.position.0 ≤ top.0
told_most p op text voter b e key to top [] q s t = absurd s
told_most p op text voter b e key to top (item ∷ before) q (inl (begins, i)) (inl tells) = absurd (clash true (refl) (ap is_begin (sym begins ∙ tells)))
told_most p op text voter b e key to top (item ∷ before) q (inl (begins, i)) (inr t) =
    let fresh : has_asked before op ≡ false = subst (IsPolling before) begins q.0 in
    absurd (clash (has_asked before op) (told_asked before q.1 key voter to op p.group top t) fresh)
told_most p op text voter b e key to top (item ∷ before) q (inr s) (inl tells) =
    let may : MayTell before to voter op p.group top = subst (IsPolling before) tells q.0 in
    (may.most) p.position b e (vote_stays p (Begin op text) voter b e before s)
told_most p op text voter b e key to top (item ∷ before) q (inr s) (inr t) = told_most p op text voter b e key to top before q.1 s t

pub polled_above : (c : Cluster) (tape : List Item) → Lawful c tape → ArePolls tape → (op : OpId) (text : List ℕ) (group : GroupId) (n p : Position) (node : NodeId) (entry : Content)
    → StoodBefore (Decide node group n entry) (Begin op text) tape → IsPolled c tape op group p → n.0 ≤ p.0
polled_above c tape l q op text group n p node entry s polled =
    let told = (polled.heard) voter.node voter.second in
    let most = told_most place op text voter.node chosen.ballot entry (told.1).number op.node.0 told.0 tape q ((chosen.each) voter.node voter.first) (told.1).sent in
    let above = told.2 in
    omega arith
  where
    place : Place
    place = record { group = group; position = n }

    chosen : ChosenSince c place (Begin op text) entry tape
    chosen = chosen_since c place (Begin op text) node entry tape l s

    voter : Shared chosen.test polled.test
    voter = meet c chosen.test polled.test chosen.majority polled.majority
