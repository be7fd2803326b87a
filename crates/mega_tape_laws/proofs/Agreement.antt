-- All that is decided was chosen, and at one position one entry is chosen: at ballot zero through the position's leader, whom the entry
-- below it names, so by induction over positions.
use Rattle.std.proofs.Common.{◌≡◌, ◌⊎◌, inl, inr, ℕ, zero, suc, ◌<◌, List, [], ◌∷◌, refl, sym, ap, ◌∙◌, subst, arith}
use Rattle.mega_base.specs.declared.names.GroupId.{GroupId}
use Rattle.mega_base.specs.declared.names.NodeId.{NodeId}
use Rattle.mega_base.specs.declared.names.OpId.{OpId}
use Rattle.mega_base.specs.declared.names.Position.{Position}
use Rattle.mega_ballot.specs.declared.ballot.Ballot.{Ballot}
use Rattle.mega_ballot.specs.Order.{zero_ballot}
use Rattle.mega_cluster.specs.declared.cluster.Cluster.{Cluster}
use Rattle.mega_entry.specs.declared.content.Content.{Content}
use Rattle.mega_wire.specs.declared.message.Body.TheVariants.{Accept, Accepted, Have, Decide as Tell}
use Rattle.mega_wal.specs.Acceptor.{Voted}
use Rattle.mega_promises.specs.of_transcript.declared.item.Item.{Item}
use Rattle.mega_promises.specs.of_transcript.declared.item.Item.TheVariants.{Decide, Sent}
use Rattle.mega_promises.specs.Items.{number}
use Rattle.mega_promises.specs.Promises.{Agree, Stands}
use Rattle.mega_tape_laws.specs.Places.{In, Place, Proposes, act_of, acts, move_of, moves}
use Rattle.mega_tape_laws.specs.Chosen.{Chosen}
use Rattle.mega_tape_laws.specs.Settled.{IsSettled}
use Rattle.mega_tape_laws.specs.Lawful.{Allowed, Lawful, Leads, MayDecide, MayPropose, asks, given, lowest, message, named, picks, repeats, settled, spreads, told}
use Rattle.mega_tape_laws.proofs.Ballots.{Below, order}
use Rattle.mega_tape_laws.proofs.Lists.{Source, in_tail, kept, lookback, some_is, source}
use Rattle.mega_tape_laws.proofs.Votes.{Barred, one_at_zero}
use Rattle.mega_tape_laws.proofs.Made.{Proposed, accepts, acts_lawful, heard_act, proposed_here, vote_proposed, voted_here}
use Rattle.mega_tape_laws.proofs.Majorities.{Shared, meet}
use Rattle.mega_tape_laws.proofs.Safety.{NoneOther, OneAtZero, one_vote, safe}

-- ---- chosen entries

chosen_then : (c : Cluster) (p : Place) (item : Item) (before : List Item) (e : Content) → Chosen c p before e → Chosen c p (item ∷ before) e
chosen_then c p item before e h = record {
  ballot = h.ballot;
  test = h.test;
  majority = h.majority;
  each = λ voter t. in_tail (act_of voter p item) (acts before voter p) (Voted h.ballot e) ((h.each) voter t);
}

-- a proposal above a chosen ballot carries the chosen entry
pub carried : (c : Cluster) (p : Place) → OneAtZero c p → (tape : List Item) → Lawful c tape → (e : Content) (h : Chosen c p tape e)
    → (op : OpId) (b : Ballot) (f : Content) → In (Proposes b f) (moves tape op p) → Below h.ballot b → e ≡ f
carried c p at_zero tape l e h op b f i less = go ((none.each) v.node v.second)
  where
    none : NoneOther c p tape h.ballot f
    none = safe c p at_zero tape l op b f i h.ballot less

    v : Shared h.test none.test
    v = meet c h.test none.test h.majority none.majority

    go : In (Voted h.ballot f) (acts tape v.node p) ⊎ Barred (acts tape v.node p) h.ballot → e ≡ f
    go (inl j) = one_vote c p at_zero tape l v.node v.node h.ballot e f ((h.each) v.node v.first) j
    go (inr barred) = absurd ((barred.without) e ((h.each) v.node v.first))

-- what is chosen at a lower ballot is chosen at a greater one
chosen_above : (c : Cluster) (p : Place) → OneAtZero c p → (tape : List Item) → Lawful c tape → (e f : Content) (h : Chosen c p tape e) (k : Chosen c p tape f) → Below h.ballot k.ballot → e ≡ f
chosen_above c p at_zero tape l e f h k less = carried c p at_zero tape l e h proposal.op k.ballot f proposal.stands less
  where
    some : Shared k.test k.test
    some = meet c k.test k.test k.majority k.majority

    proposal : Proposed tape p k.ballot f
    proposal = vote_proposed c tape l some.node p k.ballot f ((k.each) some.node some.first)

pub chosen_once : (c : Cluster) (p : Place) → OneAtZero c p → (tape : List Item) → Lawful c tape → (e f : Content) → Chosen c p tape e → Chosen c p tape f → e ≡ f
chosen_once c p at_zero tape l e f h k = elim (order h.ballot k.ballot) [
  | inl less ↦ chosen_above c p at_zero tape l e f h k less
  | inr rest ↦ elim rest [ inl same ↦ at_one same | inr more ↦ sym (chosen_above c p at_zero tape l f e k h more) ]
]
  where
    at_one : h.ballot ≡ k.ballot → e ≡ f
    at_one same =
        let v = meet c h.test k.test h.majority k.majority in
        one_vote c p at_zero tape l v.node v.node k.ballot e f (subst (λ x. In (Voted x e) (acts tape v.node p)) same ((h.each) v.node v.first)) ((k.each) v.node v.second)

-- ---- what is decided was chosen

tell_decided : (c : Cluster) (tape : List Item) → Lawful c tape → (k from to : ℕ) (g : GroupId) (n : Position) (e : Content) → Stands (Sent k (message from to (Tell g n e))) tape → Stands (Decide (number from) g n e) tape
tell_decided c tape l k from to g n e s = lookback c (λ before. Stands (Decide (number from) g n e) before) (Sent k (message from to (Tell g n e))) (λ other before q. inr q) (λ before may. may) tape l s

have_decided : (c : Cluster) (tape : List Item) → Lawful c tape → (k from to : ℕ) (op : OpId) (g : GroupId) (n : Position) (e : Content) → Stands (Sent k (message from to (Have op g n e))) tape → Stands (Decide (number from) g n e) tape
have_decided c tape l k from to op g n e s = lookback c (λ before. Stands (Decide (number from) g n e) before) (Sent k (message from to (Have op g n e))) (λ other before q. inr q) (λ before may. may) tape l s

pub decided_chosen : (c : Cluster) (p : Place) (tape : List Item) → Lawful c tape → (node : NodeId) (e : Content) → Stands (Decide node p.group p.position e) tape → Chosen c p tape e
decided_chosen c p [] l node e s = absurd s
decided_chosen c p (item ∷ before) l node e (inr s) = chosen_then c p item before e (decided_chosen c p before l.1 node e s)
decided_chosen c p (item ∷ before) l node e (inl same) = chosen_then c p item before e (go (λ i d t. decided_chosen c p before l.1 i d t) (subst (Allowed c before) same l.0))
  where
    go : ((i : NodeId) (d : Content) → Stands (Decide i p.group p.position d) before → Chosen c p before d) → MayDecide c before node.0 p e → Chosen c p before e
    go earlier (settled op b test at majority heard) = record {
      ballot = b;
      test = test;
      majority = majority;
      each = λ voter t. heard_act before voter p (message voter op.node.0 (Accepted op p.group p.position b e)) (Voted b e) (voted_here voter p op.node.0 op b e) (heard voter t);
    }
    go earlier (told from took) = earlier (number from) e (tell_decided c before l.1 took.number from node.0 p.group p.position e took.sent)
    go earlier (given from op took) = earlier (number from) e (have_decided c before l.1 took.number from node.0 op p.group p.position e took.sent)

pub settled_chosen : (c : Cluster) (tape : List Item) → Lawful c tape → (op : OpId) (p : Place) (e : Content) → IsSettled c tape op p e → Chosen c p tape e
settled_chosen c tape l op p e s = record {
  ballot = s.ballot;
  test = s.test;
  majority = s.majority;
  each = λ voter t. heard_act tape voter p (message voter op.node.0 (Accepted op p.group p.position s.ballot e)) (Voted s.ballot e) (voted_here voter p op.node.0 op s.ballot e) ((s.heard) voter t);
}

-- all decides of a place show one entry
abbrev pub AgreeAt : Cluster → Place → Type 0
AgreeAt c p = (tape : List Item) → Lawful c tape → (i j : NodeId) (d e : Content) → Stands (Decide i p.group p.position d) tape → Stands (Decide j p.group p.position e) tape → d ≡ e

agree_at : (c : Cluster) (p : Place) → OneAtZero c p → AgreeAt c p
agree_at c p at_zero tape l i j d e s t = chosen_once c p at_zero tape l d e (decided_chosen c p tape l i d s) (decided_chosen c p tape l j e t)

-- ---- ballot zero

-- a voter was asked to accept
record Asked (tape : List Item) (voter : ℕ) (p : Place) (b : Ballot) (e : Content) : Type 0 where
  key : ℕ
  from : ℕ
  op : OpId
  sent : Stands (Sent key (message from voter (Accept op p.group p.position b e))) tape

vote_asked : (c : Cluster) (tape : List Item) → Lawful c tape → (voter : ℕ) (p : Place) (b : Ballot) (e : Content) → In (Voted b e) (acts tape voter p) → Asked tape voter p b e
vote_asked c tape l voter p b e i = lookback c (λ s. Asked s voter p b e) from.item lasts held tape l from.stands
  where
    from : Source (act_of voter p) (Voted b e) tape
    from = source (act_of voter p) (Voted b e) tape i

    lasts : (other : Item) (before : List Item) → Asked before voter p b e → Asked (other ∷ before) voter p b e
    lasts other before q = record { key = q.key; from = q.from; op = q.op; sent = inr q.sent }

    held : (before : List Item) → Allowed c before from.item → Asked before voter p b e
    held before may =
        let a = accepts c before voter p b e from.item from.tells may in
        record { key = ((a.may).asked).number; from = a.from; op = a.op; sent = ((a.may).asked).sent }

-- whoever was asked at ballot zero is the leader, or the leader had accepted the entry
record Led (c : Cluster) (p : Place) (tape : List Item) (voter : ℕ) (e : Content) : Type 0 where
  node : ℕ
  leader : ℕ
  leads : Leads c tape node p leader
  first : (leader ≡ voter) ⊎ In (Voted zero_ballot e) (acts tape leader p)

leads_then : (c : Cluster) (p : Place) (item : Item) (before : List Item) (node leader : ℕ) → Leads c before node p leader → Leads c (item ∷ before) node p leader
leads_then c p item before node leader (lowest at is) = lowest at is
leads_then c p item before node leader (named below entry above at s is) = named below entry above at (inr s) is

led_then : (c : Cluster) (p : Place) (item : Item) (before : List Item) (voter : ℕ) (e : Content) → Led c p before voter e → Led c p (item ∷ before) voter e
led_then c p item before voter e q = record { node = q.node; leader = q.leader; leads = leads_then c p item before q.node q.leader q.leads; first = go q.first }
  where
    go : (q.leader ≡ voter) ⊎ In (Voted zero_ballot e) (acts before q.leader p) → (q.leader ≡ voter) ⊎ In (Voted zero_ballot e) (acts (item ∷ before) q.leader p)
    go (inl same) = inl same
    go (inr i) = inr (in_tail (act_of q.leader p item) (acts before q.leader p) (Voted zero_ballot e) i)

offer_led : (c : Cluster) (p : Place) (before : List Item) (from voter : ℕ) (op : OpId) (b : Ballot) (e : Content) → b ≡ zero_ballot → MayPropose c before from voter op p b e → Led c p before voter e
offer_led c p before from voter op b e z (asks at_zero leads) = record { node = from; leader = voter; leads = leads; first = inl refl }
offer_led c p before from voter op b e z (spreads leader at_zero leads heard) = record {
  node = from;
  leader = leader;
  leads = leads;
  first = inr (heard_act before leader p (message leader op.node.0 (Accepted op p.group p.position zero_ballot e)) (Voted zero_ballot e) (voted_here leader p op.node.0 op zero_ballot e) heard);
}
offer_led c p before from voter op b e z (picks o last picked) = absurd (let above = o.above in let is = ap (λ (x : Ballot). x.round) z in omega arith)
offer_led c p before from voter op b e z (repeats o last) = absurd (let above = o.above in let is = ap (λ (x : Ballot). x.round) z in omega arith)

asked_led : (c : Cluster) (p : Place) (tape : List Item) → Lawful c tape → (voter : ℕ) (e : Content) → Asked tape voter p zero_ballot e → Led c p tape voter e
asked_led c p tape l voter e a = lookback c (λ s. Led c p s voter e) (Sent a.key (message a.from voter (Accept a.op p.group p.position zero_ballot e)))
    (λ other before q. led_then c p other before voter e q) (λ before may. offer_led c p before a.from voter a.op zero_ballot e refl may) tape l a.sent

-- a position has one leader, where all decides below it agree
one_leader : (c : Cluster) (p : Place) → ((below : Position) → p.position.0 ≡ suc below.0 → AgreeAt c (record { group = p.group; position = below }))
    → (tape : List Item) → Lawful c tape → (i j leader other : ℕ) → Leads c tape i p leader → Leads c tape j p other → leader ≡ other
one_leader c p agree tape l i j leader other (lowest at is) (lowest at' is') = some_is leader other (sym is ∙ is')
one_leader c p agree tape l i j leader other (lowest at is) (named below entry above at' s is') = absurd (omega arith)
one_leader c p agree tape l i j leader other (named below entry above at s is) (lowest at' is') = absurd (omega arith)
one_leader c p agree tape l i j leader other (named below entry above at s is) (named below' entry' above' at' s' is') =
    let same : below'.0 ≡ below.0 = omega arith in
    let here : Stands (Decide (number j) p.group below entry') tape = subst (λ (x : Position). Stands (Decide (number j) p.group x entry') tape) (λ k. record { 0 = same k }) s' in
    let one = agree below at tape l (number i) (number j) entry entry' s here in
    sym is ∙ (ap (λ (x : Content). (x.leader).0) one ∙ is')

zero_above : (c : Cluster) (p : Place) → ((below : Position) → p.position.0 ≡ suc below.0 → AgreeAt c (record { group = p.group; position = below })) → OneAtZero c p
zero_above c p agree tape l v w e f i j = one_at_zero (acts tape b.leader p) (acts_lawful c tape b.leader p l) e f (subst (λ x. In (Voted zero_ballot e) (acts tape x p)) same (by v a.leader e i a.first)) (by w b.leader f j b.first)
  where
    a : Led c p tape v e
    a = asked_led c p tape l v e (vote_asked c tape l v p zero_ballot e i)

    b : Led c p tape w f
    b = asked_led c p tape l w f (vote_asked c tape l w p zero_ballot f j)

    same : a.leader ≡ b.leader
    same = one_leader c p agree tape l a.node b.node a.leader b.leader a.leads b.leads

    by : (voter leader : ℕ) (x : Content) → In (Voted zero_ballot x) (acts tape voter p) → (leader ≡ voter) ⊎ In (Voted zero_ballot x) (acts tape leader p) → In (Voted zero_ballot x) (acts tape leader p)
    by voter leader x k (inl is) = subst (λ y. In (Voted zero_ballot x) (acts tape y p)) (sym is) k
    by voter leader x k (inr first) = first

-- ---- positions

zero_below : (c : Cluster) (bound : ℕ) (p : Place) → p.position.0 < bound → OneAtZero c p
zero_below c zero p h = absurd (omega arith)
zero_below c (suc bound) p h = zero_above c p (λ below at. agree_at c (record { group = p.group; position = below }) (zero_below c bound (record { group = p.group; position = below }) (omega arith)))

-- all votes at ballot zero of a place are for one entry
pub one_zero : (c : Cluster) (p : Place) → OneAtZero c p
one_zero c p = zero_below c (suc p.position.0) p (omega arith)

pub agreement : (c : Cluster) (tape : List Item) → Lawful c tape → Agree tape
agreement c tape l i j group n d e s t = agree_at c (record { group = group; position = n }) (one_zero c (record { group = group; position = n })) tape l i j d e s t

-- ---- the laws, of any position

pub chosen_entry : (c : Cluster) (tape : List Item) → Lawful c tape → (p : Place) (d e : Content) → Chosen c p tape d → Chosen c p tape e → d ≡ e
chosen_entry c tape l p d e h k = chosen_once c p (one_zero c p) tape l d e h k

pub carried_entry : (c : Cluster) (tape : List Item) → Lawful c tape → (p : Place) (e f : Content) (b : Ballot) (op : OpId) (node to key : ℕ) (h : Chosen c p tape e)
    → Stands (Sent key (message node to (Accept op p.group p.position b f))) tape → Below h.ballot b → f ≡ e
carried_entry c tape l p e f b op node to key h s less =
    sym (carried c p (one_zero c p) tape l e h op b f (kept (move_of op p) (Sent key (message node to (Accept op p.group p.position b f))) (Proposes b f) tape (proposed_here op p b f) s) less)
