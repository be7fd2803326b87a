-- Each proposal is safe: at no lower ballot can another entry be chosen (Lamport 2001, the invariant of proposals). Ballot zero, which all
-- operations share, enters as a premise: all its votes are for one entry.
use Rattle.std.proofs.Common.{◌≡◌, ◌⊎◌, inl, inr, ℕ, Bool, true, List, [], ◌∷◌, Option, Some, None, refl, sym, ◌∙◌, subst}
use Rattle.mega_base.specs.declared.names.OpId.{OpId}
use Rattle.mega_ballot.specs.declared.ballot.Ballot.{Ballot}
use Rattle.mega_ballot.specs.Order.{zero_ballot}
use Rattle.mega_cluster.specs.declared.cluster.Cluster.{Cluster}
use Rattle.mega_entry.specs.declared.content.Content.{Content}
use Rattle.mega_wire.specs.declared.message.Body.TheVariants.{Promise}
use Rattle.mega_wal.specs.Acceptor.{Promised, Voted, Vote}
use Rattle.mega_promises.specs.of_transcript.declared.item.Item.{Item}
use Rattle.mega_tape_laws.specs.Places.{In, IsMajority, Place, Proposes, act_of, acts, move_of, moves}
use Rattle.mega_tape_laws.specs.Lawful.{Carries, IsOwn, Lawful, MayPropose, Picked, asks, greatest, message, own, picks, repeats, spreads}
use Rattle.mega_tape_laws.proofs.Ballots.{Below, at_most_below, at_most_cases, not_below_zero, order}
use Rattle.mega_tape_laws.proofs.Lists.{from_cons, in_tail, some_is}
use Rattle.mega_tape_laws.proofs.Votes.{Barred, LawfulActs, barred_on, quiet, report_in}
use Rattle.mega_tape_laws.proofs.Moves.{newest_in, one_proposal, own_or_zero}
use Rattle.mega_tape_laws.proofs.Made.{Proposed, acts_lawful, heard_act, item_allowed, moves_lawful, offers, promised_here, vote_proposed}

-- a majority each accepted the entry at the ballot, or never accepts there: no other entry is chosen at it
pub record NoneOther (c : Cluster) (p : Place) (tape : List Item) (b : Ballot) (e : Content) : Type 0 where
  pub test : ℕ → Bool
  pub majority : IsMajority c test
  pub each : (voter : ℕ) → test voter ≡ true → In (Voted b e) (acts tape voter p) ⊎ Barred (acts tape voter p) b

abbrev pub IsSafe : Cluster → Place → List Item → Ballot → Content → Type 0
IsSafe c p tape b e = (d : Ballot) → Below d b → NoneOther c p tape d e

-- all votes at ballot zero are for one entry
abbrev pub OneAtZero : Cluster → Place → Type 0
OneAtZero c p = (tape : List Item) → Lawful c tape → (v w : ℕ) (e f : Content) → In (Voted zero_ballot e) (acts tape v p) → In (Voted zero_ballot f) (acts tape w p) → e ≡ f

none_other_then : (c : Cluster) (p : Place) (item : Item) (before : List Item) → Lawful c (item ∷ before) → (b : Ballot) (e : Content) → NoneOther c p before b e → NoneOther c p (item ∷ before) b e
none_other_then c p item before l b e n = record { test = n.test; majority = n.majority; each = λ voter t. go voter (n.each voter t) }
  where
    go : (voter : ℕ) → In (Voted b e) (acts before voter p) ⊎ Barred (acts before voter p) b → In (Voted b e) (acts (item ∷ before) voter p) ⊎ Barred (acts (item ∷ before) voter p) b
    go voter (inl i) = inl (in_tail (act_of voter p item) (acts before voter p) (Voted b e) i)
    go voter (inr h) = inr (barred_on (act_of voter p item) (acts before voter p) (λ act q. item_allowed c before voter p act item q l.0) b h)

-- all votes at one ballot are for one entry
pub one_vote : (c : Cluster) (p : Place) → OneAtZero c p → (tape : List Item) → Lawful c tape → (v w : ℕ) (b : Ballot) (e f : Content)
    → In (Voted b e) (acts tape v p) → In (Voted b f) (acts tape w p) → e ≡ f
one_vote c p at_zero tape l v w b e f i j = go (own_or_zero first.op (moves tape first.op p) (moves_lawful c tape first.op p l) b e first.stands) (own_or_zero second.op (moves tape second.op p) (moves_lawful c tape second.op p l) b f second.stands)
  where
    first : Proposed tape p b e
    first = vote_proposed c tape l v p b e i

    second : Proposed tape p b f
    second = vote_proposed c tape l w p b f j

    shared : b ≡ zero_ballot → e ≡ f
    shared z = at_zero tape l v w e f (subst (λ x. In (Voted x e) (acts tape v p)) z i) (subst (λ x. In (Voted x f) (acts tape w p)) z j)

    go : (b ≡ zero_ballot) ⊎ IsOwn first.op b → (b ≡ zero_ballot) ⊎ IsOwn second.op b → e ≡ f
    go (inl z) h = shared z
    go (inr o) (inl z) = shared z
    go (inr o) (inr q) =
        one_proposal b.op (moves tape b.op p) (moves_lawful c tape b.op p l) b e f o.above
        (subst (λ x. In (Proposes b e) (moves tape x p)) (sym o.names) first.stands)
        (subst (λ x. In (Proposes b f) (moves tape x p)) (sym q.names) second.stands)

-- the entry that the promises of a majority report is safe, where all that was proposed before is
picked_safe : (c : Cluster) (p : Place) → OneAtZero c p → (tape : List Item) → Lawful c tape
    → ((op : OpId) (b : Ballot) (e : Content) → In (Proposes b e) (moves tape op p) → IsSafe c p tape b e)
    → (op : OpId) (b : Ballot) (e : Content) → Picked c tape op p b e → IsSafe c p tape b e
picked_safe c p at_zero tape l earlier op b e picked = by picked.carries
  where
    lawful : (voter : ℕ) → LawfulActs (acts tape voter p)
    lawful voter = acts_lawful c tape voter p l

    promised : (voter : ℕ) → (picked.test) voter ≡ true → In (Promised b ((picked.report) voter)) (acts tape voter p)
    promised voter t = heard_act tape voter p (message voter op.node.0 (Promise op p.group p.position b ((picked.report) voter))) (Promised b ((picked.report) voter)) (promised_here voter p op.node.0 op b ((picked.report) voter)) ((picked.heard) voter t)

    silent : (voter : ℕ) → (picked.test) voter ≡ true → (d : Ballot) → Below d b → ((x : Vote) → (picked.report) voter ≡ Some x → Below x.0 d) → Barred (acts tape voter p) d
    silent voter t d h less = quiet (acts tape voter p) (lawful voter) b ((picked.report) voter) (promised voter t) d h less

    by : Carries picked.test picked.report e → IsSafe c p tape b e
    by (own free) d h = record {
      test = picked.test;
      majority = picked.majority;
      each = λ voter t. inr (silent voter t d h (λ x is. let none = free voter t in cc));
    }
    by (greatest w g tw is most) d h = elim (order d g) [
      | inl less ↦ (earlier proposal.op g e proposal.stands) d less
      | inr rest ↦ elim rest [ inl same ↦ at_it same | inr more ↦ above_it more ]
    ]
      where
        vote : In (Voted g e) (acts tape w p)
        vote = report_in (acts tape w p) (lawful w) b ((picked.report) w) (promised w tw) (g, e) is

        proposal : Proposed tape p g e
        proposal = vote_proposed c tape l w p g e vote

        above_it : Below g d → NoneOther c p tape d e
        above_it more = record {
          test = picked.test;
          majority = picked.majority;
          each = λ voter t. inr (silent voter t d h (λ x reports. at_most_below x.0 g d (most voter x t reports) more));
        }

        at_it : d ≡ g → NoneOther c p tape d e
        at_it same = record { test = picked.test; majority = picked.majority; each = λ voter t. at voter t ((picked.report) voter) refl }
          where
            voted : (voter : ℕ) → (picked.test) voter ≡ true → (x : Vote) → (picked.report) voter ≡ Some x → x.0 ≡ g → In (Voted d e) (acts tape voter p)
            voted voter t x reports z =
                let theirs = report_in (acts tape voter p) (lawful voter) b ((picked.report) voter) (promised voter t) x reports in
                let at_g : In (Voted g x.1) (acts tape voter p) = subst (λ y. In (Voted y x.1) (acts tape voter p)) z theirs in
                let one : x.1 ≡ e = one_vote c p at_zero tape l voter w g x.1 e at_g vote in
                coe 0 1 (i. In (Voted (sym same i) (one i)) (acts tape voter p)) at_g

            at : (voter : ℕ) → (picked.test) voter ≡ true → (o : Option Vote) → (picked.report) voter ≡ o → In (Voted d e) (acts tape voter p) ⊎ Barred (acts tape voter p) d
            at voter t None reports = inr (silent voter t d h (λ x k. let none = reports in cc))
            at voter t (Some x) reports = elim (at_most_cases x.0 g (most voter x t reports)) [
              | inl z ↦ inl (voted voter t x reports z)
              | inr less ↦ inr (silent voter t d h (λ y k. subst (Below y.0) (sym same) (subst (λ (v : Vote). Below v.0 g) (some_is x y (sym reports ∙ k)) less)))
            ]

step_safe : (c : Cluster) (p : Place) → OneAtZero c p → (tape : List Item) → Lawful c tape
    → ((op : OpId) (b : Ballot) (e : Content) → In (Proposes b e) (moves tape op p) → IsSafe c p tape b e)
    → (node to : ℕ) (op : OpId) (b : Ballot) (e : Content) → MayPropose c tape node to op p b e → IsSafe c p tape b e
step_safe c p at_zero tape l earlier node to op b e (asks z leads) d h = absurd (not_below_zero d (subst (Below d) z h))
step_safe c p at_zero tape l earlier node to op b e (spreads leader z leads heard) d h = absurd (not_below_zero d (subst (Below d) z h))
step_safe c p at_zero tape l earlier node to op b e (picks o last picked) d h = picked_safe c p at_zero tape l earlier op b e picked d h
step_safe c p at_zero tape l earlier node to op b e (repeats o last) d h = earlier op b e (newest_in (moves tape op p) (Proposes b e) last) d h

pub safe : (c : Cluster) (p : Place) → OneAtZero c p → (tape : List Item) → Lawful c tape
    → (op : OpId) (b : Ballot) (e : Content) → In (Proposes b e) (moves tape op p) → IsSafe c p tape b e
safe c p at_zero [] l op b e i d h = absurd i
safe c p at_zero (item ∷ before) l op b e i d h = none_other_then c p item before l d e (elim (from_cons (move_of op p item) (moves before op p) (Proposes b e) i) [
  | inl tells ↦
      let o = offers c before op p b e item tells l.0 in
      step_safe c p at_zero before l.1 (λ q x y k. safe c p at_zero before l.1 q x y k) o.node o.to op b e o.may d h
  | inr j ↦ safe c p at_zero before l.1 op b e j d h
])
