-- A round knows what its operation heard, and asks the cells about a node only once a majority accepted.
use Rattle.std.proofs.Common.{◌≡◌, ◌⊎◌, inl, inr, ℕ, ◌+◌, ◌==◌, ◌&&◌, ◌||◌, ◌≤◌, max, nat_le, not, Bool, true, false, cond, List, [], ◌∷◌, ◌++◌, length, map, flat_map, Option, refl, sym, ap, ◌∙◌, subst, arith}
use Rattle.std.proofs.lemmas.Bool.Decides.{nat_tests}
use Rattle.std.specs.List.{list_all, list_any}
use Rattle.std.proofs.lemmas.Bool.{and_parts, or_cases, false_from_ne_true, and_from, and_right, or_parts}
use Rattle.mega_base.specs.declared.names.OpId.{OpId}
use Rattle.mega_ballot.specs.declared.ballot.Ballot.{Ballot}
use Rattle.mega_ballot.specs.Order.{zero_ballot}
use Rattle.mega_cluster.specs.declared.cluster.Cluster.{Cluster}
use Rattle.mega_entry.specs.declared.content.Content.{Content}
use Rattle.mega_wire.specs.declared.message.Body.{Body}
use Rattle.mega_wire.specs.declared.message.Body.TheVariants.{Accept, Accepted, Refused, Prepare, Promise, Invalidated, Unheld}
use Rattle.mega_wal.specs.Same.{same_entry, same_op}
use Rattle.mega_wal.proofs.Sames.{same_entry_equal, same_op_equal}
use Rattle.mega_run_laws.specs.of_transcript.declared.item.Item.{Item}
use Rattle.mega_run_laws.specs.of_promises.Items.{number}
use Rattle.mega_run_laws.specs.of_rules.of_read.of_propose.Members.{has, is_majority, others, with_node}
use Rattle.mega_run_laws.specs.of_rules.of_read.of_propose.declared.round.Cover.{Cover}
use Rattle.mega_run_laws.specs.of_rules.of_read.of_propose.declared.round.Free.{Free}
use Rattle.mega_run_laws.specs.of_rules.of_read.of_propose.declared.round.Report.{Report}
use Rattle.mega_run_laws.specs.of_rules.of_read.of_propose.declared.round.Round.{Round}
use Rattle.mega_run_laws.specs.of_rules.of_read.of_propose.declared.round.Round.TheVariants.{Asking, Preparing, Accepting, Covering, Settled, Waiting}
use Rattle.mega_run_laws.specs.of_rules.of_read.of_propose.declared.round.Proposal.{Proposal}
use Rattle.mega_run_laws.specs.of_rules.of_read.of_propose.declared.round.Move.{Move as RoundMove}
use Rattle.mega_run_laws.specs.of_rules.of_read.of_propose.Rounds.{accept_to, accepted, accepts, asks, cell_numbers, completes, covers, dead_to, due, first_cover, greatest_vote, invalidate_to, invalidated, is_covered, is_due, is_here, is_same_free, is_sent, last_round, next_ballot, picked, prepare_to, prepares, promised, proposes, refused, same_ballot, stays, takes, tells, uncovered, unheld, vote_round, with_accepted, with_cell, with_invalidated}
use Rattle.mega_run_laws.specs.of_rules.Members.{full_nodes, voters}
use Rattle.mega_run_laws.specs.of_tape_laws.Places.{IsMajority, Place, Took, count}
use Rattle.mega_run_laws.specs.of_tape_laws.Lawful.{Heard, message}
use Rattle.mega_run_laws.proofs.of_tape_laws.Ballots.{clash, number_is, number_self}
use Rattle.mega_run_laws.specs.Justified.{Accepters, Each, here}
use Rattle.mega_run_laws.proofs.Counted.{majority_is, none_accepted, one_more, with_one, has_push}
use Rattle.mega_run_laws.proofs.Rounds.{ballot_is, here_is}
use Rattle.mega_run_laws.proofs.Sending.{took_on}
use Rattle.mega_settled_laws.specs.Covering.{Earlier, has_asked_about}
use Rattle.mega_run_laws.proofs.Events.{each_append as each_both}
use Rattle.mega_settled_laws.proofs.Tapes.{Mine, asks_both, asks_in, asks_map, earlier_stood, joined_has, mine_map, now_is, then_later}

-- ---- what a round knows

-- a majority accepted at a moment, before which the operation asked no cell about a node that it did not ask about for another position
pub record Backed (c : Cluster) (tape : List Item) (op : OpId) (p : Place) (asked : List ℕ) (b : Ballot) (e : Content) : Type 0 where
  pub moment : List Item
  pub earlier : Earlier moment tape
  pub test : ℕ → Bool
  pub majority : IsMajority c test
  pub heard : (voter : ℕ) → test voter ≡ true → Heard moment voter op (Accepted op p.group p.position b e)
  pub quiet : (node : ℕ) → has node asked ≡ false → has_asked_about moment op node ≡ false

abbrev pub is_among : List Free → ℕ → ℕ → Bool
is_among frees node cell = list_any (is_same_free (record { cell = cell; node = node })) frees

-- no pair of a cell and a node stands there twice
abbrev pub AreOnce : List Free → Type 0
AreOnce [] = Unit {0}
AreOnce (free ∷ frees) = (list_any (is_same_free free) frees ≡ false) × AreOnce frees

pub record FromCell (c : Cluster) (tape : List Item) (op : OpId) (cell node : ℕ) : Type 0 where
  pub heard : Heard tape cell op (Unheld op cell (number node))
  pub within : cell ≤ c.cells

pub record Covers (c : Cluster) (tape : List Item) (op : OpId) (p : Place) (asked : List ℕ) (b : Ballot) (e : Content) (cover : Cover) : Type 0 where
  pub backed : Backed c tape op p asked b e
  pub accepted : (node : ℕ) → has node cover.accepted ≡ true → Heard tape node op (Accepted op p.group p.position b e)
  pub invalidated : (node : ℕ) → has node cover.invalidated ≡ true → Heard tape node op (Invalidated op p.group p.position)
  pub free : (cell node : ℕ) → is_among cover.free node cell ≡ true → FromCell c tape op cell node
  pub once : AreOnce cover.free

pub record Covered (c : Cluster) (tape : List Item) (op : OpId) (p : Place) (asked : List ℕ) (e : Content) : Type 0 where
  pub ballot : Ballot
  pub cover : Cover
  pub covers : Covers c tape op p asked ballot e cover
  pub all : list_all (is_covered (here c op p asked) cover) (full_nodes c) ≡ true

abbrev pub Knows : Cluster → List Item → OpId → Place → List ℕ → Round → Type 0
Knows c tape op p asked (Asking leader sent) = Unit {0}
Knows c tape op p asked (Preparing b reports sent) = Unit {0}
Knows c tape op p asked (Accepting b e voted sent) = Accepters c tape op p b e voted
Knows c tape op p asked (Covering b e cover sent) = Covers c tape op p asked b e cover
Knows c tape op p asked (Settled e told) = Covered c tape op p asked e
Knows c tape op p asked Waiting = Unit {0}

-- the nodes about which a round asked the cells
abbrev pub told_of : Round → List ℕ
told_of (Asking leader sent) = []
told_of (Preparing b reports sent) = []
told_of (Accepting b e voted sent) = []
told_of (Covering b e cover sent) = cover.told
told_of (Settled e told) = told
told_of Waiting = []

-- what a round leads to: what it knows, that the nodes about which it asks are those that it tells, and that all it sends is its own
pub record Proceeds (c : Cluster) (tape : List Item) (op : OpId) (p : Place) (asked was : List ℕ) (t : RoundMove) : Type 0 where
  pub knows : Knows c tape op p asked t.proposal.round
  pub told : (node : ℕ) → has node (told_of t.proposal.round) ≡ false → has node was ≡ false
  pub silent : (node : ℕ) → has node (told_of t.proposal.round) ≡ false → asks_in t.sends op node ≡ false
  pub mine : Each (Mine op) t.sends

-- ---- on a longer tape

pub backed_on : (c : Cluster) (old new : List Item) → Earlier old new → (op : OpId) (p : Place) (asked : List ℕ) (b : Ballot) (e : Content) → Backed c old op p asked b e → Backed c new op p asked b e
backed_on c old new later op p asked b e k = record { moment = k.moment; earlier = then_later k.moment old new k.earlier later; test = k.test; majority = k.majority; heard = k.heard; quiet = k.quiet }

pub covers_on : (c : Cluster) (old new : List Item) → Earlier old new → (op : OpId) (p : Place) (asked : List ℕ) (b : Ballot) (e : Content) (cover : Cover) → Covers c old op p asked b e cover → Covers c new op p asked b e cover
covers_on c old new later op p asked b e cover k = record {
  backed = backed_on c old new later op p asked b e k.backed;
  accepted = λ node h. took_on old new (earlier_stood old new later) _ (k.accepted node h);
  invalidated = λ node h. took_on old new (earlier_stood old new later) _ (k.invalidated node h);
  free = λ cell node h. record { heard = took_on old new (earlier_stood old new later) _ (k.free cell node h).heard; within = (k.free cell node h).within };
  once = k.once;
}

pub knows_on : (c : Cluster) (old new : List Item) → Earlier old new → (op : OpId) (p : Place) (asked : List ℕ) (round : Round) → Knows c old op p asked round → Knows c new op p asked round
knows_on c old new later op p asked (Asking leader at) k = tt
knows_on c old new later op p asked (Preparing b reports at) k = tt
knows_on c old new later op p asked (Accepting b e voted at) k = record { heard = λ voter h. took_on old new (earlier_stood old new later) _ (k.heard voter h); counted = k.counted }
knows_on c old new later op p asked (Covering b e cover at) k = covers_on c old new later op p asked b e cover k
knows_on c old new later op p asked (Settled e told) k = record { ballot = k.ballot; cover = k.cover; covers = covers_on c old new later op p asked k.ballot e k.cover k.covers; all = k.all }
knows_on c old new later op p asked Waiting k = tt

-- ---- lists of free cells

free_is : (a b : Free) → is_same_free a b ≡ true → a ≡ b
free_is a b h = let parts = and_parts (a.cell == b.cell) (a.node == b.node) h in λ i. record { cell = number_is a.cell b.cell parts.0 i; node = number_is a.node b.node parts.1 i }

among_push : (free one : Free) (frees : List Free) → list_any (is_same_free one) (frees ++ free ∷ []) ≡ true → (list_any (is_same_free one) frees ≡ true) ⊎ (one ≡ free)
among_push free one [] h = elim (or_cases (is_same_free one free) false h) [ inl e ↦ inr (free_is one free e) | inr k ↦ cc ]
among_push free one (other ∷ frees) h = by (is_same_free one other) h (among_push free one frees)
  where
    by : (t : Bool) → (t || list_any (is_same_free one) (frees ++ free ∷ [])) ≡ true
        → (list_any (is_same_free one) (frees ++ free ∷ []) ≡ true → (list_any (is_same_free one) frees ≡ true) ⊎ (one ≡ free))
        → ((t || list_any (is_same_free one) frees) ≡ true) ⊎ (one ≡ free)
    by true h again = inl refl
    by false h again = again h

once_push : (free : Free) (frees : List Free) → AreOnce frees → list_any (is_same_free free) frees ≡ false → AreOnce (frees ++ free ∷ [])
once_push free [] once new = (refl, tt)
once_push free (one ∷ frees) once new = (
  false_from_ne_true (list_any (is_same_free one) (frees ++ free ∷ [])) (λ t. elim (among_push free one frees t) [
    | inl k ↦ clash (list_any (is_same_free one) frees) k once.0
    | inr e ↦ clash (is_same_free free one) (subst (λ x. is_same_free free x ≡ true) (sym e) (self free)) (or_parts (is_same_free free one) (list_any (is_same_free free) frees) new).0
  ]),
  once_push free frees once.1 (or_parts (is_same_free free one) (list_any (is_same_free free) frees) new).1,
)
  where
    self : (x : Free) → is_same_free x x ≡ true
    self x = and_from (x.cell == x.cell) (x.node == x.node) (number_self x.cell) (number_self x.node)

pub with_has : (x v : ℕ) (nodes : List ℕ) → has v (with_node x nodes) ≡ true → (has v nodes ≡ true) ⊎ (x ≡ v)
with_has x v nodes = by (has x nodes)
  where
    by : (t : Bool) → has v (cond t nodes (nodes ++ x ∷ [])) ≡ true → (has v nodes ≡ true) ⊎ (x ≡ v)
    by true h = inl h
    by false h = has_push x v nodes h

module _ (c : Cluster) (tape : List Item) (op : OpId) (p : Place) (asked : List ℕ) where
  abbrev pub Still : Round → Type 0
  Still round = (node : ℕ) → has node asked ≡ false → has node (told_of round) ≡ false → has_asked_about tape op node ≡ false

  still_proceeds : (told : List ℕ) (proposal : Proposal) → Knows c tape op p asked proposal.round → ((node : ℕ) → has node (told_of proposal.round) ≡ false → has node told ≡ false)
      → Proceeds c tape op p asked told (record { proposal = proposal; sends = [] })
  still_proceeds told proposal k more = record { knows = k; told = more; silent = λ node h. refl; mine = tt }

  -- ---- a new ballot

  prepares_proceeds : (told : List ℕ) (proposal : Proposal) (now : ℕ) → told ≡ [] → Proceeds c tape op p asked told (prepares (here c op p asked) proposal now)
  prepares_proceeds told proposal now none = by (nat_le last_round proposal.seen)
    where
      nothing : (node : ℕ) → has node told ≡ false
      nothing node = ap (λ x. has node x) none

      by : (t : Bool) → Proceeds c tape op p asked told (cond t (record { proposal = record { own = proposal.own; seen = proposal.seen; round = Waiting }; sends = [] })
          (record { proposal = record { own = proposal.own; seen = proposal.seen + 1; round = Preparing (next_ballot (here c op p asked) proposal) [] now }; sends = map (prepare_to (here c op p asked) (next_ballot (here c op p asked) proposal)) (voters c) }))
      by true = record { knows = tt; told = λ node h. nothing node; silent = λ node h. refl; mine = tt }
      by false = record {
        knows = tt;
        told = λ node h. nothing node;
        silent = λ node h. asks_map (prepare_to (here c op p asked) (next_ballot (here c op p asked) proposal)) op node (λ to. refl) (voters c);
        mine = mine_map op (prepare_to (here c op p asked) (next_ballot (here c op p asked) proposal)) (λ to. record { from = refl; of = tt }) (voters c);
      }

  -- ---- coverings

  covers_knows : (b : Ballot) (e : Content) (cover : Cover) (at : ℕ) → Covers c tape op p asked b e cover → Knows c tape op p asked (covers (here c op p asked) b e cover at)
  covers_knows b e cover at k = by (list_all (is_covered (here c op p asked) cover) (full_nodes c)) refl
    where
      by : (t : Bool) → list_all (is_covered (here c op p asked) cover) (full_nodes c) ≡ t → Knows c tape op p asked (cond t (Settled e cover.told) (Covering b e cover at))
      by true all = record { ballot = b; cover = cover; covers = k; all = all }
      by false all = k

  covers_told : (b : Ballot) (e : Content) (cover : Cover) (at node : ℕ) → has node (told_of (covers (here c op p asked) b e cover at)) ≡ false → has node cover.told ≡ false
  covers_told b e cover at node = by (list_all (is_covered (here c op p asked) cover) (full_nodes c))
    where
      by : (t : Bool) → has node (told_of (cond t (Settled e cover.told) (Covering b e cover at))) ≡ false → has node cover.told ≡ false
      by true h = h
      by false h = h

  first_covers : (b : Ballot) (e : Content) (voted : List ℕ) → ((node : ℕ) → has node asked ≡ false → has_asked_about tape op node ≡ false) → Accepters c tape op p b e voted
      → is_majority (length (voters c)) (length voted) ≡ true → Covers c tape op p asked b e (first_cover voted)
  first_covers b e voted quiet a most = record {
    backed = record {
      moment = tape;
      earlier = now_is tape;
      test = λ voter. has voter voted;
      majority = majority_is (length (voters c)) (length voted) (count (λ voter. has voter voted) (voters c)) most a.counted;
      heard = a.heard;
      quiet = quiet;
    };
    accepted = a.heard;
    invalidated = λ node h. cc;
    free = λ cell node h. cc;
    once = tt;
  }

  accepts_knows : (b : Ballot) (e : Content) (voted : List ℕ) (at : ℕ) → ((node : ℕ) → has node asked ≡ false → has_asked_about tape op node ≡ false) → Accepters c tape op p b e voted
      → Knows c tape op p asked (accepts (here c op p asked) b e voted at)
  accepts_knows b e voted at quiet a = by (is_majority (length (voters c)) (length voted)) refl
    where
      by : (t : Bool) → is_majority (length (voters c)) (length voted) ≡ t → Knows c tape op p asked (cond t (covers (here c op p asked) b e (first_cover voted) at) (Accepting b e voted at))
      by true most = covers_knows b e (first_cover voted) at (first_covers b e voted quiet a most)
      by false most = a

  covering_proceeds : (mine : Content) (seen : ℕ) (b : Ballot) (e : Content) (cover : Cover) (at : ℕ) (told : List ℕ) → told ≡ cover.told → Covers c tape op p asked b e cover
      → Proceeds c tape op p asked told (record { proposal = record { own = mine; seen = seen; round = covers (here c op p asked) b e cover at }; sends = [] })
  covering_proceeds mine seen b e cover at told same k =
      still_proceeds told (record { own = mine; seen = seen; round = covers (here c op p asked) b e cover at }) (covers_knows b e cover at k)
      (λ node h. ap (λ x. has node x) same ∙ covers_told b e cover at node h)

  proceeds_if : (told : List ℕ) (t : Bool) (one other : RoundMove) → (t ≡ true → Proceeds c tape op p asked told one) → Proceeds c tape op p asked told other → Proceeds c tape op p asked told (cond t one other)
  proceeds_if told true one other h k = h refl
  proceeds_if told false one other h k = k

  -- ---- acceptances

  by_name : (from : ℕ) (ballot b : Ballot) (entry e : Content) → ballot ≡ b → entry ≡ e → Heard tape from op (Accepted op p.group p.position b e) → Heard tape from op (Accepted op p.group p.position ballot entry)
  by_name from ballot b entry e same_b same_e heard = coe 0 1 (i. Heard tape from op (Accepted op p.group p.position (sym same_b i) (sym same_e i))) heard

  leader_voted : (e : Content) (leader : ℕ) → Heard tape leader op (Accepted op p.group p.position zero_ballot e) → (t : Bool) → has leader (voters c) ≡ t → Accepters c tape op p zero_ballot e (cond t (leader ∷ []) [])
  leader_voted e leader heard true h = one_more c tape op p zero_ballot e leader [] (none_accepted c tape op p zero_ballot e) heard h refl
  leader_voted e leader heard false h = none_accepted c tape op p zero_ballot e

  module _ (mine : Content) (seen : ℕ) where
    abbrev at : Round → Proposal
    at round = record { own = mine; seen = seen; round = round }

    accepted_proceeds : (from now : ℕ) (b : Ballot) (e : Content) → Heard tape from op (Accepted op p.group p.position b e) → (round : Round) → Knows c tape op p asked round → Still round
        → Proceeds c tape op p asked (told_of round) (accepted (here c op p asked) (at round) from now b e)
    accepted_proceeds from now b e heard (Asking leader sent) k still =
        proceeds_if [] (from == leader && is_sent zero_ballot mine b e) (record {
          proposal = at (accepts (here c op p asked) zero_ballot mine (cond (has leader (voters c)) (leader ∷ []) []) now);
          sends = map (accept_to (here c op p asked) zero_ballot mine) (others leader (voters c));
        }) (stays (at (Asking leader sent))) (λ h.
        let outer = and_parts (from == leader) (is_sent zero_ballot mine b e) h in
        let inner = and_parts (same_ballot zero_ballot b) (same_entry mine e) outer.1 in
        let by_leader = subst (λ v. Heard tape v op (Accepted op p.group p.position zero_ballot mine)) (number_is from leader outer.0)
        (by_name from zero_ballot b mine e (ballot_is zero_ballot b inner.0) (same_entry_equal mine e inner.1) heard) in
        record {
          knows = accepts_knows zero_ballot mine (cond (has leader (voters c)) (leader ∷ []) []) now (λ node no_other. still node no_other refl) (leader_voted mine leader by_leader (has leader (voters c)) refl);
          told = λ node no_more. refl;
          silent = λ node no_more. asks_map (accept_to (here c op p asked) zero_ballot mine) op node (λ to. refl) (others leader (voters c));
          mine = mine_map op (accept_to (here c op p asked) zero_ballot mine) (λ to. record { from = refl; of = tt }) (others leader (voters c));
        }) (still_proceeds [] (at (Asking leader sent)) k (λ node h. h))
    accepted_proceeds from now b e heard (Accepting ballot entry voted sent) k still =
        proceeds_if [] (is_sent ballot entry b e && has from (voters c)) (record { proposal = at (accepts (here c op p asked) ballot entry (with_node from voted) sent); sends = [] }) (stays (at (Accepting ballot entry voted sent))) (λ h.
        let outer = and_parts (is_sent ballot entry b e) (has from (voters c)) h in
        let inner = and_parts (same_ballot ballot b) (same_entry entry e) outer.0 in
        still_proceeds [] (at (accepts (here c op p asked) ballot entry (with_node from voted) sent))
        (accepts_knows ballot entry (with_node from voted) sent (λ node no_other. still node no_other refl)
        (with_one c tape op p ballot entry from voted k (by_name from ballot b entry e (ballot_is ballot b inner.0) (same_entry_equal entry e inner.1) heard) outer.1))
        (λ node no_more. refl)) (still_proceeds [] (at (Accepting ballot entry voted sent)) k (λ node h. h))
    accepted_proceeds from now b e heard (Covering ballot entry cover sent) k still =
        proceeds_if cover.told (is_sent ballot entry b e && has from (voters c)) (record { proposal = at (covers (here c op p asked) ballot entry (with_accepted cover from) sent); sends = [] }) (stays (at (Covering ballot entry cover sent))) (λ h.
        let outer = and_parts (is_sent ballot entry b e) (has from (voters c)) h in
        let inner = and_parts (same_ballot ballot b) (same_entry entry e) outer.0 in
        covering_proceeds mine seen ballot entry (with_accepted cover from) sent cover.told refl (record {
          backed = k.backed;
          accepted = λ node is. elim (with_has from node cover.accepted is) [
            | inl old ↦ k.accepted node old
            | inr same ↦ subst (λ v. Heard tape v op (Accepted op p.group p.position ballot entry)) same (by_name from ballot b entry e (ballot_is ballot b inner.0) (same_entry_equal entry e inner.1) heard)
          ];
          invalidated = k.invalidated;
          free = k.free;
          once = k.once;
        })) (still_proceeds cover.told (at (Covering ballot entry cover sent)) k (λ node h. h))
    accepted_proceeds from now b e heard (Preparing ballot reports sent) k still = still_proceeds [] (at (Preparing ballot reports sent)) k (λ node h. h)
    accepted_proceeds from now b e heard (Settled entry told) k still = still_proceeds told (at (Settled entry told)) k (λ node h. h)
    accepted_proceeds from now b e heard Waiting k still = still_proceeds [] (at Waiting) k (λ node h. h)

    -- ---- refusals and promises

    refused_proceeds : (now : ℕ) (round : Round) → Knows c tape op p asked round → Proceeds c tape op p asked (told_of round) (refused (here c op p asked) (at round) now)
    refused_proceeds now (Asking leader sent) k = prepares_proceeds [] (at (Asking leader sent)) now refl
    refused_proceeds now (Preparing ballot reports sent) k = still_proceeds [] (at (Preparing ballot reports sent)) k (λ node h. h)
    refused_proceeds now (Accepting ballot entry voted sent) k = still_proceeds [] (at (Accepting ballot entry voted sent)) k (λ node h. h)
    refused_proceeds now (Covering ballot entry cover sent) k = still_proceeds cover.told (at (Covering ballot entry cover sent)) k (λ node h. h)
    refused_proceeds now (Settled entry told) k = still_proceeds told (at (Settled entry told)) k (λ node h. h)
    refused_proceeds now Waiting k = still_proceeds [] (at Waiting) k (λ node h. h)

    proposes_proceeds : (ballot : Ballot) (reports : List Report) (sent now : ℕ) (round : Round) → Proceeds c tape op p asked [] (proposes (here c op p asked) (at round) ballot reports sent now)
    proposes_proceeds ballot reports sent now round =
        proceeds_if [] (is_majority (length (voters c)) (length reports)) (record {
          proposal = at (Accepting ballot (picked mine (greatest_vote reports)) [] now);
          sends = map (accept_to (here c op p asked) ballot (picked mine (greatest_vote reports))) (voters c);
        }) (record { proposal = at (Preparing ballot reports sent); sends = [] }) (λ h. record {
          knows = none_accepted c tape op p ballot (picked mine (greatest_vote reports));
          told = λ node no_more. refl;
          silent = λ node no_more. asks_map (accept_to (here c op p asked) ballot (picked mine (greatest_vote reports))) op node (λ to. refl) (voters c);
          mine = mine_map op (accept_to (here c op p asked) ballot (picked mine (greatest_vote reports))) (λ to. record { from = refl; of = tt }) (voters c);
        }) (still_proceeds [] (at (Preparing ballot reports sent)) tt (λ node h. h))

    promised_proceeds : (from now : ℕ) (b : Ballot) (vote : Option (Ballot × Content)) (round : Round) → Knows c tape op p asked round → Proceeds c tape op p asked (told_of round) (promised (here c op p asked) (at round) from now b vote)
    promised_proceeds from now b vote (Preparing ballot reports sent) k =
        proceeds_if [] (same_ballot ballot b && has from (voters c) && not (list_any (λ (report : Report). report.voter == from) reports))
        (proposes (here c op p asked) (at (Preparing ballot reports sent)) ballot (reports ++ record { voter = from; vote = vote } ∷ []) sent now) (stays (at (Preparing ballot reports sent)))
        (λ h. proposes_proceeds ballot (reports ++ record { voter = from; vote = vote } ∷ []) sent now (Preparing ballot reports sent)) (still_proceeds [] (at (Preparing ballot reports sent)) k (λ node h. h))
    promised_proceeds from now b vote (Asking leader sent) k = still_proceeds [] (at (Asking leader sent)) k (λ node h. h)
    promised_proceeds from now b vote (Accepting ballot entry voted sent) k = still_proceeds [] (at (Accepting ballot entry voted sent)) k (λ node h. h)
    promised_proceeds from now b vote (Covering ballot entry cover sent) k = still_proceeds cover.told (at (Covering ballot entry cover sent)) k (λ node h. h)
    promised_proceeds from now b vote (Settled entry told) k = still_proceeds told (at (Settled entry told)) k (λ node h. h)
    promised_proceeds from now b vote Waiting k = still_proceeds [] (at Waiting) k (λ node h. h)

    -- ---- answers to a covering

    invalidated_proceeds : (from : ℕ) → Heard tape from op (Invalidated op p.group p.position) → (round : Round) → Knows c tape op p asked round → Proceeds c tape op p asked (told_of round) (invalidated (here c op p asked) (at round) from)
    invalidated_proceeds from heard (Covering ballot entry cover sent) k =
        proceeds_if cover.told (has from cover.told) (record { proposal = at (covers (here c op p asked) ballot entry (with_invalidated cover from) sent); sends = [] }) (stays (at (Covering ballot entry cover sent)))
        (λ h. covering_proceeds mine seen ballot entry (with_invalidated cover from) sent cover.told refl (record {
          backed = k.backed;
          accepted = k.accepted;
          invalidated = λ node is. elim (with_has from node cover.invalidated is) [ inl old ↦ k.invalidated node old | inr same ↦ subst (λ v. Heard tape v op (Invalidated op p.group p.position)) same heard ];
          free = k.free;
          once = k.once;
        })) (still_proceeds cover.told (at (Covering ballot entry cover sent)) k (λ node h. h))
    invalidated_proceeds from heard (Asking leader sent) k = still_proceeds [] (at (Asking leader sent)) k (λ node h. h)
    invalidated_proceeds from heard (Preparing ballot reports sent) k = still_proceeds [] (at (Preparing ballot reports sent)) k (λ node h. h)
    invalidated_proceeds from heard (Accepting ballot entry voted sent) k = still_proceeds [] (at (Accepting ballot entry voted sent)) k (λ node h. h)
    invalidated_proceeds from heard (Settled entry told) k = still_proceeds told (at (Settled entry told)) k (λ node h. h)
    invalidated_proceeds from heard Waiting k = still_proceeds [] (at Waiting) k (λ node h. h)

    with_covers : (b : Ballot) (e : Content) (cover : Cover) (cell node : ℕ) → FromCell c tape op cell node → Covers c tape op p asked b e cover → Covers c tape op p asked b e (with_cell cover (record { cell = cell; node = node }))
    with_covers b e cover cell node from k = record {
      backed = k.backed;
      accepted = k.accepted;
      invalidated = k.invalidated;
      free = free_by (list_any (is_same_free one) cover.free);
      once = once_by (list_any (is_same_free one) cover.free) refl;
    }
      where
        one : Free
        one = record { cell = cell; node = node }

        is_one : (x v : ℕ) → ◌≡◌ {A = Free} (record { cell = x; node = v }) one → FromCell c tape op x v
        is_one x v same = coe 0 1 (i. FromCell c tape op (sym same i).cell (sym same i).node) from

        free_by : (t : Bool) (x v : ℕ) → is_among (cond t cover.free (cover.free ++ one ∷ [])) v x ≡ true → FromCell c tape op x v
        free_by true x v h = k.free x v h
        free_by false x v h = elim (among_push one (record { cell = x; node = v }) cover.free h) [ inl old ↦ k.free x v old | inr same ↦ is_one x v same ]

        once_by : (t : Bool) → list_any (is_same_free one) cover.free ≡ t → AreOnce (cond t cover.free (cover.free ++ one ∷ []))
        once_by true h = k.once
        once_by false h = once_push one cover.free k.once h

    unheld_proceeds : (cell node : ℕ) → Heard tape cell op (Unheld op cell (number node)) → (round : Round) → Knows c tape op p asked round → Proceeds c tape op p asked (told_of round) (unheld (here c op p asked) (at round) cell node)
    unheld_proceeds cell node heard (Covering ballot entry cover sent) k =
        proceeds_if cover.told (nat_le cell c.cells && has node cover.told) (record { proposal = at (covers (here c op p asked) ballot entry (with_cell cover (record { cell = cell; node = node })) sent); sends = [] }) (stays (at (Covering ballot entry cover sent)))
        (λ h. covering_proceeds mine seen ballot entry (with_cell cover (record { cell = cell; node = node })) sent cover.told refl
        (with_covers ballot entry cover cell node (record { heard = heard; within = at_most cell c.cells (and_parts (nat_le cell c.cells) (has node cover.told) h).0 }) k))
        (still_proceeds cover.told (at (Covering ballot entry cover sent)) k (λ node h. h))
      where
        at_most : (a b : ℕ) → nat_le a b ≡ true → a ≤ b
        at_most a b h = grind (arith, nat_tests)
    unheld_proceeds cell node heard (Asking leader sent) k = still_proceeds [] (at (Asking leader sent)) k (λ node h. h)
    unheld_proceeds cell node heard (Preparing ballot reports sent) k = still_proceeds [] (at (Preparing ballot reports sent)) k (λ node h. h)
    unheld_proceeds cell node heard (Accepting ballot entry voted sent) k = still_proceeds [] (at (Accepting ballot entry voted sent)) k (λ node h. h)
    unheld_proceeds cell node heard (Settled entry told) k = still_proceeds told (at (Settled entry told)) k (λ node h. h)
    unheld_proceeds cell node heard Waiting k = still_proceeds [] (at Waiting) k (λ node h. h)

    -- ---- a tick

    silent_dead : (cells nodes : List ℕ) (node : ℕ) → has node nodes ≡ false → asks_in (flat_map (λ other. map (dead_to (here c op p asked) other) cells) nodes) op node ≡ false
    silent_dead cells [] node h = refl
    silent_dead cells (other ∷ nodes) node h =
        let parts = or_parts (other == node) (has node nodes) h in
        asks_both (map (dead_to (here c op p asked) other) cells) (flat_map (λ one. map (dead_to (here c op p asked) one) cells) nodes) op node
        (asks_map (dead_to (here c op p asked) other) op node (λ cell. and_right (same_op op op) (other == node) parts.0) cells) (silent_dead cells nodes node parts.1)

    mine_dead : (cells nodes : List ℕ) → Each (Mine op) (flat_map (λ other. map (dead_to (here c op p asked) other) cells) nodes)
    mine_dead cells [] = tt
    mine_dead cells (other ∷ nodes) = each_both (Mine op) (map (dead_to (here c op p asked) other) cells) (flat_map (λ one. map (dead_to (here c op p asked) one) cells) nodes)
        (mine_map op (dead_to (here c op p asked) other) (λ cell. record { from = refl; of = refl }) cells) (mine_dead cells nodes)

    tells_proceeds : (b : Ballot) (e : Content) (cover : Cover) (sent now : ℕ) → Covers c tape op p asked b e cover → Proceeds c tape op p asked cover.told (tells (here c op p asked) (at (Covering b e cover sent)) b e cover now)
    tells_proceeds b e cover sent now k = record {
      knows = record { backed = k.backed; accepted = k.accepted; invalidated = k.invalidated; free = k.free; once = k.once };
      told = λ node h. (joined_has node cover.told (uncovered (here c op p asked) cover) h).0;
      silent = λ node h. asks_both (map (invalidate_to (here c op p asked)) (uncovered (here c op p asked) cover)) (flat_map (λ other. map (dead_to (here c op p asked) other) (cell_numbers (here c op p asked))) (uncovered (here c op p asked) cover)) op node
          (asks_map (invalidate_to (here c op p asked)) op node (λ to. refl) (uncovered (here c op p asked) cover))
          (silent_dead (cell_numbers (here c op p asked)) (uncovered (here c op p asked) cover) node (joined_has node cover.told (uncovered (here c op p asked) cover) h).1);
      mine = each_both (Mine op) (map (invalidate_to (here c op p asked)) (uncovered (here c op p asked) cover)) (flat_map (λ other. map (dead_to (here c op p asked) other) (cell_numbers (here c op p asked))) (uncovered (here c op p asked) cover))
          (mine_map op (invalidate_to (here c op p asked)) (λ to. record { from = refl; of = tt }) (uncovered (here c op p asked) cover))
          (mine_dead (cell_numbers (here c op p asked)) (uncovered (here c op p asked) cover));
    }

    due_round : (retry now : ℕ) (round : Round) → Knows c tape op p asked round → Proceeds c tape op p asked (told_of round) (due (here c op p asked) (at round) retry now)
    due_round retry now (Asking leader sent) k = proceeds_if [] (is_due sent retry now) (prepares (here c op p asked) (at (Asking leader sent)) now) (stays (at (Asking leader sent))) (λ h. prepares_proceeds [] (at (Asking leader sent)) now refl) (still_proceeds [] (at (Asking leader sent)) k (λ node h. h))
    due_round retry now (Preparing ballot reports sent) k = proceeds_if [] (is_due sent retry now) (prepares (here c op p asked) (at (Preparing ballot reports sent)) now) (stays (at (Preparing ballot reports sent))) (λ h. prepares_proceeds [] (at (Preparing ballot reports sent)) now refl) (still_proceeds [] (at (Preparing ballot reports sent)) k (λ node h. h))
    due_round retry now (Accepting ballot entry voted sent) k = proceeds_if [] (is_due sent retry now) (prepares (here c op p asked) (at (Accepting ballot entry voted sent)) now) (stays (at (Accepting ballot entry voted sent))) (λ h. prepares_proceeds [] (at (Accepting ballot entry voted sent)) now refl) (still_proceeds [] (at (Accepting ballot entry voted sent)) k (λ node h. h))
    due_round retry now (Covering ballot entry cover sent) k = proceeds_if cover.told (is_due sent retry now) (tells (here c op p asked) (at (Covering ballot entry cover sent)) ballot entry cover now) (stays (at (Covering ballot entry cover sent))) (λ h. tells_proceeds ballot entry cover sent now k) (still_proceeds cover.told (at (Covering ballot entry cover sent)) k (λ node h. h))
    due_round retry now (Settled entry told) k = still_proceeds told (at (Settled entry told)) k (λ node h. h)
    due_round retry now Waiting k = still_proceeds [] (at Waiting) k (λ node h. h)

  pub due_proceeds : (proposal : Proposal) (retry now : ℕ) → Knows c tape op p asked proposal.round → Proceeds c tape op p asked (told_of proposal.round) (due (here c op p asked) proposal retry now)
  due_proceeds proposal retry now k = due_round proposal.own proposal.seen retry now proposal.round k

  -- ---- a message

  pub takes_proceeds : (proposal : Proposal) (from now : ℕ) (body : Body) → Knows c tape op p asked proposal.round → Still proposal.round → Took tape (message from op.node.0 body)
      → Proceeds c tape op p asked (told_of proposal.round) (takes (here c op p asked) proposal from now body)
  takes_proceeds proposal from now (Accepted o g n b e) k still took =
      proceeds_if (told_of proposal.round) (is_here (here c op p asked) o g n) _ (stays proposal) (λ h.
      let place = here_is c op p asked o g n h in
      accepted_proceeds proposal.own (max proposal.seen b.round) from now b e (coe 0 1 (i. Took tape (message from op.node.0 (Accepted (place.0 i) (place.1 i).group (place.1 i).position b e))) took) proposal.round k still)
      (still_proceeds (told_of proposal.round) proposal k (λ node h. h))
  takes_proceeds proposal from now (Refused o g n b shown e) k still took =
      proceeds_if (told_of proposal.round) (is_here (here c op p asked) o g n) _ (stays proposal) (λ h. refused_proceeds proposal.own (max proposal.seen (max b.round shown.round)) now proposal.round k) (still_proceeds (told_of proposal.round) proposal k (λ node h. h))
  takes_proceeds proposal from now (Promise o g n b vote) k still took =
      proceeds_if (told_of proposal.round) (is_here (here c op p asked) o g n) _ (stays proposal) (λ h. promised_proceeds proposal.own (max proposal.seen (max b.round (vote_round vote))) from now b vote proposal.round k) (still_proceeds (told_of proposal.round) proposal k (λ node h. h))
  takes_proceeds proposal from now (Invalidated o g n) k still took =
      proceeds_if (told_of proposal.round) (is_here (here c op p asked) o g n) _ (stays proposal) (λ h.
      let place = here_is c op p asked o g n h in
      invalidated_proceeds proposal.own proposal.seen from (coe 0 1 (i. Took tape (message from op.node.0 (Invalidated (place.0 i) (place.1 i).group (place.1 i).position))) took) proposal.round k)
      (still_proceeds (told_of proposal.round) proposal k (λ node h. h))
  takes_proceeds proposal from now (Unheld o cell node) k still took =
      proceeds_if (told_of proposal.round) (same_op op o && from == cell) _ (stays proposal) (λ h.
      let parts = and_parts (same_op op o) (from == cell) h in
      unheld_proceeds proposal.own proposal.seen cell node.0 (coe 0 1 (i. Took tape (message (number_is from cell parts.1 i) op.node.0 (Unheld (sym (same_op_equal op o parts.0) i) cell node))) took) proposal.round k)
      (still_proceeds (told_of proposal.round) proposal k (λ node h. h))
  takes_proceeds proposal from now (Accept o g n b e) k still took =
      proceeds_if (told_of proposal.round) (is_here (here c op p asked) o g n) _ (stays proposal) (λ h. still_proceeds (told_of proposal.round) (record { own = proposal.own; seen = max proposal.seen b.round; round = proposal.round }) k (λ node h. h)) (still_proceeds (told_of proposal.round) proposal k (λ node h. h))
  takes_proceeds proposal from now (Prepare o g n b) k still took =
      proceeds_if (told_of proposal.round) (is_here (here c op p asked) o g n) _ (stays proposal) (λ h. still_proceeds (told_of proposal.round) (record { own = proposal.own; seen = max proposal.seen b.round; round = proposal.round }) k (λ node h. h)) (still_proceeds (told_of proposal.round) proposal k (λ node h. h))
  takes_proceeds proposal from now _ k still took = still_proceeds (told_of proposal.round) proposal k (λ node h. h)

  -- ---- beginnings

  pub completes_proceeds : (mine : Content) (now : ℕ) → Proceeds c tape op p asked [] (completes (here c op p asked) mine now)
  completes_proceeds mine now = prepares_proceeds [] (record { own = mine; seen = 0; round = Waiting }) now refl

  pub asks_proceeds : (leader : ℕ) (mine : Content) (now : ℕ) → Proceeds c tape op p asked [] (asks (here c op p asked) leader mine now)
  asks_proceeds leader mine now = record { knows = tt; told = λ node h. refl; silent = λ node h. refl; mine = (record { from = refl; of = tt }, tt) }
