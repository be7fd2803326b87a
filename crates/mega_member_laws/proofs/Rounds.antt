-- A round sends only to nodes of its cluster, and its entries name only such.
use Rattle.std.proofs.Common.{◌≡◌, ℕ, ◌+◌, ◌==◌, ◌&&◌, max, not, cond, nat_le, List, [], ◌∷◌, ◌++◌, length, map, Option, Some, None, subst}
use Rattle.std.specs.List.{list_all, list_any}
use Rattle.std.proofs.lemmas.Option.{same_Some}
use Rattle.mega_ballot.specs.declared.ballot.Ballot.{Ballot}
use Rattle.mega_ballot.specs.Order.{zero_ballot}
use Rattle.mega_entry.specs.declared.content.Content.{Content}
use Rattle.mega_wire.specs.declared.message.Body.{Body}
use Rattle.mega_wire.specs.declared.message.Body.TheVariants.{Accept, Accepted, Refused, Prepare, Promise, Invalidated, Unheld}
use Rattle.mega_wal.specs.Acceptor.{is_ballot_below}
use Rattle.mega_format_laws.specs.of_rules.of_read.of_propose.Members.{has, is_majority, others, with_node}
use Rattle.mega_format_laws.specs.of_rules.of_read.of_propose.declared.round.Cover.{Cover}
use Rattle.mega_format_laws.specs.of_rules.of_read.of_propose.declared.round.Report.{Report}
use Rattle.mega_format_laws.specs.of_rules.of_read.of_propose.declared.round.Round.{Round}
use Rattle.mega_format_laws.specs.of_rules.of_read.of_propose.declared.round.Site.{Site}
use Rattle.mega_format_laws.specs.of_rules.of_read.of_propose.declared.round.Proposal.{Proposal}
use Rattle.mega_format_laws.specs.of_rules.of_read.of_propose.declared.round.Round.TheVariants.{Asking, Preparing, Accepting, Covering, Settled, Waiting}
use Rattle.mega_format_laws.specs.of_rules.of_read.of_propose.Rounds.{accept_to, accepted, accepts, asks, cell_numbers, completes, covers, dead_to, due, first_cover, greater_vote, greatest_vote, invalidate_to, invalidated, is_covered, is_due, is_here, is_sent, last_round, move, next_ballot, picked, prepare_to, prepares, presses, promised, proposes, refused, same_ballot, sees, settled, stays, takes, uncovered, unheld, vote_round, with_accepted, with_cell, with_invalidated}
use Rattle.mega_cluster.specs.declared.cluster.Cluster.{Cluster}
use Rattle.mega_format_laws.specs.Rounds.{Each}
use Rattle.mega_format_laws.proofs.Each.{each_both, each_filter, each_flat, each_map, either}
use Rattle.mega_member_laws.specs.Messages.{AreWithin, CarriesHere, IsHere, IsWithin, NamesHere, VotesHere}
use Rattle.mega_member_laws.specs.Rounds.{MoveWithin, ProposalWithin, ReportsHere, RoundWithin, SiteWithin}
use Rattle.mega_member_laws.proofs.Members.{first_numbered}

-- ---- messages

accept_within : (c : Cluster) (s : Site) (b : Ballot) (e : Content) (to : ℕ) → SiteWithin c s → NamesHere c e → IsHere c to → IsWithin c (accept_to s b e to)
accept_within c s b e to h entry is = record { from = h.op; to = is; body = entry }

prepare_within : (c : Cluster) (s : Site) (b : Ballot) (to : ℕ) → SiteWithin c s → IsHere c to → IsWithin c (prepare_to s b to)
prepare_within c s b to h is = record { from = h.op; to = is; body = tt }

invalidate_within : (c : Cluster) (s : Site) (to : ℕ) → SiteWithin c s → IsHere c to → IsWithin c (invalidate_to s to)
invalidate_within c s to h is = record { from = h.op; to = is; body = tt }

dead_within : (c : Cluster) (s : Site) (node cell : ℕ) → SiteWithin c s → IsHere c cell → IsWithin c (dead_to s node cell)
dead_within c s node cell h is = record { from = h.op; to = is; body = tt }

-- ---- a round as it goes on

still : (c : Cluster) (p : Proposal) (round : Round) → ProposalWithin c p → RoundWithin c round → MoveWithin c (move p round [])
still c p round h r = record { proposal = record { own = h.own; round = r }; sends = tt }

stays_within : (c : Cluster) (p : Proposal) → ProposalWithin c p → MoveWithin c (stays p)
stays_within c p h = still c p p.round h h.round

prepares_within : (c : Cluster) (s : Site) (p : Proposal) (now : ℕ) → SiteWithin c s → NamesHere c p.own → MoveWithin c (prepares s p now)
prepares_within c s p now h own = either (MoveWithin c) (nat_le last_round p.seen) (move p Waiting [])
    (record { proposal = record { own = p.own; seen = p.seen + 1; round = Preparing (next_ballot s p) [] now }; sends = map (prepare_to s (next_ballot s p)) s.voters })
    (record { proposal = record { own = own; round = tt }; sends = tt })
    (record {
      proposal = record { own = own; round = tt };
      sends = each_map (IsHere c) (IsWithin c) (prepare_to s (next_ballot s p)) (λ to is. prepare_within c s (next_ballot s p) to h is) s.voters h.voters;
    })

covers_within : (c : Cluster) (s : Site) (b : Ballot) (e : Content) (cover : Cover) (sent : ℕ) → NamesHere c e → RoundWithin c (covers s b e cover sent)
covers_within c s b e cover sent entry = either (RoundWithin c) (list_all (is_covered s cover) s.full) (Settled e cover.told) (Covering b e cover sent) entry entry

accepts_within : (c : Cluster) (s : Site) (b : Ballot) (e : Content) (voted : List ℕ) (sent : ℕ) → NamesHere c e → RoundWithin c (accepts s b e voted sent)
accepts_within c s b e voted sent entry = either (RoundWithin c) (is_majority (length s.voters) (length voted)) (covers s b e (first_cover voted) sent) (Accepting b e voted sent)
    (covers_within c s b e (first_cover voted) sent entry) entry

accepted_within : (c : Cluster) (s : Site) (own : Content) (seen from now : ℕ) (b : Ballot) (e : Content) (round : Round) → SiteWithin c s → ProposalWithin c (record { own = own; seen = seen; round = round })
    → MoveWithin c (accepted s (record { own = own; seen = seen; round = round }) from now b e)
accepted_within c s own seen from now b e (Asking leader sent) h p = either (MoveWithin c) (from == leader && is_sent zero_ballot own b e) _ _
    (record {
      proposal = record { own = p.own; round = accepts_within c s zero_ballot own (cond (has leader s.voters) (leader ∷ []) []) now p.own };
      sends = each_map (IsHere c) (IsWithin c) (accept_to s zero_ballot own) (λ to is. accept_within c s zero_ballot own to h p.own is) (others leader s.voters)
          (each_filter (IsHere c) (λ other. not (other == leader)) s.voters h.voters);
    })
    (stays_within c _ p)
accepted_within c s own seen from now b e (Accepting ballot entry voted sent) h p = either (MoveWithin c) (is_sent ballot entry b e && has from s.voters) _ _
    (still c _ _ p (accepts_within c s ballot entry (with_node from voted) sent p.round)) (stays_within c _ p)
accepted_within c s own seen from now b e (Covering ballot entry cover sent) h p = either (MoveWithin c) (is_sent ballot entry b e && has from s.voters) _ _
    (still c _ _ p (covers_within c s ballot entry (with_accepted cover from) sent p.round)) (stays_within c _ p)
accepted_within c s own seen from now b e (Preparing ballot reports sent) h p = stays_within c _ p
accepted_within c s own seen from now b e (Settled entry told) h p = stays_within c _ p
accepted_within c s own seen from now b e Waiting h p = stays_within c _ p

refused_within : (c : Cluster) (s : Site) (own : Content) (seen now : ℕ) (round : Round) → SiteWithin c s → ProposalWithin c (record { own = own; seen = seen; round = round })
    → MoveWithin c (refused s (record { own = own; seen = seen; round = round }) now)
refused_within c s own seen now (Asking leader sent) h p = prepares_within c s (record { own = own; seen = seen; round = Asking leader sent }) now h p.own
refused_within c s own seen now (Preparing ballot reports sent) h p = stays_within c _ p
refused_within c s own seen now (Accepting ballot entry voted sent) h p = stays_within c _ p
refused_within c s own seen now (Covering ballot entry cover sent) h p = stays_within c _ p
refused_within c s own seen now (Settled entry told) h p = stays_within c _ p
refused_within c s own seen now Waiting h p = stays_within c _ p

-- ---- promises

greater_here : (c : Cluster) (a b : Option (Ballot × Content)) → VotesHere c a → VotesHere c b → VotesHere c (greater_vote a b)
greater_here c None b x y = y
greater_here c (Some vote) None x y = x
greater_here c (Some vote) (Some other) x y = either (VotesHere c) (is_ballot_below vote.0 other.0) (Some other) (Some vote) y x

greatest_here : (c : Cluster) (reports : List Report) → Each (ReportsHere c) reports → VotesHere c (greatest_vote reports)
greatest_here c [] h = tt
greatest_here c (report ∷ reports) h = greater_here c report.vote (greatest_vote reports) h.0 (greatest_here c reports h.1)

picked_here : (c : Cluster) (own : Content) (vote : Option (Ballot × Content)) → NamesHere c own → VotesHere c vote → NamesHere c (picked own vote)
picked_here c own None h v = h
picked_here c own (Some vote) h v = v

proposes_within : (c : Cluster) (s : Site) (p : Proposal) (b : Ballot) (reports : List Report) (sent now : ℕ) → SiteWithin c s → ProposalWithin c p → Each (ReportsHere c) reports → MoveWithin c (proposes s p b reports sent now)
proposes_within c s p b reports sent now h q each =
    let entry = picked_here c p.own (greatest_vote reports) q.own (greatest_here c reports each) in
    either (MoveWithin c) (is_majority (length s.voters) (length reports)) _ _
    (record {
      proposal = record { own = q.own; round = entry };
      sends = each_map (IsHere c) (IsWithin c) (accept_to s b (picked p.own (greatest_vote reports))) (λ to is. accept_within c s b (picked p.own (greatest_vote reports)) to h entry is) s.voters h.voters;
    })
    (still c p (Preparing b reports sent) q each)

promised_within : (c : Cluster) (s : Site) (own : Content) (seen from now : ℕ) (b : Ballot) (vote : Option (Ballot × Content)) (round : Round) → SiteWithin c s → VotesHere c vote
    → ProposalWithin c (record { own = own; seen = seen; round = round }) → MoveWithin c (promised s (record { own = own; seen = seen; round = round }) from now b vote)
promised_within c s own seen from now b vote (Preparing ballot reports sent) h v p = either (MoveWithin c) (same_ballot ballot b && has from s.voters && not (list_any (λ (report : Report). report.voter == from) reports)) _ _
    (proposes_within c s _ ballot (reports ++ record { voter = from; vote = vote } ∷ []) sent now h p (each_both (ReportsHere c) reports _ p.round (v, tt))) (stays_within c _ p)
promised_within c s own seen from now b vote (Asking leader sent) h v p = stays_within c _ p
promised_within c s own seen from now b vote (Accepting ballot entry voted sent) h v p = stays_within c _ p
promised_within c s own seen from now b vote (Covering ballot entry cover sent) h v p = stays_within c _ p
promised_within c s own seen from now b vote (Settled entry told) h v p = stays_within c _ p
promised_within c s own seen from now b vote Waiting h v p = stays_within c _ p

-- ---- coordinators

invalidated_within : (c : Cluster) (s : Site) (own : Content) (seen from : ℕ) (round : Round) → ProposalWithin c (record { own = own; seen = seen; round = round })
    → MoveWithin c (invalidated s (record { own = own; seen = seen; round = round }) from)
invalidated_within c s own seen from (Covering ballot entry cover sent) p = either (MoveWithin c) (has from cover.told) _ _
    (still c _ _ p (covers_within c s ballot entry (with_invalidated cover from) sent p.round)) (stays_within c _ p)
invalidated_within c s own seen from (Asking leader sent) p = stays_within c _ p
invalidated_within c s own seen from (Preparing ballot reports sent) p = stays_within c _ p
invalidated_within c s own seen from (Accepting ballot entry voted sent) p = stays_within c _ p
invalidated_within c s own seen from (Settled entry told) p = stays_within c _ p
invalidated_within c s own seen from Waiting p = stays_within c _ p

unheld_within : (c : Cluster) (s : Site) (own : Content) (seen cell node : ℕ) (round : Round) → ProposalWithin c (record { own = own; seen = seen; round = round })
    → MoveWithin c (unheld s (record { own = own; seen = seen; round = round }) cell node)
unheld_within c s own seen cell node (Covering ballot entry cover sent) p = either (MoveWithin c) (nat_le cell s.cells && has node cover.told) _ _
    (still c _ _ p (covers_within c s ballot entry (with_cell cover (record { cell = cell; node = node })) sent p.round)) (stays_within c _ p)
unheld_within c s own seen cell node (Asking leader sent) p = stays_within c _ p
unheld_within c s own seen cell node (Preparing ballot reports sent) p = stays_within c _ p
unheld_within c s own seen cell node (Accepting ballot entry voted sent) p = stays_within c _ p
unheld_within c s own seen cell node (Settled entry told) p = stays_within c _ p
unheld_within c s own seen cell node Waiting p = stays_within c _ p

-- ---- whatever it takes

sees_within : (c : Cluster) (p : Proposal) (round : ℕ) → ProposalWithin c p → ProposalWithin c (sees p round)
sees_within c p round h = record { own = h.own; round = h.round }

-- a proposal whose fields are written out
whole : (c : Cluster) (p : Proposal) → ProposalWithin c p → ProposalWithin c (record { own = p.own; seen = p.seen; round = p.round })
whole c p h = record { own = h.own; round = h.round }

pub takes_within : (c : Cluster) (s : Site) (p : Proposal) (from now : ℕ) (body : Body) → SiteWithin c s → ProposalWithin c p → CarriesHere c body → MoveWithin c (takes s p from now body)
takes_within c s p from now (Accepted op g n b e) h q body = either (MoveWithin c) (is_here s op g n) _ _
    (accepted_within c s p.own (max p.seen b.round) from now b e p.round h (sees_within c p b.round q)) (stays_within c p q)
takes_within c s p from now (Refused op g n asked shown e) h q body = either (MoveWithin c) (is_here s op g n) _ _
    (refused_within c s p.own (max p.seen (max asked.round shown.round)) now p.round h (sees_within c p (max asked.round shown.round) q)) (stays_within c p q)
takes_within c s p from now (Promise op g n b vote) h q body = either (MoveWithin c) (is_here s op g n) _ _
    (promised_within c s p.own (max p.seen (max b.round (vote_round vote))) from now b vote p.round h body (sees_within c p (max b.round (vote_round vote)) q)) (stays_within c p q)
takes_within c s p from now (Invalidated op g n) h q body = either (MoveWithin c) (is_here s op g n) _ _ (invalidated_within c s p.own p.seen from p.round (whole c p q)) (stays_within c p q)
takes_within c s p from now (Unheld op cell node) h q body = either (MoveWithin c) _ _ _ (unheld_within c s p.own p.seen cell node.0 p.round (whole c p q)) (stays_within c p q)
takes_within c s p from now (Accept op g n b e) h q body = either (MoveWithin c) (is_here s op g n) _ _ (stays_within c _ (sees_within c p b.round q)) (stays_within c p q)
takes_within c s p from now (Prepare op g n b) h q body = either (MoveWithin c) (is_here s op g n) _ _ (stays_within c _ (sees_within c p b.round q)) (stays_within c p q)
takes_within c s p from now _ h q body = stays_within c p q

-- ---- at a tick

presses_within : (c : Cluster) (s : Site) (nodes : List ℕ) → SiteWithin c s → Each (IsHere c) nodes → AreWithin c (presses s nodes)
presses_within c s nodes h members = each_both (IsWithin c) (map (invalidate_to s) nodes) _
    (each_map (IsHere c) (IsWithin c) (invalidate_to s) (λ to is. invalidate_within c s to h is) nodes members)
    (each_flat (IsHere c) (IsWithin c) (λ node. map (dead_to s node) (cell_numbers s))
    (λ node _. each_map (IsHere c) (IsWithin c) (dead_to s node) (λ cell is. dead_within c s node cell h is) (cell_numbers s) (first_numbered c s.cells h.cells)) nodes members)

due_at : (c : Cluster) (s : Site) (own : Content) (seen retry now : ℕ) (round : Round) → SiteWithin c s → ProposalWithin c (record { own = own; seen = seen; round = round })
    → MoveWithin c (due s (record { own = own; seen = seen; round = round }) retry now)
due_at c s own seen retry now (Asking leader sent) h p = either (MoveWithin c) (is_due sent retry now) _ _ (prepares_within c s (record { own = own; seen = seen; round = Asking leader sent }) now h p.own) (stays_within c _ p)
due_at c s own seen retry now (Preparing ballot reports sent) h p = either (MoveWithin c) (is_due sent retry now) _ _ (prepares_within c s (record { own = own; seen = seen; round = Preparing ballot reports sent }) now h p.own) (stays_within c _ p)
due_at c s own seen retry now (Accepting ballot entry voted sent) h p = either (MoveWithin c) (is_due sent retry now) _ _ (prepares_within c s (record { own = own; seen = seen; round = Accepting ballot entry voted sent }) now h p.own) (stays_within c _ p)
due_at c s own seen retry now (Covering ballot entry cover sent) h p = either (MoveWithin c) (is_due sent retry now) _ _
    (record {
      proposal = record { own = p.own; round = p.round };
      sends = presses_within c s (uncovered s cover) h (each_filter (IsHere c) (λ node. not (is_covered s cover node)) s.full h.full);
    }) (stays_within c _ p)
due_at c s own seen retry now (Settled entry told) h p = stays_within c _ p
due_at c s own seen retry now Waiting h p = stays_within c _ p

pub due_within : (c : Cluster) (s : Site) (p : Proposal) (retry now : ℕ) → SiteWithin c s → ProposalWithin c p → MoveWithin c (due s p retry now)
due_within c s p retry now h q = due_at c s p.own p.seen retry now p.round h (whole c p q)

-- ---- a round begins, and settles

pub asks_within : (c : Cluster) (s : Site) (leader : ℕ) (own : Content) (now : ℕ) → SiteWithin c s → IsHere c leader → NamesHere c own → MoveWithin c (asks s leader own now)
asks_within c s leader own now h is entry = record { proposal = record { own = entry; round = tt }; sends = (accept_within c s zero_ballot own leader h entry is, tt) }

pub completes_within : (c : Cluster) (s : Site) (own : Content) (now : ℕ) → SiteWithin c s → NamesHere c own → MoveWithin c (completes s own now)
completes_within c s own now h entry = prepares_within c s (record { own = own; seen = 0; round = Waiting }) now h entry

settled_round : (c : Cluster) (own entry : Content) (seen : ℕ) (round : Round) → RoundWithin c round → settled (record { own = own; seen = seen; round = round }) ≡ Some entry → NamesHere c entry
settled_round c own entry seen (Settled found told) h e = subst (NamesHere c) (same_Some found entry e) h
settled_round c own entry seen (Asking leader sent) h e = cc
settled_round c own entry seen (Preparing ballot reports sent) h e = cc
settled_round c own entry seen (Accepting ballot found voted sent) h e = cc
settled_round c own entry seen (Covering ballot found cover sent) h e = cc
settled_round c own entry seen Waiting h e = cc

pub settled_here : (c : Cluster) (p : Proposal) (entry : Content) → ProposalWithin c p → settled p ≡ Some entry → NamesHere c entry
settled_here c p entry h e = settled_round c p.own entry p.seen p.round h.round e
