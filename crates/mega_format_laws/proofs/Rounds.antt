-- A round sends only messages of the format, and stays of the format.
use Rattle.std.proofs.Common.{◌≡◌, ℕ, ◌+◌, ◌==◌, ◌&&◌, ◌≤◌, max, Bool, true, false, not, cond, nat_le, List, [], ◌∷◌, ◌++◌, length, map, Option, Some, None, refl, subst, zero, suc, arith}
use Rattle.std.specs.List.{list_all, list_any, range_with_len}
use Rattle.std.proofs.lemmas.Bool.Decides.{nat_tests}
use Rattle.std.proofs.lemmas.Option.{same_Some}
use Rattle.mega_base.specs.Names.{IsU32}
use Rattle.mega_ballot.specs.declared.ballot.Ballot.{Ballot}
use Rattle.mega_ballot.specs.Ballots.{IsBallot}
use Rattle.mega_ballot.specs.Order.{zero_ballot}
use Rattle.mega_entry.specs.declared.content.Content.{Content}
use Rattle.mega_wire.specs.declared.message.Body.{Body}
use Rattle.mega_wire.specs.declared.message.Body.TheVariants.{Accept, Accepted, Refused, Prepare, Promise, Invalidated, Unheld}
use Rattle.mega_wire.specs.Messages.{IsMessage, IsBody}
use Rattle.mega_wal.specs.Acceptor.{is_ballot_below}
use Rattle.mega_voter.specs.of_rules.of_read.of_propose.Members.{has, is_majority, others, with_node}
use Rattle.mega_voter.specs.of_rules.of_read.of_propose.declared.round.Cover.{Cover}
use Rattle.mega_voter.specs.of_rules.of_read.of_propose.declared.round.Report.{Report}
use Rattle.mega_voter.specs.of_rules.of_read.of_propose.declared.round.Round.{Round}
use Rattle.mega_voter.specs.of_rules.of_read.of_propose.declared.round.Site.{Site}
use Rattle.mega_voter.specs.of_rules.of_read.of_propose.declared.round.Proposal.{Proposal}
use Rattle.mega_voter.specs.of_rules.of_read.of_propose.declared.round.Round.TheVariants.{Asking, Preparing, Accepting, Covering, Settled, Waiting}
use Rattle.mega_voter.specs.of_rules.of_read.of_propose.Rounds.{accept_to, accepted, accepts, asks, cell_numbers, completes, covers, dead_to, due, first_cover, greater_vote, greatest_vote, invalidate_to, invalidated, is_covered, is_due, is_here, is_sent, last_round, move, next_ballot, picked, prepare_to, prepares, presses, promised, proposes, refused, same_ballot, sees, settled, stays, takes, uncovered, unheld, vote_round, with_accepted, with_cell, with_invalidated}
use Rattle.mega_format_laws.specs.Rounds.{AreMessages, Each, IsMember, IsMove, IsProposal, IsReport, IsRound, IsShort, IsSite, IsVote}
use Rattle.mega_format_laws.proofs.Each.{each_both, each_filter, each_flat, each_map, either}

-- ---- messages

pub zero_is_ballot : IsBallot zero_ballot
zero_is_ballot = record { round = (omega arith, omega arith); op = ((omega arith, omega arith), (omega arith, omega arith), (omega arith, omega arith)); lowest = λ e. refl }

accept_formed : (s : Site) (b : Ballot) (e : Content) (to : ℕ) → IsSite s → IsBallot b → IsShort e → IsMember to → IsMessage (accept_to s b e to)
accept_formed s b e to h ballot entry member = record { from = (h.op).1; to = member; body = ((h.op).0, (h.group, (h.position, (ballot, entry)))) }

prepare_formed : (s : Site) (b : Ballot) (to : ℕ) → IsSite s → IsBallot b → IsMember to → IsMessage (prepare_to s b to)
prepare_formed s b to h ballot member = record { from = (h.op).1; to = member; body = ((h.op).0, (h.group, (h.position, ballot))) }

invalidate_formed : (s : Site) (to : ℕ) → IsSite s → IsMember to → IsMessage (invalidate_to s to)
invalidate_formed s to h member = record { from = (h.op).1; to = member; body = ((h.op).0, (h.group, h.position)) }

-- ---- a new ballot

above : (seen : ℕ) → IsU32 seen → nat_le last_round seen ≡ false → IsU32 (seen + 1)
above seen h e = (omega arith, below e)
  where
    below : nat_le 4294967295 seen ≡ false → seen + 1 ≤ 4294967295
    below e = grind (arith, nat_tests)

next_is_ballot : (s : Site) (p : Proposal) → IsSite s → IsU32 (p.seen + 1) → IsBallot (next_ballot s p)
next_is_ballot s p h seen = record { round = seen; op = (h.op).0; lowest = λ e. absurd (never p.seen e) }
  where
    never : (n : ℕ) → n + 1 ≡ 0 → ⊥
    never n e = omega (arith, e)

prepares_formed : (s : Site) (p : Proposal) (now : ℕ) → IsSite s → IsShort p.own → IsU32 p.seen → IsMove (prepares s p now)
prepares_formed s p now h own seen = go (nat_le last_round p.seen) refl
  where
    go : (t : Bool) → nat_le last_round p.seen ≡ t → IsMove (cond t (move p Waiting [])
        (record { proposal = record { own = p.own; seen = p.seen + 1; round = Preparing (next_ballot s p) [] now }; sends = map (prepare_to s (next_ballot s p)) s.voters }))
    go true e = record { proposal = record { own = own; seen = seen; round = tt }; sends = tt }
    go false e = let more = above p.seen seen e in let ballot = next_is_ballot s p h more in record {
      proposal = record { own = own; seen = more; round = (ballot, tt) };
      sends = each_map IsMember IsMessage (prepare_to s (next_ballot s p)) (λ to member. prepare_formed s (next_ballot s p) to h ballot member) s.voters h.voters;
    }

-- ---- a round as it goes on

still : (p : Proposal) (round : Round) → IsProposal p → IsRound round → IsMove (move p round [])
still p round h r = record { proposal = record { own = h.own; seen = h.seen; round = r }; sends = tt }

stays_formed : (p : Proposal) → IsProposal p → IsMove (stays p)
stays_formed p h = still p p.round h h.round

covers_formed : (s : Site) (b : Ballot) (e : Content) (cover : Cover) (sent : ℕ) → IsBallot b → IsShort e → IsRound (covers s b e cover sent)
covers_formed s b e cover sent ballot entry = either IsRound (list_all (is_covered s cover) s.full) (Settled e cover.told) (Covering b e cover sent) entry (ballot, entry)

accepts_formed : (s : Site) (b : Ballot) (e : Content) (voted : List ℕ) (sent : ℕ) → IsBallot b → IsShort e → IsRound (accepts s b e voted sent)
accepts_formed s b e voted sent ballot entry = either IsRound (is_majority (length s.voters) (length voted)) (covers s b e (first_cover voted) sent) (Accepting b e voted sent)
    (covers_formed s b e (first_cover voted) sent ballot entry) (ballot, entry)

accepted_formed : (s : Site) (own : Content) (seen from now : ℕ) (b : Ballot) (e : Content) (round : Round) → IsSite s → IsProposal (record { own = own; seen = seen; round = round })
    → IsMove (accepted s (record { own = own; seen = seen; round = round }) from now b e)
accepted_formed s own seen from now b e (Asking leader sent) h p = either IsMove (from == leader && is_sent zero_ballot own b e) _ _
    (record {
      proposal = record { own = p.own; seen = p.seen; round = accepts_formed s zero_ballot own (cond (has leader s.voters) (leader ∷ []) []) now zero_is_ballot p.own };
      sends = each_map IsMember IsMessage (accept_to s zero_ballot own) (λ to member. accept_formed s zero_ballot own to h zero_is_ballot p.own member) (others leader s.voters)
          (each_filter IsMember (λ other. not (other == leader)) s.voters h.voters);
    })
    (stays_formed _ p)
accepted_formed s own seen from now b e (Accepting ballot entry voted sent) h p = either IsMove (is_sent ballot entry b e && has from s.voters) _ _
    (still _ _ p (accepts_formed s ballot entry (with_node from voted) sent (p.round).0 (p.round).1)) (stays_formed _ p)
accepted_formed s own seen from now b e (Covering ballot entry cover sent) h p = either IsMove (is_sent ballot entry b e && has from s.voters) _ _
    (still _ _ p (covers_formed s ballot entry (with_accepted cover from) sent (p.round).0 (p.round).1)) (stays_formed _ p)
accepted_formed s own seen from now b e (Preparing ballot reports sent) h p = stays_formed _ p
accepted_formed s own seen from now b e (Settled entry told) h p = stays_formed _ p
accepted_formed s own seen from now b e Waiting h p = stays_formed _ p

refused_formed : (s : Site) (own : Content) (seen now : ℕ) (round : Round) → IsSite s → IsProposal (record { own = own; seen = seen; round = round })
    → IsMove (refused s (record { own = own; seen = seen; round = round }) now)
refused_formed s own seen now (Asking leader sent) h p = prepares_formed s (record { own = own; seen = seen; round = Asking leader sent }) now h p.own p.seen
refused_formed s own seen now (Preparing ballot reports sent) h p = stays_formed _ p
refused_formed s own seen now (Accepting ballot entry voted sent) h p = stays_formed _ p
refused_formed s own seen now (Covering ballot entry cover sent) h p = stays_formed _ p
refused_formed s own seen now (Settled entry told) h p = stays_formed _ p
refused_formed s own seen now Waiting h p = stays_formed _ p

-- ---- promises

greater_formed : (a b : Option (Ballot × Content)) → IsVote a → IsVote b → IsVote (greater_vote a b)
greater_formed None b x y = y
greater_formed (Some vote) None x y = x
greater_formed (Some vote) (Some other) x y = either IsVote (is_ballot_below vote.0 other.0) (Some other) (Some vote) y x

greatest_formed : (reports : List Report) → Each IsReport reports → IsVote (greatest_vote reports)
greatest_formed [] h = tt
greatest_formed (report ∷ reports) h = greater_formed report.vote (greatest_vote reports) h.0 (greatest_formed reports h.1)

picked_formed : (own : Content) (vote : Option (Ballot × Content)) → IsShort own → IsVote vote → IsShort (picked own vote)
picked_formed own None h v = h
picked_formed own (Some vote) h v = v.1

proposes_formed : (s : Site) (p : Proposal) (b : Ballot) (reports : List Report) (sent now : ℕ) → IsSite s → IsProposal p → IsBallot b → Each IsReport reports → IsMove (proposes s p b reports sent now)
proposes_formed s p b reports sent now h q ballot each =
    let entry = picked_formed p.own (greatest_vote reports) q.own (greatest_formed reports each) in
    either IsMove (is_majority (length s.voters) (length reports)) _ _
    (record {
      proposal = record { own = q.own; seen = q.seen; round = (ballot, entry) };
      sends = each_map IsMember IsMessage (accept_to s b (picked p.own (greatest_vote reports))) (λ to member. accept_formed s b (picked p.own (greatest_vote reports)) to h ballot entry member) s.voters h.voters;
    })
    (still p (Preparing b reports sent) q (ballot, each))

promised_formed : (s : Site) (own : Content) (seen from now : ℕ) (b : Ballot) (vote : Option (Ballot × Content)) (round : Round) → IsSite s → IsVote vote
    → IsProposal (record { own = own; seen = seen; round = round }) → IsMove (promised s (record { own = own; seen = seen; round = round }) from now b vote)
promised_formed s own seen from now b vote (Preparing ballot reports sent) h v p = either IsMove (same_ballot ballot b && has from s.voters && not (list_any (λ (report : Report). report.voter == from) reports)) _ _
    (proposes_formed s _ ballot (reports ++ record { voter = from; vote = vote } ∷ []) sent now h p (p.round).0 (each_both IsReport reports _ (p.round).1 (v, tt))) (stays_formed _ p)
promised_formed s own seen from now b vote (Asking leader sent) h v p = stays_formed _ p
promised_formed s own seen from now b vote (Accepting ballot entry voted sent) h v p = stays_formed _ p
promised_formed s own seen from now b vote (Covering ballot entry cover sent) h v p = stays_formed _ p
promised_formed s own seen from now b vote (Settled entry told) h v p = stays_formed _ p
promised_formed s own seen from now b vote Waiting h v p = stays_formed _ p

-- ---- coordinators

invalidated_formed : (s : Site) (own : Content) (seen from : ℕ) (round : Round) → IsProposal (record { own = own; seen = seen; round = round })
    → IsMove (invalidated s (record { own = own; seen = seen; round = round }) from)
invalidated_formed s own seen from (Covering ballot entry cover sent) p = either IsMove (has from cover.told) _ _
    (still _ _ p (covers_formed s ballot entry (with_invalidated cover from) sent (p.round).0 (p.round).1)) (stays_formed _ p)
invalidated_formed s own seen from (Asking leader sent) p = stays_formed _ p
invalidated_formed s own seen from (Preparing ballot reports sent) p = stays_formed _ p
invalidated_formed s own seen from (Accepting ballot entry voted sent) p = stays_formed _ p
invalidated_formed s own seen from (Settled entry told) p = stays_formed _ p
invalidated_formed s own seen from Waiting p = stays_formed _ p

unheld_formed : (s : Site) (own : Content) (seen cell node : ℕ) (round : Round) → IsProposal (record { own = own; seen = seen; round = round })
    → IsMove (unheld s (record { own = own; seen = seen; round = round }) cell node)
unheld_formed s own seen cell node (Covering ballot entry cover sent) p = either IsMove (nat_le cell s.cells && has node cover.told) _ _
    (still _ _ p (covers_formed s ballot entry (with_cell cover (record { cell = cell; node = node })) sent (p.round).0 (p.round).1)) (stays_formed _ p)
unheld_formed s own seen cell node (Asking leader sent) p = stays_formed _ p
unheld_formed s own seen cell node (Preparing ballot reports sent) p = stays_formed _ p
unheld_formed s own seen cell node (Accepting ballot entry voted sent) p = stays_formed _ p
unheld_formed s own seen cell node (Settled entry told) p = stays_formed _ p
unheld_formed s own seen cell node Waiting p = stays_formed _ p

-- ---- whatever it takes

greatest_of : (a b : ℕ) → IsU32 a → IsU32 b → IsU32 (max a b)
greatest_of a b x y = (omega arith, least (x.1) (y.1))
  where
    least : a ≤ 4294967295 → b ≤ 4294967295 → max a b ≤ 4294967295
    least x y = omega (arith, x, y)

sees_formed : (p : Proposal) (round : ℕ) → IsProposal p → IsU32 round → IsProposal (sees p round)
sees_formed p round h r = record { own = h.own; seen = greatest_of p.seen round h.seen r; round = h.round }

vote_seen : (vote : Option (Ballot × Content)) → IsVote vote → IsU32 (vote_round vote)
vote_seen None h = (omega arith, omega arith)
vote_seen (Some vote) h = (h.0).round

pub takes_formed : (s : Site) (p : Proposal) (from now : ℕ) (body : Body) → IsSite s → IsProposal p → IsBody body → IsMove (takes s p from now body)
takes_formed s p from now (Accepted op g n b e) h q body = either IsMove (is_here s op g n) _ _
    (accepted_formed s _ _ from now b e p.round h (sees_formed p b.round q (body.1.1.1.0).round)) (stays_formed p q)
takes_formed s p from now (Refused op g n asked shown e) h q body = either IsMove (is_here s op g n) _ _
    (refused_formed s _ _ now p.round h (sees_formed p (max asked.round shown.round) q (greatest_of _ _ (body.1.1.1.0).round (body.1.1.1.1.0).round))) (stays_formed p q)
takes_formed s p from now (Promise op g n b vote) h q body = either IsMove (is_here s op g n) _ _
    (promised_formed s _ _ from now b vote p.round h (body.1.1.1.1) (sees_formed p (max b.round (vote_round vote)) q (greatest_of _ _ (body.1.1.1.0).round (vote_seen vote body.1.1.1.1)))) (stays_formed p q)
takes_formed s p from now (Invalidated op g n) h q body = either IsMove (is_here s op g n) _ _ (invalidated_formed s _ _ from p.round q) (stays_formed p q)
takes_formed s p from now (Unheld op cell node) h q body = either IsMove _ _ _ (unheld_formed s _ _ cell node.0 p.round q) (stays_formed p q)
takes_formed s p from now (Accept op g n b e) h q body = either IsMove (is_here s op g n) _ _ (stays_formed _ (sees_formed p b.round q (body.1.1.1.0).round)) (stays_formed p q)
takes_formed s p from now (Prepare op g n b) h q body = either IsMove (is_here s op g n) _ _ (stays_formed _ (sees_formed p b.round q (body.1.1.1).round)) (stays_formed p q)
takes_formed s p from now _ h q body = stays_formed p q

-- ---- at a tick

dead_formed : (s : Site) (node cell : ℕ) → IsSite s → IsMember node → 1 ≤ cell → cell ≤ 5 → IsMessage (dead_to s node cell)
dead_formed s node cell h member low high = record { from = (h.op).1; to = (low, omega (arith, high)); body = ((h.op).0, ((low, high), member)) }

abbrev IsCell : ℕ → Type 0
IsCell cell = (1 ≤ cell) × (cell ≤ 5)

each_cell : (a n : ℕ) → 1 ≤ a → a + n ≤ 6 → Each IsCell (range_with_len a n)
each_cell a zero low high = tt
each_cell a (suc n) low high = ((low, omega (arith, high)), each_cell (a + 1) n (omega (arith, low)) (omega (arith, high)))

presses_formed : (s : Site) (nodes : List ℕ) → IsSite s → Each IsMember nodes → AreMessages (presses s nodes)
presses_formed s nodes h members = each_both IsMessage (map (invalidate_to s) nodes) _
    (each_map IsMember IsMessage (invalidate_to s) (λ to member. invalidate_formed s to h member) nodes members)
    (each_flat IsMember IsMessage (λ node. map (dead_to s node) (cell_numbers s)) (λ node member. each_map IsCell IsMessage (dead_to s node) (λ cell is. dead_formed s node cell h member is.0 is.1) (cell_numbers s) cells) nodes members)
  where
    cells : Each IsCell (cell_numbers s)
    cells = let few = h.cells in each_cell 1 s.cells (omega arith) (omega (arith, few))

due_formed_at : (s : Site) (own : Content) (seen retry now : ℕ) (round : Round) → IsSite s → IsProposal (record { own = own; seen = seen; round = round })
    → IsMove (due s (record { own = own; seen = seen; round = round }) retry now)
due_formed_at s own seen retry now (Asking leader sent) h p = either IsMove (is_due sent retry now) _ _ (prepares_formed s (record { own = own; seen = seen; round = Asking leader sent }) now h p.own p.seen) (stays_formed _ p)
due_formed_at s own seen retry now (Preparing ballot reports sent) h p = either IsMove (is_due sent retry now) _ _ (prepares_formed s (record { own = own; seen = seen; round = Preparing ballot reports sent }) now h p.own p.seen) (stays_formed _ p)
due_formed_at s own seen retry now (Accepting ballot entry voted sent) h p = either IsMove (is_due sent retry now) _ _ (prepares_formed s (record { own = own; seen = seen; round = Accepting ballot entry voted sent }) now h p.own p.seen) (stays_formed _ p)
due_formed_at s own seen retry now (Covering ballot entry cover sent) h p = either IsMove (is_due sent retry now) _ _
    (record {
      proposal = record { own = p.own; seen = p.seen; round = p.round };
      sends = presses_formed s (uncovered s cover) h (each_filter IsMember (λ node. not (is_covered s cover node)) s.full h.full);
    }) (stays_formed _ p)
due_formed_at s own seen retry now (Settled entry told) h p = stays_formed _ p
due_formed_at s own seen retry now Waiting h p = stays_formed _ p

pub due_formed : (s : Site) (p : Proposal) (retry now : ℕ) → IsSite s → IsProposal p → IsMove (due s p retry now)
due_formed s p retry now h q = due_formed_at s p.own p.seen retry now p.round h (record { own = q.own; seen = q.seen; round = q.round })

-- ---- a round begins, and settles

pub asks_formed : (s : Site) (leader : ℕ) (own : Content) (now : ℕ) → IsSite s → IsMember leader → IsShort own → IsMove (asks s leader own now)
asks_formed s leader own now h member entry = record {
  proposal = record { own = entry; seen = (omega arith, omega arith); round = tt };
  sends = (accept_formed s zero_ballot own leader h zero_is_ballot entry member, tt);
}

pub completes_formed : (s : Site) (own : Content) (now : ℕ) → IsSite s → IsShort own → IsMove (completes s own now)
completes_formed s own now h entry = prepares_formed s (record { own = own; seen = 0; round = Waiting }) now h entry (omega arith, omega arith)

settled_round : (own entry : Content) (seen : ℕ) (round : Round) → IsRound round → settled (record { own = own; seen = seen; round = round }) ≡ Some entry → IsShort entry
settled_round own entry seen (Settled found told) h e = subst IsShort (same_Some found entry e) h
settled_round own entry seen (Asking leader sent) h e = cc
settled_round own entry seen (Preparing ballot reports sent) h e = cc
settled_round own entry seen (Accepting ballot found voted sent) h e = cc
settled_round own entry seen (Covering ballot found cover sent) h e = cc
settled_round own entry seen Waiting h e = cc

pub settled_formed : (p : Proposal) (entry : Content) → IsProposal p → settled p ≡ Some entry → IsShort entry
settled_formed p entry h e = settled_round p.own entry p.seen p.round h.round e
