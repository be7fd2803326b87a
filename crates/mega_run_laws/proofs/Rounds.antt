-- A round that is justified does only what is allowed, whatever it takes and whenever it is due, and stays justified.
use Rattle.std.proofs.Common.{◌≡◌, ℕ, ◌+◌, ◌==◌, ◌&&◌, ◌≤◌, max, Bool, true, false, not, cond, nat_le, List, [], ◌∷◌, ◌++◌, length, map, flat_map, Option, Some, refl, sym, subst, arith}
use Rattle.std.specs.List.{list_all}
use Rattle.std.proofs.lemmas.Bool.{and_parts, not-true}
use Rattle.mega_base.specs.declared.names.GroupId.{GroupId}
use Rattle.mega_base.specs.declared.names.OpId.{OpId}
use Rattle.mega_base.specs.declared.names.Position.{Position}
use Rattle.mega_ballot.specs.declared.ballot.Ballot.{Ballot}
use Rattle.mega_ballot.specs.Order.{zero_ballot}
use Rattle.mega_cluster.specs.declared.cluster.Cluster.{Cluster}
use Rattle.mega_entry.specs.declared.content.Content.{Content}
use Rattle.mega_wire.specs.declared.message.Body.{Body}
use Rattle.mega_wire.specs.declared.message.Body.TheVariants.{Accept, Accepted, Refused, Prepare, Promise, Invalidated, Unheld}
use Rattle.mega_wal.specs.Acceptor.{Vote}
use Rattle.mega_wal.specs.Same.{same_entry, same_group, same_op}
use Rattle.mega_wal.proofs.Sames.{same_entry_equal, same_group_equal, same_op_equal}
use Rattle.mega_tape_laws.specs.of_transcript.declared.item.Item.{Item}
use Rattle.mega_tape_laws.specs.of_read.of_propose.Members.{has, is_majority, others, with_node}
use Rattle.mega_tape_laws.specs.of_read.of_propose.declared.round.Cover.{Cover}
use Rattle.mega_tape_laws.specs.of_read.of_propose.declared.round.Report.{Report}
use Rattle.mega_tape_laws.specs.of_read.of_propose.declared.round.Round.{Round}
use Rattle.mega_tape_laws.specs.of_read.of_propose.declared.round.Proposal.{Proposal}
use Rattle.mega_tape_laws.specs.of_read.of_propose.declared.round.Move.{Move as RoundMove}
use Rattle.mega_tape_laws.specs.of_read.of_propose.declared.round.Round.TheVariants.{Asking, Preparing, Accepting, Covering, Settled, Waiting}
use Rattle.mega_tape_laws.specs.of_read.of_propose.Rounds.{accept_to, accepted, accepts, asks, cell_numbers, completes, covers, dead_to, due, first_cover, greatest_vote, invalidate_to, invalidated, is_covered, is_due, is_here, is_sent, last_round, next_ballot, picked, prepare_to, prepares, presses, promised, proposes, refused, same_ballot, sees, settled, stays, takes, tells, uncovered, unheld, vote_round, with_accepted, with_cell, with_invalidated, with_told}
use Rattle.mega_tape_laws.specs.of_rules.Members.{voters}
use Rattle.mega_tape_laws.specs.Places.{Move, Place, Prepares as PreparesMove, Took, moves, newest, round_of}
use Rattle.mega_tape_laws.specs.Lawful.{Heard, IsOwn, Leads, asks as asks_leader, message}
use Rattle.mega_tape_laws.proofs.Ballots.{number_is}
use Rattle.mega_tape_laws.proofs.Lists.{some_is}
use Rattle.mega_run_laws.specs.Justified.{Accepters, Chosen, Goes, IsWithin, Knows, Latest, Reported, Justified, here, is_reported, report_of, sent}
use Rattle.mega_run_laws.proofs.Counted.{carried, chosen_by, majority_is, none_accepted, none_reported, one_more, one_report, with_one}
use Rattle.mega_run_laws.proofs.Sending.{above_within, accept_moves, accepts_lawful, accepts_within, all_of, prepares_latest, prepares_lawful, prepares_within, spreads_lawful, within_more}
use Rattle.mega_run_laws.proofs.Free.{AreFree, IsFree, each_both, each_flat, each_of, goes_free, goes_still}

pub ballot_is : (a b : Ballot) → same_ballot a b ≡ true → a ≡ b
ballot_is a b h = let parts = and_parts (a.round == b.round) (same_op a.op b.op) h in λ i. record { round = number_is a.round b.round parts.0 i; op = same_op_equal a.op b.op parts.1 i }

le_max : (a b : ℕ) → a ≤ max a b
le_max a b = omega arith

newest_within : (seen : ℕ) (ms : List Move) (move : Move) → newest ms ≡ Some move → IsWithin seen ms → round_of move ≤ seen
newest_within seen [] move h w = cc
newest_within seen (first ∷ ms) move h w = subst (λ m. round_of m ≤ seen) (some_is first move h) w.0

pub here_is : (c : Cluster) (op : OpId) (p : Place) (asked : List ℕ) (o : OpId) (g : GroupId) (n : Position) → is_here (here c op p asked) o g n ≡ true
    → (o ≡ op) × (◌≡◌ {A = Place} (record { group = g; position = n }) p)
here_is c op p asked o g n h =
    let outer = and_parts (same_op op o && same_group p.group g) (n.0 == p.position.0) h in
    let inner = and_parts (same_op op o) (same_group p.group g) outer.0 in
    (sym (same_op_equal op o inner.0), (λ i. record { group = sym (same_group_equal p.group g inner.1) i; position = record { 0 = number_is n.0 p.position.0 outer.1 i } }))

-- ---- a new ballot

pub prepares_goes : (c : Cluster) (tape : List Item) (op : OpId) (p : Place) (asked : List ℕ) (proposal : Proposal) (now : ℕ) → IsWithin proposal.seen (moves tape op p)
    → Goes c tape op p (prepares (here c op p asked) proposal now)
prepares_goes c tape op p asked proposal now w = go (nat_le last_round proposal.seen)
  where
    ballot : Ballot
    ballot = next_ballot (here c op p asked) proposal

    is_own : IsOwn op ballot
    is_own = record { names = refl; above = omega arith }

    le : ballot.round ≤ proposal.seen + 1
    le = omega arith

    go : (t : Bool) → Goes c tape op p (cond t (record { proposal = record { own = proposal.own; seen = proposal.seen; round = Waiting }; sends = [] })
        (record { proposal = record { own = proposal.own; seen = proposal.seen + 1; round = Preparing ballot [] now }; sends = map (prepare_to (here c op p asked) ballot) (voters c) }))
    go true = goes_still c tape op p (record { own = proposal.own; seen = proposal.seen; round = Waiting }) w tt tt
    go false = record {
      own = all_of op p (prepare_to (here c op p asked) ballot) (λ to. (refl, refl)) (voters c);
      lawful = λ n l. prepares_lawful c op p asked ballot is_own (voters c) n tape (above_within proposal.seen (moves tape op p) w) l;
      within = λ n. prepares_within c op p asked ballot (proposal.seen + 1) le (voters c) n tape (within_more proposal.seen (proposal.seen + 1) (moves tape op p) (omega arith) w);
      knows = (is_own, none_reported c tape op p ballot);
      latest = λ n voter h. prepares_latest c op p asked ballot is_own (voters c) n tape voter h;
    }

-- ---- acceptances

covers_knows : (c : Cluster) (tape : List Item) (op : OpId) (p : Place) (asked : List ℕ) (b : Ballot) (e : Content) (cover : Cover) (at : ℕ) → Chosen c tape op p e
    → Knows c tape op p (covers (here c op p asked) b e cover at)
covers_knows c tape op p asked b e cover at h = go (list_all (is_covered (here c op p asked) cover) (here c op p asked).full)
  where
    go : (t : Bool) → Knows c tape op p (cond t (Settled e cover.told) (Covering b e cover at))
    go true = h
    go false = h

covers_latest : (c : Cluster) (ms : List Move) (op : OpId) (p : Place) (asked : List ℕ) (b : Ballot) (e : Content) (cover : Cover) (at : ℕ) → Latest c ms (covers (here c op p asked) b e cover at)
covers_latest c ms op p asked b e cover at = go (list_all (is_covered (here c op p asked) cover) (here c op p asked).full)
  where
    go : (t : Bool) → Latest c ms (cond t (Settled e cover.told) (Covering b e cover at))
    go true = tt
    go false = tt

accepts_knows : (c : Cluster) (tape : List Item) (op : OpId) (p : Place) (asked : List ℕ) (b : Ballot) (e : Content) (voted : List ℕ) (at : ℕ) → Accepters c tape op p b e voted
    → Knows c tape op p (accepts (here c op p asked) b e voted at)
accepts_knows c tape op p asked b e voted at h = go (is_majority (length (voters c)) (length voted)) refl
  where
    go : (t : Bool) → is_majority (length (voters c)) (length voted) ≡ t → Knows c tape op p (cond t (covers (here c op p asked) b e (first_cover voted) at) (Accepting b e voted at))
    go true m = covers_knows c tape op p asked b e (first_cover voted) at (chosen_by c tape op p b e voted h m)
    go false m = h

accepts_latest : (c : Cluster) (ms : List Move) (op : OpId) (p : Place) (asked : List ℕ) (b : Ballot) (e : Content) (voted : List ℕ) (at : ℕ) → Latest c ms (accepts (here c op p asked) b e voted at)
accepts_latest c ms op p asked b e voted at = go (is_majority (length (voters c)) (length voted))
  where
    go : (t : Bool) → Latest c ms (cond t (covers (here c op p asked) b e (first_cover voted) at) (Accepting b e voted at))
    go true = covers_latest c ms op p asked b e (first_cover voted) at
    go false = tt

leader_counted : (c : Cluster) (tape : List Item) (op : OpId) (p : Place) (e : Content) (leader : ℕ) → Heard tape leader op (Accepted op p.group p.position zero_ballot e)
    → (t : Bool) → has leader (voters c) ≡ t → Accepters c tape op p zero_ballot e (cond t (leader ∷ []) [])
leader_counted c tape op p e leader heard true h = one_more c tape op p zero_ballot e leader [] (none_accepted c tape op p zero_ballot e) heard h refl
leader_counted c tape op p e leader heard false h = none_accepted c tape op p zero_ballot e

accepted_goes : (c : Cluster) (tape : List Item) (op : OpId) (p : Place) (asked : List ℕ) (mine : Content) (seen from now : ℕ) (b : Ballot) (e : Content)
    → Heard tape from op (Accepted op p.group p.position b e) → (round : Round) → IsWithin seen (moves tape op p) → Knows c tape op p round → Latest c (moves tape op p) round
    → Goes c tape op p (accepted (here c op p asked) (record { own = mine; seen = seen; round = round }) from now b e)
accepted_goes c tape op p asked mine seen from now b e heard (Asking leader at) w k l = go (from == leader && is_sent zero_ballot mine b e) refl
  where
    spread : (from ≡ leader) → (zero_ballot ≡ b) → (mine ≡ e) → Goes c tape op p (record {
      proposal = record { own = mine; seen = seen; round = accepts (here c op p asked) zero_ballot mine (cond (has leader (voters c)) (leader ∷ []) []) now };
      sends = map (accept_to (here c op p asked) zero_ballot mine) (others leader (voters c));
    })
    spread is at_zero same =
        let by_leader = coe 0 1 (i. Heard tape (is i) op (Accepted op p.group p.position (sym at_zero i) (sym same i))) heard in
        record {
          own = all_of op p (accept_to (here c op p asked) zero_ballot mine) (λ to. (refl, refl)) (others leader (voters c));
          lawful = λ n law. spreads_lawful c op p asked mine leader (others leader (voters c)) n tape k by_leader law;
          within = λ n. accepts_within c op p asked zero_ballot mine seen (omega arith) (others leader (voters c)) n tape w;
          knows = accepts_knows c tape op p asked zero_ballot mine (cond (has leader (voters c)) (leader ∷ []) []) now (leader_counted c tape op p mine leader by_leader (has leader (voters c)) refl);
          latest = λ n. accepts_latest c (moves (sent n (map (accept_to (here c op p asked) zero_ballot mine) (others leader (voters c))) tape) op p) op p asked zero_ballot mine (cond (has leader (voters c)) (leader ∷ []) []) now;
        }

    go : (t : Bool) → (from == leader && is_sent zero_ballot mine b e) ≡ t → Goes c tape op p (cond t (record {
      proposal = record { own = mine; seen = seen; round = accepts (here c op p asked) zero_ballot mine (cond (has leader (voters c)) (leader ∷ []) []) now };
      sends = map (accept_to (here c op p asked) zero_ballot mine) (others leader (voters c));
    }) (stays (record { own = mine; seen = seen; round = Asking leader at })))
    go true h =
        let outer = and_parts (from == leader) (is_sent zero_ballot mine b e) h in
        let inner = and_parts (same_ballot zero_ballot b) (same_entry mine e) outer.1 in
        spread (number_is from leader outer.0) (ballot_is zero_ballot b inner.0) (same_entry_equal mine e inner.1)
    go false h = goes_still c tape op p (record { own = mine; seen = seen; round = Asking leader at }) w k l
accepted_goes c tape op p asked mine seen from now b e heard (Accepting ballot entry voted at) w k l = go (is_sent ballot entry b e && has from (voters c)) refl
  where
    go : (t : Bool) → (is_sent ballot entry b e && has from (voters c)) ≡ t → Goes c tape op p (cond t (record {
      proposal = record { own = mine; seen = seen; round = accepts (here c op p asked) ballot entry (with_node from voted) at };
      sends = [];
    }) (stays (record { own = mine; seen = seen; round = Accepting ballot entry voted at })))
    go true h =
        let outer = and_parts (is_sent ballot entry b e) (has from (voters c)) h in
        let inner = and_parts (same_ballot ballot b) (same_entry entry e) outer.0 in
        let by_voter = coe 0 1 (i. Heard tape from op (Accepted op p.group p.position (sym (ballot_is ballot b inner.0) i) (sym (same_entry_equal entry e inner.1) i))) heard in
        goes_still c tape op p (record { own = mine; seen = seen; round = accepts (here c op p asked) ballot entry (with_node from voted) at }) w
        (accepts_knows c tape op p asked ballot entry (with_node from voted) at (with_one c tape op p ballot entry from voted k by_voter outer.1))
        (accepts_latest c (moves tape op p) op p asked ballot entry (with_node from voted) at)
    go false h = goes_still c tape op p (record { own = mine; seen = seen; round = Accepting ballot entry voted at }) w k l
accepted_goes c tape op p asked mine seen from now b e heard (Covering ballot entry cover at) w k l = go (is_sent ballot entry b e && has from (voters c))
  where
    go : (t : Bool) → Goes c tape op p (cond t (record {
      proposal = record { own = mine; seen = seen; round = covers (here c op p asked) ballot entry (with_accepted cover from) at };
      sends = [];
    }) (stays (record { own = mine; seen = seen; round = Covering ballot entry cover at })))
    go true = goes_still c tape op p (record { own = mine; seen = seen; round = covers (here c op p asked) ballot entry (with_accepted cover from) at }) w
        (covers_knows c tape op p asked ballot entry (with_accepted cover from) at k) (covers_latest c (moves tape op p) op p asked ballot entry (with_accepted cover from) at)
    go false = goes_still c tape op p (record { own = mine; seen = seen; round = Covering ballot entry cover at }) w k l
accepted_goes c tape op p asked mine seen from now b e heard (Preparing ballot reports at) w k l = goes_still c tape op p (record { own = mine; seen = seen; round = Preparing ballot reports at }) w k l
accepted_goes c tape op p asked mine seen from now b e heard (Settled entry told) w k l = goes_still c tape op p (record { own = mine; seen = seen; round = Settled entry told }) w k l
accepted_goes c tape op p asked mine seen from now b e heard Waiting w k l = goes_still c tape op p (record { own = mine; seen = seen; round = Waiting }) w k l

-- ---- refusals

refused_goes : (c : Cluster) (tape : List Item) (op : OpId) (p : Place) (asked : List ℕ) (mine : Content) (seen now : ℕ) (round : Round)
    → IsWithin seen (moves tape op p) → Knows c tape op p round → Latest c (moves tape op p) round
    → Goes c tape op p (refused (here c op p asked) (record { own = mine; seen = seen; round = round }) now)
refused_goes c tape op p asked mine seen now (Asking leader at) w k l = prepares_goes c tape op p asked (record { own = mine; seen = seen; round = Asking leader at }) now w
refused_goes c tape op p asked mine seen now (Preparing ballot reports at) w k l = goes_still c tape op p (record { own = mine; seen = seen; round = Preparing ballot reports at }) w k l
refused_goes c tape op p asked mine seen now (Accepting ballot entry voted at) w k l = goes_still c tape op p (record { own = mine; seen = seen; round = Accepting ballot entry voted at }) w k l
refused_goes c tape op p asked mine seen now (Covering ballot entry cover at) w k l = goes_still c tape op p (record { own = mine; seen = seen; round = Covering ballot entry cover at }) w k l
refused_goes c tape op p asked mine seen now (Settled entry told) w k l = goes_still c tape op p (record { own = mine; seen = seen; round = Settled entry told }) w k l
refused_goes c tape op p asked mine seen now Waiting w k l = goes_still c tape op p (record { own = mine; seen = seen; round = Waiting }) w k l

-- ---- promises

proposes_goes : (c : Cluster) (tape : List Item) (op : OpId) (p : Place) (asked : List ℕ) (proposal : Proposal) (b : Ballot) (reports : List Report) (at now : ℕ)
    → IsWithin proposal.seen (moves tape op p) → IsOwn op b → newest (moves tape op p) ≡ Some (PreparesMove b) → Reported c tape op p b reports
    → Goes c tape op p (proposes (here c op p asked) proposal b reports at now)
proposes_goes c tape op p asked proposal b reports at now w is_own last a = go (is_majority (length (voters c)) (length reports)) refl
  where
    entry : Content
    entry = picked proposal.own (greatest_vote reports)

    le : b.round ≤ proposal.seen
    le = newest_within proposal.seen (moves tape op p) (PreparesMove b) last w

    go : (t : Bool) → is_majority (length (voters c)) (length reports) ≡ t → Goes c tape op p (cond t (record {
      proposal = record { own = proposal.own; seen = proposal.seen; round = Accepting b entry [] now };
      sends = map (accept_to (here c op p asked) b entry) (voters c);
    }) (record {
      proposal = record { own = proposal.own; seen = proposal.seen; round = Preparing b reports at };
      sends = [];
    }))
    go true m = record {
      own = all_of op p (accept_to (here c op p asked) b entry) (λ to. (refl, refl)) (voters c);
      lawful = λ n law. accepts_lawful c op p asked b entry is_own (voters c) n tape last (record {
        test = is_reported reports;
        report = report_of reports;
        majority = majority_is (length (voters c)) (length reports) _ m a.counted;
        heard = a.heard;
        carries = carried c tape op p b reports a proposal.own;
      }) law;
      within = λ n. accepts_within c op p asked b entry proposal.seen le (voters c) n tape w;
      knows = none_accepted c tape op p b entry;
      latest = λ n. tt;
    }
    go false m = goes_still c tape op p (record { own = proposal.own; seen = proposal.seen; round = Preparing b reports at }) w (is_own, a) (λ voter h. last)

promised_goes : (c : Cluster) (tape : List Item) (op : OpId) (p : Place) (asked : List ℕ) (mine : Content) (seen from now : ℕ) (b : Ballot) (vote : Option Vote)
    → Heard tape from op (Promise op p.group p.position b vote) → (round : Round) → IsWithin seen (moves tape op p) → Knows c tape op p round → Latest c (moves tape op p) round
    → Goes c tape op p (promised (here c op p asked) (record { own = mine; seen = seen; round = round }) from now b vote)
promised_goes c tape op p asked mine seen from now b vote heard (Preparing ballot reports at) w k l = go (same_ballot ballot b && has from (voters c) && not (is_reported reports from)) refl
  where
    report : Report
    report = record { voter = from; vote = vote }

    go : (t : Bool) → (same_ballot ballot b && has from (voters c) && not (is_reported reports from)) ≡ t → Goes c tape op p (cond t
        (proposes (here c op p asked) (record { own = mine; seen = seen; round = Preparing ballot reports at }) ballot (reports ++ report ∷ []) at now)
        (stays (record { own = mine; seen = seen; round = Preparing ballot reports at })))
    go true h =
        let outer = and_parts (same_ballot ballot b && has from (voters c)) (not (is_reported reports from)) h in
        let inner = and_parts (same_ballot ballot b) (has from (voters c)) outer.0 in
        let by_voter = subst (λ d. Heard tape from op (Promise op p.group p.position d vote)) (sym (ballot_is ballot b inner.0)) heard in
        proposes_goes c tape op p asked (record { own = mine; seen = seen; round = Preparing ballot reports at }) ballot (reports ++ report ∷ []) at now w k.0 (l from inner.1)
        (one_report c tape op p ballot report reports k.1 by_voter inner.1 (not-true (is_reported reports from) outer.1))
    go false h = goes_still c tape op p (record { own = mine; seen = seen; round = Preparing ballot reports at }) w k l
promised_goes c tape op p asked mine seen from now b vote heard (Asking leader at) w k l = goes_still c tape op p (record { own = mine; seen = seen; round = Asking leader at }) w k l
promised_goes c tape op p asked mine seen from now b vote heard (Accepting ballot entry voted at) w k l = goes_still c tape op p (record { own = mine; seen = seen; round = Accepting ballot entry voted at }) w k l
promised_goes c tape op p asked mine seen from now b vote heard (Covering ballot entry cover at) w k l = goes_still c tape op p (record { own = mine; seen = seen; round = Covering ballot entry cover at }) w k l
promised_goes c tape op p asked mine seen from now b vote heard (Settled entry told) w k l = goes_still c tape op p (record { own = mine; seen = seen; round = Settled entry told }) w k l
promised_goes c tape op p asked mine seen from now b vote heard Waiting w k l = goes_still c tape op p (record { own = mine; seen = seen; round = Waiting }) w k l

-- ---- covering

covered_if : (c : Cluster) (tape : List Item) (op : OpId) (p : Place) (asked : List ℕ) (mine : Content) (seen : ℕ) (b : Ballot) (e : Content) (cover more : Cover) (at : ℕ) (t : Bool)
    → IsWithin seen (moves tape op p) → Chosen c tape op p e
    → Goes c tape op p (cond t (record { proposal = record { own = mine; seen = seen; round = covers (here c op p asked) b e more at }; sends = [] })
    (stays (record { own = mine; seen = seen; round = Covering b e cover at })))
covered_if c tape op p asked mine seen b e cover more at true w k =
    goes_still c tape op p (record { own = mine; seen = seen; round = covers (here c op p asked) b e more at }) w (covers_knows c tape op p asked b e more at k) (covers_latest c (moves tape op p) op p asked b e more at)
covered_if c tape op p asked mine seen b e cover more at false w k = goes_still c tape op p (record { own = mine; seen = seen; round = Covering b e cover at }) w k tt

invalidated_goes : (c : Cluster) (tape : List Item) (op : OpId) (p : Place) (asked : List ℕ) (mine : Content) (seen from : ℕ) (round : Round)
    → IsWithin seen (moves tape op p) → Knows c tape op p round → Latest c (moves tape op p) round
    → Goes c tape op p (invalidated (here c op p asked) (record { own = mine; seen = seen; round = round }) from)
invalidated_goes c tape op p asked mine seen from (Covering ballot entry cover at) w k l = covered_if c tape op p asked mine seen ballot entry cover (with_invalidated cover from) at (has from cover.told) w k
invalidated_goes c tape op p asked mine seen from (Asking leader at) w k l = goes_still c tape op p (record { own = mine; seen = seen; round = Asking leader at }) w k l
invalidated_goes c tape op p asked mine seen from (Preparing ballot reports at) w k l = goes_still c tape op p (record { own = mine; seen = seen; round = Preparing ballot reports at }) w k l
invalidated_goes c tape op p asked mine seen from (Accepting ballot entry voted at) w k l = goes_still c tape op p (record { own = mine; seen = seen; round = Accepting ballot entry voted at }) w k l
invalidated_goes c tape op p asked mine seen from (Settled entry told) w k l = goes_still c tape op p (record { own = mine; seen = seen; round = Settled entry told }) w k l
invalidated_goes c tape op p asked mine seen from Waiting w k l = goes_still c tape op p (record { own = mine; seen = seen; round = Waiting }) w k l

unheld_goes : (c : Cluster) (tape : List Item) (op : OpId) (p : Place) (asked : List ℕ) (mine : Content) (seen cell node : ℕ) (round : Round)
    → IsWithin seen (moves tape op p) → Knows c tape op p round → Latest c (moves tape op p) round
    → Goes c tape op p (unheld (here c op p asked) (record { own = mine; seen = seen; round = round }) cell node)
unheld_goes c tape op p asked mine seen cell node (Covering ballot entry cover at) w k l =
    covered_if c tape op p asked mine seen ballot entry cover (with_cell cover (record { cell = cell; node = node })) at (nat_le cell c.cells && has node cover.told) w k
unheld_goes c tape op p asked mine seen cell node (Asking leader at) w k l = goes_still c tape op p (record { own = mine; seen = seen; round = Asking leader at }) w k l
unheld_goes c tape op p asked mine seen cell node (Preparing ballot reports at) w k l = goes_still c tape op p (record { own = mine; seen = seen; round = Preparing ballot reports at }) w k l
unheld_goes c tape op p asked mine seen cell node (Accepting ballot entry voted at) w k l = goes_still c tape op p (record { own = mine; seen = seen; round = Accepting ballot entry voted at }) w k l
unheld_goes c tape op p asked mine seen cell node (Settled entry told) w k l = goes_still c tape op p (record { own = mine; seen = seen; round = Settled entry told }) w k l
unheld_goes c tape op p asked mine seen cell node Waiting w k l = goes_still c tape op p (record { own = mine; seen = seen; round = Waiting }) w k l

-- ---- a message

goes_if : (c : Cluster) (tape : List Item) (op : OpId) (p : Place) (proposal : Proposal) (t : Bool) (goes : RoundMove) → Justified c tape op p proposal → (t ≡ true → Goes c tape op p goes) → Goes c tape op p (cond t goes (stays proposal))
goes_if c tape op p proposal true goes v h = h refl
goes_if c tape op p proposal false goes v h = goes_still c tape op p proposal v.within v.knows v.latest

pub takes_goes : (c : Cluster) (tape : List Item) (op : OpId) (p : Place) (asked : List ℕ) (proposal : Proposal) (from now : ℕ) (body : Body)
    → Justified c tape op p proposal → Took tape (message from op.node.0 body) → Goes c tape op p (takes (here c op p asked) proposal from now body)
takes_goes c tape op p asked proposal from now (Accepted o g n b e) v took =
    goes_if c tape op p proposal (is_here (here c op p asked) o g n) (accepted (here c op p asked) (sees proposal b.round) from now b e) v (λ h.
    let at = here_is c op p asked o g n h in
    accepted_goes c tape op p asked proposal.own (max proposal.seen b.round) from now b e (coe 0 1 (i. Took tape (message from op.node.0 (Accepted (at.0 i) (at.1 i).group (at.1 i).position b e))) took) proposal.round
    (within_more proposal.seen (max proposal.seen b.round) (moves tape op p) (le_max proposal.seen b.round) v.within) v.knows v.latest)
takes_goes c tape op p asked proposal from now (Refused o g n b shown e) v took =
    goes_if c tape op p proposal (is_here (here c op p asked) o g n) (refused (here c op p asked) (sees proposal (max b.round shown.round)) now) v (λ h.
    refused_goes c tape op p asked proposal.own (max proposal.seen (max b.round shown.round)) now proposal.round
    (within_more proposal.seen (max proposal.seen (max b.round shown.round)) (moves tape op p) (le_max proposal.seen (max b.round shown.round)) v.within) v.knows v.latest)
takes_goes c tape op p asked proposal from now (Promise o g n b vote) v took =
    goes_if c tape op p proposal (is_here (here c op p asked) o g n) (promised (here c op p asked) (sees proposal (max b.round (vote_round vote))) from now b vote) v (λ h.
    let at = here_is c op p asked o g n h in
    promised_goes c tape op p asked proposal.own (max proposal.seen (max b.round (vote_round vote))) from now b vote (coe 0 1 (i. Took tape (message from op.node.0 (Promise (at.0 i) (at.1 i).group (at.1 i).position b vote))) took) proposal.round
    (within_more proposal.seen (max proposal.seen (max b.round (vote_round vote))) (moves tape op p) (le_max proposal.seen (max b.round (vote_round vote))) v.within) v.knows v.latest)
takes_goes c tape op p asked proposal from now (Invalidated o g n) v took =
    goes_if c tape op p proposal (is_here (here c op p asked) o g n) (invalidated (here c op p asked) proposal from) v (λ h.
    invalidated_goes c tape op p asked proposal.own proposal.seen from proposal.round v.within v.knows v.latest)
takes_goes c tape op p asked proposal from now (Unheld o cell node) v took =
    goes_if c tape op p proposal (same_op op o && from == cell) (unheld (here c op p asked) proposal cell node.0) v (λ h.
    unheld_goes c tape op p asked proposal.own proposal.seen cell node.0 proposal.round v.within v.knows v.latest)
takes_goes c tape op p asked proposal from now (Accept o g n b e) v took =
    goes_if c tape op p proposal (is_here (here c op p asked) o g n) (stays (sees proposal b.round)) v (λ h.
    goes_still c tape op p (sees proposal b.round) (within_more proposal.seen (max proposal.seen b.round) (moves tape op p) (le_max proposal.seen b.round) v.within) v.knows v.latest)
takes_goes c tape op p asked proposal from now (Prepare o g n b) v took =
    goes_if c tape op p proposal (is_here (here c op p asked) o g n) (stays (sees proposal b.round)) v (λ h.
    goes_still c tape op p (sees proposal b.round) (within_more proposal.seen (max proposal.seen b.round) (moves tape op p) (le_max proposal.seen b.round) v.within) v.knows v.latest)
takes_goes c tape op p asked proposal from now _ v took = goes_still c tape op p proposal v.within v.knows v.latest

-- ---- a tick

presses_free : (c : Cluster) (op : OpId) (p : Place) (asked nodes : List ℕ) → AreFree (presses (here c op p asked) nodes)
presses_free c op p asked nodes =
    each_both IsFree (map (invalidate_to (here c op p asked)) nodes) (flat_map (λ node. map (dead_to (here c op p asked) node) (cell_numbers (here c op p asked))) nodes)
    (each_of IsFree (invalidate_to (here c op p asked)) (λ to. tt) nodes)
    (each_flat IsFree (λ node. map (dead_to (here c op p asked) node) (cell_numbers (here c op p asked))) (λ node. each_of IsFree (dead_to (here c op p asked) node) (λ to. tt) (cell_numbers (here c op p asked))) nodes)

due_by : (c : Cluster) (tape : List Item) (op : OpId) (p : Place) (asked : List ℕ) (mine : Content) (seen retry now : ℕ) (round : Round)
    → IsWithin seen (moves tape op p) → Knows c tape op p round → Latest c (moves tape op p) round
    → Goes c tape op p (due (here c op p asked) (record { own = mine; seen = seen; round = round }) retry now)
due_by c tape op p asked mine seen retry now (Asking leader at) w k l =
    goes_if c tape op p (record { own = mine; seen = seen; round = Asking leader at }) (is_due at retry now) (prepares (here c op p asked) (record { own = mine; seen = seen; round = Asking leader at }) now)
    (record { within = w; knows = k; latest = l }) (λ h. prepares_goes c tape op p asked (record { own = mine; seen = seen; round = Asking leader at }) now w)
due_by c tape op p asked mine seen retry now (Preparing ballot reports at) w k l =
    goes_if c tape op p (record { own = mine; seen = seen; round = Preparing ballot reports at }) (is_due at retry now) (prepares (here c op p asked) (record { own = mine; seen = seen; round = Preparing ballot reports at }) now)
    (record { within = w; knows = k; latest = l }) (λ h. prepares_goes c tape op p asked (record { own = mine; seen = seen; round = Preparing ballot reports at }) now w)
due_by c tape op p asked mine seen retry now (Accepting ballot entry voted at) w k l =
    goes_if c tape op p (record { own = mine; seen = seen; round = Accepting ballot entry voted at }) (is_due at retry now) (prepares (here c op p asked) (record { own = mine; seen = seen; round = Accepting ballot entry voted at }) now)
    (record { within = w; knows = k; latest = l }) (λ h. prepares_goes c tape op p asked (record { own = mine; seen = seen; round = Accepting ballot entry voted at }) now w)
due_by c tape op p asked mine seen retry now (Covering ballot entry cover at) w k l =
    goes_if c tape op p (record { own = mine; seen = seen; round = Covering ballot entry cover at }) (is_due at retry now) (tells (here c op p asked) (record { own = mine; seen = seen; round = Covering ballot entry cover at }) ballot entry cover now)
    (record { within = w; knows = k; latest = l })
    (λ h. goes_free c tape op p (record { own = mine; seen = seen; round = Covering ballot entry (with_told cover (uncovered (here c op p asked) cover)) now }) (presses (here c op p asked) (uncovered (here c op p asked) cover))
    (presses_free c op p asked (uncovered (here c op p asked) cover)) w k tt)
due_by c tape op p asked mine seen retry now (Settled entry told) w k l = goes_still c tape op p (record { own = mine; seen = seen; round = Settled entry told }) w k l
due_by c tape op p asked mine seen retry now Waiting w k l = goes_still c tape op p (record { own = mine; seen = seen; round = Waiting }) w k l

pub due_goes : (c : Cluster) (tape : List Item) (op : OpId) (p : Place) (asked : List ℕ) (proposal : Proposal) (retry now : ℕ) → Justified c tape op p proposal
    → Goes c tape op p (due (here c op p asked) proposal retry now)
due_goes c tape op p asked proposal retry now v = due_by c tape op p asked proposal.own proposal.seen retry now proposal.round v.within v.knows v.latest

-- ---- beginnings

pub completes_goes : (c : Cluster) (tape : List Item) (op : OpId) (p : Place) (asked : List ℕ) (mine : Content) (now : ℕ) → moves tape op p ≡ []
    → Goes c tape op p (completes (here c op p asked) mine now)
completes_goes c tape op p asked mine now none = prepares_goes c tape op p asked (record { own = mine; seen = 0; round = Waiting }) now (subst (IsWithin 0) (sym none) tt)

pub asks_goes : (c : Cluster) (tape : List Item) (op : OpId) (p : Place) (asked : List ℕ) (leader : ℕ) (mine : Content) (now : ℕ) → moves tape op p ≡ [] → Leads c tape op.node.0 p leader
    → Goes c tape op p (asks (here c op p asked) leader mine now)
asks_goes c tape op p asked leader mine now none leads = record {
  own = ((refl, refl), tt);
  lawful = λ n l. (asks_leader refl leads, l);
  within = λ n. subst (IsWithin 0) (sym (accept_moves c op p asked zero_ballot mine n leader tape)) ((omega arith), subst (IsWithin 0) (sym none) tt);
  knows = leads;
  latest = λ n. tt;
}

-- what a round settled was chosen
pub settled_chosen : (c : Cluster) (tape : List Item) (op : OpId) (p : Place) (proposal : Proposal) (e : Content) → Knows c tape op p proposal.round → settled proposal ≡ Some e → Chosen c tape op p e
settled_chosen c tape op p proposal e k h = go proposal.own proposal.seen proposal.round k h
  where
    go : (mine : Content) (seen : ℕ) (round : Round) → Knows c tape op p round → settled (record { own = mine; seen = seen; round = round }) ≡ Some e → Chosen c tape op p e
    go mine seen (Settled entry told) k h = subst (Chosen c tape op p) (some_is entry e h) k
    go mine seen (Asking leader at) k h = cc
    go mine seen (Preparing ballot reports at) k h = cc
    go mine seen (Accepting ballot entry voted at) k h = cc
    go mine seen (Covering ballot entry cover at) k h = cc
    go mine seen Waiting k h = cc
