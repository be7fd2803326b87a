-- A round of a group proposes, sends and settles only own entries.
use Rattle.std.proofs.Common.{◌≡◌, ℕ, ◌+◌, ◌==◌, ◌&&◌, max, not, nat_le, Bool, true, false, cond, List, [], ◌∷◌, ◌++◌, length, map, flat_map, Option, Some, None, refl, sym, subst}
use Rattle.std.specs.List.{list_all, list_any}
use Rattle.mega_base.specs.Codec.{IsOption}
use Rattle.mega_base.specs.declared.names.GroupId.{GroupId}
use Rattle.mega_base.specs.declared.names.OpId.{OpId}
use Rattle.mega_base.specs.declared.names.Position.{Position}
use Rattle.mega_ballot.specs.declared.ballot.Ballot.{Ballot}
use Rattle.mega_ballot.specs.Order.{zero_ballot}
use Rattle.mega_entry.specs.declared.content.Content.{Content}
use Rattle.mega_schema.specs.declared.schema.Schema.{Schema}
use Rattle.mega_wire.specs.declared.message.Body.{Body}
use Rattle.mega_wire.specs.declared.message.Body.TheVariants.{Accept, Accepted, Refused, Prepare, Promise, Invalidated, Unheld}
use Rattle.mega_wal.specs.Acceptor.{is_ballot_below}
use Rattle.mega_wal.specs.Same.{same_group, same_op}
use Rattle.mega_wal.proofs.Sames.{same_group_equal}
use Rattle.mega_run_laws.specs.of_rules.of_read.of_propose.Members.{has, is_majority, others, with_node}
use Rattle.mega_run_laws.specs.of_rules.of_read.of_propose.declared.round.Cover.{Cover}
use Rattle.mega_run_laws.specs.of_rules.of_read.of_propose.declared.round.Report.{Report}
use Rattle.mega_run_laws.specs.of_rules.of_read.of_propose.declared.round.Round.{Round}
use Rattle.mega_run_laws.specs.of_rules.of_read.of_propose.declared.round.Site.{Site}
use Rattle.mega_run_laws.specs.of_rules.of_read.of_propose.declared.round.Proposal.{Proposal}
use Rattle.mega_run_laws.specs.of_rules.of_read.of_propose.declared.round.Round.TheVariants.{Asking, Preparing, Accepting, Covering, Settled, Waiting}
use Rattle.mega_run_laws.specs.of_rules.of_read.of_propose.Rounds.{accept_to, accepted, accepts, asks, cell_numbers, completes, covers, dead_to, due, first_cover, greater_vote, greatest_vote, invalidate_to, invalidated, is_covered, is_due, is_here, is_sent, last_round, move, next_ballot, picked, prepare_to, prepares, presses, promised, proposes, refused, same_ballot, settled, stays, takes, uncovered, unheld, vote_round, with_accepted, with_cell, with_invalidated}
use Rattle.mega_run_laws.specs.Justified.{Each}
use Rattle.mega_run_laws.proofs.Events.{each_append}
use Rattle.mega_own_laws.specs.Entries.{IsOwn}
use Rattle.mega_own_laws.specs.Messages.{AllTellOwn, CarriesOwn, TellsOwn, VoteOwn}
use Rattle.mega_own_laws.specs.Rounds.{MoveOwn, ProposalOwn, ReportOwn, RoundOwn}
use Rattle.mega_own_laws.proofs.Lists.{any_flat, any_map, either}

middle : (a b c : Bool) → (a && b && c) ≡ true → b ≡ true
middle true true c is = refl
middle true false c is = is
middle false b c is = cc

-- what a round settled
settled_round : (schema : Schema) (group : GroupId) (own : Content) (seen : ℕ) (round : Round) → RoundOwn schema group round → IsOption (IsOwn schema group) (settled (record { own = own; seen = seen; round = round }))
settled_round schema group own seen (Settled entry told) h = h
settled_round schema group own seen _ h = tt

pub settled_own : (schema : Schema) (group : GroupId) (p : Proposal) → ProposalOwn schema group p → IsOption (IsOwn schema group) (settled p)
settled_own schema group p h = settled_round schema group p.own p.seen p.round h.round

module _ (schema : Schema) (s : Site) where
  -- ---- a round as it goes on

  still : (p : Proposal) (round : Round) → ProposalOwn schema s.group p → RoundOwn schema s.group round → MoveOwn schema s.group (move p round [])
  still p round h r = record { proposal = record { own = h.own; round = r }; sends = tt }

  stays_own : (p : Proposal) → ProposalOwn schema s.group p → MoveOwn schema s.group (stays p)
  stays_own p h = still p p.round h h.round

  accepts_to : (b : Ballot) (entry : Content) → IsOwn schema s.group entry → (nodes : List ℕ) → AllTellOwn schema (map (accept_to s b entry) nodes)
  accepts_to b entry h nodes = any_map (TellsOwn schema) (accept_to s b entry) (λ to. h) nodes

  prepares_own : (p : Proposal) (now : ℕ) → IsOwn schema s.group p.own → MoveOwn schema s.group (prepares s p now)
  prepares_own p now h = either (MoveOwn schema s.group) (nat_le last_round p.seen) (move p Waiting [])
      (record { proposal = record { own = p.own; seen = p.seen + 1; round = Preparing (next_ballot s p) [] now }; sends = map (prepare_to s (next_ballot s p)) s.voters })
      (record { proposal = record { own = h; round = tt }; sends = tt })
      (record { proposal = record { own = h; round = tt }; sends = any_map (TellsOwn schema) (prepare_to s (next_ballot s p)) (λ to. tt) s.voters })

  covers_own : (b : Ballot) (entry : Content) (cover : Cover) (sent : ℕ) → IsOwn schema s.group entry → RoundOwn schema s.group (covers s b entry cover sent)
  covers_own b entry cover sent h = either (RoundOwn schema s.group) (list_all (is_covered s cover) s.full) (Settled entry cover.told) (Covering b entry cover sent) h h

  accepts_own : (b : Ballot) (entry : Content) (voted : List ℕ) (sent : ℕ) → IsOwn schema s.group entry → RoundOwn schema s.group (accepts s b entry voted sent)
  accepts_own b entry voted sent h = either (RoundOwn schema s.group) (is_majority (length s.voters) (length voted)) (covers s b entry (first_cover voted) sent) (Accepting b entry voted sent)
      (covers_own b entry (first_cover voted) sent h) h

  -- ---- promises

  greater_own : (a b : Option (Ballot × Content)) → VoteOwn schema s.group a → VoteOwn schema s.group b → VoteOwn schema s.group (greater_vote a b)
  greater_own None b x y = y
  greater_own (Some vote) None x y = x
  greater_own (Some vote) (Some other) x y = either (VoteOwn schema s.group) (is_ballot_below vote.0 other.0) (Some other) (Some vote) y x

  greatest_own : (reports : List Report) → Each (ReportOwn schema s.group) reports → VoteOwn schema s.group (greatest_vote reports)
  greatest_own [] h = tt
  greatest_own (report ∷ reports) h = greater_own report.vote (greatest_vote reports) h.0 (greatest_own reports h.1)

  picked_own : (own : Content) (vote : Option (Ballot × Content)) → IsOwn schema s.group own → VoteOwn schema s.group vote → IsOwn schema s.group (picked own vote)
  picked_own own None h v = h
  picked_own own (Some vote) h v = v

  proposes_own : (p : Proposal) (b : Ballot) (reports : List Report) (sent now : ℕ) → ProposalOwn schema s.group p → Each (ReportOwn schema s.group) reports → MoveOwn schema s.group (proposes s p b reports sent now)
  proposes_own p b reports sent now h each =
      let entry = picked_own p.own (greatest_vote reports) h.own (greatest_own reports each) in
      either (MoveOwn schema s.group) (is_majority (length s.voters) (length reports)) _ _
      (record { proposal = record { own = h.own; round = entry }; sends = accepts_to b (picked p.own (greatest_vote reports)) entry s.voters })
      (still p (Preparing b reports sent) h each)

  -- ---- whatever it takes

  module _ (own : Content) (seen : ℕ) where
    abbrev at : Round → Proposal
    at round = record { own = own; seen = seen; round = round }

    accepted_own : (round : Round) (from now : ℕ) (b : Ballot) (e : Content) → ProposalOwn schema s.group (at round) → MoveOwn schema s.group (accepted s (at round) from now b e)
    accepted_own (Asking leader sent) from now b e h = either (MoveOwn schema s.group) (from == leader && is_sent zero_ballot own b e) _ _
        (record {
          proposal = record { own = h.own; round = accepts_own zero_ballot own (cond (has leader s.voters) (leader ∷ []) []) now h.own };
          sends = accepts_to zero_ballot own h.own (others leader s.voters);
        })
        (stays_own (at (Asking leader sent)) h)
    accepted_own (Accepting ballot entry voted sent) from now b e h = either (MoveOwn schema s.group) (is_sent ballot entry b e && has from s.voters) _ _
        (still (at (Accepting ballot entry voted sent)) _ h (accepts_own ballot entry (with_node from voted) sent h.round)) (stays_own (at (Accepting ballot entry voted sent)) h)
    accepted_own (Covering ballot entry cover sent) from now b e h = either (MoveOwn schema s.group) (is_sent ballot entry b e && has from s.voters) _ _
        (still (at (Covering ballot entry cover sent)) _ h (covers_own ballot entry (with_accepted cover from) sent h.round)) (stays_own (at (Covering ballot entry cover sent)) h)
    accepted_own round from now b e h = stays_own (at round) h

    refused_own : (round : Round) (now : ℕ) → ProposalOwn schema s.group (at round) → MoveOwn schema s.group (refused s (at round) now)
    refused_own (Asking leader sent) now h = prepares_own (at (Asking leader sent)) now h.own
    refused_own round now h = stays_own (at round) h

    promised_own : (round : Round) (from now : ℕ) (b : Ballot) (vote : Option (Ballot × Content)) → VoteOwn schema s.group vote → ProposalOwn schema s.group (at round) → MoveOwn schema s.group (promised s (at round) from now b vote)
    promised_own (Preparing ballot reports sent) from now b vote v h =
        either (MoveOwn schema s.group) (same_ballot ballot b && has from s.voters && not (list_any (λ (report : Report). report.voter == from) reports)) _ _
        (proposes_own (at (Preparing ballot reports sent)) ballot (reports ++ record { voter = from; vote = vote } ∷ []) sent now h (each_append (ReportOwn schema s.group) reports _ h.round (v, tt)))
        (stays_own (at (Preparing ballot reports sent)) h)
    promised_own round from now b vote v h = stays_own (at round) h

    invalidated_own : (round : Round) (from : ℕ) → ProposalOwn schema s.group (at round) → MoveOwn schema s.group (invalidated s (at round) from)
    invalidated_own (Covering ballot entry cover sent) from h = either (MoveOwn schema s.group) (has from cover.told) _ _
        (still (at (Covering ballot entry cover sent)) _ h (covers_own ballot entry (with_invalidated cover from) sent h.round)) (stays_own (at (Covering ballot entry cover sent)) h)
    invalidated_own round from h = stays_own (at round) h

    unheld_own : (round : Round) (cell node : ℕ) → ProposalOwn schema s.group (at round) → MoveOwn schema s.group (unheld s (at round) cell node)
    unheld_own (Covering ballot entry cover sent) cell node h = either (MoveOwn schema s.group) (nat_le cell s.cells && has node cover.told) _ _
        (still (at (Covering ballot entry cover sent)) _ h (covers_own ballot entry (with_cell cover (record { cell = cell; node = node })) sent h.round)) (stays_own (at (Covering ballot entry cover sent)) h)
    unheld_own round cell node h = stays_own (at round) h

    presses_own : (nodes : List ℕ) → AllTellOwn schema (presses s nodes)
    presses_own nodes = each_append (TellsOwn schema) (map (invalidate_to s) nodes) (flat_map (λ node. map (dead_to s node) (cell_numbers s)) nodes)
        (any_map (TellsOwn schema) (invalidate_to s) (λ to. tt) nodes)
        (any_flat (TellsOwn schema) (λ node. map (dead_to s node) (cell_numbers s)) (λ node. any_map (TellsOwn schema) (dead_to s node) (λ cell. tt) (cell_numbers s)) nodes)

    due_by : (round : Round) (retry now : ℕ) → ProposalOwn schema s.group (at round) → MoveOwn schema s.group (due s (at round) retry now)
    due_by (Asking leader sent) retry now h = either (MoveOwn schema s.group) (is_due sent retry now) _ _ (prepares_own (at (Asking leader sent)) now h.own) (stays_own (at (Asking leader sent)) h)
    due_by (Preparing ballot reports sent) retry now h =
        either (MoveOwn schema s.group) (is_due sent retry now) _ _ (prepares_own (at (Preparing ballot reports sent)) now h.own) (stays_own (at (Preparing ballot reports sent)) h)
    due_by (Accepting ballot entry voted sent) retry now h =
        either (MoveOwn schema s.group) (is_due sent retry now) _ _ (prepares_own (at (Accepting ballot entry voted sent)) now h.own) (stays_own (at (Accepting ballot entry voted sent)) h)
    due_by (Covering ballot entry cover sent) retry now h = either (MoveOwn schema s.group) (is_due sent retry now) _ _
        (record { proposal = record { own = h.own; round = h.round }; sends = presses_own (uncovered s cover) }) (stays_own (at (Covering ballot entry cover sent)) h)
    due_by round retry now h = stays_own (at round) h

  -- the rounds that a message shows are seen
  seen_own : (p : Proposal) (seen : ℕ) → ProposalOwn schema s.group p → ProposalOwn schema s.group (record { own = p.own; seen = seen; round = p.round })
  seen_own p seen h = record { own = h.own; round = h.round }

  vote_here : (op : OpId) (group : GroupId) (position : Position) (vote : Option (Ballot × Content)) → is_here s op group position ≡ true → VoteOwn schema group vote → VoteOwn schema s.group vote
  vote_here op group position vote here h =
      subst (λ g. VoteOwn schema g vote) (sym (same_group_equal s.group group (middle (same_op s.op op) (same_group s.group group) (position.0 == s.position) here))) h

  pub takes_own : (p : Proposal) (from now : ℕ) (body : Body) → ProposalOwn schema s.group p → CarriesOwn schema body → MoveOwn schema s.group (takes s p from now body)
  takes_own p from now (Accepted op group position b e) h carries = either (MoveOwn schema s.group) (is_here s op group position) _ _
      (accepted_own p.own (max p.seen b.round) p.round from now b e (seen_own p (max p.seen b.round) h)) (stays_own p h)
  takes_own p from now (Refused op group position asked shown e) h carries = either (MoveOwn schema s.group) (is_here s op group position) _ _
      (refused_own p.own (max p.seen (max asked.round shown.round)) p.round now (seen_own p (max p.seen (max asked.round shown.round)) h)) (stays_own p h)
  takes_own p from now (Promise op group position b vote) h carries = by (is_here s op group position) refl
    where
      seen : ℕ
      seen = max p.seen (max b.round (vote_round vote))

      by : (t : Bool) → is_here s op group position ≡ t → MoveOwn schema s.group (cond t (promised s (record { own = p.own; seen = seen; round = p.round }) from now b vote) (stays p))
      by true here = promised_own p.own seen p.round from now b vote (vote_here op group position vote here carries) (seen_own p seen h)
      by false here = stays_own p h
  takes_own p from now (Invalidated op group position) h carries = either (MoveOwn schema s.group) (is_here s op group position) _ _
      (invalidated_own p.own p.seen p.round from (seen_own p p.seen h)) (stays_own p h)
  takes_own p from now (Unheld op cell node) h carries = either (MoveOwn schema s.group) (same_op s.op op && from == cell) _ _
      (unheld_own p.own p.seen p.round cell node.0 (seen_own p p.seen h)) (stays_own p h)
  takes_own p from now (Accept op group position b e) h carries = either (MoveOwn schema s.group) (is_here s op group position) _ _
      (stays_own (record { own = p.own; seen = max p.seen b.round; round = p.round }) (seen_own p (max p.seen b.round) h)) (stays_own p h)
  takes_own p from now (Prepare op group position b) h carries = either (MoveOwn schema s.group) (is_here s op group position) _ _
      (stays_own (record { own = p.own; seen = max p.seen b.round; round = p.round }) (seen_own p (max p.seen b.round) h)) (stays_own p h)
  takes_own p from now _ h carries = stays_own p h

  -- ---- at a tick, and as it begins

  pub due_own : (p : Proposal) (retry now : ℕ) → ProposalOwn schema s.group p → MoveOwn schema s.group (due s p retry now)
  due_own p retry now h = due_by p.own p.seen p.round retry now (seen_own p p.seen h)

  pub asks_own : (leader : ℕ) (own : Content) (now : ℕ) → IsOwn schema s.group own → MoveOwn schema s.group (asks s leader own now)
  asks_own leader own now h = record { proposal = record { own = h; round = tt }; sends = (h, tt) }

  pub completes_own : (own : Content) (now : ℕ) → IsOwn schema s.group own → MoveOwn schema s.group (completes s own now)
  completes_own own now h = prepares_own (record { own = own; seen = 0; round = Waiting }) now h
