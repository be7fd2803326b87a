-- What a round sends: whatever holds of each message that it may send.
use Rattle.std.proofs.Common.{◌≡◌, ℕ, ◌&&◌, ◌==◌, max, nat_le, not, Bool, true, false, cond, List, [], ◌∷◌, ◌++◌, length, map, flat_map, Option, refl}
use Rattle.std.specs.List.{All, list_any}
use Rattle.std.proofs.lemmas.List.Elements.{All-append, All-cons, All-nil}
use Rattle.mega_ballot.specs.declared.ballot.Ballot.{Ballot}
use Rattle.mega_ballot.specs.Order.{zero_ballot}
use Rattle.mega_entry.specs.declared.content.Content.{Content}
use Rattle.mega_wire.specs.declared.message.Message.{Message}
use Rattle.mega_wire.specs.declared.message.Body.{Body}
use Rattle.mega_wire.specs.declared.message.Body.TheVariants.{Accept, Accepted, Refused, Prepare, Promise, Invalidated, Unheld}
use Rattle.mega_wal.specs.Same.{same_op}
use Rattle.mega_voter.specs.of_read.of_propose.Members.{has, is_majority, others}
use Rattle.mega_voter.specs.of_read.of_propose.declared.round.Site.{Site}
use Rattle.mega_voter.specs.of_read.of_propose.declared.round.Report.{Report}
use Rattle.mega_voter.specs.of_read.of_propose.declared.round.Cover.{Cover}
use Rattle.mega_voter.specs.of_read.of_propose.declared.round.Round.{Round}
use Rattle.mega_voter.specs.of_read.of_propose.declared.round.Round.TheVariants.{Asking, Preparing, Accepting, Covering, Settled, Waiting}
use Rattle.mega_voter.specs.of_read.of_propose.declared.round.Proposal.{Proposal}
use Rattle.mega_voter.specs.of_read.of_propose.declared.round.Move.{Move}
use Rattle.mega_voter.specs.of_read.of_propose.Rounds.{accept_to, accepted, asks, cell_numbers, completes, dead_to, due, greatest_vote, invalidate_to, invalidated, is_due, is_here, is_sent, last_round, next_ballot, picked, prepare_to, prepares, presses, promised, proposes, refused, same_ballot, takes, uncovered, unheld, vote_round}

-- what a round may send: a message of each kind to each node
pub record MayPropose (A : Message → Type 0) (s : Site) : Type 0 where
  pub accepts : (ballot : Ballot) (entry : Content) (to : ℕ) → A (accept_to s ballot entry to)
  pub prepares : (ballot : Ballot) (to : ℕ) → A (prepare_to s ballot to)

-- and what a round that covers may send, to those who did not vote
pub record MayPress (A : Message → Type 0) (s : Site) : Type 0 where
  pub invalidates : (to : ℕ) → A (invalidate_to s to)
  pub buries : (node cell : ℕ) → A (dead_to s node cell)

abbrev pub Presses : (Message → Type 0) → Site → Round → Type 0
Presses A s round = (ballot : Ballot) (entry : Content) (cover : Cover) (sent : ℕ) → round ≡ Covering ballot entry cover sent → MayPress A s

module _ (A : Message → Type 0) where
  pub none : All A []
  none = All-nil A

  -- one message to each of these nodes
  pub to_each : (f : ℕ → Message) → ((n : ℕ) → A (f n)) → (ns : List ℕ) → All A (map f ns)
  to_each f each [] = All-nil A
  to_each f each (n ∷ ns) = All-cons A (f n) (map f ns) (each n) (to_each f each ns)

  pub of_each : {X : Type 0} (f : X → List Message) → ((x : X) → All A (f x)) → (xs : List X) → All A (flat_map f xs)
  of_each f each [] = All-nil A
  of_each f each (x ∷ xs) = All-append A (f x) (flat_map f xs) (each x) (of_each f each xs)

  either : (t : Bool) (one other : Move) → All A one.sends → All A other.sends → All A (cond t one other).sends
  either true one other h k = h
  either false one other h k = k

  module _ (s : Site) (may : MayPropose A s) where
    pub asks_hold : (leader : ℕ) (own : Content) (now : ℕ) → All A (asks s leader own now).sends
    asks_hold leader own now = All-cons A (accept_to s zero_ballot own leader) [] (may.accepts zero_ballot own leader) none

    pub prepares_hold : (p : Proposal) (now : ℕ) → All A (prepares s p now).sends
    prepares_hold p now = either (nat_le last_round p.seen) _ _ none (to_each (prepare_to s (next_ballot s p)) (may.prepares (next_ballot s p)) s.voters)

    pub completes_hold : (own : Content) (now : ℕ) → All A (completes s own now).sends
    completes_hold own now = prepares_hold (record { own = own; seen = 0; round = Waiting }) now

    proposes_hold : (p : Proposal) (ballot : Ballot) (reports : List Report) (sent now : ℕ) → All A (proposes s p ballot reports sent now).sends
    proposes_hold p ballot reports sent now =
        either (is_majority (length s.voters) (length reports)) _ _ (to_each (accept_to s ballot (picked p.own (greatest_vote reports))) (may.accepts ballot (picked p.own (greatest_vote reports))) s.voters) none

    presses_hold : MayPress A s → (nodes : List ℕ) → All A (presses s nodes)
    presses_hold press nodes =
        All-append A (map (invalidate_to s) nodes) (flat_map (λ node. map (dead_to s node) (cell_numbers s)) nodes)
        (to_each (invalidate_to s) press.invalidates nodes)
        (of_each (λ node. map (dead_to s node) (cell_numbers s)) (λ node. to_each (dead_to s node) (press.buries node) (cell_numbers s)) nodes)

    -- what an answer leads to
    module _ (own : Content) (seen : ℕ) where
      abbrev at : Round → Proposal
      at round = record { own = own; seen = seen; round = round }

      accepted_hold : (round : Round) (from now : ℕ) (b : Ballot) (e : Content) → All A (accepted s (at round) from now b e).sends
      accepted_hold (Asking leader sent) from now b e = either (from == leader && is_sent zero_ballot own b e) _ _ (to_each (accept_to s zero_ballot own) (may.accepts zero_ballot own) (others leader s.voters)) none
      accepted_hold (Accepting ballot entry voted sent) from now b e = either (is_sent ballot entry b e && has from s.voters) _ _ none none
      accepted_hold (Covering ballot entry cover sent) from now b e = either (is_sent ballot entry b e && has from s.voters) _ _ none none
      accepted_hold (Preparing ballot reports sent) from now b e = none
      accepted_hold (Settled entry told) from now b e = none
      accepted_hold Waiting from now b e = none

      refused_hold : (round : Round) (now : ℕ) → All A (refused s (at round) now).sends
      refused_hold (Asking leader sent) now = prepares_hold (at (Asking leader sent)) now
      refused_hold (Preparing ballot reports sent) now = none
      refused_hold (Accepting ballot entry voted sent) now = none
      refused_hold (Covering ballot entry cover sent) now = none
      refused_hold (Settled entry told) now = none
      refused_hold Waiting now = none

      promised_hold : (round : Round) (from now : ℕ) (b : Ballot) (vote : Option (Ballot × Content)) → All A (promised s (at round) from now b vote).sends
      promised_hold (Preparing ballot reports sent) from now b vote =
          either (same_ballot ballot b && has from s.voters && not (list_any (λ (report : Report). report.voter == from) reports)) _ _
          (proposes_hold (at (Preparing ballot reports sent)) ballot (reports ++ record { voter = from; vote = vote } ∷ []) sent now) none
      promised_hold (Asking leader sent) from now b vote = none
      promised_hold (Accepting ballot entry voted sent) from now b vote = none
      promised_hold (Covering ballot entry cover sent) from now b vote = none
      promised_hold (Settled entry told) from now b vote = none
      promised_hold Waiting from now b vote = none

      invalidated_hold : (round : Round) (from : ℕ) → All A (invalidated s (at round) from).sends
      invalidated_hold (Covering ballot entry cover sent) from = either (has from cover.told) _ _ none none
      invalidated_hold (Asking leader sent) from = none
      invalidated_hold (Preparing ballot reports sent) from = none
      invalidated_hold (Accepting ballot entry voted sent) from = none
      invalidated_hold (Settled entry told) from = none
      invalidated_hold Waiting from = none

      unheld_hold : (round : Round) (cell node : ℕ) → All A (unheld s (at round) cell node).sends
      unheld_hold (Covering ballot entry cover sent) cell node = either (nat_le cell s.cells && has node cover.told) _ _ none none
      unheld_hold (Asking leader sent) cell node = none
      unheld_hold (Preparing ballot reports sent) cell node = none
      unheld_hold (Accepting ballot entry voted sent) cell node = none
      unheld_hold (Settled entry told) cell node = none
      unheld_hold Waiting cell node = none

      due_by : (round : Round) → Presses A s round → (retry now : ℕ) → All A (due s (at round) retry now).sends
      due_by (Asking leader sent) press retry now = either (is_due sent retry now) _ _ (prepares_hold (at (Asking leader sent)) now) none
      due_by (Preparing ballot reports sent) press retry now = either (is_due sent retry now) _ _ (prepares_hold (at (Preparing ballot reports sent)) now) none
      due_by (Accepting ballot entry voted sent) press retry now = either (is_due sent retry now) _ _ (prepares_hold (at (Accepting ballot entry voted sent)) now) none
      due_by (Covering ballot entry cover sent) press retry now = either (is_due sent retry now) _ _ (presses_hold (press ballot entry cover sent refl) (uncovered s cover)) none
      due_by (Settled entry told) press retry now = none
      due_by Waiting press retry now = none

    pub due_hold : (p : Proposal) → Presses A s p.round → (retry now : ℕ) → All A (due s p retry now).sends
    due_hold p press retry now = due_by p.own p.seen p.round press retry now

    -- what a message of any kind leads to
    pub takes_hold : (p : Proposal) (from now : ℕ) (body : Body) → All A (takes s p from now body).sends
    takes_hold p from now (Accepted op group position b e) = either (is_here s op group position) _ _ (accepted_hold p.own (max p.seen b.round) p.round from now b e) none
    takes_hold p from now (Refused op group position asked shown e) = either (is_here s op group position) _ _ (refused_hold p.own (max p.seen (max asked.round shown.round)) p.round now) none
    takes_hold p from now (Promise op group position b vote) = either (is_here s op group position) _ _ (promised_hold p.own (max p.seen (max b.round (vote_round vote))) p.round from now b vote) none
    takes_hold p from now (Invalidated op group position) = either (is_here s op group position) _ _ (invalidated_hold p.own p.seen p.round from) none
    takes_hold p from now (Unheld op cell node) = either (same_op s.op op && from == cell) _ _ (unheld_hold p.own p.seen p.round cell node.0) none
    takes_hold p from now (Accept op group position b e) = either (is_here s op group position) _ _ none none
    takes_hold p from now (Prepare op group position b) = either (is_here s op group position) _ _ none none
    takes_hold p from now _ = none
