-- What a current read sends: whatever holds of each message that it may send.
use Rattle.std.proofs.Common.{◌≡◌, ℕ, ◌+◌, ◌&&◌, ◌||◌, ◌==◌, not, Bool, true, false, cond, List, [], ◌∷◌, length, map, Option, Some, None, refl}
use Rattle.std.specs.List.{All, list_all}
use Rattle.mega_base.specs.declared.names.Epoch.{Epoch}
use Rattle.mega_wire.specs.declared.message.Message.{Message}
use Rattle.mega_wire.specs.declared.message.Body.{Body}
use Rattle.mega_wire.specs.declared.message.Body.TheVariants.{Top, HaveNot}
use Rattle.mega_wal.specs.Same.{same_group, same_op}
use Rattle.mega_voter.specs.of_read.of_propose.Members.{has, is_majority, with_node, without}
use Rattle.mega_voter.specs.of_read.of_propose.declared.round.Proposal.{Proposal}
use Rattle.mega_voter.specs.of_read.of_propose.Rounds.{due, is_due}
use Rattle.mega_voter.specs.of_read.declared.reading.Reader.{Reader}
use Rattle.mega_voter.specs.of_read.declared.reading.Search.TheVariants.{Fetching, Filling}
use Rattle.mega_voter.specs.of_read.declared.reading.Stage.{Stage}
use Rattle.mega_voter.specs.of_read.declared.reading.Stage.TheVariants.{Polling, Catching}
use Rattle.mega_voter.specs.of_read.declared.reading.Reading.{Reading}
use Rattle.mega_voter.specs.of_read.declared.reading.Move.{Move}
use Rattle.mega_voter.specs.of_read.Catching.{asked_by, denied, falls_due, fetch_to, fetches, fills, hears, helpers, is_position, local_read, move, no_op, polled_read, searched, seeks, site, topped, where_to}
use Rattle.mega_node_laws.proofs.Rounds.{MayPropose, completes_hold, none as none_of, takes_hold, to_each}

-- what a read may send: a message of each kind to each node, and what a round may that fills a position
pub record MayRead (A : Message → Type 0) (who : Reader) : Type 0 where
  pub inquires : (to : ℕ) → A (where_to who to)
  pub fetches : (position to : ℕ) → A (fetch_to who position to)
  pub proposes : (asked : List ℕ) (position : ℕ) → MayPropose A (site who asked position)

-- what the round that it waits for sends as it is due
abbrev pub Fills : (Message → Type 0) → Reader → List ℕ → Stage → ℕ → ℕ → Type 0
Fills A who asked stage retry now = (through position : ℕ) (p : Proposal) → stage ≡ Catching through (Some (Filling position p)) → All A (due (site who asked position) p retry now).sends

-- what is done about a position by the voters that can be asked
abbrev fetched_by : Reader → Reading → ℕ → ℕ → ℕ → List ℕ → Move
fetched_by who r through position now [] = fills who r through position now
fetched_by who r through position now (voter ∷ voters) = move r (Catching through (Some (Fetching position [] now))) (map (fetch_to who position) (voter ∷ voters))

module _ (A : Message → Type 0) where
  none : All A []
  none = none_of A

  either : (t : Bool) (one other : Move) → All A one.sends → All A other.sends → All A (cond t one other).sends
  either true one other h k = h
  either false one other h k = k

  pub local_hold : (asked : List ℕ) (top : ℕ) → All A (local_read asked top).sends
  local_hold asked top = none

  module _ (who : Reader) (may : MayRead A who) where
    pub polled_hold : (noted : Option Epoch) (asked : List ℕ) (now : ℕ) → All A (polled_read who noted asked now).sends
    polled_hold noted asked now = to_each A (where_to who) may.inquires who.voters

    topped_hold : (r : Reading) (from top : ℕ) (heard : List ℕ) (best sent : ℕ) → All A (topped who r from top heard best sent).sends
    topped_hold r from top heard best sent =
        either (has from heard || not (has from who.voters)) _ _ none (either (is_majority (length who.voters) (length heard + 1)) _ _ none none)

    fills_hold : (r : Reading) (through position now : ℕ) → All A (fills who r through position now).sends
    fills_hold r through position now = completes_hold A (site who r.asked position) (may.proposes r.asked position) (no_op who) now

    fetched_hold : (r : Reading) (through position now : ℕ) (voters : List ℕ) → All A (fetched_by who r through position now voters).sends
    fetched_hold r through position now [] = fills_hold r through position now
    fetched_hold r through position now (voter ∷ voters) = to_each A (fetch_to who position) (may.fetches position) (voter ∷ voters)

    fetches_hold : (r : Reading) (through position now : ℕ) → All A (fetches who r through position now).sends
    fetches_hold r through position now = fetched_hold r through position now (helpers who)

    denied_hold : (r : Reading) (from through position : ℕ) (denials : List ℕ) (sent now : ℕ) → All A (denied who r from through position denials sent now).sends
    denied_hold r from through position denials sent now =
        either (list_all (λ voter. has voter (with_node from denials)) (helpers who)) _ _ (fills_hold r through position now) none

    module _ (noted : Option Epoch) (asked : List ℕ) where
      abbrev at : Stage → Reading
      at stage = record { noted = noted; asked = asked; stage = stage }

      heard_hold : (stage : Stage) (from now : ℕ) (body : Body) → All A (hears who (at stage) from now body).sends
      heard_hold (Polling heard best sent) from now (Top op group top) =
          either (same_op who.op op && same_group who.group group) _ _ (topped_hold (at (Polling heard best sent)) from top.0 heard best sent) none
      heard_hold (Polling heard best sent) from now _ = none
      heard_hold (Catching through None) from now body = none
      heard_hold (Catching through (Some (Fetching position denials sent))) from now (HaveNot op group n) =
          either (same_op who.op op && same_group who.group group && n.0 == position && has from (helpers who)) _ _
          (denied_hold (at (Catching through (Some (Fetching position denials sent)))) from through position denials sent now) none
      heard_hold (Catching through (Some (Fetching position denials sent))) from now _ = none
      heard_hold (Catching through (Some (Filling position proposal))) from now body = takes_hold A (site who asked position) (may.proposes asked position) proposal from now body

      due_by : (stage : Stage) (retry now : ℕ) → Fills A who asked stage retry now → All A (falls_due who (at stage) retry now).sends
      due_by (Polling heard best sent) retry now fill = either (is_due sent retry now) _ _ (to_each A (where_to who) may.inquires (without heard who.voters)) none
      due_by (Catching through None) retry now fill = none
      due_by (Catching through (Some (Fetching position denials sent))) retry now fill =
          either (is_due sent retry now) _ _ (fills_hold (at (Catching through (Some (Fetching position denials sent)))) through position now) none
      due_by (Catching through (Some (Filling position proposal))) retry now fill = fill through position proposal refl

      sought_hold : (stage : Stage) (least now : ℕ) → All A (seeks who (at stage) least now).sends
      sought_hold (Polling heard best sent) least now = none
      sought_hold (Catching through search) least now =
          either (is_position least (searched search)) _ _ none
          (fetches_hold (record { noted = noted; asked = asked_by (at (Catching through search)); stage = Catching through search }) through least now)

    pub hears_hold : (r : Reading) (from now : ℕ) (body : Body) → All A (hears who r from now body).sends
    hears_hold r from now body = heard_hold r.noted r.asked r.stage from now body

    pub falls_due_hold : (r : Reading) (retry now : ℕ) → Fills A who r.asked r.stage retry now → All A (falls_due who r retry now).sends
    falls_due_hold r retry now fill = due_by r.noted r.asked r.stage retry now fill

    pub seeks_hold : (r : Reading) (least now : ℕ) → All A (seeks who r least now).sends
    seeks_hold r least now = sought_hold r.noted r.asked r.stage least now
