-- What an operation proposes at ballot zero: a round its own entry at its place, and a read nothing with the id of its operation.
use Rattle.std.proofs.Common.{◌≡◌, ◌<◌, ℕ, arith, sym, ap, ◌∙◌, ◌+◌, ◌&&◌, ◌||◌, ◌==◌, max, nat_le, not, Bool, true, false, cond, List, [], ◌∷◌, ◌++◌, length, map, flat_map, Option, Some, None, refl}
use Rattle.std.specs.List.{list_all, list_any}
use Rattle.mega_base.specs.declared.names.Epoch.{Epoch}
use Rattle.mega_base.specs.declared.names.OpId.{OpId}
use Rattle.mega_ballot.specs.declared.ballot.Ballot.{Ballot}
use Rattle.mega_ballot.specs.Order.{zero_ballot}
use Rattle.mega_entry.specs.declared.content.Content.{Content}
use Rattle.mega_wire.specs.declared.message.Message.{Message}
use Rattle.mega_wire.specs.declared.message.Body.{Body}
use Rattle.mega_wire.specs.declared.message.Body.TheVariants.{Accept, Accepted, HaveNot, Refused, Prepare, Promise, Invalidated, Top, Unheld}
use Rattle.mega_wal.specs.Same.{same_group, same_op}
use Rattle.mega_leased_laws.specs.of_settled_laws.of_run_laws.of_tape_laws.of_promises.of_rules.of_read.of_propose.Members.{has, is_majority, others, with_node, without}
use Rattle.mega_leased_laws.specs.of_settled_laws.of_run_laws.of_tape_laws.of_promises.of_rules.of_read.of_propose.declared.round.Site.{Site}
use Rattle.mega_leased_laws.specs.of_settled_laws.of_run_laws.of_tape_laws.of_promises.of_rules.of_read.of_propose.declared.round.Report.{Report}
use Rattle.mega_leased_laws.specs.of_settled_laws.of_run_laws.of_tape_laws.of_promises.of_rules.of_read.of_propose.declared.round.Round.{Round}
use Rattle.mega_leased_laws.specs.of_settled_laws.of_run_laws.of_tape_laws.of_promises.of_rules.of_read.of_propose.declared.round.Round.TheVariants.{Asking, Preparing, Accepting, Covering, Settled, Waiting}
use Rattle.mega_leased_laws.specs.of_settled_laws.of_run_laws.of_tape_laws.of_promises.of_rules.of_read.of_propose.declared.round.Proposal.{Proposal}
use Rattle.mega_leased_laws.specs.of_settled_laws.of_run_laws.of_tape_laws.of_promises.of_rules.of_read.of_propose.declared.round.Move.{Move as RoundMove}
use Rattle.mega_leased_laws.specs.of_settled_laws.of_run_laws.of_tape_laws.of_promises.of_rules.of_read.of_propose.Rounds.{accept_to, accepted, cell_numbers, completes, dead_to, due, greatest_vote, invalidate_to, invalidated, is_due, is_here, is_sent, last_round, next_ballot, picked, prepare_to, prepares, presses, promised, proposes, refused, same_ballot, takes, uncovered, unheld, vote_round}
use Rattle.mega_leased_laws.specs.of_settled_laws.of_run_laws.of_tape_laws.of_promises.of_rules.of_read.declared.reading.Reader.{Reader}
use Rattle.mega_leased_laws.specs.of_settled_laws.of_run_laws.of_tape_laws.of_promises.of_rules.of_read.declared.reading.Search.{Search}
use Rattle.mega_leased_laws.specs.of_settled_laws.of_run_laws.of_tape_laws.of_promises.of_rules.of_read.declared.reading.Search.TheVariants.{Fetching, Filling}
use Rattle.mega_leased_laws.specs.of_settled_laws.of_run_laws.of_tape_laws.of_promises.of_rules.of_read.declared.reading.Stage.{Stage}
use Rattle.mega_leased_laws.specs.of_settled_laws.of_run_laws.of_tape_laws.of_promises.of_rules.of_read.declared.reading.Stage.TheVariants.{Polling, Catching}
use Rattle.mega_leased_laws.specs.of_settled_laws.of_run_laws.of_tape_laws.of_promises.of_rules.of_read.declared.reading.Reading.{Reading}
use Rattle.mega_leased_laws.specs.of_settled_laws.of_run_laws.of_tape_laws.of_promises.of_rules.of_read.declared.reading.Move.{Move as ReadMove}
use Rattle.mega_leased_laws.specs.of_settled_laws.of_run_laws.of_tape_laws.of_promises.of_rules.of_read.Catching.{asked_by, denied, falls_due, fetch_to, fetches, fills, hears, helpers, is_position, move, no_op, polled_read, searched, seeks, site, topped, where_to}
use Rattle.mega_leased_laws.specs.of_settled_laws.of_run_laws.Justified.{Each}
use Rattle.mega_leased_laws.proofs.of_settled_laws.of_run_laws.Events.{each_append as each_both}

-- a message proposes at ballot zero only this entry, at this site
abbrev pub ZeroBody : Site → Content → Body → Type 0
ZeroBody s own (Accept op group n b e) = b ≡ zero_ballot → ((op ≡ s.op) × (group ≡ s.group)) × ((n.0 ≡ s.position) × (e ≡ own))
ZeroBody s own _ = Unit {0}

abbrev pub Zero : Site → Content → Message → Type 0
Zero s own m = ZeroBody s own m.body

-- no entry with the id of its operation
abbrev pub NeverBody : Body → Type 0
NeverBody (Accept op group n b e) = b ≡ zero_ballot → e.id ≡ Some op → ⊥
NeverBody _ = Unit {0}

abbrev pub Never : Message → Type 0
Never m = NeverBody m.body

-- a ballot that is prepared is above zero
abbrev pub IsAbove : Round → Type 0
IsAbove (Preparing ballot reports sent) = 0 < ballot.round
IsAbove _ = Unit {0}

abbrev pub SearchAbove : OpId → Option Search → Type 0
SearchAbove op (Some (Filling position proposal)) = IsAbove proposal.round × ((proposal.own).id ≡ Some op → ⊥)
SearchAbove op _ = Unit {0}

abbrev pub StageAbove : OpId → Stage → Type 0
StageAbove op (Polling heard best sent) = Unit {0}
StageAbove op (Catching through search) = SearchAbove op search

to_each : (P : Message → Type 0) (f : ℕ → Message) → ((n : ℕ) → P (f n)) → (ns : List ℕ) → Each P (map f ns)
to_each P f h [] = tt
to_each P f h (n ∷ ns) = (h n, to_each P f h ns)

of_each : (P : Message → Type 0) {X : Type 0} (f : X → List Message) → ((x : X) → Each P (f x)) → (xs : List X) → Each P (flat_map f xs)
of_each P f h [] = tt
of_each P f h (x ∷ xs) = each_both P (f x) (flat_map f xs) (h x) (of_each P f h xs)

-- what is done about a position by the voters that can be asked
abbrev fetched_by : Reader → Reading → ℕ → ℕ → ℕ → List ℕ → ReadMove
fetched_by who r through position now [] = fills who r through position now
fetched_by who r through position now (voter ∷ voters) = move r (Catching through (Some (Fetching position [] now))) (map (fetch_to who position) (voter ∷ voters))

never_zero : (b : Ballot) → 0 < b.round → b ≡ zero_ballot → ⊥
never_zero b above is = over b.round above (ap (λ (x : Ballot). x.round) is)
  where
    over : (n : ℕ) → 0 < n → n ≡ 0 → ⊥
    over n less same = omega (arith, less, same)

-- ---- rounds

module _ (s : Site) (own : Content) where
  abbrev Ends : Message → Type 0
  Ends m = Zero s own m

  either : (t : Bool) (one other : RoundMove) → Each Ends one.sends → Each Ends other.sends → Each Ends (cond t one other).sends
  either true one other h k = h
  either false one other h k = k

  prepares_ends : (p : Proposal) (now : ℕ) → Each Ends (prepares s p now).sends
  prepares_ends p now = either (nat_le last_round p.seen) _ _ tt (to_each Ends (prepare_to s (next_ballot s p)) (λ n. tt) s.voters)

  pub completes_zero : (now : ℕ) → Each Ends (completes s own now).sends
  completes_zero now = prepares_ends (record { own = own; seen = 0; round = Waiting }) now

  proposes_ends : (p : Proposal) (ballot : Ballot) (reports : List Report) (sent now : ℕ) → 0 < ballot.round → Each Ends (proposes s p ballot reports sent now).sends
  proposes_ends p ballot reports sent now above =
      either (is_majority (length s.voters) (length reports)) _ _ (to_each Ends (accept_to s ballot (picked p.own (greatest_vote reports))) (λ n is. absurd (never_zero ballot above is)) s.voters) tt

  presses_ends : (nodes : List ℕ) → Each Ends (presses s nodes)
  presses_ends nodes =
      each_both Ends (map (invalidate_to s) nodes) (flat_map (λ node. map (dead_to s node) (cell_numbers s)) nodes)
      (to_each Ends (invalidate_to s) (λ n. tt) nodes)
      (of_each Ends (λ node. map (dead_to s node) (cell_numbers s)) (λ node. to_each Ends (dead_to s node) (λ n. tt) (cell_numbers s)) nodes)

  -- what an answer leads to
  module _ (seen : ℕ) where
    abbrev at : Round → Proposal
    at round = record { own = own; seen = seen; round = round }

    accepted_ends : (round : Round) (from now : ℕ) (b : Ballot) (e : Content) → Each Ends (accepted s (at round) from now b e).sends
    accepted_ends (Asking leader sent) from now b e = either (from == leader && is_sent zero_ballot own b e) _ _ (to_each Ends (accept_to s zero_ballot own) (λ n is. ((refl, refl), (refl, refl))) (others leader s.voters)) tt
    accepted_ends (Accepting ballot entry voted sent) from now b e = either (is_sent ballot entry b e && has from s.voters) _ _ tt tt
    accepted_ends (Covering ballot entry cover sent) from now b e = either (is_sent ballot entry b e && has from s.voters) _ _ tt tt
    accepted_ends (Preparing ballot reports sent) from now b e = tt
    accepted_ends (Settled entry told) from now b e = tt
    accepted_ends Waiting from now b e = tt

    refused_ends : (round : Round) (now : ℕ) → Each Ends (refused s (at round) now).sends
    refused_ends (Asking leader sent) now = prepares_ends (at (Asking leader sent)) now
    refused_ends (Preparing ballot reports sent) now = tt
    refused_ends (Accepting ballot entry voted sent) now = tt
    refused_ends (Covering ballot entry cover sent) now = tt
    refused_ends (Settled entry told) now = tt
    refused_ends Waiting now = tt

    promised_ends : (round : Round) (from now : ℕ) (b : Ballot) (vote : Option (Ballot × Content)) → IsAbove round → Each Ends (promised s (at round) from now b vote).sends
    promised_ends (Preparing ballot reports sent) from now b vote above =
        either (same_ballot ballot b && has from s.voters && not (list_any (λ (report : Report). report.voter == from) reports)) _ _
        (proposes_ends (at (Preparing ballot reports sent)) ballot (reports ++ record { voter = from; vote = vote } ∷ []) sent now above) tt
    promised_ends (Asking leader sent) from now b vote above = tt
    promised_ends (Accepting ballot entry voted sent) from now b vote above = tt
    promised_ends (Covering ballot entry cover sent) from now b vote above = tt
    promised_ends (Settled entry told) from now b vote above = tt
    promised_ends Waiting from now b vote above = tt

    invalidated_ends : (round : Round) (from : ℕ) → Each Ends (invalidated s (at round) from).sends
    invalidated_ends (Covering ballot entry cover sent) from = either (has from cover.told) _ _ tt tt
    invalidated_ends (Asking leader sent) from = tt
    invalidated_ends (Preparing ballot reports sent) from = tt
    invalidated_ends (Accepting ballot entry voted sent) from = tt
    invalidated_ends (Settled entry told) from = tt
    invalidated_ends Waiting from = tt

    unheld_ends : (round : Round) (cell node : ℕ) → Each Ends (unheld s (at round) cell node).sends
    unheld_ends (Covering ballot entry cover sent) cell node = either (nat_le cell s.cells && has node cover.told) _ _ tt tt
    unheld_ends (Asking leader sent) cell node = tt
    unheld_ends (Preparing ballot reports sent) cell node = tt
    unheld_ends (Accepting ballot entry voted sent) cell node = tt
    unheld_ends (Settled entry told) cell node = tt
    unheld_ends Waiting cell node = tt

  pub due_zero : (p : Proposal) (retry now : ℕ) → Each Ends (due s p retry now).sends
  due_zero p retry now = by p.own p.seen p.round
    where
      by : (mine : Content) (seen : ℕ) (round : Round) → Each Ends (due s (record { own = mine; seen = seen; round = round }) retry now).sends
      by mine seen (Asking leader sent) = either (is_due sent retry now) _ _ (prepares_ends (record { own = mine; seen = seen; round = Asking leader sent }) now) tt
      by mine seen (Preparing ballot reports sent) = either (is_due sent retry now) _ _ (prepares_ends (record { own = mine; seen = seen; round = Preparing ballot reports sent }) now) tt
      by mine seen (Accepting ballot entry voted sent) = either (is_due sent retry now) _ _ (prepares_ends (record { own = mine; seen = seen; round = Accepting ballot entry voted sent }) now) tt
      by mine seen (Covering ballot entry cover sent) = either (is_due sent retry now) _ _ (presses_ends (uncovered s cover)) tt
      by mine seen (Settled entry told) = tt
      by mine seen Waiting = tt

-- what a message of any kind leads to
module _ (s : Site) where
  takes_by : (own : Content) (seen : ℕ) (round : Round) (from now : ℕ) (body : Body) → IsAbove round → Each (Zero s own) (takes s (record { own = own; seen = seen; round = round }) from now body).sends
  takes_by own seen round from now (Accepted op group position b e) above = either s own (is_here s op group position) _ _ (accepted_ends s own (max seen b.round) round from now b e) tt
  takes_by own seen round from now (Refused op group position asked shown e) above = either s own (is_here s op group position) _ _ (refused_ends s own (max seen (max asked.round shown.round)) round now) tt
  takes_by own seen round from now (Promise op group position b vote) above = either s own (is_here s op group position) _ _ (promised_ends s own (max seen (max b.round (vote_round vote))) round from now b vote above) tt
  takes_by own seen round from now (Invalidated op group position) above = either s own (is_here s op group position) _ _ (invalidated_ends s own seen round from) tt
  takes_by own seen round from now (Unheld op cell node) above = either s own (same_op s.op op && from == cell) _ _ (unheld_ends s own seen round cell node.0) tt
  takes_by own seen round from now (Accept op group position b e) above = either s own (is_here s op group position) _ _ tt tt
  takes_by own seen round from now (Prepare op group position b) above = either s own (is_here s op group position) _ _ tt tt
  takes_by own seen round from now _ above = tt

  pub takes_zero : (p : Proposal) (from now : ℕ) (body : Body) → IsAbove p.round → Each (Zero s p.own) (takes s p from now body).sends
  takes_zero p from now body above = takes_by p.own p.seen p.round from now body above

-- another entry than one with its id
pub never_of : (s : Site) (own : Content) → (own.id ≡ Some s.op → ⊥) → (ms : List Message) → Each (Zero s own) ms → Each Never ms
never_of s own none [] h = tt
never_of s own none (m ∷ ms) h = (by m.body h.0, never_of s own none ms h.1)
  where
    by : (body : Body) → ZeroBody s own body → NeverBody body
    by (Accept o group n b e) own_only = λ is id. let at = own_only is in none (ap (λ (x : Content). x.id) (sym (at.1).1) ∙ id ∙ ap Some (at.0).0)
    by _ own_only = tt

-- ---- reads

module _ (who : Reader) where
  abbrev ReadEnds : Message → Type 0
  ReadEnds m = Never m

  no_op_other : (no_op who).id ≡ Some who.op → ⊥
  no_op_other is = cc

  read_either : (t : Bool) (one other : ReadMove) → Each ReadEnds one.sends → Each ReadEnds other.sends → Each ReadEnds (cond t one other).sends
  read_either true one other h k = h
  read_either false one other h k = k

  pub polled_never : (noted : Option Epoch) (asked : List ℕ) (now : ℕ) → Each ReadEnds (polled_read who noted asked now).sends
  polled_never noted asked now = to_each ReadEnds (where_to who) (λ n. tt) who.voters

  topped_ends : (r : Reading) (from top : ℕ) (heard : List ℕ) (best sent : ℕ) → Each ReadEnds (topped who r from top heard best sent).sends
  topped_ends r from top heard best sent =
      read_either (has from heard || not (has from who.voters)) _ _ tt (read_either (is_majority (length who.voters) (length heard + 1)) _ _ tt tt)

  fills_ends : (r : Reading) (through position now : ℕ) → Each ReadEnds (fills who r through position now).sends
  fills_ends r through position now = never_of (site who r.asked position) (no_op who) no_op_other _ (completes_zero (site who r.asked position) (no_op who) now)

  fetched_ends : (r : Reading) (through position now : ℕ) (voters : List ℕ) → Each ReadEnds (fetched_by who r through position now voters).sends
  fetched_ends r through position now [] = fills_ends r through position now
  fetched_ends r through position now (voter ∷ voters) = to_each ReadEnds (fetch_to who position) (λ n. tt) (voter ∷ voters)

  fetches_ends : (r : Reading) (through position now : ℕ) → Each ReadEnds (fetches who r through position now).sends
  fetches_ends r through position now = fetched_ends r through position now (helpers who)

  denied_ends : (r : Reading) (from through position : ℕ) (denials : List ℕ) (sent now : ℕ) → Each ReadEnds (denied who r from through position denials sent now).sends
  denied_ends r from through position denials sent now =
      read_either (list_all (λ voter. has voter (with_node from denials)) (helpers who)) _ _ (fills_ends r through position now) tt

  module _ (noted : Option Epoch) (asked : List ℕ) where
    abbrev at_stage : Stage → Reading
    at_stage stage = record { noted = noted; asked = asked; stage = stage }

    heard_ends : (stage : Stage) (from now : ℕ) (body : Body) → StageAbove who.op stage → Each ReadEnds (hears who (at_stage stage) from now body).sends
    heard_ends (Polling heard best sent) from now (Top op group top) above =
        read_either (same_op who.op op && same_group who.group group) _ _ (topped_ends (at_stage (Polling heard best sent)) from top.0 heard best sent) tt
    heard_ends (Polling heard best sent) from now _ above = tt
    heard_ends (Catching through None) from now body above = tt
    heard_ends (Catching through (Some (Fetching position denials sent))) from now (HaveNot op group n) above =
        read_either (same_op who.op op && same_group who.group group && n.0 == position && has from (helpers who)) _ _
        (denied_ends (at_stage (Catching through (Some (Fetching position denials sent)))) from through position denials sent now) tt
    heard_ends (Catching through (Some (Fetching position denials sent))) from now _ above = tt
    heard_ends (Catching through (Some (Filling position proposal))) from now body above = never_of (site who asked position) proposal.own above.1 _ (takes_zero (site who asked position) proposal from now body above.0)

    read_due_ends : (stage : Stage) (retry now : ℕ) → StageAbove who.op stage → Each ReadEnds (falls_due who (at_stage stage) retry now).sends
    read_due_ends (Polling heard best sent) retry now above = read_either (is_due sent retry now) _ _ (to_each ReadEnds (where_to who) (λ n. tt) (without heard who.voters)) tt
    read_due_ends (Catching through None) retry now above = tt
    read_due_ends (Catching through (Some (Fetching position denials sent))) retry now above =
        read_either (is_due sent retry now) _ _ (fills_ends (at_stage (Catching through (Some (Fetching position denials sent)))) through position now) tt
    read_due_ends (Catching through (Some (Filling position proposal))) retry now above = never_of (site who asked position) proposal.own above.1 _ (due_zero (site who asked position) proposal.own proposal retry now)

    sought_ends : (stage : Stage) (least now : ℕ) → Each ReadEnds (seeks who (at_stage stage) least now).sends
    sought_ends (Polling heard best sent) least now = tt
    sought_ends (Catching through search) least now =
        read_either (is_position least (searched search)) _ _ tt
        (fetches_ends (record { noted = noted; asked = asked_by (at_stage (Catching through search)); stage = Catching through search }) through least now)

  pub hears_never : (r : Reading) (from now : ℕ) (body : Body) → StageAbove who.op r.stage → Each ReadEnds (hears who r from now body).sends
  hears_never r from now body above = heard_ends r.noted r.asked r.stage from now body above

  pub falls_due_never : (r : Reading) (retry now : ℕ) → StageAbove who.op r.stage → Each ReadEnds (falls_due who r retry now).sends
  falls_due_never r retry now above = read_due_ends r.noted r.asked r.stage retry now above

  pub seeks_never : (r : Reading) (least now : ℕ) → Each ReadEnds (seeks who r least now).sends
  seeks_never r least now = sought_ends r.noted r.asked r.stage least now
