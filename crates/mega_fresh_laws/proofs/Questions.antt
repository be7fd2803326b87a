-- Which messages of an operation ask where the log of a group ends, and which propose its own entry: a read asks only while it polls, and a round proposes at
-- its place alone.
use Rattle.std.proofs.Common.{ℕ, ◌≡◌, ◌+◌, ◌&&◌, ◌||◌, ◌==◌, not, Bool, true, false, cond, List, [], ◌∷◌, length, map, Option, Some, None, refl, sym, ap, ◌∙◌}
use Rattle.std.specs.List.{list_all}
use Rattle.mega_base.specs.declared.names.Epoch.{Epoch}
use Rattle.mega_base.specs.declared.names.GroupId.{GroupId}
use Rattle.mega_base.specs.declared.names.OpId.{OpId}
use Rattle.mega_ballot.specs.Order.{zero_ballot}
use Rattle.mega_entry.specs.declared.content.Content.{Content}
use Rattle.mega_wire.specs.declared.message.Message.{Message}
use Rattle.mega_wire.specs.declared.message.Body.{Body}
use Rattle.mega_wire.specs.declared.message.Body.TheVariants.{Accept, HaveNot, Top, Where}
use Rattle.mega_wal.specs.Same.{same_group, same_op}
use Rattle.mega_leased_laws.specs.of_settled_laws.of_run_laws.of_tape_laws.of_promises.of_rules.of_read.of_propose.Members.{has, is_majority, with_node, without}
use Rattle.mega_leased_laws.specs.of_settled_laws.of_run_laws.of_tape_laws.of_promises.of_rules.of_read.of_propose.declared.round.Proposal.{Proposal}
use Rattle.mega_leased_laws.specs.of_settled_laws.of_run_laws.of_tape_laws.of_promises.of_rules.of_read.of_propose.declared.round.Site.{Site}
use Rattle.mega_leased_laws.specs.of_settled_laws.of_run_laws.of_tape_laws.of_promises.of_rules.of_read.of_propose.Rounds.{asks, due, is_due, takes}
use Rattle.mega_leased_laws.specs.of_settled_laws.of_run_laws.of_tape_laws.of_promises.of_rules.of_read.declared.reading.Reader.{Reader}
use Rattle.mega_leased_laws.specs.of_settled_laws.of_run_laws.of_tape_laws.of_promises.of_rules.of_read.declared.reading.Search.TheVariants.{Fetching, Filling}
use Rattle.mega_leased_laws.specs.of_settled_laws.of_run_laws.of_tape_laws.of_promises.of_rules.of_read.declared.reading.Stage.{Stage}
use Rattle.mega_leased_laws.specs.of_settled_laws.of_run_laws.of_tape_laws.of_promises.of_rules.of_read.declared.reading.Stage.TheVariants.{Polling, Catching}
use Rattle.mega_leased_laws.specs.of_settled_laws.of_run_laws.of_tape_laws.of_promises.of_rules.of_read.declared.reading.Reading.{Reading}
use Rattle.mega_leased_laws.specs.of_settled_laws.of_run_laws.of_tape_laws.of_promises.of_rules.of_read.declared.reading.Move.{Move as ReadMove}
use Rattle.mega_leased_laws.specs.of_settled_laws.of_run_laws.of_tape_laws.of_promises.of_rules.of_read.Catching.{asked_by, falls_due, fetch_to, fetches, fills, hears, helpers, is_position, move, no_op, polled_read, searched, seeks, site, topped, where_to}
use Rattle.mega_leased_laws.specs.of_settled_laws.of_run_laws.Justified.{Each}
use Rattle.mega_leased_laws.proofs.of_settled_laws.of_run_laws.Turns.{each_on, each_zip}
use Rattle.mega_leased_laws.proofs.Wheres.{EndsBody, EndsOf, completes_ends, due_ends, takes_ends}
use Rattle.mega_fresh_laws.proofs.Accepts.{IsAbove, Never, NeverBody, StageAbove, Zero, ZeroBody, due_zero, falls_due_never, hears_never, seeks_never, takes_zero}

-- ---- what a message may be

-- it is of this operation, if it asks where a log ends, or proposes an own entry
abbrev pub SaysBody : OpId → Body → Type 0
SaysBody op (Where asking group) = asking ≡ op
SaysBody op (Accept o group n b e) = b ≡ zero_ballot → e.id ≡ Some o → o ≡ op
SaysBody op _ = Unit {0}

abbrev pub Says : OpId → Message → Type 0
Says op m = SaysBody op m.body

-- it proposes nothing, and if it asks, it does so for this operation about this group
abbrev pub AsksBody : ℕ → OpId → GroupId → Body → Type 0
AsksBody from op group (Where asking g) = (from ≡ op.node.0) × ((asking ≡ op) × (g ≡ group))
AsksBody from op group (Accept o g n b e) = ⊥
AsksBody from op group _ = Unit {0}

abbrev pub Asks : OpId → GroupId → Message → Type 0
Asks op group m = AsksBody m.from op group m.body

-- it asks nothing, and proposes no own entry but at this place
abbrev pub OffersBody : OpId → GroupId → ℕ → Body → Type 0
OffersBody op group n (Where asking g) = ⊥
OffersBody op group n (Accept o g m b e) = b ≡ zero_ballot → e.id ≡ Some o → (o ≡ op) × ((g ≡ group) × (m.0 ≡ n))
OffersBody op group n _ = Unit {0}

abbrev pub Offers : OpId → GroupId → ℕ → Message → Type 0
Offers op group n m = OffersBody op group n m.body

-- it neither asks nor proposes an own entry
abbrev pub MuteBody : Body → Type 0
MuteBody (Where asking g) = ⊥
MuteBody (Accept o g n b e) = b ≡ zero_ballot → e.id ≡ Some o → ⊥
MuteBody _ = Unit {0}

abbrev pub Mute : Message → Type 0
Mute m = MuteBody m.body

-- it asks nothing
abbrev pub UnaskingBody : Body → Type 0
UnaskingBody (Where asking g) = ⊥
UnaskingBody _ = Unit {0}

abbrev pub Unasking : Message → Type 0
Unasking m = UnaskingBody m.body

pub asks_says : (op : OpId) (group : GroupId) (ms : List Message) → Each (Asks op group) ms → Each (Says op) ms
asks_says op group ms h = each_on (Asks op group) (Says op) (λ m k. by m.from m.body k) ms h
  where
    by : (from : ℕ) (body : Body) → AsksBody from op group body → SaysBody op body
    by from (Where asking g) k = (k.1).0
    by from (Accept o g n b e) k = absurd k
    by from _ k = tt

pub asks_never : (op : OpId) (group : GroupId) (ms : List Message) → Each (Asks op group) ms → Each Never ms
asks_never op group ms h = each_on (Asks op group) Never (λ m k. by m.from m.body k) ms h
  where
    by : (from : ℕ) (body : Body) → AsksBody from op group body → NeverBody body
    by from (Accept o g n b e) k = absurd k
    by from _ k = tt

pub offers_says : (op : OpId) (group : GroupId) (n : ℕ) (ms : List Message) → Each (Offers op group n) ms → Each (Says op) ms
offers_says op group n ms h = each_on (Offers op group n) (Says op) (λ m k. by m.body k) ms h
  where
    by : (body : Body) → OffersBody op group n body → SaysBody op body
    by (Where asking g) k = absurd k
    by (Accept o g m b e) k = λ zero id. (k zero id).0
    by _ k = tt

pub offers_unasking : (op : OpId) (group : GroupId) (n : ℕ) (ms : List Message) → Each (Offers op group n) ms → Each Unasking ms
offers_unasking op group n ms h = each_on (Offers op group n) Unasking (λ m k. by m.body k) ms h
  where
    by : (body : Body) → OffersBody op group n body → UnaskingBody body
    by (Where asking g) k = absurd k
    by _ k = tt

pub mute_says : (op : OpId) (ms : List Message) → Each Mute ms → Each (Says op) ms
mute_says op ms h = each_on Mute (Says op) (λ m k. by m.body k) ms h
  where
    by : (body : Body) → MuteBody body → SaysBody op body
    by (Where asking g) k = absurd k
    by (Accept o g n b e) k = λ zero id. absurd (k zero id)
    by _ k = tt

pub mute_never : (ms : List Message) → Each Mute ms → Each Never ms
mute_never ms h = each_on Mute Never (λ m k. by m.body k) ms h
  where
    by : (body : Body) → MuteBody body → NeverBody body
    by (Accept o g n b e) k = k
    by _ k = tt

pub mute_unasking : (ms : List Message) → Each Mute ms → Each Unasking ms
mute_unasking ms h = each_on Mute Unasking (λ m k. by m.body k) ms h
  where
    by : (body : Body) → MuteBody body → UnaskingBody body
    by (Where asking g) k = absurd k
    by _ k = tt

-- ---- rounds

-- what asks about each group asks about none
unasking : (op : OpId) (ms : List Message) → ((group : GroupId) → Each (EndsOf op group) ms) → Each Unasking ms
unasking op ms ends = each_zip (EndsOf op (record { key = [] })) (EndsOf op (record { key = 0 ∷ [] })) Unasking (λ m one other. by m.body one other) ms (ends (record { key = [] })) (ends (record { key = 0 ∷ [] }))
  where
    apart : (g : GroupId) → g ≡ record { key = [] } → g ≡ record { key = 0 ∷ [] } → ⊥
    apart g one other = let clash = ap (λ (x : GroupId). length x.key) (sym one ∙ other) in cc

    by : (body : Body) → EndsBody op (record { key = [] }) body → EndsBody op (record { key = 0 ∷ [] }) body → UnaskingBody body
    by (Where asking g) one other = apart g one.1 other.1
    by _ one other = tt

round_offers : (s : Site) (own : Content) (ms : List Message) → Each (Zero s own) ms → Each Unasking ms → Each (Offers s.op s.group s.position) ms
round_offers s own ms zeros none = each_zip (Zero s own) Unasking (Offers s.op s.group s.position) (λ m zero quiet. by m.body zero quiet) ms zeros none
  where
    by : (body : Body) → ZeroBody s own body → UnaskingBody body → OffersBody s.op s.group s.position body
    by (Where asking g) zero quiet = absurd quiet
    by (Accept o g m b e) zero quiet = λ is id. let at = zero is in ((at.0).0, ((at.0).1, (at.1).0))
    by _ zero quiet = tt

pub asks_offers : (s : Site) (leader : ℕ) (own : Content) (now : ℕ) → Each (Offers s.op s.group s.position) (asks s leader own now).sends
asks_offers s leader own now = ((λ zero id. (refl, (refl, refl))), tt)

pub takes_offers : (s : Site) (p : Proposal) (from now : ℕ) (body : Body) → IsAbove p.round → Each (Offers s.op s.group s.position) (takes s p from now body).sends
takes_offers s p from now body above = round_offers s p.own (takes s p from now body).sends (takes_zero s p from now body above) (unasking s.op (takes s p from now body).sends (λ group. takes_ends s.op group s p from now body))

pub due_offers : (s : Site) (p : Proposal) (retry now : ℕ) → Each (Offers s.op s.group s.position) (due s p retry now).sends
due_offers s p retry now = round_offers s p.own (due s p retry now).sends (due_zero s p.own p retry now) (unasking s.op (due s p retry now).sends (λ group. due_ends s.op group s p retry now))

-- ---- reads

module _ (who : Reader) where
  -- a read asks while it polls, and is silent once it has its position
  abbrev pub StageSays : Stage → List Message → Type 0
  StageSays (Polling heard best at) ms = Each (Asks who.op who.group) ms
  StageSays (Catching through search) ms = Each Mute ms

  abbrev pub ReadSays : ReadMove → Type 0
  ReadSays t = StageSays (t.reading).stage t.sends

  abbrev StageAsks : Stage → List Message → Type 0
  StageAsks (Polling heard best at) ms = Each (Asks who.op who.group) ms
  StageAsks (Catching through search) ms = Each Unasking ms

  abbrev ReadAsks : ReadMove → Type 0
  ReadAsks t = StageAsks (t.reading).stage t.sends

  to_says : (stage : Stage) (ms : List Message) → StageAsks stage ms → Each Never ms → StageSays stage ms
  to_says (Polling heard best at) ms asks_only never = asks_only
  to_says (Catching through search) ms none never = each_zip Unasking Never Mute (λ m quiet nothing. by m.body quiet nothing) ms none never
    where
      by : (body : Body) → UnaskingBody body → NeverBody body → MuteBody body
      by (Where asking g) quiet nothing = quiet
      by (Accept o g n b e) quiet nothing = nothing
      by _ quiet nothing = tt

  either_asks : (t : Bool) (one other : ReadMove) → ReadAsks one → ReadAsks other → ReadAsks (cond t one other)
  either_asks true one other h k = h
  either_asks false one other h k = k

  wheres : (to : List ℕ) → Each (Asks who.op who.group) (map (where_to who) to)
  wheres [] = tt
  wheres (one ∷ to) = ((refl, (refl, refl)), wheres to)

  fetched : (position : ℕ) (to : List ℕ) → Each Unasking (map (fetch_to who position) to)
  fetched position [] = tt
  fetched position (one ∷ to) = (tt, fetched position to)

  fills_asks : (r : Reading) (through position now : ℕ) → ReadAsks (fills who r through position now)
  fills_asks r through position now = unasking who.op _ (λ group. completes_ends who.op group (site who r.asked position) (no_op who) now)

  fetches_asks : (r : Reading) (through position now : ℕ) → ReadAsks (fetches who r through position now)
  fetches_asks r through position now = by (helpers who)
    where
      fetched_by : List ℕ → ReadMove
      fetched_by [] = fills who r through position now
      fetched_by (voter ∷ voters) = move r (Catching through (Some (Fetching position [] now))) (map (fetch_to who position) (voter ∷ voters))

      by : (those : List ℕ) → ReadAsks (fetched_by those)
      by [] = fills_asks r through position now
      by (voter ∷ voters) = fetched position (voter ∷ voters)

  module _ (noted : Option Epoch) (asked : List ℕ) where
    abbrev at_stage : Stage → Reading
    at_stage stage = record { noted = noted; asked = asked; stage = stage }

    topped_asks : (from top : ℕ) (heard : List ℕ) (best at : ℕ) → ReadAsks (topped who (at_stage (Polling heard best at)) from top heard best at)
    topped_asks from top heard best at = either_asks (has from heard || not (has from who.voters)) _ _ tt (either_asks (is_majority (length who.voters) (length heard + 1)) _ _ tt tt)

    hears_by : (stage : Stage) (from now : ℕ) (body : Body) → ReadAsks (hears who (at_stage stage) from now body)
    hears_by (Polling heard best at) from now (Top op group top) = either_asks (same_op who.op op && same_group who.group group) _ _ (topped_asks from top.0 heard best at) tt
    hears_by (Polling heard best at) from now _ = tt
    hears_by (Catching through None) from now body = tt
    hears_by (Catching through (Some (Fetching position denials at))) from now (HaveNot op group n) =
        either_asks (same_op who.op op && same_group who.group group && n.0 == position && has from (helpers who)) _ _
        (either_asks (list_all (λ voter. has voter (with_node from denials)) (helpers who)) _ _ (fills_asks (at_stage (Catching through (Some (Fetching position denials at)))) through position now) tt) tt
    hears_by (Catching through (Some (Fetching position denials at))) from now _ = tt
    hears_by (Catching through (Some (Filling position proposal))) from now body = unasking who.op _ (λ group. takes_ends who.op group (site who asked position) proposal from now body)

    due_by : (stage : Stage) (retry now : ℕ) → ReadAsks (falls_due who (at_stage stage) retry now)
    due_by (Polling heard best at) retry now = either_asks (is_due at retry now) _ _ (wheres (without heard who.voters)) tt
    due_by (Catching through None) retry now = tt
    due_by (Catching through (Some (Fetching position denials at))) retry now =
        either_asks (is_due at retry now) _ _ (fills_asks (at_stage (Catching through (Some (Fetching position denials at)))) through position now) tt
    due_by (Catching through (Some (Filling position proposal))) retry now = unasking who.op _ (λ group. due_ends who.op group (site who asked position) proposal retry now)

    seeks_by : (stage : Stage) (least now : ℕ) → ReadAsks (seeks who (at_stage stage) least now)
    seeks_by (Polling heard best at) least now = tt
    seeks_by (Catching through search) least now = either_asks (is_position least (searched search)) _ _ tt
        (fetches_asks (record { noted = noted; asked = asked_by (at_stage (Catching through search)); stage = Catching through search }) through least now)

  pub hears_says : (r : Reading) (from now : ℕ) (body : Body) → StageAbove who.op r.stage → ReadSays (hears who r from now body)
  hears_says r from now body above = to_says _ _ (hears_by r.noted r.asked r.stage from now body) (hears_never who r from now body above)

  pub due_says : (r : Reading) (retry now : ℕ) → StageAbove who.op r.stage → ReadSays (falls_due who r retry now)
  due_says r retry now above = to_says _ _ (due_by r.noted r.asked r.stage retry now) (falls_due_never who r retry now above)

  pub seeks_says : (r : Reading) (least now : ℕ) → ReadSays (seeks who r least now)
  seeks_says r least now = to_says _ _ (seeks_by r.noted r.asked r.stage least now) (seeks_never who r least now)

  pub polled_says : (noted : Option Epoch) (asked : List ℕ) (now : ℕ) → ReadSays (polled_read who noted asked now)
  polled_says noted asked now = wheres who.voters
