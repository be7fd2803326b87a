-- A read sends only messages of the format, and stays of the format.
use Rattle.std.proofs.Common.{◌≡◌, ℕ, ◌+◌, ◌==◌, ◌&&◌, ◌||◌, max, not, List, [], ◌∷◌, ◌++◌, length, map, Option, Some, None, refl, subst, arith}
use Rattle.std.specs.List.{list_all}
use Rattle.mega_base.specs.declared.names.Epoch.{Epoch}
use Rattle.mega_entry.specs.declared.content.Content.{Content}
use Rattle.mega_wire.specs.declared.message.Body.{Body}
use Rattle.mega_wire.specs.declared.message.Body.TheVariants.{Top, HaveNot}
use Rattle.mega_wire.specs.Messages.{IsMessage, IsBody}
use Rattle.mega_wal.specs.Same.{same_group, same_op}
use Rattle.mega_voter.specs.of_rules.of_read.of_propose.Members.{has, is_majority, with_node, without}
use Rattle.mega_voter.specs.of_rules.of_read.of_propose.declared.round.Move.{Move as RoundMove}
use Rattle.mega_voter.specs.of_rules.of_read.of_propose.Rounds.{completes, due, is_due, settled, takes}
use Rattle.mega_voter.specs.of_rules.of_read.declared.reading.Reader.{Reader}
use Rattle.mega_voter.specs.of_rules.of_read.declared.reading.Search.TheVariants.{Fetching, Filling}
use Rattle.mega_voter.specs.of_rules.of_read.declared.reading.Stage.{Stage}
use Rattle.mega_voter.specs.of_rules.of_read.declared.reading.Stage.TheVariants.{Polling, Catching}
use Rattle.mega_voter.specs.of_rules.of_read.declared.reading.Reading.{Reading}
use Rattle.mega_voter.specs.of_rules.of_read.declared.reading.Move.{Move}
use Rattle.mega_voter.specs.of_rules.of_read.Catching.{asked_by, denied, falls_due, fetch_to, fetches, filled, fills, first_reading, hears, helpers, is_position, local_read, move, no_op, polled_read, read_settled, searched, seeks, settled_there, site, stays, topped, where_to}
use Rattle.mega_format_laws.specs.Rounds.{Each, IsMember, IsMove, IsPlace, IsShort, IsSite}
use Rattle.mega_format_laws.specs.Reads.{IsReader, IsReading, IsReadMove, IsStage, IsTop}
use Rattle.mega_format_laws.proofs.Each.{each_filter, each_map, either}
use Rattle.mega_format_laws.proofs.Rounds.{completes_formed, due_formed, settled_formed, takes_formed}
use Rattle.mega_format_laws.proofs.Texts.{no_op_short}

where_formed : (who : Reader) (to : ℕ) → IsReader who → IsMember to → IsMessage (where_to who to)
where_formed who to h member = record { from = (h.op).1; to = member; body = ((h.op).0, h.group) }

fetch_formed : (who : Reader) (position to : ℕ) → IsReader who → IsPlace position → IsMember to → IsMessage (fetch_to who position to)
fetch_formed who position to h place member = record { from = (h.op).1; to = member; body = ((h.op).0, (h.group, place)) }

pub site_formed : (who : Reader) (asked : List ℕ) (position : ℕ) → IsReader who → IsPlace position → IsSite (site who asked position)
site_formed who asked position h place = record { op = h.op; group = h.group; position = place; voters = h.voters; full = h.full; cells = h.cells }

-- ---- a read as it goes on

still : (r : Reading) (stage : Stage) → IsStage stage → IsReadMove (move r stage [])
still r stage h = record { reading = record { stage = h }; sends = tt }

stays_formed : (r : Reading) → IsReading r → IsReadMove (stays r)
stays_formed r h = still r r.stage h.stage

filled_formed : (r : Reading) (through position : ℕ) (t : RoundMove) → IsTop through → IsPlace position → IsMove t → IsReadMove (filled r through position t)
filled_formed r through position t top place h = record { reading = record { stage = (top, (place, h.proposal)) }; sends = h.sends }

fills_formed : (who : Reader) (r : Reading) (through position now : ℕ) → IsReader who → IsTop through → IsPlace position → IsReadMove (fills who r through position now)
fills_formed who r through position now h top place =
    filled_formed r through position (completes (site who r.asked position) (no_op who) now) top place
    (completes_formed (site who r.asked position) (no_op who) now (site_formed who r.asked position h place) (no_op_short (who.op).node (h.op).1))

greatest_top : (a b : ℕ) → IsTop a → IsTop b → IsTop (max a b)
greatest_top a b x y = omega (arith, x, y)

topped_formed : (who : Reader) (r : Reading) (from top : ℕ) (heard : List ℕ) (best sent : ℕ) → IsReading r → IsTop top → IsTop best → IsReadMove (topped who r from top heard best sent)
topped_formed who r from top heard best sent h t b = either IsReadMove (has from heard || not (has from who.voters)) _ _ (stays_formed r h)
    (either IsReadMove (is_majority (length who.voters) (length heard + 1)) _ _
    (still r (Catching (max best top) None) (greatest_top best top b t, tt))
    (still r (Polling (heard ++ from ∷ []) (max best top) sent) (greatest_top best top b t)))

helpers_formed : (who : Reader) → IsReader who → Each IsMember (helpers who)
helpers_formed who h = each_filter IsMember (λ other. not (other == who.op.node.0)) who.voters h.voters

fetches_formed : (who : Reader) (r : Reading) (through position now : ℕ) → IsReader who → IsTop through → IsPlace position → IsReadMove (fetches who r through position now)
fetches_formed who r through position now h top place = go (helpers who) (helpers_formed who h)
  where
    by : List ℕ → Move
    by [] = fills who r through position now
    by (voter ∷ voters) = move r (Catching through (Some (Fetching position [] now))) (map (fetch_to who position) (voter ∷ voters))

    go : (voters : List ℕ) → Each IsMember voters → IsReadMove (by voters)
    go [] e = fills_formed who r through position now h top place
    go (voter ∷ voters) e = record {
      reading = record { stage = (top, place) };
      sends = each_map IsMember IsMessage (fetch_to who position) (λ to member. fetch_formed who position to h place member) (voter ∷ voters) e;
    }

denied_formed : (who : Reader) (r : Reading) (from through position : ℕ) (denials : List ℕ) (sent now : ℕ) → IsReader who → IsTop through → IsPlace position
    → IsReadMove (denied who r from through position denials sent now)
denied_formed who r from through position denials sent now h top place = either IsReadMove (list_all (λ voter. has voter (with_node from denials)) (helpers who)) _ _
    (fills_formed who r through position now h top place)
    (still r (Catching through (Some (Fetching position (with_node from denials) sent))) (top, place))

-- ---- whatever it takes

polling_hears : (who : Reader) (noted : Option Epoch) (asked heard : List ℕ) (best sent from now : ℕ) (body : Body) → IsTop best → IsBody body
    → IsReadMove (hears who (record { noted = noted; asked = asked; stage = Polling heard best sent }) from now body)
polling_hears who noted asked heard best sent from now (Top op group top) b body = either IsReadMove (same_op who.op op && same_group who.group group) _ _
    (topped_formed who (record { noted = noted; asked = asked; stage = Polling heard best sent }) from top.0 heard best sent (record { stage = b }) (body.1.1).1 b)
    (stays_formed (record { noted = noted; asked = asked; stage = Polling heard best sent }) (record { stage = b }))
polling_hears who noted asked heard best sent from now _ b body = stays_formed (record { noted = noted; asked = asked; stage = Polling heard best sent }) (record { stage = b })

fetching_hears : (who : Reader) (noted : Option Epoch) (asked : List ℕ) (through position : ℕ) (denials : List ℕ) (sent from now : ℕ) (body : Body) → IsReader who → IsTop through → IsPlace position
    → IsReadMove (hears who (record { noted = noted; asked = asked; stage = Catching through (Some (Fetching position denials sent)) }) from now body)
fetching_hears who noted asked through position denials sent from now (HaveNot op group n) h top place =
    either IsReadMove (same_op who.op op && same_group who.group group && n.0 == position && has from (helpers who)) _ _
    (denied_formed who (record { noted = noted; asked = asked; stage = Catching through (Some (Fetching position denials sent)) }) from through position denials sent now h top place)
    (stays_formed (record { noted = noted; asked = asked; stage = Catching through (Some (Fetching position denials sent)) }) (record { stage = (top, place) }))
fetching_hears who noted asked through position denials sent from now _ h top place =
    stays_formed (record { noted = noted; asked = asked; stage = Catching through (Some (Fetching position denials sent)) }) (record { stage = (top, place) })

stage_hears : (who : Reader) (noted : Option Epoch) (asked : List ℕ) (stage : Stage) (from now : ℕ) (body : Body) → IsReader who → IsStage stage → IsBody body
    → IsReadMove (hears who (record { noted = noted; asked = asked; stage = stage }) from now body)
stage_hears who noted asked (Polling heard best sent) from now body h r b = polling_hears who noted asked heard best sent from now body r b
stage_hears who noted asked (Catching through None) from now body h r b = stays_formed (record { noted = noted; asked = asked; stage = Catching through None }) (record { stage = r })
stage_hears who noted asked (Catching through (Some (Fetching position denials sent))) from now body h r b = fetching_hears who noted asked through position denials sent from now body h r.0 r.1
stage_hears who noted asked (Catching through (Some (Filling position proposal))) from now body h r b =
    filled_formed (record { noted = noted; asked = asked; stage = Catching through (Some (Filling position proposal)) }) through position (takes (site who asked position) proposal from now body) r.0 (r.1).0
    (takes_formed (site who asked position) proposal from now body (site_formed who asked position h (r.1).0) (r.1).1 b)

pub hears_formed : (who : Reader) (r : Reading) (from now : ℕ) (body : Body) → IsReader who → IsReading r → IsBody body → IsReadMove (hears who r from now body)
hears_formed who r from now body h q b = stage_hears who r.noted r.asked r.stage from now body h q.stage b

-- ---- at a tick, and where it turns to a position

without_formed : (who : Reader) (heard : List ℕ) → IsReader who → Each IsMember (without heard who.voters)
without_formed who heard h = each_filter IsMember (λ node. not (has node heard)) who.voters h.voters

stage_due : (who : Reader) (noted : Option Epoch) (asked : List ℕ) (stage : Stage) (retry now : ℕ) → IsReader who → IsStage stage
    → IsReadMove (falls_due who (record { noted = noted; asked = asked; stage = stage }) retry now)
stage_due who noted asked (Polling heard best sent) retry now h r = either IsReadMove (is_due sent retry now) _ _
    (record {
      reading = record { stage = r };
      sends = each_map IsMember IsMessage (where_to who) (λ to member. where_formed who to h member) (without heard who.voters) (without_formed who heard h);
    })
    (stays_formed (record { noted = noted; asked = asked; stage = Polling heard best sent }) (record { stage = r }))
stage_due who noted asked (Catching through None) retry now h r = stays_formed (record { noted = noted; asked = asked; stage = Catching through None }) (record { stage = r })
stage_due who noted asked (Catching through (Some (Fetching position denials sent))) retry now h r = either IsReadMove (is_due sent retry now) _ _
    (fills_formed who (record { noted = noted; asked = asked; stage = Catching through (Some (Fetching position denials sent)) }) through position now h r.0 r.1)
    (stays_formed (record { noted = noted; asked = asked; stage = Catching through (Some (Fetching position denials sent)) }) (record { stage = r }))
stage_due who noted asked (Catching through (Some (Filling position proposal))) retry now h r =
    filled_formed (record { noted = noted; asked = asked; stage = Catching through (Some (Filling position proposal)) }) through position (due (site who asked position) proposal retry now) r.0 (r.1).0
    (due_formed (site who asked position) proposal retry now (site_formed who asked position h (r.1).0) (r.1).1)

pub falls_due_formed : (who : Reader) (r : Reading) (retry now : ℕ) → IsReader who → IsReading r → IsReadMove (falls_due who r retry now)
falls_due_formed who r retry now h q = stage_due who r.noted r.asked r.stage retry now h q.stage

stage_seeks : (who : Reader) (noted : Option Epoch) (asked : List ℕ) (stage : Stage) (least now : ℕ) → IsReader who → IsStage stage → IsPlace least
    → IsReadMove (seeks who (record { noted = noted; asked = asked; stage = stage }) least now)
stage_seeks who noted asked (Polling heard best sent) least now h r place = stays_formed (record { noted = noted; asked = asked; stage = Polling heard best sent }) (record { stage = r })
stage_seeks who noted asked (Catching through search) least now h r place = either IsReadMove (is_position least (searched search)) _ _
    (stays_formed (record { noted = noted; asked = asked; stage = Catching through search }) (record { stage = r }))
    (fetches_formed who (record { noted = noted; asked = asked_by (record { noted = noted; asked = asked; stage = Catching through search }); stage = Catching through search }) through least now h r.0 place)

pub seeks_formed : (who : Reader) (r : Reading) (least now : ℕ) → IsReader who → IsReading r → IsPlace least → IsReadMove (seeks who r least now)
seeks_formed who r least now h q place = stage_seeks who r.noted r.asked r.stage least now h q.stage place

-- ---- a read begins, and settles a position

pub local_formed : (asked : List ℕ) (top : ℕ) → IsTop top → IsReadMove (local_read asked top)
local_formed asked top h = record { reading = record { stage = (h, tt) }; sends = tt }

pub polled_formed : (who : Reader) (noted : Option Epoch) (asked : List ℕ) (now : ℕ) → IsReader who → IsReadMove (polled_read who noted asked now)
polled_formed who noted asked now h = record {
  reading = record { stage = omega arith };
  sends = each_map IsMember IsMessage (where_to who) (λ to member. where_formed who to h member) who.voters h.voters;
}

pub first_formed : (now : ℕ) → IsReading (first_reading now)
first_formed now = record { stage = omega arith }

-- an option's value is so
abbrev IsFound : Option (ℕ × Content) → Type 0
IsFound None = Unit {0}
IsFound (Some found) = IsPlace found.0 × IsShort found.1

there_formed : (position : ℕ) (found : Option Content) → IsPlace position → ((entry : Content) → found ≡ Some entry → IsShort entry) → IsFound (settled_there position found)
there_formed position None place h = tt
there_formed position (Some entry) place h = (place, h entry refl)

stage_settled : (noted : Option Epoch) (asked : List ℕ) (stage : Stage) → IsStage stage → IsFound (read_settled (record { noted = noted; asked = asked; stage = stage }))
stage_settled noted asked (Polling heard best sent) h = tt
stage_settled noted asked (Catching through None) h = tt
stage_settled noted asked (Catching through (Some (Fetching position denials sent))) h = tt
stage_settled noted asked (Catching through (Some (Filling position proposal))) h = there_formed position (settled proposal) (h.1).0 (λ entry e. settled_formed proposal entry (h.1).1 e)

pub read_settled_formed : (r : Reading) (found : ℕ × Content) → IsReading r → read_settled r ≡ Some found → IsPlace found.0 × IsShort found.1
read_settled_formed r found h e = subst IsFound e (stage_settled r.noted r.asked r.stage h.stage)
