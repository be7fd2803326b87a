-- A read sends only to nodes of its cluster, and its entries name only such.
use Rattle.std.proofs.Common.{◌≡◌, ℕ, ◌+◌, ◌==◌, ◌&&◌, ◌||◌, max, not, List, [], ◌∷◌, ◌++◌, length, map, Option, Some, None, refl, subst}
use Rattle.std.specs.List.{list_all}
use Rattle.mega_base.specs.declared.names.Epoch.{Epoch}
use Rattle.mega_cluster.specs.declared.cluster.Cluster.{Cluster}
use Rattle.mega_entry.specs.declared.content.Content.{Content}
use Rattle.mega_wire.specs.declared.message.Body.{Body}
use Rattle.mega_wire.specs.declared.message.Body.TheVariants.{Top, HaveNot}
use Rattle.mega_wal.specs.Same.{same_group, same_op}
use Rattle.mega_format_laws.specs.of_rules.of_read.of_propose.Members.{has, is_majority, with_node, without}
use Rattle.mega_format_laws.specs.of_rules.of_read.of_propose.declared.round.Move.{Move as RoundMove}
use Rattle.mega_format_laws.specs.of_rules.of_read.of_propose.Rounds.{completes, due, is_due, settled, takes}
use Rattle.mega_format_laws.specs.of_rules.of_read.declared.reading.Reader.{Reader}
use Rattle.mega_format_laws.specs.of_rules.of_read.declared.reading.Search.TheVariants.{Fetching, Filling}
use Rattle.mega_format_laws.specs.of_rules.of_read.declared.reading.Stage.{Stage}
use Rattle.mega_format_laws.specs.of_rules.of_read.declared.reading.Stage.TheVariants.{Polling, Catching}
use Rattle.mega_format_laws.specs.of_rules.of_read.declared.reading.Reading.{Reading}
use Rattle.mega_format_laws.specs.of_rules.of_read.declared.reading.Move.{Move}
use Rattle.mega_format_laws.specs.of_rules.of_read.Catching.{asked_by, denied, falls_due, fetch_to, fetches, filled, fills, first_reading, hears, helpers, is_position, local_read, move, no_op, polled_read, read_settled, searched, seeks, settled_there, site, stays, topped, where_to}
use Rattle.mega_format_laws.specs.Rounds.{Each}
use Rattle.mega_format_laws.proofs.Each.{each_filter, each_map, either}
use Rattle.mega_member_laws.specs.Messages.{CarriesHere, IsHere, IsWithin, NamesHere}
use Rattle.mega_member_laws.specs.Rounds.{MoveWithin, SiteWithin}
use Rattle.mega_member_laws.specs.Reads.{ReaderWithin, ReadingWithin, ReadMoveWithin, StageWithin}
use Rattle.mega_member_laws.proofs.Rounds.{completes_within, due_within, settled_here, takes_within}

where_within : (c : Cluster) (who : Reader) (to : ℕ) → ReaderWithin c who → IsHere c to → IsWithin c (where_to who to)
where_within c who to h is = record { from = h.op; to = is; body = tt }

fetch_within : (c : Cluster) (who : Reader) (position to : ℕ) → ReaderWithin c who → IsHere c to → IsWithin c (fetch_to who position to)
fetch_within c who position to h is = record { from = h.op; to = is; body = tt }

pub site_within : (c : Cluster) (who : Reader) (asked : List ℕ) (position : ℕ) → ReaderWithin c who → SiteWithin c (site who asked position)
site_within c who asked position h = record { op = h.op; voters = h.voters; full = h.full; cells = h.cells }

-- ---- a read as it goes on

still : (c : Cluster) (r : Reading) (stage : Stage) → StageWithin c stage → ReadMoveWithin c (move r stage [])
still c r stage h = record { reading = record { stage = h }; sends = tt }

stays_within : (c : Cluster) (r : Reading) → ReadingWithin c r → ReadMoveWithin c (stays r)
stays_within c r h = still c r r.stage h.stage

filled_within : (c : Cluster) (r : Reading) (through position : ℕ) (t : RoundMove) → MoveWithin c t → ReadMoveWithin c (filled r through position t)
filled_within c r through position t h = record { reading = record { stage = h.proposal }; sends = h.sends }

fills_within : (c : Cluster) (who : Reader) (r : Reading) (through position now : ℕ) → ReaderWithin c who → ReadMoveWithin c (fills who r through position now)
fills_within c who r through position now h =
    filled_within c r through position (completes (site who r.asked position) (no_op who) now)
    (completes_within c (site who r.asked position) (no_op who) now (site_within c who r.asked position h) h.op)

topped_within : (c : Cluster) (who : Reader) (r : Reading) (from top : ℕ) (heard : List ℕ) (best sent : ℕ) → ReadingWithin c r → ReadMoveWithin c (topped who r from top heard best sent)
topped_within c who r from top heard best sent h = either (ReadMoveWithin c) (has from heard || not (has from who.voters)) _ _ (stays_within c r h)
    (either (ReadMoveWithin c) (is_majority (length who.voters) (length heard + 1)) _ _
    (still c r (Catching (max best top) None) tt)
    (still c r (Polling (heard ++ from ∷ []) (max best top) sent) tt))

helpers_here : (c : Cluster) (who : Reader) → ReaderWithin c who → Each (IsHere c) (helpers who)
helpers_here c who h = each_filter (IsHere c) (λ other. not (other == who.op.node.0)) who.voters h.voters

fetches_within : (c : Cluster) (who : Reader) (r : Reading) (through position now : ℕ) → ReaderWithin c who → ReadMoveWithin c (fetches who r through position now)
fetches_within c who r through position now h = go (helpers who) (helpers_here c who h)
  where
    by : List ℕ → Move
    by [] = fills who r through position now
    by (voter ∷ voters) = move r (Catching through (Some (Fetching position [] now))) (map (fetch_to who position) (voter ∷ voters))

    go : (voters : List ℕ) → Each (IsHere c) voters → ReadMoveWithin c (by voters)
    go [] e = fills_within c who r through position now h
    go (voter ∷ voters) e = record {
      reading = record { stage = tt };
      sends = each_map (IsHere c) (IsWithin c) (fetch_to who position) (λ to is. fetch_within c who position to h is) (voter ∷ voters) e;
    }

denied_within : (c : Cluster) (who : Reader) (r : Reading) (from through position : ℕ) (denials : List ℕ) (sent now : ℕ) → ReaderWithin c who → ReadMoveWithin c (denied who r from through position denials sent now)
denied_within c who r from through position denials sent now h = either (ReadMoveWithin c) (list_all (λ voter. has voter (with_node from denials)) (helpers who)) _ _
    (fills_within c who r through position now h)
    (still c r (Catching through (Some (Fetching position (with_node from denials) sent))) tt)

-- ---- whatever it takes

polling_hears : (c : Cluster) (who : Reader) (noted : Option Epoch) (asked heard : List ℕ) (best sent from now : ℕ) (body : Body)
    → ReadMoveWithin c (hears who (record { noted = noted; asked = asked; stage = Polling heard best sent }) from now body)
polling_hears c who noted asked heard best sent from now (Top op group top) = either (ReadMoveWithin c) (same_op who.op op && same_group who.group group) _ _
    (topped_within c who (record { noted = noted; asked = asked; stage = Polling heard best sent }) from top.0 heard best sent (record { stage = tt }))
    (stays_within c (record { noted = noted; asked = asked; stage = Polling heard best sent }) (record { stage = tt }))
polling_hears c who noted asked heard best sent from now _ = stays_within c (record { noted = noted; asked = asked; stage = Polling heard best sent }) (record { stage = tt })

fetching_hears : (c : Cluster) (who : Reader) (noted : Option Epoch) (asked : List ℕ) (through position : ℕ) (denials : List ℕ) (sent from now : ℕ) (body : Body) → ReaderWithin c who
    → ReadMoveWithin c (hears who (record { noted = noted; asked = asked; stage = Catching through (Some (Fetching position denials sent)) }) from now body)
fetching_hears c who noted asked through position denials sent from now (HaveNot op group n) h =
    either (ReadMoveWithin c) (same_op who.op op && same_group who.group group && n.0 == position && has from (helpers who)) _ _
    (denied_within c who (record { noted = noted; asked = asked; stage = Catching through (Some (Fetching position denials sent)) }) from through position denials sent now h)
    (stays_within c (record { noted = noted; asked = asked; stage = Catching through (Some (Fetching position denials sent)) }) (record { stage = tt }))
fetching_hears c who noted asked through position denials sent from now _ h =
    stays_within c (record { noted = noted; asked = asked; stage = Catching through (Some (Fetching position denials sent)) }) (record { stage = tt })

stage_hears : (c : Cluster) (who : Reader) (noted : Option Epoch) (asked : List ℕ) (stage : Stage) (from now : ℕ) (body : Body) → ReaderWithin c who → StageWithin c stage → CarriesHere c body
    → ReadMoveWithin c (hears who (record { noted = noted; asked = asked; stage = stage }) from now body)
stage_hears c who noted asked (Polling heard best sent) from now body h r b = polling_hears c who noted asked heard best sent from now body
stage_hears c who noted asked (Catching through None) from now body h r b = stays_within c (record { noted = noted; asked = asked; stage = Catching through None }) (record { stage = r })
stage_hears c who noted asked (Catching through (Some (Fetching position denials sent))) from now body h r b = fetching_hears c who noted asked through position denials sent from now body h
stage_hears c who noted asked (Catching through (Some (Filling position proposal))) from now body h r b =
    filled_within c (record { noted = noted; asked = asked; stage = Catching through (Some (Filling position proposal)) }) through position (takes (site who asked position) proposal from now body)
    (takes_within c (site who asked position) proposal from now body (site_within c who asked position h) r b)

pub hears_within : (c : Cluster) (who : Reader) (r : Reading) (from now : ℕ) (body : Body) → ReaderWithin c who → ReadingWithin c r → CarriesHere c body → ReadMoveWithin c (hears who r from now body)
hears_within c who r from now body h q b = stage_hears c who r.noted r.asked r.stage from now body h q.stage b

-- ---- at a tick, and where it turns to a position

without_here : (c : Cluster) (who : Reader) (heard : List ℕ) → ReaderWithin c who → Each (IsHere c) (without heard who.voters)
without_here c who heard h = each_filter (IsHere c) (λ node. not (has node heard)) who.voters h.voters

stage_due : (c : Cluster) (who : Reader) (noted : Option Epoch) (asked : List ℕ) (stage : Stage) (retry now : ℕ) → ReaderWithin c who → StageWithin c stage
    → ReadMoveWithin c (falls_due who (record { noted = noted; asked = asked; stage = stage }) retry now)
stage_due c who noted asked (Polling heard best sent) retry now h r = either (ReadMoveWithin c) (is_due sent retry now) _ _
    (record {
      reading = record { stage = tt };
      sends = each_map (IsHere c) (IsWithin c) (where_to who) (λ to is. where_within c who to h is) (without heard who.voters) (without_here c who heard h);
    })
    (stays_within c (record { noted = noted; asked = asked; stage = Polling heard best sent }) (record { stage = tt }))
stage_due c who noted asked (Catching through None) retry now h r = stays_within c (record { noted = noted; asked = asked; stage = Catching through None }) (record { stage = r })
stage_due c who noted asked (Catching through (Some (Fetching position denials sent))) retry now h r = either (ReadMoveWithin c) (is_due sent retry now) _ _
    (fills_within c who (record { noted = noted; asked = asked; stage = Catching through (Some (Fetching position denials sent)) }) through position now h)
    (stays_within c (record { noted = noted; asked = asked; stage = Catching through (Some (Fetching position denials sent)) }) (record { stage = tt }))
stage_due c who noted asked (Catching through (Some (Filling position proposal))) retry now h r =
    filled_within c (record { noted = noted; asked = asked; stage = Catching through (Some (Filling position proposal)) }) through position (due (site who asked position) proposal retry now)
    (due_within c (site who asked position) proposal retry now (site_within c who asked position h) r)

pub falls_due_within : (c : Cluster) (who : Reader) (r : Reading) (retry now : ℕ) → ReaderWithin c who → ReadingWithin c r → ReadMoveWithin c (falls_due who r retry now)
falls_due_within c who r retry now h q = stage_due c who r.noted r.asked r.stage retry now h q.stage

stage_seeks : (c : Cluster) (who : Reader) (noted : Option Epoch) (asked : List ℕ) (stage : Stage) (least now : ℕ) → ReaderWithin c who → StageWithin c stage
    → ReadMoveWithin c (seeks who (record { noted = noted; asked = asked; stage = stage }) least now)
stage_seeks c who noted asked (Polling heard best sent) least now h r = stays_within c (record { noted = noted; asked = asked; stage = Polling heard best sent }) (record { stage = tt })
stage_seeks c who noted asked (Catching through search) least now h r = either (ReadMoveWithin c) (is_position least (searched search)) _ _
    (stays_within c (record { noted = noted; asked = asked; stage = Catching through search }) (record { stage = r }))
    (fetches_within c who (record { noted = noted; asked = asked_by (record { noted = noted; asked = asked; stage = Catching through search }); stage = Catching through search }) through least now h)

pub seeks_within : (c : Cluster) (who : Reader) (r : Reading) (least now : ℕ) → ReaderWithin c who → ReadingWithin c r → ReadMoveWithin c (seeks who r least now)
seeks_within c who r least now h q = stage_seeks c who r.noted r.asked r.stage least now h q.stage

-- ---- a read begins, and settles a position

pub local_within : (c : Cluster) (asked : List ℕ) (top : ℕ) → ReadMoveWithin c (local_read asked top)
local_within c asked top = record { reading = record { stage = tt }; sends = tt }

pub polled_within : (c : Cluster) (who : Reader) (noted : Option Epoch) (asked : List ℕ) (now : ℕ) → ReaderWithin c who → ReadMoveWithin c (polled_read who noted asked now)
polled_within c who noted asked now h = record {
  reading = record { stage = tt };
  sends = each_map (IsHere c) (IsWithin c) (where_to who) (λ to is. where_within c who to h is) who.voters h.voters;
}

pub first_within : (c : Cluster) (now : ℕ) → ReadingWithin c (first_reading now)
first_within c now = record { stage = tt }

-- the entry that a read settled names a node of the cluster
abbrev FindsHere : Cluster → Option (ℕ × Content) → Type 0
FindsHere c None = Unit {0}
FindsHere c (Some found) = NamesHere c found.1

there_within : (c : Cluster) (position : ℕ) (found : Option Content) → ((entry : Content) → found ≡ Some entry → NamesHere c entry) → FindsHere c (settled_there position found)
there_within c position None h = tt
there_within c position (Some entry) h = h entry refl

stage_settled : (c : Cluster) (noted : Option Epoch) (asked : List ℕ) (stage : Stage) → StageWithin c stage → FindsHere c (read_settled (record { noted = noted; asked = asked; stage = stage }))
stage_settled c noted asked (Polling heard best sent) h = tt
stage_settled c noted asked (Catching through None) h = tt
stage_settled c noted asked (Catching through (Some (Fetching position denials sent))) h = tt
stage_settled c noted asked (Catching through (Some (Filling position proposal))) h = there_within c position (settled proposal) (λ entry e. settled_here c proposal entry h e)

pub read_settled_here : (c : Cluster) (r : Reading) (found : ℕ × Content) → ReadingWithin c r → read_settled r ≡ Some found → NamesHere c found.1
read_settled_here c r found h e = subst (FindsHere c) e (stage_settled c r.noted r.asked r.stage h.stage)
