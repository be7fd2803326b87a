-- A read of a group sends only own entries, and settles only such.
use Rattle.std.proofs.Common.{ℕ, ◌+◌, ◌==◌, ◌&&◌, ◌||◌, max, not, List, [], ◌∷◌, ◌++◌, length, map, Option, Some, None}
use Rattle.std.specs.List.{list_all}
use Rattle.mega_base.specs.Codec.{IsOption}
use Rattle.mega_base.specs.declared.names.Epoch.{Epoch}
use Rattle.mega_base.specs.declared.names.GroupId.{GroupId}
use Rattle.mega_entry.specs.declared.content.Content.{Content}
use Rattle.mega_schema.specs.declared.schema.Schema.{Schema}
use Rattle.mega_wire.specs.declared.message.Body.{Body}
use Rattle.mega_wire.specs.declared.message.Body.TheVariants.{Top, HaveNot}
use Rattle.mega_wal.specs.Same.{same_group, same_op}
use Rattle.mega_run_laws.specs.of_rules.of_read.of_propose.Members.{has, is_majority, with_node, without}
use Rattle.mega_run_laws.specs.of_rules.of_read.of_propose.declared.round.Move.{Move as RoundMove}
use Rattle.mega_run_laws.specs.of_rules.of_read.of_propose.Rounds.{completes, due, is_due, settled, takes}
use Rattle.mega_run_laws.specs.of_rules.of_read.declared.reading.Reader.{Reader}
use Rattle.mega_run_laws.specs.of_rules.of_read.declared.reading.Search.TheVariants.{Fetching, Filling}
use Rattle.mega_run_laws.specs.of_rules.of_read.declared.reading.Stage.{Stage}
use Rattle.mega_run_laws.specs.of_rules.of_read.declared.reading.Stage.TheVariants.{Polling, Catching}
use Rattle.mega_run_laws.specs.of_rules.of_read.declared.reading.Reading.{Reading}
use Rattle.mega_run_laws.specs.of_rules.of_read.declared.reading.Move.{Move}
use Rattle.mega_run_laws.specs.of_rules.of_read.Catching.{asked_by, falls_due, fetch_to, fetches, filled, fills, hears, helpers, is_position, local_read, move, no_op, polled_read, read_settled, searched, seeks, settled_there, site, stays, where_to}
use Rattle.mega_own_laws.specs.Entries.{IsOwn}
use Rattle.mega_own_laws.specs.Messages.{CarriesOwn, TellsOwn}
use Rattle.mega_own_laws.specs.Rounds.{MoveOwn, ReadMoveOwn, ReadingOwn, StageOwn}
use Rattle.mega_own_laws.proofs.Lists.{any_map, either}
use Rattle.mega_own_laws.proofs.Rounds.{completes_own, due_own, settled_own, takes_own}

-- what a read settled
there_own : (schema : Schema) (group : GroupId) (position : ℕ) (found : Option Content) → IsOption (IsOwn schema group) found → IsOption (λ (one : ℕ × Content). IsOwn schema group one.1) (settled_there position found)
there_own schema group position None h = tt
there_own schema group position (Some entry) h = h

stage_settled : (schema : Schema) (group : GroupId) (noted : Option Epoch) (asked : List ℕ) (stage : Stage) → StageOwn schema group stage
    → IsOption (λ (one : ℕ × Content). IsOwn schema group one.1) (read_settled (record { noted = noted; asked = asked; stage = stage }))
stage_settled schema group noted asked (Polling heard best sent) h = tt
stage_settled schema group noted asked (Catching through None) h = tt
stage_settled schema group noted asked (Catching through (Some (Fetching position denials sent))) h = tt
stage_settled schema group noted asked (Catching through (Some (Filling position proposal))) h = there_own schema group position (settled proposal) (settled_own schema group proposal h)

pub read_settled_own : (schema : Schema) (group : GroupId) (r : Reading) → ReadingOwn schema group r → IsOption (λ (one : ℕ × Content). IsOwn schema group one.1) (read_settled r)
read_settled_own schema group r h = stage_settled schema group r.noted r.asked r.stage h.stage

pub local_own : (schema : Schema) (group : GroupId) (asked : List ℕ) (top : ℕ) → ReadMoveOwn schema group (local_read asked top)
local_own schema group asked top = record { reading = record { stage = tt }; sends = tt }

module _ (schema : Schema) (who : Reader) where
  pub polled_own : (noted : Option Epoch) (asked : List ℕ) (now : ℕ) → ReadMoveOwn schema who.group (polled_read who noted asked now)
  polled_own noted asked now = record { reading = record { stage = tt }; sends = any_map (TellsOwn schema) (where_to who) (λ to. tt) who.voters }

  -- ---- a read as it goes on

  still : (r : Reading) (stage : Stage) → StageOwn schema who.group stage → ReadMoveOwn schema who.group (move r stage [])
  still r stage h = record { reading = record { stage = h }; sends = tt }

  stays_own : (r : Reading) → StageOwn schema who.group r.stage → ReadMoveOwn schema who.group (stays r)
  stays_own r h = still r r.stage h

  filled_own : (r : Reading) (through position : ℕ) (t : RoundMove) → MoveOwn schema who.group t → ReadMoveOwn schema who.group (filled r through position t)
  filled_own r through position t h = record { reading = record { stage = h.proposal }; sends = h.sends }

  fills_own : (r : Reading) (through position now : ℕ) → ReadMoveOwn schema who.group (fills who r through position now)
  fills_own r through position now = filled_own r through position (completes (site who r.asked position) (no_op who) now) (completes_own schema (site who r.asked position) (no_op who) now tt)

  fetches_own : (r : Reading) (through position now : ℕ) → ReadMoveOwn schema who.group (fetches who r through position now)
  fetches_own r through position now = go (helpers who)
    where
      by : List ℕ → Move
      by [] = fills who r through position now
      by (voter ∷ voters) = move r (Catching through (Some (Fetching position [] now))) (map (fetch_to who position) (voter ∷ voters))

      go : (voters : List ℕ) → ReadMoveOwn schema who.group (by voters)
      go [] = fills_own r through position now
      go (voter ∷ voters) = record { reading = record { stage = tt }; sends = any_map (TellsOwn schema) (fetch_to who position) (λ to. tt) (voter ∷ voters) }

  module _ (noted : Option Epoch) (asked : List ℕ) where
    abbrev at : Stage → Reading
    at stage = record { noted = noted; asked = asked; stage = stage }

    -- ---- whatever it takes

    polling_hears : (heard : List ℕ) (best sent from now : ℕ) (body : Body) → ReadMoveOwn schema who.group (hears who (at (Polling heard best sent)) from now body)
    polling_hears heard best sent from now (Top op group top) = either (ReadMoveOwn schema who.group) (same_op who.op op && same_group who.group group) _ _
        (either (ReadMoveOwn schema who.group) (has from heard || not (has from who.voters)) _ _ (stays_own (at (Polling heard best sent)) tt)
        (either (ReadMoveOwn schema who.group) (is_majority (length who.voters) (length heard + 1)) _ _
        (still (at (Polling heard best sent)) (Catching (max best top.0) None) tt) (still (at (Polling heard best sent)) (Polling (heard ++ from ∷ []) (max best top.0) sent) tt)))
        (stays_own (at (Polling heard best sent)) tt)
    polling_hears heard best sent from now _ = stays_own (at (Polling heard best sent)) tt

    fetching_hears : (through position : ℕ) (denials : List ℕ) (sent from now : ℕ) (body : Body) → ReadMoveOwn schema who.group (hears who (at (Catching through (Some (Fetching position denials sent)))) from now body)
    fetching_hears through position denials sent from now (HaveNot op group n) = either (ReadMoveOwn schema who.group) (same_op who.op op && same_group who.group group && n.0 == position && has from (helpers who)) _ _
        (either (ReadMoveOwn schema who.group) (list_all (λ voter. has voter (with_node from denials)) (helpers who)) _ _
        (fills_own (at (Catching through (Some (Fetching position denials sent)))) through position now)
        (still (at (Catching through (Some (Fetching position denials sent)))) (Catching through (Some (Fetching position (with_node from denials) sent))) tt))
        (stays_own (at (Catching through (Some (Fetching position denials sent)))) tt)
    fetching_hears through position denials sent from now _ = stays_own (at (Catching through (Some (Fetching position denials sent)))) tt

    stage_hears : (stage : Stage) (from now : ℕ) (body : Body) → StageOwn schema who.group stage → CarriesOwn schema body → ReadMoveOwn schema who.group (hears who (at stage) from now body)
    stage_hears (Polling heard best sent) from now body h carries = polling_hears heard best sent from now body
    stage_hears (Catching through None) from now body h carries = stays_own (at (Catching through None)) tt
    stage_hears (Catching through (Some (Fetching position denials sent))) from now body h carries = fetching_hears through position denials sent from now body
    stage_hears (Catching through (Some (Filling position proposal))) from now body h carries =
        filled_own (at (Catching through (Some (Filling position proposal)))) through position (takes (site who asked position) proposal from now body)
        (takes_own schema (site who asked position) proposal from now body h carries)

    -- ---- at a tick, and where it turns to a position

    stage_due : (stage : Stage) (retry now : ℕ) → StageOwn schema who.group stage → ReadMoveOwn schema who.group (falls_due who (at stage) retry now)
    stage_due (Polling heard best sent) retry now h = either (ReadMoveOwn schema who.group) (is_due sent retry now) _ _
        (record { reading = record { stage = tt }; sends = any_map (TellsOwn schema) (where_to who) (λ to. tt) (without heard who.voters) })
        (stays_own (at (Polling heard best sent)) tt)
    stage_due (Catching through None) retry now h = stays_own (at (Catching through None)) tt
    stage_due (Catching through (Some (Fetching position denials sent))) retry now h = either (ReadMoveOwn schema who.group) (is_due sent retry now) _ _
        (fills_own (at (Catching through (Some (Fetching position denials sent)))) through position now)
        (stays_own (at (Catching through (Some (Fetching position denials sent)))) tt)
    stage_due (Catching through (Some (Filling position proposal))) retry now h =
        filled_own (at (Catching through (Some (Filling position proposal)))) through position (due (site who asked position) proposal retry now)
        (due_own schema (site who asked position) proposal retry now h)

    stage_seeks : (stage : Stage) (least now : ℕ) → StageOwn schema who.group stage → ReadMoveOwn schema who.group (seeks who (at stage) least now)
    stage_seeks (Polling heard best sent) least now h = stays_own (at (Polling heard best sent)) tt
    stage_seeks (Catching through search) least now h = either (ReadMoveOwn schema who.group) (is_position least (searched search)) _ _
        (stays_own (at (Catching through search)) h)
        (fetches_own (record { noted = noted; asked = asked_by (at (Catching through search)); stage = Catching through search }) through least now)

  pub hears_own : (r : Reading) (from now : ℕ) (body : Body) → ReadingOwn schema who.group r → CarriesOwn schema body → ReadMoveOwn schema who.group (hears who r from now body)
  hears_own r from now body h carries = stage_hears r.noted r.asked r.stage from now body h.stage carries

  pub falls_due_own : (r : Reading) (retry now : ℕ) → ReadingOwn schema who.group r → ReadMoveOwn schema who.group (falls_due who r retry now)
  falls_due_own r retry now h = stage_due r.noted r.asked r.stage retry now h.stage

  pub seeks_own : (r : Reading) (least now : ℕ) → ReadingOwn schema who.group r → ReadMoveOwn schema who.group (seeks who r least now)
  seeks_own r least now h = stage_seeks r.noted r.asked r.stage least now h.stage
