-- Which messages of an operation ask where the log of a group ends: no round does, and a read asks for its own operation and group.
use Rattle.std.proofs.Common.{◌≡◌, ℕ, List, Option, refl}
use Rattle.std.specs.List.{All}
use Rattle.mega_base.specs.declared.names.Epoch.{Epoch}
use Rattle.mega_base.specs.declared.names.GroupId.{GroupId}
use Rattle.mega_base.specs.declared.names.OpId.{OpId}
use Rattle.mega_entry.specs.declared.content.Content.{Content}
use Rattle.mega_wire.specs.declared.message.Message.{Message}
use Rattle.mega_wire.specs.declared.message.Body.{Body}
use Rattle.mega_wire.specs.declared.message.Body.TheVariants.{Where}
use Rattle.mega_lease_laws.specs.of_run_laws.of_tape_laws.of_promises.of_rules.of_read.of_propose.declared.round.Site.{Site}
use Rattle.mega_lease_laws.specs.of_run_laws.of_tape_laws.of_promises.of_rules.of_read.of_propose.declared.round.Proposal.{Proposal}
use Rattle.mega_lease_laws.specs.of_run_laws.of_tape_laws.of_promises.of_rules.of_read.of_propose.Rounds.{asks, completes, due, takes}
use Rattle.mega_lease_laws.specs.of_run_laws.of_tape_laws.of_promises.of_rules.of_read.declared.reading.Reader.{Reader}
use Rattle.mega_lease_laws.specs.of_run_laws.of_tape_laws.of_promises.of_rules.of_read.declared.reading.Reading.{Reading}
use Rattle.mega_lease_laws.specs.of_run_laws.of_tape_laws.of_promises.of_rules.of_read.Catching.{falls_due, hears, polled_read, seeks, site}
use Rattle.mega_lease_laws.specs.of_run_laws.Justified.{Each}
use Rattle.mega_lease_laws.proofs.of_node_laws.Rounds.{MayPropose, completes_hold, due_hold, takes_hold}
use Rattle.mega_lease_laws.proofs.of_node_laws.Reading.{MayRead, falls_due_hold, hears_hold, polled_hold, seeks_hold}
use Rattle.mega_leased_laws.proofs.Tapes.{each_all}

-- a message that asks where a log ends is of this operation, and about this group
abbrev pub EndsBody : OpId → GroupId → Body → Type 0
EndsBody op group (Where asking g) = (asking ≡ op) × (g ≡ group)
EndsBody op group _ = Unit {0}

abbrev pub EndsOf : OpId → GroupId → Message → Type 0
EndsOf op group m = EndsBody op group m.body

ends_propose : (op : OpId) (group : GroupId) (s : Site) → MayPropose (EndsOf op group) s
ends_propose op group s = record { accepts = λ ballot entry to. tt; prepares = λ ballot to. tt }

ends_read : (who : Reader) → MayRead (EndsOf who.op who.group) who
ends_read who = record { inquires = λ to. (refl, refl); fetches = λ position to. tt; proposes = λ asked position. ends_propose who.op who.group (site who asked position) }

each_of : (op : OpId) (group : GroupId) (ms : List Message) → All (EndsOf op group) ms → Each (EndsOf op group) ms
each_of op group ms h = each_all (EndsOf op group) (EndsOf op group) (λ m ends. ends) ms h

-- ---- rounds

module _ (op : OpId) (group : GroupId) where
  round_due : (s : Site) (p : Proposal) (retry now : ℕ) → All (EndsOf op group) (due s p retry now).sends
  round_due s p retry now = due_hold (EndsOf op group) s (ends_propose op group s) p (λ ballot entry cover sent is. record { invalidates = λ to. tt; buries = λ node cell. tt }) retry now

  pub asks_ends : (s : Site) (leader : ℕ) (own : Content) (now : ℕ) → Each (EndsOf op group) (asks s leader own now).sends
  asks_ends s leader own now = (tt, tt)

  pub completes_ends : (s : Site) (own : Content) (now : ℕ) → Each (EndsOf op group) (completes s own now).sends
  completes_ends s own now = each_of op group _ (completes_hold (EndsOf op group) s (ends_propose op group s) own now)

  pub due_ends : (s : Site) (p : Proposal) (retry now : ℕ) → Each (EndsOf op group) (due s p retry now).sends
  due_ends s p retry now = each_of op group _ (round_due s p retry now)

  pub takes_ends : (s : Site) (p : Proposal) (from now : ℕ) (body : Body) → Each (EndsOf op group) (takes s p from now body).sends
  takes_ends s p from now body = each_of op group _ (takes_hold (EndsOf op group) s (ends_propose op group s) p from now body)

-- ---- reads

module _ (who : Reader) where
  abbrev Ends : Message → Type 0
  Ends m = EndsOf who.op who.group m

  pub polled_ends : (noted : Option Epoch) (asked : List ℕ) (now : ℕ) → Each Ends (polled_read who noted asked now).sends
  polled_ends noted asked now = each_of who.op who.group _ (polled_hold Ends who (ends_read who) noted asked now)

  pub hears_ends : (r : Reading) (from now : ℕ) (body : Body) → Each Ends (hears who r from now body).sends
  hears_ends r from now body = each_of who.op who.group _ (hears_hold Ends who (ends_read who) r from now body)

  pub falls_due_ends : (r : Reading) (retry now : ℕ) → Each Ends (falls_due who r retry now).sends
  falls_due_ends r retry now = each_of who.op who.group _ (falls_due_hold Ends who (ends_read who) r retry now (λ through position p is. round_due who.op who.group (site who r.asked position) p retry now))

  pub seeks_ends : (r : Reading) (least now : ℕ) → Each Ends (seeks who r least now).sends
  seeks_ends r least now = each_of who.op who.group _ (seeks_hold Ends who (ends_read who) r least now)
