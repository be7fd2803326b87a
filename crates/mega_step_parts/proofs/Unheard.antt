-- An operation that a message is not for is left by it as it was.
use Rattle.std.proofs.Common.{◌≡◌, ◌&&◌, ◌==◌, ℕ, Bool, true, false, cond, List, [], Option, None, Some, refl, ap, sym}
use Rattle.mega_base.specs.declared.names.Epoch.{Epoch}
use Rattle.mega_wire.specs.declared.message.Body.{Body}
use Rattle.mega_wire.specs.declared.message.Body.TheVariants.{Where, Top, Accept, Accepted, Refused, Prepare, Promise, Invalidate, Invalidated, Dead, Held, Unheld, Decide, Fetch, Have, HaveNot, Acquire, Granted, Past, Request, Reply}
use Rattle.mega_wire.specs.declared.message.Message.{Message}
use Rattle.mega_wal.specs.Same.{same_group, same_op}
use Rattle.mega_propose.specs.declared.round.Proposal.{Proposal}
use Rattle.mega_propose.specs.declared.round.Site.{Site}
use Rattle.mega_propose.specs.Members.{has}
use Rattle.mega_propose.specs.Rounds.{takes, stays as round_stays}
use Rattle.mega_read.specs.declared.reading.Reader.{Reader}
use Rattle.mega_read.specs.declared.reading.Reading.{Reading}
use Rattle.mega_read.specs.declared.reading.Search.TheVariants.{Fetching, Filling}
use Rattle.mega_read.specs.declared.reading.Stage.{Stage}
use Rattle.mega_read.specs.declared.reading.Stage.TheVariants.{Polling, Catching}
use Rattle.mega_read.specs.Catching.{filled, hears, helpers, site, stays as read_stays}
use Rattle.mega_rules.specs.Acting.{reader_of}
use Rattle.mega_rules.specs.Operations.{Operation, Phase, Proposes, Reads, Setting}
use Rattle.mega_rules.specs.Steps.{hears_message, read_heard, round_heard}
use Rattle.mega_step_choices.specs.Hearing.{is_for}

unless : {X : Type 0} (own : Bool) (x y : X) → own ≡ false → cond own x y ≡ y
unless true x y e = absurd (cc)
unless false x y e = refl

first_of_two : (own more : Bool) → own ≡ false → (own && more) ≡ false
first_of_two true more e = absurd (cc)
first_of_two false more e = refl

first_of_three : (own more last : Bool) → own ≡ false → (own && more && last) ≡ false
first_of_three true more last e = absurd (cc)
first_of_three false more last e = refl

first_of_four : (own more third last : Bool) → own ≡ false → (own && more && third && last) ≡ false
first_of_four true more third last e = absurd (cc)
first_of_four false more third last e = refl

takes_unheard : (s : Site) (p : Proposal) (from now : ℕ) (body : Body) → is_for s.op body ≡ false → takes s p from now body ≡ round_stays p
takes_unheard s p from now (Where op group) e = refl
takes_unheard s p from now (Top op group top) e = refl
takes_unheard s p from now (Accept op group position ballot entry) e = unless _ _ (round_stays p) (first_of_three (same_op s.op op) (same_group s.group group) (position.0 == s.position) e)
takes_unheard s p from now (Accepted op group position ballot entry) e = unless _ _ (round_stays p) (first_of_three (same_op s.op op) (same_group s.group group) (position.0 == s.position) e)
takes_unheard s p from now (Refused op group position asked shown entry) e = unless _ _ (round_stays p) (first_of_three (same_op s.op op) (same_group s.group group) (position.0 == s.position) e)
takes_unheard s p from now (Prepare op group position ballot) e = unless _ _ (round_stays p) (first_of_three (same_op s.op op) (same_group s.group group) (position.0 == s.position) e)
takes_unheard s p from now (Promise op group position ballot vote) e = unless _ _ (round_stays p) (first_of_three (same_op s.op op) (same_group s.group group) (position.0 == s.position) e)
takes_unheard s p from now (Invalidate op group position) e = refl
takes_unheard s p from now (Invalidated op group position) e = unless _ _ (round_stays p) (first_of_three (same_op s.op op) (same_group s.group group) (position.0 == s.position) e)
takes_unheard s p from now (Dead op cell node) e = refl
takes_unheard s p from now (Held op cell node) e = refl
takes_unheard s p from now (Unheld op cell node) e = unless _ _ (round_stays p) (first_of_two (same_op s.op op) (from == cell) e)
takes_unheard s p from now (Decide group position entry) e = refl
takes_unheard s p from now (Fetch op group position) e = refl
takes_unheard s p from now (Have op group position entry) e = refl
takes_unheard s p from now (HaveNot op group position) e = refl
takes_unheard s p from now (Acquire cell epoch clock) e = refl
takes_unheard s p from now (Granted cell epoch clock) e = refl
takes_unheard s p from now (Past cell asked greatest) e = refl
takes_unheard s p from now (Request token json) e = refl
takes_unheard s p from now (Reply token text) e = refl

module _ (who : Reader) (noted : Option Epoch) (asked : List ℕ) (from now : ℕ) where
  abbrev at : Stage → Reading
  at stage = record { noted = noted; asked = asked; stage = stage }

  polling_unheard : (heard : List ℕ) (best sent : ℕ) (body : Body) → is_for who.op body ≡ false → hears who (at (Polling heard best sent)) from now body ≡ read_stays (at (Polling heard best sent))
  polling_unheard heard best sent (Where op group) e = refl
  polling_unheard heard best sent (Top op group top) e = unless _ _ (read_stays (at (Polling heard best sent))) (first_of_two (same_op who.op op) (same_group who.group group) e)
  polling_unheard heard best sent (Accept op group position ballot entry) e = refl
  polling_unheard heard best sent (Accepted op group position ballot entry) e = refl
  polling_unheard heard best sent (Refused op group position asked shown entry) e = refl
  polling_unheard heard best sent (Prepare op group position ballot) e = refl
  polling_unheard heard best sent (Promise op group position ballot vote) e = refl
  polling_unheard heard best sent (Invalidate op group position) e = refl
  polling_unheard heard best sent (Invalidated op group position) e = refl
  polling_unheard heard best sent (Dead op cell node) e = refl
  polling_unheard heard best sent (Held op cell node) e = refl
  polling_unheard heard best sent (Unheld op cell node) e = refl
  polling_unheard heard best sent (Decide group position entry) e = refl
  polling_unheard heard best sent (Fetch op group position) e = refl
  polling_unheard heard best sent (Have op group position entry) e = refl
  polling_unheard heard best sent (HaveNot op group position) e = refl
  polling_unheard heard best sent (Acquire cell epoch clock) e = refl
  polling_unheard heard best sent (Granted cell epoch clock) e = refl
  polling_unheard heard best sent (Past cell asked greatest) e = refl
  polling_unheard heard best sent (Request token json) e = refl
  polling_unheard heard best sent (Reply token text) e = refl

  fetching_unheard : (through at_position : ℕ) (denials : List ℕ) (sent : ℕ) (body : Body) → is_for who.op body ≡ false → hears who (at (Catching through (Some (Fetching at_position denials sent)))) from now body ≡ read_stays (at (Catching through (Some (Fetching at_position denials sent))))
  fetching_unheard through at_position denials sent (Where op group) e = refl
  fetching_unheard through at_position denials sent (Top op group top) e = refl
  fetching_unheard through at_position denials sent (Accept op group position ballot entry) e = refl
  fetching_unheard through at_position denials sent (Accepted op group position ballot entry) e = refl
  fetching_unheard through at_position denials sent (Refused op group position asked shown entry) e = refl
  fetching_unheard through at_position denials sent (Prepare op group position ballot) e = refl
  fetching_unheard through at_position denials sent (Promise op group position ballot vote) e = refl
  fetching_unheard through at_position denials sent (Invalidate op group position) e = refl
  fetching_unheard through at_position denials sent (Invalidated op group position) e = refl
  fetching_unheard through at_position denials sent (Dead op cell node) e = refl
  fetching_unheard through at_position denials sent (Held op cell node) e = refl
  fetching_unheard through at_position denials sent (Unheld op cell node) e = refl
  fetching_unheard through at_position denials sent (Decide group position entry) e = refl
  fetching_unheard through at_position denials sent (Fetch op group position) e = refl
  fetching_unheard through at_position denials sent (Have op group position entry) e = refl
  fetching_unheard through at_position denials sent (HaveNot op group position) e = unless _ _ (read_stays (at (Catching through (Some (Fetching at_position denials sent))))) (first_of_four (same_op who.op op) (same_group who.group group) (position.0 == at_position) (has from (helpers who)) e)
  fetching_unheard through at_position denials sent (Acquire cell epoch clock) e = refl
  fetching_unheard through at_position denials sent (Granted cell epoch clock) e = refl
  fetching_unheard through at_position denials sent (Past cell asked greatest) e = refl
  fetching_unheard through at_position denials sent (Request token json) e = refl
  fetching_unheard through at_position denials sent (Reply token text) e = refl

  hears_unheard : (stage : Stage) (body : Body) → is_for who.op body ≡ false → hears who (at stage) from now body ≡ read_stays (at stage)
  hears_unheard (Polling heard best sent) body e = polling_unheard heard best sent body e
  hears_unheard (Catching through None) body e = refl
  hears_unheard (Catching through (Some (Fetching position denials sent))) body e = fetching_unheard through position denials sent body e
  hears_unheard (Catching through (Some (Filling position proposal))) body e =
      ap (filled (at (Catching through (Some (Filling position proposal)))) through position) (takes_unheard (site who asked position) proposal from now body e)

module _ (s : Setting) (now : ℕ) (m : Message) (o : Operation) where
  abbrev in_phase : Phase → Operation
  in_phase phase = record { id = o.id; request = o.request; began = o.began; visited = o.visited; message = o.message; phase = phase }

  unheard : (phase : Phase) → is_for o.id m.body ≡ false → record { operation = in_phase phase; sends = [] } ≡ hears_message s now m (in_phase phase)
  unheard (Reads group r) e = ap (read_heard (in_phase (Reads group r)) group) (sym (hears_unheard (reader_of s o.id group) r.noted r.asked m.from now r.stage m.body e))
  unheard (Proposes group n asked p promised) e =
      ap (round_heard (in_phase (Proposes group n asked p promised)) group n asked promised) (sym (takes_unheard (site (reader_of s o.id group) asked n) p m.from now m.body e))

pub not_for : (s : Setting) (now : ℕ) (m : Message) (o : Operation) → is_for o.id m.body ≡ false → record { operation = o; sends = [] } ≡ hears_message s now m o
not_for s now m o e = unheard s now m o o.phase e
