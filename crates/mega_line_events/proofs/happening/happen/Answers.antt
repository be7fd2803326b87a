use Rattle.std.proofs.Common.{ℕ, ◌≡◌, [], Some, None, Err, ap, append-nil, subst, sym, List}
use Rattle.std.specs.List.{All}
use Rattle.mega_field_ranges.specs.Held.{HoldsItem}
use Rattle.mega_meanings.specs.BuiltIn.{built_in}
use Rattle.mega_transcript.specs.declared.item.Item.{Item}
use Rattle.mega_transcript.specs.Lines.{HasLine}
use Rattle.mega_transcript.specs.Tape.{newest}
use Rattle.mega_shown_laws.specs.of_promises.Runs.{refusal}
use Rattle.mega_world.specs.AtRun.{StandsWith}
use Rattle.mega_line_events.specs.Running.{stood}
use Rattle.mega_line_events.proofs.Running.{sound, proceeds}
use Rattle.mega_line_events.proofs.happening.happen.Goals as goal

pub returns-in-Ok-clause-state : goal.returns-in-Ok-clause-state
returns-in-Ok-clause-state g c done events after =
    let cluster = c.args.cluster.now in
    let number = c.args.number in
    let line = c.args.line.now in
    let allowed = c.in-Ok.ensures.happens cluster (stood cluster events) after.here in
    let right = sound cluster done events number line c.args.event after.starts after.happen after.held c.requires.spelled allowed c.requires.meant in
    proceeds cluster number line events c.args.event c.apply.new.self c.in-Ok.added.items c.requires.spelled allowed (c.in-Ok.ensures.state cluster built_in (stood cluster events) after.here right)
    (c.in-Ok.ensures.tape cluster built_in (stood cluster events) after.here right) (subst (All HoldsItem) c.as_slice.ensures c.hold.ensures)

pub hold-requires : goal.hold-requires
hold-requires g c =
    let cluster = c.args.cluster.now in
    let done = c.requires.standing.0 in
    let events = c.requires.standing.1 in
    let after = c.requires.standing.2 in
    let allowed = c.in-Ok.ensures.happens cluster (stood cluster events) after.here in
    let right = sound cluster done events c.args.number c.args.line.now c.args.event after.starts after.happen after.held c.requires.spelled allowed c.requires.meant in
    subst (All HasLine) (sym c.as_slice.ensures) (c.in-Ok.ensures.lines cluster built_in (stood cluster events) after.here right)

pub returns-in-Ok-clause-lines : goal.returns-in-Ok-clause-lines
returns-in-Ok-clause-lines g c =
    let cluster = c.args.cluster.now in
    let done = c.requires.standing.0 in
    let events = c.requires.standing.1 in
    let after = c.requires.standing.2 in
    let allowed = c.in-Ok.ensures.happens cluster (stood cluster events) after.here in
    c.in-Ok.ensures.lines cluster built_in (stood cluster events) after.here (sound cluster done events c.args.number c.args.line.now c.args.event after.starts after.happen after.held c.requires.spelled allowed c.requires.meant)

pub returns-in-Err-Refused-clause-refused : goal.returns-in-Err-Refused-clause-refused
returns-in-Err-Refused-clause-refused g c at why is done events after =
    let cluster = c.args.cluster.now in
    let same : c.in-Err-Refused.why ≡ why = cc in
    let refused = c.in-Err-Refused.ensures.refused c.in-Err-Refused.why (ap Err c.in-Err-Refused.field-0-is) cluster (stood cluster events) after.here in (
      cc,
      record { event = c.args.event; spelled = c.requires.spelled; refused = subst (λ (w : ℕ). refusal cluster (stood cluster events) c.args.event ≡ Some w) same refused },
    )

pub returns-in-Err-Limit-clause-limit : goal.returns-in-Err-Limit-clause-limit
returns-in-Err-Limit-clause-limit g c at is done events after =
    let cluster = c.args.cluster.now in (
      cc,
      record { event = c.args.event; spelled = c.requires.spelled; past = c.in-Err-Limit.ensures.limit (ap Err c.in-Err-Limit.field-0-is) cluster (stood cluster events) after.here },
    )

pub apply-requires : goal.apply-requires
apply-requires g c =
    let cluster = c.args.cluster.now in
    let done = c.requires.standing.0 in
    let events = c.requires.standing.1 in
    let after = c.requires.standing.2 in record {
      known = record {
        cluster = cluster;
        handlers = built_in;
        earlier = newest (stood cluster events).tape;
        now = stood cluster events;
        at = subst (λ (items : List Item). StandsWith cluster c.args.world.now items (stood cluster events)) (sym (append-nil (newest (stood cluster events).tape))) after.here;
        sound = λ allowed. sound cluster done events c.args.number c.args.line.now c.args.event after.starts after.happen after.held c.requires.spelled allowed c.requires.meant;
      };
    }

pub returns-in-Ok-clause-refused : goal.returns-in-Ok-clause-refused
returns-in-Ok-clause-refused g c at why is done events after = let none : ⊥ = cc in absurd none

pub returns-in-Ok-clause-limit : goal.returns-in-Ok-clause-limit
returns-in-Ok-clause-limit g c at is done events after = let none : ⊥ = cc in absurd none
