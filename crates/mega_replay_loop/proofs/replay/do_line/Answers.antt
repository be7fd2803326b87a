use Rattle.std.proofs.Common.{◌≡◌, ◌++◌, ℕ, List, Ok, Err, ap, inl, subst, sym}
use Rattle.std.specs.List.{All}
use Rattle.mega_transcript.specs.declared.item.Item.{Item}
use Rattle.mega_transcript.specs.Lines.{HasLine}
use Rattle.mega_replay_output.specs.Progress.{Writes}
use Rattle.mega_replay_output.specs.Texts.{IsTallied, so_far}
use Rattle.mega_schedule.specs.Events.{event_of}
use Rattle.mega_replay_output.specs.declared.status.Stop.TheVariants.{Refused, Schedule, Limit}
use Rattle.mega_line_events.specs.Refusals.{IsRefused, IsPastLast}
use Rattle.mega_line_events.specs.Running.{Proceeds, stood}
use Rattle.mega_replay_output.proofs.Progress.{waits_front}
use Rattle.mega_replay_loop.proofs.Steps.{long_stops, stops_next}
use Rattle.mega_replay_loop.proofs.replay.do_line.Goals as goal

pub returns-in-Ok-Long-clause-none : goal.returns-in-Ok-Long-clause-none
returns-in-Ok-Long-clause-none g c at reason is =
    let same : ◌≡◌ {A = ℕ} 7 reason = cc in
    (cc, rw (← same) (long_stops _ (c.args.cluster.now).schema c.args.number (c.in-Ok-Long.ensures.long (ap Ok c.in-Ok-Long.field-0-is))))

pub returns-in-Err-take_line-clause-none : goal.returns-in-Err-take_line-clause-none
returns-in-Err-take_line-clause-none g c at reason is =
    let stop_is : c.in-Err-take_line.stop ≡ Schedule at reason = cc in
    let none = c.in-Err-take_line.ensures.none at reason (ap Err stop_is) in
    (none.0, stops_next _ _ (λ line. event_of (c.args.cluster.now).schema c.args.number line ≡ Err reason) _ (c.in-Ok-Line.ensures.line (ap Ok c.in-Ok-Line.field-0-is)) (rw c.as_slice.ensures at none.1))

pub returns-in-Err-take_line-clause-refused : goal.returns-in-Err-take_line-clause-refused
returns-in-Err-take_line-clause-refused g c at why is done events after =
    let stop_is : c.in-Err-take_line.stop ≡ Refused at why = cc in
    let refused = c.in-Err-take_line.ensures.refused at why (ap Err stop_is) done events after in
    (refused.0, stops_next _ _ (λ line. IsRefused c.args.cluster.now c.args.number line (stood c.args.cluster.now events) why) _ (c.in-Ok-Line.ensures.line (ap Ok c.in-Ok-Line.field-0-is)) (rw c.as_slice.ensures at refused.1))

pub returns-in-Err-take_line-clause-limit : goal.returns-in-Err-take_line-clause-limit
returns-in-Err-take_line-clause-limit g c at is done events after =
    let stop_is : c.in-Err-take_line.stop ≡ Limit at = cc in
    let limit = c.in-Err-take_line.ensures.limit at (ap Err stop_is) done events after in
    (limit.0, stops_next _ _ (λ line. IsPastLast c.args.cluster.now c.args.number line (stood c.args.cluster.now events)) _ (c.in-Ok-Line.ensures.line (ap Ok c.in-Ok-Line.field-0-is)) (rw c.as_slice.ensures at limit.1))

pub returns-in-Ok-Long-clause-cut : goal.returns-in-Ok-Long-clause-cut
returns-in-Ok-Long-clause-cut g c done events after = inl (waits_front _ _)

pub returns-in-Err-clause-cut : goal.returns-in-Err-clause-cut
returns-in-Err-clause-cut g c done events after = inl (waits_front _ _)

pub returns-in-Err-take_line-clause-cut : goal.returns-in-Err-take_line-clause-cut
returns-in-Err-take_line-clause-cut g c done events after = inl (waits_front _ _)

pub returns-in-Ok-tell-clause-step : goal.returns-in-Ok-tell-clause-step
returns-in-Ok-tell-clause-step g c is =
    let added = c.in-Ok.added.items in
    let report = c.args.report in
    let schema = (c.args.cluster.now).schema in record {
      added = added;
      follows = c.in-Ok-Line.ensures.line (ap Ok c.in-Ok-Line.field-0-is);
      proceeds = λ done events after. subst (λ (line : List ℕ). Proceeds c.args.cluster.now c.args.number line events c.take_line.new.world added) c.as_slice.ensures (c.in-Ok.ensures.state done events after);
      said = subst (λ (items : List Item). Writes (g.O.Sink.held c.args.out.now) (g.O.Sink.held c.tell.new.out) c.tell.new.waiting (c.args.waiting.now ++ so_far report schema items)) c.as_slice-2.ensures c.in-Ok-tell.ensures.text;
      tallied = λ items before. subst (λ (more : List Item). IsTallied report c.tell.new.tally (items ++ more)) c.as_slice-2.ensures (c.in-Ok-tell.ensures.tallied items before);
    }

pub tell-requires : goal.tell-requires
tell-requires g c = subst (All HasLine) (sym c.as_slice-2.ensures) c.in-Ok.ensures.lines
