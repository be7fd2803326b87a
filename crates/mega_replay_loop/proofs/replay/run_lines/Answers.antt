use Rattle.std.proofs.Common.{◌≡◌, ℕ, ◌+◌, List, Option, Ok, Err, ap, arith, subst, sym}
use Rattle.std.specs.Io.KnownBytes.{prepend_known}
use Rattle.mega_meanings.proofs.Lasting.{means_still}
use Rattle.mega_meanings.specs.BuiltIn.{built_in}
use Rattle.mega_schedule.specs.Events.{event_of}
use Rattle.mega_tally.specs.declared.tally.Tally.{Tally}
use Rattle.mega_transcript.specs.Tape.{newest}
use Rattle.mega_replay_output.specs.declared.status.Stop.TheVariants.{Refused, Schedule, Source, Limit}
use Rattle.mega_replay_output.specs.Progress.{Writes}
use Rattle.mega_line_events.specs.Refusals.{IsRefused, IsPastLast}
use Rattle.mega_replay_loop.specs.Replaying.{text_at}
use Rattle.mega_line_events.specs.Running.{stood}
use Rattle.mega_replay_loop.specs.Known.{LeftRanOut}
use Rattle.mega_replay_output.specs.Texts.{IsTallied}
use Rattle.mega_replay_output.proofs.Progress.{same_writes}
use Rattle.mega_replay_loop.proofs.Steps.{begun, cut_after, cut_line, fails_here, long_stops, past_stops, ran_on, ran_out, stopped, stopped_at, unwritten}
use Rattle.mega_replay_output.proofs.Texts.{written_on}
use Rattle.mega_replay_loop.proofs.replay.run_lines.Goals as goal

pub returns-in-Err-clause-none : goal.returns-in-Err-clause-none
returns-in-Err-clause-none g c at reason is first before =
    let stop_is : c.in-Err.stop ≡ Schedule at reason = cc in
    let ran = c.loop-count.invariant.0 in
    let stops = c.in-Err.ensures.none at reason (ap Err stop_is) in
    let kept = unwritten c.in-Err.stop (Schedule at reason) _ stop_is tt c.in-Err.ensures.kept in
    let held = g.O.Sink.held c.do_line.new.out in
    stopped_at c.args.report c.args.cluster.now (prepend_known c.args.reader.now (g.I.Source.left c.args.input.now)) (prepend_known c.loop-count.reader (g.I.Source.left c.loop-count.input)) (λ number line now. event_of (c.args.cluster.now).schema number line ≡ Err reason) (Writes first held c.do_line.new.waiting) c.loop-count.world c.loop-count.count at _ ran stops.0 stops.1
    (same_writes first (g.O.Sink.held c.loop-count.out) held c.loop-count.waiting c.do_line.new.waiting (text_at c.args.report c.args.cluster.now c.loop-count.invariant.0.events) kept.0 kept.1 (c.loop-count.invariant.0.so.1 first before))

pub returns-in-Err-clause-refused : goal.returns-in-Err-clause-refused
returns-in-Err-clause-refused g c at why is first before =
    let stop_is : c.in-Err.stop ≡ Refused at why = cc in
    let ran = c.loop-count.invariant.0 in
    let stops = c.in-Err.ensures.refused at why (ap Err stop_is) ran.done ran.events ran.after in
    let kept = unwritten c.in-Err.stop (Refused at why) _ stop_is tt c.in-Err.ensures.kept in
    let held = g.O.Sink.held c.do_line.new.out in
    stopped_at c.args.report c.args.cluster.now (prepend_known c.args.reader.now (g.I.Source.left c.args.input.now)) (prepend_known c.loop-count.reader (g.I.Source.left c.loop-count.input)) (λ number line now. IsRefused c.args.cluster.now number line now why) (Writes first held c.do_line.new.waiting) c.loop-count.world c.loop-count.count at _ ran stops.0 stops.1
    (same_writes first (g.O.Sink.held c.loop-count.out) held c.loop-count.waiting c.do_line.new.waiting (text_at c.args.report c.args.cluster.now c.loop-count.invariant.0.events) kept.0 kept.1 (c.loop-count.invariant.0.so.1 first before))

pub returns-in-Err-clause-limit : goal.returns-in-Err-clause-limit
returns-in-Err-clause-limit g c at is first before =
    let stop_is : c.in-Err.stop ≡ Limit at = cc in
    let ran = c.loop-count.invariant.0 in
    let stops = c.in-Err.ensures.limit at (ap Err stop_is) ran.done ran.events ran.after in
    let kept = unwritten c.in-Err.stop (Limit at) _ stop_is tt c.in-Err.ensures.kept in
    let held = g.O.Sink.held c.do_line.new.out in
    stopped_at c.args.report c.args.cluster.now (prepend_known c.args.reader.now (g.I.Source.left c.args.input.now)) (prepend_known c.loop-count.reader (g.I.Source.left c.loop-count.input)) (λ number line now. IsPastLast c.args.cluster.now number line now) (Writes first held c.do_line.new.waiting) c.loop-count.world c.loop-count.count at _ ran stops.0 stops.1
    (same_writes first (g.O.Sink.held c.loop-count.out) held c.loop-count.waiting c.do_line.new.waiting (text_at c.args.report c.args.cluster.now c.loop-count.invariant.0.events) kept.0 kept.1 (c.loop-count.invariant.0.so.1 first before))

pub returns-in-Err-clause-broken : goal.returns-in-Err-clause-broken
returns-in-Err-clause-broken g c is first before =
    let stop_is : c.in-Err.stop ≡ Source = cc in
    let kept = unwritten c.in-Err.stop Source _ stop_is tt c.in-Err.ensures.kept in
    let held = g.O.Sink.held c.do_line.new.out in
    fails_here c.args.report c.args.cluster.now (prepend_known c.args.reader.now (g.I.Source.left c.args.input.now)) (prepend_known c.loop-count.reader (g.I.Source.left c.loop-count.input)) (g.I.Source.left c.do_line.new.input) c.do_line.new.reader c.do_line.new.line (Writes first held c.do_line.new.waiting) c.loop-count.world c.loop-count.count _ c.loop-count.invariant.0 (c.in-Err.ensures.fault (ap Err stop_is))
    (same_writes first (g.O.Sink.held c.loop-count.out) held c.loop-count.waiting c.do_line.new.waiting (text_at c.args.report c.args.cluster.now c.loop-count.invariant.0.events) kept.0 kept.1 (c.loop-count.invariant.0.so.1 first before))

pub returns-in-Err-clause-cut : goal.returns-in-Err-clause-cut
returns-in-Err-clause-cut g c first before =
    let ran = c.loop-count.invariant.0 in
    cut_line c.args.report c.args.cluster.now (prepend_known c.args.reader.now (g.I.Source.left c.args.input.now)) (prepend_known c.loop-count.reader (g.I.Source.left c.loop-count.input)) (prepend_known c.do_line.new.reader (g.I.Source.left c.do_line.new.input)) c.do_line.new.line c.loop-count.world c.do_line.new.world
    c.loop-count.count _ first (g.O.Sink.held c.loop-count.out) (g.O.Sink.held c.do_line.new.out) c.loop-count.waiting c.do_line.new.waiting ran (ran.so.1 first before) (c.in-Err.ensures.cut ran.done ran.events ran.after)

pub returns-in-Ok-false-clause-done : goal.returns-in-Ok-false-clause-done
returns-in-Ok-false-clause-done g c first before =
    let ended = ap Ok c.in-Ok-false.field-0-test in
    let still = c.in-Ok-false.ensures.still ended in
    let ran = c.loop-count.invariant.0 in
    let held = g.O.Sink.held c.do_line.new.out in
    ran_out c.args.report c.args.cluster.now (prepend_known c.args.reader.now (g.I.Source.left c.args.input.now)) (prepend_known c.loop-count.reader (g.I.Source.left c.loop-count.input)) c.loop-count.world c.loop-count.count _ c.do_line.new.tally (Writes first held c.do_line.new.waiting) ran (c.in-Ok-false.ensures.end ended).0
    (subst (λ (tally : Tally). IsTallied c.args.report tally (newest (stood c.args.cluster.now ran.events).tape)) (sym still.0) ran.so.0)
    (same_writes first (g.O.Sink.held c.loop-count.out) held c.loop-count.waiting c.do_line.new.waiting (text_at c.args.report c.args.cluster.now ran.events) still.1 still.2 (ran.so.1 first before))

pub returns-in-Ok-End-clause-done : goal.returns-in-Ok-End-clause-done
returns-in-Ok-End-clause-done g c first before =
    let all : c.loop-count.count ≡ 1000000 = omega arith in
    let ran = c.loop-count.invariant.0 in
    let Says = Writes first (g.O.Sink.held c.loop-count.out) c.loop-count.waiting in
    subst (λ (n : ℕ). LeftRanOut c.args.report c.args.cluster.now (prepend_known c.args.reader.now (g.I.Source.left c.args.input.now)) c.loop-count.tally n Says) all
    (ran_out c.args.report c.args.cluster.now (prepend_known c.args.reader.now (g.I.Source.left c.args.input.now)) (prepend_known c.loop-count.reader (g.I.Source.left c.loop-count.input)) c.loop-count.world c.loop-count.count _ c.loop-count.tally Says ran (c.in-Ok-End.ensures.end (ap Ok c.in-Ok-End.field-0-is)).0 ran.so.0 (ran.so.1 first before))

pub returns-in-Ok-Line-clause-none : goal.returns-in-Ok-Line-clause-none
returns-in-Ok-Line-clause-none g c at reason is first before =
    let at_is : 1000001 ≡ at = cc in
    let why : ◌≡◌ {A = ℕ} 8 reason = cc in
    let line_is = ap Ok c.in-Ok-Line.field-0-is in
    stopped c.args.report c.args.cluster.now (prepend_known c.args.reader.now (g.I.Source.left c.args.input.now)) (prepend_known c.loop-count.reader (g.I.Source.left c.loop-count.input)) (λ line now. event_of (c.args.cluster.now).schema at line ≡ Err reason) (Writes first (g.O.Sink.held c.loop-count.out) c.loop-count.waiting) c.loop-count.world c.loop-count.count at _
    c.loop-count.invariant.0 (omega arith)
    (past_stops (prepend_known c.loop-count.reader (g.I.Source.left c.loop-count.input)) (prepend_known c.next_line.new.reader (g.I.Source.left c.next_line.new.input)) c.next_line.new.line (c.args.cluster.now).schema at reason (c.in-Ok-Line.ensures.line line_is) (c.in-Ok-Line.ensures.short line_is) (omega arith) why)
    (c.loop-count.invariant.0.so.1 first before)

pub returns-in-Ok-Long-clause-none : goal.returns-in-Ok-Long-clause-none
returns-in-Ok-Long-clause-none g c at reason is first before =
    let at_is : 1000001 ≡ at = cc in
    let why : ◌≡◌ {A = ℕ} 7 reason = cc in
    stopped c.args.report c.args.cluster.now (prepend_known c.args.reader.now (g.I.Source.left c.args.input.now)) (prepend_known c.loop-count.reader (g.I.Source.left c.loop-count.input)) (λ line now. event_of (c.args.cluster.now).schema at line ≡ Err reason) (Writes first (g.O.Sink.held c.loop-count.out) c.loop-count.waiting) c.loop-count.world c.loop-count.count at _
    c.loop-count.invariant.0 (omega arith) (rw (← why) (long_stops (prepend_known c.loop-count.reader (g.I.Source.left c.loop-count.input)) (c.args.cluster.now).schema at (c.in-Ok-Long.ensures.long (ap Ok c.in-Ok-Long.field-0-is)))) (c.loop-count.invariant.0.so.1 first before)

pub returns-in-Ok-Line-clause-cut : goal.returns-in-Ok-Line-clause-cut
returns-in-Ok-Line-clause-cut g c first before =
    cut_after c.args.report c.args.cluster.now (prepend_known c.args.reader.now (g.I.Source.left c.args.input.now)) (prepend_known c.loop-count.reader (g.I.Source.left c.loop-count.input)) c.loop-count.world c.loop-count.count _ first (g.O.Sink.held c.loop-count.out) c.loop-count.waiting c.loop-count.invariant.0 (c.loop-count.invariant.0.so.1 first before)

pub returns-in-Ok-Long-clause-cut : goal.returns-in-Ok-Long-clause-cut
returns-in-Ok-Long-clause-cut g c first before =
    cut_after c.args.report c.args.cluster.now (prepend_known c.args.reader.now (g.I.Source.left c.args.input.now)) (prepend_known c.loop-count.reader (g.I.Source.left c.loop-count.input)) c.loop-count.world c.loop-count.count _ first (g.O.Sink.held c.loop-count.out) c.loop-count.waiting c.loop-count.invariant.0 (c.loop-count.invariant.0.so.1 first before)

pub returns-in-Err-next_line-clause-cut : goal.returns-in-Err-next_line-clause-cut
returns-in-Err-next_line-clause-cut g c first before =
    cut_after c.args.report c.args.cluster.now (prepend_known c.args.reader.now (g.I.Source.left c.args.input.now)) (prepend_known c.loop-count.reader (g.I.Source.left c.loop-count.input)) c.loop-count.world c.loop-count.count _ first (g.O.Sink.held c.loop-count.out) c.loop-count.waiting c.loop-count.invariant.0 (c.loop-count.invariant.0.so.1 first before)

pub returns-in-Err-next_line-clause-broken : goal.returns-in-Err-next_line-clause-broken
returns-in-Err-next_line-clause-broken g c is first before =
    let stop_is : c.in-Err-next_line.stop ≡ Source = cc in
    fails_here c.args.report c.args.cluster.now (prepend_known c.args.reader.now (g.I.Source.left c.args.input.now)) (prepend_known c.loop-count.reader (g.I.Source.left c.loop-count.input)) (g.I.Source.left c.next_line.new.input) c.next_line.new.reader c.next_line.new.line (Writes first (g.O.Sink.held c.loop-count.out) c.loop-count.waiting) c.loop-count.world c.loop-count.count _ c.loop-count.invariant.0
    (c.in-Err-next_line.ensures.fault (ap Err stop_is)) (c.loop-count.invariant.0.so.1 first before)

pub loop-count-preserved : goal.loop-count-preserved
loop-count-preserved g c =
    let done = ap Ok c.in-Ok-true.field-0-test in
    let ran = c.loop-count.invariant.0 in
    let does = c.in-Ok-true.ensures.step done in (
      ran_on c.args.cluster.now (prepend_known c.args.reader.now (g.I.Source.left c.args.input.now)) (prepend_known c.loop-count.reader (g.I.Source.left c.loop-count.input)) (prepend_known c.do_line.new.reader (g.I.Source.left c.do_line.new.input)) c.loop-count.world c.do_line.new.world c.loop-count.count
          c.do_line.new.line does.added _ _ ran does.follows (does.proceeds ran.done ran.events ran.after)
          (λ items so. (
            does.tallied items so.0,
            λ first before. written_on c.args.report (c.args.cluster.now).schema first (g.O.Sink.held c.loop-count.out) (g.O.Sink.held c.do_line.new.out) c.loop-count.waiting c.do_line.new.waiting items does.added (so.1 first before) does.said,
          )),
      omega arith,
      omega arith,
      means_still (g.H.QueueHandlers.meant c.loop-count.handlers) (g.H.QueueHandlers.meant c.do_line.new.handlers) built_in c.in-Ok-true.ensures.handlers c.loop-count.invariant.3,
    )

pub loop-count-init : goal.loop-count-init
loop-count-init g c = (
  begun c.args.cluster.now (prepend_known c.args.reader.now (g.I.Source.left c.args.input.now)) c.args.world.now _ c.requires.standing (c.requires.tallied, λ first before. before),
  omega arith,
  omega arith,
  c.requires.meant,
)

pub do_line-requires-clause-meant : goal.do_line-requires-clause-meant
do_line-requires-clause-meant g c = c.loop-count.invariant.3

pub do_line-requires-clause-standing : goal.do_line-requires-clause-standing
do_line-requires-clause-standing g c = let ran = c.loop-count.invariant.0 in (ran.done, ran.events, ran.after)
