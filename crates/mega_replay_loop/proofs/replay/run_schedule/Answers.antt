use Rattle.std.proofs.Common.{[], ◌∙◌, subst, sym}
use Rattle.std.specs.List.{All}
use Rattle.std.specs.Io.KnownBytes.{prepend_known}
use Rattle.std.proofs.lemmas.Result.{on_err_weaker, on_ok_weaker}
use Rattle.mega_transcript.specs.Lines.{HasLine}
use Rattle.mega_transcript.specs.Tape.{newest}
use Rattle.mega_replay_output.specs.Progress.{WritesFront}
use Rattle.mega_replay_loop.specs.Replaying.{text_at}
use Rattle.mega_line_events.specs.Running.{stood}
use Rattle.mega_replay_output.specs.Texts.{IsTallied}
use Rattle.mega_replay_output.proofs.Progress.{all_lost}
use Rattle.mega_replay_loop.proofs.Starts.{starts}
use Rattle.mega_replay_loop.proofs.Steps.{cut_before}
use Rattle.mega_replay_output.proofs.Texts.{begun_front, begun_text, tallied_none}
use Rattle.mega_replay_loop.proofs.replay.run_schedule.Goals as goal

pub returns-in-Err-clause-cut : goal.returns-in-Err-clause-cut
returns-in-Err-clause-cut g c =
    let held = g.O.Sink.held c.args.out.now in
    cut_before c.args.report c.args.cluster.now (prepend_known c.args.reader.now (g.I.Source.left c.args.input.now)) (WritesFront held held c.args.waiting.now) (starts c.args.cluster.now c.requires.read)
    (all_lost held c.args.waiting.now (text_at c.args.report c.args.cluster.now []) c.requires.none_waits)

pub returns-in-Err-tell-clause-cut : goal.returns-in-Err-tell-clause-cut
returns-in-Err-tell-clause-cut g c =
    let before = g.O.Sink.held c.args.out.now in
    let after = g.O.Sink.held c.tell.new.out in
    let schema = (c.args.cluster.now).schema in
    cut_before c.args.report c.args.cluster.now (prepend_known c.args.reader.now (g.I.Source.left c.args.input.now)) (WritesFront before after c.tell.new.waiting) (starts c.args.cluster.now c.requires.read)
    (begun_front c.args.report schema before after c.args.waiting.now c.tell.new.waiting c.as_slice.result.now (newest (stood c.args.cluster.now []).tape) c.requires.none_waits (c.as_slice.ensures ∙ c.in-Ok.ensures.tape) c.in-Err-tell.ensures.cut)

pub tell-requires : goal.tell-requires
tell-requires g c = subst (All HasLine) (sym c.as_slice.ensures) c.in-Ok.ensures.lines

pub run_whole-requires-clause-tallied : goal.run_whole-requires-clause-tallied
run_whole-requires-clause-tallied g c =
    subst (IsTallied c.args.report c.tell.new.tally) (c.as_slice.ensures ∙ c.in-Ok.ensures.tape) (c.in-Ok-tell.ensures.tallied [] (tallied_none c.args.report c.new-tally.result c.new-tally.ensures))

pub returns-clause-done : goal.returns-clause-done
returns-clause-done g c =
    let before = g.O.Sink.held c.args.out.now in
    let held = g.O.Sink.held c.tell.new.out in
    let schema = (c.args.cluster.now).schema in
    let fresh = begun_text c.args.report schema before held c.args.waiting.now c.tell.new.waiting c.as_slice.result.now (newest (stood c.args.cluster.now []).tape) c.requires.none_waits (c.as_slice.ensures ∙ c.in-Ok.ensures.tape) c.in-Ok-tell.ensures.text in
    on_ok_weaker c.run_whole.result (λ done. done before fresh) c.run_whole.ensures.done

pub returns-clause-limit : goal.returns-clause-limit
returns-clause-limit g c at is =
    let before = g.O.Sink.held c.args.out.now in
    let held = g.O.Sink.held c.tell.new.out in
    let schema = (c.args.cluster.now).schema in
    let fresh = begun_text c.args.report schema before held c.args.waiting.now c.tell.new.waiting c.as_slice.result.now (newest (stood c.args.cluster.now []).tape) c.requires.none_waits (c.as_slice.ensures ∙ c.in-Ok.ensures.tape) c.in-Ok-tell.ensures.text in
    c.run_whole.ensures.limit at is before fresh

pub returns-clause-none : goal.returns-clause-none
returns-clause-none g c at reason is =
    let before = g.O.Sink.held c.args.out.now in
    let held = g.O.Sink.held c.tell.new.out in
    let schema = (c.args.cluster.now).schema in
    let fresh = begun_text c.args.report schema before held c.args.waiting.now c.tell.new.waiting c.as_slice.result.now (newest (stood c.args.cluster.now []).tape) c.requires.none_waits (c.as_slice.ensures ∙ c.in-Ok.ensures.tape) c.in-Ok-tell.ensures.text in
    c.run_whole.ensures.none at reason is before fresh

pub returns-clause-refused : goal.returns-clause-refused
returns-clause-refused g c at why is =
    let before = g.O.Sink.held c.args.out.now in
    let held = g.O.Sink.held c.tell.new.out in
    let schema = (c.args.cluster.now).schema in
    let fresh = begun_text c.args.report schema before held c.args.waiting.now c.tell.new.waiting c.as_slice.result.now (newest (stood c.args.cluster.now []).tape) c.requires.none_waits (c.as_slice.ensures ∙ c.in-Ok.ensures.tape) c.in-Ok-tell.ensures.text in
    c.run_whole.ensures.refused at why is before fresh

pub returns-clause-broken : goal.returns-clause-broken
returns-clause-broken g c is =
    let before = g.O.Sink.held c.args.out.now in
    let held = g.O.Sink.held c.tell.new.out in
    let schema = (c.args.cluster.now).schema in
    let fresh = begun_text c.args.report schema before held c.args.waiting.now c.tell.new.waiting c.as_slice.result.now (newest (stood c.args.cluster.now []).tape) c.requires.none_waits (c.as_slice.ensures ∙ c.in-Ok.ensures.tape) c.in-Ok-tell.ensures.text in
    c.run_whole.ensures.broken is before fresh

pub returns-clause-cut : goal.returns-clause-cut
returns-clause-cut g c =
    let before = g.O.Sink.held c.args.out.now in
    let held = g.O.Sink.held c.tell.new.out in
    let schema = (c.args.cluster.now).schema in
    let fresh = begun_text c.args.report schema before held c.args.waiting.now c.tell.new.waiting c.as_slice.result.now (newest (stood c.args.cluster.now []).tape) c.requires.none_waits (c.as_slice.ensures ∙ c.in-Ok.ensures.tape) c.in-Ok-tell.ensures.text in
    on_err_weaker c.run_whole.result (λ cut. cut before fresh) c.run_whole.ensures.cut
