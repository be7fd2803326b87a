use Rattle.std.proofs.Common.{◌≡◌, Err, ap, sym, subst, inl, inr}
use Rattle.std.specs.Io.KnownBytes.{Appends}
use Rattle.mega_replay_output.specs.declared.status.Stop.{Stop}
use Rattle.mega_replay_output.specs.declared.status.Stop.TheVariants.{Header, Refused, Schedule, Source, Limit}
use Rattle.mega_replay_output.specs.LastLines.{last_line}
use Rattle.mega_replay_loop.proofs.Said.{broken_held, done_front, none_held, refused_held, limit_held}
use Rattle.mega_replay_loop.proofs.Stopped.{held_or_rose, stop_front, told_stop}
use Rattle.mega_replay_loop.proofs.transcribing.transcribe.Goals as goal

pub returns-in-Ok-clause-cut : goal.returns-in-Ok-clause-cut
returns-in-Ok-clause-cut g c =
    done_front c.args.report (g.I.Source.left c.args.input.now) (g.O.Sink.held c.args.out.now) (g.O.Sink.held c.replay.new.out) (g.O.Sink.held c.write_on.new.out) c.replay.new.waiting c.in-Ok.ensures.done c.in-Err-write_on.ensures.err

pub returns-clause-header : goal.returns-clause-header
returns-clause-header g c rule is =
    let stop_is : c.write_stop.result ≡ Header rule = cc in
    let told = told_stop c.write_stop.result c.in-Err.stop (Header rule) _ _ c.replay.new.waiting stop_is tt c.write_stop.ensures.told in
    broken_held (g.I.Source.left c.args.input.now) (g.O.Sink.held c.args.out.now) (g.O.Sink.held c.replay.new.out) (g.O.Sink.held c.write_stop.new.out) c.replay.new.waiting rule (c.in-Err.ensures.header rule (ap Err told.0)) told.1

pub returns-clause-none : goal.returns-clause-none
returns-clause-none g c at reason is =
    let stop_is : c.write_stop.result ≡ Schedule at reason = cc in
    let told = told_stop c.write_stop.result c.in-Err.stop (Schedule at reason) _ _ c.replay.new.waiting stop_is tt c.write_stop.ensures.told in
    none_held c.args.report (g.I.Source.left c.args.input.now) (g.O.Sink.held c.args.out.now) (g.O.Sink.held c.replay.new.out) (g.O.Sink.held c.write_stop.new.out) c.replay.new.waiting at reason (c.in-Err.ensures.none at reason (ap Err told.0)) told.1

pub returns-clause-refused : goal.returns-clause-refused
returns-clause-refused g c at why is =
    let stop_is : c.write_stop.result ≡ Refused at why = cc in
    let told = told_stop c.write_stop.result c.in-Err.stop (Refused at why) _ _ c.replay.new.waiting stop_is tt c.write_stop.ensures.told in
    refused_held c.args.report (g.I.Source.left c.args.input.now) (g.O.Sink.held c.args.out.now) (g.O.Sink.held c.replay.new.out) (g.O.Sink.held c.write_stop.new.out) c.replay.new.waiting at why (c.in-Err.ensures.refused at why (ap Err told.0)) told.1

pub returns-clause-limit : goal.returns-clause-limit
returns-clause-limit g c at is =
    let stop_is : c.write_stop.result ≡ Limit at = cc in
    let told = told_stop c.write_stop.result c.in-Err.stop (Limit at) _ _ c.replay.new.waiting stop_is tt c.write_stop.ensures.told in
    limit_held c.args.report (g.I.Source.left c.args.input.now) (g.O.Sink.held c.args.out.now) (g.O.Sink.held c.replay.new.out) (g.O.Sink.held c.write_stop.new.out) c.replay.new.waiting at (c.in-Err.ensures.limit at (ap Err told.0)) told.1

pub returns-clause-broken : goal.returns-clause-broken
returns-clause-broken g c is =
    let stop_is : c.write_stop.result ≡ Source = cc in
    let told = c.write_stop.ensures.broken stop_is in
    held_or_rose c.args.report (g.I.Source.left c.args.input.now) (g.I.Source.left c.replay.new.input) (g.O.Sink.held c.args.out.now) (g.O.Sink.held c.replay.new.out) (g.O.Sink.held c.write_stop.new.out) c.replay.new.waiting _ _ _ c.replay.ensures.outs c.write_stop.ensures.count
    (c.in-Err.ensures.broken (ap Err told.0)) told.1

pub returns-clause-cut : goal.returns-clause-cut
returns-clause-cut g c =
    stop_front c.args.report c.in-Err.stop (g.I.Source.left c.args.input.now) (g.O.Sink.held c.args.out.now) (g.O.Sink.held c.replay.new.out) (g.O.Sink.held c.write_stop.new.out) c.replay.new.waiting
    (λ rule stop. c.in-Err.ensures.header rule (ap Err stop)) (λ at reason stop. c.in-Err.ensures.none at reason (ap Err stop)) (λ at why stop. c.in-Err.ensures.refused at why (ap Err stop))
    (λ at stop. c.in-Err.ensures.limit at (ap Err stop)) c.in-Err.ensures.cut c.write_stop.ensures.front
