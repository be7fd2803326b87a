use Rattle.std.proofs.Common.{◌≡◌, [], ◌∙◌, Ok, Err, ap, subst}
use Rattle.std.specs.Io.KnownBytes.{prepend_known}
use Rattle.std.proofs.KnownBytes.{prepend_known-nil}
use Rattle.mega_replay_output.specs.declared.status.Stop.TheVariants.{Header, Source}
use Rattle.mega_replay_output.specs.Progress.{Writes, WritesFront}
use Rattle.mega_header.specs.Known.{HeaderFails}
use Rattle.mega_replay_loop.specs.Known.{IsBroken, IsHeaded}
use Rattle.mega_replay_output.proofs.Progress.{all_lost, nothing_written}
use Rattle.mega_replay_loop.proofs.Whole.{input_begun, input_broken, input_done, input_failed, input_no_event, input_refused, input_unbegun, input_unfailed, input_limit}
use Rattle.mega_replay_loop.proofs.replay.replay.Goals as goal

pub returns-in-Err-clause-cut : goal.returns-in-Err-clause-cut
returns-in-Err-clause-cut g c =
    let held = g.O.Sink.held c.args.out.now in
    input_unbegun c.args.report (g.I.Source.left c.args.input.now) (WritesFront held held c.args.waiting.now) (all_lost held c.args.waiting.now [] c.requires.none_waits)

pub returns-in-Err-read_header-clause-header : goal.returns-in-Err-read_header-clause-header
returns-in-Err-read_header-clause-header g c rule is =
    let fresh = ap (λ read. prepend_known read (g.I.Source.left c.args.input.now)) c.in-Ok.ensures ∙ prepend_known-nil (g.I.Source.left c.args.input.now) in
    let stop_is : c.in-Err-read_header.stop ≡ Header rule = cc in
    let held = g.O.Sink.held c.args.out.now in
    input_broken (g.I.Source.left c.args.input.now) rule (Writes held held c.args.waiting.now) (subst (λ known. IsBroken known rule) fresh (c.in-Err-read_header.ensures.broken rule (ap Err stop_is)))
    (nothing_written held c.args.waiting.now c.requires.none_waits)

pub returns-clause-none : goal.returns-clause-none
returns-clause-none g c at reason is =
    let fresh = ap (λ read. prepend_known read (g.I.Source.left c.args.input.now)) c.in-Ok.ensures ∙ prepend_known-nil (g.I.Source.left c.args.input.now) in
    let left = prepend_known c.read_header.new.reader (g.I.Source.left c.read_header.new.input) in
    input_no_event c.args.report (g.I.Source.left c.args.input.now) left c.in-Ok-read_header.cluster at reason (Writes (g.O.Sink.held c.args.out.now) (g.O.Sink.held c.run_schedule.new.out) c.run_schedule.new.waiting)
    (subst (λ known. IsHeaded known left c.in-Ok-read_header.cluster) fresh c.in-Ok-read_header.ensures.headed) (c.run_schedule.ensures.none at reason is)

pub returns-clause-refused : goal.returns-clause-refused
returns-clause-refused g c at why is =
    let fresh = ap (λ read. prepend_known read (g.I.Source.left c.args.input.now)) c.in-Ok.ensures ∙ prepend_known-nil (g.I.Source.left c.args.input.now) in
    let left = prepend_known c.read_header.new.reader (g.I.Source.left c.read_header.new.input) in
    input_refused c.args.report (g.I.Source.left c.args.input.now) left c.in-Ok-read_header.cluster at why (Writes (g.O.Sink.held c.args.out.now) (g.O.Sink.held c.run_schedule.new.out) c.run_schedule.new.waiting)
    (subst (λ known. IsHeaded known left c.in-Ok-read_header.cluster) fresh c.in-Ok-read_header.ensures.headed) (c.run_schedule.ensures.refused at why is)

pub returns-clause-limit : goal.returns-clause-limit
returns-clause-limit g c at is =
    let fresh = ap (λ read. prepend_known read (g.I.Source.left c.args.input.now)) c.in-Ok.ensures ∙ prepend_known-nil (g.I.Source.left c.args.input.now) in
    let left = prepend_known c.read_header.new.reader (g.I.Source.left c.read_header.new.input) in
    input_limit c.args.report (g.I.Source.left c.args.input.now) left c.in-Ok-read_header.cluster at (Writes (g.O.Sink.held c.args.out.now) (g.O.Sink.held c.run_schedule.new.out) c.run_schedule.new.waiting)
    (subst (λ known. IsHeaded known left c.in-Ok-read_header.cluster) fresh c.in-Ok-read_header.ensures.headed) (c.run_schedule.ensures.limit at is)

pub returns-in-Err-read_header-clause-broken : goal.returns-in-Err-read_header-clause-broken
returns-in-Err-read_header-clause-broken g c is =
    let fresh = ap (λ read. prepend_known read (g.I.Source.left c.args.input.now)) c.in-Ok.ensures ∙ prepend_known-nil (g.I.Source.left c.args.input.now) in
    let stop_is : c.in-Err-read_header.stop ≡ Source = cc in
    let held = g.O.Sink.held c.args.out.now in
    let left = g.I.Source.left c.read_header.new.input in
    input_unfailed c.args.report (g.I.Source.left c.args.input.now) left (Writes held held c.args.waiting.now) (subst (λ known. HeaderFails known left) fresh (c.in-Err-read_header.ensures.fault (ap Err stop_is)))
    (nothing_written held c.args.waiting.now c.requires.none_waits)

pub returns-clause-broken : goal.returns-clause-broken
returns-clause-broken g c is =
    let fresh = ap (λ read. prepend_known read (g.I.Source.left c.args.input.now)) c.in-Ok.ensures ∙ prepend_known-nil (g.I.Source.left c.args.input.now) in
    let middle = prepend_known c.read_header.new.reader (g.I.Source.left c.read_header.new.input) in
    input_failed c.args.report (g.I.Source.left c.args.input.now) middle (g.I.Source.left c.run_schedule.new.input) c.in-Ok-read_header.cluster (Writes (g.O.Sink.held c.args.out.now) (g.O.Sink.held c.run_schedule.new.out) c.run_schedule.new.waiting)
    (subst (λ known. IsHeaded known middle c.in-Ok-read_header.cluster) fresh c.in-Ok-read_header.ensures.headed) (c.run_schedule.ensures.broken is)
