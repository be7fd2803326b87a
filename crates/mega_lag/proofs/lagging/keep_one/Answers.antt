use Rattle.std.proofs.Common.{◌∙◌, sym}
use Rattle.mega_step_parts.specs.Behind.{is_behind}
use Rattle.mega_lag.specs.Lagging.{lags}
use Rattle.mega_lag.proofs.Lags.{put_in, took_out}
use Rattle.mega_lag.proofs.lagging.keep_one.Goals as goal

pub returns-then-is_behind : goal.returns-then-is_behind
returns-then-is_behind g c = λ met stored keeps other.
    put_in (is_behind met stored) c.args.group.now other (lags c.args.lagging.now other) (lags c.put.new.lagging other)
    (sym (c.is_behind.ensures met stored keeps) ∙ c.if-is_behind.true) (c.in_ok-put.ensures other)

pub returns : goal.returns
returns g c = λ met stored keeps other.
    took_out (is_behind met stored) c.args.group.now other (lags c.args.lagging.now other) (lags c.take_out.new.lagging other)
    (sym (c.is_behind.ensures met stored keeps) ∙ c.if-is_behind.false) (c.take_out.ensures other)
