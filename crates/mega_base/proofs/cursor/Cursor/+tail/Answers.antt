use Rattle.std.proofs.Common.{◌^◌, ◌<◌, ◌≤◌, ◌≢◌, ◌-◌, arith}
use Rattle.mega_base.specs.Chars.{pow_64_pos}
use Rattle.mega_base.specs.Codecs.{byte_most}
use Rattle.mega_base.proofs.Powers.{tail_scale_fits, tail_next, tail_small}
use Rattle.mega_base.proofs.cursor.Cursor.+tail.Goals as goal

pub pow-scale-requires : goal.pow-scale-requires
pow-scale-requires t c = tail_scale_fits (c.args.count - 1) (omega (arith, c.requires.few, c.if-count-eq0.false))

pub nonzero_div-low : goal.nonzero_div-low
nonzero_div-low t c = rw c.pow-scale.ensures (pow_64_pos (c.args.count - 1))

pub nonzero_div-high : goal.nonzero_div-high
nonzero_div-high t c = rw c.pow-scale.ensures (pow_64_pos (c.args.count - 1))

pub overflow_mul-top : goal.overflow_mul-top
overflow_mul-top t c = omega (arith, tail_small c.args.count c.args.top 0 c.requires.few (omega (arith, c.if-count-eq0.false)) c.requires.small (omega arith))

pub overflow_mul-top-2 : goal.overflow_mul-top-2
overflow_mul-top-2 t c = omega (arith, tail_small c.args.count c.args.top 0 c.requires.few (omega (arith, c.if-count-eq0.false)) c.requires.small (omega arith))

pub overflow_mul-top-3 : goal.overflow_mul-top-3
overflow_mul-top-3 t c = omega (arith, tail_small c.args.count c.args.top 0 c.requires.few (omega (arith, c.if-count-eq0.false)) c.requires.small (omega arith))

pub overflow_add-top : goal.overflow_add-top
overflow_add-top t c = omega (arith, tail_small c.args.count c.args.top c.saturating_sub-3.result c.requires.few (omega (arith, c.if-count-eq0.false)) c.requires.small (omega (arith, byte_most _ _ _ _ _ c.in_ok-byte.ensures)))

pub tail-requires : goal.tail-requires
tail-requires t c = (omega (arith, c.if-count-eq0.false), (omega (arith, c.requires.few), tail_next c.args.count c.args.top _ c.requires.few (omega (arith, c.if-count-eq0.false)) c.requires.small (omega (arith, byte_most _ _ _ _ _ c.in_ok-byte.ensures))))
