use Rattle.std.proofs.Common.{◌≡◌, arith}
use Rattle.mega_transcript_reader.proofs.Fronts.{differs_there, same_there, at_end}
use Rattle.mega_transcript_reader.proofs.parsing.common_len.Goals as goal

pub returns-then-line-length : goal.returns-then-line-length
returns-then-line-length c = differs_there c.args.line.now c.args.text.now c.loop-length.length c.loop-length.invariant (omega (arith, c.min-shorter.ensures)) (omega (arith, c.min-shorter.ensures)) c.if-line-length.true

pub loop-length-preserved : goal.loop-length-preserved
loop-length-preserved c = same_there c.args.line.now c.args.text.now c.loop-length.length c.loop-length.invariant (omega (arith, c.min-shorter.ensures)) (omega (arith, c.min-shorter.ensures)) c.if-line-length.false

pub returns : goal.returns
returns c = at_end c.args.line.now c.args.text.now c.min-shorter.result (let e : c.loop-length.length ≡ c.min-shorter.result = omega (arith, c.min-shorter.ensures) in rw e at c.loop-length.invariant) (omega (arith, c.min-shorter.ensures))
