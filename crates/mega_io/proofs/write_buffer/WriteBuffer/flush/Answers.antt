use Rattle.std.proofs.Common.{◌≤◌, ◌∙◌, ap, drop, length, arith}
use Rattle.std.proofs.KnownBytes.{Keeps-trans}
use Rattle.mega_io.proofs.Reading.{moved_on}
use Rattle.mega_io.proofs.write_buffer.WriteBuffer.flush.Goals as goal

pub loop-self-preserved : goal.loop-self-preserved
loop-self-preserved g c =
    let rest_is = c.split_at.ensures.back ∙ ap (drop c.loop-self.self-inside.sent) c.as_slice.ensures in
    (Keeps-trans _ _ _ c.loop-self.invariant.0 (moved_on _ _ c.loop-self.self-inside.pieces c.split_at.result.1.now c.loop-self.self-inside.sent c.in-Ok.count rest_is c.in-Ok.ensures.bytes), omega arith, omega (arith, c.in-Ok.ensures.bound, ap length c.as_slice.ensures, c.split_at.ensures.back_len))
