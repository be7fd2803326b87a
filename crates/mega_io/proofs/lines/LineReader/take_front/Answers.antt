use Rattle.std.proofs.Common.{◌<◌, ◌∙◌, ap, drop, take, length, arith}
use Rattle.mega_io.proofs.Breaks.{took_line}
use Rattle.mega_io.proofs.lines.LineReader.take_front.Goals as goal

pub returns : goal.returns
returns c =
    let front_is = c.split_at.ensures.front ∙ ap (take c.self.inside.filled) c.as_slice.ensures.value in
    let rest_is = c.split_at-2.ensures.back ∙ ap (drop c.self.inside.at) front_is in
    let within : c.unbroken_length-length.result < length c.split_at-2.result.1.now = omega (arith, c.unbroken_length-length.ensures.bound) in
    record {
      part = rw (← c.self.view_is) (took_line (take c.self.inside.filled c.self.inside.chunk.items) c.split_at-2.result.1.now c.split_at-3.result.0.now _ _ c.self.inside.at c.unbroken_length-length.result rest_is c.split_at-3.ensures.front c.in_ok-extend_from_slice.ensures.ok c.unbroken_length-length.ensures.unbroken within (c.unbroken_length-length.ensures.feed within));
    }
