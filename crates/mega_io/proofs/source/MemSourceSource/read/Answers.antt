use Rattle.std.proofs.Common.{◌∙◌, ap, drop, arith}
use Rattle.mega_io.proofs.Reading.{taken_front, nothing_left}
use Rattle.mega_io.proofs.source.MemSourceSource.read.Goals as goal

pub returns-clause-bytes : goal.returns-clause-bytes
returns-clause-bytes c =
    let left_is = c.split_at.ensures.back ∙ ap (drop c.self.inside.at) c.as_slice-2.ensures.value in
    rw (← c.self.view_is) (taken_front _ _ _ _ _ left_is c.copy_front-count.ensures.bytes, λ none some. nothing_left _ _ _ _ _ left_is c.copy_front-count.ensures.count none (omega arith))
