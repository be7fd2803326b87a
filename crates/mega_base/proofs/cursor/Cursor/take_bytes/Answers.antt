use Rattle.std.proofs.Common.{IsErr, subst, arith}
use Rattle.mega_base.specs.Reading.{Place, number_in}
use Rattle.mega_base.proofs.Longer.{long_is_err}
use Rattle.mega_base.proofs.cursor.Cursor.take_bytes.Goals as goal

pub excess_byte-requires : goal.excess_byte-requires
excess_byte-requires c =
    let P : Place → Type 0 = λ z. IsErr (number_in 4 0 65536 z) in
    subst P c.self.view_is (long_is_err _ _ c.in_ok-length.length c.in_ok-length.ensures.ok (omega arith) (omega arith))
