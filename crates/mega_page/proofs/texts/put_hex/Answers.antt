use Rattle.std.proofs.Common.{arith}
use Rattle.std.proofs.lemmas.Bool.Decides.{nat_tests}
use Rattle.std.proofs.lemmas.List.{nil_from_length}
use Rattle.mega_page.proofs.Hexing.{none_left, part_more}
use Rattle.mega_page.proofs.texts.put_hex.Goals as goal

pub loop-rest-preserved : goal.loop-rest-preserved
loop-rest-preserved c = part_more c.min.result c.loop-rest.out _ _ c.split_at.result.0.now c.loop-rest.rest.now _ c.loop-rest.invariant c.split_at.ensures.front c.split_at.ensures.back c.in_ok-put_part.ensures

pub returns : goal.returns
returns c =
    none_left c.loop-rest.out _ c.loop-rest.rest.now c.loop-rest.invariant (nil_from_length c.loop-rest.rest.now (let empty = c.loop-rest-test.ensures in grind (arith, nat_tests)))
