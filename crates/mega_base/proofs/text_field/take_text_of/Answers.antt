use Rattle.std.proofs.Common.{◌≡◌, sym}
use Rattle.mega_base.proofs.Texts.{good_text}
use Rattle.mega_base.proofs.text_field.take_text_of.Goals as goal

pub returns-in_ok-made-in-Some : goal.returns-in_ok-made-in-Some
returns-in_ok-made-in-Some c =
    rw (c.in_ok-made-in-Some.ensures, c.skip.ensures, c.in-Some.ensures.some.0) (good_text c.args.count c.args.cursor.now c.in-Some.ensures.some.1 c.in-Some.ensures.some.2)
