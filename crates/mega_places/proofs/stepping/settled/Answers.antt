use Rattle.mega_places.proofs.Outcomes.{comes_at, cuts_at}
use Rattle.mega_places.proofs.stepping.settled.Goals as goal

pub returns-in-Ok-clause-comes : goal.returns-in-Ok-clause-comes
returns-in-Ok-clause-comes c cluster h now event was member all up most at one =
    comes_at cluster h now c.args.me event was member c.in-Ok.step c.args.places.now.items all c.requires.least most up at (rw c.in-Ok.is at one)

pub returns-in-Err-Cut-clause-comes : goal.returns-in-Err-Cut-clause-comes
returns-in-Err-Cut-clause-comes c cluster h now event was member all up most at one =
    cuts_at cluster h now c.args.me event was member c.in-Err-Cut.cut c.args.places.now.items c.cut_down.new.places.items all c.requires.least most up at c.cut_down.ensures (rw c.in-Err-Cut.field-0-is at (rw c.in-Err-Cut.is at one))
