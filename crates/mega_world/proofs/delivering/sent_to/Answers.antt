use Rattle.std.proofs.Common.{◌∙◌, ap, is_some, sym}
use Rattle.mega_places.proofs.Finding.{down_refused, found_sent, none_refused}
use Rattle.mega_places.proofs.Joining.{up_within}
use Rattle.mega_world.proofs.delivering.sent_to.Goals as goal

pub returns-then-not-is_up-clause-none : goal.returns-then-not-is_up-clause-none
returns-then-not-is_up-clause-none c cluster now r ups = down_refused cluster now c.args.number c.in-Some.message.now (sym (c.in-Some.ensures now.tape r)) (ups c.in-Some.message.now.to ∙ sym c.is_up.ensures ∙ c.if-not-is_up.true)

pub returns-else-not-is_up-clause-least : goal.returns-else-not-is_up-clause-least
returns-else-not-is_up-clause-least c = (up_within c.args.places.now c.in-Some.message.now.to (sym c.is_up.ensures ∙ c.if-not-is_up.false)).0

pub returns-else-not-is_up-clause-most : goal.returns-else-not-is_up-clause-most
returns-else-not-is_up-clause-most c = (up_within c.args.places.now c.in-Some.message.now.to (sym c.is_up.ensures ∙ c.if-not-is_up.false)).1

pub returns-else-not-is_up-clause-sent : goal.returns-else-not-is_up-clause-sent
returns-else-not-is_up-clause-sent c now r = sym (found_sent c.args.mail.now now.tape c.args.number r) ∙ ap is_some (sym (c.in-Some.ensures now.tape r))

pub returns-in-None-clause-none : goal.returns-in-None-clause-none
returns-in-None-clause-none c cluster now r ups = none_refused cluster c.args.mail.now now c.args.number r (sym (c.in-None.ensures now.tape r))
