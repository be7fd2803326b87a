use Rattle.mega_places.proofs.Least.{next_found}
use Rattle.mega_places.proofs.mail.Mail.next_delivery.Goals as goal

pub returns : goal.returns
returns c now r ups = next_found c.args.self.now c.args.places.now now c.first_among.result r ups c.first_among.ensures
