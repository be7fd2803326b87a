use Rattle.std.proofs.Common.{◌≡◌, Err, ap, refl, sym, ◌∙◌, inl, inr}
use Rattle.mega_two_words.proofs.Statuses.{either_told, stop_cut, stop_is, stop_link, stop_sink, stop_source, told_is, told_other}
use Rattle.mega_two_words.proofs.Fronts.{unwritten}
use Rattle.mega_two_words.specs.declared.last.Last.TheVariants.{Header}
use Rattle.mega_two_words.specs.Endings.{last_line}
use Rattle.mega_two_words.proofs.words.run_two.Goals as goal

pub returns-in-Ok-clause-whole : goal.returns-in-Ok-clause-whole
returns-in-Ok-clause-whole g c plain = record { last = c.in-Ok.last; is = c.in-Ok.ensures.ends; said = c.tell.ensures.whole plain }

pub returns-in-Ok-clause-front : goal.returns-in-Ok-clause-front
returns-in-Ok-clause-front g c six = record { last = c.in-Ok.last; is = c.in-Ok.ensures.ends; said = c.tell.ensures.front }

pub returns-in-Ok-clause-none : goal.returns-in-Ok-clause-none
returns-in-Ok-clause-none g c (inl five) = told_other c.in-Ok.last c.tell.result 5 c.tell.ensures.status five (inl refl)
returns-in-Ok-clause-none g c (inr nine) = told_other c.in-Ok.last c.tell.result 9 c.tell.ensures.status nine (inr refl)

pub returns-in-Ok-clause-memory : goal.returns-in-Ok-clause-memory
returns-in-Ok-clause-memory g c eight = (c.in-Ok.last, c.tell.ensures.front)

pub returns-in-Ok-clause-source : goal.returns-in-Ok-clause-source
returns-in-Ok-clause-source g c five = told_other c.in-Ok.last c.tell.result 5 c.tell.ensures.status five (inl refl)

pub returns-in-Ok-clause-binding : goal.returns-in-Ok-clause-binding
returns-in-Ok-clause-binding g c nine = told_other c.in-Ok.last c.tell.result 9 c.tell.ensures.status nine (inr refl)

pub returns-in-Ok-clause-only : goal.returns-in-Ok-clause-only
returns-in-Ok-clause-only g c = told_is c.in-Ok.last c.tell.result c.tell.ensures.status

pub returns-in-Err-clause-memory : goal.returns-in-Err-clause-memory
returns-in-Err-clause-memory g c eight = (Header 0, unwritten (g.O.Sink.held c.args.out.now) (last_line (Header 0)))
