use Rattle.std.proofs.Common.{refl}
use Rattle.mega_transcript.specs.Recorded.{Noted}
use Rattle.mega_page.proofs.Gathering.{one_quiet}
use Rattle.mega_page.proofs.page.Page.note.Goals as goal

pub returns-clause-lines : goal.returns-clause-lines
returns-clause-lines c = λ lines page. one_quiet c.args.schema.now c.args.self.now _ lines (Noted c.args.item.now) page c.in_ok-text.ensures.ok refl refl
