use Rattle.std.proofs.Common.{ap, sym, Some, None}
use Rattle.mega_index.specs.Marks.{Marked}
use Rattle.mega_index.proofs.Marking.{marked-in}
use Rattle.mega_index.proofs.global.GlobalIndex.mark_of_key.Goals as goal

pub returns-in-Some : goal.returns-in-Some
returns-in-Some c = sym (ap (λ (m : Marked). m.position) (marked-in c.args.self.now.groups.entries c.args.key.now (Some c.in-Some.held.now) (sym c.in-Some.ensures.value)))

pub returns-in-None : goal.returns-in-None
returns-in-None c = sym (ap (λ (m : Marked). m.position) (marked-in c.args.self.now.groups.entries c.args.key.now None (sym c.in-None.ensures.value)))
