use Rattle.mega_syntax.proofs.NameText.{name_text}
use Rattle.mega_syntax.proofs.words.Name.to_text.Goals as goal

pub unreachable-requires : goal.unreachable-requires
unreachable-requires c = c.in-Err.ensures.cases.0 (name_text c.self.inside.bytes.now c.self.invariant)
