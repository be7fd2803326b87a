use Rattle.mega_words.proofs.Ascii.{change_is_text}
use Rattle.mega_words.proofs.change.text_of.Goals as goal

pub unreachable-requires : goal.unreachable-requires
unreachable-requires c = c.in-Err.ensures.cases.0 (change_is_text c.args.word.now c.requires)
