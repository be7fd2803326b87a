use Rattle.std.proofs.Common.{sym, ◌∙◌, ap}
use Rattle.mega_checkpoint.specs.Format.{list_of}
use Rattle.mega_checkpoint.proofs.Fronts.{list_none}
use Rattle.mega_checkpoint.proofs.chain.open_chain.Goals as goal

pub returns-clause-records : goal.returns-clause-records
returns-clause-records g c told = c.in_ok-found.ensures.records ∙ sym (list_none c.args.bytes.now c.requires.chain) ∙ ap list_of (c.requires.bytes told)
