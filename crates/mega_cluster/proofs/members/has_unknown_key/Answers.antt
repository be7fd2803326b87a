use Rattle.std.proofs.Common.{◌∙◌}
use Rattle.mega_cluster.proofs.Keys.{unknown_keys}
use Rattle.mega_cluster.proofs.members.has_unknown_key.Goals as goal

pub returns : goal.returns
returns c = c.has_other_key.ensures ∙ unknown_keys c.args.table.now.entries
