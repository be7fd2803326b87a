-- What a request names.
use Rattle.std.specs.Prelude.{◌==◌, ◌||◌, Bool, false, Some, None}
use Rattle.mega_base.specs.ListWords.{is_empty}
use Rattle.mega_outcome.specs.declared.request.Request.{Request}
use Rattle.mega_outcome.specs.declared.request.Request.TheVariants.{Txn, Batch, Read, Find}

abbrev pub names_nothing : Request → Bool
names_nothing (Txn transaction) = is_empty (transaction.group).key
names_nothing (Batch group transactions) = is_empty group.key
names_nothing (Read request) = is_empty (request.group).key
names_nothing (Find request) = request.index == 0 || (elim request.group [ None ↦ false | Some group ↦ is_empty group.key ])
names_nothing _ = false
