use Rattle.std.proofs.Common.{◌≡◌, ◌++◌, drop}
use Rattle.serde_json.specs.View.{items_view}
use Rattle.mega_two_driver.specs.Texts.{deleted_texts}
use Rattle.mega_two_driver.proofs.pieces.put_all_deleted.Given as goal

abbrev pub invariant-loop-write : goal.invariant-loop-write
invariant-loop-write l = l.out ++ deleted_texts (items_view (drop l.write-index l.writes)) ≡ l.initial.out ++ deleted_texts (items_view l.writes)
