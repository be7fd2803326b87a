use Rattle.std.proofs.Common.{◌≡◌, ◌++◌, codes, drop}
use Rattle.serde_json.specs.Find.{get}
use Rattle.serde_json.specs.View.{view, items_view}
use Rattle.mega_schedule.specs.Rows.{each_in, transaction_of}
use Rattle.mega_schedule.proofs.requests.transactions.Given as goal

abbrev pub invariant-loop-item : goal.invariant-loop-item
invariant-loop-item l =
    l.made ++ each_in (transaction_of l.schema (get (codes "group") (view l.line))) (items_view (drop l.item-index l.item-items))
    ≡ each_in (transaction_of l.schema (get (codes "group") (view l.line))) (items_view l.item-items)
