-- Where no parts are left for the transactions.
use Rattle.std.proofs.Common.{◌≡◌, ◌<◌, ℕ, Bool, true, List, [], ◌∷◌, length, arith}
use Rattle.serde_json.specs.View.{items_view}
use Rattle.serde_json.specs.declared.value.Value.{Value}
use Rattle.mega_schema.specs.declared.schema.Schema.{Schema}
use Rattle.mega_outcome.specs.declared.transaction.Transaction.{Transaction}
use Rattle.mega_two_driver.specs.Begins.{parts_fit}

pub none_unfit : (s : Schema) (name : List ℕ) (owns : List Transaction) (left : List Value) (whole : Bool) → length left < 1
    → parts_fit s name owns (items_view left) ≡ whole → true ≡ whole
none_unfit s name [] [] whole below met = met
none_unfit s name (own ∷ owns) [] whole below met = met
none_unfit s name owns (part ∷ left) whole below met = absurd (omega arith)
