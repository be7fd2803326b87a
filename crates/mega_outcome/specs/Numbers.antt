-- The numbers of a transaction's items.
use Rattle.std.specs.Prelude.{◌≡◌, ◌+◌, ◌<◌, ◌^◌, length}
use Rattle.mega_outcome.specs.declared.numbers.Numbers.{Numbers}
use Rattle.mega_outcome.specs.declared.transaction.Transaction.{Transaction}
use Rattle.mega_outcome.specs.Outcome.{first_read, first_change, first_send}

pub record AreNumbers (txn : Transaction) (numbers : Numbers) : Type 0 where
  pub reads : numbers.read ≡ first_read txn
  pub changes : numbers.change ≡ first_change txn
  pub sends : numbers.send ≡ first_send txn
  pub few : first_send txn + length txn.sends < 2 ^ 32
