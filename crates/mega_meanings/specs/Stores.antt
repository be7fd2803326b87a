-- What one of the handlers that the store brings is, by which of them it is.
use Rattle.std.specs.Prelude.{}
use Rattle.mega_handler.specs.declared.copy.Copy.{Copy}
use Rattle.mega_handler.specs.declared.credit.Credit.{Credit}
use Rattle.mega_meanings.specs.declared.store_handler.StoreHandler.{StoreHandler}
use Rattle.mega_meanings.specs.declared.store_handler.StoreHandler.TheVariants as store

module _ {A : Type 0} where
  abbrev pub by_kind : (Credit → A) → (Copy → A) → StoreHandler → A
  by_kind of_credit of_copy (store.Credit one) = of_credit one
  by_kind of_credit of_copy (store.Copy one) = of_copy one
