-- A transfer between two accounts, from the bytes of its line: its requests, run on nothing.
use Rattle.std.specs.Prelude.{ℕ, false, List, [], ◌∷◌, codes, Option, Some, None, slice_get, Result, Ok, Err}
use Rattle.serde_json.specs.Data.{Data, null, Items, no_items, item}
use Rattle.mega_base.specs.declared.values.Kind.{Kind}
use Rattle.mega_base.specs.declared.values.Kind.TheVariants.{Int32, Int64, Bool as Truth, Str, Raw}
use Rattle.mega_syntax.specs.declared.need.Need.TheVariants.{Required}
use Rattle.mega_schema.specs.declared.schema.Property.{Property}
use Rattle.mega_schema.specs.declared.schema.Table.{Table}
use Rattle.mega_schema.specs.declared.schema.Schema.{Schema}
use Rattle.mega_outcome.specs.declared.transaction.Transaction.{Transaction}
use Rattle.mega_schedule.specs.Events.{object_of}
use Rattle.mega_two_laws.specs.World.{Reply}
use Rattle.mega_two_driver.specs.declared.plan.PartRequests.{PartRequests}
use Rattle.mega_two_driver.specs.declared.plan.Plan.{Plan}
use Rattle.mega_two_driver.specs.Texts.{plan_named}
use Rattle.mega_two_driver.specs.Fits.{own_of, transaction_of}
use Rattle.mega_two_driver.specs.Begins.{parts_in, plan_of}
use Rattle.mega_two_outcome_laws.specs.Shown.{Stores}
use Rattle.mega_two_outcome_laws.specs.Runs.{writes_of, behind, told}

abbrev property : List ℕ → Kind → Property
property name kind = record { name = name; need = Required; kind = kind }

abbrev table : List ℕ → List Property → List ℕ → ℕ → List ℕ → Table
table name properties primary root group = record { name = name; properties = properties; primary = primary; root = root; group = group; inside = false; scatter = false }

abbrev pub accounts : Schema
accounts = record {
  name = codes "Bank";
  tables =
      table (codes "TwoPlan") (property (codes "gid") Str ∷ property (codes "state") Int32 ∷ property (codes "plan") Raw ∷ []) (1 ∷ []) 1 []
      ∷ table (codes "Account") (property (codes "id") Int64 ∷ property (codes "balance") Int64 ∷ []) (1 ∷ []) 2 []
      ∷ table (codes "AccountTwo") (property (codes "id") Int64 ∷ property (codes "gid") Str ∷ []) (1 ∷ []) 2 (1 ∷ [])
      ∷ table (codes "AccountDone") (property (codes "id") Int64 ∷ property (codes "gid") Str ∷ property (codes "commit") Truth ∷ []) (1 ∷ 2 ∷ []) 2 (1 ∷ [])
      ∷ [];
  indexes = [];
}

abbrev pub transfer : List ℕ
transfer =
    codes "{\"gid\":\"t1\",\"parts\":[{\"checks\":[],\"group\":[\"Account\",[1]],\"writes\":[{\"put\":\"Account\",\"row\":{\"id\":1,\"balance\":70}}]},{\"checks\":[],\"group\":[\"Account\",[2]],\"writes\":[{\"put\":\"Account\",\"row\":{\"id\":2,\"balance\":30}}]}]}"

abbrev planned : Result Plan ℕ → Plan
planned (Ok plan) = plan
planned (Err reason) = plan_named []

abbrev pub requests : Plan
requests = planned (plan_of accounts transfer)

abbrev part_text : (PartRequests → List ℕ) → Option PartRequests → List ℕ
part_text text None = []
part_text text (Some part) = text part

-- the request of the part with this number
abbrev pub of_part : (PartRequests → List ℕ) → ℕ → List ℕ
of_part text i = part_text text (slice_get requests.parts i)

-- the replies to these requests, one after another
abbrev pub replies : Stores → List (List ℕ) → List Reply
replies stores [] = []
replies stores (text ∷ texts) = told (writes_of accounts (transaction_of accounts text) stores) ∷ replies (behind accounts (transaction_of accounts text) stores) texts

abbrev first_part : Items → Data
first_part no_items = null
first_part (item part parts) = part

abbrev parts_told : Result Data ℕ → Items
parts_told (Ok d) = parts_in d
parts_told (Err reason) = no_items

-- the first part's own transaction
abbrev pub own : Transaction
own = own_of accounts (first_part (parts_told (object_of transfer)))
