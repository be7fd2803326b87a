-- Users with a local index by name, the same with a nickname, and transactions on them.
use Rattle.std.specs.Prelude.{ℕ, List, [], ◌∷◌, ◌++◌, codes, cond, pos, Some, None}
use Rattle.mega_base.specs.declared.values.Kind.TheVariants.{Str}
use Rattle.mega_base.specs.declared.values.Row.{Row}
use Rattle.mega_base.specs.declared.values.Value.TheVariants.{Int64 as Number, Str as Word}
use Rattle.mega_schema.specs.declared.schema.Property.{Property}
use Rattle.mega_schema.specs.declared.schema.Schema.{Schema}
use Rattle.mega_schema.specs.declared.schema.Table.{Table}
use Rattle.mega_syntax.specs.declared.need.Need.TheVariants.{Optional}
use Rattle.mega_index.specs.Rows.{Rows, no_rows, same_key, written}
use Rattle.mega_outcome.specs.declared.answer.Done.{Done}
use Rattle.mega_outcome.specs.declared.transaction.Change.TheVariants.{Put, Delete}
use Rattle.mega_outcome.specs.declared.transaction.Check.TheVariants.{Is}
use Rattle.mega_outcome.specs.declared.transaction.RowRef.{RowRef}
use Rattle.mega_outcome.specs.declared.transaction.Transaction.{Transaction}
use Rattle.mega_outcome.specs.Reads.{shown}
use Rattle.mega_promises.specs.of_rules.Examples.{group, user, users}
use Rattle.mega_tape_laws.specs.IndexExamples.{john_key, named_users, nothing_stored, put_writes, user_key}

-- the users with a property more, which is not required
abbrev pub nickname : Property
nickname = record { name = codes "nickname"; need = Optional; kind = Str }

abbrev pub nicknamed : Table
nicknamed = record users { properties = users.properties ++ nickname ∷ [] }

abbrev pub nicknamed_users : Schema
nicknamed_users = record named_users { tables = nicknamed ∷ [] }

-- the text that declares the users, and a longer one
abbrev pub users_text : List ℕ
users_text = codes "CREATE SCHEMA S; CREATE TABLE User { required int64 user_id; required string name; } PRIMARY KEY(user_id), ENTITY GROUP ROOT; CREATE LOCAL INDEX ByName ON User(name);"

abbrev pub nicknamed_text : List ℕ
nicknamed_text = users_text ++ codes " ALTER TABLE User ADD { optional string nickname; };"

-- the rows after a put of John
abbrev pub john_rows : Rows
john_rows = written put_writes no_rows

abbrev pub john : RowRef
john = record { table = 1; key = Number (pos 101) ∷ [] }

-- John becomes Jane
abbrev pub jane : Row
jane = record { cells = (record { property = 1; values = Number (pos 101) ∷ [] }) ∷ (record { property = 2; values = Word (codes "Jane") ∷ [] }) ∷ [] }

abbrev pub jane_key : List ℕ
jane_key = group.key ++ 128 ∷ 74 ∷ 97 ∷ 110 ∷ 101 ∷ 0 ∷ 1 ∷ 128 ∷ 0 ∷ 0 ∷ 0 ∷ 0 ∷ 0 ∷ 0 ∷ 101 ∷ []

abbrev pub rename : Transaction
rename = record { group = group; checks = Is john 2 (Word (codes "John") ∷ []) ∷ []; reads = john ∷ []; writes = Put 1 jane ∷ []; sends = [] }

abbrev pub renamed : Done
renamed = record {
  replies = Some (shown 1 user) ∷ [];
  writes = (record { key = user_key; row = Some jane }) ∷ (record { key = john_key; row = None }) ∷ (record { key = jane_key; row = Some nothing_stored }) ∷ [];
  sends = [];
}

-- a row with a property that users do not have, and its deletion
abbrev pub stray : Row
stray = record { cells = user.cells ++ (record { property = 3; values = Word (codes "Jo") ∷ [] }) ∷ [] }

abbrev pub stray_rows : Rows
stray_rows key = cond (same_key user_key key) (Some stray) None

abbrev pub removal : Transaction
removal = record { group = group; checks = []; reads = []; writes = Delete john ∷ []; sends = [] }

-- what it does, and what it does where the property is known, and the row has an entry
abbrev pub removed : Done
removed = record { replies = []; writes = (record { key = user_key; row = None }) ∷ []; sends = [] }

abbrev pub removed_whole : Done
removed_whole = record { replies = []; writes = (record { key = user_key; row = None }) ∷ (record { key = john_key; row = None }) ∷ []; sends = [] }
