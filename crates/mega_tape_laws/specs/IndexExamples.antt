-- Rows of a group with a local index, and what is no rows of it.
use Rattle.std.specs.Prelude.{ℕ, false, List, [], ◌∷◌, ◌++◌, codes, Some}
use Rattle.mega_base.specs.declared.names.GroupId.{GroupId}
use Rattle.mega_base.specs.declared.values.Kind.TheVariants.{Str}
use Rattle.mega_base.specs.declared.values.Row.{Row}
use Rattle.mega_base.specs.declared.values.Value.TheVariants.{Str as Word}
use Rattle.mega_ballot.specs.Order.{zero_ballot}
use Rattle.mega_cluster.specs.declared.cluster.Cluster.{Cluster}
use Rattle.mega_entry.specs.declared.content.Content.{Content}
use Rattle.mega_entry.specs.declared.content.Write.{Write}
use Rattle.mega_schema.specs.declared.schema.Index.{Index}
use Rattle.mega_schema.specs.declared.schema.Schema.{Schema}
use Rattle.mega_schema.specs.declared.schema.Table.{Table}
use Rattle.mega_syntax.specs.declared.need.Need.TheVariants.{Required}
use Rattle.mega_index.specs.Rows.{Listed}
use Rattle.mega_promises.specs.of_transcript.declared.item.Item.{Item}
use Rattle.mega_promises.specs.of_transcript.declared.item.Item.TheVariants.{Begin, Decide, Sent, Taken}
use Rattle.mega_promises.specs.Items.{number}
use Rattle.mega_promises.specs.of_rules.Examples.{accept_for, accepted_from, cluster, group, op_of, user, users}
use Rattle.mega_tape_laws.specs.Examples.{first}

-- users, with a local index by name
abbrev pub by_name : Index
by_name = record { name = codes "ByName"; global = false; table = 1; indexed = 2 ∷ []; storing = [] }

abbrev pub named_users : Schema
named_users = record { name = codes "S"; tables = users ∷ []; indexes = by_name ∷ [] }

-- the row key of user 101, and the key of the entry for John
abbrev pub user_key : List ℕ
user_key = group.key ++ 1 ∷ []

abbrev pub john_key : List ℕ
john_key = group.key ++ 128 ∷ 74 ∷ 111 ∷ 104 ∷ 110 ∷ 0 ∷ 1 ∷ 128 ∷ 0 ∷ 0 ∷ 0 ∷ 0 ∷ 0 ∷ 0 ∷ 101 ∷ []

abbrev pub nothing_stored : Row
nothing_stored = record { cells = [] }

-- the user with the entry, without it, and the entry without the user
abbrev pub whole : Listed
whole = (user_key, user) ∷ (john_key, nothing_stored) ∷ []

abbrev pub without_entry : Listed
without_entry = (user_key, user) ∷ []

abbrev pub without_user : Listed
without_user = (john_key, nothing_stored) ∷ []

abbrev pub put_writes : List Write
put_writes = record { key = user_key; row = Some user } ∷ record { key = john_key; row = Some nothing_stored } ∷ []

-- node 1's operation puts the user in a cluster with this schema, and decides its entry
abbrev pub named_cluster : Cluster
named_cluster = record cluster { schema = named_users }

abbrev pub named_entry : Content
named_entry = record { id = Some (op_of 1); leader = record { 0 = 1 }; writes = put_writes; sends = []; enters = []; handles = []; cuts = [] }

abbrev pub named_begun : List Item
named_begun = Begin (op_of 1) []
    ∷ Sent 1 (accept_for 1 1 1 zero_ballot named_entry)
    ∷ Taken 1
    ∷ Sent 2 (accepted_from 1 1 1 zero_ballot named_entry)
    ∷ Taken 2
    ∷ Sent 3 (accept_for 1 2 1 zero_ballot named_entry)
    ∷ Taken 3
    ∷ Sent 4 (accepted_from 1 2 1 zero_ballot named_entry)
    ∷ []

abbrev pub named_put : List Item
named_put = named_begun ++ Taken 4 ∷ Decide (number 1) group first named_entry ∷ []

-- a table of words, and a row whose word is no text
abbrev pub words : Table
words = record { name = codes "Word"; properties = (record { name = codes "word"; need = Required; kind = Str }) ∷ []; primary = 1 ∷ []; root = 1; group = []; inside = false; scatter = false }

abbrev pub word_schema : Schema
word_schema = record { name = codes "W"; tables = words ∷ []; indexes = [] }

abbrev pub no_text : Row
no_text = record { cells = (record { property = 1; values = Word (255 ∷ []) ∷ [] }) ∷ [] }

abbrev pub word_group : GroupId
word_group = record { key = 1 ∷ 255 ∷ 0 ∷ 1 ∷ [] }

abbrev pub no_text_key : List ℕ
no_text_key = 1 ∷ 255 ∷ 0 ∷ 1 ∷ 1 ∷ []
