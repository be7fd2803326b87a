-- What an object shows after a cell's values were put into it.
use Rattle.std.proofs.Common.{◌≡◌, List, Option, Some, String, Global, string_bytes, string_cmp, sym}
use Rattle.std.specs.BTreeMap.{insert_entry}
use Rattle.serde_json.specs.View.{view, members_view}
use Rattle.serde_json.specs.declared.value.Value.{Value as Json}
use Rattle.serde_json.proofs.Views.{Entry, members_view-insert_entry}
use Rattle.mega_base.specs.declared.values.Value.{Value}
use Rattle.mega_schema.specs.declared.schema.Property.{Property}
use Rattle.mega_backup.specs.Spelling.{cell_data, with_cell}

pub insert_cell : (before after : List Entry) (key : String Global) (v : Json) (property : Property) (values : List Value) (found : Option Property)
    → after ≡ insert_entry string_cmp before key v → string_bytes key ≡ property.name → view v ≡ cell_data property.need values → Some property ≡ found
    → members_view after ≡ with_cell found values (members_view before)
insert_cell before after key v property values found inserted name shown at =
    rw (inserted, members_view-insert_entry before key v, name, shown, sym at)
