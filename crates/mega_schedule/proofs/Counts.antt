-- How many items a list has, and members an object.
use Rattle.std.proofs.Common.{◌≡◌, List, length}
use Rattle.serde_json.specs.Events.{items_len, members_len}
use Rattle.serde_json.specs.View.{items_view, members_view}
use Rattle.serde_json.specs.declared.value.Value.{Value}
use Rattle.serde_json.proofs.Views.{Entry, items_len-items_view, members_len-members_view}

pub items_count : (values : List Value) → items_len (items_view values) ≡ length values
items_count values = items_len-items_view values

pub members_count : (entries : List Entry) → members_len (members_view entries) ≡ length entries
members_count entries = members_len-members_view entries
