-- Queue messages in the logs of a node: what is sent, entered and handled, and which one a pump picks (CIDR 2011, queues).
use Rattle.std.specs.Prelude.{ℕ, ◌+◌, ◌&&◌, Bool, not, if◌then◌else◌, nat_le, List, [], ◌∷◌, ◌++◌, length, map, filter, find, flat_map, Option, option_map, is_some}
use Rattle.std.specs.List.{list_any}
use Rattle.mega_base.specs.declared.names.GroupId.{GroupId}
use Rattle.mega_base.specs.declared.names.OpId.{OpId}
use Rattle.mega_entry.specs.declared.content.Content.{Content}
use Rattle.mega_entry.specs.declared.content.Enter.{Enter}
use Rattle.mega_entry.specs.declared.content.Name.{Name}
use Rattle.mega_entry.specs.declared.content.Send.{Send}
use Rattle.mega_entry.specs.Entries.{entry_text, entry_by}
use Rattle.mega_replica.specs.of_wal.Same.{same_group, same_name}

-- a message on its way: to whom it was sent, and what its receiver enters
pub record Posted : Type 0 where
  pub to : GroupId
  pub message : Enter

-- the logs of some groups, in order of group
pub record Log : Type 0 where
  pub group : GroupId
  pub entries : List Content

-- the sends of an entry, named by their sender's group and position and their place in it
abbrev pub posted : GroupId → ℕ → ℕ → List Send → List Posted
posted group position place [] = []
posted group position place (send ∷ sends) =
    record { to = send.to; message = record { name = record { group = group; position = record { 0 = position }; place = place }; queue = send.queue; payload = send.payload } }
    ∷ posted group position (place + 1) sends

-- the sends of a group's entries, from a position on
abbrev pub sent_from : GroupId → ℕ → List Content → List Posted
sent_from group position [] = []
sent_from group position (entry ∷ entries) = posted group position 0 entry.sends ++ sent_from group (position + 1) entries

abbrev pub sent_in : Log → List Posted
sent_in log = sent_from log.group 1 log.entries

-- the messages entered in a log, and the names of those that are handled
abbrev pub entered_in : List Content → List Enter
entered_in entries = flat_map (λ (entry : Content). entry.enters) entries

abbrev pub handled_in : List Content → List Name
handled_in entries = flat_map (λ (entry : Content). entry.handles) entries

abbrev pub is_named : Name → List Name → Bool
is_named name names = list_any (same_name name) names

abbrev pub names_entered : List Content → List Name
names_entered entries = map (λ (enter : Enter). enter.name) (entered_in entries)

-- the entries of a group among these logs
abbrev pub entries_of : GroupId → List Log → List Content
entries_of group [] = []
entries_of group (log ∷ logs) = if same_group log.group group then log.entries else entries_of group logs

-- the entry that enters a message
abbrev pub enter_entry : OpId → Enter → Content
enter_entry op message = record (entry_by op) { enters = message ∷ [] }

-- an entry has at most 32,768 bytes
abbrev pub is_short : Content → Bool
is_short entry = nat_le (length (entry_text entry)) 32768

-- a message waits to be entered: it is not entered in its receiver's log, and its enter entry is short enough
abbrev pub waits_to_enter : OpId → List Log → Posted → Bool
waits_to_enter op logs one = not (is_named (one.message).name (names_entered (entries_of one.to logs))) && is_short (enter_entry op one.message)

-- the message of least name that waits to be entered: logs are in order of group, their entries of position, sends of place
abbrev pub next_to_enter : OpId → List Log → Option Posted
next_to_enter op logs = find (waits_to_enter op logs) (flat_map sent_in logs)

-- the oldest message that is entered in a log and not handled
abbrev pub oldest_unhandled : List Content → Option Enter
oldest_unhandled entries = find (λ (enter : Enter). not (is_named enter.name (handled_in entries))) (entered_in entries)

-- the least group that has one
abbrev pub has_unhandled : Log → Bool
has_unhandled log = is_some (oldest_unhandled log.entries)

abbrev pub next_to_handle : List Log → Option GroupId
next_to_handle logs = option_map (λ (log : Log). log.group) (find has_unhandled logs)
