-- How many items of each kind there are, with one item more.
use Rattle.std.specs.Prelude.{ℕ, suc, Bool, if◌then◌else◌}
use Rattle.mega_transcript.specs.declared.item.Item.{Item}
use Rattle.mega_transcript.specs.Counts.{is_committed, is_conflict, is_message, is_read}
use Rattle.mega_tally.specs.declared.kinds.Kinds.{Kinds}

abbrev pub plus_if : Bool → ℕ → ℕ
plus_if such count = if such then suc count else count

abbrev pub kinds_with : Kinds → Item → Kinds
kinds_with kinds item = record {
  messages = plus_if (is_message item) kinds.messages;
  committed = plus_if (is_committed item) kinds.committed;
  conflicts = plus_if (is_conflict item) kinds.conflicts;
  reads = plus_if (is_read item) kinds.reads;
}
