-- What the types of a message hold, beyond what the format asks of one: keys, entries and texts are of bytes.
use Rattle.std.specs.Prelude.{Option, Some, None}
use Rattle.hex.specs.Hex.{IsBytes}
use Rattle.mega_ballot.specs.declared.ballot.Ballot.{Ballot}
use Rattle.mega_entry.specs.declared.content.Content.{Content}
use Rattle.mega_wire.specs.declared.message.Body.{Body}
use Rattle.mega_wire.specs.declared.message.Body.TheVariants.{Where, Top, Accept, Accepted, Refused, Prepare, Promise, Invalidate, Invalidated, Dead, Held, Unheld, Decide, Fetch, Have, HaveNot, Acquire, Granted, Past, Request, Reply}
use Rattle.mega_field_ranges.specs.Entries.{HoldsContent}
use Rattle.mega_transcript.specs.PlainNames.{IsGroup}

abbrev pub HoldsShownEntry : Option Content → Type 0
HoldsShownEntry None = Unit {0}
HoldsShownEntry (Some entry) = HoldsContent entry

abbrev pub HoldsReport : Option (Ballot × Content) → Type 0
HoldsReport None = Unit {0}
HoldsReport (Some report) = HoldsContent report.1

abbrev pub HoldsBody : Body → Type 0
HoldsBody (Where op group) = IsGroup group
HoldsBody (Top op group position) = IsGroup group
HoldsBody (Accept op group position ballot entry) = IsGroup group × HoldsContent entry
HoldsBody (Accepted op group position ballot entry) = IsGroup group × HoldsContent entry
HoldsBody (Refused op group position asked shown entry) = IsGroup group × HoldsShownEntry entry
HoldsBody (Prepare op group position ballot) = IsGroup group
HoldsBody (Promise op group position ballot accepted) = IsGroup group × HoldsReport accepted
HoldsBody (Invalidate op group position) = IsGroup group
HoldsBody (Invalidated op group position) = IsGroup group
HoldsBody (Dead op cell node) = Unit {0}
HoldsBody (Held op cell node) = Unit {0}
HoldsBody (Unheld op cell node) = Unit {0}
HoldsBody (Decide group position entry) = IsGroup group × HoldsContent entry
HoldsBody (Fetch op group position) = IsGroup group
HoldsBody (Have op group position entry) = IsGroup group × HoldsContent entry
HoldsBody (HaveNot op group position) = IsGroup group
HoldsBody (Acquire cell epoch clock) = Unit {0}
HoldsBody (Granted cell epoch clock) = Unit {0}
HoldsBody (Past cell asked greatest) = Unit {0}
HoldsBody (Request token json) = IsBytes json
HoldsBody (Reply token text) = IsBytes text
