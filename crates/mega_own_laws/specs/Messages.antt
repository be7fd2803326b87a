-- Messages that tell only of entries that write rows of their own group.
use Rattle.std.specs.Prelude.{List, Option}
use Rattle.mega_base.specs.Codec.{IsOption}
use Rattle.mega_base.specs.declared.names.GroupId.{GroupId}
use Rattle.mega_ballot.specs.declared.ballot.Ballot.{Ballot}
use Rattle.mega_entry.specs.declared.content.Content.{Content}
use Rattle.mega_schema.specs.declared.schema.Schema.{Schema}
use Rattle.mega_wire.specs.declared.message.Message.{Message}
use Rattle.mega_wire.specs.declared.message.Body.{Body}
use Rattle.mega_wire.specs.declared.message.Body.TheVariants.{Accept, Accepted, Refused, Promise, Decide, Have}
use Rattle.mega_run_laws.specs.Justified.{Each}
use Rattle.mega_own_laws.specs.Entries.{IsOwn}

-- the entry of a vote in the group, if there is one, is the group's own
abbrev pub VoteOwn : Schema → GroupId → Option (Ballot × Content) → Type 0
VoteOwn schema group vote = IsOption (λ (one : Ballot × Content). IsOwn schema group one.1) vote

-- so is each entry of which a message tells; the others tell of none
abbrev pub CarriesOwn : Schema → Body → Type 0
CarriesOwn schema (Accept op group position ballot entry) = IsOwn schema group entry
CarriesOwn schema (Accepted op group position ballot entry) = IsOwn schema group entry
CarriesOwn schema (Refused op group position asked shown entry) = IsOption (IsOwn schema group) entry
CarriesOwn schema (Promise op group position ballot vote) = VoteOwn schema group vote
CarriesOwn schema (Decide group position entry) = IsOwn schema group entry
CarriesOwn schema (Have op group position entry) = IsOwn schema group entry
CarriesOwn schema _ = Unit {0}

abbrev pub TellsOwn : Schema → Message → Type 0
TellsOwn schema message = CarriesOwn schema message.body

abbrev pub AllTellOwn : Schema → List Message → Type 0
AllTellOwn schema messages = Each (TellsOwn schema) messages
