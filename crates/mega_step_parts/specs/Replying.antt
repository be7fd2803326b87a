-- The reply to what a node is asked.
use Rattle.std.specs.Prelude.{List, Option, Some, None}
use Rattle.mega_wire.specs.declared.message.Body.{Body}
use Rattle.mega_wire.specs.declared.message.Body.TheVariants.{Where, Top, Accept, Prepare, Fetch}
use Rattle.mega_rules.specs.Met.{Met}
use Rattle.mega_rules.specs.Logs.{decided, top_of}
use Rattle.mega_rules.specs.Replies.{fetched}
use Rattle.mega_rules.specs.Voting.{acts, prepared, voted}

-- the reply of a voter
abbrev pub vote_reply : List Met → Body → Option Body
vote_reply met (Where op group) = Some (Top op group (record { 0 = top_of met group }))
vote_reply met (Accept op group position ballot entry) = Some (voted (acts met group position.0) op group position ballot entry)
vote_reply met (Prepare op group position ballot) = Some (prepared (acts met group position.0) op group position ballot)
vote_reply met (Fetch op group position) = Some (fetched op group position (decided met group position.0))
vote_reply met _ = None

-- the first reply, or else the other
abbrev pub or_reply : Option Body → Option Body → Option Body
or_reply (Some body) other = Some body
or_reply None other = other
