-- The words of nodes' kinds and of messages' kinds, and the colours of positions.
use Rattle.std.specs.Prelude.{ℕ, ◌+◌, ◌-◌, ◌%◌, ◌==◌, if◌then◌else◌, List, codes}
use Rattle.mega_base.specs.declared.values.NodeKind.{NodeKind}
use Rattle.mega_base.specs.declared.values.NodeKind.TheVariants.{Full, Witness, Read}
use Rattle.mega_wire.specs.declared.message.Body.{Body}
use Rattle.mega_wire.specs.declared.message.Body.TheVariants as bodies
use Rattle.mega_picture.specs.declared.kinds.Kind.{Kind}
use Rattle.mega_picture.specs.declared.kinds.Kind.TheVariants as kinds

abbrev pub node_word : NodeKind → List ℕ
node_word Full = codes "full"
node_word Witness = codes "witness"
node_word Read = codes "read"

abbrev pub kind_of : Body → Kind
kind_of (bodies.Where op group) = kinds.Where
kind_of (bodies.Top op group position) = kinds.Top
kind_of (bodies.Accept op group position ballot entry) = kinds.Accept
kind_of (bodies.Accepted op group position ballot entry) = kinds.Accepted
kind_of (bodies.Refused op group position asked shown entry) = kinds.Refused
kind_of (bodies.Prepare op group position ballot) = kinds.Prepare
kind_of (bodies.Promise op group position ballot accepted) = kinds.Promise
kind_of (bodies.Invalidate op group position) = kinds.Invalidate
kind_of (bodies.Invalidated op group position) = kinds.Invalidated
kind_of (bodies.Dead op cell node) = kinds.Dead
kind_of (bodies.Held op cell node) = kinds.Held
kind_of (bodies.Unheld op cell node) = kinds.Unheld
kind_of (bodies.Decide group position entry) = kinds.Decide
kind_of (bodies.Fetch op group position) = kinds.Fetch
kind_of (bodies.Have op group position entry) = kinds.Have
kind_of (bodies.HaveNot op group position) = kinds.HaveNot
kind_of (bodies.Acquire cell epoch clock) = kinds.Acquire
kind_of (bodies.Granted cell epoch clock) = kinds.Granted
kind_of (bodies.Past cell asked greatest) = kinds.Past
kind_of (bodies.Request token json) = kinds.Request
kind_of (bodies.Reply token text) = kinds.Reply

-- the name of a kind, as lines of transcripts have it
abbrev pub kind_name : Kind → List ℕ
kind_name kinds.Where = codes "where"
kind_name kinds.Top = codes "top"
kind_name kinds.Accept = codes "accept"
kind_name kinds.Accepted = codes "accepted"
kind_name kinds.Refused = codes "refused"
kind_name kinds.Prepare = codes "prepare"
kind_name kinds.Promise = codes "promise"
kind_name kinds.Invalidate = codes "invalidate"
kind_name kinds.Invalidated = codes "invalidated"
kind_name kinds.Dead = codes "dead"
kind_name kinds.Held = codes "held"
kind_name kinds.Unheld = codes "unheld"
kind_name kinds.Decide = codes "decide"
kind_name kinds.Fetch = codes "fetch"
kind_name kinds.Have = codes "have"
kind_name kinds.HaveNot = codes "havenot"
kind_name kinds.Acquire = codes "acquire"
kind_name kinds.Granted = codes "granted"
kind_name kinds.Past = codes "past"
kind_name kinds.Request = codes "request"
kind_name kinds.Reply = codes "reply"

-- the position that a message is about, 0 for none
abbrev pub position_of : Body → ℕ
position_of (bodies.Top op group position) = position.0
position_of (bodies.Accept op group position ballot entry) = position.0
position_of (bodies.Accepted op group position ballot entry) = position.0
position_of (bodies.Refused op group position asked shown entry) = position.0
position_of (bodies.Prepare op group position ballot) = position.0
position_of (bodies.Promise op group position ballot accepted) = position.0
position_of (bodies.Invalidate op group position) = position.0
position_of (bodies.Invalidated op group position) = position.0
position_of (bodies.Decide group position entry) = position.0
position_of (bodies.Fetch op group position) = position.0
position_of (bodies.Have op group position entry) = position.0
position_of (bodies.HaveNot op group position) = position.0
position_of _ = 0

-- positions have 12 colours in turn, and what is of no position has none, 0
abbrev pub tone_of : ℕ → ℕ
tone_of position = if position == 0 then 0 else (position - 1) % 12 + 1
