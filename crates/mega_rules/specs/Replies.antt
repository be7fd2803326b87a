-- The one reply to each request, by a node whose role serves it.
use Rattle.std.specs.Prelude.{ℕ, ◌==◌, ◌&&◌, Bool, if◌then◌else◌, List, [], ◌∷◌, Option, Some, None}
use Rattle.mega_base.specs.declared.names.GroupId.{GroupId}
use Rattle.mega_base.specs.declared.names.OpId.{OpId}
use Rattle.mega_base.specs.declared.names.Position.{Position}
use Rattle.mega_cluster.specs.declared.cluster.Cluster.{Cluster}
use Rattle.mega_entry.specs.declared.content.Content.{Content}
use Rattle.mega_read.specs.of_wire.declared.message.Message.{Message}
use Rattle.mega_read.specs.of_wire.declared.message.Body.{Body}
use Rattle.mega_read.specs.of_wire.declared.message.Body.TheVariants.{Where, Top, Accept, Prepare, Invalidate, Invalidated, Dead, Fetch, Have, HaveNot, Acquire}
use Rattle.mega_rules.specs.Met.{Met}
use Rattle.mega_rules.specs.Members.{is_cell, is_full, is_voter}
use Rattle.mega_rules.specs.Voting.{acts, prepared, voted}
use Rattle.mega_rules.specs.Logs.{decided, top_of}
use Rattle.mega_rules.specs.Locks.{asked_for, held_answer, held_at, lock_answer}

-- a reply is given by a node of the right role only
abbrev pub where_served : Bool → Body → Option Body
where_served is_served reply = if is_served then Some reply else None

-- the entry at a position, or that there is none
abbrev pub fetched : OpId → GroupId → Position → Option Content → Body
fetched op group position None = HaveNot op group position
fetched op group position (Some entry) = Have op group position entry

-- voters answer where, accept, prepare and fetch; full nodes an invalidate; the node of a cell what is asked of the cell
abbrev pub answer_to : Cluster → ℕ → List Met → ℕ → Body → Option Body
answer_to c me met from (Where op group) = where_served (is_voter c me) (Top op group (record { 0 = top_of met group }))
answer_to c me met from (Accept op group position ballot entry) = where_served (is_voter c me) (voted (acts met group position.0) op group position ballot entry)
answer_to c me met from (Prepare op group position ballot) = where_served (is_voter c me) (prepared (acts met group position.0) op group position ballot)
answer_to c me met from (Fetch op group position) = where_served (is_voter c me) (fetched op group position (decided met group position.0))
answer_to c me met from (Invalidate op group position) = where_served (is_full c me) (Invalidated op group position)
answer_to c me met from (Dead op cell node) = where_served (cell == me && is_cell c me) (held_answer op cell node (held_at c me met node.0))
answer_to c me met from (Acquire cell epoch clock) = where_served (cell == me && is_cell c me) (lock_answer cell epoch clock (asked_for c me met from epoch))
answer_to c me met from _ = None

-- a reply goes to the sender of its request
abbrev pub reply_message : ℕ → ℕ → Option Body → List Message
reply_message me to None = []
reply_message me to (Some body) = record { from = me; to = to; body = body } ∷ []

abbrev pub reply_to : Cluster → ℕ → List Met → Message → List Message
reply_to c me met m = reply_message me m.from (answer_to c me met m.from m.body)
