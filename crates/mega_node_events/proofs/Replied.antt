-- The reply of a node is its voter's, where it votes, or else that of its cell or its coordinator.
use Rattle.std.proofs.Common.{◌≡◌, ℕ, Bool, true, false, cond, List, Option, Some, None, refl}
use Rattle.mega_cluster.specs.declared.cluster.Cluster.{Cluster}
use Rattle.mega_wire.specs.declared.message.Body.{Body}
use Rattle.mega_wire.specs.declared.message.Body.TheVariants.{Where, Top, Accept, Accepted, Refused, Prepare, Promise, Invalidate, Invalidated, Dead, Held, Unheld, Decide, Fetch, Have, HaveNot, Acquire, Granted, Past, Request, Reply}
use Rattle.mega_rules.specs.Met.{Met}
use Rattle.mega_rules.specs.Logs.{decided, top_of}
use Rattle.mega_rules.specs.Members.{is_voter}
use Rattle.mega_rules.specs.Replies.{answer_to, fetched, where_served}
use Rattle.mega_rules.specs.Voting.{acts, prepared, voted}
use Rattle.mega_step_parts.specs.of_leases.Taking.{reply_of}
use Rattle.mega_step_parts.specs.Replying.{or_reply, vote_reply}

served : (t : Bool) (body : Body) → or_reply (cond t (Some body) None) None ≡ where_served t body
served true body = refl
served false body = refl

unasked : (t : Bool) (other : Option Body) → or_reply (cond t None None) other ≡ other
unasked true other = refl
unasked false other = refl

pub replied : (c : Cluster) (me : ℕ) (met : List Met) (from : ℕ) (body : Body) → or_reply (cond (is_voter c me) (vote_reply met body) None) (reply_of c me met from body) ≡ answer_to c me met from body
replied c me met from (Where op group) = served (is_voter c me) (Top op group (record { 0 = top_of met group }))
replied c me met from (Accept op group position ballot entry) = served (is_voter c me) (voted (acts met group position.0) op group position ballot entry)
replied c me met from (Prepare op group position ballot) = served (is_voter c me) (prepared (acts met group position.0) op group position ballot)
replied c me met from (Fetch op group position) = served (is_voter c me) (fetched op group position (decided met group position.0))
replied c me met from (Invalidate op group position) = unasked (is_voter c me) (answer_to c me met from (Invalidate op group position))
replied c me met from (Dead op cell node) = unasked (is_voter c me) (answer_to c me met from (Dead op cell node))
replied c me met from (Acquire cell epoch clock) = unasked (is_voter c me) (answer_to c me met from (Acquire cell epoch clock))
replied c me met from (Top op group position) = unasked (is_voter c me) (answer_to c me met from (Top op group position))
replied c me met from (Accepted op group position ballot entry) = unasked (is_voter c me) (answer_to c me met from (Accepted op group position ballot entry))
replied c me met from (Refused op group position asked shown entry) = unasked (is_voter c me) (answer_to c me met from (Refused op group position asked shown entry))
replied c me met from (Promise op group position ballot vote) = unasked (is_voter c me) (answer_to c me met from (Promise op group position ballot vote))
replied c me met from (Invalidated op group position) = unasked (is_voter c me) (answer_to c me met from (Invalidated op group position))
replied c me met from (Held op cell node) = unasked (is_voter c me) (answer_to c me met from (Held op cell node))
replied c me met from (Unheld op cell node) = unasked (is_voter c me) (answer_to c me met from (Unheld op cell node))
replied c me met from (Decide group position entry) = unasked (is_voter c me) (answer_to c me met from (Decide group position entry))
replied c me met from (Have op group position entry) = unasked (is_voter c me) (answer_to c me met from (Have op group position entry))
replied c me met from (HaveNot op group position) = unasked (is_voter c me) (answer_to c me met from (HaveNot op group position))
replied c me met from (Granted cell epoch clock) = unasked (is_voter c me) (answer_to c me met from (Granted cell epoch clock))
replied c me met from (Past cell epoch greatest) = unasked (is_voter c me) (answer_to c me met from (Past cell epoch greatest))
replied c me met from (Request token json) = unasked (is_voter c me) (answer_to c me met from (Request token json))
replied c me met from (Reply token text) = unasked (is_voter c me) (answer_to c me met from (Reply token text))
