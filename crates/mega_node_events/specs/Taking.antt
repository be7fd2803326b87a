-- What taking a message comes to, part by part.
use Rattle.std.specs.Prelude.{◌≡◌, ◌++◌, map}
use Rattle.mega_base.specs.declared.names.GroupId.{GroupId}
use Rattle.mega_disk.specs.VersionMaps.{Versions}
use Rattle.mega_wal.specs.declared.kept.Kept.{Kept}
use Rattle.mega_wire.specs.declared.message.Message.{Message}
use Rattle.mega_rules.specs.Clock.{clock_of}
use Rattle.mega_rules.specs.Operations.{Node, Now, Setting}
use Rattle.mega_rules.specs.Replies.{reply_to}
use Rattle.mega_rules.specs.Steps.{Take, all_act, at_first, decision_note, hears_message, stored_after, told_decision, told_notes}
use Rattle.mega_step_parts.specs.of_leases.declared.leases.Leases.{Leases}
use Rattle.mega_replica.specs.declared.progress.Progress.{Progress}
use Rattle.mega_actions.specs.of_node_laws.Acted.{acted_on, decision_in}
use Rattle.mega_actions.specs.of_pumps.declared.digest.Digest.{Digest}
use Rattle.mega_actions.specs.StandsAt.{StandsAt}
use Rattle.mega_step_parts.specs.News.{news_by}
use Rattle.mega_node_events.specs.declared.taking.Arrival.{Arrival}
use Rattle.mega_step_parts.specs.Notes.{met_of}
use Rattle.mega_handler.specs.Named.{Meanings}
use Rattle.mega_replica.specs.Following.{progress_at}
use Rattle.mega_actions.specs.declared.replica.Replica.{Replica}
use Rattle.mega_actions.specs.IsAt.{setting_of}

-- a message is taken: what is noted, sent and heard by then, what the operations act on, and what is kept
pub record HasTaken (s : Setting) (t : Setting) (made : Arrival) (kept : Kept) (leases : Leases) (digest : Digest) (version : Versions) (progress : GroupId → Progress) (node : Node) (m : Message) : Type 0 where
  pub notes : map met_of made.notes ≡ told_notes s node.met m.from m.body ++ decision_note (decision_in s node m)
  pub sends : made.sends ≡ reply_to s.cluster s.me node.met m ++ news_by s (told_decision m.body) (decision_in s node m)
  pub heard : made.heard ≡ map (hears_message s (clock_of node.met) m) node.open_operations
  pub stands : StandsAt t kept leases digest version progress (acted_on s node (Take m)) (stored_after s (acted_on s node (Take m)) node.stored (decision_in s node m))

-- the operations act on it
abbrev pub has_taken : Setting → Node → Message → Now
has_taken s node m =
    all_act s (at_first (acted_on s node (Take m)) (stored_after s (acted_on s node (Take m)) node.stored (decision_in s node m))) (map (hears_message s (clock_of node.met) m) node.open_operations)

-- a replica, as it was and as it is
abbrev pub TakenAt : {R V : Type 0} → (V → Versions) → Meanings → Replica R V → Replica R V → Arrival → Node → Message → Type 0
TakenAt version h old new made node m = HasTaken (setting_of old h) (setting_of new h) made new.voter.logs.kept new.leases new.digest (version new.rows.rows) (progress_at new.rows.progress) node m
