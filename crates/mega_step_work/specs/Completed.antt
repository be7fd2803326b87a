-- A node whose read of a group is complete through a position, by whether the group was made valid for that.
use Rattle.std.specs.Prelude.{ℕ, Bool, true, false, None}
use Rattle.mega_base.specs.declared.names.GroupId.{GroupId}
use Rattle.mega_replica.specs.Applying.{after_read}
use Rattle.mega_rules.specs.Operations.{Now}
use Rattle.mega_rules.specs.Acting.{stored_with, validated_by}
use Rattle.mega_rules.specs.Logs.{log_of}

-- all writes of the group through the position are stored
abbrev pub stored_through : Now → GroupId → ℕ → Now
stored_through now group p = record {
  met = now.met;
  stored = stored_with now.stored group (after_read p (log_of now.met group) (now.stored group));
  kept = now.kept;
  valid = now.valid;
  answers = now.answers;
  sends = now.sends;
}

-- the group is made valid, or not
abbrev pub valid_if : Now → GroupId → ℕ → Bool → Now
valid_if now group p true = validated_by now group p None
valid_if now group p false = now

abbrev pub completed : Now → GroupId → ℕ → Bool → Now
completed now group p made = valid_if (stored_through now group p) group p made
