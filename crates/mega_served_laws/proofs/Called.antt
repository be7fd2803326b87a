-- The two calls are calls of one node on the same devices, the second under a schema that extends that of the first.
use Rattle.std.proofs.Common.{◌≡◌, inl, inr, [], refl}
use Rattle.mega_outcome.specs.Extends.{Extends}
use Rattle.mega_promises.specs.Runs.{IsRun, by_fuse}
use Rattle.mega_rules.specs.Examples.{cluster, schema}
use Rattle.mega_served_laws.specs.Lives.{AreOfNine}
use Rattle.mega_promises.specs.Records.{AreNodeCalls, AreOfSchemas}
use Rattle.mega_base.specs.Codec.{number_text}
use Rattle.mega_base.specs.Names.{group_at, op_at, position_in}
use Rattle.mega_base.specs.Pairs.{pair_at}
use Rattle.mega_base.specs.Reading.{byte_in, bytes_in, bytes_of_len, digits_in, whole_of}
use Rattle.mega_ballot.specs.Ballots.{ballot_at}
use Rattle.mega_wire.specs.Messages.{addressed_at, body_of, kinded_at, mark_at, message_at}
use Rattle.mega_served_laws.specs.Calls.{sends_of}
use Rattle.mega_served_laws.specs.Examples.{more_schema, one_tick, promise_and_refusal, ticked_tape, two_calls}

pub two_are_calls : AreNodeCalls 1 [] two_calls
two_are_calls = (record { record_is = refl; sends_are = refl; journal_is = inl refl }, (record { record_is = refl; sends_are = refl; journal_is = inl refl }, tt))

extends : Extends schema more_schema
extends = record {
  tables = (record { added = _; properties = refl; lacking = refl; keyed = refl; primary = refl; root = refl; group = refl; inside = refl; scatter = refl }, tt);
  indexes = refl;
}

pub two_of_schemas : AreOfSchemas schema two_calls
two_of_schemas = (inl refl, (inr extends, tt))

pub two_send : sends_of two_calls ≡ promise_and_refusal
unfolding number_text whole_of message_at mark_at byte_in kinded_at addressed_at pair_at body_of op_at digits_in group_at bytes_in bytes_of_len position_in ballot_at
two_send = refl

pub tick_runs : IsRun cluster [] one_tick ticked_tape
tick_runs = record { cuts = by_fuse; tape_is = refl }

pub tick_of_nine : AreOfNine ticked_tape
tick_of_nine = (refl, (refl, (refl, tt)))
