use Rattle.std.proofs.Common.{ap, sym, ◌∙◌}
use Rattle.mega_transcript.specs.Tape.{newest}
use Rattle.mega_replay_output.proofs.Texts.{newest_twice}
use Rattle.mega_meanings.specs.BuiltIn.{built_in}
use Rattle.mega_line_events.proofs.Plain.{opening_held}
use Rattle.mega_replay_loop.proofs.Starts.{served, starts}
use Rattle.mega_replay_loop.proofs.opening.opened.Goals as goal

pub new-requires-clause-served : goal.new-requires-clause-served
new-requires-clause-served c = served c.args.cluster.now c.requires.read

pub returns-in-Ok-clause-state : goal.returns-in-Ok-clause-state
returns-in-Ok-clause-state c = record { starts = starts c.args.cluster.now c.requires.read; happen = tt; here = c.in-Ok.ensures.state built_in; held = opening_held c.args.cluster.now (starts c.args.cluster.now c.requires.read) }

pub returns-in-Ok-clause-tape : goal.returns-in-Ok-clause-tape
returns-in-Ok-clause-tape c = sym (newest_twice c.new.new.tape.items) ∙ ap newest (c.in-Ok.ensures.tape built_in)
