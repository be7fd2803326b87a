use Rattle.std.proofs.Common.{◌≡◌, length}
use Rattle.std.specs.List.{All}
use Rattle.mega_places.specs.of_promises.of_transcript.Lines.{HasLine}
use Rattle.mega_places.specs.of_promises.of_transcript.Tape.{newest}
use Rattle.mega_world.specs.Opening.{AreStarted, first_starts}
use Rattle.mega_world.proofs.opening.start_all.Given as goal

abbrev pub invariant-loop-before : goal.invariant-loop-before
invariant-loop-before l =
    record {
      count : length l.places.items ≡ l.before;
      each : AreStarted l.cluster l.places.items;
      tape : newest l.tape.items ≡ first_starts l.before;
      lines : All HasLine l.tape.items;
    }
