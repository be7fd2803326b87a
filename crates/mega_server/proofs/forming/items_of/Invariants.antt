use Rattle.std.proofs.Common.{◌≡◌}
use Rattle.std.specs.List.{All}
use Rattle.mega_transcript.specs.Lines.{HasLine}
use Rattle.mega_server.specs.Forming.{notes_shown}
use Rattle.mega_server.proofs.forming.items_of.Given as goal

abbrev pub invariant-loop-note : goal.invariant-loop-note
invariant-loop-note l = record { shown : l.items ≡ notes_shown l.me l.yielded; lines : All HasLine l.items }
