use Rattle.std.proofs.Common.{◌≡◌, ◌+◌, ◌++◌, List, length}
use Rattle.mega_promises.specs.Items.{numbered}
use Rattle.mega_transcript.specs.declared.item.Item.{Item as OnTape}
use Rattle.mega_transcript.specs.Tape.{onto}
use Rattle.mega_places.specs.Carries.{Carries}
use Rattle.mega_places.proofs.mail.Mail.send_all.Given as goal

abbrev pub invariant-loop-message : goal.invariant-loop-message
invariant-loop-message l =
    ((before : List OnTape) → Carries l.initial.self before → Carries l.self (onto (numbered (length l.initial.self.messages + 1) l.yielded) before))
    × (l.self.messages ≡ l.initial.self.messages ++ l.yielded)
    × (l.tape.items ≡ l.initial.tape.items ++ numbered (length l.initial.self.messages + 1) l.yielded)
