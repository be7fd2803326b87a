use Rattle.std.proofs.Common.{◌≡◌, drop}
use Rattle.std.specs.Prelude.{fold, max}
use Rattle.mega_index.specs.of_entry.declared.content.Send.{Send}
use Rattle.mega_index.specs.Fitted.{enter_length}
use Rattle.mega_outcome.proofs.longest.longer.Given as goal

abbrev pub invariant-loop-send : goal.invariant-loop-send
invariant-loop-send l =
    fold (λ most (send : Send). max most (enter_length l.group send)) l.own l.sends
    ≡ fold (λ most (send : Send). max most (enter_length l.group send)) l.most (drop l.send-index l.sends)
