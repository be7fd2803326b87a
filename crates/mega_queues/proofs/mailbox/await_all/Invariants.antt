use Rattle.std.proofs.Common.{◌≡◌, ◌++◌, drop}
use Rattle.std.specs.Prelude.{not, filter}
use Rattle.mega_entry.specs.declared.content.Enter.{Enter}
use Rattle.mega_queues.specs.Named.{is_known}
use Rattle.mega_queues.proofs.mailbox.await_all.Given as goal

abbrev pub invariant-loop-enter : goal.invariant-loop-enter
invariant-loop-enter l =
    l.waiting.items ++ filter (λ (message : Enter). not (is_known l.handled message.name)) (drop l.enter-index l.enters)
    ≡ l.initial.waiting.items ++ filter (λ (message : Enter). not (is_known l.handled message.name)) l.enters
