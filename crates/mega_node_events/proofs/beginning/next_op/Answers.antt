use Rattle.std.proofs.Common.{◌≡◌, ◌+◌, ℕ, min, arith}
use Rattle.mega_rules.specs.Clock.{begun_of, next_number}
use Rattle.mega_node_events.proofs.beginning.next_op.Goals as goal

next : (begun n number : ℕ) → number ≡ min (begun + 1) 4294967295 → begun ≡ min n 4294967295 → number ≡ min (n + 1) 4294967295
next begun n number is counted = omega (arith, is, counted)

pub returns : goal.returns
returns g c = λ cluster h met tells counted.
    let number : c.saturating_add.result ≡ next_number met = next c.args.begun (begun_of met) c.saturating_add.result c.saturating_add.ensures counted in
    λ i. record { node = record { 0 = c.args.me }; start = c.start.ensures.exact met tells i; number = number i }
