-- An operation that goes on acts, with the rest of its turns ahead.
use Rattle.std.proofs.Common.{◌≡◌, ℕ, ◌+◌, suc, length, ap, arith}
use Rattle.mega_rules.specs.Logs.{groups_of}
use Rattle.mega_rules.specs.Operations.{Now, Operation, Setting}
use Rattle.mega_rules.specs.Acting.{ActsAgain, acts, goes_on, rests_within}
use Rattle.mega_actions.specs.Later.{later}

two_more : (n : ℕ) → n + 2 ≡ suc (suc n)
two_more n = grind (arith)

pub goes_on_acts : (s : Setting) (now : Now) (o : Operation) → goes_on s now o ≡ later s now (acts s now o)
goes_on_acts s now o = ap (λ n. rests_within n s (ActsAgain now o)) (two_more (length (groups_of now.met)))
