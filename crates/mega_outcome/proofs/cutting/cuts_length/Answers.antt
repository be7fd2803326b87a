use Rattle.std.proofs.Common.{◌≡◌, ◌∙◌, ◌+◌, ℕ, ap, subst}
use Rattle.std.specs.Prelude.{IfOk}
use Rattle.mega_outcome.proofs.Sizes.{one_cut_at, more_cuts_at}
use Rattle.mega_outcome.proofs.cutting.cuts_length.Goals as goal

pub returns-in-empty-2 : goal.returns-in-empty-2
returns-in-empty-2 c = one_cut_at c.args.cuts.now c.args.last.now c.in-empty.len_below c.if-last-eq0.false

pub returns-in-Some : goal.returns-in-Some
returns-in-Some c =
    subst (λ (m : ℕ). IfOk c.sum.result (λ n. n ≡ m)) (ap (λ (n : ℕ). n + 13) c.in-Some.ensures.1 ∙ more_cuts_at c.args.cuts.now c.args.last.now c.in-len1-up.len_at_least) c.sum.ensures
