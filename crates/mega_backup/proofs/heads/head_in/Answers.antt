use Rattle.std.proofs.Common.{IfOk, ◌≡◌, sym, subst}
use Rattle.mega_backup.proofs.Spaces.{head_found}
use Rattle.mega_backup.proofs.heads.head_in.Goals as goal

pub returns : goal.returns
returns c =
    subst (λ found. IfOk c.head_of.result (λ head. head ≡ found))
    (head_found c.args.line.now c.in-Some.words.now c.split_at.result.0.now c.split_at.result.1.now c.split_at-2.result.1.now c.in-Some-space_in.at
    (sym c.in-Some.ensures) (sym c.in-Some-space_in.ensures) c.split_at.ensures.front c.split_at.ensures.back c.split_at-2.ensures.back)
    c.head_of.ensures
