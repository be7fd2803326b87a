use Rattle.std.proofs.Common.{◌≡◌, ℕ, ◌∙◌, length, min, arith}
use Rattle.mega_base.proofs.Ordered.{ended}
use Rattle.mega_base.proofs.bytes.by_bytes.Goals as goal

pub returns : goal.returns
returns c =
    let at : c.loop-i.i ≡ min (length c.args.a.now) (length c.args.b.now) = (let both = c.min-both.ensures in let inv = c.loop-i.invariant in let m = inv.0 in let p = inv.1 in let q = c.loop-i-test.false in omega arith) in
    ended c.args.a.now c.args.b.now c.loop-i.i c.cmp.result at c.cmp.ensures ∙ c.loop-i.invariant.2
