use Rattle.std.proofs.Common.{◌≡◌, ◌-◌, ◌++◌, List, drop, flat_map, get_or, ap, sym, subst, ◌∙◌, arith}
use Rattle.std.specs.Prelude.{None}
use Rattle.mega_locks.specs.History.{Call, Represents, nodes}
use Rattle.mega_rules.specs.Locks.{reopening}
use Rattle.mega_leases.proofs.Ticked.{one_node_before}
use Rattle.mega_leases.proofs.leases.reopened.Goals as goal

pub loop-done-preserved : goal.loop-done-preserved
loop-done-preserved c =
    let grants = c.args.grants.now in
    let done = c.loop-done.done in
    let rest = flat_map (λ node. reopening node (get_or grants (node - 1) None)) (drop (9 - done) nodes) in
    subst (λ (calls : List Call). Represents c.reopen.new.cell calls)
    (ap (λ k. reopening (9 - done) (get_or grants (k - 1) None) ++ rest) c.from.ensures ∙ sym (one_node_before (λ node. reopening node (get_or grants (node - 1) None)) done c.loop-done-test.true))
    (c.reopen.ensures _ c.loop-done.invariant)

pub returns : goal.returns
returns c =
    let ended : c.loop-done.done ≡ 9 = omega arith in
    subst (λ done. Represents c.loop-done.cell (flat_map (λ node. reopening node (get_or c.args.grants.now (node - 1) None)) (drop (9 - done) nodes))) ended c.loop-done.invariant
