use Rattle.std.proofs.Common.{◌≡◌, ◌+◌, arith, get_or, subst, sym}
use Rattle.mega_replica.specs.Applying.{writes_through}
use Rattle.mega_replica.specs.Stored.{stored_with}
use Rattle.mega_replica.proofs.Only.{only_then}
use Rattle.mega_replica.proofs.Steps.{put_next}
use Rattle.mega_replica.proofs.Telling.{tells_same}
use Rattle.mega_replica.proofs.storing.store_entry.Goals as goal

pub returns-in_err-store_write-clause-tells : goal.returns-in_err-store_write-clause-tells
returns-in_err-store_write-clause-tells g c = λ group log counts entry rest is same tells.
    tells_same (g.V.Versions.version c.loop-index.rows) (g.V.Versions.version c.store_write.new.rows) log (stored_with counts group (writes_through c.args.entries (log group) + c.loop-index.stored))
    c.in_err-store_write.ensures.left (c.loop-index.invariant.tells group log counts entry rest is same tells)

pub loop-index-preserved : goal.loop-index-preserved
loop-index-preserved g c = record {
  place = let at = c.loop-index.invariant.place in omega (arith, at);
  within = let test = c.loop-index-test.true in omega (arith, test);
  sum = let was = c.loop-index.invariant.sum in let some = c.if-left-eq0.false in omega (arith, was, some);
  tells = λ group log counts entry rest is same tells.
      let at = c.loop-index.invariant.place in
      let test = c.loop-index-test.true in
      put_next group log counts c.args.entries c.loop-index.stored entry rest c.args.writes.now c.index-writes-index.result (g.V.Versions.version c.loop-index.rows) (g.V.Versions.version c.store_write.new.rows)
      is same (omega (arith, at, test))
      (subst (λ m. c.index-writes-index.result ≡ get_or c.args.writes.now m c.index-writes-index.result) (sym at) c.index-writes-index.is)
      c.in_ok-store_write.ensures.put (c.loop-index.invariant.tells group log counts entry rest is same tells);
  only = only_then g.V.Versions c.args.rows.now c.loop-index.rows c.store_write.new.rows c.loop-index.invariant.only c.in_ok-store_write.ensures.only;
}
