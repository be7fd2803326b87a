use Rattle.std.proofs.Common.{ℕ, List, [], ◌∷◌, ◌++◌, ◌∙◌, ap, arith}
use Rattle.mega_journal.proofs.Reading.{reads_on, rest_bytes, ends, few_records}
use Rattle.mega_journal.proofs.parsing.parse.Goals as goal

pub loop-body-preserved : goal.loop-body-preserved
loop-body-preserved c =
    let so_far = c.loop-body.invariant in
    reads_on c.args.bytes.now c.loop-body.records.items _ c.loop-body.rest.now c.in-Some.body.now c.in-Some.behind.now so_far
    (rest_bytes c.args.bytes.now c.loop-body.records.items c.loop-body.rest.now so_far (λ i. omega (arith, c.type_inv.bytes i))) c.in-Some.ensures
    (c.in_ok-push.ensures.items ∙ ap (λ (body : List ℕ). c.loop-body.records.items ++ body ∷ []) c.in_ok-from_slice.ensures)

pub returns-clause-records : goal.returns-clause-records
returns-clause-records c = (ends c.args.bytes.now c.loop-body.records.items c.loop-body.rest.now c.loop-body.invariant c.in_default.ensures).records_are

pub returns-clause-end : goal.returns-clause-end
returns-clause-end c = (ends c.args.bytes.now c.loop-body.records.items c.loop-body.rest.now c.loop-body.invariant c.in_default.ensures).place

pub returns-clause-spelled : goal.returns-clause-spelled
returns-clause-spelled c = (ends c.args.bytes.now c.loop-body.records.items c.loop-body.rest.now c.loop-body.invariant c.in_default.ensures).spelled

pub returns-clause-closed : goal.returns-clause-closed
returns-clause-closed c = (ends c.args.bytes.now c.loop-body.records.items c.loop-body.rest.now c.loop-body.invariant c.in_default.ensures).closed

pub returns-clause-short : goal.returns-clause-short
returns-clause-short c = (ends c.args.bytes.now c.loop-body.records.items c.loop-body.rest.now c.loop-body.invariant c.in_default.ensures).short

pub returns-clause-few : goal.returns-clause-few
returns-clause-few c = few_records c.args.bytes.now c.loop-body.records.items c.loop-body.rest.now c.loop-body.invariant
