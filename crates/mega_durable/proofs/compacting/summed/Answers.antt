use Rattle.std.proofs.Common.{◌∙◌, Option, ap, length, subst, sym}
use Rattle.std.proofs.lemmas.Bool.{false≢true}
use Rattle.std.specs.Prelude.{All}
use Rattle.mega_wal.specs.declared.answers.LogFault.{LogFault}
use Rattle.mega_wal.specs.Compaction.{compacted_text}
use Rattle.mega_wal.specs.Items.{IsItem}
use Rattle.mega_durable.specs.Compacting.{LogCompacts}
use Rattle.mega_durable.proofs.Summing.{failed_proceeds, held_format, summed_holds, summed_leaves}
use Rattle.mega_durable.proofs.compacting.summed.Goals as goal

pub returns-then-not-are_items-clause-formed : goal.returns-then-not-are_items-clause-formed
returns-then-not-are_items-clause-formed g c = λ is met told holds.
    let old = c.args.logs.now in
    let each = c.in-Ok.ensures.each (held_format old.kept (g.R.Records.list old.records) met told holds) in
    false≢true (sym c.if-not-are_items.true ∙ c.are_items.ensures.1 (subst (All IsItem) (sym c.as_slice.ensures) each))

pub returns-clause-any_moment : goal.returns-clause-any_moment
returns-clause-any_moment g c = λ seen ready.
    let old = c.args.logs.now in
    let done = c.in-Err-sum_up.ensures in
    summed_leaves g.R.Records old.records c.sum_up.new.self.records old.kept (compacted_text old.kept) done.same done.read (done.any_moment seen ready) (λ least. (done.long least).0)
    (g.met.R.Records.only old.records seen ready) (g.met.R.Records.only_now old.records)

pub returns-clause-proceeds : goal.returns-clause-proceeds
returns-clause-proceeds g c =
    let old = c.args.logs.now in
    let new = c.sum_up.new.self.records in
    let done = c.in-Err-sum_up.ensures in
    subst (λ (one : Option LogFault). LogCompacts g.R.Records one old.records new) (sym c.not_compacted-in-Err-sum_up.ensures.cause)
    (failed_proceeds g.R.Records (length (compacted_text old.kept)) old.records new c.in-Err-sum_up.fault done.later done.may_burn done.by_fuse done.opened done.cause done.burns done.full done.unchanged done.spent done.idle done.good)
