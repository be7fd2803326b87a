use Rattle.std.proofs.Common.{refl}
use Rattle.mega_durable.specs.Compacting.{HoldsAll}
use Rattle.mega_durable.proofs.Summing.{same_compacts}
use Rattle.mega_durable.proofs.Upheld.{leaves_same}
use Rattle.mega_durable.proofs.compacting.compacted.Goals as goal

pub returns-then-not-is_to_compact-clause-any_moment : goal.returns-then-not-is_to_compact-clause-any_moment
returns-then-not-is_to_compact-clause-any_moment g c = λ seen ready met told holds.
    let records = c.args.logs.now.records in
    leaves_same g.R.Records records records (HoldsAll met) (g.met.R.Records.only records seen ready) (g.met.R.Records.only_now records) refl holds

pub returns-then-not-is_to_compact-clause-proceeds : goal.returns-then-not-is_to_compact-clause-proceeds
returns-then-not-is_to_compact-clause-proceeds g c = same_compacts g.R.Records c.args.logs.now.records
