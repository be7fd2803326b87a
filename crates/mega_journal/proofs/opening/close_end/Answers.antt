use Rattle.std.proofs.Common.{List, ℕ, sym, ◌∙◌, ap}
use Rattle.std.proofs.lemmas.Result.{on_ok_weaker}
use Rattle.mega_disk.proofs.Leaves.{weaker_leaves}
use Rattle.mega_journal.specs.Rest.{is_shut}
use Rattle.mega_disk.proofs.Outcomes.{both_ok}
use Rattle.mega_journal.proofs.Repaired.{closed_end, torn_end, when_open}
use Rattle.mega_journal.proofs.opening.close_end.Goals as goal

pub returns-clause-same : goal.returns-clause-same
returns-clause-same g c told =
    on_ok_weaker c.write_through.result (λ written. (closed_end (g.D.Disk.seen c.args.disk.now) c.args.end (c.requires.read told) _ written).1) (c.write_through.ensures.written told)

pub returns-clause-settled : goal.returns-clause-settled
returns-clause-settled g c told =
    both_ok c.write_through.result (λ written durable. record { at_rest = (closed_end (g.D.Disk.seen c.args.disk.now) c.args.end (c.requires.read told) _ written).0; durable = durable })
    (c.write_through.ensures.written told) (c.write_through.ensures.durable told)

pub returns-clause-any_moment : goal.returns-clause-any_moment
returns-clause-any_moment g c told =
    let file = g.D.Disk.seen c.args.disk.now in
    let is = c.requires.read told in
    let test = ap (λ (f : List ℕ). is_shut f c.args.end) (sym (c.requires.bytes told)) ∙ sym c.ends_shut.ensures ∙ c.if-ends_shut.false in
    weaker_leaves g.D.Disk.moment g.D.Disk.left_since c.args.disk.now c.write_through.new.disk _ _ (c.write_through.ensures.any_moment told (c.requires.durable told))
    (torn_end file c.args.end is (when_open file c.args.end is test))
