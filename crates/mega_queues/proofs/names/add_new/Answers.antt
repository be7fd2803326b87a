use Rattle.std.proofs.Common.{◌∙◌, ap, cond, false, Some}
use Rattle.std.specs.BTreeMap.{get}
use Rattle.mega_wal.specs.History.{group_cmp}
use Rattle.mega_wal.specs.Kept.{is_group}
use Rattle.mega_queues.specs.Named.{is_in}
use Rattle.mega_queues.proofs.Naming.{added, put_first}
use Rattle.mega_queues.proofs.names.add_new.Goals as goal

pub returns : goal.returns
returns c =
    added c.args.names.now c.insert-2.new.self c.args.name.now (λ k. false) c.insert.new.self
    (λ k. ap (is_in k) c.requires)
    (λ q. c.in_ok-insert-2.ensures.updates.0 q ∙ ap (λ g. cond (is_group g q) (Some c.insert.new.self) (get group_cmp c.args.names.now q)) c.in_ok-group.ensures)
    (put_first c.new-places.result c.insert.new.self (c.args.name.now.position.0, c.args.name.now.place) c.new-places.ensures.empty c.in_ok-insert.ensures.updates.0)
