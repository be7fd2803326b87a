use Rattle.std.proofs.Common.{Some, None, ◌∙◌, ap, sym, cond, ◌==◌}
use Rattle.mega_base.specs.declared.names.GroupId.{GroupId}
use Rattle.mega_wal.specs.Kept.{is_group}
use Rattle.mega_wal.proofs.Placed.{log_of, log_puts, none_found}
use Rattle.mega_wal.proofs.groups.put_new.Goals as goal

pub returns-clause-ok : goal.returns-clause-ok
returns-clause-ok c = log_puts c.args.groups.now c.insert.new.self c.args.group.now c.set.new.self None (sym c.requires)
    (λ other. c.in_ok-insert.ensures.updates.0 other ∙ ap (λ (key : GroupId). cond (is_group key other) (Some c.set.new.self) (log_of c.args.groups.now other)) c.in_ok-own.ensures)
    c.args.at c.args.slot c.args.marks
    (λ m. c.in_ok-set.ensures.ok m ∙ ap (λ o. cond (c.args.at == m) (Some c.args.slot) o) (none_found c.new.result c.new.ensures.empty m))
    c.in_ok-set.ensures.marks
