use Rattle.std.proofs.Common.{ℕ, List, Some, ◌∙◌, ap, cond}
use Rattle.mega_rows.specs.Trims.{is_key}
use Rattle.mega_rows.proofs.Changed.{line_of, line_puts, was_absent}
use Rattle.mega_rows.proofs.lines.set_new.Goals as goal

pub returns-clause-ok : goal.returns-clause-ok
returns-clause-ok c = line_puts c.args.lines.now c.insert.new.self c.args.key.now c.set.new.line
    (λ other. c.in_ok-insert.ensures.updates.0 other ∙ ap (λ (key : List ℕ). cond (is_key key other) (Some c.set.new.line) (line_of c.args.lines.now other)) c.in_ok-own.ensures)
    c.args.at c.args.row
    (was_absent c.args.lines.now c.args.key.now c.set.new.line c.new-line.result c.args.at c.args.row c.requires c.new-line.ensures.empty c.in_ok-set.ensures.ok)
