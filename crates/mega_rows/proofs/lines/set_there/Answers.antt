use Rattle.std.proofs.Common.{◌∙◌, ap, sym}
use Rattle.std.specs.Prelude.{is_some, Option}
use Rattle.mega_disk.specs.VersionMaps.{SameVersions}
use Rattle.mega_rows.specs.Lines.{Line, in_line, version_in}
use Rattle.mega_rows.proofs.Changed.{line_puts, line_same, was_there, entries_same, on_err}
use Rattle.mega_rows.proofs.lines.set_there.Goals as goal

pub returns-in_ok-set-in-Some-clause-ok : goal.returns-in_ok-set-in-Some-clause-ok
returns-in_ok-set-in-Some-clause-ok c =
    let there = c.in-Some.ensures.value in
    line_puts c.args.lines.now (c.get_mut.follows.lender c.set.new.line) c.args.key.now c.set.new.line
    ((c.get_mut.follows.holds c.set.new.line).3 (ap is_some (sym there))).0
    c.args.at c.args.row
    (was_there c.args.lines.now c.args.key.now c.set.new.line c.in-Some.line.now c.args.at c.args.row there c.in_ok-set-in-Some.ensures.ok)

pub returns-in_err-set-in-Some-clause-err : goal.returns-in_err-set-in-Some-clause-err
returns-in_err-set-in-Some-clause-err c =
    let there = c.in-Some.ensures.value in
    on_err c.from_residual.result (SameVersions (version_in c.args.lines.now) (version_in (c.get_mut.follows.lender c.set.new.line)))
    (line_same c.args.lines.now (c.get_mut.follows.lender c.set.new.line) c.args.key.now c.set.new.line
    ((c.get_mut.follows.holds c.set.new.line).3 (ap is_some (sym there))).0
    (λ p. entries_same c.set.new.line c.in-Some.line.now c.in_err-set-in-Some.ensures.err p ∙ ap (λ (o : Option Line). in_line o p) there))
