use Rattle.std.proofs.Common.{◌∙◌, ap, sym}
use Rattle.std.specs.Prelude.{is_some, Option}
use Rattle.mega_disk.specs.VersionMaps.{SameVersions}
use Rattle.mega_rows.specs.Lines.{Line, in_line, version_in}
use Rattle.mega_rows.proofs.Changed.{absent_trims, entries_same, line_same, line_trims, on_err}
use Rattle.mega_rows.proofs.lines.trim_key.Goals as goal

pub returns-in_ok-trim-in-Some-clause-ok : goal.returns-in_ok-trim-in-Some-clause-ok
returns-in_ok-trim-in-Some-clause-ok c =
    let there = c.in-Some.ensures.value in
    line_trims c.args.lines.now (c.get_mut.follows.lender c.trim.new.line) c.args.key.now c.trim.new.line c.in-Some.line.now c.args.below
    ((c.get_mut.follows.holds c.trim.new.line).3 (ap is_some (sym there))).0 there c.in_ok-trim-in-Some.ensures.ok

pub returns-in_err-trim-in-Some-clause-err : goal.returns-in_err-trim-in-Some-clause-err
returns-in_err-trim-in-Some-clause-err c =
    let there = c.in-Some.ensures.value in
    on_err c.from_residual.result (SameVersions (version_in c.args.lines.now) (version_in (c.get_mut.follows.lender c.trim.new.line)))
    (line_same c.args.lines.now (c.get_mut.follows.lender c.trim.new.line) c.args.key.now c.trim.new.line
    ((c.get_mut.follows.holds c.trim.new.line).3 (ap is_some (sym there))).0
    (λ p. entries_same c.trim.new.line c.in-Some.line.now c.in_err-trim-in-Some.ensures.err p ∙ ap (λ (o : Option Line). in_line o p) there))

pub returns-in-None-clause-ok : goal.returns-in-None-clause-ok
returns-in-None-clause-ok c = absent_trims c.args.lines.now c.get_mut.follows.lender-at-none c.args.key.now c.args.below c.get_mut.follows.holds-at-none c.in-None.ensures.value
