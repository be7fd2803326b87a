use Rattle.std.proofs.Common.{◌≡◌, ℕ, List, Result, Err, ap, subst, rules}
use Rattle.std.specs.Prelude.{IfErr}
use Rattle.mega_backup_words.specs.declared.stop.Stop.{Stop}
use Rattle.mega_backup_words.specs.declared.stop.Stop.TheVariants.{Sink}
use Rattle.mega_backup.specs.Restoring.{read_of}
use Rattle.mega_backup_words.specs.Endings.{Ends}
use Rattle.mega_backup_words.specs.Inputs.{read_ending}
use Rattle.mega_backup_words.specs.Stops.{IsHeaderStop, IsRowStop}
use Rattle.mega_backup_words.proofs.Results.{if_err_then}
use Rattle.mega_backup_words.proofs.Rows.{header_restore, restored_so, row_restore, unread_so}
use Rattle.mega_backup_words.proofs.restoring.restore.Goals as goal

pub returns-in-Ok-clause-ends : goal.returns-in-Ok-clause-ends
returns-in-Ok-clause-ends g c =
    let old = g.O.Sink.held c.args.out.now in
    let new = g.O.Sink.held c.restore_lines.new.out in
    let at = c.args.at.0 in
    let parts = c.in-Ok.parts in
    let s = parts.cluster.schema in
    let same : c.as_slice.result.now ≡ parts.lines.items = search rules in
    restored_so (g.I.Source.left c.args.input.now) old new at parts.cluster parts.lines.items c.restore_lines.result c.in-Ok.ensures.read
    (subst (λ (lines : List (List ℕ)). Ends (read_ending s (read_of s lines at)) old new c.restore_lines.result) same c.restore_lines.ensures.ends)

pub returns-in-Err-clause-ends : goal.returns-in-Err-clause-ends
returns-in-Err-clause-ends g c =
    unread_so (g.I.Source.left c.args.input.now) (g.O.Sink.held c.args.out.now) c.args.at.0 c.in-Err.stop c.in-Err.ensures.only (λ rule is. c.in-Err.ensures.broken rule (ap Err is))

pub returns-in-Ok-clause-source : goal.returns-in-Ok-clause-source
returns-in-Ok-clause-source g c is = absurd (subst (λ (r : Result (Unit {0}) Stop). IfErr r IsRowStop) is c.restore_lines.ensures.only)

pub returns-in-Ok-clause-only : goal.returns-in-Ok-clause-only
returns-in-Ok-clause-only g c = if_err_then c.restore_lines.result _ _ row_restore c.restore_lines.ensures.only

pub returns-in-Err-clause-sink : goal.returns-in-Err-clause-sink
returns-in-Err-clause-sink g c is = let sinks : c.in-Err.stop ≡ Sink = cc in absurd (subst IsHeaderStop sinks c.in-Err.ensures.only)

pub returns-in-Err-clause-only : goal.returns-in-Err-clause-only
returns-in-Err-clause-only g c = header_restore c.in-Err.stop c.in-Err.ensures.only
