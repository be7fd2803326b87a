use Rattle.std.proofs.Common.{◌≡◌, List, Err, sym, subst, ◌∙◌, rules}
use Rattle.std.specs.Prelude.{OnErr, OnOk}
use Rattle.std.specs.Io.KnownBytes.{Appends}
use Rattle.mega_io.specs.Pieces.{AppendsFront}
use Rattle.mega_outcome.specs.declared.transaction.Transaction.{Transaction}
use Rattle.mega_backup.specs.Restoring.{read_of}
use Rattle.mega_backup_words.specs.declared.stop.Stop.{Stop}
use Rattle.mega_backup_words.specs.Endings.{Ends}
use Rattle.mega_backup_words.specs.Inputs.{lines_text, read_ending}
use Rattle.mega_backup_words.specs.Stops.{IsRowStop}
use Rattle.mega_backup_words.proofs.Results.{if_err_then}
use Rattle.mega_backup_words.proofs.Rows.{fault_ends, no_sink, row_stop, rows_end, sink_row}
use Rattle.mega_backup_words.proofs.restoring.restore_lines.Goals as goal

pub returns-in-Ok-clause-ends : goal.returns-in-Ok-clause-ends
returns-in-Ok-clause-ends g c =
    let s = c.args.schema.now in
    let old = g.O.Sink.held c.args.out.now in
    let new = g.O.Sink.held c.write_lines.new.out in
    let same : c.as_slice.result.now ≡ c.in-Ok.txns.items = search rules in
    rows_end s (read_of s c.args.lines.now c.args.at.0) c.in-Ok.txns.items old new c.write_lines.result c.in-Ok.ensures
    (subst (λ (txns : List Transaction). OnOk c.write_lines.result (Appends old new (lines_text s txns))) same c.write_lines.ensures.ok)
    (subst (λ (txns : List Transaction). OnErr c.write_lines.result (AppendsFront old new (lines_text s txns))) same c.write_lines.ensures.err) c.write_lines.ensures.only

pub returns-in-Err-clause-ends : goal.returns-in-Err-clause-ends
returns-in-Err-clause-ends g c =
    let s = c.args.schema.now in
    let answer = read_of s c.args.lines.now c.args.at.0 in
    let old = g.O.Sink.held c.args.out.now in
    subst (λ (stop : Stop). Ends (read_ending s answer) old old (Err stop)) (sym c.from.ensures) (fault_ends s answer old c.in-Err.fault c.in-Err.ensures)

pub returns-in-Err-clause-sink : goal.returns-in-Err-clause-sink
returns-in-Err-clause-sink g c is =
    let s = c.args.schema.now in
    absurd (no_sink (read_of s c.args.lines.now c.args.at.0) c.in-Err.fault c.in-Err.ensures (sym c.from.ensures ∙ cc))

pub returns-in-Err-clause-only : goal.returns-in-Err-clause-only
returns-in-Err-clause-only g c = subst IsRowStop (sym c.from.ensures) (row_stop c.in-Err.fault)

pub returns-in-Ok-clause-only : goal.returns-in-Ok-clause-only
returns-in-Ok-clause-only g c = if_err_then c.write_lines.result _ _ sink_row c.write_lines.ensures.only
