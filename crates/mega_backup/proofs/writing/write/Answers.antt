use Rattle.std.proofs.Common.{◌≡◌, ◌≤◌, take, ap, sym, subst, arith, rules}
use Rattle.std.specs.Io.KnownBytes.{Appends}
use Rattle.mega_io.specs.Pieces.{AppendsFront}
use Rattle.mega_wal.specs.History.{prefix_of}
use Rattle.mega_replica.specs.Stored.{log_in}
use Rattle.mega_backup.specs.Texts.{entries_text, head_line}
use Rattle.mega_backup.proofs.Answered.{if_err, ok_then, err_then}
use Rattle.mega_backup.proofs.Logged.{first_of_log}
use Rattle.mega_backup.proofs.Streams.{both_written, front_behind, front_first}
use Rattle.mega_backup.proofs.writing.write.Goals as goal

pub returns-in_err-put_line-clause-stopped : goal.returns-in_err-put_line-clause-stopped
returns-in_err-put_line-clause-stopped g c =
    if_err c.from_residual-in_err-put_line.result _ (λ fault stop items kept.
    let p = c.args.through.0 in
    let group = c.args.group.now in
    let line : c.as_slice.result.now ≡ head_line group p = search rules in
    let a = g.O.Sink.held c.args.out.now in
    let b = g.O.Sink.held c.put_line.new.out in
    let few : p ≤ prefix_of items group = omega (arith, c.if-has-through.false, c.prefix-has.ensures items kept) in
    (few, front_first a b (head_line group p) (entries_text (take p (log_in items group))) (subst (AppendsFront a b) line c.in_err-put_line.ensures.err)))

pub returns-clause-whole : goal.returns-clause-whole
returns-clause-whole g c =
    let p = c.args.through.0 in
    let group = c.args.group.now in
    let line : c.as_slice.result.now ≡ head_line group p = search rules in
    let a = g.O.Sink.held c.args.out.now in
    let b = g.O.Sink.held c.put_line.new.out in
    let d = g.O.Sink.held c.write_entries.new.out in
    ok_then c.write_entries.result _ _ (λ more items kept.
    let few : p ≤ prefix_of items group = omega (arith, c.if-has-through.false, c.prefix-has.ensures items kept) in
    let entries = ap entries_text (first_of_log items group p few) in
    (few, both_written a b d (head_line group p) (entries_text (take p (log_in items group))) (subst (Appends a b) line c.in_ok-put_line.ensures.ok) (subst (Appends b d) (sym entries) (more items kept))))
    c.write_entries.ensures.ok

pub returns-clause-stopped : goal.returns-clause-stopped
returns-clause-stopped g c =
    let p = c.args.through.0 in
    let group = c.args.group.now in
    let line : c.as_slice.result.now ≡ head_line group p = search rules in
    let a = g.O.Sink.held c.args.out.now in
    let b = g.O.Sink.held c.put_line.new.out in
    let d = g.O.Sink.held c.write_entries.new.out in
    err_then c.write_entries.result _ _ (λ more fault stop items kept.
    let few : p ≤ prefix_of items group = omega (arith, c.if-has-through.false, c.prefix-has.ensures items kept) in
    let entries = ap entries_text (first_of_log items group p few) in
    (few, front_behind a b d (head_line group p) (entries_text (take p (log_in items group))) (subst (Appends a b) line c.in_ok-put_line.ensures.ok) (subst (AppendsFront b d) (sym entries) (more items kept))))
    c.write_entries.ensures.err
