use Rattle.std.proofs.Common.{◌+◌, sym, subst, arith}
use Rattle.std.specs.Io.KnownBytes.{Appends}
use Rattle.mega_io.specs.Pieces.{AppendsFront}
use Rattle.mega_io.proofs.Writing.{Written}
use Rattle.mega_wal.specs.History.{decided_of}
use Rattle.mega_backup.specs.Texts.{entry_line}
use Rattle.mega_backup.proofs.Answered.{on_err}
use Rattle.mega_backup.proofs.Decided.{decided_entry}
use Rattle.mega_backup.proofs.Logged.{text_from, text_all, text_some, text_none}
use Rattle.mega_backup.proofs.Streams.{wrote_on, wrote_front, wrote_all}
use Rattle.mega_backup.proofs.writing.write_entries.Goals as goal

pub write_entry-requires : goal.write_entry-requires
write_entry-requires g c =
    decided_entry c.requires.items c.requires.each c.args.group.now (c.loop-n.n + 1) c.in-Some.entry.now (sym (c.in-Some.ensures c.requires.items c.requires.represents))

pub returns-in_err-write_entry-in-Some-clause-err : goal.returns-in_err-write_entry-in-Some-clause-err
returns-in_err-write_entry-in-Some-clause-err g c =
    on_err c.from_residual.result _ (λ items kept.
    let decided = decided_of items c.args.group.now in
    let whole = text_from decided c.args.most 0 in
    let line = entry_line c.in-Some.entry.now in
    let rest = text_from decided c.args.most (c.loop-n.n + 1) in
    let a = g.O.Sink.held c.args.out.now in
    let b = g.O.Sink.held c.loop-n.out in
    let d = g.O.Sink.held c.write_entry.new.out in
    let parted = text_some decided c.args.most c.loop-n.n c.in-Some.entry.now c.loop-n-test.true (sym (c.in-Some.ensures items kept)) in
    subst (AppendsFront a d) (sym (text_all decided c.args.most))
    (wrote_front a b d whole line rest (subst (Written a b whole) parted (c.loop-n.invariant.written items kept)) c.in_err-write_entry-in-Some.ensures.err))

pub returns-in-None-clause-ok : goal.returns-in-None-clause-ok
returns-in-None-clause-ok g c items kept =
    let decided = decided_of items c.args.group.now in
    let a = g.O.Sink.held c.args.out.now in
    let b = g.O.Sink.held c.loop-n.out in
    subst (Appends a b) (sym (text_all decided c.args.most))
    (wrote_all a b (text_from decided c.args.most 0) (text_from decided c.args.most c.loop-n.n) (c.loop-n.invariant.written items kept)
    (text_none decided c.args.most c.loop-n.n c.loop-n-test.true (sym (c.in-None.ensures items kept))))

pub loop-n-preserved : goal.loop-n-preserved
loop-n-preserved g c = record {
  written = λ items kept.
      let decided = decided_of items c.args.group.now in
      let whole = text_from decided c.args.most 0 in
      let line = entry_line c.in-Some.entry.now in
      let rest = text_from decided c.args.most (c.loop-n.n + 1) in
      let a = g.O.Sink.held c.args.out.now in
      let b = g.O.Sink.held c.loop-n.out in
      let d = g.O.Sink.held c.write_entry.new.out in
      let parted = text_some decided c.args.most c.loop-n.n c.in-Some.entry.now c.loop-n-test.true (sym (c.in-Some.ensures items kept)) in
      wrote_on a b d whole line rest (subst (Written a b whole) parted (c.loop-n.invariant.written items kept)) c.in_ok-write_entry-in-Some.ensures.ok;
  count = omega (arith, c.loop-n.invariant.count, c.in_ok-write_entry-in-Some.ensures.count);
}
