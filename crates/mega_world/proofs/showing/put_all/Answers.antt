use Rattle.std.proofs.Common.{◌++◌}
use Rattle.mega_places.specs.of_promises.of_transcript.Tape.{newest}
use Rattle.mega_world.proofs.Noted.{lined_first, lined_last, one_more}
use Rattle.mega_world.proofs.showing.put_all.Goals as goal

pub loop-note-preserved : goal.loop-note-preserved
loop-note-preserved c =
    let me = c.args.me in
    let were = c.loop-note.invariant in
    let yielded = c.loop-note.yielded in
    let note = c.in-Some.note in record {
      tape = λ cluster ruled earlier up knows.
          one_more cluster ruled me (newest (earlier ++ c.args.tape.now.items)) (newest (earlier ++ c.loop-note.tape.items)) (newest (earlier ++ c.put.new.tape.items)) yielded note
          (c.in_ok-put.ensures.tape cluster ruled earlier up (were.leases cluster ruled earlier up knows)) (were.tape cluster ruled earlier up knows);
      leases = λ cluster ruled earlier up knows. c.in_ok-put.ensures.leases cluster ruled earlier up (were.leases cluster ruled earlier up knows);
      lines = λ lined all. c.in_ok-put.ensures.lines (were.lines lined (lined_first me yielded note all)) (lined_last me yielded note all);
    }
