use Rattle.std.proofs.Common.{[], ◌++◌, subst, sym}
use Rattle.std.specs.Prelude.{OnErr}
use Rattle.mega_words.specs.declared.command.Report.{Report}
use Rattle.mega_replay_output.specs.Progress.{WritesFront}
use Rattle.mega_replay_output.specs.Texts.{so_far}
use Rattle.mega_replay_output.proofs.Progress.{as_front, nothing_added}
use Rattle.mega_replay_output.proofs.Texts.{on_err_anyway}
use Rattle.mega_replay_output.proofs.writing.tell.Goals as goal

pub returns-in-Summary-clause-cut : goal.returns-in-Summary-clause-cut
returns-in-Summary-clause-cut g c =
    let held = g.O.Sink.held c.args.out.now in
    let waiting = c.args.waiting.now in
    subst (λ (report : Report). OnErr c.count_items.result (WritesFront held held waiting (waiting ++ so_far report c.args.schema.now c.args.items.now))) (sym c.in-Summary.is)
    (on_err_anyway c.count_items.result (WritesFront held held waiting (waiting ++ [])) (as_front held held waiting (waiting ++ []) (nothing_added held waiting)))
