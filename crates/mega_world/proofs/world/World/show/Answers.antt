use Rattle.std.proofs.Common.{◌++◌, refl, sym, ◌+◌, subst}
use Rattle.std.specs.List.{All}
use Rattle.std.proofs.lemmas.List.Elements.{All-append}
use Rattle.mega_places.specs.of_promises.of_transcript.Lines.{HasLine}
use Rattle.mega_places.specs.of_promises.of_transcript.Tape.{newest, sent_count}
use Rattle.mega_places.specs.of_promises.Items.{numbered}
use Rattle.mega_places.specs.Members.{AreMembers}
use Rattle.mega_world.proofs.Behind.{behind}
use Rattle.mega_world.proofs.Noted.{kept_of, shown_whole}
use Rattle.mega_world.proofs.world.World.show.Goals as goal

pub returns-clause-shown : goal.returns-clause-shown
returns-clause-shown c cluster was ruled earlier stepped =
    let old = c.args.self.now in
    let items = earlier ++ c.args.tape.now.items in
    let lapses = c.keep_lapses.new.lapses in
    let knows = kept_of cluster old c.args.me c.args.made.notes was ruled (newest items) lapses stepped c.in_ok-keep_lapses.ensures in
    let up = subst (λ places. AreMembers cluster places ruled) (sym c.as_slice.ensures.value) stepped.nodes in
    shown_whole cluster old (record { cluster = old.cluster; places = old.places; mail = c.send_all.new.self; safety = c.put_all.new.safety }) c.args.me c.args.made was ruled items (earlier ++ c.put_all.new.tape.items) (earlier ++ c.send_all.new.tape.items) c.put_all.new.safety stepped
    (c.in_ok-put_all.ensures.tape cluster ruled earlier up knows) (c.in_ok-put_all.ensures.leases cluster ruled earlier up knows) c.in_ok-send_all.ensures.carried
    (λ before carries. behind earlier c.put_all.new.tape.items (numbered (sent_count before + 1) c.args.made.sends) c.send_all.new.tape.items (c.in_ok-send_all.ensures.shown before carries)) refl refl refl

pub returns-clause-lines : goal.returns-clause-lines
returns-clause-lines c before carries lined notes sends =
    let made = c.args.made in
    subst (All HasLine) (sym (c.in_ok-send_all.ensures.shown before carries))
    (All-append HasLine c.put_all.new.tape.items (numbered (sent_count before + 1) made.sends) (c.in_ok-put_all.ensures.lines lined notes) sends)
