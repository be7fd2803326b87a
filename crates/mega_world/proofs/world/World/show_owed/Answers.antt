use Rattle.std.proofs.Common.{List, ◌++◌, flat_map, map, refl, subst, sym}
use Rattle.std.specs.List.{All}
use Rattle.std.proofs.lemmas.List.Elements.{All-append}
use Rattle.mega_places.specs.of_voter.of_rules.Met.{Unsends}
use Rattle.mega_places.specs.of_promises.of_transcript.Lines.{HasLine}
use Rattle.mega_places.specs.of_promises.of_transcript.Tape.{newest}
use Rattle.mega_places.specs.of_promises.Items.{shown}
use Rattle.mega_places.specs.declared.place.Place.{Place}
use Rattle.mega_world.specs.declared.world.World.{World}
use Rattle.mega_places.specs.Kept.{owed_of}
use Rattle.mega_places.specs.Members.{AreMembers}
use Rattle.mega_world.specs.Owing.{IsOwing, ShowsOwed}
use Rattle.mega_world.proofs.Behind.{behind}
use Rattle.mega_world.proofs.Showed.{none_owed, owed_kept, owed_lined, owed_shown}
use Rattle.mega_world.proofs.world.World.show_owed.Goals as goal

pub returns-in-None-clause-shown : goal.returns-in-None-clause-shown
returns-in-None-clause-shown c cluster was ruled earlier owing =
    let old = c.args.self.now in
    let tape = newest (earlier ++ c.args.tape.now.items) in
    subst (λ owed. ShowsOwed cluster old old c.args.me (owed_of owed) ruled tape tape) (sym c.in-None.is) (none_owed cluster old c.args.me was ruled tape (subst (λ owed. IsOwing cluster old c.args.me (owed_of owed) was ruled tape) c.in-None.is owing))

pub returns-clause-shown : goal.returns-clause-shown
returns-clause-shown c cluster was ruled earlier owing =
    let old = c.args.self.now in
    let me = c.args.me in
    let cut = c.in-Some.cut in
    let items = earlier ++ c.args.tape.now.items in
    let owes = subst (λ owed. IsOwing cluster old me (owed_of owed) was ruled (newest items)) c.in-Some.is owing in
    let keeps = owed_kept cluster old me cut was ruled (newest items) c.keep_lapses.new.lapses owes c.in_ok-keep_lapses.ensures in
    let up = subst (λ (ps : List Place). AreMembers cluster ps ruled) (sym c.as_slice.ensures.value) owing.nodes in
    let new : World = record old { safety = c.put_all.new.safety } in
    subst (λ owed. ShowsOwed cluster old new me (owed_of owed) ruled (newest items) (newest (earlier ++ c.put_unsent.new.tape.items))) (sym c.in-Some.is)
    (owed_shown cluster old new me cut ruled items (earlier ++ c.put_all.new.tape.items) (earlier ++ c.put_unsent.new.tape.items) refl refl refl (c.in_ok-put_all.ensures.tape cluster ruled earlier up keeps) (c.in_ok-put_all.ensures.leases cluster ruled earlier up keeps)
    (behind earlier c.put_all.new.tape.items (flat_map (shown me) (map Unsends cut.replies)) c.put_unsent.new.tape.items c.in_ok-put_unsent.ensures))

pub returns-clause-lines : goal.returns-clause-lines
returns-clause-lines c lined owed =
    let me = c.args.me in
    let cut = c.in-Some.cut in
    let both = owed_lined me cut (subst (λ owing. All HasLine (flat_map (shown me) (owed_of owing))) c.in-Some.is owed) in
    subst (All HasLine) (sym c.in_ok-put_unsent.ensures) (All-append HasLine c.put_all.new.tape.items (flat_map (shown me) (map Unsends cut.replies)) (c.in_ok-put_all.ensures.lines lined both.0) both.1)
