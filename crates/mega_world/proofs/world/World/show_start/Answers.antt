use Rattle.std.proofs.Common.{List, [], ◌∷◌, ◌++◌, refl, subst, sym}
use Rattle.std.specs.List.{All}
use Rattle.std.proofs.lemmas.List.Elements.{All-push}
use Rattle.mega_places.specs.of_promises.of_transcript.declared.item.Item.TheVariants.{Start}
use Rattle.mega_places.specs.of_promises.of_transcript.Lines.{HasLine}
use Rattle.mega_places.specs.of_promises.Items.{number}
use Rattle.mega_places.specs.declared.place.Place.{Place}
use Rattle.mega_places.specs.Members.{AreMembers}
use Rattle.mega_world.proofs.Behind.{behind}
use Rattle.mega_world.proofs.Showed.{owing_behind, start_shown}
use Rattle.mega_world.proofs.world.World.show_start.Goals as goal

pub returns-clause-shown : goal.returns-clause-shown
returns-clause-shown c cluster was ruled earlier owing =
    let old = c.args.self.now in
    let items = earlier ++ c.args.tape.now.items in
    let begun = behind earlier c.args.tape.now.items (Start (number c.args.me) c.args.opening.start ∷ []) c.push.new.self c.in_ok-push.ensures.ok in
    let shows = c.in_ok-show_owed.ensures.shown cluster was ruled earlier (owing_behind cluster old c.args.me c.args.opening.start _ was ruled items (earlier ++ c.push.new.self) begun owing) in
    let mid = c.show_owed.new.self in
    let up = subst (λ (ps : List Place). AreMembers cluster ps ruled) (sym c.as_slice.ensures.value) (subst (λ ps. AreMembers cluster ps.items ruled) (sym shows.places) owing.nodes) in
    start_shown cluster old mid (record mid { safety = c.put_all.new.safety }) c.args.me c.args.opening ruled items (earlier ++ c.push.new.self) (earlier ++ c.show_owed.new.tape.items) (earlier ++ c.put_all.new.tape.items) begun shows refl refl refl
    (c.in_ok-put_all.ensures.tape cluster ruled earlier up shows.leases) (c.in_ok-put_all.ensures.leases cluster ruled earlier up shows.leases)

pub returns-clause-lines : goal.returns-clause-lines
returns-clause-lines c lined owed notes =
    c.in_ok-put_all.ensures.lines
    (c.in_ok-show_owed.ensures.lines (subst (All HasLine) (sym c.in_ok-push.ensures.ok) (All-push HasLine c.args.tape.now.items (Start (number c.args.me) c.args.opening.start) lined tt)) owed) notes
