use Rattle.std.proofs.Common.{◌+◌, ◌∙◌, ap, length, subst, sym}
use Rattle.std.specs.List.{All}
use Rattle.std.proofs.lemmas.List.Elements.{All-push}
use Rattle.mega_places.specs.of_promises.of_transcript.declared.item.Item.TheVariants.{Start}
use Rattle.mega_places.specs.of_promises.of_transcript.Lines.{HasLine}
use Rattle.mega_places.specs.of_promises.of_transcript.Tape.{newest}
use Rattle.mega_places.specs.of_promises.Items.{number}
use Rattle.mega_world.specs.Opening.{AreStarted}
use Rattle.mega_places.specs.declared.place.Place.TheVariants.{Up}
use Rattle.mega_world.proofs.Opened.{length_last, started_more, starts_more}
use Rattle.mega_world.proofs.opening.start_all.Goals as goal

pub loop-before-preserved : goal.loop-before-preserved
loop-before-preserved c =
    let places = c.loop-before.places.items in
    let items = c.loop-before.tape.items in
    let before = c.loop-before.before in
    let were = c.loop-before.invariant in record {
      count = ap length c.in_ok-add.ensures ∙ length_last places (Up c.in-Ok.node) before were.count;
      each = subst (AreStarted c.args.cluster.now) (sym c.in_ok-add.ensures) (started_more c.args.cluster.now places c.in-Ok.node before were.count were.each c.in-Ok.ensures.node);
      tape = ap newest c.in_ok-push.ensures.ok ∙ starts_more items before were.tape;
      lines = subst (All HasLine) (sym c.in_ok-push.ensures.ok) (All-push HasLine items (Start (number (before + 1)) 1) were.lines tt);
    }
