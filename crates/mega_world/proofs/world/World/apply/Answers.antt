use Rattle.std.proofs.Common.{◌≡◌, ◌++◌, [], List, ap, subst, sym}
use Rattle.std.specs.List.{All}
use Rattle.std.proofs.lemmas.List.Elements.{All-nil}
use Rattle.mega_places.specs.of_promises.of_transcript.declared.item.Item.{Item}
use Rattle.mega_places.specs.of_promises.of_transcript.Lines.{HasLine}
use Rattle.mega_places.specs.of_promises.of_transcript.Tape.{newest}
use Rattle.mega_places.specs.of_promises.Runs.{after_event, by_fuse}
use Rattle.mega_world.specs.AtRun.{StandsWith}
use Rattle.mega_world.proofs.Behind.{added_is, at_is, none_in_hand}
use Rattle.mega_world.proofs.world.World.apply.Goals as goal

pub happen-requires : goal.happen-requires
happen-requires g c =
    let k = c.requires.known in
    record {
      known = record {
        cluster = k.cluster;
        handlers = k.handlers;
        earlier = k.earlier;
        now = k.now;
        at = subst (λ (hand : List Item). StandsWith k.cluster c.args.self.now (k.earlier ++ hand) k.now) (sym c.new.ensures) k.at;
        sound = k.sound;
      };
    }

pub returns-in-Ok-clause-state : goal.returns-in-Ok-clause-state
returns-in-Ok-clause-state g c cluster h now r sound =
    at_is cluster c.happen.new.self (newest now.tape ++ c.happen.new.tape.items) (after_event cluster h by_fuse now c.args.event)
    (c.in-Ok.ensures.state cluster h (newest now.tape) now (none_in_hand cluster c.args.self.now c.new.result now c.new.ensures r) sound)

pub returns-in-Ok-clause-tape : goal.returns-in-Ok-clause-tape
returns-in-Ok-clause-tape g c cluster h now r sound =
    added_is now.tape c.happen.new.tape.items (after_event cluster h by_fuse now c.args.event).tape
    (c.in-Ok.ensures.state cluster h (newest now.tape) now (none_in_hand cluster c.args.self.now c.new.result now c.new.ensures r) sound).tape

pub returns-in-Ok-clause-lines : goal.returns-in-Ok-clause-lines
returns-in-Ok-clause-lines g c cluster h now r sound =
    c.in-Ok.ensures.lines cluster h (newest now.tape) now (none_in_hand cluster c.args.self.now c.new.result now c.new.ensures r) sound (subst (All HasLine) (sym c.new.ensures) (All-nil HasLine))
