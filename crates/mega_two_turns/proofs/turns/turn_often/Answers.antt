use Rattle.std.proofs.Common.{◌≡◌, ◌∷◌, ◌∙◌, true, arith, rules}
use Rattle.std.specs.Prelude.{is_none}
use Rattle.mega_two_turns.specs.Turns.{ending}
use Rattle.mega_two_turns.proofs.Joining.{turns_on}
use Rattle.mega_two_turns.proofs.turns.turn_often.Goals as goal

pub loop-done-preserved : goal.loop-done-preserved
loop-done-preserved g c =
    let were = c.loop-done.invariant in
    let still : is_none (ending c.loop-done.driving.two) ≡ true = search rules in
    let one = c.in_ok-turn.ensures.driven still in record {
      within = omega (arith, c.loop-done-test.true);
      room = omega (arith, were.room, c.in_ok-turn.ensures.room);
      faults = c.in_ok-turn.ensures.faults ∙ were.faults;
      run = (
        one.0 ∷ were.run.0,
        (
          omega (arith, were.run.1.0),
          turns_on c.args.node c.args.patience c.args.driving.now c.loop-done.driving c.turn.new.driving _ _ _ _ _ _ _ _ _ were.run.0 one.0 were.run.1.1 one.1,
        ),
      );
    }
