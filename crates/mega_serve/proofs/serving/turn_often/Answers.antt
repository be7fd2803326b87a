use Rattle.std.proofs.Common.{◌∷◌, ◌++◌, ◌∙◌, [], arith, refl, subst, sym}
use Rattle.mega_serve.specs.Turns.{HasTurned}
use Rattle.mega_serve.proofs.Joining.{none_turned, runs_more, runs_nothing, turned_more}
use Rattle.mega_serve.proofs.Ending.{begun_more, ends_more}
use Rattle.mega_serve.proofs.Failing.{gone_nowhere, gone_on}
use Rattle.mega_serve.proofs.serving.turn_often.Goals as goal

pub loop-done-preserved : goal.loop-done-preserved
loop-done-preserved g c =
    let were = c.loop-done.invariant in
    let one = c.in-Ok.ensures.gone in record {
      within = omega (arith, c.loop-done-test.true);
      room = omega (arith, were.room, c.in-Ok.ensures.room);
      members = c.in-Ok.ensures.members ∙ were.members;
      me = c.in-Ok.ensures.me ∙ were.me;
      later = gone_on (g.S.Steps.devices c.args.node.now) (g.S.Steps.devices c.loop-done.node) (g.S.Steps.devices c.turn.new.node) were.later c.in-Ok.ensures.later;
      count = omega (arith, were.count, c.in-Ok.ensures.count);
      run = (
        were.run.0 ++ one.0 ∷ [],
        (
          turned_more c.loop-done.done _ _ _ _ _ _ were.run.0 one.0 were.run.1.0 one.1.0,
          runs_more g.S.Steps c.args.node.now c.loop-done.node c.turn.new.node _ _ _ _ _ _ _ _ _ were.run.0 one.0 were.members were.me were.run.1.1 one.1.1,
        ),
      );
    }

pub returns-in-Err-clause-front : goal.returns-in-Err-clause-front
returns-in-Err-clause-front g c =
    let were = c.loop-done.invariant in
    let one = c.in-Err.ensures.front in (
      were.run.0 ++ one.0 ∷ [],
      (
        begun_more c.loop-done.done _ _ _ _ _ _ were.run.0 one.0 were.run.1.0 one.1.0,
        ends_more g.S.Steps c.args.node.now c.loop-done.node _ _ _ _ _ _ _ _ were.run.0 one.0 were.members were.me were.run.1.1 one.1.1,
      ),
    )

pub loop-done-init : goal.loop-done-init
loop-done-init g c = record {
  within = omega (arith);
  room = c.requires;
  members = refl;
  me = refl;
  later = gone_nowhere (g.S.Steps.devices c.args.node.now);
  count = omega (arith);
  run = ([], (none_turned _ _, runs_nothing g.S.Steps c.args.node.now c.args.waiting.now.items _ _));
}
