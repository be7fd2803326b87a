use Rattle.mega_voter.proofs.KeptTells.{deciding_told, first_told}
use Rattle.mega_voter.proofs.voter.Voter.decides.Goals as goal

pub returns-clause-exact : goal.returns-clause-exact
returns-clause-exact g c = first_told c.args.self.now.logs.kept c.in_ok-new.new c.args.group.now c.args.position.0 c.in_ok-new.ensures.exact

pub returns-clause-state : goal.returns-clause-state
returns-clause-state g c = deciding_told c.args.self.now.logs.kept c.decide.new.self.kept c.in_ok-new.new c.args.group.now c.args.position c.args.entry c.in_ok-new.ensures.state
