use Rattle.std.proofs.Common.{◌≡◌, ◌++◌, ◌∷◌, [], None, ap, rules, subst, sym}
use Rattle.mega_meanings.proofs.Lasting.{means_still}
use Rattle.mega_answers.specs.of_voter.declared.voter.Voter.{Voter}
use Rattle.mega_answers.specs.of_voter.Telling.{Tells}
use Rattle.mega_answers.specs.Faults.{failed_by}
use Rattle.mega_answers.specs.of_step_work.Settings.{setting}
use Rattle.mega_actions.specs.Leaves.{Leaves}
use Rattle.mega_actions.proofs.Leaving.{leaves_then}
use Rattle.mega_actions.proofs.Turned.{once_stands, once_work, twice_stands, twice_work, waits_stands, waits_work}
use Rattle.mega_actions.proofs.replica.Replica.acts.Goals as goal

pub returns-in_ok-acts_again-in-Ok-Some-clause-state : goal.returns-in_ok-acts_again-in-Ok-Some-clause-state
returns-in_ok-acts_again-in-Ok-Some-clause-state g c h now told means about at =
    let before = c.args.self.now in
    let mid = c.acts_once.new.self in
    let first = (rw c.in-Ok-Some.field-0-is at c.in-Ok-Some.ensures.acted) h now told means about at in
    let tells = subst (λ (voter : Voter _). Tells voter.logs.kept now.met) (sym c.acts_once.ensures.leaves.voter) at.stands.tells in
    twice_stands g.V.Versions.version h mid c.acts_again.new.self c.args.work.now c.acts_once.new.work c.acts_again.new.work (setting before.members before.me h) (setting mid.members mid.me h) now c.args.operation c.in-Ok-Some.next
    (λ i. setting (c.acts_once.ensures.leaves.members i) (c.acts_once.ensures.leaves.me i) h) first
    (c.in_ok-acts_again-in-Ok-Some.ensures.acted h first.after now told (means_still _ _ h c.acts_once.ensures.leaves.handlers means) first.about tells first.stands)

pub returns-in_ok-acts_again-in-Ok-Some-clause-work : goal.returns-in_ok-acts_again-in-Ok-Some-clause-work
returns-in_ok-acts_again-in-Ok-Some-clause-work g c h now told means about at =
    let before = c.args.self.now in
    let mid = c.acts_once.new.self in
    let first = (rw c.in-Ok-Some.field-0-is at c.in-Ok-Some.ensures.acted) h now told means about at in
    let tells = subst (λ (voter : Voter _). Tells voter.logs.kept now.met) (sym c.acts_once.ensures.leaves.voter) at.stands.tells in
    twice_work g.V.Versions.version h mid c.acts_again.new.self c.args.work.now c.acts_once.new.work c.acts_again.new.work (setting before.members before.me h) (setting mid.members mid.me h) now c.args.operation c.in-Ok-Some.next
    (λ i. setting (c.acts_once.ensures.leaves.members i) (c.acts_once.ensures.leaves.me i) h) first
    (c.in_ok-acts_again-in-Ok-Some.ensures.acted h first.after now told (means_still _ _ h c.acts_once.ensures.leaves.handlers means) first.about tells first.stands)

pub returns-in_ok-acts_again-in-Ok-Some-clause-leaves : goal.returns-in_ok-acts_again-in-Ok-Some-clause-leaves
returns-in_ok-acts_again-in-Ok-Some-clause-leaves g c =
    let mid = c.acts_once.new in
    let new = c.acts_again.new in
    let meant = g.H.QueueHandlers.meant in
    leaves_then g.V.Versions None (meant c.args.handlers.now) (meant mid.handlers) (meant new.handlers) c.args.self.now mid.self new.self c.in-Ok-Some.ensures.leaves c.in_ok-acts_again-in-Ok-Some.ensures.leaves

pub returns-in_err-acts_again-in-Ok-Some-clause-leaves : goal.returns-in_err-acts_again-in-Ok-Some-clause-leaves
returns-in_err-acts_again-in-Ok-Some-clause-leaves g c =
    let mid = c.acts_once.new in
    let new = c.acts_again.new in
    let meant = g.H.QueueHandlers.meant in
    let rest : Leaves g.V.Versions (failed_by c.from_residual-in_err-acts_again-in-Ok-Some.result) (meant mid.handlers) (meant new.handlers) mid.self new.self = search rules in
    leaves_then g.V.Versions (failed_by c.from_residual-in_err-acts_again-in-Ok-Some.result) (meant c.args.handlers.now) (meant mid.handlers) (meant new.handlers) c.args.self.now mid.self new.self c.in-Ok-Some.ensures.leaves rest

pub returns-in-Ok-None-clause-state : goal.returns-in-Ok-None-clause-state
returns-in-Ok-None-clause-state g c h now told means about at =
    once_stands g.V.Versions.version h c.acts_once.new.self c.args.work.now c.acts_once.new.work (setting c.args.self.now.members c.args.self.now.me h) now c.args.operation
    ((rw c.in-Ok-None.field-0-is at c.in-Ok-None.ensures.acted) h now told means about at)

pub returns-in-Ok-None-clause-work : goal.returns-in-Ok-None-clause-work
returns-in-Ok-None-clause-work g c h now told means about at =
    once_work g.V.Versions.version h c.acts_once.new.self c.args.work.now c.acts_once.new.work (setting c.args.self.now.members c.args.self.now.me h) now c.args.operation
    ((rw c.in-Ok-None.field-0-is at c.in-Ok-None.ensures.acted) h now told means about at)

pub returns-then-stays-clause-state : goal.returns-then-stays-clause-state
returns-then-stays-clause-state g c h now told means about at =
    let s = setting c.args.self.now.members c.args.self.now.me h in
    waits_stands g.V.Versions.version h c.args.self.now s now c.args.operation (c.stays.ensures c.if-stays.true s now at.stands.tells) at

pub returns-then-stays-clause-work : goal.returns-then-stays-clause-work
returns-then-stays-clause-work g c h now told means about at =
    let s = setting c.args.self.now.members c.args.self.now.me h in
    let before = c.args.work.now in
    let o = c.args.operation in
    let pushed : c.push.new.self ≡ before.kept ++ o ∷ [] = search rules in
    waits_work g.V.Versions.version h c.args.self.now s now o (c.stays.ensures c.if-stays.true s now at.stands.tells) before (record before { kept = c.push.new.self })
    (ap (λ kept. record before { kept = kept }) pushed)
