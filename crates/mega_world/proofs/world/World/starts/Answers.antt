use Rattle.std.proofs.Common.{◌≡◌, ◌∙◌, [], ◌∷◌, ◌++◌, refl, subst, sym, true}
use Rattle.mega_cluster.specs.declared.cluster.Cluster.{Cluster}
use Rattle.mega_places.specs.of_durable.of_core.Served.{IsServed}
use Rattle.mega_places.specs.of_voter.of_rules.Members.{is_node}
use Rattle.mega_world.specs.declared.world.World.{World}
use Rattle.mega_places.specs.Kept.{AreNodes}
use Rattle.mega_world.specs.Restarting.{Opens, StaysDown, started}
use Rattle.mega_places.specs.of_promises.of_transcript.declared.item.Item.TheVariants.{Crash}
use Rattle.mega_world.proofs.Behind.{behind}
use Rattle.mega_world.proofs.Falling.{stayed_at}
use Rattle.mega_world.proofs.Happening.{is_there}
use Rattle.mega_world.proofs.Reopened.{reopened_at, reopened_lined}
use Rattle.mega_world.proofs.world.World.starts.Goals as goal

pub start_at-requires-clause-served : goal.start_at-requires-clause-served
start_at-requires-clause-served c = let k = c.requires.known.1 in subst IsServed (sym (c.in_ok-cluster.ensures ∙ k.at.cluster)) k.at.served

pub start_at-requires-clause-member : goal.start_at-requires-clause-member
start_at-requires-clause-member c =
    let k = c.requires.known.1 in
    subst (λ (one : Cluster). is_node one c.args.node.0 ≡ true) (sym (c.in_ok-cluster.ensures ∙ k.at.cluster)) (is_there k.cluster c.args.self.now (k.earlier ++ c.args.tape.now.items) k.now c.args.node.0 k.at c.requires.least c.requires.most)

pub start_at-requires-clause-known : goal.start_at-requires-clause-known
start_at-requires-clause-known c =
    let k = c.requires.known.1 in record { now = k.now; nodes = subst (λ (one : Cluster). AreNodes one c.args.self.now.places.items k.now) (sym (c.in_ok-cluster.ensures ∙ k.at.cluster)) k.at.nodes }

pub returns-in_ok-show_start-in-Ok-Some-clause-state : goal.returns-in_ok-show_start-in-Ok-Some-clause-state
returns-in_ok-show_start-in-Ok-Some-clause-state c cluster h earlier now r =
    let old = c.args.self.now in
    let mid : World = record old { places = c.start_at.new.places } in
    let same : c.in_ok-cluster.cluster ≡ cluster = c.in_ok-cluster.ensures ∙ r.cluster in
    let nodes = subst (λ (k : Cluster). AreNodes k old.places.items now) (sym same) r.nodes in
    let opens = subst (λ (k : Cluster). Opens k now c.args.node.0 mid.places.items c.in-Ok-Some.shown) same (rw c.in-Ok-Some.field-0-is at (c.in-Ok-Some.ensures.reopens now nodes)) in
    reopened_at cluster h now c.args.node old mid c.show_start.new.self (earlier ++ c.args.tape.now.items) (earlier ++ c.show_start.new.tape.items) c.in-Ok-Some.shown r opens refl refl refl
    (c.in_ok-show_start-in-Ok-Some.ensures.shown cluster now.node (started cluster h now c.args.node.0).node earlier)

pub returns-in_ok-show_start-in-Ok-Some-clause-lines : goal.returns-in_ok-show_start-in-Ok-Some-clause-lines
returns-in_ok-show_start-in-Ok-Some-clause-lines c cluster earlier now r formed =
    let old = c.args.self.now in
    let mid : World = record old { places = c.start_at.new.places } in
    let same : c.in_ok-cluster.cluster ≡ cluster = c.in_ok-cluster.ensures ∙ r.cluster in
    let nodes = subst (λ (k : Cluster). AreNodes k old.places.items now) (sym same) r.nodes in
    let opens = subst (λ (k : Cluster). Opens k now c.args.node.0 mid.places.items c.in-Ok-Some.shown) same (rw c.in-Ok-Some.field-0-is at (c.in-Ok-Some.ensures.reopens now nodes)) in
    reopened_lined cluster now c.args.node.0 mid c.args.tape.now.items c.show_start.new.tape.items c.in-Ok-Some.shown formed opens c.in_ok-show_start-in-Ok-Some.ensures.lines

pub returns-in_ok-push-in-Ok-None-clause-state : goal.returns-in_ok-push-in-Ok-None-clause-state
returns-in_ok-push-in-Ok-None-clause-state c cluster h earlier now r =
    let old = c.args.self.now in
    let new : World = record old { places = c.start_at.new.places } in
    let same : c.in_ok-cluster.cluster ≡ cluster = c.in_ok-cluster.ensures ∙ r.cluster in
    let nodes = subst (λ (k : Cluster). AreNodes k old.places.items now) (sym same) r.nodes in
    let stays = subst (λ (k : Cluster). StaysDown k now c.args.node.0 new.places.items) same (rw c.in-Ok-None.field-0-is at (c.in-Ok-None.ensures.reopens now nodes)) in
    stayed_at cluster h now c.args.node old new (earlier ++ c.args.tape.now.items) (earlier ++ c.push.new.self) r stays refl refl refl
    (behind earlier c.args.tape.now.items (Crash c.args.node ∷ []) c.push.new.self c.in_ok-push-in-Ok-None.ensures.ok)
