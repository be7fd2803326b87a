use Rattle.std.proofs.Common.{◌≡◌, None, [], refl, subst, sym, true}
use Rattle.mega_cluster.specs.declared.cluster.Cluster.{Cluster}
use Rattle.mega_places.specs.of_durable.of_core.Served.{IsServed}
use Rattle.mega_places.specs.of_voter.of_rules.Members.{is_node}
use Rattle.mega_places.specs.of_voter.of_rules.Steps.{start}
use Rattle.mega_places.specs.of_promises.Runs.{setting}
use Rattle.mega_places.specs.declared.remains.Remains.TheVariants.{OnDisk}
use Rattle.mega_places.specs.Kept.{IsFallen}
use Rattle.mega_places.specs.Members.{IsMember}
use Rattle.mega_places.proofs.Anew.{nothing_held}
use Rattle.mega_world.proofs.opening.started.Goals as goal

pub start-requires-clause-served : goal.start-requires-clause-served
start-requires-clause-served c = subst IsServed (sym c.in_ok-own.ensures) c.requires.served

pub start-requires-clause-member : goal.start-requires-clause-member
start-requires-clause-member c = subst (λ (k : Cluster). is_node k c.args.me ≡ true) (sym c.in_ok-own.ensures) c.requires.member

pub start-requires-clause-known : goal.start-requires-clause-known
start-requires-clause-known c = record {
  starts = 0;
  owed = [];
  met = [];
  fuse = None;
  is = record { follows = tt; holds = nothing_held c.new.result c.new.ensures.empty; ready = tt; owes = refl; fused = record { kept_is = refl; left = c.new.ensures.unset; image = tt; unburnt = tt } };
}

pub returns-in-Ok-clause-node : goal.returns-in-Ok-clause-node
returns-in-Ok-clause-node c h =
    let is : IsFallen c.in_ok-own.own c.args.me (record { remains = OnDisk c.new.result; fuse = None; owed = None }) 0 [] [] None = record {
      follows = tt;
      holds = nothing_held c.new.result c.new.ensures.empty;
      ready = tt;
      owes = refl;
      fused = record { kept_is = refl; left = c.new.ensures.unset; image = tt; unburnt = tt };
    } in
    let begins = c.in-Ok.ensures.begun 0 [] [] None is in
    record { is = subst (λ (k : Cluster). IsMember k c.args.me c.in-Ok.begun.member (start (setting k h c.args.me) 1 [] [])) c.in_ok-own.ensures (begins.is h); fused = begins.fused }
