-- A world one of whose nodes went down.
use Rattle.std.proofs.Common.{◌≡◌, ℕ, ◌-◌, ◌≤◌, ◌==◌, ◌++◌, ◌∷◌, [], Bool, true, false, cond, List, length, set, Some, None, refl, sym, ap, ◌∙◌, subst, arith}
use Rattle.std.proofs.lemmas.Bool.Decides.{nat_tests}
use Rattle.std.specs.List.{slice_get}
use Rattle.mega_base.specs.declared.names.Epoch.{Epoch}
use Rattle.mega_base.specs.declared.names.GroupId.{GroupId}
use Rattle.mega_base.specs.declared.names.NodeId.{NodeId}
use Rattle.mega_cluster.specs.declared.cluster.Cluster.{Cluster}
use Rattle.mega_places.specs.of_handler.Named.{Meanings}
use Rattle.mega_places.specs.of_leases.Opening.{AreOwed}
use Rattle.mega_places.specs.of_promises.of_schedule.declared.world_event.WorldEvent.TheVariants.{Crash as CrashEvent, Start as StartEvent}
use Rattle.mega_places.specs.of_promises.of_transcript.declared.item.Item.{Item}
use Rattle.mega_places.specs.of_promises.of_transcript.declared.item.Item.TheVariants.{Crash}
use Rattle.mega_places.specs.of_promises.of_transcript.Tape.{newest}
use Rattle.mega_places.proofs.of_transcript.Tapes.{newest-append}
use Rattle.mega_places.specs.of_voter.of_rules.Clock.{start_of}
use Rattle.mega_places.specs.of_voter.of_rules.Members.{has_rows}
use Rattle.mega_places.specs.of_voter.of_rules.Met.{Crashes, Met}
use Rattle.mega_places.specs.of_voter.of_rules.Operations.{Node as RuleNode}
use Rattle.mega_places.specs.of_voter.of_rules.Steps.{crashed, onto}
use Rattle.mega_places.specs.of_voter.of_rules.of_replica.Following.{progress_at}
use Rattle.mega_places.specs.of_voter.Holding.{HoldsMet}
use Rattle.mega_places.proofs.of_voter.Holding.{told_recalled}
use Rattle.mega_places.proofs.of_durable.Fallen.{crash_followed, crash_held, crash_recalled}
use Rattle.mega_places.specs.of_promises.Runs.{Standing, after_event, by_fuse, crashes, has_lapsed, set_at}
use Rattle.mega_places.specs.declared.member.Member.{Member}
use Rattle.mega_places.specs.declared.place.Place.{Place}
use Rattle.mega_places.specs.declared.place.Place.TheVariants.{Down, Up}
use Rattle.mega_world.specs.declared.world.World.{World}
use Rattle.mega_places.specs.Carries.{Carries}
use Rattle.mega_places.specs.Kept.{AreNodes, AreReady, remains_of}
use Rattle.mega_safety.specs.Lapses.{KnowsLeases}
use Rattle.mega_places.specs.Members.{IsMember, is_up_at, node_in, records_of, version_of}
use Rattle.mega_world.specs.Restarting.{StaysDown}
use Rattle.mega_world.specs.AtRun.{StandsWith}
use Rattle.mega_places.proofs.Carrying.{shown_on}
use Rattle.mega_world.proofs.Fates.{start_cut}
use Rattle.mega_places.proofs.Joining.{at_other, nodes_on}
use Rattle.mega_places.proofs.Outcomes.{StandsAt, stands_at, up_at}

-- a crash is met, and is nothing that logs or records hold, or that rows follow
left_ready : (c : Cluster) (h : Meanings) (me : ℕ) (member : Member) (ruled : RuleNode) → IsMember c me member ruled → AreReady c me (remains_of member) (start_of ruled.met) (Crashes ∷ ruled.met)
left_ready c h me member ruled is =
    let up = is.up h in
    let told = up.stands.within in
    record {
      empty = up.empty;
      recalls = crash_recalled (node_in member).replica.voter.logs.kept (start_of ruled.met) ruled.met (told_recalled (node_in member).replica.voter.logs.kept ruled.met told.tells);
      ready = up.ready;
      rows = crash_followed c me (version_of (node_in member).replica.rows.rows) (progress_at (node_in member).replica.rows.progress) ruled.met ruled.stored told.follows
          (coe 0 1 (i. has_rows (is.members i) (is.number i) ≡ false → (group : GroupId) → ruled.stored group ≡ 0) told.kind.bare);
    }

pub falls_down : (c : Cluster) (h : Meanings) (places : List Place) (now : Standing) (me : ℕ) (member : Member) → AreNodes c places now → 1 ≤ me → me ≤ length places → StandsAt c places now me member
    → AreNodes c (set places (me - 1) (Down (record { remains = remains_of member; fuse = member.fuse; owed = None }))) (crashes now me)
falls_down c h places now me member all least most stands =
    nodes_on c places me (Down (record { remains = remains_of member; fuse = member.fuse; owed = None })) (crashed (now.node me)) now (crashes now me) all least most refl refl
    (λ other apart. record { starts = refl; owed = refl; ruled = at_other now.node me other (crashed (now.node me)) apart; fuse = refl })
    (record {
      follows = subst (λ (owed : List Met). AreOwed owed (Crashes ∷ (now.node me).met)) (sym stands.settled.unowed) tt;
      holds = subst (λ (owed : List Met). HoldsMet (records_of member).list.items (now.starts me) (onto owed (Crashes ∷ (now.node me).met))) (sym stands.settled.unowed)
          (subst (λ (starts : ℕ). HoldsMet (records_of member).list.items starts (Crashes ∷ (now.node me).met)) (sym stands.settled.started)
          (crash_held (records_of member).list.items (start_of (now.node me).met) (now.node me).met ((stands.is.up h).holds refl)));
      ready = subst (λ (owed : List Met). AreReady c me (remains_of member) (now.starts me) (onto owed (Crashes ∷ (now.node me).met))) (sym stands.settled.unowed)
          (subst (λ (starts : ℕ). AreReady c me (remains_of member) starts (Crashes ∷ (now.node me).met)) (sym stands.settled.started) (left_ready c h me member (now.node me) stands.is));
      owes = sym stands.settled.unowed;
      fused = stands.settled.fused;
    })

-- all but the nodes, in a run in which a node crashes
record CrashedSo (c : Cluster) (new : World) (after : List Item) (later : Standing) : Type 0 where
  mail : Carries new.mail later.tape
  tape : newest after ≡ later.tape
  leases : KnowsLeases new.safety later.node later.tape

crashed_so : (c : Cluster) (now : Standing) (node : NodeId) (old new : World) (items after : List Item) → StandsWith c old items now → new.mail ≡ old.mail → new.safety ≡ old.safety → after ≡ items ++ Crash node ∷ []
    → CrashedSo c new after (crashes now node.0)
crashed_so c now node old new items after r mail safety is = record {
  mail = subst (λ m. Carries m (Crash node ∷ now.tape)) (sym mail) (shown_on old.mail node.0 Crashes now.tape r.mail);
  tape = ap newest is ∙ newest-append items (Crash node) ∙ ap (λ t. Crash node ∷ t) r.tape;
  leases = subst (λ s. KnowsLeases s (set_at now.node node.0 (crashed (now.node node.0))) (Crash node ∷ now.tape)) (sym safety) (record {
    lapses = record { each = λ cell other epoch. r.leases.lapses.each cell other epoch ∙ lapsed cell other epoch (node.0 == cell) refl };
    told = r.leases.told;
  });
}
  where
    lapsed : (cell other : ℕ) (epoch : Epoch) (t : Bool) → (node.0 == cell) ≡ t → has_lapsed (now.node cell).met other epoch ≡ has_lapsed (cond t (crashed (now.node node.0)) (now.node cell)).met other epoch
    lapsed cell other epoch true same = let e : node.0 ≡ cell = grind (arith, nat_tests) in ap (λ k. has_lapsed (now.node k).met other epoch) (sym e)
    lapsed cell other epoch false apart = refl

pub fallen_at : (c : Cluster) (h : Meanings) (now : Standing) (node : NodeId) (old new : World) (items after : List Item) → StandsWith c old items now
    → AreNodes c new.places.items (crashes now node.0) → new.cluster ≡ old.cluster → new.mail ≡ old.mail → new.safety ≡ old.safety → after ≡ items ++ Crash node ∷ [] → StandsWith c new after (after_event c h by_fuse now (CrashEvent node))
fallen_at c h now node old new items after r nodes cluster mail safety is =
    let so = crashed_so c now node old new items after r mail safety is in record {
      cluster = cluster ∙ r.cluster;
      served = r.served;
      nodes = nodes;
      mail = so.mail;
      tape = so.tape;
      leases = so.leases;
    }

-- a node whose start was cut off is down as before, and shows the crash
pub stayed_at : (c : Cluster) (h : Meanings) (now : Standing) (node : NodeId) (old new : World) (items after : List Item) → StandsWith c old items now
    → StaysDown c now node.0 new.places.items → new.cluster ≡ old.cluster → new.mail ≡ old.mail → new.safety ≡ old.safety → after ≡ items ++ Crash node ∷ [] → StandsWith c new after (after_event c h by_fuse now (StartEvent node))
stayed_at c h now node old new items after r stays cluster mail safety is =
    let so = crashed_so c now node old new items after r mail safety is in
    subst (StandsWith c new after) (sym (start_cut c h now node.0 stays.burning)) (record {
      cluster = cluster ∙ r.cluster;
      served = r.served;
      nodes = stays.nodes;
      mail = so.mail;
      tape = so.tape;
      leases = record { lapses = so.leases.lapses; told = so.leases.told };
    })

-- a node that is up goes down
pub crashes_at : (c : Cluster) (h : Meanings) (now : Standing) (node : NodeId) (old new : World) (items after : List Item) → StandsWith c old items now → 1 ≤ node.0 → node.0 ≤ length old.places.items → is_up_at old.places.items node.0 ≡ true
    → ((member : Member) → slice_get old.places.items (node.0 - 1) ≡ Some (Up member) → new.places.items ≡ set old.places.items (node.0 - 1) (Down (record { remains = remains_of member; fuse = member.fuse; owed = None })))
    → new.cluster ≡ old.cluster → new.mail ≡ old.mail → new.safety ≡ old.safety → after ≡ items ++ Crash node ∷ [] → StandsWith c new after (after_event c h by_fuse now (CrashEvent node))
crashes_at c h now node old new items after r least most up falls cluster mail safety is =
    let found = up_at old.places.items node.0 least most up in
    let stands = stands_at c old.places.items now node.0 (node.0 - 1) (Up found.0) found.0 r.nodes refl least found.1 refl in
    fallen_at c h now node old new items after r
    (subst (λ (ps : List Place). AreNodes c ps (crashes now node.0)) (sym (falls found.0 found.1)) (falls_down c h old.places.items now node.0 found.0 r.nodes least most stands))
    cluster mail safety is
