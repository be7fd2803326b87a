-- A fuse is set on the log of one node of a world.
use Rattle.std.proofs.Common.{◌≡◌, ℕ, ◌+◌, ◌-◌, ◌≤◌, ◌==◌, Bool, true, false, cond, List, length, set, Some, is_some, refl, sym, ap, ◌∙◌, subst, arith}
use Rattle.std.proofs.lemmas.Bool.Decides.{nat_tests}
use Rattle.std.specs.List.{slice_get}
use Rattle.mega_cluster.specs.declared.cluster.Cluster.{Cluster}
use Rattle.mega_disk.specs.declared.pair.Device.{Device}
use Rattle.mega_disk.specs.declared.pair.Device.TheVariants.{Log, Data}
use Rattle.mega_places.specs.of_promises.of_transcript.declared.item.Item.{Item}
use Rattle.mega_places.specs.of_promises.Runs.{Standing, fused, new_fuse, set_at}
use Rattle.mega_places.specs.declared.place.Place.{Place}
use Rattle.mega_places.specs.declared.place.Place.TheVariants.{Up, Down}
use Rattle.mega_world.specs.declared.world.World.{World}
use Rattle.mega_places.specs.Fusing.{SetsFuse, SetsFuseAt}
use Rattle.mega_places.specs.Carries.{Carries}
use Rattle.mega_places.specs.Kept.{AreNodes, IsKept}
use Rattle.mega_safety.specs.Lapses.{KnowsLeases}
use Rattle.mega_places.specs.Members.{AreMembers, member_in}
use Rattle.mega_world.specs.AtRun.{StandsWith}
use Rattle.mega_places.proofs.Joining.{IsPlace, at_other, at_own, kept_on, joined, member_is, member_up, place_at}

same_all : {X : Type 0} (f : ℕ → X) (me : ℕ) → set_at f me (f me) ≡ f
same_all f me = λ i other. by other (me == other) refl i
  where
    by : (other : ℕ) (t : Bool) → (me == other) ≡ t → cond t (f me) (f other) ≡ f other
    by other true same = let e : me ≡ other = grind (arith, nat_tests) in ap f e
    by other false off = refl

-- what stands there is up or down as before, and keeps all but its fuse
place_is : (c : Cluster) (places : List Place) (now : Standing) (me calls image : ℕ) (was is : Place) → AreNodes c places now → 1 ≤ me → slice_get places (me - 1) ≡ Some was → SetsFuse calls image was is → IsPlace c me is (now.node me)
place_is c places now me calls image (Up old) (Up new) all least at sets =
    let there = member_up places me (me - 1) (Up old) old refl least at refl in
    (sets.is c me (now.node me) (all.members.each me old there), all.members.up_are me ∙ ap is_some there)
place_is c places now me calls image (Up old) (Down new) all least at sets = absurd sets
place_is c places now me calls image (Down old) (Up new) all least at sets = absurd sets
place_is c places now me calls image (Down old) (Down new) all least at sets = all.members.up_are me ∙ ap is_some (member_is places me (me - 1) refl least ∙ ap member_in at)

keeps_so : (c : Cluster) (now : Standing) (me calls image : ℕ) (was is : Place) → SetsFuse calls image was is → IsKept c me was (now.starts me) (now.owed me) (now.node me).met (now.log_fuse me) → IsKept c me is (now.starts me) (now.owed me) (now.node me).met (new_fuse calls image)
keeps_so c now me calls image (Up old) (Up new) sets kept = record { started = kept.started; unowed = kept.unowed; fused = sets.fused (now.log_fuse me) kept.fused }
keeps_so c now me calls image (Up old) (Down new) sets kept = absurd sets
keeps_so c now me calls image (Down old) (Up new) sets kept = absurd sets
keeps_so c now me calls image (Down old) (Down new) sets kept = sets.is c me (now.starts me) (now.owed me) (now.node me).met (now.log_fuse me) kept

pub fuses_at : (c : Cluster) (places new : List Place) (now : Standing) (me calls image : ℕ) (was : Place) → AreNodes c places now → 1 ≤ me → me ≤ length places → slice_get places (me - 1) ≡ Some was
    → SetsFuseAt calls image places (me - 1) was new → AreNodes c new (fused now me calls image Log)
fuses_at c places new now me calls image was all least most at sets = subst (λ (ps : List Place). AreNodes c ps (fused now me calls image Log)) (sym sets.places) (record {
  members = subst (AreMembers c (set places (me - 1) sets.is)) (same_all now.node me)
      (joined c places now.node me sets.is (now.node me) all.members least most (place_is c places now me calls image was sets.is all least at sets.sets));
  kept = kept_on c places me sets.is now (fused now me calls image Log) all.kept least most
      (λ other apart. record { starts = refl; owed = refl; ruled = refl; fuse = at_other now.log_fuse me other (new_fuse calls image) apart })
      (subst (IsKept c me sets.is (now.starts me) (now.owed me) (now.node me).met) (sym (at_own now.log_fuse me (new_fuse calls image))) (keeps_so c now me calls image was sets.is sets.sets kept));
})
  where
    kept : IsKept c me was (now.starts me) (now.owed me) (now.node me).met (now.log_fuse me)
    kept = let e : me - 1 + 1 ≡ me = omega (arith, least) in subst (λ (n : ℕ). IsKept c n was (now.starts n) (now.owed n) (now.node n).met (now.log_fuse n)) e (all.kept.each (me - 1) was at)

-- the world with it; a fuse on the rows changes no node
pub fused_at : (c : Cluster) (now : Standing) (me calls image : ℕ) (device : Device) (old new : World) (items : List Item) → StandsWith c old items now → AreNodes c new.places.items (fused now me calls image device) → new.cluster ≡ old.cluster → new.mail ≡ old.mail
    → new.safety ≡ old.safety → StandsWith c new items (fused now me calls image device)
fused_at c now me calls image Log old new items r nodes cluster mail safety = record {
  cluster = cluster ∙ r.cluster;
  served = r.served;
  nodes = nodes;
  mail = subst (λ m. Carries m now.tape) (sym mail) r.mail;
  tape = r.tape;
  leases = subst (λ s. KnowsLeases s now.node now.tape) (sym safety) r.leases;
}
fused_at c now me calls image Data old new items r nodes cluster mail safety = record {
  cluster = cluster ∙ r.cluster;
  served = r.served;
  nodes = nodes;
  mail = subst (λ m. Carries m now.tape) (sym mail) r.mail;
  tape = r.tape;
  leases = subst (λ s. KnowsLeases s now.node now.tape) (sym safety) r.leases;
}

pub data_nodes : (c : Cluster) (places : List Place) (now : Standing) (me calls image : ℕ) → AreNodes c places now → AreNodes c places (fused now me calls image Data)
data_nodes c places now me calls image all = record { members = all.members; kept = all.kept }

pub log_nodes : (c : Cluster) (places new : List Place) (now : Standing) (me calls image : ℕ) → AreNodes c places now → 1 ≤ me → me ≤ length places
    → ((was : Place) → slice_get places (me - 1) ≡ Some was → SetsFuseAt calls image places (me - 1) was new) → AreNodes c new (fused now me calls image Log)
log_nodes c places new now me calls image all least most sets = let at = place_at places me least most in fuses_at c places new now me calls image at.0 all least most at.1 (sets at.0 at.1)
