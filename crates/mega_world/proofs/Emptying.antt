-- Messages are dropped, and drained one after another.
use Rattle.std.proofs.Common.{◌≡◌, ℕ, ◌+◌, ◌-◌, ◌<◌, ◌≤◌, List, [], ◌∷◌, ◌++◌, Option, Some, None, refl, sym, ap, ◌∙◌, subst, suc, arith}
use Rattle.std.specs.List.{All}
use Rattle.mega_cluster.specs.declared.cluster.Cluster.{Cluster}
use Rattle.mega_places.specs.of_handler.Named.{Meaning, Meanings}
use Rattle.mega_places.proofs.of_meanings.Lasting.{means_still}
use Rattle.mega_places.specs.of_promises.of_schedule.declared.world_event.WorldEvent.TheVariants.{Deliver, Drain, Drop}
use Rattle.mega_places.specs.of_promises.of_transcript.declared.item.Item.{Item}
use Rattle.mega_places.specs.of_promises.of_transcript.declared.item.Item.TheVariants.{Cut, Dropped}
use Rattle.mega_places.specs.of_promises.of_transcript.Lines.{HasLine}
use Rattle.mega_places.specs.of_promises.of_transcript.Tape.{newest}
use Rattle.mega_places.proofs.of_transcript.Tapes.{newest-append}
use Rattle.mega_places.specs.of_promises.Messages.{next_delivery}
use Rattle.mega_places.specs.of_promises.Runs.{Standing, after_event, by_fuse, delivered, drained, marked, up}
use Rattle.mega_places.specs.declared.place.Place.{Place}
use Rattle.mega_safety.specs.declared.safety.Safety.{Safety}
use Rattle.mega_world.specs.declared.world.World.{World}
use Rattle.mega_places.specs.Carries.{Carries}
use Rattle.mega_world.specs.Formed.{IfNext, IsFormed, IsSound, OwnsDelivered, OwnsDrained}
use Rattle.mega_places.specs.Kept.{AreNodes}
use Rattle.mega_safety.specs.Lapses.{KnowsLeases}
use Rattle.mega_world.specs.AtRun.{StandsWith}
use Rattle.mega_world.proofs.Behind.{behind}
use Rattle.mega_places.proofs.Carrying.{same_on}
use Rattle.mega_world.proofs.Events.{drain_is_cut, drains_no_more, drains_on}

-- an item that no node meets leaves the nodes
same_nodes : (c : Cluster) (places : List Place) (now : Standing) (item : Item) → AreNodes c places now → AreNodes c places (marked now item)
same_nodes c places now item all = record { members = all.members; kept = all.kept }

-- a dropped message
pub dropped_at : (c : Cluster) (h : Meanings) (now : Standing) (number : ℕ) (old new : World) (items after : List Item) → StandsWith c old items now → new.cluster ≡ old.cluster → new.places ≡ old.places → new.safety ≡ old.safety → Carries new.mail (Dropped number ∷ now.tape)
    → after ≡ items ++ Dropped number ∷ [] → StandsWith c new after (after_event c h by_fuse now (Drop number))
dropped_at c h now number old new items after r cluster places safety carries is = record {
  cluster = cluster ∙ r.cluster;
  served = r.served;
  nodes = subst (λ ps. AreNodes c ps.items (marked now (Dropped number))) (sym places) (same_nodes c old.places.items now (Dropped number) r.nodes);
  mail = carries;
  tape = ap newest is ∙ newest-append items (Dropped number) ∙ ap (λ t. Dropped number ∷ t) r.tape;
  leases = subst (λ (s : Safety). KnowsLeases s now.node (Dropped number ∷ now.tape)) (sym safety) (record { lapses = r.leases.lapses; told = r.leases.told });
}

-- a drain that is cut
pub cut_at : (c : Cluster) (now : Standing) (world : World) (items after : List Item) → StandsWith c world items now → after ≡ items ++ Cut ∷ [] → StandsWith c world after (marked now Cut)
cut_at c now world items after r is = record {
  cluster = r.cluster;
  served = r.served;
  nodes = same_nodes c world.places.items now Cut r.nodes;
  mail = same_on world.mail now.tape (Cut ∷ now.tape) (record { count = refl; message = λ n. refl; took = λ n. refl; drops = λ n. refl }) r.mail;
  tape = ap newest is ∙ newest-append items Cut ∙ ap (λ t. Cut ∷ t) r.tape;
  leases = record { lapses = r.leases.lapses; told = r.leases.told };
}

-- ---- a drain, delivery by delivery

-- so far: a drain leads where a shorter one leads from here
pub record Reaches (c : Cluster) (h : Meanings) (now : Standing) (most : ℕ) (world : World) (earlier first here : List Item) (left : ℕ) : Type 0 where
  pub mid : Standing
  pub at : StandsWith c world (earlier ++ here) mid
  pub drains : drained c h by_fuse now most ≡ drained c h by_fuse mid left
  pub formed : IsFormed mid
  pub owns : OwnsDrained c h left mid
  pub lines : All HasLine first → All HasLine here

-- the next delivery acts on rows of each group's own, and behind it the drain goes on so
owns_next : (c : Cluster) (h : Meanings) (mid : Standing) (less number : ℕ) → OwnsDrained c h (suc less) mid → next_delivery (up mid) mid.tape ≡ Some number
    → OwnsDelivered c h mid number × IsFormed (delivered c h by_fuse mid number) × OwnsDrained c h less (delivered c h by_fuse mid number)
owns_next c h mid less number owns is = subst (IfNext (λ n. OwnsDelivered c h mid n × IsFormed (delivered c h by_fuse mid n) × OwnsDrained c h less (delivered c h by_fuse mid n))) is owns

pub left_more : (most turn : ℕ) → turn < most → most - turn ≡ suc (most - (turn + 1))
left_more most turn less = omega (arith, less)

pub none_left : (most turn : ℕ) → most ≤ turn → most - turn ≡ 0
none_left most turn le = omega (arith, le)

-- where a drain ends
pub drained_at : (c : Cluster) (h : Meanings) (now : Standing) (most left : ℕ) (world : World) (earlier first here : List Item) (r : Reaches c h now most world earlier first here left) → next_delivery (up r.mid) r.mid.tape ≡ None
    → StandsWith c world (earlier ++ here) (after_event c h by_fuse now (Drain most))
drained_at c h now most left world earlier first here r is = subst (StandsWith c world (earlier ++ here)) (sym (r.drains ∙ drains_no_more c h r.mid left is)) r.at

pub drained_cut : (c : Cluster) (h : Meanings) (now : Standing) (most left number : ℕ) (world : World) (earlier first here after : List Item) (r : Reaches c h now most world earlier first here left) → left ≡ 0
    → next_delivery (up r.mid) r.mid.tape ≡ Some number → after ≡ here ++ Cut ∷ [] → StandsWith c world (earlier ++ after) (after_event c h by_fuse now (Drain most))
drained_cut c h now most left number world earlier first here after r none is added =
    subst (StandsWith c world (earlier ++ after)) (sym (r.drains ∙ ap (drained c h by_fuse r.mid) none ∙ drain_is_cut c h r.mid number is)) (cut_at c r.mid world (earlier ++ here) (earlier ++ after) r.at (behind earlier here (Cut ∷ []) after added))

-- ---- so it goes on in a loop

pub next_sound : {makes now_makes : List ℕ → Option Meaning} (c : Cluster) (h : Meanings) (now : Standing) (most turn number : ℕ) (world : World) (earlier first here : List Item) (r : Reaches c h now most world earlier first here (most - turn)) → turn < most
    → now_makes ≡ makes → IsSound makes c h now (Drain most) → next_delivery (up r.mid) r.mid.tape ≡ Some number → IsSound now_makes c h r.mid (Deliver number)
next_sound {makes} {now_makes} c h now most turn number world earlier first here r less same sound is = record {
  means = means_still makes now_makes h same sound.means;
  handlers = sound.handlers;
  asked = tt;
  formed = r.formed;
  own = (owns_next c h r.mid (most - (turn + 1)) number (subst (λ (n : ℕ). OwnsDrained c h n r.mid) (left_more most turn less) r.owns) is).0;
}

pub reaches_next : (c : Cluster) (h : Meanings) (now : Standing) (most turn number : ℕ) (world after : World) (earlier first here then' : List Item) (r : Reaches c h now most world earlier first here (most - turn)) → turn < most
    → next_delivery (up r.mid) r.mid.tape ≡ Some number → StandsWith c after (earlier ++ then') (after_event c h by_fuse r.mid (Deliver number)) → (All HasLine here → All HasLine then') → Reaches c h now most after earlier first then' (most - (turn + 1))
reaches_next c h now most turn number world after earlier first here then' r less is at lined = record {
  mid = after_event c h by_fuse r.mid (Deliver number);
  at = at;
  drains = r.drains ∙ ap (drained c h by_fuse r.mid) (left_more most turn less) ∙ drains_on c h r.mid number (most - (turn + 1)) is;
  formed = (owns_next c h r.mid (most - (turn + 1)) number (subst (λ (n : ℕ). OwnsDrained c h n r.mid) (left_more most turn less) r.owns) is).1;
  owns = (owns_next c h r.mid (most - (turn + 1)) number (subst (λ (n : ℕ). OwnsDrained c h n r.mid) (left_more most turn less) r.owns) is).2;
  lines = λ has. lined (r.lines has);
}
