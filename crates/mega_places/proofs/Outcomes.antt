-- What becomes of the nodes of a world by the step of one of them.
use Rattle.std.proofs.Common.{◌≡◌, ℕ, ◌+◌, ◌-◌, ◌<◌, ◌≤◌, ◌==◌, ◌&&◌, cond, Bool, true, false, List, [], length, set, ◌∷◌, Some, None, refl, sym, ap, ◌∙◌, subst, arith}
use Rattle.std.proofs.lemmas.Bool.Decides.{nat_tests}
use Rattle.std.specs.List.{slice_get}
use Rattle.mega_cluster.specs.declared.cluster.Cluster.{Cluster}
use Rattle.mega_handler.specs.Named.{Meanings}
use Rattle.mega_leases.specs.Opening.{AreOwed}
use Rattle.mega_rules.specs.Clock.{is_up, start_of}
use Rattle.mega_rules.specs.Met.{Met, Crashes}
use Rattle.mega_rules.specs.Operations.{Node as RuleNode}
use Rattle.mega_rules.specs.Steps.{Begin, Event, Step as RuleStep, Take, Tick, crashed, onto, step}
use Rattle.mega_node_laws.specs.Acted.{own_item}
use Rattle.mega_durable.specs.of_core.of_step_parts.declared.step.Step.{Step}
use Rattle.mega_durable.specs.declared.cut.Cut.{Cut}
use Rattle.mega_durable.specs.Replying.{owed_by}
use Rattle.mega_promises.specs.Runs.{Standing, after_append, appends, is_burning, is_kept, left_by, met_in, owes, replies_in, setting, whole_step}
use Rattle.mega_voter.specs.Holding.{HoldsMet}
use Rattle.mega_places.specs.declared.fallen.Fallen.{Fallen}
use Rattle.mega_places.specs.declared.member.Member.{Member}
use Rattle.mega_places.specs.declared.place.Place.{Place}
use Rattle.mega_places.specs.declared.place.Place.TheVariants.{Up, Down}
use Rattle.mega_places.specs.declared.remains.Remains.TheVariants.{OnDisk}
use Rattle.mega_places.specs.Kept.{AreNodes, IsSettled, owed_of}
use Rattle.mega_places.specs.LogFuses.{IsFused, run_fuse}
use Rattle.mega_places.specs.Members.{IsMember, is_up_at, records_of}
use Rattle.mega_places.specs.Stepping.{Falls, MadeStep, Makes, WasCut, cut_off}
use Rattle.mega_places.proofs.Fuses.{fused_gone}
use Rattle.mega_places.proofs.Joining.{at_other, at_own, get_set, member_up, nodes_on, not_down, place_at, set_twice}
use Rattle.mega_places.proofs.Staying.{Stays, stays_up}

-- ---- a place that is up holds a node that is settled
pub record StandsAt (c : Cluster) (places : List Place) (now : Standing) (me : ℕ) (member : Member) : Type 0 where
  pub is : IsMember c me member (now.node me)
  pub settled : IsSettled member (now.starts me) (now.owed me) (now.node me).met (now.log_fuse me)

pub stands_at : (c : Cluster) (places : List Place) (now : Standing) (me i : ℕ) (place : Place) (member : Member) → AreNodes c places now → i ≡ me - 1 → 1 ≤ me → slice_get places i ≡ Some place → place ≡ Up member → StandsAt c places now me member
stands_at c places now me i place member all at least there up = record {
  is = all.members.each me member (member_up places me i place member at least there up);
  settled =
      let e : i + 1 ≡ me = omega (arith, at, least) in
      subst (λ (n : ℕ). IsSettled member (now.starts n) (now.owed n) (now.node n).met (now.log_fuse n)) e
      (all.kept.each i (Up member) (there ∙ ap Some up));
}

-- ---- a step that is whole
pub makes_at : (c : Cluster) (h : Meanings) (now : Standing) (me : ℕ) (event : Event) (places : List Place) (old member : Member) (made : Step) → AreNodes c places now → 1 ≤ me → me ≤ length places → is_up (now.node me).met ≡ true
    → IsSettled old (now.starts me) (now.owed me) (now.node me).met (now.log_fuse me)
    → MadeStep c me (step (setting c h me) (now.node me) event) (now.log_fuse me) member made → Makes c now me (step (setting c h me) (now.node me) event) (set places (me - 1) (Up member)) made
makes_at c h now me event places old member made all least most up settled one = record {
  notes = one.notes;
  sends = one.sends;
  long = one.long;
  nodes = λ own. nodes_on c places me (Up member) ruled.node now (whole_step c now me own ruled) all least most (one.is, stays.up up) refl
      (λ other apart. record { starts = refl; owed = refl; ruled = at_other now.node me other ruled.node apart; fuse = at_other now.log_fuse me other (cond (appends ruled) (after_append (now.log_fuse me)) (now.log_fuse me)) apart })
      (record {
        started = settled.started ∙ sym stays.start;
        unowed = settled.unowed;
        fused = subst (IsFused member.fuse (records_of member)) (sym (at_own now.log_fuse me (cond (appends ruled) (after_append (now.log_fuse me)) (now.log_fuse me)))) one.fused;
      });
}
  where
    ruled : RuleStep
    ruled = step (setting c h me) (now.node me) event

    stays : Stays (now.node me).met ruled.node.met
    stays = stays_up (setting c h me) (now.node me) event

-- ---- a step that is cut off
own_met : (c : Cluster) (h : Meanings) (me : ℕ) (node : RuleNode) (event : Event) → own_item (setting c h me) node event ≡ met_in (setting c h me) node.met event
own_met c h me node (Tick clock) = refl
own_met c h me node (Take message) = refl
own_met c h me node (Begin request text) = refl

owed_if : (k : Bool) (cut : Cut) (owed : List Met) → owed_by cut ≡ owed → owed_of (cond k (Some cut) None) ≡ cond k owed []
owed_if true cut owed is = is
owed_if false cut owed is = refl

pub falls_at : (c : Cluster) (h : Meanings) (now : Standing) (me : ℕ) (event : Event) (places : List Place) (old member : Member) (cut : Cut) → AreNodes c places now → 1 ≤ me → me ≤ length places
    → IsSettled old (now.starts me) (now.owed me) (now.node me).met (now.log_fuse me)
    → WasCut c h me (now.node me) event (now.log_fuse me) member cut
    → Falls c h now me event (set places (me - 1) (Down (record { remains = OnDisk (records_of member); fuse = None; owed = cond (is_kept (left_by (run_fuse member.fuse))) (Some cut) None })))
falls_at c h now me event places old member cut all least most settled one = record {
  short = ap (λ t. t && is_burning (now.log_fuse me)) one.appending ∙ one.burning;
  nodes = λ own. nodes_on c places me (Down fallen) next now (cut_off c h now me own event) all least most refl refl
      (λ other apart. record { starts = refl; owed = at_other now.owed me other owing apart; ruled = at_other now.node me other next apart; fuse = at_other now.log_fuse me other None apart })
      (record {
        follows = subst (λ (owed : List Met). AreOwed owed next.met) (sym (at_own now.owed me owing)) (follows (is_kept (left_by (now.log_fuse me))));
        holds = subst (λ (owed : List Met). HoldsMet (records_of member).list.items (now.starts me) (onto owed next.met)) (sym (at_own now.owed me owing)) held;
        ready = tt;
        owes = ap (λ f. owed_of (cond (is_kept (left_by f)) (Some cut) None)) one.was
            ∙ owed_if (is_kept (left_by (now.log_fuse me))) cut (owes (step (setting c h me) (now.node me) event) (replies_in c me (now.node me).met event)) one.owed
            ∙ sym (at_own now.owed me owing);
        fused = subst (IsFused None (records_of member)) (sym (at_own now.log_fuse me None)) (fused_gone (records_of member) one.gone);
      });
}
  where
    owing : List Met
    owing = cond (is_kept (left_by (now.log_fuse me))) (owes (step (setting c h me) (now.node me) event) (replies_in c me (now.node me).met event)) []

    next : RuleNode
    next = crashed (record { met = met_in (setting c h me) (now.node me).met event ∷ (now.node me).met; open_operations = []; stored = (now.node me).stored })

    fallen : Fallen
    fallen = record { remains = OnDisk (records_of member); fuse = None; owed = cond (is_kept (left_by (run_fuse member.fuse))) (Some cut) None }

    follows : (k : Bool) → AreOwed (cond k (owes (step (setting c h me) (now.node me) event) (replies_in c me (now.node me).met event)) []) next.met
    follows true = subst (λ (own : Met). AreOwed (owes (step (setting c h me) (now.node me) event) (replies_in c me (now.node me).met event)) (Crashes ∷ own ∷ (now.node me).met)) (own_met c h me (now.node me) event) one.follows
    follows false = tt

    held : HoldsMet (records_of member).list.items (now.starts me) (onto owing next.met)
    held = subst (λ (starts : ℕ). HoldsMet (records_of member).list.items starts (onto owing next.met)) (sym settled.started)
        (subst (λ (own : Met). HoldsMet (records_of member).list.items (start_of (now.node me).met) (onto owing (Crashes ∷ own ∷ (now.node me).met))) (own_met c h me (now.node me) event) one.holds)

-- ---- a place whose node is up
pub up_at : (places : List Place) (me : ℕ) → 1 ≤ me → me ≤ length places → is_up_at places me ≡ true → (member : Member) × (slice_get places (me - 1) ≡ Some (Up member))
up_at places me least most up = by (place_at places me least most)
  where
    by : (place : Place) × (slice_get places (me - 1) ≡ Some place) → (member : Member) × (slice_get places (me - 1) ≡ Some (Up member))
    by (Up member, there) = (member, there)
    by (Down fallen, there) = absurd (not_down places me (me - 1) (Down fallen) fallen refl least there refl up)

-- ---- so does what the node's own outcome leaves of them
pub comes_at : (c : Cluster) (h : Meanings) (now : Standing) (me : ℕ) (event : Event) (was : List Place) (member : Member) (made : Step) (places : List Place) → AreNodes c was now → 1 ≤ me → me ≤ length was → is_up (now.node me).met ≡ true
    → places ≡ set was (me - 1) (Up member) → MadeStep c me (step (setting c h me) (now.node me) event) (now.log_fuse me) member made → Makes c now me (step (setting c h me) (now.node me) event) places made
comes_at c h now me event was member made places all least most up is one =
    let found = up_at was me least most (sym (all.members.up_are me) ∙ up) in
    let stands = stands_at c was now me (me - 1) (Up found.0) found.0 all refl least found.1 refl in
    subst (λ (ps : List Place). Makes c now me (step (setting c h me) (now.node me) event) ps made) (sym is) (makes_at c h now me event was found.0 member made all least most up stands.settled one)

pub cuts_at : (c : Cluster) (h : Meanings) (now : Standing) (me : ℕ) (event : Event) (was : List Place) (member : Member) (cut : Cut) (mid places : List Place) → AreNodes c was now → 1 ≤ me → me ≤ length was → is_up (now.node me).met ≡ true
    → mid ≡ set was (me - 1) (Up member)
    → ((one : Member) → slice_get mid (me - 1) ≡ Some (Up one) → places ≡ set mid (me - 1) (Down (record { remains = OnDisk (records_of one); fuse = None; owed = cond (is_kept (left_by (run_fuse one.fuse))) (Some cut) None })))
    → WasCut c h me (now.node me) event (now.log_fuse me) member cut → Falls c h now me event places
cuts_at c h now me event was member cut mid places all least most up is falls one =
    let found = up_at was me least most (sym (all.members.up_are me) ∙ up) in
    let stands = stands_at c was now me (me - 1) (Up found.0) found.0 all refl least found.1 refl in
    let below : me - 1 < length was = omega (arith, least, most) in
    let same : (me - 1 == me - 1) ≡ true = grind (arith, nat_tests) in
    let there : slice_get mid (me - 1) ≡ Some (Up member) = ap (λ ps. slice_get ps (me - 1)) is ∙ get_set was (me - 1) (me - 1) (Up member) below ∙ ap (λ t. cond t (Some (Up member)) (slice_get was (me - 1))) same in
    let fallen : Fallen = record { remains = OnDisk (records_of member); fuse = None; owed = cond (is_kept (left_by (run_fuse member.fuse))) (Some cut) None } in
    subst (λ (ps : List Place). Falls c h now me event ps) (sym (falls member there ∙ ap (λ ps. set ps (me - 1) (Down fallen)) is ∙ set_twice was (me - 1) (Up member) (Down fallen)))
    (falls_at c h now me event was found.0 member cut all least most stands.settled one)
