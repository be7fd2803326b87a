-- What a start owed is shown, one after another.
use Rattle.std.proofs.Common.{◌≡◌, ℕ, ◌==◌, cond, Bool, true, false, List, [], ◌∷◌, ◌++◌, map, flat_map, refl, sym, ap, ◌∙◌, subst, append_assoc, arith}
use Rattle.std.proofs.lemmas.Bool.Decides.{nat_tests}
use Rattle.std.specs.BTreeSet.{BTreeSet}
use Rattle.std.specs.List.{All}
use Rattle.std.proofs.lemmas.List.Elements.{All-cons, All-head, All-nil, All-tail}
use Rattle.mega_base.specs.declared.names.Epoch.{Epoch}
use Rattle.mega_cluster.specs.declared.cluster.Cluster.{Cluster}
use Rattle.mega_wire.specs.declared.message.Message.{Message}
use Rattle.mega_places.specs.of_promises.of_transcript.declared.item.Item.{Item}
use Rattle.mega_places.specs.of_promises.of_transcript.declared.item.Item.TheVariants.{Start, Unsent}
use Rattle.mega_places.specs.of_promises.of_transcript.Lines.{HasLine}
use Rattle.mega_places.specs.of_promises.of_transcript.Tape.{newest, onto}
use Rattle.mega_places.proofs.of_transcript.Tapes.{newest-append, onto-append}
use Rattle.mega_places.specs.of_voter.of_rules.Met.{Met, Unsends}
use Rattle.mega_places.specs.of_voter.of_rules.Operations.{Node as RuleNode}
use Rattle.mega_places.specs.of_voter.of_rules.Steps.{onto as met_onto}
use Rattle.mega_places.specs.of_durable.of_core.of_step_parts.Notes.{met_of}
use Rattle.mega_places.specs.of_durable.declared.cut.Cut.{Cut}
use Rattle.mega_places.specs.of_durable.Replying.{owed_by}
use Rattle.mega_places.specs.of_promises.Items.{number, shown}
use Rattle.mega_places.specs.of_promises.Messages.{is_unsafe}
use Rattle.mega_places.specs.of_promises.Runs.{has_lapsed, set_at, with_items}
use Rattle.mega_world.specs.declared.restarting.Shown.{Shown}
use Rattle.mega_safety.specs.declared.safety.Lapse.{Lapse}
use Rattle.mega_world.specs.declared.world.World.{World}
use Rattle.mega_places.specs.Kept.{owed_of}
use Rattle.mega_safety.specs.Lapses.{AreLapsesOf, KnowsLeases}
use Rattle.mega_world.specs.Owing.{IsOwing, ShowsOwed, ShowsStart}
use Rattle.mega_world.specs.Shown.{notes_shown}
use Rattle.mega_places.proofs.Plain.{with_append}

flat_two : (me : ℕ) (xs ys : List Met) → flat_map (shown me) (xs ++ ys) ≡ flat_map (shown me) xs ++ flat_map (shown me) ys
flat_two me [] ys = refl
flat_two me (x ∷ xs) ys = ap (λ t. shown me x ++ t) (flat_two me xs ys) ∙ sym (append_assoc (shown me x) (flat_map (shown me) xs) (flat_map (shown me) ys))

-- replies that were not sent show nothing of leases
with_unsent : (c : Cluster) (node : ℕ → RuleNode) (me : ℕ) (replies : List Message) (tape : List Item) → with_items c node tape (flat_map (shown me) (map Unsends replies)) ≡ onto (flat_map (shown me) (map Unsends replies)) tape
with_unsent c node me [] tape = refl
with_unsent c node me (m ∷ replies) tape = with_unsent c node me replies (Unsent (number me) m ∷ tape)

unsent_safe : (me : ℕ) (replies : List Message) (tape : List Item) → is_unsafe (onto (flat_map (shown me) (map Unsends replies)) tape) ≡ is_unsafe tape
unsent_safe me [] tape = refl
unsent_safe me (m ∷ replies) tape = unsent_safe me replies (Unsent (number me) m ∷ tape)

unsent_lapses : (replies : List Message) (met : List Met) (node : ℕ) (epoch : Epoch) → has_lapsed (met_onto (map Unsends replies) met) node epoch ≡ has_lapsed met node epoch
unsent_lapses [] met node epoch = refl
unsent_lapses (m ∷ replies) met node epoch = unsent_lapses replies (Unsends m ∷ met) node epoch

onto_three : (xs ys met : List Met) → met_onto (xs ++ ys) met ≡ met_onto ys (met_onto xs met)
onto_three [] ys met = refl
onto_three (x ∷ xs) ys met = onto_three xs ys (x ∷ met)

-- one more reply
pub unsent_last : (me : ℕ) (replies : List Message) (m : Message) → flat_map (shown me) (map Unsends (replies ++ m ∷ [])) ≡ flat_map (shown me) (map Unsends replies) ++ Unsent (number me) m ∷ []
unsent_last me [] m = refl
unsent_last me (first ∷ replies) m = ap (λ items. Unsent (number me) first ∷ items) (unsent_last me replies m)

-- nothing is owed
pub none_owed : (c : Cluster) (world : World) (me : ℕ) (was ruled : ℕ → RuleNode) (tape : List Item) → IsOwing c world me [] was ruled tape → ShowsOwed c world world me [] ruled tape tape
none_owed c world me was ruled tape owing = record {
  cluster = refl;
  places = refl;
  mail = refl;
  tape = refl;
  leases = record {
    lapses = record { each = λ cell node epoch. owing.leases.lapses.each cell node epoch ∙ same cell node epoch (me == cell) refl ∙ sym (owing.lapsed cell node epoch) };
    told = owing.leases.told;
  };
}
  where
    same : (cell node : ℕ) (epoch : Epoch) (t : Bool) → (me == cell) ≡ t → has_lapsed (was cell).met node epoch ≡ has_lapsed (cond t (was me).met (was cell).met) node epoch
    same cell node epoch true own = ap (λ (k : ℕ). has_lapsed (was k).met node epoch) (sym (equal me cell own))
      where
        equal : (a b : ℕ) → (a == b) ≡ true → a ≡ b
        equal a b is = grind (arith, nat_tests)
    same cell node epoch false off = refl

-- once the lapses of what is owed are kept, all lapses that were met are
pub owed_kept : (c : Cluster) (world : World) (me : ℕ) (cut : Cut) (was ruled : ℕ → RuleNode) (tape : List Item) (lapses : BTreeSet Lapse) → IsOwing c world me (owed_by cut) was ruled tape
    → ((met : ℕ → List Met) → AreLapsesOf world.safety.lapses met → AreLapsesOf lapses (set_at met me (met_onto (map met_of cut.notes) (met me)))) → KnowsLeases (record { lapses = lapses; is_told = world.safety.is_told }) ruled tape
owed_kept c world me cut was ruled tape lapses owing kept = record {
  lapses = record { each = λ cell node epoch. (kept (λ other. (was other).met) owing.leases.lapses).each cell node epoch ∙ same cell node epoch (me == cell) ∙ sym (owing.lapsed cell node epoch) };
  told = owing.leases.told;
}
  where
    same : (cell node : ℕ) (epoch : Epoch) (t : Bool)
        → has_lapsed (cond t (met_onto (map met_of cut.notes) (was me).met) (was cell).met) node epoch ≡ has_lapsed (cond t (met_onto (owed_by cut) (was me).met) (was cell).met) node epoch
    same cell node epoch true =
        sym (ap (λ met. has_lapsed met node epoch) (onto_three (map met_of cut.notes) (map Unsends cut.replies) (was me).met) ∙ unsent_lapses cut.replies (met_onto (map met_of cut.notes) (was me).met) node epoch)
    same cell node epoch false = refl

-- it is shown: its notes, and then its replies
pub owed_shown : (c : Cluster) (old new : World) (me : ℕ) (cut : Cut) (ruled : ℕ → RuleNode) (items noted after : List Item) → new.cluster ≡ old.cluster → new.places ≡ old.places → new.mail ≡ old.mail
    → newest noted ≡ with_items c ruled (newest items) (notes_shown me cut.notes) → KnowsLeases new.safety ruled (newest noted) → after ≡ noted ++ flat_map (shown me) (map Unsends cut.replies)
    → ShowsOwed c old new me (owed_by cut) ruled (newest items) (newest after)
owed_shown c old new me cut ruled items noted after cluster places mail tape leases is = record {
  cluster = cluster;
  places = places;
  mail = mail;
  tape = whole ∙ sym (with_unsent c ruled me cut.replies (newest noted)) ∙ ap (λ t. with_items c ruled t unsent) tape ∙ sym (with_append c ruled (notes_shown me cut.notes) unsent (newest items))
      ∙ ap (with_items c ruled (newest items)) (sym (flat_two me (map met_of cut.notes) (map Unsends cut.replies)));
  leases = record { lapses = leases.lapses; told = leases.told ∙ sym (ap is_unsafe whole ∙ unsent_safe me cut.replies (newest noted)) };
}
  where
    unsent : List Item
    unsent = flat_map (shown me) (map Unsends cut.replies)

    whole : newest after ≡ onto unsent (newest noted)
    whole = ap newest is ∙ onto-append noted unsent []

-- the start's own item stands before
pub owing_behind : (c : Cluster) (world : World) (me start : ℕ) (owed : List Met) (was ruled : ℕ → RuleNode) (items here : List Item) → here ≡ items ++ Start (number me) start ∷ [] → IsOwing c world me owed was ruled (newest items)
    → IsOwing c world me owed was ruled (newest here)
owing_behind c world me start owed was ruled items here is owing = record {
  nodes = owing.nodes;
  lapsed = owing.lapsed;
  leases = subst (KnowsLeases world.safety was) (sym (ap newest is ∙ newest-append items (Start (number me) start))) (record { lapses = owing.leases.lapses; told = owing.leases.told });
}

-- so the whole start is shown
pub start_shown : (c : Cluster) (old mid new : World) (me : ℕ) (opening : Shown) (ruled : ℕ → RuleNode) (items here owed after : List Item) → here ≡ items ++ Start (number me) opening.start ∷ []
    → ShowsOwed c old mid me (owed_of opening.owed) ruled (newest here) (newest owed) → new.cluster ≡ mid.cluster → new.places ≡ mid.places → new.mail ≡ mid.mail
    → newest after ≡ with_items c ruled (newest owed) (notes_shown me opening.notes) → KnowsLeases new.safety ruled (newest after) → ShowsStart c old new me opening ruled (newest items) (newest after)
start_shown c old mid new me opening ruled items here owed after is shows cluster places mail tape leases = record {
  cluster = cluster ∙ shows.cluster;
  places = places ∙ shows.places;
  mail = mail ∙ shows.mail;
  tape = tape ∙ ap (λ t. with_items c ruled t (notes_shown me opening.notes)) (shows.tape ∙ ap (λ t. with_items c ruled t (flat_map (shown me) (owed_of opening.owed))) (ap newest is ∙ newest-append items (Start (number me) opening.start)))
      ∙ sym (with_append c ruled (Start (number me) opening.start ∷ flat_map (shown me) (owed_of opening.owed)) (notes_shown me opening.notes) (newest items));
  leases = leases;
}

-- what is owed has lines where its notes and its replies have
both_lined : (xs ys : List Item) → All HasLine (xs ++ ys) → All HasLine xs × All HasLine ys
both_lined [] ys each = (All-nil HasLine, each)
both_lined (x ∷ xs) ys each = let rest = both_lined xs ys (All-tail HasLine x (xs ++ ys) each) in (All-cons HasLine x xs (All-head HasLine x (xs ++ ys) each) rest.0, rest.1)

pub owed_lined : (me : ℕ) (cut : Cut) → All HasLine (flat_map (shown me) (owed_by cut)) → All HasLine (notes_shown me cut.notes) × All HasLine (flat_map (shown me) (map Unsends cut.replies))
owed_lined me cut each = both_lined (notes_shown me cut.notes) (flat_map (shown me) (map Unsends cut.replies)) (subst (All HasLine) (flat_two me (map met_of cut.notes) (map Unsends cut.replies)) each)
