-- What the notes of a step show, one after another, and what a world that shows them knows then.
use Rattle.std.proofs.Common.{◌≡◌, ℕ, ◌+◌, ◌++◌, List, [], ◌∷◌, map, refl, sym, ap, ◌∙◌, subst, append_assoc}
use Rattle.std.specs.BTreeSet.{BTreeSet}
use Rattle.std.specs.List.{All}
use Rattle.std.proofs.lemmas.List.Elements.{All-cons, All-head, All-nil, All-tail}
use Rattle.mega_cluster.specs.declared.cluster.Cluster.{Cluster}
use Rattle.mega_wire.specs.declared.message.Message.{Message}
use Rattle.mega_places.specs.of_promises.of_transcript.declared.item.Item.{Item}
use Rattle.mega_places.specs.of_promises.of_transcript.declared.item.Item.TheVariants.{Sent}
use Rattle.mega_places.specs.of_promises.of_transcript.Lines.{HasLine}
use Rattle.mega_places.specs.of_promises.of_transcript.Tape.{newest, onto, sent_count}
use Rattle.mega_places.proofs.of_transcript.Tapes.{onto-append}
use Rattle.mega_places.specs.of_voter.of_rules.Met.{Met}
use Rattle.mega_places.specs.of_voter.of_rules.Operations.{Node as RuleNode}
use Rattle.mega_places.specs.of_voter.of_rules.Steps.{onto as met_onto}
use Rattle.mega_places.specs.of_durable.of_core.of_step_parts.declared.note.Note.{Note}
use Rattle.mega_places.specs.of_durable.of_core.of_step_parts.declared.step.Step.{Step}
use Rattle.mega_places.specs.of_durable.of_core.of_step_parts.Notes.{met_of}
use Rattle.mega_places.specs.of_promises.Items.{numbered, shown}
use Rattle.mega_places.specs.of_promises.Messages.{is_unsafe}
use Rattle.mega_places.specs.of_promises.Runs.{set_at, with_items}
use Rattle.mega_safety.specs.declared.safety.Lapse.{Lapse}
use Rattle.mega_safety.specs.declared.safety.Safety.{Safety}
use Rattle.mega_world.specs.declared.world.World.{World}
use Rattle.mega_places.specs.Carries.{Carries}
use Rattle.mega_safety.specs.Lapses.{AreLapsesOf, KnowsLeases}
use Rattle.mega_world.specs.Showing.{IsShown, IsStepped}
use Rattle.mega_world.specs.Shown.{notes_shown}
use Rattle.mega_places.proofs.Carrying.{notes_same, same_on}
use Rattle.mega_places.proofs.Plain.{with_append, with_sent}

pub notes_last : (me : ℕ) (notes : List Note) (note : Note) → notes_shown me (notes ++ note ∷ []) ≡ notes_shown me notes ++ shown me (met_of note)
notes_last me [] note = right (shown me (met_of note))
  where
    right : (items : List Item) → items ++ [] ≡ items
    right [] = refl
    right (x ∷ items) = ap (λ t. x ∷ t) (right items)
notes_last me (first ∷ notes) note =
    ap (λ items. shown me (met_of first) ++ items) (notes_last me notes note) ∙ sym (append_assoc (shown me (met_of first)) (notes_shown me notes) (shown me (met_of note)))

pub one_more : (c : Cluster) (node : ℕ → RuleNode) (me : ℕ) (tape before after : List Item) (notes : List Note) (note : Note) → after ≡ with_items c node before (shown me (met_of note)) → before ≡ with_items c node tape (notes_shown me notes)
    → after ≡ with_items c node tape (notes_shown me (notes ++ note ∷ []))
one_more c node me tape before after notes note now were =
    now ∙ ap (λ t. with_items c node t (shown me (met_of note))) were ∙ sym (with_append c node (notes_shown me notes) (shown me (met_of note)) tape)
    ∙ sym (ap (with_items c node tape) (notes_last me notes note))

front : (xs ys : List Item) → All HasLine (xs ++ ys) → All HasLine xs
front [] ys all = All-nil HasLine
front (x ∷ xs) ys all = All-cons HasLine x xs (All-head HasLine x (xs ++ ys) all) (front xs ys (All-tail HasLine x (xs ++ ys) all))

rest : (xs ys : List Item) → All HasLine (xs ++ ys) → All HasLine ys
rest [] ys all = all
rest (x ∷ xs) ys all = rest xs ys (All-tail HasLine x (xs ++ ys) all)

-- the first notes have lines where all have, and so has the last
pub lined_first : (me : ℕ) (notes : List Note) (note : Note) → All HasLine (notes_shown me (notes ++ note ∷ [])) → All HasLine (notes_shown me notes)
lined_first me notes note all = front (notes_shown me notes) (shown me (met_of note)) (subst (All HasLine) (notes_last me notes note) all)

pub lined_last : (me : ℕ) (notes : List Note) (note : Note) → All HasLine (notes_shown me (notes ++ note ∷ [])) → All HasLine (shown me (met_of note))
lined_last me notes note all = rest (notes_shown me notes) (shown me (met_of note)) (subst (All HasLine) (notes_last me notes note) all)

-- ---- a whole step is shown

sent_safe : (n : ℕ) (ms : List Message) (tape : List Item) → is_unsafe (onto (numbered n ms) tape) ≡ is_unsafe tape
sent_safe n [] tape = refl
sent_safe n (m ∷ ms) tape = sent_safe (n + 1) ms (Sent n m ∷ tape)

-- once the lapses of the notes are kept, all lapses that were met are
pub kept_of : (c : Cluster) (world : World) (me : ℕ) (notes : List Note) (was ruled : ℕ → RuleNode) (tape : List Item) (lapses : BTreeSet Lapse) → IsStepped c world me notes was ruled tape
    → ((met : ℕ → List Met) → AreLapsesOf world.safety.lapses met → AreLapsesOf lapses (set_at met me (met_onto (map met_of notes) (met me)))) → KnowsLeases (record { lapses = lapses; is_told = world.safety.is_told }) ruled tape
kept_of c world me notes was ruled tape lapses stepped kept = record {
  lapses = record { each = λ cell node epoch. (kept (λ other. (was other).met) stepped.leases.lapses).each cell node epoch ∙ sym (stepped.lapsed cell node epoch) };
  told = stepped.leases.told;
}

pub shown_whole : (c : Cluster) (old new : World) (me : ℕ) (made : Step) (was ruled : ℕ → RuleNode) (items noted after : List Item) (safety : Safety) → IsStepped c old me made.notes was ruled (newest items)
    → newest noted ≡ with_items c ruled (newest items) (notes_shown me made.notes) → KnowsLeases safety ruled (newest noted)
    → ((before : List Item) → Carries old.mail before → Carries new.mail (onto (numbered (sent_count before + 1) made.sends) before))
    → ((before : List Item) → Carries old.mail before → after ≡ noted ++ numbered (sent_count before + 1) made.sends)
    → new.cluster ≡ old.cluster → new.places ≡ old.places → new.safety ≡ safety → IsShown c old new me made ruled items after
shown_whole c old new me made was ruled items noted after safety stepped tape leases carried shows cluster places same = record {
  cluster = cluster;
  places = places;
  tape = whole ∙ ap (onto sent) tape ∙ sym (with_sent c ruled (sent_count (newest items) + 1) made.sends (with_items c ruled (newest items) (notes_shown me made.notes)))
      ∙ sym (with_append c ruled (notes_shown me made.notes) sent (newest items));
  leases = subst (λ (s : Safety). KnowsLeases s ruled (newest after)) (sym same)
      (record { lapses = leases.lapses; told = leases.told ∙ sym (ap is_unsafe whole ∙ sent_safe (sent_count (newest items) + 1) made.sends (newest noted)) });
  carries = subst (Carries new.mail) (sym whole) (subst (λ n. Carries new.mail (onto (numbered (n + 1) made.sends) (newest noted))) counts (carried (newest noted) held));
}
  where
    sent : List Item
    sent = numbered (sent_count (newest items) + 1) made.sends

    counts : sent_count (newest noted) ≡ sent_count (newest items)
    counts = ap sent_count tape ∙ (notes_same c ruled me (map met_of made.notes) (newest items)).count

    held : Carries old.mail (newest noted)
    held = subst (Carries old.mail) (sym tape)
        (same_on old.mail (newest items) (with_items c ruled (newest items) (notes_shown me made.notes)) (notes_same c ruled me (map met_of made.notes) (newest items)) stepped.carries)

    whole : newest after ≡ onto sent (newest noted)
    whole = ap newest (shows (newest noted) held ∙ ap (λ n. noted ++ numbered (n + 1) made.sends) counts) ∙ onto-append noted sent []
