-- What a step, a start and a crash put onto a tape tells of their node, and of no other.
use Rattle.std.proofs.Common.{◌≡◌, ℕ, ◌+◌, ◌==◌, ◌&&◌, Bool, true, false, not, cond, List, [], ◌∷◌, ◌++◌, flat_map, map, Some, None, refl, sym, ap, subst, ◌∙◌}
use Rattle.std.specs.List.{All, cons_option}
use Rattle.std.proofs.lemmas.List.Elements.{All-head, All-tail}
use Rattle.mega_cluster.specs.declared.cluster.Cluster.{Cluster}
use Rattle.mega_wire.specs.declared.message.Message.{Message}
use Rattle.mega_transcript.specs.declared.item.Item.{Item}
use Rattle.mega_transcript.specs.declared.item.Item.TheVariants.{Answer, Apply, Counts as CountsItem, Crash, Decide, Forgets as ForgetsItem, Grant, Invalid, Lapse, Lost, Sent, Serving, Start, Tick, Unsafe, Unsent, Valid}
use Rattle.mega_promises.specs.Items.{number, numbered, shown}
use Rattle.mega_promises.specs.Messages.{is_unsafe}
use Rattle.mega_promises.specs.Runs.{breaks, with_item, with_items}
use Rattle.mega_rules.specs.Met.{Met, Starts, Crashes, Ticks, Begins, Takes, Sends, Unsends, Grants, Lapses, Counts, Forgets, Serves, Loses, Validates, Invalidates, Decides, Applies, Answers}
use Rattle.mega_rules.specs.Operations.{Node}
use Rattle.mega_rules.specs.Steps.{onto}
use Rattle.mega_served_laws.specs.Lives.{actor, told_by, told_of}

-- a tape goes on with lines of a node, which tell this of it
pub record Tells (v me : ℕ) (old new : List Item) (more : List Met → List Met) : Type 0 where
  pub actor_is : actor new ≡ me
  pub told : told_of v new ≡ cond (me == v) (more (told_of v old)) (told_of v old)

pub then_tells : (v me : ℕ) (old mid new : List Item) (f g : List Met → List Met) → Tells v me old mid f → Tells v me mid new g → Tells v me old new (λ met. g (f met))
then_tells v me old mid new f g a b = record { actor_is = b.actor_is; told = b.told ∙ ap (λ met. cond (me == v) (g met) met) a.told ∙ twice (me == v) (told_of v old) }
  where
    twice : (t : Bool) (met : List Met) → cond t (g (cond t (f met) met)) (cond t (f met) met) ≡ cond t (g (f met)) met
    twice true met = refl
    twice false met = refl

-- one line
pub line_tells : (v me : ℕ) (tape : List Item) (item : Item) (one : Met) → actor (item ∷ tape) ≡ me → told_by tape item ≡ Some one → Tells v me tape (item ∷ tape) (λ met. one ∷ met)
line_tells v me tape item one actor_is tells = record {
  actor_is = actor_is;
  told = λ i. cond (actor_is i == v) (cons_option (tells i) (told_of v tape)) (told_of v tape);
}

same_if : {X : Type 0} (t : Bool) (x : X) → cond t x x ≡ x
same_if true x = refl
same_if false x = refl

-- and the one that may follow it
with_tells : (c : Cluster) (nodes : ℕ → Node) (v me : ℕ) (tape : List Item) (item : Item) (one : Met) → actor (item ∷ tape) ≡ me → told_by tape item ≡ Some one
    → Tells v me tape (with_item c nodes tape item) (λ met. one ∷ met)
with_tells c nodes v me tape item one actor_is tells = by (breaks c nodes item && not (is_unsafe tape)) (line_tells v me tape item one actor_is tells)
  where
    by : (t : Bool) → Tells v me tape (item ∷ tape) (λ met. one ∷ met) → Tells v me tape (cond t (Unsafe ∷ item ∷ tape) (item ∷ tape)) (λ met. one ∷ met)
    by true h = record { actor_is = h.actor_is; told = same_if (actor (item ∷ tape) == v) (told_of v (item ∷ tape)) ∙ h.told }
    by false h = h

-- what has a line of its own that names no number
abbrev pub is_shown : Met → Bool
is_shown (Takes message) = false
is_shown (Sends message) = false
is_shown (Begins op text) = false
is_shown _ = true

abbrev pub IsShown : Met → Type 0
IsShown one = is_shown one ≡ true

pub one_tells : (c : Cluster) (nodes : ℕ → Node) (v me : ℕ) (tape : List Item) (one : Met) → IsShown one → actor tape ≡ me → Tells v me tape (with_items c nodes tape (shown me one)) (λ met. one ∷ met)
one_tells c nodes v me tape (Starts start) is a = with_tells c nodes v me tape (Start (number me) start) (Starts start) refl refl
one_tells c nodes v me tape Crashes is a = with_tells c nodes v me tape (Crash (number me)) Crashes refl refl
one_tells c nodes v me tape (Ticks now) is a = with_tells c nodes v me tape (Tick (number me) now) (Ticks now) refl refl
one_tells c nodes v me tape (Begins op text) is a = absurd (cc)
one_tells c nodes v me tape (Takes message) is a = absurd (cc)
one_tells c nodes v me tape (Sends message) is a = absurd (cc)
one_tells c nodes v me tape (Unsends message) is a = with_tells c nodes v me tape (Unsent (number me) message) (Unsends message) a refl
one_tells c nodes v me tape (Grants node epoch) is a = with_tells c nodes v me tape (Grant me (number node) epoch) (Grants node epoch) a refl
one_tells c nodes v me tape (Lapses node epoch) is a = with_tells c nodes v me tape (Lapse me (number node) epoch) (Lapses node epoch) a refl
one_tells c nodes v me tape (Counts cell epoch) is a = with_tells c nodes v me tape (CountsItem (number me) cell epoch) (Counts cell epoch) a refl
one_tells c nodes v me tape (Forgets cell epoch) is a = with_tells c nodes v me tape (ForgetsItem (number me) cell epoch) (Forgets cell epoch) a refl
one_tells c nodes v me tape (Serves epoch) is a = with_tells c nodes v me tape (Serving (number me) epoch) (Serves epoch) a refl
one_tells c nodes v me tape (Loses epoch) is a = with_tells c nodes v me tape (Lost (number me) epoch) (Loses epoch) a refl
one_tells c nodes v me tape (Validates group position) is a = with_tells c nodes v me tape (Valid (number me) group (record { 0 = position })) (Validates group position) a refl
one_tells c nodes v me tape (Invalidates group position) is a = with_tells c nodes v me tape (Invalid (number me) group (record { 0 = position })) (Invalidates group position) a refl
one_tells c nodes v me tape (Decides group position entry) is a = with_tells c nodes v me tape (Decide (number me) group (record { 0 = position }) entry) (Decides group position entry) a refl
one_tells c nodes v me tape (Applies group position) is a = with_tells c nodes v me tape (Apply (number me) group (record { 0 = position })) (Applies group position) a refl
one_tells c nodes v me tape (Answers op answer) is a = with_tells c nodes v me tape (Answer op answer) (Answers op answer) a refl

pub with_append : (c : Cluster) (nodes : ℕ → Node) (xs ys tape : List Item) → with_items c nodes tape (xs ++ ys) ≡ with_items c nodes (with_items c nodes tape xs) ys
with_append c nodes [] ys tape = refl
with_append c nodes (x ∷ xs) ys tape = with_append c nodes xs ys (with_item c nodes tape x)

pub notes_tell : (c : Cluster) (nodes : ℕ → Node) (v me : ℕ) (notes : List Met) (tape : List Item) → All IsShown notes → actor tape ≡ me → Tells v me tape (with_items c nodes tape (flat_map (shown me) notes)) (onto notes)
notes_tell c nodes v me [] tape are a = record { actor_is = a; told = sym (same_if (me == v) (told_of v tape)) }
notes_tell c nodes v me (one ∷ notes) tape are a =
    let first = one_tells c nodes v me tape one (All-head IsShown one notes are) a in
    subst (λ new. Tells v me tape new (onto (one ∷ notes))) (sym (with_append c nodes (shown me one) (flat_map (shown me) notes) tape))
    (then_tells v me tape (with_items c nodes tape (shown me one)) _ (λ met. one ∷ met) (onto notes) first
    (notes_tell c nodes v me notes (with_items c nodes tape (shown me one)) (All-tail IsShown one notes are) first.actor_is))

pub sends_tell : (c : Cluster) (nodes : ℕ → Node) (v me n : ℕ) (ms : List Message) (tape : List Item) → actor tape ≡ me → Tells v me tape (with_items c nodes tape (numbered n ms)) (onto (map Sends ms))
sends_tell c nodes v me n [] tape a = record { actor_is = a; told = sym (same_if (me == v) (told_of v tape)) }
sends_tell c nodes v me n (m ∷ ms) tape a =
    then_tells v me tape (Sent n m ∷ tape) _ (λ met. Sends m ∷ met) (onto (map Sends ms)) (line_tells v me tape (Sent n m) (Sends m) a refl)
    (sends_tell c nodes v me (n + 1) ms (Sent n m ∷ tape) a)

-- a line that is no node's
pub mark_tells : (v : ℕ) (tape : List Item) (item : Item) → told_by tape item ≡ None → told_of v (item ∷ tape) ≡ told_of v tape
mark_tells v tape item none = ap (λ o. cond (actor (item ∷ tape) == v) (cons_option o (told_of v tape)) (told_of v tape)) none ∙ same_if (actor (item ∷ tape) == v) (told_of v tape)
