-- Earlier moments of a tape, and what was asked of cells on it.
use Rattle.std.proofs.Common.{◌≡◌, inr, ℕ, ◌+◌, ◌==◌, ◌&&◌, ◌||◌, Bool, true, false, not, cond, List, [], ◌∷◌, ◌++◌, map, refl, sym, ap, ◌∙◌, subst}
use Rattle.std.proofs.lemmas.Bool.{or_from, and_left, or_parts}
use Rattle.mega_base.specs.declared.names.OpId.{OpId}
use Rattle.mega_cluster.specs.declared.cluster.Cluster.{Cluster}
use Rattle.mega_wire.specs.declared.message.Message.{Message}
use Rattle.mega_wire.specs.declared.message.Body.{Body}
use Rattle.mega_wire.specs.declared.message.Body.TheVariants.{Dead, Unheld}
use Rattle.mega_wal.specs.Same.{same_op}
use Rattle.mega_run_laws.specs.of_transcript.declared.item.Item.{Item}
use Rattle.mega_run_laws.specs.of_transcript.declared.item.Item.TheVariants.{Sent, Unsafe}
use Rattle.mega_run_laws.specs.of_promises.Messages.{is_unsafe}
use Rattle.mega_run_laws.specs.of_promises.Promises.{Stands}
use Rattle.mega_run_laws.specs.of_promises.Runs.{breaks, with_item, with_items}
use Rattle.mega_run_laws.specs.of_rules.of_read.of_propose.Members.{has, joined, without}
use Rattle.mega_run_laws.specs.of_rules.Operations.{Node}
use Rattle.mega_schema.specs.declared.schema.Schema.{Schema}
use Rattle.mega_run_laws.specs.of_tape_laws.Answers.{AreAnswered}
use Rattle.mega_run_laws.specs.of_tape_laws.Polls.{ArePolls}
use Rattle.mega_run_laws.specs.of_tape_laws.Writes.{AreWritten, Usage}
use Rattle.mega_run_laws.proofs.of_tape_laws.Ballots.{number_is}
use Rattle.mega_run_laws.specs.Justified.{Each, sent}
use Rattle.mega_run_laws.proofs.Sending.{Stood}
use Rattle.mega_run_laws.proofs.Shown.{IsSilent}
use Rattle.mega_settled_laws.specs.Covering.{Earlier, asks_about, has_asked_about}

-- ---- moments

pub now_is : (tape : List Item) → Earlier tape tape
now_is tape = record { later = []; is = refl }

pub one_later : (moment tape : List Item) (item : Item) → Earlier moment tape → Earlier moment (item ∷ tape)
one_later moment tape item e = record { later = item ∷ e.later; is = ap (λ t. item ∷ t) e.is }

regrouped : (a b c : List Item) → a ++ (b ++ c) ≡ (a ++ b) ++ c
regrouped [] b c = refl
regrouped (x ∷ a) b c = ap (λ t. x ∷ t) (regrouped a b c)

pub then_later : (one two three : List Item) → Earlier one two → Earlier two three → Earlier one three
then_later one two three a b = record { later = b.later ++ a.later; is = b.is ∙ ap (λ t. b.later ++ t) a.is ∙ regrouped b.later a.later one }

pub stood_behind : (later moment : List Item) (item : Item) → Stands item moment → Stands item (later ++ moment)
stood_behind [] moment item s = s
stood_behind (one ∷ later) moment item s = inr (stood_behind later moment item s)

pub earlier_stood : (moment tape : List Item) → Earlier moment tape → Stood moment tape
earlier_stood moment tape e item s = subst (Stands item) (sym e.is) (stood_behind e.later moment item s)

pub sent_later : (n : ℕ) (ms : List Message) (tape : List Item) → Earlier tape (sent n ms tape)
sent_later n [] tape = now_is tape
sent_later n (m ∷ ms) tape = then_later tape (Sent n m ∷ tape) (sent (n + 1) ms (Sent n m ∷ tape)) (one_later tape tape (Sent n m) (now_is tape)) (sent_later (n + 1) ms (Sent n m ∷ tape))

pub polls_before : (later tape : List Item) → ArePolls (later ++ tape) → ArePolls tape
polls_before [] tape l = l
polls_before (item ∷ later) tape l = polls_before later tape l.1

pub written_before : (schema : Schema) (usage : Usage) (later tape : List Item) → AreWritten schema usage (later ++ tape) → AreWritten schema usage tape
written_before schema usage [] tape w = w
written_before schema usage (item ∷ later) tape w = written_before schema usage later tape w.1

pub answered_before : (schema : Schema) (usage : Usage) (later tape : List Item) → AreAnswered schema usage (later ++ tape) → AreAnswered schema usage tape
answered_before schema usage [] tape a = a
answered_before schema usage (item ∷ later) tape a = answered_before schema usage later tape a.1

module _ (c : Cluster) (nodes : ℕ → Node) where
  item_later : (tape : List Item) (item : Item) → Earlier tape (with_item c nodes tape item)
  item_later tape item = by (breaks c nodes item && not (is_unsafe tape))
    where
      by : (t : Bool) → Earlier tape (cond t (Unsafe ∷ item ∷ tape) (item ∷ tape))
      by true = one_later tape (item ∷ tape) Unsafe (one_later tape tape item (now_is tape))
      by false = one_later tape tape item (now_is tape)

  pub items_later : (items tape : List Item) → Earlier tape (with_items c nodes tape items)
  items_later [] tape = now_is tape
  items_later (item ∷ items) tape = then_later tape (with_item c nodes tape item) (with_items c nodes (with_item c nodes tape item) items) (item_later tape item) (items_later items (with_item c nodes tape item))

-- ---- what was asked

-- messages that ask a cell about a node
abbrev pub asks_in : List Message → OpId → ℕ → Bool
asks_in [] op node = false
asks_in (m ∷ ms) op node = asks_about op node m.body || asks_in ms op node

-- a message of a node's own: it answers nothing for a cell, and where it asks a cell about a node it is of this operation
abbrev pub OfDead : OpId → Body → Type 0
OfDead op (Dead asking cell about) = asking ≡ op
OfDead op (Unheld asking cell about) = ⊥
OfDead op _ = Unit {0}

pub record Mine (op : OpId) (m : Message) : Type 0 where
  pub from : m.from ≡ op.node.0
  pub of : OfDead op m.body

pub asks_both : (xs ys : List Message) (op : OpId) (node : ℕ) → asks_in xs op node ≡ false → asks_in ys op node ≡ false → asks_in (xs ++ ys) op node ≡ false
asks_both [] ys op node h k = k
asks_both (m ∷ xs) ys op node h k = let parts = or_parts (asks_about op node m.body) (asks_in xs op node) h in
    or_from (asks_about op node m.body) (asks_in (xs ++ ys) op node) parts.0 (asks_both xs ys op node parts.1 k)

pub asks_map : {X : Type 0} (f : X → Message) (op : OpId) (node : ℕ) → ((x : X) → asks_about op node (f x).body ≡ false) → (xs : List X) → asks_in (map f xs) op node ≡ false
asks_map f op node h [] = refl
asks_map f op node h (x ∷ xs) = or_from (asks_about op node (f x).body) (asks_in (map f xs) op node) (h x) (asks_map f op node h xs)

pub mine_map : {X : Type 0} (op : OpId) (f : X → Message) → ((x : X) → Mine op (f x)) → (xs : List X) → Each (Mine op) (map f xs)
mine_map op f h [] = tt
mine_map op f h (x ∷ xs) = (h x, mine_map op f h xs)

-- another operation's messages ask nothing for this one
apart_about : (op x : OpId) (node : ℕ) (body : Body) → same_op op x ≡ false → OfDead op body → asks_about x node body ≡ false
apart_about op x node (Dead asking cell about) apart of = and_left (same_op asking x) (about.0 == node) (ap (λ y. same_op y x) of ∙ apart)
apart_about op x node _ apart of = refl

pub asks_apart : (op x : OpId) (node : ℕ) (ms : List Message) → same_op op x ≡ false → Each (Mine op) ms → asks_in ms x node ≡ false
asks_apart op x node [] apart mine = refl
asks_apart op x node (m ∷ ms) apart mine = or_from (asks_about x node m.body) (asks_in ms x node) (apart_about op x node m.body apart (mine.0).of) (asks_apart op x node ms apart mine.1)

pub asked_sent : (n : ℕ) (ms : List Message) (tape : List Item) (op : OpId) (node : ℕ) → asks_in ms op node ≡ false → has_asked_about tape op node ≡ false → has_asked_about (sent n ms tape) op node ≡ false
asked_sent n [] tape op node h k = k
asked_sent n (m ∷ ms) tape op node h k = let parts = or_parts (asks_about op node m.body) (asks_in ms op node) h in
    asked_sent (n + 1) ms (Sent n m ∷ tape) op node parts.1 (or_from (asks_about op node m.body) (has_asked_about tape op node) parts.0 k)

silent_asked : (tape : List Item) (item : Item) (op : OpId) (node : ℕ) → IsSilent item → has_asked_about (item ∷ tape) op node ≡ has_asked_about tape op node
silent_asked tape (Sent key m) op node h = absurd h
silent_asked tape _ op node h = refl

module _ (c : Cluster) (nodes : ℕ → Node) where
  item_asked : (tape : List Item) (item : Item) (op : OpId) (node : ℕ) → IsSilent item → has_asked_about (with_item c nodes tape item) op node ≡ has_asked_about tape op node
  item_asked tape item op node silent = by (breaks c nodes item && not (is_unsafe tape))
    where
      by : (t : Bool) → has_asked_about (cond t (Unsafe ∷ item ∷ tape) (item ∷ tape)) op node ≡ has_asked_about tape op node
      by true = silent_asked tape item op node silent
      by false = silent_asked tape item op node silent

  pub items_asked : (items tape : List Item) (op : OpId) (node : ℕ) → Each IsSilent items → has_asked_about (with_items c nodes tape items) op node ≡ has_asked_about tape op node
  items_asked [] tape op node silent = refl
  items_asked (item ∷ items) tape op node silent = items_asked items (with_item c nodes tape item) op node silent.1 ∙ item_asked tape item op node silent.0

-- ---- nodes in lists

has_append : (node : ℕ) (a b : List ℕ) → has node (a ++ b) ≡ false → (has node a ≡ false) × (has node b ≡ false)
has_append node [] b h = (refl, h)
has_append node (x ∷ a) b h =
    let parts = or_parts (x == node) (has node (a ++ b)) h in
    let rest = has_append node a b parts.1 in
    (or_from (x == node) (has node a) parts.0 rest.0, rest.1)

apart_of : (node x : ℕ) (a : List ℕ) → has node a ≡ false → has x a ≡ true → (x == node) ≡ false
apart_of node x a h k = by (x == node) refl
  where
    by : (t : Bool) → (x == node) ≡ t → t ≡ false
    by false e = refl
    by true e = absurd (let clashing = sym k ∙ ap (λ y. has y a) (number_is x node e) ∙ h in cc)

without_has : (node : ℕ) (a b : List ℕ) → has node a ≡ false → has node (without a b) ≡ false → has node b ≡ false
without_has node a [] h k = refl
without_has node a (x ∷ b) h k = by (has x a) refl (without_has node a b h) k
  where
    by : (t : Bool) → has x a ≡ t → (has node (without a b) ≡ false → has node b ≡ false) → has node (cond (not t) (x ∷ without a b) (without a b)) ≡ false → ((x == node) || has node b) ≡ false
    by true e rest k = or_from (x == node) (has node b) (apart_of node x a h e) (rest k)
    by false e rest k = let parts = or_parts (x == node) (has node (without a b)) k in or_from (x == node) (has node b) parts.0 (rest parts.1)

pub joined_has : (node : ℕ) (a b : List ℕ) → has node (joined a b) ≡ false → (has node a ≡ false) × (has node b ≡ false)
joined_has node a b h = let parts = has_append node a (without a b) h in (parts.0, without_has node a b parts.0 parts.1)
