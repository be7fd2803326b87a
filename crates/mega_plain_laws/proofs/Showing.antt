-- What comes onto a tape, item by item.
use Rattle.std.proofs.Common.{◌≡◌, inl, inr, ℕ, ◌+◌, ◌==◌, ◌&&◌, Bool, true, false, not, cond, List, [], ◌∷◌, flat_map, Some, subst}
use Rattle.mega_cluster.specs.declared.cluster.Cluster.{Cluster}
use Rattle.mega_wire.specs.declared.message.Message.{Message}
use Rattle.mega_wire.specs.Messages.{IsMessage}
use Rattle.mega_transcript.specs.declared.item.Item.{Item}
use Rattle.mega_transcript.specs.declared.item.Item.TheVariants.{Sent, Unsafe}
use Rattle.mega_rules.specs.Met.{Met, Starts, Crashes, Ticks, Begins, Takes, Sends, Unsends, Grants, Lapses, Counts, Forgets, Serves, Loses, Validates, Invalidates, Decides, Applies, Answers}
use Rattle.mega_rules.specs.Operations.{Node}
use Rattle.mega_promises.specs.Items.{numbered, shown}
use Rattle.mega_promises.specs.Messages.{is_unsafe, message_of}
use Rattle.mega_promises.specs.Promises.{Stands}
use Rattle.mega_promises.specs.Runs.{breaks, with_item, with_items}
use Rattle.mega_format_laws.specs.Histories.{IsItem}
use Rattle.mega_format_laws.specs.Rounds.{AreMessages, Each}
use Rattle.mega_format_laws.proofs.Each.{each_both, either}
use Rattle.mega_schema.specs.declared.schema.Schema.{Schema}
use Rattle.mega_plain_laws.specs.Answers.{IsFit}
use Rattle.mega_plain_laws.specs.Formed.{IsSpelled}

-- ---- items come onto a tape

pub with_each : (P : Item → Type 0) → P Unsafe → (c : Cluster) (node : ℕ → Node) (tape items : List Item) → Each P tape → Each P items → Each P (with_items c node tape items)
with_each P u c node tape [] t e = t
with_each P u c node tape (item ∷ items) t e =
    with_each P u c node (with_item c node tape item) items
    (either (Each P) (breaks c node item && not (is_unsafe tape)) (Unsafe ∷ item ∷ tape) (item ∷ tape) (u, (e.0, t)) (e.0, t)) e.1

one_back : (P : Item → Type 0) (t : Bool) (item : Item) (tape : List Item) → Each P (cond t (Unsafe ∷ item ∷ tape) (item ∷ tape)) → P item × Each P tape
one_back P true item tape h = h.1
one_back P false item tape h = h

pub with_back : (P : Item → Type 0) (c : Cluster) (node : ℕ → Node) (tape items : List Item) → Each P (with_items c node tape items) → Each P tape
with_back P c node tape [] h = h
with_back P c node tape (item ∷ items) h =
    (one_back P (breaks c node item && not (is_unsafe tape)) item tape (with_back P c node (with_item c node tape item) items h)).1

pub with_first : (P : Item → Type 0) (c : Cluster) (node : ℕ → Node) (tape : List Item) (item : Item) (items : List Item) → Each P (with_items c node tape (item ∷ items)) → P item
with_first P c node tape item items h =
    (one_back P (breaks c node item && not (is_unsafe tape)) item tape (with_back P c node (with_item c node tape item) items h)).0

pub each_stands : (P : Item → Type 0) (item : Item) (tape : List Item) → Each P tape → Stands item tape → P item
each_stands P item [] e s = absurd s
each_stands P item (other ∷ before) e (inl same) = subst P same e.0
each_stands P item (other ∷ before) e (inr earlier) = each_stands P item before e.1 earlier

pub each_pair : {X : Type 0} (P Q : X → Type 0) (xs : List X) → Each P xs → Each Q xs → Each (λ x. P x × Q x) xs
each_pair P Q [] p q = tt
each_pair P Q (x ∷ xs) p q = ((p.0, q.0), each_pair P Q xs p.1 q.1)

-- ---- what a node notes and sends

-- a note that is no beginning and no answer
abbrev pub IsStill : Met → Type 0
IsStill (Begins op text) = ⊥
IsStill (Answers op answer) = ⊥
IsStill _ = Unit {0}

-- a note that is no beginning, and whose answer fits
abbrev pub IsSaid : Schema → Met → Type 0
IsSaid k (Begins op text) = ⊥
IsSaid k (Answers op answer) = IsFit k answer
IsSaid k _ = Unit {0}

-- and is of the format
abbrev pub IsNote : Schema → Met → Type 0
IsNote k one = IsItem one × IsSaid k one

pub shown_spelled : (k : Schema) (me : ℕ) (one : Met) → IsNote k one → Each (IsSpelled k) (shown me one)
shown_spelled k me (Starts start) is = (tt, tt)
shown_spelled k me Crashes is = (tt, tt)
shown_spelled k me (Ticks now) is = (tt, tt)
shown_spelled k me (Begins op text) is = absurd is.1
shown_spelled k me (Takes message) is = tt
shown_spelled k me (Sends message) is = tt
shown_spelled k me (Unsends message) is = (is.0, tt)
shown_spelled k me (Grants node epoch) is = (tt, tt)
shown_spelled k me (Lapses node epoch) is = (tt, tt)
shown_spelled k me (Counts cell epoch) is = (tt, tt)
shown_spelled k me (Forgets cell epoch) is = (tt, tt)
shown_spelled k me (Serves epoch) is = (tt, tt)
shown_spelled k me (Loses epoch) is = (tt, tt)
shown_spelled k me (Validates group position) is = (tt, tt)
shown_spelled k me (Invalidates group position) is = (tt, tt)
shown_spelled k me (Decides group position entry) is = ((is.0).1.1.0, tt)
shown_spelled k me (Applies group position) is = (tt, tt)
shown_spelled k me (Answers op answer) is = (is.1, tt)

pub notes_spelled : (k : Schema) (me : ℕ) (notes : List Met) → Each (IsNote k) notes → Each (IsSpelled k) (flat_map (shown me) notes)
notes_spelled k me [] e = tt
notes_spelled k me (one ∷ notes) e = each_both (IsSpelled k) (shown me one) (flat_map (shown me) notes) (shown_spelled k me one e.0) (notes_spelled k me notes e.1)

pub sends_spelled : (k : Schema) (n : ℕ) (ms : List Message) → AreMessages ms → Each (IsSpelled k) (numbered n ms)
sends_spelled k n [] e = tt
sends_spelled k n (m ∷ ms) e = (e.0, sends_spelled k (n + 1) ms e.1)

-- a message that was sent is of the format
some_same : {X : Type 0} (P : X → Type 0) (x y : X) → Some x ≡ Some y → P x → P y
some_same P x y same p = let is : x ≡ y = cc in subst P is p

pub message_formed : (k : Schema) (tape : List Item) (n : ℕ) (m : Message) → Each (IsSpelled k) tape → message_of tape n ≡ Some m → IsMessage m
message_formed k [] n m e is = cc
message_formed k (Sent number one ∷ before) n m e is = by (number == n) is (message_formed k before n m e.1)
  where
    by : (t : Bool) → cond t (Some one) (message_of before n) ≡ Some m → (message_of before n ≡ Some m → IsMessage m) → IsMessage m
    by true same again = some_same IsMessage one m same e.0
    by false same again = again same
message_formed k (_ ∷ before) n m e is = message_formed k before n m e.1 is
