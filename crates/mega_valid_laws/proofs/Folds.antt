-- What a tape shows of a node, item by item, is what the node met, note by note.
use Rattle.std.proofs.Common.{◌≡◌, ℕ, ◌+◌, ◌==◌, ◌&&◌, Bool, true, false, not, cond, List, [], ◌∷◌, flat_map, map, Option, refl, ap, ◌∙◌}
use Rattle.mega_base.specs.declared.names.Epoch.{Epoch}
use Rattle.mega_base.specs.declared.names.GroupId.{GroupId}
use Rattle.mega_cluster.specs.declared.cluster.Cluster.{Cluster}
use Rattle.mega_wal.specs.Same.{same_group}
use Rattle.mega_wire.specs.declared.message.Message.{Message}
use Rattle.mega_settled_laws.specs.of_tape_laws.of_promises.of_transcript.declared.item.Item.{Item}
use Rattle.mega_settled_laws.specs.of_tape_laws.of_promises.of_transcript.declared.item.Item.TheVariants.{Answer, Apply, Begin, Counts as CountsItem, Crash, Cut as CutItem, Decide, Dropped, Forgets as ForgetsItem, Grant, Invalid, Lapse, Lost, Sent, Serving, Start, Taken, Tick, Unsafe, Unsent, Valid}
use Rattle.mega_settled_laws.specs.of_tape_laws.of_promises.Items.{number, shown}
use Rattle.mega_settled_laws.specs.of_tape_laws.of_promises.Messages.{is_unsafe}
use Rattle.mega_settled_laws.specs.of_tape_laws.of_promises.Runs.{breaks, with_item, with_items}
use Rattle.mega_settled_laws.specs.of_tape_laws.of_promises.of_rules.Met.{Met, Starts, Crashes, Ticks, Begins, Takes, Sends, Unsends, Grants, Lapses, Counts, Forgets, Serves, Loses, Validates, Invalidates, Decides, Applies, Answers}
use Rattle.mega_settled_laws.specs.of_tape_laws.of_promises.of_rules.Operations.{Node}
use Rattle.mega_settled_laws.specs.of_tape_laws.of_promises.of_rules.Steps.{onto}
use Rattle.mega_settled_laws.specs.of_run_laws.Justified.{sent}
use Rattle.mega_settled_laws.proofs.of_run_laws.Noted.{with_append}
use Rattle.mega_valid_laws.specs.Leases.{serving_on, valid_on}
use Rattle.mega_valid_laws.specs.Showing.{next_serving, next_valid, serving_met, valid_met}

-- the same on both sides of a test
pub same_if : {X : Type 0} (t : Bool) (x : X) → x ≡ cond t x x
same_if true x = refl
same_if false x = refl

pub cond_as : {X : Type 0} (t u : Bool) (one rest : X) → cond (t && u) one rest ≡ cond t (cond u one rest) rest
cond_as true u one rest = refl
cond_as false u one rest = refl

-- an item of an event, and its note
abbrev pub IsOwn : Item → Type 0
IsOwn (Taken j) = Unit {0}
IsOwn (Dropped j) = Unit {0}
IsOwn CutItem = Unit {0}
IsOwn (Tick node now) = Unit {0}
IsOwn (Begin op text) = Unit {0}
IsOwn _ = ⊥

abbrev pub IsOwnNote : Met → Type 0
IsOwnNote (Takes message) = Unit {0}
IsOwnNote (Ticks now) = Unit {0}
IsOwnNote (Begins op text) = Unit {0}
IsOwnNote _ = ⊥

-- something that a tape tells of a node, and what each note makes of it
pub record TapeFold (X : Type 0) (on : List Item → ℕ → X) (next : Met → X → X) : Type 0 where
  pub unsafe : (tape : List Item) (v : ℕ) → on (Unsafe ∷ tape) v ≡ on tape v
  pub sends : (k : ℕ) (m : Message) (tape : List Item) (v : ℕ) → on (Sent k m ∷ tape) v ≡ on tape v
  pub one : (c : Cluster) (nodes : ℕ → Node) (me v : ℕ) (note : Met) (tape : List Item) → on (with_items c nodes tape (shown me note)) v ≡ cond (me == v) (next note (on tape v)) (on tape v)
  pub sent_met : (m : Message) (x : X) → next (Sends m) x ≡ x
  pub own : (item : Item) → IsOwn item → (tape : List Item) (v : ℕ) → on (item ∷ tape) v ≡ on tape v
  pub own_note : (one : Met) → IsOwnNote one → (x : X) → next one x ≡ x

pub with_told : {X : Type 0} (on : List Item → X) → ((tape : List Item) → on (Unsafe ∷ tape) ≡ on tape) → (c : Cluster) (nodes : ℕ → Node) (tape : List Item) (item : Item) → on (with_item c nodes tape item) ≡ on (item ∷ tape)
with_told on unsafe c nodes tape item = by (breaks c nodes item && not (is_unsafe tape))
  where
    by : (t : Bool) → on (cond t (Unsafe ∷ item ∷ tape) (item ∷ tape)) ≡ on (item ∷ tape)
    by true = unsafe (item ∷ tape)
    by false = refl

serving_told : (v : ℕ) (c : Cluster) (nodes : ℕ → Node) (tape : List Item) (item : Item) → serving_on (with_item c nodes tape item) v ≡ serving_on (item ∷ tape) v
serving_told v c nodes tape item = with_told (λ t. serving_on t v) (λ t. refl) c nodes tape item

serving_one : (c : Cluster) (nodes : ℕ → Node) (me v : ℕ) (note : Met) (tape : List Item) → serving_on (with_items c nodes tape (shown me note)) v ≡ cond (me == v) (next_serving note (serving_on tape v)) (serving_on tape v)
serving_one c nodes me v (Starts start) tape = serving_told v c nodes tape (Start (number me) start)
serving_one c nodes me v Crashes tape = serving_told v c nodes tape (Crash (number me))
serving_one c nodes me v (Ticks now) tape = serving_told v c nodes tape (Tick (number me) now) ∙ same_if (me == v) (serving_on tape v)
serving_one c nodes me v (Begins op text) tape = serving_told v c nodes tape (Begin op text) ∙ same_if (me == v) (serving_on tape v)
serving_one c nodes me v (Takes message) tape = same_if (me == v) (serving_on tape v)
serving_one c nodes me v (Sends message) tape = same_if (me == v) (serving_on tape v)
serving_one c nodes me v (Unsends message) tape = serving_told v c nodes tape (Unsent (number me) message) ∙ same_if (me == v) (serving_on tape v)
serving_one c nodes me v (Grants node epoch) tape = serving_told v c nodes tape (Grant me (number node) epoch) ∙ same_if (me == v) (serving_on tape v)
serving_one c nodes me v (Lapses node epoch) tape = serving_told v c nodes tape (Lapse me (number node) epoch) ∙ same_if (me == v) (serving_on tape v)
serving_one c nodes me v (Counts cell epoch) tape = serving_told v c nodes tape (CountsItem (number me) cell epoch) ∙ same_if (me == v) (serving_on tape v)
serving_one c nodes me v (Forgets cell epoch) tape = serving_told v c nodes tape (ForgetsItem (number me) cell epoch) ∙ same_if (me == v) (serving_on tape v)
serving_one c nodes me v (Serves epoch) tape = serving_told v c nodes tape (Serving (number me) epoch)
serving_one c nodes me v (Loses epoch) tape = serving_told v c nodes tape (Lost (number me) epoch)
serving_one c nodes me v (Validates group position) tape = serving_told v c nodes tape (Valid (number me) group (record { 0 = position })) ∙ same_if (me == v) (serving_on tape v)
serving_one c nodes me v (Invalidates group position) tape = serving_told v c nodes tape (Invalid (number me) group (record { 0 = position })) ∙ same_if (me == v) (serving_on tape v)
serving_one c nodes me v (Decides group position entry) tape = serving_told v c nodes tape (Decide (number me) group (record { 0 = position }) entry) ∙ same_if (me == v) (serving_on tape v)
serving_one c nodes me v (Applies group position) tape = serving_told v c nodes tape (Apply (number me) group (record { 0 = position })) ∙ same_if (me == v) (serving_on tape v)
serving_one c nodes me v (Answers op answer) tape = serving_told v c nodes tape (Answer op answer) ∙ same_if (me == v) (serving_on tape v)

serving_own : (item : Item) → IsOwn item → (tape : List Item) (v : ℕ) → serving_on (item ∷ tape) v ≡ serving_on tape v
serving_own (Taken j) is tape v = refl
serving_own (Dropped j) is tape v = refl
serving_own CutItem is tape v = refl
serving_own (Tick node now) is tape v = refl
serving_own (Begin op text) is tape v = refl
serving_own _ is tape v = absurd is

serving_note : (one : Met) → IsOwnNote one → (x : Option Epoch) → next_serving one x ≡ x
serving_note (Takes message) is x = refl
serving_note (Ticks now) is x = refl
serving_note (Begins op text) is x = refl
serving_note _ is x = absurd is

pub tells_serving : TapeFold (Option Epoch) serving_on next_serving
tells_serving = record { unsafe = λ tape v. refl; sends = λ k m tape v. refl; one = serving_one; sent_met = λ m x. refl; own = serving_own; own_note = serving_note }

valid_told : (group : GroupId) (v : ℕ) (c : Cluster) (nodes : ℕ → Node) (tape : List Item) (item : Item) → valid_on (with_item c nodes tape item) v group ≡ valid_on (item ∷ tape) v group
valid_told group v c nodes tape item = with_told (λ t. valid_on t v group) (λ t. refl) c nodes tape item

valid_one : (group : GroupId) (c : Cluster) (nodes : ℕ → Node) (me v : ℕ) (note : Met) (tape : List Item)
    → valid_on (with_items c nodes tape (shown me note)) v group ≡ cond (me == v) (next_valid group note (valid_on tape v group)) (valid_on tape v group)
valid_one group c nodes me v (Starts start) tape = valid_told group v c nodes tape (Start (number me) start)
valid_one group c nodes me v Crashes tape = valid_told group v c nodes tape (Crash (number me))
valid_one group c nodes me v (Ticks now) tape = valid_told group v c nodes tape (Tick (number me) now) ∙ same_if (me == v) (valid_on tape v group)
valid_one group c nodes me v (Begins op text) tape = valid_told group v c nodes tape (Begin op text) ∙ same_if (me == v) (valid_on tape v group)
valid_one group c nodes me v (Takes message) tape = same_if (me == v) (valid_on tape v group)
valid_one group c nodes me v (Sends message) tape = same_if (me == v) (valid_on tape v group)
valid_one group c nodes me v (Unsends message) tape = valid_told group v c nodes tape (Unsent (number me) message) ∙ same_if (me == v) (valid_on tape v group)
valid_one group c nodes me v (Grants node epoch) tape = valid_told group v c nodes tape (Grant me (number node) epoch) ∙ same_if (me == v) (valid_on tape v group)
valid_one group c nodes me v (Lapses node epoch) tape = valid_told group v c nodes tape (Lapse me (number node) epoch) ∙ same_if (me == v) (valid_on tape v group)
valid_one group c nodes me v (Counts cell epoch) tape = valid_told group v c nodes tape (CountsItem (number me) cell epoch) ∙ same_if (me == v) (valid_on tape v group)
valid_one group c nodes me v (Forgets cell epoch) tape = valid_told group v c nodes tape (ForgetsItem (number me) cell epoch) ∙ same_if (me == v) (valid_on tape v group)
valid_one group c nodes me v (Serves epoch) tape = valid_told group v c nodes tape (Serving (number me) epoch) ∙ same_if (me == v) (valid_on tape v group)
valid_one group c nodes me v (Loses epoch) tape = valid_told group v c nodes tape (Lost (number me) epoch)
valid_one group c nodes me v (Validates g position) tape = valid_told group v c nodes tape (Valid (number me) g (record { 0 = position })) ∙ cond_as (me == v) (same_group g group) true (valid_on tape v group)
valid_one group c nodes me v (Invalidates g position) tape = valid_told group v c nodes tape (Invalid (number me) g (record { 0 = position })) ∙ cond_as (me == v) (same_group g group) false (valid_on tape v group)
valid_one group c nodes me v (Decides g position entry) tape = valid_told group v c nodes tape (Decide (number me) g (record { 0 = position }) entry) ∙ same_if (me == v) (valid_on tape v group)
valid_one group c nodes me v (Applies g position) tape = valid_told group v c nodes tape (Apply (number me) g (record { 0 = position })) ∙ same_if (me == v) (valid_on tape v group)
valid_one group c nodes me v (Answers op answer) tape = valid_told group v c nodes tape (Answer op answer) ∙ same_if (me == v) (valid_on tape v group)

valid_own : (group : GroupId) (item : Item) → IsOwn item → (tape : List Item) (v : ℕ) → valid_on (item ∷ tape) v group ≡ valid_on tape v group
valid_own group (Taken j) is tape v = refl
valid_own group (Dropped j) is tape v = refl
valid_own group CutItem is tape v = refl
valid_own group (Tick node now) is tape v = refl
valid_own group (Begin op text) is tape v = refl
valid_own group _ is tape v = absurd is

valid_note : (group : GroupId) (one : Met) → IsOwnNote one → (x : Bool) → next_valid group one x ≡ x
valid_note group (Takes message) is x = refl
valid_note group (Ticks now) is x = refl
valid_note group (Begins op text) is x = refl
valid_note group _ is x = absurd is

pub tells_valid : (group : GroupId) → TapeFold Bool (λ tape v. valid_on tape v group) (next_valid group)
tells_valid group = record { unsafe = λ tape v. refl; sends = λ k m tape v. refl; one = valid_one group; sent_met = λ m x. refl; own = valid_own group; own_note = valid_note group }

-- ---- lists of notes

module _ {X : Type 0} (on : List Item → ℕ → X) (next : Met → X → X) (told : TapeFold X on next) where
  abbrev pub after : List Met → X → X
  after [] x = x
  after (one ∷ more) x = after more (next one x)

  pub notes_told : (c : Cluster) (nodes : ℕ → Node) (me v : ℕ) (notes : List Met) (tape : List Item) → on (with_items c nodes tape (flat_map (shown me) notes)) v ≡ cond (me == v) (after notes (on tape v)) (on tape v)
  notes_told c nodes me v [] tape = same_if (me == v) (on tape v)
  notes_told c nodes me v (one ∷ notes) tape =
      ap (λ t. on t v) (with_append c nodes (shown me one) (flat_map (shown me) notes) tape)
      ∙ notes_told c nodes me v notes (with_items c nodes tape (shown me one))
      ∙ by (me == v) (told.one c nodes me v one tape)
    where
      by : (t : Bool) → on (with_items c nodes tape (shown me one)) v ≡ cond t (next one (on tape v)) (on tape v)
          → cond t (after notes (on (with_items c nodes tape (shown me one)) v)) (on (with_items c nodes tape (shown me one)) v) ≡ cond t (after notes (next one (on tape v))) (on tape v)
      by true e = ap (after notes) e
      by false e = e

  pub sends_told : (k : ℕ) (ms : List Message) (tape : List Item) (v : ℕ) → on (sent k ms tape) v ≡ on tape v
  sends_told k [] tape v = refl
  sends_told k (m ∷ ms) tape v = sends_told (k + 1) ms (Sent k m ∷ tape) v ∙ told.sends k m tape v

  pub sends_after : (ms : List Message) (x : X) → after (map Sends ms) x ≡ x
  sends_after [] x = refl
  sends_after (m ∷ ms) x = ap (after (map Sends ms)) (told.sent_met m x) ∙ sends_after ms x

-- what was met, note by note
abbrev pub after_serving : List Met → Option Epoch → Option Epoch
after_serving [] x = x
after_serving (one ∷ more) x = after_serving more (next_serving one x)

abbrev pub after_valid : GroupId → List Met → Bool → Bool
after_valid group [] x = x
after_valid group (one ∷ more) x = after_valid group more (next_valid group one x)

pub onto_serving : (notes met : List Met) → serving_met (onto notes met) ≡ after_serving notes (serving_met met)
onto_serving [] met = refl
onto_serving (one ∷ notes) met = onto_serving notes (one ∷ met)

pub onto_valid : (group : GroupId) (notes met : List Met) → valid_met (onto notes met) group ≡ after_valid group notes (valid_met met group)
onto_valid group [] met = refl
onto_valid group (one ∷ notes) met = onto_valid group notes (one ∷ met)
