-- As a tape goes on without a begin, what stood before an operation began stays the same.
use Rattle.std.proofs.Common.{◌≡◌, inr, ℕ, ◌+◌, ◌&&◌, Bool, true, false, not, cond, List, [], ◌∷◌, flat_map, Option, refl, ap, ◌∙◌}
use Rattle.mega_base.specs.declared.names.OpId.{OpId}
use Rattle.mega_cluster.specs.declared.cluster.Cluster.{Cluster}
use Rattle.mega_wire.specs.declared.message.Message.{Message}
use Rattle.mega_outcome.specs.declared.request.Request.{Request}
use Rattle.mega_leased_laws.specs.of_settled_laws.of_run_laws.of_tape_laws.of_promises.of_transcript.declared.item.Item.{Item}
use Rattle.mega_leased_laws.specs.of_settled_laws.of_run_laws.of_tape_laws.of_promises.of_transcript.declared.item.Item.TheVariants.{Begin, Counts as CountsItem, Lapse as LapseItem, Sent, Unsafe}
use Rattle.mega_wal.specs.Same.{same_op}
use Rattle.mega_leased_laws.specs.of_settled_laws.of_run_laws.of_tape_laws.of_promises.Items.{shown}
use Rattle.mega_leased_laws.specs.of_settled_laws.of_run_laws.of_tape_laws.of_promises.Messages.{is_unsafe}
use Rattle.mega_leased_laws.specs.of_settled_laws.of_run_laws.of_tape_laws.of_promises.Promises.{asked_for}
use Rattle.mega_leased_laws.specs.of_settled_laws.of_run_laws.of_tape_laws.of_promises.Runs.{breaks, with_item, with_items}
use Rattle.mega_leased_laws.specs.of_settled_laws.of_run_laws.of_tape_laws.of_promises.of_rules.Met.{Met, Begins, Sends, Takes}
use Rattle.mega_leased_laws.specs.of_settled_laws.of_run_laws.of_tape_laws.of_promises.of_rules.Operations.{Node}
use Rattle.mega_leased_laws.specs.of_settled_laws.of_run_laws.Justified.{Each, sent}
use Rattle.mega_leased_laws.proofs.of_settled_laws.of_run_laws.Sending.{Stood}
use Rattle.mega_leased_laws.proofs.of_settled_laws.of_run_laws.Events.{each_append as each_both}
use Rattle.mega_fresh_laws.specs.Covering.{before_begin}

abbrev pub NoBegin : Item → Type 0
NoBegin (Begin op text) = ⊥
NoBegin _ = Unit {0}

-- what a longer tape keeps of another one, for an operation
pub record Onward (op : OpId) (old new : List Item) : Type 0 where
  pub stood : Stood old new
  pub same : before_begin new op ≡ before_begin old op
  pub safe : is_unsafe new ≡ false → is_unsafe old ≡ false
  pub asked : (meaning : List ℕ → Option Request) → asked_for meaning new op ≡ asked_for meaning old op

pub onward_same : (op : OpId) (tape : List Item) → Onward op tape tape
onward_same op tape = record { stood = λ item s. s; same = refl; safe = λ h. h; asked = λ meaning. refl }

pub onward_then : (op : OpId) (one two three : List Item) → Onward op one two → Onward op two three → Onward op one three
onward_then op one two three a b = record {
  stood = λ item s. b.stood item (a.stood item s);
  same = b.same ∙ a.same;
  safe = λ h. a.safe (b.safe h);
  asked = λ meaning. b.asked meaning ∙ a.asked meaning;
}

pub onward_item : (op : OpId) (tape : List Item) (item : Item) → NoBegin item → Onward op tape (item ∷ tape)
onward_item op tape item none = record { stood = λ x s. inr s; same = same_by item none; safe = safe_by item; asked = λ meaning. asked_by meaning item none }
  where
    same_by : (x : Item) → NoBegin x → before_begin (x ∷ tape) op ≡ before_begin tape op
    same_by (Begin began text) nothing = absurd nothing
    same_by _ nothing = refl

    safe_by : (x : Item) → is_unsafe (x ∷ tape) ≡ false → is_unsafe tape ≡ false
    safe_by Unsafe h = cc
    safe_by _ h = h

    asked_by : (meaning : List ℕ → Option Request) (x : Item) → NoBegin x → asked_for meaning (x ∷ tape) op ≡ asked_for meaning tape op
    asked_by meaning (Begin began text) nothing = absurd nothing
    asked_by meaning _ nothing = refl

-- another operation begins
pub onward_begin : (op began : OpId) (text : List ℕ) (tape : List Item) → same_op began op ≡ false → Onward op tape (Begin began text ∷ tape)
onward_begin op began text tape apart = record {
  stood = λ x s. inr s;
  same = ap (λ t. cond t tape (before_begin tape op)) apart;
  safe = λ h. h;
  asked = λ meaning. ap (λ t. cond t (meaning text) (asked_for meaning tape op)) apart;
}

module _ (op : OpId) (c : Cluster) (nodes : ℕ → Node) where
  onward_with : (tape : List Item) (item : Item) → NoBegin item → Onward op tape (with_item c nodes tape item)
  onward_with tape item none = by (breaks c nodes item && not (is_unsafe tape))
    where
      by : (t : Bool) → Onward op tape (cond t (Unsafe ∷ item ∷ tape) (item ∷ tape))
      by true = onward_then op tape (item ∷ tape) (Unsafe ∷ item ∷ tape) (onward_item op tape item none) (onward_item op (item ∷ tape) Unsafe tt)
      by false = onward_item op tape item none

  pub onward_items : (items tape : List Item) → Each NoBegin items → Onward op tape (with_items c nodes tape items)
  onward_items [] tape h = onward_same op tape
  onward_items (item ∷ items) tape h = onward_then op tape (with_item c nodes tape item) (with_items c nodes (with_item c nodes tape item) items) (onward_with tape item h.0) (onward_items items (with_item c nodes tape item) h.1)

pub onward_sent : (op : OpId) (n : ℕ) (ms : List Message) (tape : List Item) → Onward op tape (sent n ms tape)
onward_sent op n [] tape = onward_same op tape
onward_sent op n (m ∷ ms) tape = onward_then op tape (Sent n m ∷ tape) (sent (n + 1) ms (Sent n m ∷ tape)) (onward_item op tape (Sent n m) tt) (onward_sent op (n + 1) ms (Sent n m ∷ tape))

-- notes that begin nothing
abbrev pub IsLater : Met → Type 0
IsLater (Begins op text) = ⊥
IsLater _ = Unit {0}

pub later_shown : (me : ℕ) (notes : List Met) → Each IsLater notes → Each NoBegin (flat_map (shown me) notes)
later_shown me [] h = tt
later_shown me (note ∷ notes) h = each_both NoBegin (shown me note) (flat_map (shown me) notes) (one note h.0) (later_shown me notes h.1)
  where
    one : (x : Met) → IsLater x → Each NoBegin (shown me x)
    one (Begins op text) k = absurd k
    one (Takes m) k = tt
    one (Sends m) k = tt
    one _ k = (tt, tt)

-- items by which leases do not become unsafe
abbrev pub IsCalm : Item → Type 0
IsCalm (LapseItem cell node epoch) = ⊥
IsCalm (CountsItem node cell epoch) = ⊥
IsCalm Unsafe = ⊥
IsCalm _ = Unit {0}

pub calm_items : (c : Cluster) (nodes : ℕ → Node) (items tape : List Item) → Each IsCalm items → is_unsafe (with_items c nodes tape items) ≡ is_unsafe tape
calm_items c nodes [] tape h = refl
calm_items c nodes (item ∷ items) tape h = calm_items c nodes items (with_item c nodes tape item) h.1 ∙ one item h.0
  where
    one : (x : Item) → IsCalm x → is_unsafe (with_item c nodes tape x) ≡ is_unsafe tape
    one (LapseItem cell node epoch) k = absurd k
    one (CountsItem node cell epoch) k = absurd k
    one Unsafe k = absurd k
    one _ k = refl
