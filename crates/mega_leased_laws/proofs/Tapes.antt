-- What holds of each item of a tape, as items and messages come onto it.
use Rattle.std.proofs.Common.{ℕ, ◌+◌, ◌&&◌, Bool, true, false, not, cond, List, [], ◌∷◌, ◌++◌, flat_map}
use Rattle.std.specs.List.{All}
use Rattle.std.proofs.lemmas.List.Elements.{All-head, All-tail}
use Rattle.mega_cluster.specs.declared.cluster.Cluster.{Cluster}
use Rattle.mega_wire.specs.declared.message.Message.{Message}
use Rattle.mega_lease_laws.specs.of_run_laws.of_tape_laws.of_promises.of_transcript.declared.item.Item.{Item}
use Rattle.mega_lease_laws.specs.of_run_laws.of_tape_laws.of_promises.of_transcript.declared.item.Item.TheVariants.{Sent, Unsafe}
use Rattle.mega_lease_laws.specs.of_run_laws.of_tape_laws.of_promises.Items.{shown}
use Rattle.mega_lease_laws.specs.of_run_laws.of_tape_laws.of_promises.Messages.{is_unsafe}
use Rattle.mega_lease_laws.specs.of_run_laws.of_tape_laws.of_promises.Runs.{breaks, with_item, with_items}
use Rattle.mega_lease_laws.specs.of_run_laws.of_tape_laws.of_promises.of_rules.Met.{Met}
use Rattle.mega_lease_laws.specs.of_run_laws.of_tape_laws.of_promises.of_rules.Operations.{Node}
use Rattle.mega_lease_laws.specs.of_run_laws.Justified.{Each, sent}
use Rattle.mega_lease_laws.proofs.of_run_laws.Events.{each_append as each_both}
use Rattle.mega_leased_laws.specs.Items.{Are}

pub each_all : {X : Type 0} (P Q : X → Type 0) → ((x : X) → P x → Q x) → (xs : List X) → All P xs → Each Q xs
each_all P Q f [] h = tt
each_all P Q f (x ∷ xs) h = (f x (All-head P x xs h), each_all P Q f xs (All-tail P x xs h))

module _ (P : List Item → Item → Type 0) (unsafe : (t : List Item) → P t Unsafe) (c : Cluster) (nodes : ℕ → Node) where
  -- each item is allowed as it comes
  abbrev pub Follows : List Item → List Item → Type 0
  Follows t [] = Unit {0}
  Follows t (item ∷ items) = P t item × Follows (with_item c nodes t item) items

  are_item : (t : List Item) (item : Item) → P t item → Are P t → Are P (with_item c nodes t item)
  are_item t item p h = by (breaks c nodes item && not (is_unsafe t))
    where
      by : (b : Bool) → Are P (cond b (Unsafe ∷ item ∷ t) (item ∷ t))
      by true = (unsafe (item ∷ t), (p, h))
      by false = (p, h)

  pub are_items : (items t : List Item) → Follows t items → Are P t → Are P (with_items c nodes t items)
  are_items [] t f h = h
  are_items (item ∷ items) t f h = are_items items (with_item c nodes t item) f.1 (are_item t item f.0 h)

  -- one that is always allowed
  abbrev pub IsFree : Item → Type 0
  IsFree item = (t : List Item) → P t item

  pub free_follows : (items t : List Item) → Each IsFree items → Follows t items
  free_follows [] t h = tt
  free_follows (item ∷ items) t h = (h.0 t, free_follows items (with_item c nodes t item) h.1)

  pub both_follow : (xs ys t : List Item) → Follows t xs → Follows (with_items c nodes t xs) ys → Follows t (xs ++ ys)
  both_follow [] ys t f g = g
  both_follow (x ∷ xs) ys t f g = (f.0, both_follow xs ys (with_item c nodes t x) f.1 g)

  pub free_notes : (me : ℕ) (notes : List Met) → Each (λ one. Each IsFree (shown me one)) notes → Each IsFree (flat_map (shown me) notes)
  free_notes me [] h = tt
  free_notes me (one ∷ notes) h = each_both IsFree (shown me one) (flat_map (shown me) notes) h.0 (free_notes me notes h.1)

-- messages, where each is allowed as long as only messages come
module _ (P : List Item → Item → Type 0) (R : Message → List Item → Type 0) (allows : (m : Message) (t : List Item) (k : ℕ) → R m t → P t (Sent k m)) (keeps : (m q : Message) (t : List Item) (k : ℕ) → R m t → R m (Sent k q ∷ t)) where
  still_allowed : (q : Message) (t : List Item) (k : ℕ) (ms : List Message) → Each (λ m. R m t) ms → Each (λ m. R m (Sent k q ∷ t)) ms
  still_allowed q t k [] h = tt
  still_allowed q t k (m ∷ ms) h = (keeps m q t k h.0, still_allowed q t k ms h.1)

  pub are_sent : (k : ℕ) (ms : List Message) (t : List Item) → Each (λ m. R m t) ms → Are P t → Are P (sent k ms t)
  are_sent k [] t h a = a
  are_sent k (m ∷ ms) t h a = are_sent (k + 1) ms (Sent k m ∷ t) (still_allowed m t k ms h.1) (allows m t k h.0, a)
