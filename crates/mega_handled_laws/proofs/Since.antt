-- What came onto a tape since a moment, and what holds of each message that was sent since by what stood before.
use Rattle.std.proofs.Common.{◌≡◌, ℕ, ◌+◌, ◌&&◌, Bool, true, false, not, cond, List, [], ◌∷◌, ◌++◌, refl, ap, ◌∙◌, subst}
use Rattle.mega_cluster.specs.declared.cluster.Cluster.{Cluster}
use Rattle.mega_wire.specs.declared.message.Message.{Message}
use Rattle.mega_run_laws.specs.of_transcript.declared.item.Item.{Item}
use Rattle.mega_run_laws.specs.of_transcript.declared.item.Item.TheVariants.{Sent, Unsafe}
use Rattle.mega_run_laws.specs.of_promises.Messages.{is_unsafe}
use Rattle.mega_run_laws.specs.of_promises.Runs.{breaks, with_item, with_items}
use Rattle.mega_run_laws.specs.of_rules.Operations.{Node}
use Rattle.mega_run_laws.specs.Justified.{Each, sent}
use Rattle.mega_run_laws.proofs.Shown.{IsSilent}

-- a moment of a tape, and a later one
pub record Later (old new : List Item) : Type 0 where
  pub piece : List Item
  pub is : new ≡ piece ++ old

pub regroup : (a b d : List Item) → a ++ (b ++ d) ≡ (a ++ b) ++ d
regroup [] b d = refl
regroup (x ∷ a) b d = ap (λ xs. x ∷ xs) (regroup a b d)

pub later_self : (tape : List Item) → Later tape tape
later_self tape = record { piece = []; is = refl }

pub later_one : (old new : List Item) (item : Item) → Later old new → Later old (item ∷ new)
later_one old new item l = record { piece = item ∷ l.piece; is = ap (λ t. item ∷ t) l.is }

pub later_then : (a b d : List Item) → Later a b → Later b d → Later a d
later_then a b d first next = record { piece = next.piece ++ first.piece; is = next.is ∙ ap (λ t. next.piece ++ t) first.is ∙ regroup next.piece first.piece a }

-- what holds of a message that is sent; of other items nothing is asked
abbrev pub Holds : (List Item → Message → Type 0) → List Item → Item → Type 0
Holds P before (Sent k m) = P before m
Holds P before _ = Unit {0}

abbrev pub Over : (List Item → Message → Type 0) → List Item → List Item → Type 0
Over P old [] = Unit {0}
Over P old (item ∷ piece) = Holds P (piece ++ old) item × Over P old piece

pub record Since (P : List Item → Message → Type 0) (old new : List Item) : Type 0 where
  pub piece : List Item
  pub is : new ≡ piece ++ old
  pub over : Over P old piece

module _ (P : List Item → Message → Type 0) where
  pub since_none : (tape : List Item) → Since P tape tape
  since_none tape = record { piece = []; is = refl; over = tt }

  pub since_more : (old tape : List Item) (item : Item) → Since P old tape → Holds P tape item → Since P old (item ∷ tape)
  since_more old tape item s h = record { piece = item ∷ s.piece; is = ap (λ t. item ∷ t) s.is; over = (subst (λ t. Holds P t item) s.is h, s.over) }

  over_both : (old mid front back : List Item) → mid ≡ back ++ old → Over P mid front → Over P old back → Over P old (front ++ back)
  over_both old mid [] back is h k = k
  over_both old mid (item ∷ front) back is h k = (subst (λ t. Holds P t item) (ap (λ t. front ++ t) is ∙ regroup front back old) h.0, over_both old mid front back is h.1 k)

  pub since_then : (a b d : List Item) → Since P a b → Since P b d → Since P a d
  since_then a b d s t = record { piece = t.piece ++ s.piece; is = t.is ∙ ap (λ r. t.piece ++ r) s.is ∙ regroup t.piece s.piece a; over = over_both a b t.piece s.piece s.is t.over s.over }

  -- ---- what sends nothing

  pub silent_holds : (tape : List Item) (item : Item) → IsSilent item → Holds P tape item
  silent_holds tape (Sent k m) h = absurd h
  silent_holds tape _ h = tt

  since_item : (c : Cluster) (nodes : ℕ → Node) (tape : List Item) (item : Item) → IsSilent item → Since P tape (with_item c nodes tape item)
  since_item c nodes tape item h = by (breaks c nodes item && not (is_unsafe tape))
    where
      one : Since P tape (item ∷ tape)
      one = since_more tape tape item (since_none tape) (silent_holds tape item h)

      by : (t : Bool) → Since P tape (cond t (Unsafe ∷ item ∷ tape) (item ∷ tape))
      by true = since_more tape (item ∷ tape) Unsafe one tt
      by false = one

  pub since_items : (c : Cluster) (nodes : ℕ → Node) (items tape : List Item) → Each IsSilent items → Since P tape (with_items c nodes tape items)
  since_items c nodes [] tape h = since_none tape
  since_items c nodes (item ∷ items) tape h = since_then tape (with_item c nodes tape item) (with_items c nodes (with_item c nodes tape item) items)
      (since_item c nodes tape item h.0) (since_items c nodes items (with_item c nodes tape item) h.1)

  -- ---- what is sent

  pub since_sent : (A : Message → Type 0) (base : List Item) → ((before : List Item) (m : Message) → Later base before → A m → P before m)
      → (k : ℕ) (ms : List Message) (tape : List Item) → Later base tape → Each A ms → Since P tape (sent k ms tape)
  since_sent A base turn k [] tape later each = since_none tape
  since_sent A base turn k (m ∷ ms) tape later each = since_then tape (Sent k m ∷ tape) (sent (k + 1) ms (Sent k m ∷ tape))
      (since_more tape tape (Sent k m) (since_none tape) (turn tape m later each.0)) (since_sent A base turn (k + 1) ms (Sent k m ∷ tape) (later_one base tape (Sent k m) later) each.1)
