-- What an epoch that serves stands behind.
use Rattle.std.proofs.Common.{◌≡◌, ◌⊎◌, inl, inr, ℕ, ◌==◌, ◌&&◌, Bool, true, false, cond, List, [], ◌∷◌, Option, Some, None, refl, sym, ap, ◌∙◌, subst}
use Rattle.std.proofs.lemmas.Bool.{and_parts, and_from}
use Rattle.mega_base.specs.declared.names.Epoch.{Epoch}
use Rattle.mega_base.specs.declared.names.NodeId.{NodeId}
use Rattle.mega_base.specs.declared.names.OpId.{OpId}
use Rattle.mega_locks.proofs.Marks.{same_is}
use Rattle.mega_cluster.specs.declared.cluster.Cluster.{Cluster}
use Rattle.mega_wire.specs.declared.message.Body.TheVariants.{Unheld}
use Rattle.mega_wal.specs.History.{after_grant, after_lapse, is_epoch_below, is_same_epoch}
use Rattle.mega_settled_laws.specs.of_tape_laws.of_promises.of_transcript.declared.item.Item.{Item}
use Rattle.mega_settled_laws.specs.of_tape_laws.of_promises.of_transcript.declared.item.Item.TheVariants.{Counts, Crash, Forgets, Grant, Lapse, Lost, Sent, Serving, Start}
use Rattle.mega_settled_laws.specs.of_tape_laws.of_promises.Items.{number}
use Rattle.mega_settled_laws.specs.of_tape_laws.of_promises.Promises.{Stands, StoodBefore}
use Rattle.mega_settled_laws.specs.of_tape_laws.Lawful.{message}
use Rattle.mega_settled_laws.specs.of_tape_laws.Settled.{IsCellMajority}
use Rattle.mega_settled_laws.proofs.of_tape_laws.Ballots.{number_is, number_self}
use Rattle.mega_settled_laws.proofs.of_tape_laws.Lists.{some_is}
use Rattle.mega_settled_laws.proofs.of_tape_laws.Majorities.{Shared}
use Rattle.mega_valid_laws.specs.Leases.{AreLeased, HoldsNone, IsHeld, IsLeased, NoneAbove, SaysFree, ServedBehind, counted_on, granted_on, serving_on}
use Rattle.mega_valid_laws.proofs.Orders.{above_not, below_self, cells_meet, neither_below, stood_first}

node_is : (who : NodeId) (node : ℕ) → (who.0 == node) ≡ true → who ≡ number node
node_is who node h = λ i. record { 0 = number_is who.0 node h i }

-- ---- what a cell granted

abbrev IsFrom : Option (Epoch × Bool) → Epoch → Type 0
IsFrom None e = ⊥
IsFrom (Some last) e = is_epoch_below last.0 e ≡ false

first_from : (o : Option (Epoch × Bool)) (e : Epoch) → IsFrom (after_grant o e) e
first_from None e = below_self e
first_from (Some last) e = by (is_epoch_below last.0 e) refl
  where
    by : (t : Bool) → is_epoch_below last.0 e ≡ t → IsFrom (cond t (Some (e, true)) (Some last)) e
    by true h = below_self e
    by false h = h

grant_from : (o : Option (Epoch × Bool)) (other e : Epoch) → IsFrom o e → IsFrom (after_grant o other) e
grant_from None other e h = absurd h
grant_from (Some last) other e h = by (is_epoch_below last.0 other) refl
  where
    by : (t : Bool) → is_epoch_below last.0 other ≡ t → IsFrom (cond t (Some (other, true)) (Some last)) e
    by true k = above_not last.0 other e h k
    by false k = h

lapse_from : (o : Option (Epoch × Bool)) (other e : Epoch) → IsFrom o e → IsFrom (after_lapse o other) e
lapse_from None other e h = absurd h
lapse_from (Some last) other e h = by (is_same_epoch last.0 other)
  where
    by : (t : Bool) → IsFrom (cond t (Some (last.0, false)) (Some last)) e
    by true = h
    by false = h

from_if : (t : Bool) (one other : Option (Epoch × Bool)) (e : Epoch) → IsFrom one e → IsFrom other e → IsFrom (cond t one other) e
from_if true one other e h k = h
from_if false one other e h k = k

-- the last grant is no lower than any that stands
granted_from : (cell node : ℕ) (e : Epoch) (tape : List Item) → Stands (Grant cell (number node) e) tape → IsFrom (granted_on tape cell node) e
granted_from cell node e [] s = absurd s
granted_from cell node e (item ∷ before) (inl same) = subst (λ x. IsFrom (granted_on (x ∷ before) cell node) e) (sym same)
    (by (cell == cell && node == node) (and_from (cell == cell) (node == node) (number_self cell) (number_self node)))
  where
    by : (t : Bool) → t ≡ true → IsFrom (cond t (after_grant (granted_on before cell node) e) (granted_on before cell node)) e
    by true h = first_from (granted_on before cell node) e
    by false h = cc
granted_from cell node e (Grant other to epoch ∷ before) (inr s) =
    from_if (other == cell && to.0 == node) (after_grant (granted_on before cell node) epoch) (granted_on before cell node) e
    (grant_from (granted_on before cell node) epoch e (granted_from cell node e before s)) (granted_from cell node e before s)
granted_from cell node e (Lapse other to epoch ∷ before) (inr s) =
    from_if (other == cell && to.0 == node) (after_lapse (granted_on before cell node) epoch) (granted_on before cell node) e
    (lapse_from (granted_on before cell node) epoch e (granted_from cell node e before s)) (granted_from cell node e before s)
granted_from cell node e (_ ∷ before) (inr s) = granted_from cell node e before s

-- it stands, and where it is not held its lapse stands
abbrev pub Shown : ℕ → ℕ → List Item → Option (Epoch × Bool) → Type 0
Shown cell node tape None = Unit {0}
Shown cell node tape (Some last) = Stands (Grant cell (number node) last.0) tape × (last.1 ≡ false → Stands (Lapse cell (number node) last.0) tape)

shown_on : (cell node : ℕ) (tape : List Item) (item : Item) (o : Option (Epoch × Bool)) → Shown cell node tape o → Shown cell node (item ∷ tape) o
shown_on cell node tape item None h = tt
shown_on cell node tape item (Some last) h = (inr h.0, λ lapsed. inr (h.1 lapsed))

pub granted_shown : (cell node : ℕ) (tape : List Item) → Shown cell node tape (granted_on tape cell node)
granted_shown cell node [] = tt
granted_shown cell node (Grant other to epoch ∷ before) = by (other == cell && to.0 == node) refl (granted_shown cell node before)
  where
    here : (other == cell && to.0 == node) ≡ true → Stands (Grant cell (number node) epoch) (Grant other to epoch ∷ before)
    here e = let parts = and_parts (other == cell) (to.0 == node) e in inl (λ i. Grant (number_is other cell parts.0 i) (node_is to node parts.1 i) epoch)

    granted : (o : Option (Epoch × Bool)) → Shown cell node before o → (other == cell && to.0 == node) ≡ true → Shown cell node (Grant other to epoch ∷ before) (after_grant o epoch)
    granted None h e = (here e, λ lapsed. cc)
    granted (Some last) h e = within (is_epoch_below last.0 epoch)
      where
        within : (t : Bool) → Shown cell node (Grant other to epoch ∷ before) (cond t (Some (epoch, true)) (Some last))
        within true = (here e, λ lapsed. cc)
        within false = (inr h.0, λ lapsed. inr (h.1 lapsed))

    by : (t : Bool) → (other == cell && to.0 == node) ≡ t → Shown cell node before (granted_on before cell node)
        → Shown cell node (Grant other to epoch ∷ before) (cond t (after_grant (granted_on before cell node) epoch) (granted_on before cell node))
    by true e rest = granted (granted_on before cell node) rest e
    by false e rest = shown_on cell node before (Grant other to epoch) (granted_on before cell node) rest
granted_shown cell node (Lapse other to epoch ∷ before) = by (other == cell && to.0 == node) refl (granted_shown cell node before)
  where
    lapsed : (o : Option (Epoch × Bool)) → Shown cell node before o → (other == cell && to.0 == node) ≡ true → Shown cell node (Lapse other to epoch ∷ before) (after_lapse o epoch)
    lapsed None h e = tt
    lapsed (Some last) h e = within (is_same_epoch last.0 epoch) refl
      where
        within : (t : Bool) → is_same_epoch last.0 epoch ≡ t → Shown cell node (Lapse other to epoch ∷ before) (cond t (Some (last.0, false)) (Some last))
        within true same = let parts = and_parts (other == cell) (to.0 == node) e in
            (inr h.0, λ ended. inl (λ i. Lapse (number_is other cell parts.0 i) (node_is to node parts.1 i) (sym (same_is last.0 epoch same) i)))
        within false same = (inr h.0, λ ended. inr (h.1 ended))

    by : (t : Bool) → (other == cell && to.0 == node) ≡ t → Shown cell node before (granted_on before cell node)
        → Shown cell node (Lapse other to epoch ∷ before) (cond t (after_lapse (granted_on before cell node) epoch) (granted_on before cell node))
    by true e rest = lapsed (granted_on before cell node) rest e
    by false e rest = shown_on cell node before (Lapse other to epoch) (granted_on before cell node) rest
granted_shown cell node (item ∷ before) = shown_on cell node before item (granted_on before cell node) (granted_shown cell node before)

-- ---- what is counted, and serves

counts_if : (t : Bool) (o : Bool) → cond t true o ≡ true → (t ≡ true) ⊎ (o ≡ true)
counts_if true o h = inl refl
counts_if false o h = inr h

forgets_if : (t : Bool) (o : Bool) → cond t false o ≡ true → o ≡ true
forgets_if true o h = cc
forgets_if false o h = h

serves_if : (t : Bool) (x e : Epoch) (o : Option Epoch) → cond t (Some x) o ≡ Some e → ((t ≡ true) × (x ≡ e)) ⊎ ((t ≡ false) × (o ≡ Some e))
serves_if true x e o h = inl (refl, some_is x e h)
serves_if false x e o h = inr (refl, h)

ends_if : (t : Bool) (e : Epoch) (o : Option Epoch) → cond t None o ≡ Some e → o ≡ Some e
ends_if true e o h = cc
ends_if false e o h = h

module _ (c : Cluster) (node : ℕ) (e : Epoch) where
  -- a counted cell granted the epoch
  counted_granted : (cell : ℕ) (tape : List Item) → AreLeased c tape → counted_on tape node cell e ≡ true → Stands (Grant cell (number node) e) tape
  counted_granted cell [] l h = cc
  counted_granted cell (Counts who other epoch ∷ before) l h = elim (counts_if ((who.0 == node && other == cell) && is_same_epoch epoch e) (counted_on before node cell e) h) [
    | inl t ↦
        let outer = and_parts (who.0 == node && other == cell) (is_same_epoch epoch e) t in
        let inner = and_parts (who.0 == node) (other == cell) outer.0 in
        inr (coe 0 1 (i. Stands (Grant (number_is other cell inner.1 i) (node_is who node inner.0 i) (same_is epoch e outer.1 i)) before) (l.0).0)
    | inr k ↦ inr (counted_granted cell before l.1 k)
  ]
  counted_granted cell (Forgets who other epoch ∷ before) l h = inr (counted_granted cell before l.1 (forgets_if ((who.0 == node && other == cell) && is_same_epoch epoch e) (counted_on before node cell e) h))
  counted_granted cell (_ ∷ before) l h = inr (counted_granted cell before l.1 h)

  -- and did so before the epoch served
  granted_served : (cell : ℕ) (tape : List Item) → AreLeased c tape → serving_on tape node ≡ Some e → counted_on tape node cell e ≡ true → StoodBefore (Grant cell (number node) e) (Serving (number node) e) tape
  granted_served cell [] l s h = cc
  granted_served cell (Serving who epoch ∷ before) l s h = elim (serves_if (who.0 == node) epoch e (serving_on before node) s) [
    | inl at ↦ inl ((λ i. Serving (node_is who node at.0 i) (at.1 i)), counted_granted cell before l.1 h)
    | inr k ↦ inr (granted_served cell before l.1 k.1 h)
  ]
  granted_served cell (Lost who epoch ∷ before) l s h = inr (granted_served cell before l.1 (ends_if (who.0 == node) e (serving_on before node) s) h)
  granted_served cell (Start who start ∷ before) l s h = inr (granted_served cell before l.1 (ends_if (who.0 == node) e (serving_on before node) s) h)
  granted_served cell (Crash who ∷ before) l s h = inr (granted_served cell before l.1 (ends_if (who.0 == node) e (serving_on before node) s) h)
  granted_served cell (Counts who other epoch ∷ before) l s h = elim (counts_if ((who.0 == node && other == cell) && is_same_epoch epoch e) (counted_on before node cell e) h) [
    | inl t ↦
        let outer = and_parts (who.0 == node && other == cell) (is_same_epoch epoch e) t in
        let inner = and_parts (who.0 == node) (other == cell) outer.0 in
        absurd (let none = sym (subst (λ v. serving_on before v ≡ None) (number_is who.0 node inner.0) (l.0).1) ∙ s in cc)
    | inr k ↦ inr (granted_served cell before l.1 s k)
  ]
  granted_served cell (Forgets who other epoch ∷ before) l s h = inr (granted_served cell before l.1 s (forgets_if ((who.0 == node && other == cell) && is_same_epoch epoch e) (counted_on before node cell e) h))
  granted_served cell (_ ∷ before) l s h = inr (granted_served cell before l.1 s h)

  -- an epoch that serves stands
  pub serving_stands : (tape : List Item) → serving_on tape node ≡ Some e → Stands (Serving (number node) e) tape
  serving_stands [] s = cc
  serving_stands (Serving who epoch ∷ before) s = elim (serves_if (who.0 == node) epoch e (serving_on before node) s) [
    | inl at ↦ inl (λ i. Serving (node_is who node at.0 i) (at.1 i))
    | inr k ↦ inr (serving_stands before k.1)
  ]
  serving_stands (Lost who epoch ∷ before) s = inr (serving_stands before (ends_if (who.0 == node) e (serving_on before node) s))
  serving_stands (Start who start ∷ before) s = inr (serving_stands before (ends_if (who.0 == node) e (serving_on before node) s))
  serving_stands (Crash who ∷ before) s = inr (serving_stands before (ends_if (who.0 == node) e (serving_on before node) s))
  serving_stands (_ ∷ before) s = inr (serving_stands before s)

  -- no cell granted the node an epoch above it
  abbrev IsNoGrant : Item → Type 0
  IsNoGrant (Grant cell to epoch) = ⊥
  IsNoGrant _ = Unit {0}

  grant_back : (item : Item) (before : List Item) (cell : ℕ) (other : Epoch) → IsNoGrant item → Stands (Grant cell (number node) other) (item ∷ before) → Stands (Grant cell (number node) other) before
  grant_back item before cell other none (inr s) = s
  grant_back item before cell other none (inl same) = absurd (subst IsNoGrant same none)

  none_above : (tape : List Item) → AreLeased c tape → serving_on tape node ≡ Some e → NoneAbove tape node e
  none_above [] l s cell other g = absurd g
  none_above (Grant who to epoch ∷ before) l s cell other (inl same) = granted_below who to epoch same (l.0)
    where
      granted_below : (who : ℕ) (to : NodeId) (epoch : Epoch) → Grant who to epoch ≡ Grant cell (number node) other → ((now : Epoch) → serving_on before to.0 ≡ Some now → is_epoch_below now epoch ≡ false) → is_epoch_below e other ≡ false
      granted_below who to epoch same rule = subst (λ x. is_epoch_below e x ≡ false) (epoch_same same) (rule e (ap (λ v. serving_on before v) (to_same same) ∙ s))
        where
          epoch_same : Grant who to epoch ≡ Grant cell (number node) other → epoch ≡ other
          epoch_same h = cc

          to_same : Grant who to epoch ≡ Grant cell (number node) other → to.0 ≡ node
          to_same h = let whole : to ≡ number node = cc in ap (λ (x : NodeId). x.0) whole
  none_above (Grant who to epoch ∷ before) l s cell other (inr g) = none_above before l.1 s cell other g
  none_above (Serving who epoch ∷ before) l s cell other g = elim (serves_if (who.0 == node) epoch e (serving_on before node) s) [
    | inl at ↦ subst (λ x. is_epoch_below x other ≡ false) at.1 ((l.0).greatest cell other (subst (λ v. Stands (Grant cell (number v) other) before) (sym (number_is who.0 node at.0)) (grant_back (Serving who epoch) before cell other tt g)))
    | inr k ↦ none_above before l.1 k.1 cell other (grant_back (Serving who epoch) before cell other tt g)
  ]
  none_above (Lost who epoch ∷ before) l s cell other g = none_above before l.1 (ends_if (who.0 == node) e (serving_on before node) s) cell other (grant_back (Lost who epoch) before cell other tt g)
  none_above (Start who start ∷ before) l s cell other g = none_above before l.1 (ends_if (who.0 == node) e (serving_on before node) s) cell other (grant_back (Start who start) before cell other tt g)
  none_above (Crash who ∷ before) l s cell other g = none_above before l.1 (ends_if (who.0 == node) e (serving_on before node) s) cell other (grant_back (Crash who) before cell other tt g)
  none_above (item ∷ before) l s cell other g = none_above before l.1 s cell other (grant_back item before cell other tt g)

-- ---- an answer of a cell

-- where an item stands: what it was allowed by, and what stood then
record At (c : Cluster) (item first : Item) (tape : List Item) : Type 0 where
  before : List Item
  rule : IsLeased c before item
  stands : Stands first before
  inside : (other : Item) → Stands other before → Stands other tape

order : (c : Cluster) (first later item : Item) (tape : List Item) → AreLeased c tape → StoodBefore first later tape → Stands item tape → (item ≡ later → ⊥) → StoodBefore item later tape ⊎ At c item first tape
order c first later item [] l b s apart = absurd b
order c first later item (one ∷ before) l (inl same) (inl is) apart = absurd (apart (sym is ∙ same.0))
order c first later item (one ∷ before) l (inl same) (inr s) apart = inl (inl (same.0, s))
order c first later item (one ∷ before) l (inr b) (inl is) apart =
    inr (record { before = before; rule = subst (IsLeased c before) is l.0; stands = stood_first first later before b; inside = λ other s. inr s })
order c first later item (one ∷ before) l (inr b) (inr s) apart = elim (order c first later item before l.1 b s apart) [
  | inl a ↦ inl (inr a)
  | inr at ↦ inr (record { before = at.before; rule = at.rule; stands = at.stands; inside = λ other s. inr (at.inside other s) })
]

-- a cell that holds nothing for a node, and granted it the epoch that serves, lapsed it
held_lapsed : (c : Cluster) (cell node : ℕ) (e : Epoch) (before tape : List Item) → NoneAbove tape node e → ((other : Item) → Stands other before → Stands other tape) → Stands (Grant cell (number node) e) before
    → (o : Option (Epoch × Bool)) → HoldsNone o → IsFrom o e → Shown cell node before o → Stands (Lapse cell (number node) e) before
held_lapsed c cell node e before tape none inside g None h f shown = absurd f
held_lapsed c cell node e before tape none inside g (Some last) h f shown =
    subst (λ x. Stands (Lapse cell (number node) x) before) (neither_below last.0 e f (none cell last.0 (inside (Grant cell (number node) last.0) shown.0))) (shown.1 h)

-- an epoch that serves after a majority of the cells said that they hold nothing began to serve behind one of these answers
pub served_behind : (c : Cluster) (tape : List Item) → AreLeased c tape → (node : ℕ) (e : Epoch) → IsHeld c tape node e → (op : OpId) (test : ℕ → Bool) → IsCellMajority c test
    → ((cell : ℕ) → test cell ≡ true → SaysFree tape op cell node) → ServedBehind tape op test node e
served_behind c tape l node e held op test most says = by (order c (Grant cell (number node) e) (Serving (number node) e) answer tape l (granted_served c node e cell tape l held.serves shared.second) said.sent apart)
  where
    shared : Shared test (λ cell. counted_on tape node cell e)
    shared = cells_meet c test (λ cell. counted_on tape node cell e) most held.counts

    cell : ℕ
    cell = shared.node

    said : SaysFree tape op cell node
    said = says cell shared.first

    answer : Item
    answer = Sent said.key (message cell said.to (Unheld op cell (number node)))

    apart : answer ≡ Serving (number node) e → ⊥
    apart h = cc

    by : StoodBefore answer (Serving (number node) e) tape ⊎ At c answer (Grant cell (number node) e) tape → ServedBehind tape op test node e
    by (inl before) = record { cell = cell; passes = shared.first; key = said.key; to = said.to; before = before }
    by (inr at) = absurd (held.safe cell shared.second (at.inside (Lapse cell (number node) e)
        (held_lapsed c cell node e at.before tape (none_above c node e tape l held.serves) at.inside at.stands (granted_on at.before cell node) (at.rule).none
        (granted_from cell node e at.before at.stands) (granted_shown cell node at.before))))
