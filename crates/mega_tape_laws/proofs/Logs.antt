-- The log's entry at a position, which is that of its first decide.
use Rattle.std.proofs.Common.{◌≡◌, inl, inr, ◌==◌, ◌&&◌, cond, List, [], ◌∷◌, Option, Some, None, refl, sym, ap, ◌∙◌, subst}
use Rattle.mega_base.specs.declared.names.GroupId.{GroupId}
use Rattle.mega_base.specs.declared.names.NodeId.{NodeId}
use Rattle.mega_base.specs.declared.names.Position.{Position}
use Rattle.mega_cluster.specs.declared.cluster.Cluster.{Cluster}
use Rattle.mega_entry.specs.declared.content.Content.{Content}
use Rattle.mega_wal.specs.Same.{same_group}
use Rattle.mega_promises.specs.of_transcript.declared.item.Item.{Item}
use Rattle.mega_promises.specs.of_transcript.declared.item.Item.TheVariants.{Decide}
use Rattle.mega_promises.specs.Promises.{Stands, first_decided, or_else}
use Rattle.mega_tape_laws.specs.Lawful.{Lawful}
use Rattle.mega_tape_laws.proofs.Lists.{some_is}
use Rattle.mega_tape_laws.proofs.Made.{passes, place_is, same_place_self}
use Rattle.mega_tape_laws.proofs.Agreement.{agreement}

-- a node decided the entry
pub record Decided (tape : List Item) (group : GroupId) (n : Position) (e : Content) : Type 0 where
  pub node : NodeId
  pub stands : Stands (Decide node group n e) tape

-- the log's entry was decided
pub first_stands : (tape : List Item) (group : GroupId) (n : Position) (e : Content) → first_decided tape group n.0 ≡ Some e → Decided tape group n e
first_stands [] group n e h = cc
first_stands (Decide i g m x ∷ before) group n e h = go (first_decided before group n.0) (first_stands before group n e) h
  where
    go : (o : Option Content) → (o ≡ Some e → Decided before group n e) → or_else o (cond (same_group g group && m.0 == n.0) (Some x) None) ≡ Some e → Decided (Decide i g m x ∷ before) group n e
    go (Some y) earlier k = let d = earlier k in record { node = d.node; stands = inr d.stands }
    go None earlier k =
        let parts = passes (same_group g group && m.0 == n.0) (Some x) e k in
        let at = place_is g m (record { group = group; position = n }) parts.0 in
        let entry = some_is x e parts.1 in
        record { node = i; stands = inl (λ j. Decide i (at j).group (at j).position (entry j)) }
first_stands (_ ∷ before) group n e h = let d = first_stands before group n e h in record { node = d.node; stands = inr d.stands }

-- the log has an entry at a position
abbrev HasEntry : List Item → GroupId → Position → Type 0
HasEntry tape group n = (x : Content) × (first_decided tape group n.0 ≡ Some x)

has_entry_then : (group : GroupId) (n : Position) (item : Item) (before : List Item) → HasEntry before group n → HasEntry (item ∷ before) group n
has_entry_then group n (Decide i g m y) before d = (d.0, ap (λ o. or_else o (cond (same_group g group && m.0 == n.0) (Some y) None)) d.1)
has_entry_then group n _ before d = d

has_entry : (tape : List Item) (group : GroupId) (n : Position) (node : NodeId) (e : Content) → Stands (Decide node group n e) tape → HasEntry tape group n
has_entry [] group n node e s = absurd s
has_entry (item ∷ before) group n node e (inr s) = has_entry_then group n item before (has_entry before group n node e s)
has_entry (item ∷ before) group n node e (inl same) = subst (λ x. HasEntry (x ∷ before) group n) (sym same) (go (first_decided before group n.0))
  where
    go : (o : Option Content) → (x : Content) × (or_else o (cond (same_group group group && n.0 == n.0) (Some e) None) ≡ Some x)
    go (Some y) = (y, refl)
    go None = (e, ap (λ t. cond t (Some e) None) (same_place_self (record { group = group; position = n })))

pub shown_first : (c : Cluster) (tape : List Item) → Lawful c tape → (node : NodeId) (group : GroupId) (n : Position) (e : Content) → Stands (Decide node group n e) tape → first_decided tape group n.0 ≡ Some e
shown_first c tape l node group n e s =
    let h = has_entry tape group n node e s in
    let d = first_stands tape group n h.0 h.1 in
    h.1 ∙ ap Some (agreement c tape l d.node node group n h.0 e d.stands s)
