-- What a step notes behind its first notes and its decision ends the validity of no group; and which validate makes one valid.
use Rattle.std.proofs.Common.{◌≡◌, ◌⊎◌, inl, inr, ℕ, ◌==◌, ◌&&◌, Bool, true, false, cond, List, [], ◌∷◌, ◌++◌, map, flat_map, Option, Some, None, refl, sym, ap, ◌∙◌}
use Rattle.std.specs.Prelude.{is_none}
use Rattle.std.proofs.lemmas.Bool.{and_from}
use Rattle.mega_base.specs.declared.names.Epoch.{Epoch}
use Rattle.mega_base.specs.declared.names.GroupId.{GroupId}
use Rattle.mega_cluster.specs.declared.cluster.Cluster.{Cluster}
use Rattle.mega_coordinator.specs.Groups.{is_group}
use Rattle.mega_coordinator.specs.History.{is_valid, refused, serving}
use Rattle.mega_wal.specs.Same.{same_group}
use Rattle.mega_wal.proofs.Orders.{is_group_is}
use Rattle.mega_wire.specs.declared.message.Message.{Message}
use Rattle.mega_leased_laws.specs.of_settled_laws.of_run_laws.of_tape_laws.of_promises.of_transcript.declared.item.Item.{Item}
use Rattle.mega_leased_laws.specs.of_settled_laws.of_run_laws.of_tape_laws.of_promises.of_transcript.declared.item.Item.TheVariants.{Valid}
use Rattle.mega_leased_laws.specs.of_settled_laws.of_run_laws.of_tape_laws.of_promises.Items.{number, shown}
use Rattle.mega_leased_laws.specs.of_settled_laws.of_run_laws.of_tape_laws.of_promises.Runs.{with_items}
use Rattle.mega_leased_laws.specs.of_settled_laws.of_run_laws.of_tape_laws.of_promises.of_rules.Clock.{start_of}
use Rattle.mega_leased_laws.specs.of_settled_laws.of_run_laws.of_tape_laws.of_promises.of_rules.Coordinators.{coordinator_calls, valid_at, validated}
use Rattle.mega_leased_laws.specs.of_settled_laws.of_run_laws.of_tape_laws.of_promises.of_rules.Met.{Met, Answers, Applies, Sends, Validates}
use Rattle.mega_leased_laws.specs.of_settled_laws.of_run_laws.of_tape_laws.of_promises.of_rules.Operations.{Node}
use Rattle.mega_leased_laws.specs.of_settled_laws.of_run_laws.of_tape_laws.of_promises.of_rules.Steps.{onto, step}
use Rattle.mega_leased_laws.specs.of_settled_laws.of_run_laws.of_tape_laws.Places.{In}
use Rattle.mega_leased_laws.proofs.of_settled_laws.of_run_laws.of_tape_laws.Ballots.{clash, number_self}
use Rattle.mega_leased_laws.specs.of_settled_laws.of_run_laws.Justified.{Each}
use Rattle.mega_leased_laws.specs.of_valid_laws.Leases.{valid_on}
use Rattle.mega_leased_laws.proofs.Tails.{IsTail}

abbrev validate_group : GroupId → Met → GroupId
validate_group group (Validates g position) = g
validate_group group _ = group

abbrev is_validate : Met → Bool
is_validate (Validates group position) = true
is_validate _ = false

-- ---- a group that is valid stays so

module _ (c : Cluster) (group : GroupId) where
  abbrev Holds : List Met → Type 0
  Holds met = valid_at c met group ≡ true

  one_validates : (g : GroupId) (p : ℕ) (met : List Met) → Holds met → Holds (Validates g p ∷ met)
  one_validates g p met h = by (serving (start_of met) c.cells (coordinator_calls c met)) refl
    where
      if_so : (t : Bool) → cond t true (is_valid (start_of met) c.cells (coordinator_calls c met) group) ≡ true
      if_so true = refl
      if_so false = h

      by : (o : Option Epoch) → serving (start_of met) c.cells (coordinator_calls c met) ≡ o → is_valid (start_of met) c.cells (validated g p o ++ coordinator_calls c met) group ≡ true
      by None e = h
      by (Some epoch) e = if_so (is_group g group && is_none (refused (start_of met) c.cells (coordinator_calls c met) g p epoch))

  pub tail_valid : (notes met : List Met) → Each IsTail notes → Holds met → Holds (onto notes met)
  tail_valid [] met each h = h
  tail_valid (Applies g p ∷ notes) met each h = tail_valid notes (Applies g p ∷ met) each.1 h
  tail_valid (Answers op answer ∷ notes) met each h = tail_valid notes (Answers op answer ∷ met) each.1 h
  tail_valid (Validates g p ∷ notes) met each h = tail_valid notes (Validates g p ∷ met) each.1 (one_validates g p met h)
  tail_valid (_ ∷ notes) met each h = absurd each.0

  pub sends_valid : (ms : List Message) (met : List Met) → Holds met → Holds (onto (map Sends ms) met)
  sends_valid [] met h = h
  sends_valid (m ∷ ms) met h = sends_valid ms (Sends m ∷ met) h

  -- a validate of this group
  pub record Hit (notes : List Met) : Type 0 where
    pub one : GroupId
    pub position : ℕ
    pub among : In (Validates one position) notes
    pub same : same_group one group ≡ true

  validates_or : (g : GroupId) (p : ℕ) (met : List Met) → Holds (Validates g p ∷ met) → (is_group g group ≡ true) ⊎ Holds met
  validates_or g p met h = by (serving (start_of met) c.cells (coordinator_calls c met)) h
    where
      if_so : (a b : Bool) → cond (a && b) true (is_valid (start_of met) c.cells (coordinator_calls c met) group) ≡ true → (a ≡ true) ⊎ Holds met
      if_so true b k = inl refl
      if_so false b k = inr k

      by : (o : Option Epoch) → is_valid (start_of met) c.cells (validated g p o ++ coordinator_calls c met) group ≡ true → (is_group g group ≡ true) ⊎ Holds met
      by None k = inr k
      by (Some epoch) k = if_so (is_group g group) (is_none (refused (start_of met) c.cells (coordinator_calls c met) g p epoch)) k

  -- where a group is valid behind validates, one of them is of it, or it was before
  pub valid_or : (notes met : List Met) → Each IsTail notes → Holds (onto notes met) → Hit notes ⊎ Holds met
  valid_or [] met each h = inr h
  valid_or (Validates g p ∷ notes) met each h = elim (valid_or notes (Validates g p ∷ met) each.1 h) [
    | inl hit ↦ inl (record { one = hit.one; position = hit.position; among = inr hit.among; same = hit.same })
    | inr k ↦ elim (validates_or g p met k) [
      | inl is ↦ inl (record { one = g; position = p; among = inl refl; same = sym (is_group_is g group) ∙ is })
      | inr before ↦ inr before
    ]
  ]
  valid_or (Applies g p ∷ notes) met each h = elim (valid_or notes (Applies g p ∷ met) each.1 h) [
    | inl hit ↦ inl (record { one = hit.one; position = hit.position; among = inr hit.among; same = hit.same })
    | inr k ↦ inr k
  ]
  valid_or (Answers op answer ∷ notes) met each h = elim (valid_or notes (Answers op answer ∷ met) each.1 h) [
    | inl hit ↦ inl (record { one = hit.one; position = hit.position; among = inr hit.among; same = hit.same })
    | inr k ↦ inr k
  ]
  valid_or (_ ∷ notes) met each h = absurd each.0

  -- what the tape shows
  module _ (nodes : ℕ → Node) (me : ℕ) where
    if_valid : (t : Bool) (v : Bool) → v ≡ true → cond t true v ≡ true
    if_valid true v h = refl
    if_valid false v h = h

    if_hit : (t : Bool) (v : Bool) → t ≡ true → cond t true v ≡ true
    if_hit true v h = refl
    if_hit false v h = cc

    pub tail_still : (notes : List Met) (t : List Item) → Each IsTail notes → valid_on t me group ≡ true → valid_on (with_items c nodes t (flat_map (shown me) notes)) me group ≡ true
    tail_still [] t each h = h
    tail_still (Applies g p ∷ notes) t each h = tail_still notes _ each.1 h
    tail_still (Answers op answer ∷ notes) t each h = tail_still notes _ each.1 h
    tail_still (Validates g p ∷ notes) t each h = tail_still notes (Valid (number me) g (record { 0 = p }) ∷ t) each.1 (if_valid (me == me && same_group g group) (valid_on t me group) h)
    tail_still (_ ∷ notes) t each h = absurd each.0

    hit_here : (g : GroupId) (p : ℕ) (t : List Item) → same_group g group ≡ true → valid_on (Valid (number me) g (record { 0 = p }) ∷ t) me group ≡ true
    hit_here g p t same = if_hit (me == me && same_group g group) (valid_on t me group) (and_from (me == me) (same_group g group) (number_self me) same)

    pub hit_shows : (notes : List Met) (t : List Item) (g : GroupId) (p : ℕ) → Each IsTail notes → In (Validates g p) notes → same_group g group ≡ true → valid_on (with_items c nodes t (flat_map (shown me) notes)) me group ≡ true
    hit_shows [] t g p each i same = absurd i
    hit_shows (Validates h q ∷ notes) t g p each (inl is) same = tail_still notes (Valid (number me) h (record { 0 = q }) ∷ t) each.1 (hit_here h q t (ap (λ x. same_group (validate_group group x) group) is ∙ same))
    hit_shows (Validates h q ∷ notes) t g p each (inr i) same = hit_shows notes _ g p each.1 i same
    hit_shows (Applies h q ∷ notes) t g p each (inl is) same = clash (is_validate (Applies h q)) (ap is_validate is) refl
    hit_shows (Applies h q ∷ notes) t g p each (inr i) same = hit_shows notes _ g p each.1 i same
    hit_shows (Answers op answer ∷ notes) t g p each (inl is) same = clash (is_validate (Answers op answer)) (ap is_validate is) refl
    hit_shows (Answers op answer ∷ notes) t g p each (inr i) same = hit_shows notes _ g p each.1 i same
    hit_shows (_ ∷ notes) t g p each i same = absurd each.0
