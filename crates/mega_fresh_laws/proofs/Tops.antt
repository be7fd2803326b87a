-- The greatest position of a node is no lower than any that it decided among some notes; and which decisions a tape shows of these.
use Rattle.std.proofs.Common.{ℕ, ◌≡◌, ◌⊎◌, inl, inr, max, ◌≤◌, ◌&&◌, Bool, true, false, not, cond, List, [], ◌∷◌, flat_map, refl, sym, subst, ap}
use Rattle.mega_base.specs.declared.names.GroupId.{GroupId}
use Rattle.mega_base.specs.declared.names.Position.{Position}
use Rattle.mega_cluster.specs.declared.cluster.Cluster.{Cluster}
use Rattle.mega_entry.specs.declared.content.Content.{Content}
use Rattle.mega_wal.specs.Same.{same_group}
use Rattle.mega_wal.proofs.Sames.{same_group_self}
use Rattle.mega_leased_laws.specs.of_settled_laws.of_run_laws.of_tape_laws.of_promises.of_transcript.declared.item.Item.{Item}
use Rattle.mega_leased_laws.specs.of_settled_laws.of_run_laws.of_tape_laws.of_promises.of_transcript.declared.item.Item.TheVariants.{Answer, Apply, Begin, Counts as CountsItem, Crash, Decide, Forgets as ForgetsItem, Grant, Invalid, Lapse as LapseItem, Lost as LostItem, Serving, Start, Tick, Unsafe, Unsent, Valid}
use Rattle.mega_leased_laws.specs.of_settled_laws.of_run_laws.of_tape_laws.of_promises.Items.{number, shown}
use Rattle.mega_leased_laws.specs.of_settled_laws.of_run_laws.of_tape_laws.of_promises.Messages.{is_unsafe}
use Rattle.mega_leased_laws.specs.of_settled_laws.of_run_laws.of_tape_laws.of_promises.Promises.{Stands}
use Rattle.mega_leased_laws.specs.of_settled_laws.of_run_laws.of_tape_laws.of_promises.Runs.{breaks, with_item, with_items}
use Rattle.mega_leased_laws.specs.of_settled_laws.of_run_laws.of_tape_laws.of_promises.of_rules.Met.{Met, Starts, Crashes, Ticks, Begins, Takes, Sends, Unsends, Grants, Lapses, Counts, Forgets, Serves, Loses, Validates, Invalidates, Decides, Applies, Answers}
use Rattle.mega_leased_laws.specs.of_settled_laws.of_run_laws.of_tape_laws.of_promises.of_rules.Logs.{top_of}
use Rattle.mega_leased_laws.specs.of_settled_laws.of_run_laws.of_tape_laws.of_promises.of_rules.Operations.{Node}
use Rattle.mega_leased_laws.specs.of_settled_laws.of_run_laws.of_tape_laws.of_promises.of_rules.Steps.{onto}
use Rattle.mega_leased_laws.specs.of_settled_laws.of_run_laws.of_tape_laws.Places.{In}
use Rattle.mega_leased_laws.proofs.of_settled_laws.of_run_laws.Noted.{with_append}
use Rattle.mega_leased_laws.proofs.Tops.{max_first, then_most, top_onto}
use Rattle.mega_leased_laws.proofs.of_settled_laws.of_run_laws.of_tape_laws.Ballots.{clash}

-- what was decided among these notes
pub noted_most : (notes met : List Met) (g : GroupId) (n : ℕ) (e : Content) → In (Decides g n e) notes → n ≤ top_of (onto notes met) g
noted_most [] met g n e i = absurd i
noted_most (one ∷ notes) met g n e (inl same) = then_most n (top_of (one ∷ met) g) (top_of (onto notes (one ∷ met)) g) (subst (λ note. n ≤ top_of (note ∷ met) g) (sym same) here) (top_onto notes (one ∷ met) g)
  where
    here : n ≤ cond (same_group g g) (max n (top_of met g)) (top_of met g)
    here = subst (λ t. n ≤ cond t (max n (top_of met g)) (top_of met g)) (sym (same_group_self g)) (max_first n (top_of met g))
noted_most (one ∷ notes) met g n e (inr i) = noted_most notes (one ∷ met) g n e i

-- ---- where a decision stands

abbrev is_decide : Item → Bool
is_decide (Decide a h k d) = true
is_decide _ = false

module _ (c : Cluster) (nodes : ℕ → Node) (me v : ℕ) (g : GroupId) (n : Position) (e : Content) where
  abbrev Decided : Item
  Decided = Decide (number v) g n e

  abbrev FromNote : Met → Type 0
  FromNote note = (me ≡ v) × (note ≡ Decides g n.0 e)

  -- one item
  item_stood : (t : List Item) (item : Item) → Stands Decided (with_item c nodes t item) → (item ≡ Decided) ⊎ Stands Decided t
  item_stood t item s = by (breaks c nodes item && not (is_unsafe t)) s
    where
      by : (b : Bool) → Stands Decided (cond b (Unsafe ∷ item ∷ t) (item ∷ t)) → (item ≡ Decided) ⊎ Stands Decided t
      by true (inl is) = cc
      by true (inr (inl is)) = inl is
      by true (inr (inr k)) = inr k
      by false (inl is) = inl is
      by false (inr k) = inr k

  other_stood : (t : List Item) (item : Item) → is_decide item ≡ false → Stands Decided (with_item c nodes t item) → Stands Decided t
  other_stood t item apart s = by (item_stood t item s)
    where
      by : (item ≡ Decided) ⊎ Stands Decided t → Stands Decided t
      by (inl is) = clash (is_decide item) (ap is_decide is) apart
      by (inr k) = k

  note_stood : (t : List Item) (note : Met) → Stands Decided (with_items c nodes t (shown me note)) → FromNote note ⊎ Stands Decided t
  note_stood t (Decides group m entry) s = elim (item_stood t (Decide (number me) group (record { 0 = m }) entry) s) [
    | inl is ↦ inl (of_item is)
    | inr k ↦ inr k
  ]
    where
      node_in : Item → ℕ
      node_in (Decide a h k d) = a.0
      node_in _ = 0

      group_in : Item → GroupId
      group_in (Decide a h k d) = h
      group_in _ = g

      place_in : Item → ℕ
      place_in (Decide a h k d) = k.0
      place_in _ = 0

      entry_in : Item → Content
      entry_in (Decide a h k d) = d
      entry_in _ = e

      of_item : Decide (number me) group (record { 0 = m }) entry ≡ Decided → FromNote (Decides group m entry)
      of_item is = (ap node_in is, λ i. Decides (ap group_in is i) (ap place_in is i) (ap entry_in is i))
  note_stood t (Starts count) s = inr (other_stood t (Start (number me) count) refl s)
  note_stood t Crashes s = inr (other_stood t (Crash (number me)) refl s)
  note_stood t (Ticks now) s = inr (other_stood t (Tick (number me) now) refl s)
  note_stood t (Begins op text) s = inr (other_stood t (Begin op text) refl s)
  note_stood t (Takes m) s = inr s
  note_stood t (Sends m) s = inr s
  note_stood t (Unsends m) s = inr (other_stood t (Unsent (number me) m) refl s)
  note_stood t (Grants node epoch) s = inr (other_stood t (Grant me (number node) epoch) refl s)
  note_stood t (Lapses node epoch) s = inr (other_stood t (LapseItem me (number node) epoch) refl s)
  note_stood t (Counts cell epoch) s = inr (other_stood t (CountsItem (number me) cell epoch) refl s)
  note_stood t (Forgets cell epoch) s = inr (other_stood t (ForgetsItem (number me) cell epoch) refl s)
  note_stood t (Serves epoch) s = inr (other_stood t (Serving (number me) epoch) refl s)
  note_stood t (Loses epoch) s = inr (other_stood t (LostItem (number me) epoch) refl s)
  note_stood t (Validates group position) s = inr (other_stood t (Valid (number me) group (record { 0 = position })) refl s)
  note_stood t (Invalidates group position) s = inr (other_stood t (Invalid (number me) group (record { 0 = position })) refl s)
  note_stood t (Applies group position) s = inr (other_stood t (Apply (number me) group (record { 0 = position })) refl s)
  note_stood t (Answers op answer) s = inr (other_stood t (Answer op answer) refl s)

  pub notes_stood : (notes : List Met) (t : List Item) → Stands Decided (with_items c nodes t (flat_map (shown me) notes)) → ((me ≡ v) × In (Decides g n.0 e) notes) ⊎ Stands Decided t
  notes_stood [] t s = inr s
  notes_stood (note ∷ notes) t s = elim (notes_stood notes (with_items c nodes t (shown me note)) (subst (Stands Decided) (with_append c nodes (shown me note) (flat_map (shown me) notes) t) s)) [
    | inl found ↦ inl (found.0, inr found.1)
    | inr k ↦ elim (note_stood t note k) [ inl is ↦ inl (is.0, inl is.1) | inr before ↦ inr before ]
  ]
