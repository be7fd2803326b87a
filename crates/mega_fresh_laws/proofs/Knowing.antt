-- What a node decided stands on the tape.
use Rattle.std.proofs.Common.{ℕ, ◌≡◌, inl, inr, ◌==◌, ◌&&◌, Bool, true, false, cond, List, [], ◌∷◌, flat_map, Option, Some, None, refl, sym, ◌∙◌, subst}
use Rattle.std.proofs.lemmas.Bool.{and_parts}
use Rattle.mega_base.specs.declared.names.GroupId.{GroupId}
use Rattle.mega_cluster.specs.declared.cluster.Cluster.{Cluster}
use Rattle.mega_entry.specs.declared.content.Content.{Content}
use Rattle.mega_leased_laws.specs.of_settled_laws.of_run_laws.of_tape_laws.of_promises.of_transcript.declared.item.Item.{Item}
use Rattle.mega_leased_laws.specs.of_settled_laws.of_run_laws.of_tape_laws.of_promises.of_transcript.declared.item.Item.TheVariants.{Decide}
use Rattle.mega_wal.specs.Same.{same_group}
use Rattle.mega_wal.proofs.Sames.{same_group_equal}
use Rattle.mega_leased_laws.specs.of_settled_laws.of_run_laws.of_tape_laws.of_promises.Items.{number, shown}
use Rattle.mega_leased_laws.specs.of_settled_laws.of_run_laws.of_tape_laws.of_promises.Promises.{Stands}
use Rattle.mega_leased_laws.specs.of_settled_laws.of_run_laws.of_tape_laws.of_promises.Runs.{with_items}
use Rattle.mega_leased_laws.specs.of_settled_laws.of_run_laws.of_tape_laws.of_promises.of_rules.Logs.{decided, first_of}
use Rattle.mega_leased_laws.specs.of_settled_laws.of_run_laws.of_tape_laws.of_promises.of_rules.Met.{Met, Starts, Crashes, Ticks, Begins, Takes, Sends, Unsends, Grants, Lapses, Counts, Forgets, Serves, Loses, Validates, Invalidates, Decides, Applies, Answers}
use Rattle.mega_leased_laws.specs.of_settled_laws.of_run_laws.of_tape_laws.of_promises.of_rules.Operations.{Node}
use Rattle.mega_leased_laws.specs.of_settled_laws.of_run_laws.of_tape_laws.of_promises.of_rules.Steps.{onto}
use Rattle.mega_leased_laws.proofs.of_settled_laws.of_run_laws.of_tape_laws.Ballots.{number_is}
use Rattle.mega_leased_laws.proofs.of_settled_laws.of_run_laws.of_tape_laws.Lists.{some_is}
use Rattle.mega_leased_laws.proofs.of_settled_laws.of_run_laws.Noted.{with_append}
use Rattle.mega_leased_laws.proofs.of_settled_laws.of_run_laws.Turns.{Known}
use Rattle.mega_leased_laws.specs.of_settled_laws.Covering.{Earlier}
use Rattle.mega_leased_laws.proofs.of_settled_laws.Tapes.{earlier_stood, items_later}

module _ (c : Cluster) (nodes' : ℕ → Node) (me : ℕ) where
  known_decided : (g : GroupId) (n : ℕ) (entry : Content) (base : List Met) (tape : List Item) → Known me base tape → Known me (Decides g n entry ∷ base) (Decide (number me) g (record { 0 = n }) entry ∷ tape)
  known_decided g n entry base tape known h m x = by (same_group g h && n == m) refl
    where
      first : (same_group g h && n == m) ≡ true → (o : Option Content) → decided base h m ≡ o → first_of o entry ≡ Some x → Stands (Decide (number me) h (record { 0 = m }) x) (Decide (number me) g (record { 0 = n }) entry ∷ tape)
      first at (Some y) is k = inr (known h m x (is ∙ k))
      first at None is k = let parts = and_parts (same_group g h) (n == m) at in
          inl (λ i. Decide (number me) (same_group_equal g h parts.0 i) (record { 0 = number_is n m parts.1 i }) (some_is entry x k i))

      by : (t : Bool) → (same_group g h && n == m) ≡ t → cond t (first_of (decided base h m) entry) (decided base h m) ≡ Some x → Stands (Decide (number me) h (record { 0 = m }) x) (Decide (number me) g (record { 0 = n }) entry ∷ tape)
      by true at k = first at (decided base h m) refl k
      by false at k = inr (known h m x k)

  pub known_stood : (old new : List Item) (met : List Met) → Earlier old new → Known me met old → Known me met new
  known_stood old new met later known g n e is = earlier_stood old new later _ (known g n e is)

  known_one : (note : Met) (met : List Met) (tape : List Item) → Known me met tape → Known me (note ∷ met) (with_items c nodes' tape (shown me note))
  known_one (Decides g n entry) met tape known = known_decided g n entry met tape known
  known_one (Starts count) met tape known = known_stood tape _ met (items_later c nodes' (shown me (Starts count)) tape) known
  known_one Crashes met tape known = known_stood tape _ met (items_later c nodes' (shown me Crashes) tape) known
  known_one (Ticks now) met tape known = known_stood tape _ met (items_later c nodes' (shown me (Ticks now)) tape) known
  known_one (Begins op text) met tape known = known_stood tape _ met (items_later c nodes' (shown me (Begins op text)) tape) known
  known_one (Takes m) met tape known = known
  known_one (Sends m) met tape known = known
  known_one (Unsends m) met tape known = known_stood tape _ met (items_later c nodes' (shown me (Unsends m)) tape) known
  known_one (Grants node epoch) met tape known = known_stood tape _ met (items_later c nodes' (shown me (Grants node epoch)) tape) known
  known_one (Lapses node epoch) met tape known = known_stood tape _ met (items_later c nodes' (shown me (Lapses node epoch)) tape) known
  known_one (Counts cell epoch) met tape known = known_stood tape _ met (items_later c nodes' (shown me (Counts cell epoch)) tape) known
  known_one (Forgets cell epoch) met tape known = known_stood tape _ met (items_later c nodes' (shown me (Forgets cell epoch)) tape) known
  known_one (Serves epoch) met tape known = known_stood tape _ met (items_later c nodes' (shown me (Serves epoch)) tape) known
  known_one (Loses epoch) met tape known = known_stood tape _ met (items_later c nodes' (shown me (Loses epoch)) tape) known
  known_one (Validates g p) met tape known = known_stood tape _ met (items_later c nodes' (shown me (Validates g p)) tape) known
  known_one (Invalidates g p) met tape known = known_stood tape _ met (items_later c nodes' (shown me (Invalidates g p)) tape) known
  known_one (Applies g p) met tape known = known_stood tape _ met (items_later c nodes' (shown me (Applies g p)) tape) known
  known_one (Answers op answer) met tape known = known_stood tape _ met (items_later c nodes' (shown me (Answers op answer)) tape) known

  pub known_notes : (notes met : List Met) (tape : List Item) → Known me met tape → Known me (onto notes met) (with_items c nodes' tape (flat_map (shown me) notes))
  known_notes [] met tape known = known
  known_notes (note ∷ notes) met tape known = subst (Known me (onto notes (note ∷ met))) (sym (with_append c nodes' (shown me note) (flat_map (shown me) notes) tape))
      (known_notes notes (note ∷ met) (with_items c nodes' tape (shown me note)) (known_one note met tape known))
