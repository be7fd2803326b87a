-- What a tape tells of a node, item by item, is what the node met, in each form that an event takes.
use Rattle.std.proofs.Common.{◌≡◌, ℕ, ◌+◌, ◌==◌, Bool, true, false, cond, List, [], ◌∷◌, map, flat_map, refl, sym, ap, ◌∙◌}
use Rattle.mega_cluster.specs.declared.cluster.Cluster.{Cluster}
use Rattle.mega_lease_laws.specs.of_run_laws.of_tape_laws.of_promises.of_transcript.declared.item.Item.{Item}
use Rattle.mega_lease_laws.specs.of_run_laws.of_tape_laws.of_promises.of_transcript.declared.item.Item.TheVariants.{Crash, Cut as CutItem, Dropped}
use Rattle.mega_lease_laws.specs.of_run_laws.of_tape_laws.of_promises.of_transcript.Tape.{sent_count}
use Rattle.mega_lease_laws.specs.of_run_laws.of_tape_laws.of_promises.Items.{number, shown}
use Rattle.mega_lease_laws.specs.of_run_laws.of_tape_laws.of_promises.Runs.{set_at, with_items}
use Rattle.mega_lease_laws.specs.of_run_laws.of_tape_laws.of_promises.of_rules.Met.{Met, Crashes, Sends}
use Rattle.mega_lease_laws.specs.of_run_laws.of_tape_laws.of_promises.of_rules.Operations.{Node}
use Rattle.mega_lease_laws.specs.of_run_laws.of_tape_laws.of_promises.of_rules.Steps.{Step, onto}
use Rattle.mega_lease_laws.proofs.of_run_laws.of_tape_laws.Ballots.{number_is}
use Rattle.mega_lease_laws.proofs.of_run_laws.Runs.{IsMark}
use Rattle.mega_valid_laws.proofs.Folds.{IsOwn, IsOwnNote, TapeFold, after, notes_told, sends_after, sends_told}
pub use Rattle.mega_valid_laws.proofs.Shows.{step_met}
use Rattle.mega_leased_laws.proofs.Forms.{stepped}

module _ {X : Type 0} (on : List Item → ℕ → X) (next : Met → X → X) (told : TapeFold X on next) (met_of : List Met → X) (each : (one : Met) (met : List Met) → met_of (one ∷ met) ≡ next one (met_of met)) where
  pub met_after : (notes met : List Met) → met_of (onto notes met) ≡ after on next told notes (met_of met)
  met_after [] met = refl
  met_after (one ∷ notes) met = met_after notes (one ∷ met) ∙ ap (after on next told notes) (each one met)

  module _ (c : Cluster) (tape : List Item) (nodes : ℕ → Node) (h : (v : ℕ) → on tape v ≡ met_of (nodes v).met) where
    -- notes of one node on a tape that tells the same
    pub told_notes_of : (those : ℕ → Node) (me : ℕ) (node : Node) (t : List Item) (met notes : List Met) → ((v : ℕ) → on t v ≡ on tape v) → met_of met ≡ met_of (nodes me).met → met_of node.met ≡ met_of (onto notes met)
        → (v : ℕ) → on (with_items c those t (flat_map (shown me) notes)) v ≡ met_of (set_at nodes me node v).met
    told_notes_of those me node t met notes same own is v = notes_told on next told c those me v notes t ∙ by (me == v) refl
      where
        by : (b : Bool) → (me == v) ≡ b → cond b (after on next told notes (on t v)) (on t v) ≡ met_of (cond b node (nodes v)).met
        by true e = ap (after on next told notes) (same v ∙ h v ∙ ap (λ w. met_of (nodes w).met) (sym (number_is me v e)) ∙ sym own) ∙ sym (met_after notes met) ∙ sym is
        by false e = same v ∙ h v

    pub steps_told : (those : ℕ → Node) (me : ℕ) (item : Item) (own : Met) (made : Step) → IsOwn item → IsOwnNote own → (made.node).met ≡ onto (map Sends made.sends) (onto made.notes (own ∷ (nodes me).met))
        → (v : ℕ) → on (stepped c those me tape item made) v ≡ met_of (set_at nodes me made.node v).met
    steps_told those me item own made is_own is_note is v =
        sends_told on next told (sent_count tape + 1) made.sends (with_items c those (item ∷ tape) (flat_map (shown me) made.notes)) v
        ∙ told_notes_of those me made.node (item ∷ tape) (own ∷ (nodes me).met) made.notes (λ w. told.own item is_own tape w) (each own (nodes me).met ∙ told.own_note own is_note (met_of (nodes me).met))
        (ap met_of is ∙ met_after (map Sends made.sends) (onto made.notes (own ∷ (nodes me).met)) ∙ sends_after on next told made.sends (met_of (onto made.notes (own ∷ (nodes me).met)))) v

    pub cuts_told : (me : ℕ) (item : Item) (own : Met) (node : Node) → IsOwn item → IsOwnNote own → node.met ≡ Crashes ∷ own ∷ (nodes me).met → (v : ℕ) → on (Crash (number me) ∷ item ∷ tape) v ≡ met_of (set_at nodes me node v).met
    cuts_told me item own node is_own is_note is v =
        told_notes_of nodes me node (item ∷ tape) (own ∷ (nodes me).met) (Crashes ∷ []) (λ w. told.own item is_own tape w) (each own (nodes me).met ∙ told.own_note own is_note (met_of (nodes me).met)) (ap met_of is) v

    pub starts_told : (those : ℕ → Node) (me : ℕ) (node : Node) (notes : List Met) → node.met ≡ onto notes (nodes me).met → (v : ℕ) → on (with_items c those tape (flat_map (shown me) notes)) v ≡ met_of (set_at nodes me node v).met
    starts_told those me node notes is v = told_notes_of those me node tape (nodes me).met notes (λ w. refl) refl (ap met_of is) v

    pub falls_told : (me : ℕ) (node : Node) → node.met ≡ Crashes ∷ (nodes me).met → (v : ℕ) → on (Crash (number me) ∷ tape) v ≡ met_of (set_at nodes me node v).met
    falls_told me node is v = told_notes_of nodes me node tape (nodes me).met (Crashes ∷ []) (λ w. refl) refl (ap met_of is) v

    pub marks_told : (item : Item) → IsMark item → (v : ℕ) → on (item ∷ tape) v ≡ met_of (nodes v).met
    marks_told (Dropped j) is v = told.own (Dropped j) tt tape v ∙ h v
    marks_told CutItem is v = told.own CutItem tt tape v ∙ h v
    marks_told _ is v = absurd is
