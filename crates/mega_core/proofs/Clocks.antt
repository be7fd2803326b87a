-- A tick, as far as the operations act, and its step.
use Rattle.std.proofs.Common.{◌≡◌, ℕ, min, List, ◌∷◌, ◌++◌, fold, refl, sym, ap, subst, ◌∙◌}
use Rattle.std.specs.List.{All}
use Rattle.std.proofs.lemmas.List.Elements.{All-nil}
use Rattle.mega_base.specs.declared.names.GroupId.{GroupId}
use Rattle.mega_disk.specs.VersionMaps.{Versions}
use Rattle.mega_wal.specs.declared.kept.Kept.{Kept}
use Rattle.mega_wire.specs.declared.message.Message.{Message}
use Rattle.mega_rules.specs.Met.{Ticks}
use Rattle.mega_rules.specs.Clock.{begun_of, last_number}
use Rattle.mega_rules.specs.Coordinators.{acquires_at}
use Rattle.mega_rules.specs.Operations.{Node, Now, Operation, Setting}
use Rattle.mega_rules.specs.Steps.{Step, Tick, at_first, background, lapse_notes, lease_notes, onto, portion_of, step, ticked}
use Rattle.mega_step_parts.specs.of_voter.Telling.{Tells}
use Rattle.mega_step_parts.specs.of_leases.declared.leases.Leases.{Leases}
use Rattle.mega_replica.specs.declared.progress.Progress.{Progress}
use Rattle.mega_actions.specs.of_node_laws.About.{IsAbout}
use Rattle.mega_actions.specs.of_node_laws.Acted.{acted_on}
use Rattle.mega_actions.specs.of_node_laws.Sending.{MaySend}
use Rattle.mega_actions.proofs.of_node_laws.Sent.{step_may}
use Rattle.mega_rules.specs.Finding.{refreshed_marks}
use Rattle.mega_actions.specs.of_marks.declared.indexed.Indexed.{Indexed}
use Rattle.mega_actions.specs.of_pumps.declared.digest.Digest.{Digest}
use Rattle.mega_actions.specs.of_marks.AreMarked.{AreMarked}
use Rattle.mega_actions.specs.StandsAt.{StandsAt}
use Rattle.mega_actions.specs.Turns.{IsServable}
use Rattle.mega_actions.specs.of_step_work.Working.{work_of}
use Rattle.mega_actions.specs.of_step_work.declared.work.Work.{Work}
use Rattle.mega_core.specs.Acted.{HasActed, IsEnd, IsValidate, ended}
use Rattle.mega_node_events.specs.Kind.{FitsKind}
use Rattle.mega_node_events.specs.Represents.{Represents}
use Rattle.mega_node_events.specs.Ticking.{has_ticked}
use Rattle.mega_core.proofs.Fitting.{tick_fits}
use Rattle.mega_core.proofs.Quiet.{all_ticked_it}
use Rattle.mega_core.proofs.Unshown.{acted_marked, lapses_unshown, leases_unshown}
use Rattle.mega_core.proofs.Walked.{all_ticked_acted, all_ticked_served}

module _ (s : Setting) (node : Node) (now : ℕ) where
  abbrev ticking_from : Now
  ticking_from = at_first (acted_on s node (Tick now)) (portion_of s node.met node.stored)

  pub tick_acts : {indexed0 indexed2 : Indexed} {digest0 digest2 : Digest} (t1 t2 : Setting) (kept0 kept kept2 : Kept) (leases0 leases2 : Leases) (version0 version2 : Versions) (progress0 progress2 : GroupId → Progress) (open_ones : List Operation) (begun : ℕ) (work : Work) (operations : List Operation)
      → Represents s kept0 leases0 indexed0 digest0 version0 progress0 open_ones begun node → operations ≡ node.open_operations → t1 ≡ s → t2 ≡ t1 → kept2 ≡ kept → indexed2 ≡ indexed0
      → begun_of (acted_on s node (Tick now)) ≡ begun_of node.met
      → Tells kept (acted_on s node (Tick now))
      → StandsAt t2 kept2 leases2 digest2 version2 progress2 (fold (ticked t1 now) ticking_from operations).met (fold (ticked t1 now) ticking_from operations).stored
      → work ≡ work_of (fold (ticked t1 now) ticking_from operations)
      → HasActed t2 kept2 leases2 indexed2 digest2 version2 progress2 begun work (acted_on s node (Tick now)) (has_ticked s node now)
  tick_acts {indexed0} {indexed2} {digest0} {digest2} t1 t2 kept0 kept kept2 leases0 leases2 version0 version2 progress0 progress2 open_ones begun work operations h opened t1_is t2_is kept_is indexed_is stays tells stands worked =
      let after = coe 0 1 (i. StandsAt t2 kept2 leases2 digest2 version2 progress2 (fold (ticked (t1_is i) now) ticking_from (opened i)).met (fold (ticked (t1_is i) now) ticking_from (opened i)).stored) stands in
      let about = subst (All IsAbout) (sym h.opened) h.about in
      let built = subst (All IsServable) (sym h.opened) h.built in
      record {
        kind = subst (λ (one : Setting). FitsKind one.cluster one.me (has_ticked s node now).kept (has_ticked s node now).stored) (sym (t2_is ∙ t1_is)) (tick_fits s node now (subst (λ (os : List Operation). FitsKind s.cluster s.me os node.stored) (sym h.opened) h.kind));
        tells = subst (λ (one : Kept). Tells one (acted_on s node (Tick now))) (sym kept_is) tells;
        leased = after.stands.leased;
        follows = after.stands.follows;
        marked = coe 1 0 (i. AreMarked ((t2_is ∙ t1_is) i).cluster.schema (indexed_is i) (acted_on s node (Tick now)) (refreshed_marks (onto (has_ticked s node now).answers (acted_on s node (Tick now)))))
            (acted_marked s.cluster.schema indexed0 node (Ticks now) (lease_notes s node.met now) (lapse_notes s node.met now) (has_ticked s node now).answers refl
            (leases_unshown s node.met now) (lapses_unshown s node.met now) (all_ticked_it s now node.open_operations ticking_from refl) h.marked);
        noted = after.noted;
        acted = all_ticked_acted s (acted_on s node (Tick now)) now node.open_operations ticking_from about (record { met_is = refl; valid = All-nil IsValidate; answers = All-nil IsEnd; about = All-nil IsAbout });
        built = all_ticked_served s now node.open_operations ticking_from built (All-nil IsServable);
        begun_is = h.begun_is ∙ ap (λ (n : ℕ). min n last_number) (sym stays);
        work_is = worked ∙ (λ i. work_of (fold (ticked (t1_is i) now) ticking_from (opened i)));
      }

  pub tick_is : (t : Setting) (opening closing : List Message) → t ≡ s → opening ≡ acquires_at s.cluster s.me node.met now → closing ≡ background s node.met now
      → ended t node (Ticks now) (lease_notes s node.met now) (lapse_notes s node.met now) ((opening ++ (has_ticked s node now).sends) ++ closing) (has_ticked s node now) ≡ step s node (Tick now)
  tick_is t opening closing t_is first last =
      (λ i. ended (t_is i) node (Ticks now) (lease_notes s node.met now) (lapse_notes s node.met now) ((first i ++ (has_ticked s node now).sends) ++ last i) (has_ticked s node now))

  pub tick_may : (st : Step) → st ≡ step s node (Tick now) → MaySend (onto st.notes (Ticks now ∷ node.met)) st.sends
  tick_may st is = subst (λ (one : Step). MaySend (onto one.notes (Ticks now ∷ node.met)) one.sends) (sym is) (step_may s node (Tick now))
