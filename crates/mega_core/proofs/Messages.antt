-- A message that is taken, as far as the operations act.
use Rattle.std.proofs.Common.{◌≡◌, ℕ, min, List, [], ◌∷◌, ◌++◌, map, append-nil, Option, Some, None, refl, sym, ap, subst, ◌∙◌}
use Rattle.std.specs.List.{All}
use Rattle.std.proofs.lemmas.List.Elements.{All-nil}
use Rattle.mega_base.specs.declared.names.GroupId.{GroupId}
use Rattle.mega_disk.specs.VersionMaps.{Versions}
use Rattle.mega_wal.specs.declared.kept.Kept.{Kept}
use Rattle.mega_wire.specs.declared.message.Message.{Message}
use Rattle.mega_rules.specs.Met.{Takes}
use Rattle.mega_rules.specs.Clock.{clock_of, last_number}
use Rattle.mega_rules.specs.Operations.{Node, Now, Operation, Setting}
use Rattle.mega_rules.specs.Replies.{reply_to}
use Rattle.mega_rules.specs.Steps.{Decision, Heard, Step, Take, all_act, at_first, decision_note, first_settled, hears_message, if_new, news, onto, step, stored_after, taken, told_decision, told_notes}
use Rattle.mega_step_parts.specs.of_voter.Telling.{Tells}
use Rattle.mega_step_parts.specs.of_leases.declared.leases.Leases.{Leases}
use Rattle.mega_replica.specs.declared.progress.Progress.{Progress}
use Rattle.mega_actions.specs.of_node_laws.Acted.{acted_on, decision_in, or_settled}
use Rattle.mega_actions.specs.of_node_laws.Sending.{MaySend}
use Rattle.mega_actions.proofs.of_node_laws.Sent.{step_may}
use Rattle.mega_actions.specs.of_node_laws.About.{IsAbout}
use Rattle.mega_rules.specs.Finding.{refreshed_marks}
use Rattle.mega_actions.specs.of_marks.declared.indexed.Indexed.{Indexed}
use Rattle.mega_actions.specs.of_pumps.declared.digest.Digest.{Digest}
use Rattle.mega_actions.specs.of_marks.AreMarked.{AreMarked}
use Rattle.mega_actions.specs.StandsAt.{StandsAt}
use Rattle.mega_actions.specs.Turns.{IsServable, IsServableHeard, IsHeardAbout}
use Rattle.mega_actions.specs.of_step_work.Working.{work_of}
use Rattle.mega_actions.specs.of_step_work.declared.work.Work.{Work}
use Rattle.mega_core.specs.Acted.{HasActed, IsEnd, IsValidate, ended}
use Rattle.mega_node_events.specs.Kind.{FitsKind}
use Rattle.mega_node_events.specs.Represents.{Represents}
use Rattle.mega_core.proofs.Fitting.{take_fits}
use Rattle.mega_core.proofs.Quiet.{all_act_it}
use Rattle.mega_core.proofs.Unshown.{acted_marked, decision_unshown, told_unshown}
use Rattle.mega_core.proofs.Walked.{all_acted, all_heard_built, all_served, heard_about}
use Rattle.mega_node_events.specs.Taking.{has_taken}
use Rattle.mega_step_parts.specs.News.{news_by}
use Rattle.mega_node_events.proofs.Deciding.{taken_begun}

module _ (s : Setting) (node : Node) (m : Message) where
  abbrev heard_by : List Heard
  heard_by = map (hears_message s (clock_of node.met) m) node.open_operations

  -- ---- the step

  abbrev take_by : (told : Option Decision) → Step
  take_by (Some d) = taken s node m (told_notes s node.met m.from m.body) heard_by (if_new node.met (Some d)) (reply_to s.cluster s.me node.met m) []
  take_by None =
      taken s node m (told_notes s node.met m.from m.body) heard_by (if_new node.met (first_settled heard_by)) (reply_to s.cluster s.me node.met m) (news s (if_new node.met (first_settled heard_by)))

  take_is_by : (told : Option Decision)
      → take_by told ≡ taken s node m (told_notes s node.met m.from m.body) heard_by (if_new node.met (or_settled told (first_settled heard_by))) (reply_to s.cluster s.me node.met m) (news_by s told (if_new node.met (or_settled told (first_settled heard_by))))
  take_is_by (Some d) = refl
  take_is_by None = refl

  pub take_is : (t : Setting) (opening closing : List Message) → t ≡ s → opening ≡ reply_to s.cluster s.me node.met m ++ news_by s (told_decision m.body) (decision_in s node m) → closing ≡ []
      → ended t node (Takes m) (told_notes s node.met m.from m.body) (decision_note (decision_in s node m)) ((opening ++ (has_taken s node m).sends) ++ closing) (has_taken s node m) ≡ step s node (Take m)
  take_is t opening closing t_is first last =
      (λ i. ended (t_is i) node (Takes m) (told_notes s node.met m.from m.body) (decision_note (decision_in s node m)) ((first i ++ (has_taken s node m).sends) ++ last i) (has_taken s node m))
      ∙ (ap (λ (sends : List Message). ended s node (Takes m) (told_notes s node.met m.from m.body) (decision_note (decision_in s node m)) sends (has_taken s node m)) (append-nil ((reply_to s.cluster s.me node.met m ++ news_by s (told_decision m.body) (decision_in s node m)) ++ (has_taken s node m).sends))
      ∙ sym (take_is_by (told_decision m.body)))

  pub take_may : (st : Step) → st ≡ step s node (Take m) → MaySend (onto st.notes (Takes m ∷ node.met)) st.sends
  take_may st is = subst (λ (one : Step). MaySend (onto one.notes (Takes m ∷ node.met)) one.sends) (sym is) (step_may s node (Take m))

  -- ---- and then the operations act

  abbrev acting_from : Now
  acting_from = at_first (acted_on s node (Take m)) (stored_after s (acted_on s node (Take m)) node.stored (decision_in s node m))

  pub take_acts : {indexed0 indexed2 : Indexed} {digest0 digest2 : Digest} (t1 t2 : Setting) (kept0 kept kept2 : Kept) (leases0 leases2 : Leases) (version0 version2 : Versions) (progress0 progress2 : GroupId → Progress) (open_ones : List Operation) (begun : ℕ) (work : Work) (heard : List Heard)
      → Represents s kept0 leases0 indexed0 digest0 version0 progress0 open_ones begun node → heard ≡ heard_by → t1 ≡ s → t2 ≡ t1 → kept2 ≡ kept → indexed2 ≡ indexed0
      → Tells kept (acted_on s node (Take m))
      → StandsAt t2 kept2 leases2 digest2 version2 progress2 (all_act t1 acting_from heard).met (all_act t1 acting_from heard).stored
      → work ≡ work_of (all_act t1 acting_from heard)
      → HasActed t2 kept2 leases2 indexed2 digest2 version2 progress2 begun work (acted_on s node (Take m)) (has_taken s node m)
  take_acts {indexed0} {indexed2} {digest0} {digest2} t1 t2 kept0 kept kept2 leases0 leases2 version0 version2 progress0 progress2 open_ones begun work heard h heard_is t1_is t2_is kept_is indexed_is tells stands worked =
      let after = coe 0 1 (i. StandsAt t2 kept2 leases2 digest2 version2 progress2 (all_act (t1_is i) acting_from (heard_is i)).met (all_act (t1_is i) acting_from (heard_is i)).stored) stands in
      let about = subst (All IsAbout) (sym h.opened) h.about in
      let built = subst (All IsServable) (sym h.opened) h.built in
      record {
        kind = subst (λ (one : Setting). FitsKind one.cluster one.me (has_taken s node m).kept (has_taken s node m).stored) (sym (t2_is ∙ t1_is)) (take_fits s node m (subst (λ (os : List Operation). FitsKind s.cluster s.me os node.stored) (sym h.opened) h.kind));
        tells = subst (λ (one : Kept). Tells one (acted_on s node (Take m))) (sym kept_is) tells;
        leased = after.stands.leased;
        follows = after.stands.follows;
        marked = coe 1 0 (i. AreMarked ((t2_is ∙ t1_is) i).cluster.schema (indexed_is i) (acted_on s node (Take m)) (refreshed_marks (onto (has_taken s node m).answers (acted_on s node (Take m)))))
            (acted_marked s.cluster.schema indexed0 node (Takes m) (told_notes s node.met m.from m.body) (decision_note (decision_in s node m)) (has_taken s node m).answers refl
            (told_unshown s node.met m.from m.body) (decision_unshown (decision_in s node m)) (all_act_it s heard_by acting_from refl) h.marked);
        noted = after.noted;
        acted = all_acted s (acted_on s node (Take m)) (clock_of node.met) m node.open_operations acting_from about (record { met_is = refl; valid = All-nil IsValidate; answers = All-nil IsEnd; about = All-nil IsAbout });
        built = all_served s heard_by acting_from (all_heard_built s (clock_of node.met) m node.open_operations built) (All-nil IsServable);
        begun_is = h.begun_is ∙ ap (λ (n : ℕ). min n last_number) (sym (taken_begun s node m));
        work_is = worked ∙ (λ i. work_of (all_act (t1_is i) acting_from (heard_is i)));
      }

  pub heard_are_about : {indexed : Indexed} {digest : Digest} (kept : Kept) (leases : Leases) (version : Versions) (progress : GroupId → Progress) (open_ones : List Operation) (begun : ℕ) (heard : List Heard)
      → Represents s kept leases indexed digest version progress open_ones begun node → heard ≡ heard_by → All IsHeardAbout heard
  heard_are_about kept leases version progress open_ones begun heard h is = subst (All IsHeardAbout) (sym is) (heard_about s (clock_of node.met) m node.open_operations (subst (All IsAbout) (sym h.opened) h.about))

  pub heard_are_built : {indexed : Indexed} {digest : Digest} (kept : Kept) (leases : Leases) (version : Versions) (progress : GroupId → Progress) (open_ones : List Operation) (begun : ℕ) (heard : List Heard)
      → Represents s kept leases indexed digest version progress open_ones begun node → heard ≡ heard_by → All IsServableHeard heard
  heard_are_built kept leases version progress open_ones begun heard h is = subst (All IsServableHeard) (sym is) (all_heard_built s (clock_of node.met) m node.open_operations (subst (All IsServable) (sym h.opened) h.built))
