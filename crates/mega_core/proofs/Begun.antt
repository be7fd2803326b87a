-- An operation that begins, and its step.
use Rattle.std.proofs.Common.{◌≡◌, ℕ, true, List, [], ◌∷◌, ◌++◌, append-nil, Option, None, refl, sym, ap, subst, ◌∙◌}
use Rattle.std.specs.List.{All}
use Rattle.std.proofs.lemmas.List.Elements.{All-nil}
use Rattle.mega_base.specs.declared.names.GroupId.{GroupId}
use Rattle.mega_base.specs.declared.names.OpId.{OpId}
use Rattle.mega_disk.specs.VersionMaps.{Versions}
use Rattle.mega_wal.specs.declared.kept.Kept.{Kept}
use Rattle.mega_wire.specs.declared.message.Message.{Message}
use Rattle.mega_outcome.specs.declared.answer.Answer.{Answer}
use Rattle.mega_outcome.specs.declared.request.Request.{Request}
use Rattle.mega_rules.specs.Met.{Begins, Met}
use Rattle.mega_rules.specs.Clock.{clock_of}
use Rattle.mega_rules.specs.Logs.{log_of}
use Rattle.mega_rules.specs.Operations.{Node, Now, Operation, Setting}
use Rattle.mega_rules.specs.Steps.{Begin, Step, begin_step, new_operation, onto, op_of, refusal, unless_refused}
use Rattle.mega_step_parts.specs.of_voter.Telling.{Tells}
use Rattle.mega_step_parts.proofs.of_voter.KeptTells.{silent_told}
use Rattle.mega_step_parts.specs.of_leases.declared.leases.Leases.{Leases}
use Rattle.mega_step_parts.proofs.of_leases.Shown.{apart}
use Rattle.mega_replica.specs.declared.progress.Progress.{Progress}
use Rattle.mega_actions.specs.of_node_laws.About.{IsAbout}
use Rattle.mega_actions.specs.of_node_laws.Own.{HasOwnRows}
use Rattle.mega_actions.specs.of_node_laws.Sending.{MaySend}
use Rattle.mega_actions.proofs.of_node_laws.Followed.{follows_more}
use Rattle.mega_actions.proofs.of_node_laws.Sent.{step_may}
use Rattle.mega_rules.specs.Finding.{refreshed_marks}
use Rattle.mega_actions.specs.of_marks.declared.indexed.Indexed.{Indexed}
use Rattle.mega_actions.specs.of_pumps.declared.digest.Digest.{Digest}
use Rattle.mega_actions.specs.of_marks.AreMarked.{AreMarked, IsIndexed}
use Rattle.mega_actions.proofs.of_marks.Growing.{marked_after}
use Rattle.mega_actions.specs.of_step_work.Servable.{is_served}
use Rattle.mega_actions.specs.StandsAt.{StandsAt}
use Rattle.mega_actions.specs.Turns.{IsServable}
use Rattle.mega_actions.specs.of_step_work.Working.{work_of}
use Rattle.mega_actions.specs.of_step_work.declared.work.Work.{Work}
use Rattle.mega_core.specs.Acted.{Acted, HasActed, IsEnd, IsValidate, ended}
use Rattle.mega_node_events.specs.Beginning.{at_begin, has_begun, marks_unless}
use Rattle.mega_node_events.specs.Kind.{FitsKind}
use Rattle.mega_step_parts.specs.Behind.{Keeps}
use Rattle.mega_node_events.specs.Represents.{Represents}
use Rattle.mega_core.proofs.Fitting.{begin_fits}
use Rattle.mega_core.proofs.Quiet.{begun_marks, refusal_plain}
use Rattle.mega_core.proofs.Walked.{begun_acted, begun_served}

pub represents_keeps : {indexed : Indexed} {digest : Digest} (s : Setting) (kept : Kept) (leases : Leases) (version : Versions) (progress : GroupId → Progress) (open_ones : List Operation) (begun : ℕ) (node : Node)
    → Represents s kept leases indexed digest version progress open_ones begun node → Keeps kept version progress node.met node.stored
represents_keeps s kept leases version progress open_ones begun node h = record { tells = h.tells; follows = h.follows }

module _ (s : Setting) (node : Node) (request : Request) (text : List ℕ) where
  abbrev own : Met
  own = Begins (op_of s node.met) text

  -- where it begins all stands as before
  begins_on : {indexed : Indexed} {digest : Digest} (kept : Kept) (leases : Leases) (version : Versions) (progress : GroupId → Progress) (open_ones : List Operation) (begun : ℕ)
      → Represents s kept leases indexed digest version progress open_ones begun node → HasOwnRows s.cluster.schema (log_of (own ∷ node.met)) → StandsAt s kept leases digest version progress (own ∷ node.met) node.stored
  begins_on kept leases version progress open_ones begun h owned = record {
    stands = record {
      tells = (silent_told kept node.met own refl).0 h.tells;
      leased = apart s.cluster s.me leases own node.met refl h.leased;
      follows = follows_more version progress own node.met node.stored h.follows;
      owned = owned;
      small = h.kind.small;
    };
    noted = h.noted;
  }

  first_acted : {indexed : Indexed} {digest : Digest} (kept : Kept) (leases : Leases) (version : Versions) (progress : GroupId → Progress) (open_ones : List Operation) (begun : ℕ)
      → Represents s kept leases indexed digest version progress open_ones begun node → Acted (own ∷ node.met) (at_begin s node text)
  first_acted kept leases version progress open_ones begun h = record { met_is = refl; valid = All-nil IsValidate; answers = All-nil IsEnd; about = subst (All IsAbout) (sym h.opened) h.about }

  abbrev Standing : Kept → Leases → Digest → Versions → (GroupId → Progress) → Setting → Kept → Leases → Digest → Versions → (GroupId → Progress) → OpId → Option Answer → Type 0
  Standing kept leases digest version progress t kept2 leases2 digest2 version2 progress2 op refused =
      (now : Now) → StandsAt s kept leases digest version progress now.met now.stored
      → StandsAt t kept2 leases2 digest2 version2 progress2 (unless_refused s now (new_operation op request (clock_of now.met)) refused).met (unless_refused s now (new_operation op request (clock_of now.met)) refused).stored

  abbrev Working : Kept → Leases → Indexed → Digest → Versions → (GroupId → Progress) → Work → Work → OpId → Option Answer → Type 0
  Working kept leases indexed digest version progress before work op refused =
      (now : Now) → StandsAt s kept leases digest version progress now.met now.stored → IsIndexed s.cluster.schema indexed now.met → before ≡ work_of now
      → work ≡ work_of (unless_refused s now (new_operation op request (clock_of now.met)) refused)

  abbrev Marking : Kept → Leases → Indexed → Indexed → Digest → Versions → (GroupId → Progress) → Option Answer → Type 0
  Marking kept leases indexed indexed2 digest version progress refused =
      (now : Now) → StandsAt s kept leases digest version progress now.met now.stored → IsIndexed s.cluster.schema indexed now.met → AreMarked s.cluster.schema indexed2 now.met (marks_unless now request refused)

  pub begun_acts : {indexed indexed2 : Indexed} {digest digest2 : Digest} (kept kept2 : Kept) (leases leases2 : Leases) (version version2 : Versions) (progress progress2 : GroupId → Progress) (open_ones : List Operation) (begun : ℕ) (t : Setting)
      (op : OpId) (refused : Option Answer) (before work : Work)
      → Represents s kept leases indexed digest version progress open_ones begun node → HasOwnRows s.cluster.schema (log_of (own ∷ node.met))
      → t ≡ s → kept2 ≡ kept → op ≡ op_of s node.met → refused ≡ refusal s node request → before ≡ work_of (at_begin s node text) → (refused ≡ None → is_served request ≡ true)
      → Standing kept leases digest version progress t kept2 leases2 digest2 version2 progress2 op refused → Working kept leases indexed digest version progress before work op refused
      → Marking kept leases indexed indexed2 digest version progress refused
      → HasActed t kept2 leases2 indexed2 digest2 version2 progress2 op.number work (own ∷ node.met) (has_begun s node request text)
  begun_acts {indexed} {indexed2} {digest} {digest2} kept kept2 leases leases2 version version2 progress progress2 open_ones begun t op refused before work h owned t_is kept_is op_is refused_is before_is built stands works marks =
      let start = begins_on kept leases version progress open_ones begun h owned in
      let o = new_operation (op_of s node.met) request (clock_of node.met) in
      let marked = marked_after s.cluster.schema indexed (own ∷ []) node.met (refreshed_marks node.met) h.marked in
      let after = (coe 0 1 (i. Standing kept leases digest version progress t kept2 leases2 digest2 version2 progress2 (op_is i) (refused_is i)) stands) (at_begin s node text) start in
      record {
        kind = subst (λ (one : Setting). FitsKind one.cluster one.me (has_begun s node request text).kept (has_begun s node request text).stored) (sym t_is) (begin_fits s node request text (subst (λ (os : List Operation). FitsKind s.cluster s.me os node.stored) (sym h.opened) h.kind));
        tells = subst (λ (one : Kept). Tells one (own ∷ node.met)) (sym kept_is) start.stands.tells;
        leased = after.stands.leased;
        follows = after.stands.follows;
        marked = subst (λ (one : Setting). AreMarked one.cluster.schema indexed2 (own ∷ node.met) (refreshed_marks (onto (has_begun s node request text).answers (own ∷ node.met)))) (sym t_is)
            (subst (AreMarked s.cluster.schema indexed2 (own ∷ node.met)) (sym (begun_marks s (at_begin s node text) o (refusal s node request) (refusal_plain s node request) refl))
            ((coe 0 1 (i. Marking kept leases indexed indexed2 digest version progress (refused_is i)) marks) (at_begin s node text) start marked));
        noted = after.noted;
        acted = begun_acted s (own ∷ node.met) (at_begin s node text) o (refusal s node request) (first_acted kept leases version progress open_ones begun h);
        built = begun_served s (at_begin s node text) o (refusal s node request) (λ none. built (refused_is ∙ none)) (subst (All IsServable) (sym h.opened) h.built);
        begun_is = ap (λ (one : OpId). one.number) op_is;
        work_is = (coe 0 1 (i. Working kept leases indexed digest version progress before work (op_is i) (refused_is i)) works) (at_begin s node text) start marked before_is;
      }

  -- the step that ends so
  pub begin_is : (t : Setting) (opening closing : List Message) → t ≡ s → opening ≡ [] → closing ≡ []
      → ended t node own [] [] ((opening ++ (has_begun s node request text).sends) ++ closing) (has_begun s node request text) ≡ begin_step s node request text
  begin_is t opening closing t_is first last =
      (λ i. ended (t_is i) node own [] [] ((first i ++ (has_begun s node request text).sends) ++ last i) (has_begun s node request text))
      ∙ ap (λ (sends : List Message). ended s node own [] [] sends (has_begun s node request text)) (append-nil (has_begun s node request text).sends)

  pub begin_may : (st : Step) → st ≡ begin_step s node request text → MaySend (onto st.notes (own ∷ node.met)) st.sends
  begin_may st is = subst (λ (one : Step). MaySend (onto one.notes (own ∷ node.met)) one.sends) (sym is) (step_may s node (Begin request text))
