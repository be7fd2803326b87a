use Rattle.std.proofs.Common.{◌≡◌, ◌∙◌, ◌++◌, [], List, ap, append-nil, append_assoc, refl, rules, sym}
use Rattle.std.specs.Vec.Iter.{into_iter_items, into_iter_len}
use Rattle.std.proofs.lemmas.List.{nil_from_length}
use Rattle.mega_base.specs.declared.names.GroupId.{GroupId}
use Rattle.mega_outcome.specs.declared.answer.Mark.{Mark}
use Rattle.mega_rules.specs.Finding.{mark_at}
use Rattle.mega_rules.specs.Logs.{groups_of, log_of}
use Rattle.mega_rules.specs.Steps.{applied_at}
use Rattle.mega_voter.specs.Journal.{journal_of}
use Rattle.mega_node_laws.proofs.Logs.{log_is}
use Rattle.mega_marks.proofs.Applied.{all_applied, mark_applied, marks_applied}
use Rattle.mega_rules.proofs.Left.{one_less}
use Rattle.mega_marks.proofs.moving.applied_marks.Goals as goal

pub loop-group-init : goal.loop-group-init
loop-group-init g c = record {
  count = search rules;
  marked = λ now tells follows. (λ i. c.new-marks.ensures i ++ marks_applied now ((c.into_iter-group-iterator.ensures.into_iter_gives.0 ∙ c.in_ok-groups.ensures now.met tells) i));
}

pub loop-group-preserved : goal.loop-group-preserved
loop-group-preserved g c = record {
  count = one_less (into_iter_items c.loop-group.group-iterator) (into_iter_items c.next.new.self) c.in-Some.group (into_iter_len c.loop-group.group-iterator) (into_iter_len c.next.new.self) c.loop-group.invariant.count c.in-Some.ensures.steps.0 c.in-Some.ensures.steps.1;
  marked = λ now tells follows.
      let group = c.in-Some.group in
      let before = c.loop-group.marks in
      let left = into_iter_items c.next.new.self in
      let count : c.applied-position.result.0 ≡ applied_at now.met now.stored group = c.applied-position.ensures (journal_of now.met) (log_of now.met) now.stored tells.journal (log_is now.met group) follows in
      ap (λ (some : List Mark). some ++ marks_applied now left) (c.in_ok-add.ensures ∙ (λ i. before ++ mark_at group (count i)))
      ∙ append_assoc before (mark_applied now group) (marks_applied now left)
      ∙ ap (λ (some : List GroupId). before ++ marks_applied now some) (sym c.in-Some.ensures.steps.0)
      ∙ c.loop-group.invariant.marked now tells follows;
}

pub returns : goal.returns
returns g c now tells follows =
    let none : into_iter_items c.loop-group.group-iterator ≡ [] = nil_from_length (into_iter_items c.loop-group.group-iterator) (sym c.loop-group.invariant.count ∙ c.in-None.ensures.steps.0) in
    sym (append-nil c.loop-group.marks)
    ∙ ap (λ (left : List GroupId). c.loop-group.marks ++ marks_applied now left) (sym none)
    ∙ c.loop-group.invariant.marked now tells follows
    ∙ all_applied now (groups_of now.met) refl
