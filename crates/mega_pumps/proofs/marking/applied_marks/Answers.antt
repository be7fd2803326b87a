use Rattle.std.proofs.Common.{◌≡◌, ◌∙◌, ◌++◌, ◌∷◌, [], ◌+◌, List, ap, sym, drop, arith, refl, append-nil}
use Rattle.std.specs.Prelude.{filter_map, map, length}
use Rattle.std.proofs.lemmas.List.{drop_all, drop_more}
use Rattle.mega_base.specs.declared.names.GroupId.{GroupId}
use Rattle.mega_outcome.specs.declared.answer.Mark.{Mark}
use Rattle.mega_rules.specs.Acting.{applied_in, mark_of}
use Rattle.mega_rules.specs.Logs.{log_of}
use Rattle.mega_voter.specs.Journal.{journal_of}
use Rattle.mega_node_laws.proofs.Logs.{log_is}
use Rattle.mega_pumps.proofs.Marked.{mark_more}
use Rattle.mega_pumps.proofs.marking.applied_marks.Goals as goal

pub loop-group-preserved : goal.loop-group-preserved
loop-group-preserved g c = λ now tells follows.
    let groups = c.args.groups.now in
    let at = c.loop-group.group-index in
    let group = c.group-item.result in
    let marks = c.loop-group.marks in
    let first : drop at groups ≡ group ∷ drop (at + 1) groups = drop_more groups at group c.loop-group-test.true ∙ ap (λ (one : GroupId). one ∷ drop (at + 1) groups) (sym c.group-item.is) in
    let is = c.applied-applied.ensures (journal_of now.met) (log_of now.met) now.stored tells.journal (log_is now.met group) follows in
    ap (λ (more : List Mark). more ++ filter_map mark_of (map (applied_in now) (drop (at + 1) groups))) c.in_ok-add_mark.ensures
    ∙ sym (mark_more now group (drop (at + 1) groups) c.applied-applied.result.0 marks is)
    ∙ ap (λ (left : List GroupId). marks ++ filter_map mark_of (map (applied_in now) left)) (sym first)
    ∙ c.loop-group.invariant now tells follows

pub returns : goal.returns
returns g c = λ now tells follows is.
    let groups = c.args.groups.now in
    let at = c.loop-group.group-index in
    let test = c.loop-group-test.false in
    let none : drop at groups ≡ [] = drop_all at groups (omega (arith, test)) in
    sym (append-nil c.loop-group.marks)
    ∙ ap (λ (left : List GroupId). c.loop-group.marks ++ filter_map mark_of (map (applied_in now) left)) (sym none)
    ∙ c.loop-group.invariant now tells follows
    ∙ ap (λ (all : List GroupId). filter_map mark_of (map (applied_in now) all)) is
