use Rattle.std.proofs.Common.{◌≡◌, ◌∙◌, ◌++◌, [], List, ap, sym, flat_map, append_assoc, append-nil, rules}
use Rattle.std.specs.Vec.Iter.{into_iter_items, into_iter_len}
use Rattle.std.proofs.lemmas.List.{nil_from_length}
use Rattle.mega_base.specs.declared.names.GroupId.{GroupId}
use Rattle.mega_wire.specs.declared.message.Message.{Message}
use Rattle.mega_rules.specs.Steps.{fetches_for}
use Rattle.mega_rules.proofs.Left.{one_less}
use Rattle.mega_step_parts.proofs.fetching.all_fetches.Goals as goal

pub loop-group-init : goal.loop-group-init
loop-group-init g c = record {
  count = search rules;
  all = λ s met cluster me tells.
      ap (λ (sends : List Message). sends ++ flat_map (fetches_for s met) (into_iter_items c.into_iter-group-iterator.result)) c.new-sends.ensures
      ∙ ap (λ (groups : List GroupId). flat_map (fetches_for s met) groups) (c.into_iter-group-iterator.ensures.into_iter_gives.0 ∙ c.in_ok-groups.ensures met tells);
}

pub loop-group-preserved : goal.loop-group-preserved
loop-group-preserved g c = record {
  count = one_less (into_iter_items c.loop-group.group-iterator) (into_iter_items c.next.new.self) c.in-Some.group (into_iter_len c.loop-group.group-iterator) (into_iter_len c.next.new.self) c.loop-group.invariant.count c.in-Some.ensures.steps.0 c.in-Some.ensures.steps.1;
  all = λ s met cluster me tells.
      let rest = flat_map (fetches_for s met) (into_iter_items c.next.new.self) in
      ap (λ (sends : List Message). sends ++ rest) c.in_ok-add_sends.ensures
      ∙ (append_assoc c.loop-group.sends c.in_ok-more.more rest
      ∙ (ap (λ (more : List Message). c.loop-group.sends ++ (more ++ rest)) (c.in_ok-more.ensures s met cluster me tells)
      ∙ (ap (λ (groups : List GroupId). c.loop-group.sends ++ flat_map (fetches_for s met) groups) (sym c.in-Some.ensures.steps.0)
      ∙ c.loop-group.invariant.all s met cluster me tells)));
}

pub returns : goal.returns
returns g c = λ s met cluster me tells.
    let none : into_iter_items c.loop-group.group-iterator ≡ [] = nil_from_length (into_iter_items c.loop-group.group-iterator) (sym c.loop-group.invariant.count ∙ c.in-None.ensures.steps.0) in
    sym (append-nil c.loop-group.sends)
    ∙ (ap (λ (groups : List GroupId). c.loop-group.sends ++ flat_map (fetches_for s met) groups) (sym none)
    ∙ c.loop-group.invariant.all s met cluster me tells)
