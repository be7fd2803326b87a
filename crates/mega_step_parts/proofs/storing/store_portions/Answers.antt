use Rattle.std.proofs.Common.{◌≡◌, ◌∙◌, ℕ, true, false, [], None, ap, subst, sym, rules}
use Rattle.std.specs.Vec.Iter.{into_iter_items, into_iter_len}
use Rattle.std.proofs.lemmas.List.{nil_from_length}
use Rattle.mega_base.specs.declared.names.GroupId.{GroupId}
use Rattle.mega_rules.specs.Logs.{log_of}
use Rattle.mega_replica.specs.Following.{Follows, progress_at}
use Rattle.mega_replica.proofs.Using.{used_here, used_then}
use Rattle.mega_step_parts.specs.Touching.{behind}
use Rattle.mega_rules.proofs.Left.{one_less}
use Rattle.mega_step_parts.proofs.Portions.{StoredSo, portion_bare, portion_is, stored_first, stored_next}
use Rattle.mega_step_parts.proofs.storing.store_portions.Goals as goal

pub loop-group-init : goal.loop-group-init
loop-group-init g c = record {
  count = search rules;
  all = λ met stored groups_are tells follows.
      subst (StoredSo (g.V.Versions.version c.args.rows.now.rows) (progress_at c.args.rows.now.progress) c.args.most met stored) (sym (c.into_iter-group-iterator.ensures.into_iter_gives.0 ∙ (c.into_vec-group-items.ensures ∙ (groups_are ∙ ap (λ t. behind t met stored) c.if-not-keeps.false))))
      (stored_first (g.V.Versions.version c.args.rows.now.rows) (progress_at c.args.rows.now.progress) c.args.most met stored follows);
  used = used_here g.V.Versions c.args.rows.now.rows;
}

pub loop-group-preserved : goal.loop-group-preserved
loop-group-preserved g c = record {
  count = one_less (into_iter_items c.loop-group.group-iterator) (into_iter_items c.next.new.self) c.in-Some.group (into_iter_len c.loop-group.group-iterator) (into_iter_len c.next.new.self) c.loop-group.invariant.count c.in-Some.ensures.steps.0 c.in-Some.ensures.steps.1;
  all = λ met stored groups_are tells follows.
      let old = c.loop-group.rows in
      let new = c.store_portion.new.rows in
      stored_next (g.V.Versions.version old.rows) (progress_at old.progress) (g.V.Versions.version new.rows) (progress_at new.progress) c.args.most met stored c.in-Some.group (into_iter_items c.next.new.self)
      (λ counts. c.in_ok-store_portion.ensures.follows met counts tells)
      (subst (StoredSo (g.V.Versions.version old.rows) (progress_at old.progress) c.args.most met stored) c.in-Some.ensures.steps.0 (c.loop-group.invariant.all met stored groups_are tells follows));
  used = used_then g.V.Versions None c.args.rows.now.rows c.loop-group.rows.rows c.store_portion.new.rows.rows c.loop-group.invariant.used c.store_portion.ensures.used;
}

pub returns-then-not-keeps-clause-follows : goal.returns-then-not-keeps-clause-follows
returns-then-not-keeps-clause-follows g c = λ s met stored rows bare apply groups_are tells follows.
    let version = g.V.Versions.version c.args.rows.now.rows in
    let progress = progress_at c.args.rows.now.progress in
    let none : c.args.keeps ≡ false = c.if-not-keeps.true in
    subst (λ (counts : GroupId → ℕ). Follows version progress (log_of met) counts)
    (λ i group. (bare none group ∙ sym (portion_bare s met stored group (sym rows ∙ none))) i) follows

pub returns-clause-follows : goal.returns-clause-follows
returns-clause-follows g c = λ s met stored rows bare apply groups_are tells follows.
    let there : c.args.keeps ≡ true = c.if-not-keeps.false in
    let none : into_iter_items c.loop-group.group-iterator ≡ [] = nil_from_length (into_iter_items c.loop-group.group-iterator) (sym c.loop-group.invariant.count ∙ c.in-None.ensures.steps.0) in
    let new = c.loop-group.rows in
    let version = g.V.Versions.version new.rows in
    let progress = progress_at new.progress in
    let so = subst (StoredSo version progress c.args.most met stored) none (c.loop-group.invariant.all met stored groups_are tells follows) in
    subst (λ (counts : GroupId → ℕ). Follows version progress (log_of met) counts) (λ i group. (so.each group ∙ portion_is s met stored c.args.most group (sym rows ∙ there) apply) i) so.follows
