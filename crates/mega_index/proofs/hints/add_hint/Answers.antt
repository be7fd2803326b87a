use Rattle.std.proofs.Common.{◌∙◌, ap, sym, cond, Some}
use Rattle.std.specs.Prelude.{is_some}
use Rattle.std.specs.BTreeMap.{get}
use Rattle.mega_row_writes.specs.Rows.{key_cmp, same_key}
use Rattle.mega_index.specs.Hints.{Hints}
use Rattle.mega_index.proofs.Hinting.{hint_kept, hint_new}
use Rattle.mega_index.proofs.hints.add_hint.Goals as goal

pub returns-in-Some-clause-kept : goal.returns-in-Some-clause-kept
returns-in-Some-clause-kept c =
    let there = c.in-Some.ensures.value in
    hint_kept c.args.hints.now (c.get_mut.follows.lender c.add_place.new.places) c.args.entry c.in-Some.places.now c.add_place.new.places (sym there)
    ((c.get_mut.follows.holds c.add_place.new.places).3 (ap is_some (sym there))).0
    c.add_place.ensures.kept

pub returns-in_ok-insert-in-None-clause-kept : goal.returns-in_ok-insert-in-None-clause-kept
returns-in_ok-insert-in-None-clause-kept c =
    let same = c.get_mut.follows.holds-at-none in
    hint_new c.args.hints.now c.insert.new.self c.args.entry c.in_ok-places-in-None.places (sym c.in-None.ensures.value)
    (λ q. c.in_ok-insert-in-None.ensures.updates.0 q ∙ ap (λ (m : Hints). cond (same_key c.args.entry q) (Some c.in_ok-places-in-None.places) (get key_cmp m q)) same)
