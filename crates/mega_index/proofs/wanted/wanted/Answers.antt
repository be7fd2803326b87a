use Rattle.std.proofs.Common.{◌≡◌, ◌∙◌, ap, sym, subst, List, [], ◌∷◌, ℕ, true, false}
use Rattle.std.specs.Prelude.{Option, filter, nat_eq}
use Rattle.std.specs.List.{starts_with}
use Rattle.std.specs.Map.{lookup}
use Rattle.mega_index.specs.declared.hints.Place.{Place}
use Rattle.mega_row_writes.specs.Rows.{same_key}
use Rattle.mega_index.specs.Hints.{is_among}
use Rattle.mega_index.specs.Wanted.{begins}
use Rattle.mega_index.proofs.Ordered.{Ascends, ascends-sorted}
use Rattle.mega_index.proofs.Wanting.{After, Left, LeftWants, ascends-filter, after-filter, from_front, from_start, stops, ends}
use Rattle.mega_index.proofs.wanted.wanted.Goals as goal

pub loop-entry-init : goal.loop-entry-init
loop-entry-init c =
    let front = c.args.front.now in
    let is = c.into_iter-entry-iterator.ensures.into_iter_gives in
    let same : filter (from_front front) c.args.hints.now.entries ≡ c.into_iter-entry-iterator.result = sym (is ∙ c.range-entry-items.ensures.between tt) in
    record {
      up = subst Ascends same (ascends-filter (from_front front) c.args.hints.now.entries (ascends-sorted c.args.hints.now.entries c.range-entry-items.ensures.ordered));
      after = subst (After front) same (after-filter front c.args.hints.now.entries);
      wants = λ entry group key among begin none. among;
    }

-- what is hinted is hinted from the front on
onward : (front entry g k : List ℕ) (all from : Left) → filter (from_front front) all ≡ from → begins front entry ≡ true
    → is_among g k (lookup (same_key entry) all) ≡ true → is_among g k (lookup (same_key entry) from) ≡ true
onward front entry g k all from same begin among =
    ap (λ (o : Option (List Place)). is_among g k o) (ap (lookup (same_key entry)) (sym same) ∙ from_start front entry all begin) ∙ among

pub returns : goal.returns
returns c = λ entry g k among begin.
    let front = c.args.front.now in
    let from = c.into_iter-entry-iterator.result in
    let same : filter (from_front front) c.args.hints.now.entries ≡ from = sym (c.into_iter-entry-iterator.ensures.into_iter_gives ∙ c.range-entry-items.ensures.between tt) in
    let left : LeftWants front from c.loop-entry.wanted [] = subst (LeftWants front from c.loop-entry.wanted) c.in-None.ensures.steps.0 c.loop-entry.invariant.wants in
    ends front from c.loop-entry.wanted left entry g k (onward front entry g k c.args.hints.now.entries from same begin among) begin

pub returns-then-not-starts_with : goal.returns-then-not-starts_with
returns-then-not-starts_with c = λ entry g k among begin.
    let front = c.args.front.now in
    let from = c.into_iter-entry-iterator.result in
    let same : filter (from_front front) c.args.hints.now.entries ≡ from = sym (c.into_iter-entry-iterator.ensures.into_iter_gives ∙ c.range-entry-items.ensures.between tt) in
    let e : List ℕ × List Place = (c.in-Some.entry.now, c.in-Some.places.now) in
    let step : c.loop-entry.entry-iterator ≡ e ∷ c.next.new.self = c.in-Some.ensures.steps in
    let stop : begins front e.0 ≡ false = sym (c.starts_with.ensures.value ∙ ap (λ k. starts_with nat_eq k c.as_slice-in-loop-entry.result.now) c.as_slice.ensures ∙ ap (λ f. starts_with nat_eq e.0 f) c.as_slice-in-loop-entry.ensures) ∙ c.if-not-starts_with.true in
    stops front from c.loop-entry.wanted e c.next.new.self (subst Ascends step c.loop-entry.invariant.up) (subst (After front) step c.loop-entry.invariant.after) stop
    (subst (LeftWants front from c.loop-entry.wanted) step c.loop-entry.invariant.wants) entry g k (onward front entry g k c.args.hints.now.entries from same begin among) begin
