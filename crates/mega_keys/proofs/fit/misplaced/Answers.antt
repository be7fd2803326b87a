use Rattle.std.proofs.Common.{◌++◌, ◌+◌, drop, sym, ap, ◌∙◌, cond, Some}
use Rattle.mega_keys.specs.Fit.{misplaced}
use Rattle.mega_keys.proofs.Places.{drop_at, no_place, a_place, value_at, none_left}
use Rattle.mega_keys.proofs.fit.misplaced.Goals as goal

-- the value is of another kind than its place
pub returns-in_default : goal.returns-in_default
returns-in_default c =
    let ks = c.args.root.now ++ c.args.rest.now in
    let vs = c.args.values.now in
    let i = c.loop-place.place in
    let here = a_place _ _ _ _ _ _ i (drop_at ks i c.in-Some.kind (sym c.kind_at.ensures ∙ c.in-Some.is)) (value_at vs i c.index-values-place.result c.loop-place-test.true c.index-values-place.is) in
    sym (sym c.loop-place.invariant ∙ here ∙ ap (λ b. cond b (misplaced (drop (i + 1) ks) (drop (i + 1) vs) (i + 1)) (Some i)) (sym c.has_kind.ensures ∙ c.if-has_kind.false))

-- there is no place for the value
pub returns-in_default-2 : goal.returns-in_default-2
returns-in_default-2 c =
    let ks = c.args.root.now ++ c.args.rest.now in
    let vs = c.args.values.now in
    let i = c.loop-place.place in
    sym (sym c.loop-place.invariant ∙ no_place _ _ _ _ i (none_left ks i (sym c.kind_at.ensures ∙ c.in_default.is)) (value_at vs i c.index-values-place.result c.loop-place-test.true c.index-values-place.is))

pub loop-place-preserved : goal.loop-place-preserved
loop-place-preserved c =
    let ks = c.args.root.now ++ c.args.rest.now in
    let vs = c.args.values.now in
    let i = c.loop-place.place in
    let here = a_place _ _ _ _ _ _ i (drop_at ks i c.in-Some.kind (sym c.kind_at.ensures ∙ c.in-Some.is)) (value_at vs i c.index-values-place.result c.loop-place-test.true c.index-values-place.is) in
    sym (ap (λ b. cond b (misplaced (drop (i + 1) ks) (drop (i + 1) vs) (i + 1)) (Some i)) (sym c.has_kind.ensures ∙ c.if-has_kind.true)) ∙ sym here ∙ c.loop-place.invariant
